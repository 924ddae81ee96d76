-- The entries of a record, as one more is stored.
use Rattle.std.proofs.Common.{◌≡◌, ℕ, zero, suc, ◌-◌, ◌≤◌, ◌<◌, ◌^◌, List, [], ◌∷◌, ◌++◌, length, map, length-append, slice_get, sym, ap, ap₂, subst, ◌∙◌, arith}
use Rattle.std.specs.Prelude.{Option, Some, IfSome}
use Rattle.std.specs.Option.{option_and_then}
use Rattle.std.specs.List.{AllByRecursion}
use Rattle.byte_log.specs.Parts.{LogParts}
use Rattle.entry_bytes.specs.Entry.{PlainEntry}
use Rattle.entry_bytes.specs.EntryBytes.{entry_in}
use Rattle.entry_bytes.specs.ReadEvent.{HasRightEndpoint}
use Rattle.decision_record.specs.Items.{entries_told, item_meant, reload_item, IsStored, MeansEntry}
use Rattle.decision_record.specs.Reloads.{ReloadsParts}
use Rattle.decision_record.proofs.ItemLemmas.{entry_meant, reload_meant, with_reloads}
use Rattle.decision_record.proofs.ToldLemmas.{next_is, one_more, all_told, as_many, told_at}

-- one more has the property
all_more : {X : Type 0} (P : X → Type 0) (xs : List X) (x : X) → AllByRecursion P xs → P x
    → AllByRecursion P (xs ++ x ∷ [])
all_more P [] x all is = (is, tt)
all_more P (y ∷ ys) x all is = (all.0, all_more P ys x all.1 is)

-- each has it
all_at : {X : Type 0} (P : X → Type 0) (xs : List X) → AllByRecursion P xs → (place : ℕ)
    → IfSome (slice_get xs place) P
all_at P [] all place = tt
all_at P (x ∷ xs) all zero = all.0
all_at P (x ∷ xs) all (suc place) = all_at P xs all.1 place

-- each item means an entry, of which all is right
known_items : (meaning : List ℕ → Option PlainEntry) (items : List (List ℕ))
    (entries : List PlainEntry) → map meaning items ≡ map Some entries
    → AllByRecursion (λ (e : PlainEntry). HasRightEndpoint e.event) entries → (place : ℕ)
    → IfSome (slice_get items place) (λ item. MeansEntry (meaning item))
known_items meaning [] entries meant right place = tt
known_items meaning (item ∷ items) [] meant right place =
    let impossible : ⊥ = cc in absurd impossible
known_items meaning (item ∷ items) (e ∷ entries) meant right zero =
    let first : Some e ≡ meaning item = cc in subst MeansEntry first right.0
known_items meaning (item ∷ items) (e ∷ entries) meant right (suc place) =
    let rest : map meaning items ≡ map Some entries = cc in
    known_items meaning items entries rest right.1 place

-- its endpoint is whole
abbrev right_event : PlainEntry → Type 0
right_event e = HasRightEndpoint e.event

module _ (log : LogParts) (reloads : ReloadsParts) (entries : List PlainEntry) (kept : ℕ)
    (stored : IsStored log reloads entries kept) where
  -- ---- one entry more
  -- that is written
  pub entry_stored : (item : List ℕ) (e : PlainEntry) (new : LogParts)
      → entry_in item ≡ Some e → HasRightEndpoint e.event → new.items ≡ log.items ++ item ∷ []
      → kept - 1 ≤ new.room
      → IsStored new reloads (entries ++ e ∷ []) (kept - 1)
  entry_stored item e new is right put room =
      let meaning = item_meant reloads.entries in
      let more = length-append entries (e ∷ []) in
      record {
        meant =
            ap (map meaning) put
            ∙ one_more meaning meaning (λ _ _ h. h) log.items entries item e stored.meant
            (entry_meant reloads.entries item e is);
        right = all_more right_event entries e stored.right right;
        few_reloads = omega (arith, more, stored.few_reloads);
        room = room;
        room_reloads = omega (arith, stored.room_reloads);
      }

  -- of a reload
  pub reload_stored : (place : ℕ) (e : PlainEntry) (new : LogParts) (wider : ReloadsParts)
      → place ≡ length reloads.entries → place < 2 ^ 32 → HasRightEndpoint e.event
      → new.items ≡ log.items ++ reload_item place ∷ []
      → wider.entries ≡ reloads.entries ++ e ∷ [] → kept - 1 ≤ new.room → kept - 1 ≤ wider.room
      → IsStored new wider (entries ++ e ∷ []) (kept - 1)
  reload_stored place e new wider at small right put longer room room_reloads =
      let more = length-append entries (e ∷ []) in
      record {
        meant =
            ap₂ (λ (rs : List PlainEntry) (items : List (List ℕ)). map (item_meant rs) items)
            longer put
            ∙ one_more (item_meant reloads.entries) (item_meant (reloads.entries ++ e ∷ []))
            (with_reloads reloads.entries (e ∷ [])) log.items entries (reload_item place) e
            stored.meant
            (reload_meant (reloads.entries ++ e ∷ []) place small
            ∙ next_is reloads.entries e place at);
        right = all_more right_event entries e stored.right right;
        few_reloads =
            omega (
              arith,
              ap length longer,
              length-append reloads.entries (e ∷ []),
              more,
              stored.few_reloads,
            );
        room = room;
        room_reloads = room_reloads;
      }

  -- ---- the entries that are told
  pub told_are : entries_told log reloads ≡ entries
  told_are = all_told (item_meant reloads.entries) log.items entries stored.meant

  pub stored_told : IsStored log reloads (entries_told log reloads) kept
  stored_told = subst (λ es. IsStored log reloads es kept) (sym told_are) stored

  -- one item for each
  pub items_counted : length log.items ≡ length entries
  items_counted = as_many (item_meant reloads.entries) log.items entries stored.meant

  -- ---- the entry at a place
  pub read_at : (place : ℕ)
      → option_and_then (item_meant reloads.entries) (slice_get log.items place)
      ≡ slice_get entries place
  read_at place = told_at (item_meant reloads.entries) log.items entries stored.meant place

  pub known_at : (place : ℕ)
      → IfSome (slice_get log.items place) (λ item. MeansEntry (item_meant reloads.entries item))
  known_at place =
      known_items (item_meant reloads.entries) log.items entries stored.meant stored.right place

  pub right_at : (place : ℕ)
      → IfSome (option_and_then (item_meant reloads.entries) (slice_get log.items place))
      (λ e. HasRightEndpoint e.event)
  right_at place =
      subst (λ o. IfSome o (λ (e : PlainEntry). HasRightEndpoint e.event)) (sym (read_at place))
      (all_at right_event entries stored.right place)
