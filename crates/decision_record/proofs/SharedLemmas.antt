-- What the items of a record's log say of calls, if the reloads are not at hand.
use Rattle.std.proofs.Common.{◌≡◌, ℕ, ◌-◌, ◌==◌, Bool, true, false, List, [], ◌∷◌, slice_get, refl, sym, ap, subst, ◌∙◌}
use Rattle.std.specs.Prelude.{Option, Some, None, IfSome, if◌then◌else◌}
use Rattle.std.specs.Option.{option_and_then}
use Rattle.byte_log.specs.Parts.{LogParts}
use Rattle.field_bytes.specs.Fields.{◌>>=◌, number_in}
use Rattle.entry_bytes.specs.Entry.{PlainEntry}
use Rattle.entry_bytes.specs.EntryBytes.{entry_in}
use Rattle.decision_record.specs.History.{entry_of_number}
use Rattle.decision_record.specs.Items.{IsStored, MeansEntry, item_meant, reload_in}
use Rattle.decision_record.specs.Past.{HasRows, IsRightItem, item_row, numbered_row}
use Rattle.decision_record.specs.Reloads.{IsReload, ReloadsParts}
use Rattle.decision_record.specs.Rows.{entry_row}
use Rattle.decision_record.proofs.StoredLemmas.{items_counted, known_at, read_at}

-- a reload has no row
none_of_reload : (number : ℕ) (o : Option PlainEntry) → IfSome o IsReload
    → option_and_then (entry_row number) o ≡ None
none_of_reload number None is = refl
none_of_reload number (Some e) is = ap (entry_row number) is.2

module _ (log : LogParts) (reloads : ReloadsParts) (entries : List PlainEntry) (kept : ℕ)
    (stored : IsStored log reloads entries kept)
    (are : (place : ℕ) → IfSome (slice_get reloads.entries place) IsReload) where
  -- what is read as a reload is one
  reload_read : (bytes : List ℕ) → IfSome (reload_in reloads.entries bytes) IsReload
  reload_read bytes = by (number_in bytes)
    where
      by : (read : Option (ℕ × List ℕ))
          → IfSome (read >>= λ place. slice_get reloads.entries place.0) IsReload
      by None = tt
      by (Some place) = are place.0

  -- an item has the row of the entry that it means
  row_meant : (number : ℕ) (bytes : List ℕ)
      → item_row number bytes
      ≡ option_and_then (entry_row number) (item_meant reloads.entries bytes)
  row_meant number [] = refl
  row_meant number (first ∷ rest) = by (first == 255)
    where
      by : (t : Bool)
          → (if t then None else option_and_then (entry_row number) (entry_in (first ∷ rest)))
          ≡ option_and_then (entry_row number)
          (if t then reload_in reloads.entries rest else entry_in (first ∷ rest))
      by true = sym (none_of_reload number (reload_in reloads.entries rest) (reload_read rest))
      by false = refl

  rows_alike : (number : ℕ) (o : Option (List ℕ))
      → option_and_then (item_row number) o
      ≡ option_and_then (entry_row number) (option_and_then (item_meant reloads.entries) o)
  rows_alike number None = refl
  rows_alike number (Some item) = row_meant number item

  -- one that means an entry is right
  right_item : (bytes : List ℕ) → MeansEntry (item_meant reloads.entries bytes)
      → IsRightItem bytes
  right_item [] means = tt
  right_item (first ∷ rest) means =
      λ other. subst (λ (t : Bool). MeansEntry
      (if t then reload_in reloads.entries rest else entry_in (first ∷ rest))) other means

  all_right : (o : Option (List ℕ))
      → IfSome o (λ item. MeansEntry (item_meant reloads.entries item)) → IfSome o IsRightItem
  all_right None means = tt
  all_right (Some item) means = right_item item means

  row_shared : (number : ℕ) → numbered_row log.items number
      ≡ option_and_then (entry_row number) (entry_of_number entries number)
  row_shared number = by (number == 0)
    where
      by : (t : Bool)
          → (if t then None else option_and_then (item_row number)
          (slice_get log.items (number - 1)))
          ≡ option_and_then (entry_row number)
          (if t then None else slice_get entries (number - 1))
      by true = refl
      by false =
          rows_alike number (slice_get log.items (number - 1))
          ∙ ap (option_and_then (entry_row number))
          (read_at log reloads entries kept stored (number - 1))

  -- the log has the rows of the entries
  pub rows_shared : HasRows log.items entries
  rows_shared = record {
    counted = items_counted log reloads entries kept stored;
    right = λ place. all_right (slice_get log.items place)
        (known_at log reloads entries kept stored place);
    rows = row_shared;
  }
