-- The rows of a record: what each entry adds to them, and that none is refused.
use Rattle.std.proofs.Common.{◌≡◌, ◌≤◌, ◌<◌, ℕ, zero, suc, ◌+◌, ◌-◌, ◌==◌, Bool, true, false, cond, List, [], ◌∷◌, ◌++◌, length, take, nat_le, Option, Some, None, refl, sym, ap, ap₂, subst, ◌∙◌, ◌⊎◌, inl, inr, arith, append-nil}
use Rattle.std.specs.Prelude.{slice_get}
use Rattle.std.specs.Option.{option_and_then}
use Rattle.std.specs.List.{AllByRecursion, cons_option}
use Rattle.std.proofs.lemmas.Bool.{leb-true, lt-leb, ne_eqb, and_parts}
use Rattle.std.proofs.lemmas.List.{take_all, length-take-le}
use Rattle.std.proofs.lemmas.Option.{none-some, same_Some}
use Rattle.bandwidth.specs.declared.open_call.OpenCall.{OpenCall}
use Rattle.bandwidth.proofs.CallLemmas.{Ascend}
use Rattle.call_rows.specs.declared.rows.CallEvent.{CallEvent}
use Rattle.call_rows.specs.declared.snapshots.PushFault.{PushFault}
use Rattle.call_rows.specs.declared.snapshots.PushFault.TheVariants as faults
use Rattle.call_rows.specs.Rows.{RowParts, SnapshotParts, is_row}
use Rattle.call_rows.specs.OpenCalls.{Open, opens_after, seen_after, opens_from, opens_of}
use Rattle.call_rows.specs.Pushing.{most_rows, most_open, number_in, last_number, event_fault, push_fault}
use Rattle.rulings.specs.declared.limits.Limits.{Limits}
use Rattle.rulings.specs.State.{State, MachineParts, opening_of}
use Rattle.rulings.specs.Founded.{IsUnder}
use Rattle.rulings.specs.Limits.{is_limit, are_limits}
use Rattle.gk_terms.specs.declared.limits.TheConstants.{MOST_CALLS, MOST_RECORDS}
use Rattle.admission.specs.HistoryLaws.{IsSound}
use Rattle.admission.specs.PastCore.{IsBounded}
use Rattle.rulings.specs.Ruling.{ruling_of}
use Rattle.rulings.specs.Events.{PlainEvent}
use Rattle.rulings.specs.Step.{state_after, step}
use Rattle.entry_bytes.specs.Entry.{PlainEntry}
use Rattle.decision_record.specs.History.{entry_of, entry_of_number, IsLegal, replay}
use Rattle.decision_record.specs.Rows.{call_event, row_of, entry_row, row_in, rows_from, rows_of}
use Rattle.admission.proofs.FoundedLemmas.{founded}
use Rattle.admission.proofs.OrderLemmas.{step_ascends, replay_ascends}
use Rattle.admission.proofs.StepLemmas.{step_limits, step_not_refused, step_state}
use Rattle.admission.proofs.ToldRowLemmas.{tells, said_by}
use Rattle.admission.proofs.RowStepLemmas.{AreOpen, Passes, effect_passes}

-- ---- rows, one entry after another
cons_onto : {X : Type 0} (o : Option X) (xs ys : List X)
    → cons_option o (xs ++ ys) ≡ cons_option o xs ++ ys
cons_onto None xs ys = refl
cons_onto (Some x) xs ys = refl

-- one entry more
rows_snoc : (s : State) (number : ℕ) (entries : List PlainEntry) (place next : ℕ) (e : PlainEntry)
    → slice_get entries place ≡ Some e → next ≡ number + place
    → rows_from s number (take (suc place) entries)
    ≡ rows_from s number (take place entries) ++ cons_option (entry_row next e) []
rows_snoc s number [] place next e there is = absurd (none-some e there)
rows_snoc s number (x ∷ xs) zero next e there is =
    ap₂ (λ n y. cons_option (entry_row n y) []) (sym (is ∙ omega arith)) (same_Some x e there)
rows_snoc s number (x ∷ xs) (suc place) next e there is =
    ap (cons_option (row_in s number x))
    (rows_snoc (step s x.event).state (number + 1) xs place next e there (is ∙ omega arith))
    ∙ cons_onto (row_in s number x) _ _

-- the row of a number is that of the entry at its place
row_there : (entries : List PlainEntry) (place number : ℕ) → number ≡ place + 1
    → entry_of_number entries number ≡ slice_get entries place
row_there entries place number is =
    ap (λ t. cond t None (slice_get entries (number - 1)))
    (ne_eqb number 0 (λ e. let never : ⊥ = omega (arith, is, e) in never))
    ∙ ap (slice_get entries) (omega (arith, is))

-- the entry at a place
record IsThere (entries : List PlainEntry) (place : ℕ) : Type 0 where
  entry : PlainEntry
  there : slice_get entries place ≡ Some entry

there_within : (entries : List PlainEntry) (place : ℕ) → place < length entries
    → IsThere entries place
there_within [] place within = let never : ⊥ = omega (arith, within) in absurd never
there_within (x ∷ xs) zero within = record { entry = x; there = refl }
there_within (x ∷ xs) (suc place) within =
    let rest = there_within xs place (omega (arith, within)) in
    record { entry = rest.entry; there = rest.there }

module _ (s : State) (entries : List PlainEntry) (place number : ℕ) (is : number ≡ place + 1)
    (within : place < length entries) (o : Option RowParts)
    (row_is : o ≡ option_and_then (entry_row number) (entry_of_number entries number)) where
  abbrev at_place : IsThere entries place
  at_place = there_within entries place within

  its_row : o ≡ entry_row number at_place.entry
  its_row =
      row_is
      ∙ ap (option_and_then (entry_row number))
      (row_there entries place number is ∙ at_place.there)

  -- the rows with this entry
  pub rows_next : rows_of s (take (place + 1) entries)
      ≡ rows_of s (take place entries) ++ cons_option o []
  rows_next =
      let next : place + 1 ≡ suc place = omega arith in
      ap (λ n. rows_of s (take n entries)) next
      ∙ rows_snoc s 1 entries place number at_place.entry at_place.there (is ∙ omega arith)
      ∙ ap (λ r. rows_of s (take place entries) ++ cons_option r []) (sym its_row)

-- all of them
pub rows_whole : (s : State) (entries : List PlainEntry) (place : ℕ) → length entries ≤ place
    → rows_of s (take place entries) ≡ rows_of s entries
rows_whole s entries place whole = ap (rows_of s) (take_all place entries whole)

-- ---- their numbers
module _ (bound : ℕ) where
  abbrev AreBelow : List RowParts → Type 0
  AreBelow rows = AllByRecursion (λ (r : RowParts). r.number < bound) rows

  cons_below : (o : Option RowParts) (rows : List RowParts)
      → ((r : RowParts) → o ≡ Some r → r.number < bound) → AreBelow rows
      → AreBelow (cons_option o rows)
  cons_below None rows first rest = rest
  cons_below (Some r) rows first rest = (first r refl, rest)

  below_at : (rows : List RowParts) (place : ℕ) → AreBelow rows → 1 ≤ bound
      → number_in (slice_get rows place) < bound
  below_at [] place below some = omega (arith, some)
  below_at (r ∷ rows) zero below some = below.0
  below_at (r ∷ rows) (suc place) below some = below_at rows place below.1 some

-- a row has the number of its entry
has_number : (number : ℕ) (e : PlainEntry) (row : RowParts) → entry_row number e ≡ Some row
    → row.number ≡ number
has_number number e row h = by (call_event e) h
  where
    by : (said : Option CallEvent) → option_and_then (row_of number) said ≡ Some row
        → row.number ≡ number
    by None h = absurd (none-some row h)
    by (Some event) h = by_test (is_row (record { number = number; event = event })) h
      where
        by_test : (t : Bool)
            → cond t (Some (record { number = number; event = event })) None ≡ Some row
            → row.number ≡ number
        by_test true h = ap (λ (r : RowParts). r.number) (sym (same_Some _ row h))
        by_test false h = absurd (none-some row h)

all_below : (s : State) (number : ℕ) (entries : List PlainEntry) (bound : ℕ)
    → number + length entries ≤ bound → AreBelow bound (rows_from s number entries)
all_below s number [] bound within = tt
all_below s number (e ∷ es) bound within =
    cons_below bound (row_in s number e) _
    (λ r h. let its = has_number number e r h in omega (arith, its, within))
    (all_below (step s e.event).state (number + 1) es bound (omega (arith, within)))

length_cons : {X : Type 0} (o : Option X) (xs : List X) → length (cons_option o xs) ≤ length xs + 1
length_cons None xs = omega arith
length_cons (Some x) xs = omega arith

few_rows : (s : State) (number : ℕ) (entries : List PlainEntry)
    → length (rows_from s number entries) ≤ length entries
few_rows s number [] = omega arith
few_rows s number (e ∷ es) =
    let one = length_cons (row_in s number e) (rows_from (step s e.event).state (number + 1) es) in
    let rest = few_rows (step s e.event).state (number + 1) es in
    omega (arith, one, rest)

-- ---- the calls that they leave open
-- one entry more
step_passes : (opens : List Open) (seen number : ℕ) → (number == 0) ≡ false
    → (s : State) (event : PlainEvent) → (step s event).recorded ≡ true → Ascend s.calls
    → s.limits.calls ≤ most_open → AreOpen opens s.calls
    → Passes opens seen (row_in s number (entry_of s event)) (step s event).state.calls
unfolding state_after
step_passes opens seen number positive s event recorded order limited are =
    subst (λ (t : State). Passes opens seen (row_in s number (entry_of s event)) t.calls)
    (sym (step_state s event recorded))
    (effect_passes opens seen number positive s event (said_by event (ruling_of s event))
    (ruling_of s event).effect (tells s event)
    (founded s event (step_not_refused s event recorded)) order limited are)

-- a number from 1 on
positive_next : (number : ℕ) → (number + 1 == 0) ≡ false
positive_next number = ne_eqb (number + 1) 0 (λ e. let never : ⊥ = omega (arith, e) in never)

rows_leave : (opens : List Open) (seen number : ℕ) → (number == 0) ≡ false
    → (s : State) (entries : List PlainEntry) → IsLegal s entries → Ascend s.calls
    → s.limits.calls ≤ most_open → AreOpen opens s.calls
    → AreOpen (opens_from opens seen (rows_from s number entries)) (replay s entries).calls
rows_leave opens seen number positive s [] legal order limited are = are
rows_leave opens seen number positive s (e ∷ es) legal order limited are =
    by (row_in s number e)
    (subst (λ f. Passes opens seen (row_in s number f) next.calls) (sym legal.0)
    (step_passes opens seen number positive s e.event legal.1 order limited are))
    (λ more then. rows_leave more then (number + 1) (positive_next number) next es legal.2
    (step_ascends s e.event legal.1 order)
    (subst (λ n. n ≤ most_open) (sym (ap (λ (l : Limits). l.calls) (step_limits s e.event)))
    limited))
  where
    next : State
    next = (step s e.event).state

    by : (o : Option RowParts) → Passes opens seen o next.calls
        → ((more : List Open) (then : ℕ) → AreOpen more next.calls
        → AreOpen (opens_from more then (rows_from next (number + 1) es)) (replay next es).calls)
        → AreOpen (opens_from opens seen (cons_option o (rows_from next (number + 1) es)))
        (replay next es).calls
    by None passes rest = rest opens seen passes
    by (Some row) passes rest =
        rest (opens_after seen row.event opens) (seen_after seen row.event) passes.1

-- ---- no row is refused
-- the history before an entry, and the entry in the state that it leaves
record IsLegalAt (s : State) (entries : List PlainEntry) (place : ℕ) (e : PlainEntry)
    : Type 0 where
  before : IsLegal s (take place entries)
  entry_is : e ≡ entry_of (replay s (take place entries)) e.event
  recorded : (step (replay s (take place entries)) e.event).recorded ≡ true

legal_at : (s : State) (entries : List PlainEntry) (place : ℕ) (e : PlainEntry)
    → IsLegal s entries → slice_get entries place ≡ Some e → IsLegalAt s entries place e
legal_at s [] place e legal there = absurd (none-some e there)
legal_at s (x ∷ xs) zero e legal there =
    subst (IsLegalAt s (x ∷ xs) zero) (same_Some x e there)
    (record { before = tt; entry_is = legal.0; recorded = legal.1 })
legal_at s (x ∷ xs) (suc place) e legal there =
    let rest = legal_at (step s x.event).state xs place e legal.2 there in
    record {
      before = (legal.0, legal.1, rest.before);
      entry_is = rest.entry_is;
      recorded = rest.recorded;
    }

-- the limits along a history
replay_limits : (s : State) (entries : List PlainEntry) → (replay s entries).limits ≡ s.limits
replay_limits s [] = refl
replay_limits s (e ∷ es) = replay_limits (step s e.event).state es ∙ step_limits s e.event

-- what a row that passes has
passed : (opens : List Open) (seen : ℕ) (o : Option RowParts) (calls : List OpenCall)
    (row : RowParts)
    → Passes opens seen o calls → o ≡ Some row → event_fault opens row.event ≡ None
passed opens seen None calls row passes is = absurd (none-some row is)
passed opens seen (Some other) calls row passes is =
    subst (λ (r : RowParts). event_fault opens r.event ≡ None) (same_Some other row is) passes.0

module _ (s : State) (entries : List PlainEntry) (none_open : s.calls ≡ [])
    (legal : IsLegal s entries) (limited : s.limits.calls ≤ most_open)
    (few : length entries ≤ most_rows)
    (place number : ℕ) (is : number ≡ place + 1) (within : place < length entries)
    (row : RowParts)
    (row_is : Some row ≡ option_and_then (entry_row number) (entry_of_number entries number)) where
  abbrev rows_before : List RowParts
  rows_before = rows_of s (take place entries)

  abbrev at_entry : IsThere entries place
  at_entry = there_within entries place within

  abbrev e : PlainEntry
  e = at_entry.entry

  is_legal : IsLegalAt s entries place e
  is_legal = legal_at s entries place e legal at_entry.there

  row_of_entry : entry_row number e ≡ Some row
  row_of_entry = sym (its_row s entries place number is within (Some row) row_is)

  abbrev then : State
  then = replay s (take place entries)

  not_many : nat_le most_rows (length rows_before) ≡ false
  not_many =
      let fewer = few_rows s 1 (take place entries) in
      let long = length-take-le place entries (omega (arith, within)) in
      lt-leb most_rows (length rows_before) (omega (arith, fewer, long, few, within))

  in_order : nat_le row.number (last_number rows_before) ≡ false
  in_order =
      let long = length-take-le place entries (omega (arith, within)) in
      let its = has_number number e row row_of_entry in
      let below = below_at number rows_before (length rows_before - 1)
      (all_below s 1 (take place entries) number (omega (arith, long, is)))
      (omega (arith, is)) in
      lt-leb row.number (last_number rows_before) (omega (arith, its, below))

  positive : (number == 0) ≡ false
  positive = ne_eqb number 0 (λ same. let never : ⊥ = omega (arith, is, same) in never)

  in_row_order : Ascend s.calls
  in_row_order = subst Ascend (sym none_open) tt

  opens : AreOpen (opens_of rows_before) then.calls
  opens =
      rows_leave [] 0 1 refl s (take place entries) is_legal.before in_row_order limited
      (subst (AreOpen []) (sym none_open)
      (record { same = λ n other. refl; few = omega arith }))

  of_a_known_call : event_fault (opens_of rows_before) row.event ≡ None
  of_a_known_call =
      passed (opens_of rows_before) 0 (row_in then number (entry_of then e.event)) _ row
      (step_passes (opens_of rows_before) 0 number positive then e.event is_legal.recorded
      (replay_ascends s (take place entries) is_legal.before in_row_order)
      (subst (λ l. l ≤ most_open)
      (sym (ap (λ (l : Limits). l.calls) (replay_limits s (take place entries)))) limited)
      opens)
      (ap (row_in then number) (sym is_legal.entry_is) ∙ row_of_entry)

  pub none_is_refused : push_fault rows_before row ≡ None
  none_is_refused =
      ap (λ t. cond t (Some faults.TooMany)
      (cond (nat_le row.number (last_number rows_before)) (Some faults.OutOfOrder)
      (event_fault (opens_of rows_before) row.event))) not_many
      ∙ ap (λ t. cond t (Some faults.OutOfOrder)
      (event_fault (opens_of rows_before) row.event)) in_order
      ∙ of_a_known_call

-- ---- how many there may be
module _ (l : Limits) (good : are_limits l ≡ true) where
  few_limited_records : l.records ≤ most_rows
  few_limited_records =
      let this : is_limit MOST_RECORDS l.records ≡ true =
      (and_parts _ _ (and_parts _ _ good).0).1 in
      leb-true l.records MOST_RECORDS (and_parts _ _ this).1

  few_limited_calls : l.calls ≤ most_open
  few_limited_calls =
      let this : is_limit MOST_CALLS l.calls ≡ true =
      (and_parts _ _ (and_parts _ _ (and_parts _ _ good).0).0).1 in
      leb-true l.calls MOST_CALLS (and_parts _ _ this).1

pub bounded : (opening s : State) (entries : List PlainEntry) (machine : MachineParts)
    (limits : Limits)
    → opening ≡ opening_of opening.commands opening.limits
    → IsSound opening.commands opening.limits entries s
    → IsUnder machine s → limits ≡ machine.limits → are_limits limits ≡ true
    → IsBounded opening entries
bounded opening s entries machine limits begun sound under_is same good =
    let its : limits ≡ s.limits = same ∙ ap (λ (t : State). t.limits) under_is in
    let still : limits ≡ opening.limits = its ∙ sound.limits_are in
    let most = few_limited_records limits good in
    let own = ap (λ (l : Limits). l.records) its in
    let count = sound.records_are in
    let within = sound.within.records in
    record {
      none_open = ap (λ (t : State). t.calls) begun;
      few_calls = subst (λ (l : Limits). l.calls ≤ most_open) still (few_limited_calls limits good);
      few = omega (arith, most, own, count, within);
    }

-- ---- as they are put into a snapshot
module _ (s : State) (entries : List PlainEntry) (place number : ℕ) (is : number ≡ place + 1)
    (within : place < length entries) (old now : SnapshotParts)
    (so_far : now ≡ record old { rows = rows_of s (take place entries) }) where
  next_rows : (o : Option RowParts)
      → o ≡ option_and_then (entry_row number) (entry_of_number entries number)
      → record old { rows = rows_of s (take place entries) ++ cons_option o [] }
      ≡ record old { rows = rows_of s (take (place + 1) entries) }
  next_rows o row_is =
      ap (λ rows. record old { rows = rows })
      (sym (rows_next s entries place number is within o row_is))

  -- a row is put in
  pub row_put : (new : SnapshotParts) (row : RowParts)
      → Some row ≡ option_and_then (entry_row number) (entry_of_number entries number)
      → new ≡ record now { rows = now.rows ++ row ∷ [] }
      → new ≡ record old { rows = rows_of s (take (place + 1) entries) }
  row_put new row row_is put =
      put ∙ ap (λ (p : SnapshotParts). record p { rows = p.rows ++ row ∷ [] }) so_far
      ∙ next_rows (Some row) row_is

  -- there is none
  pub none_put : None ≡ option_and_then (entry_row number) (entry_of_number entries number)
      → now ≡ record old { rows = rows_of s (take (place + 1) entries) }
  none_put row_is =
      so_far
      ∙ ap (λ rows. record old { rows = rows })
      (sym (append-nil (rows_of s (take place entries))))
      ∙ next_rows None row_is

  -- memory ran out
  pub only_memory : IsLegal s entries → IsBounded s entries → (row : RowParts)
      → Some row ≡ option_and_then (entry_row number) (entry_of_number entries number)
      → (fault : PushFault)
      → (push_fault now.rows row ≡ Some fault)
      ⊎ ((fault ≡ faults.NoMemory) × (push_fault now.rows row ≡ None))
      → fault ≡ faults.NoMemory
  only_memory legal few row row_is fault (inr memory) = memory.0
  only_memory legal few row row_is fault (inl refused) =
      let unrefused = none_is_refused s entries few.none_open legal few.few_calls few.few place
      number is within row row_is in
      let before : push_fault now.rows row ≡ None =
      ap (λ (p : SnapshotParts). push_fault p.rows row) so_far ∙ unrefused in
      absurd (none-some fault (sym before ∙ refused))
