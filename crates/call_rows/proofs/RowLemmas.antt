-- How many admissions and moves rows have, and rows that may follow others.
use Rattle.std.proofs.Common.{◌≡◌, ◌≤◌, ◌<◌, ◌+◌, ◌++◌, ℕ, true, false, suc, List, [], ◌∷◌, Option, Some, None, length, refl, ap, sym, subst, append_assoc, length-append, arith}
use Rattle.std.specs.Prelude.{nat_le}
use Rattle.std.specs.List.{cons_option}
use Rattle.std.specs.Prelude.{◌⊎◌}
use Rattle.std.proofs.Common.{inl, inr, tests}
use Rattle.std.proofs.lemmas.Bool.{cases_Bool}
use Rattle.std.proofs.lemmas.List.{append-nil}
use Rattle.call_rows.specs.declared.rows.CallEvent.{CallEvent}
use Rattle.call_rows.specs.declared.rows.CallEvent.TheVariants.{Admitted, Answered, Changed, Released}
use Rattle.call_rows.specs.declared.rows.NumberedAdmission.{NumberedAdmission}
use Rattle.call_rows.specs.Moves.{moves_from}
use Rattle.call_rows.specs.OpenCalls.{Open, opens_after, opens_of, seen_after}
use Rattle.call_rows.specs.Pushing.{MayFollow, event_fault, last_number, push_fault}
use Rattle.call_rows.specs.Rows.{RowParts, admission_by, admission_in, admissions_of}
use Rattle.call_rows.proofs.OpenLemmas.{seen_from}

-- ---- admissions
-- those of one row more
pub admissions_more : (rows : List RowParts) (r : RowParts)
    → admissions_of (rows ++ r ∷ []) ≡ admissions_of rows ++ cons_option (admission_in r) []
admissions_more [] r = by (admission_in r)
  where
    by : (o : Option NumberedAdmission) → cons_option o [] ≡ [] ++ cons_option o []
    by None = refl
    by (Some a) = refl
admissions_more (x ∷ rows) r = by (admission_in x) (admissions_more rows r)
  where
    by : (o : Option NumberedAdmission)
        → admissions_of (rows ++ r ∷ [])
        ≡ admissions_of rows ++ cons_option (admission_in r) []
        → cons_option o (admissions_of (rows ++ r ∷ []))
        ≡ cons_option o (admissions_of rows) ++ cons_option (admission_in r) []
    by None rest = rest
    by (Some a) rest = ap (λ others. a ∷ others) rest

-- they are as many as were counted
seen_is : (seen : ℕ) (rows : List RowParts)
    → seen_from seen rows ≡ seen + length (admissions_of rows)
seen_is seen [] = omega arith
seen_is seen (r ∷ rs) = by r.event (seen_is (seen_after seen r.event) rs)
  where
    by : (e : CallEvent)
        → seen_from (seen_after seen e) rs
        ≡ seen_after seen e + length (admissions_of rs)
        → seen_from (seen_after seen e) rs
        ≡ seen + length (cons_option (admission_by r.number e) (admissions_of rs))
    by (Admitted a) rest = omega (arith, rest)
    by (Answered a) rest = omega (arith, rest)
    by (Changed call units) rest = rest
    by (Released call) rest = rest

pub seen_all : (rows : List RowParts) → seen_from 0 rows ≡ length (admissions_of rows)
seen_all rows = let all = seen_is 0 rows in omega (arith, all)

-- no more than rows
pub few_admissions : (rows : List RowParts) → length (admissions_of rows) ≤ length rows
few_admissions [] = omega arith
few_admissions (r ∷ rs) = by (admission_in r) (few_admissions rs)
  where
    by : (o : Option NumberedAdmission) → length (admissions_of rs) ≤ length rs
        → length (cons_option o (admissions_of rs)) ≤ length (r ∷ rs)
    by None rest = omega (arith, rest)
    by (Some a) rest = omega (arith, rest)

-- ---- moves: one for each row
count_moves : (opens : List Open) (seen : ℕ) (rows : List RowParts)
    → length (moves_from opens seen rows) ≡ length rows
count_moves opens seen [] = refl
count_moves opens seen (r ∷ rs) =
    ap suc (count_moves (opens_after seen r.event opens) (seen_after seen r.event) rs)

pub moves_counted : (rows : List RowParts) → length (moves_from [] 0 rows) ≡ length rows
moves_counted rows = count_moves [] 0 rows

-- ---- rows that may follow others
pub may_follow_more : (before rows : List RowParts) (r : RowParts) → MayFollow before rows
    → push_fault (before ++ rows) r ≡ None → MayFollow before (rows ++ r ∷ [])
may_follow_more before [] r h own =
    (subst (λ front. push_fault front r ≡ None) (append-nil before) own, tt)
may_follow_more before (x ∷ rows) r h own = (
  h.0,
  may_follow_more (before ++ x ∷ []) rows r h.1
      (subst (λ front. push_fault front r ≡ None) (sym (append_assoc before (x ∷ []) rows)) own),
)

-- there are no more than 1,000,000
few_if : (rows : List RowParts) (r : RowParts) → push_fault rows r ≡ None
    → length rows < 1000000
few_if rows r h = by (cases_Bool (nat_le 1000000 (length rows))) h
  where
    by : ((nat_le 1000000 (length rows)) ≡ true) ⊎ ((nat_le 1000000 (length rows)) ≡ false)
        → push_fault rows r ≡ None → length rows < 1000000
    by (inl full) h = let impossible : ⊥ = cc (rw full at h) in absurd impossible
    by (inr room) h = grind (arith, room)

few_after : (before rows : List RowParts) → length before ≤ 1000000 → MayFollow before rows
    → length (before ++ rows) ≤ 1000000
few_after before [] few h = subst (λ xs. length xs ≤ 1000000) (sym (append-nil before)) few
few_after before (x ∷ rows) few h =
    let less = few_if before x h.0 in
    let one = length-append before (x ∷ []) in
    subst (λ xs. length xs ≤ 1000000) (append_assoc before (x ∷ []) rows)
    (few_after (before ++ x ∷ []) rows (omega (arith, less, one)) h.1)

pub few_rows : (rows : List RowParts) → MayFollow [] rows → length rows ≤ 1000000
few_rows rows h = few_after [] rows (omega arith) h

-- a row that is not refused by its event
pub no_fault : (rows : List RowParts) (r : RowParts) → length rows < 1000000
    → last_number rows < r.number → event_fault (opens_of rows) r.event ≡ None
    → push_fault rows r ≡ None
no_fault rows r room later h =
    let few : nat_le 1000000 (length rows) ≡ false = search (arith, tests) in
    let after : nat_le r.number (last_number rows) ≡ false = search (arith, tests) in
    rw (few, after) h
