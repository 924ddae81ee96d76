-- One row more, and what the look-up of an open call then gives.
use Rattle.std.proofs.Common.{◌≡◌, ◌+◌, ◌++◌, ◌==◌, ℕ, Bool, true, false, List, [], ◌∷◌, Option, Some, None, length, refl, suc, ap, sym, subst, ◌∙◌, arith}
use Rattle.std.specs.Prelude.{if◌then◌else◌, option_map, ◌⊎◌}
use Rattle.std.proofs.Common.{inl, inr}
use Rattle.std.proofs.lemmas.Bool.{and_parts, eqb-true, cases_Bool}
use Rattle.std.specs.Prelude.{is_none}
use Rattle.call_rows.specs.OpenCalls.{Open, open_of, opens_after, opens_from, seen_after, with_units, without}
use Rattle.call_rows.specs.Moves.{move_of, moves_from}
use Rattle.call_rows.specs.Rows.{RowParts}
use Rattle.call_rows.specs.SnapshotIndex.{are_different}

-- how many admissions came by the end of rows, if this many came before
abbrev pub seen_from : ℕ → List RowParts → ℕ
seen_from seen [] = seen
seen_from seen (r ∷ rs) = seen_from (seen_after seen r.event) rs

-- no two open calls have one number
abbrev pub AreDifferent : List Open → Type 0
AreDifferent [] = Unit {0}
AreDifferent (o ∷ os) = (open_of o.call os ≡ None) × AreDifferent os

pub opens_more : (opens : List Open) (seen : ℕ) (rows : List RowParts) (r : RowParts)
    → opens_from opens seen (rows ++ r ∷ [])
    ≡ opens_after (seen_from seen rows) r.event (opens_from opens seen rows)
opens_more opens seen [] r = refl
opens_more opens seen (x ∷ rows) r =
    opens_more (opens_after seen x.event opens) (seen_after seen x.event) rows r

pub moves_more : (opens : List Open) (seen : ℕ) (rows : List RowParts) (r : RowParts)
    → moves_from opens seen (rows ++ r ∷ [])
    ≡ moves_from opens seen rows ++ move_of (seen_from seen rows)
    (opens_from opens seen rows) r.event ∷ []
moves_more opens seen [] r = refl
moves_more opens seen (x ∷ rows) r =
    ap (λ ms. move_of seen opens x.event ∷ ms)
    (moves_more (opens_after seen x.event opens) (seen_after seen x.event) rows r)

-- ---- look-ups
pub open_with : (call units other : ℕ) (opens : List Open)
    → open_of other (with_units call units opens)
    ≡ (if call == other then option_map (λ (o : Open). record o { units = units })
    (open_of other opens) else open_of other opens)
open_with call units other [] = by (call == other)
  where
    by : (b : Bool) → open_of other []
        ≡ (if b then option_map (λ (o : Open). record o { units = units })
        (open_of other []) else open_of other [])
    by true = refl
    by false = refl
open_with call units other (o ∷ os) =
    by (cases_Bool (o.call == call)) (cases_Bool (o.call == other)) (cases_Bool (call == other))
    (open_with call units other os)
  where
    by : ((o.call == call) ≡ true) ⊎ ((o.call == call) ≡ false)
        → ((o.call == other) ≡ true) ⊎ ((o.call == other) ≡ false)
        → ((call == other) ≡ true) ⊎ ((call == other) ≡ false)
        → open_of other (with_units call units os)
        ≡ (if call == other then option_map (λ (o : Open). record o { units = units })
        (open_of other os) else open_of other os)
        → open_of other (with_units call units (o ∷ os))
        ≡ (if call == other then option_map (λ (o : Open). record o { units = units })
        (open_of other (o ∷ os)) else open_of other (o ∷ os))
    by (inl a) (inl b) (inl c) rest = rw (a, b, c) refl
    by (inl a) (inl b) (inr c) rest =
        let impossible : ⊥ = grind (arith, a, b, c) in absurd impossible
    by (inl a) (inr b) (inl c) rest =
        let impossible : ⊥ = grind (arith, a, b, c) in absurd impossible
    by (inl a) (inr b) (inr c) rest = rw (a, b, c) refl
    by (inr a) (inl b) (inl c) rest =
        let impossible : ⊥ = grind (arith, a, b, c) in absurd impossible
    by (inr a) (inl b) (inr c) rest = rw (a, b, c) refl
    by (inr a) (inr b) (inl c) rest = rw (a, b, c) (rw c at rest)
    by (inr a) (inr b) (inr c) rest = rw (a, b, c) (rw c at rest)

pub open_without_other : (call other : ℕ) (opens : List Open) → (call == other) ≡ false
    → open_of other (without call opens) ≡ open_of other opens
open_without_other call other [] n = refl
open_without_other call other (o ∷ os) n =
    by (cases_Bool (o.call == call)) (cases_Bool (o.call == other))
    (open_without_other call other os n)
  where
    by : ((o.call == call) ≡ true) ⊎ ((o.call == call) ≡ false)
        → ((o.call == other) ≡ true) ⊎ ((o.call == other) ≡ false)
        → open_of other (without call os) ≡ open_of other os
        → open_of other (without call (o ∷ os)) ≡ open_of other (o ∷ os)
    by (inl a) (inl b) rest = let impossible : ⊥ = grind (arith, a, b, n) in absurd impossible
    by (inl a) (inr b) rest = rw (a, b) refl
    by (inr a) (inl b) rest = rw (a, b) refl
    by (inr a) (inr b) rest = rw (a, b) rest

pub open_without_same : (call : ℕ) (opens : List Open) → AreDifferent opens
    → open_of call (without call opens) ≡ None
open_without_same call [] h = refl
open_without_same call (o ∷ os) h = by (cases_Bool (o.call == call)) (open_without_same call os h.1)
  where
    by : ((o.call == call) ≡ true) ⊎ ((o.call == call) ≡ false)
        → open_of call (without call os) ≡ None
        → open_of call (without call (o ∷ os)) ≡ None
    by (inl a) rest = rw a (subst (λ n. open_of n os ≡ None) (eqb-true o.call call a) h.0)
    by (inr a) rest = rw a (rw a rest)

none_without : (call other : ℕ) (opens : List Open) → open_of other opens ≡ None
    → open_of other (without call opens) ≡ None
none_without call other [] h = refl
none_without call other (o ∷ os) h =
    by (cases_Bool (o.call == call)) (cases_Bool (o.call == other)) h (none_without call other os)
  where
    by : ((o.call == call) ≡ true) ⊎ ((o.call == call) ≡ false)
        → ((o.call == other) ≡ true) ⊎ ((o.call == other) ≡ false)
        → open_of other (o ∷ os) ≡ None
        → (open_of other os ≡ None → open_of other (without call os) ≡ None)
        → open_of other (without call (o ∷ os)) ≡ None
    by (inl a) (inl b) h rest = let impossible : ⊥ = cc (rw b at h) in absurd impossible
    by (inr a) (inl b) h rest = let impossible : ⊥ = cc (rw b at h) in absurd impossible
    by (inl a) (inr b) h rest = rw a (rw b at h)
    by (inr a) (inr b) h rest = rw (a, b) (rest (rw b at h))

pub different_without : (call : ℕ) (opens : List Open) → AreDifferent opens
    → AreDifferent (without call opens)
different_without call [] h = tt
different_without call (o ∷ os) h = by (o.call == call) (different_without call os h.1)
  where
    by : (b : Bool) → AreDifferent (without call os)
        → AreDifferent (if b then os else o ∷ without call os)
    by true rest = h.1
    by false rest = (none_without call o.call os h.0, rest)

pub different_with : (call units : ℕ) (opens : List Open) → AreDifferent opens
    → AreDifferent (with_units call units opens)
different_with call units [] h = tt
different_with call units (o ∷ os) h = by (o.call == call) (different_with call units os h.1)
  where
    none : (b : Bool) → (if b then option_map (λ (o : Open). record o { units = units })
        (open_of o.call os) else open_of o.call os) ≡ None
    none true = ap (option_map (λ (o : Open). record o { units = units })) h.0
    none false = h.0

    by : (b : Bool) → AreDifferent (with_units call units os)
        → AreDifferent (if b then record o { units = units } ∷ os else o ∷ with_units call units os)
    by true rest = (h.0, h.1)
    by false rest = (open_with call units o.call os ∙ none (call == o.call), rest)

is_none_none : (o : Option Open) → is_none o ≡ true → o ≡ None
is_none_none None h = refl
is_none_none (Some o) h = let impossible : ⊥ = cc in absurd impossible

pub different_from : (opens : List Open) → are_different opens ≡ true → AreDifferent opens
different_from [] h = tt
different_from (o ∷ os) h =
    let (none, rest) = and_parts (is_none (open_of o.call os)) (are_different os) h in
    (is_none_none (open_of o.call os) none, different_from os rest)

pub different_to : (opens : List Open) → AreDifferent opens → are_different opens ≡ true
different_to [] h = refl
different_to (o ∷ os) h = rw (h.0) (different_to os h.1)

-- ---- how many are open
pub with_as_many : (call units : ℕ) (opens : List Open)
    → length (with_units call units opens) ≡ length opens
with_as_many call units [] = refl
with_as_many call units (o ∷ os) = by (o.call == call) (with_as_many call units os)
  where
    by : (b : Bool) → length (with_units call units os) ≡ length os
        → length (if b then record o { units = units } ∷ os else o ∷ with_units call units os)
        ≡ length (o ∷ os)
    by true rest = refl
    by false rest = ap suc rest

pub without_one_less : (call : ℕ) (o : Open) (opens : List Open) → open_of call opens ≡ Some o
    → length (without call opens) + 1 ≡ length opens
without_one_less call o [] h = let impossible : ⊥ = cc in absurd impossible
without_one_less call o (x ∷ os) h = by (x.call == call) (without_one_less call o os) h
  where
    by : (b : Bool) → (open_of call os ≡ Some o → length (without call os) + 1 ≡ length os)
        → (if b then Some x else open_of call os) ≡ Some o
        → length (if b then os else x ∷ without call os) + 1 ≡ length (x ∷ os)
    by true rest h = omega arith
    by false rest h = let one = rest h in omega (arith, one)
