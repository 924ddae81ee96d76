-- The open calls of rows and those of a state, by how many there are of each number.
use Rattle.std.proofs.Common.{◌≡◌, ◌≤◌, ℕ, ◌+◌, ◌==◌, Bool, true, false, cond, List, [], ◌∷◌, length, Option, Some, None, refl, sym, ap, ◌∙◌, true≢false, arith, eq-eqb}
use Rattle.std.specs.Prelude.{is_some}
use Rattle.std.specs.List.{sum_by}
use Rattle.std.proofs.lemmas.Bool.{eqb-true}
use Rattle.std.proofs.lemmas.List.Sums.{sum_by-cons}
use Rattle.bandwidth.specs.declared.open_call.OpenCall.{OpenCall}
use Rattle.bandwidth.specs.Calls.{has_call_number, call_of, with_call, without_call, with_changed, is_open as is_open_call}
use Rattle.bandwidth.proofs.CallLemmas.{Ascend, has_its_number, closed_head, closed_tail, sum_with, sum_without, sum_changed, within_sum}
use Rattle.rulings.specs.Founded.{is_owned}
use Rattle.call_rows.specs.OpenCalls.{Open, open_of, with_units, without}
use Rattle.call_rows.specs.Pushing.{is_open}

-- ---- open calls of rows
-- 1 if it holds
abbrev pub one_if : Bool → ℕ
one_if t = cond t 1 0

-- how many there are of a number
abbrev pub times : ℕ → List Open → ℕ
times number [] = 0
times number (o ∷ os) = one_if (o.call == number) + times number os

pub open_if_there : (number : ℕ) (opens : List Open) → 1 ≤ times number opens
    → is_open number opens ≡ true
open_if_there number [] there = let never : ⊥ = omega (arith, there) in absurd never
open_if_there number (o ∷ os) there = by (o.call == number) (open_if_there number os) there
  where
    by : (t : Bool) → (1 ≤ times number os → is_open number os ≡ true)
        → 1 ≤ one_if t + times number os
        → is_some (cond t (Some o) (open_of number os)) ≡ true
    by true rest there = refl
    by false rest there = rest (omega (arith, there))

pub closed_if_not_there : (number : ℕ) (opens : List Open) → times number opens ≡ 0
    → is_open number opens ≡ false
closed_if_not_there number [] none = refl
closed_if_not_there number (o ∷ os) none =
    by (o.call == number) (closed_if_not_there number os) none
  where
    by : (t : Bool) → (times number os ≡ 0 → is_open number os ≡ false)
        → one_if t + times number os ≡ 0
        → is_some (cond t (Some o) (open_of number os)) ≡ false
    by true rest none = let never : ⊥ = omega (arith, none) in absurd never
    by false rest none = rest (omega (arith, none))

-- other units change no number
pub times_units : (number call units : ℕ) (opens : List Open)
    → times number (with_units call units opens) ≡ times number opens
times_units number call units [] = refl
times_units number call units (o ∷ os) =
    by (o.call == call) (times_units number call units os)
  where
    by : (t : Bool) → times number (with_units call units os) ≡ times number os
        → times number
        (cond t (record o { units = units } ∷ os) (o ∷ with_units call units os))
        ≡ one_if (o.call == number) + times number os
    by true rest = refl
    by false rest = ap (λ n. one_if (o.call == number) + n) rest

pub length_units : (call units : ℕ) (opens : List Open)
    → length (with_units call units opens) ≡ length opens
length_units call units [] = refl
length_units call units (o ∷ os) = by (o.call == call) (length_units call units os)
  where
    by : (t : Bool) → length (with_units call units os) ≡ length os
        → length (cond t (record o { units = units } ∷ os) (o ∷ with_units call units os))
        ≡ length (o ∷ os)
    by true rest = refl
    by false rest = omega (arith, rest)

-- without one that is there
pub times_without : (number call : ℕ) (opens : List Open) → 1 ≤ times call opens
    → times number (without call opens) + one_if (call == number) ≡ times number opens
times_without number call [] there = let never : ⊥ = omega (arith, there) in absurd never
times_without number call (o ∷ os) there =
    by (o.call == call) refl (times_without number call os) there
  where
    by : (t : Bool) → (o.call == call) ≡ t
        → (1 ≤ times call os
        → times number (without call os) + one_if (call == number) ≡ times number os)
        → 1 ≤ one_if t + times call os
        → times number (cond t os (o ∷ without call os)) + one_if (call == number)
        ≡ one_if (o.call == number) + times number os
    by true same rest there =
        let its = ap (λ n. one_if (n == number)) (eqb-true o.call call same) in
        omega (arith, its)
    by false same rest there =
        let fewer = rest (omega (arith, there)) in omega (arith, fewer)

pub length_without : (call : ℕ) (opens : List Open) → 1 ≤ times call opens
    → length (without call opens) + 1 ≡ length opens
length_without call [] there = let never : ⊥ = omega (arith, there) in absurd never
length_without call (o ∷ os) there = by (o.call == call) (length_without call os) there
  where
    by : (t : Bool) → (1 ≤ times call os → length (without call os) + 1 ≡ length os)
        → 1 ≤ one_if t + times call os
        → length (cond t os (o ∷ without call os)) + 1 ≡ length (o ∷ os)
    by true rest there = omega arith
    by false rest there = let fewer = rest (omega (arith, there)) in omega (arith, fewer)

-- ---- open calls of a state
-- 1 for a call of this number
abbrev pub counts_for : ℕ → OpenCall → ℕ
counts_for number call = one_if (has_call_number number call)

-- how many there are of a number
abbrev pub held_times : ℕ → List OpenCall → ℕ
held_times number calls = sum_by (counts_for number) calls

pub not_held : (number : ℕ) (calls : List OpenCall) → is_open_call calls number ≡ false
    → held_times number calls ≡ 0
not_held number [] closed = refl
not_held number (call ∷ calls) closed =
    let head = sum_by-cons (counts_for number) call calls in
    let none = ap one_if (closed_head call calls number closed) in
    let rest = not_held number calls (closed_tail call calls number closed) in
    omega (arith, head, none, rest)

-- each call counts once among all

abbrev each : OpenCall → ℕ
each call = 1

length_is : (calls : List OpenCall) → sum_by each calls ≡ length calls
length_is [] = refl
length_is (call ∷ calls) =
    let head = sum_by-cons each call calls in
    let rest = length_is calls in
    omega (arith, head, rest)

pub held_with : (number : ℕ) (calls : List OpenCall) (call : OpenCall)
    → is_open_call calls call.number ≡ false
    → held_times number (with_call calls call)
    ≡ held_times number calls + one_if (call.number == number)
held_with number calls call closed = sum_with (counts_for number) calls call closed

pub length_with : (calls : List OpenCall) (call : OpenCall)
    → is_open_call calls call.number ≡ false
    → length (with_call calls call) ≡ length calls + 1
length_with calls call closed =
    sym (length_is (with_call calls call)) ∙ sum_with each calls call closed
    ∙ ap (λ n. n + 1) (length_is calls)

-- ---- a call that is found
-- the call of the number, which its owner has
pub record IsFound (calls : List OpenCall) (number : ℕ) : Type 0 where
  pub held : OpenCall
  pub found : call_of calls number ≡ Some held

pub found_if_owned : (calls : List OpenCall) (number : ℕ) (id : List ℕ)
    → is_owned id (call_of calls number) ≡ true → IsFound calls number
found_if_owned calls number id owned = by (call_of calls number) refl owned
  where
    by : (o : Option OpenCall) → call_of calls number ≡ o → is_owned id o ≡ true
        → IsFound calls number
    by None e owned = absurd (true≢false (sym owned))
    by (Some held) e owned = record { held = held; found = e }

module _ (number : ℕ) (calls : List OpenCall) (call : ℕ) (is_found : IsFound calls call)
    (order : Ascend calls) where
  -- what the one that is found counts
  its_own : counts_for number is_found.held ≡ one_if (call == number)
  its_own =
      ap (λ n. one_if (n == number)) (has_its_number calls call is_found.held is_found.found)

  pub held_without :
      held_times number (without_call calls call) + one_if (call == number)
      ≡ held_times number calls
  held_without =
      ap (λ n. held_times number (without_call calls call) + n) (sym its_own)
      ∙ sum_without (counts_for number) call is_found.held calls order is_found.found

  pub held_changed : (units : ℕ)
      → held_times number (with_changed calls call units) ≡ held_times number calls
  held_changed units =
      let sums = sum_changed (counts_for number) call is_found.held units calls order
      is_found.found in
      omega (arith, sums)

  pub length_closed : length (without_call calls call) + 1 ≡ length calls
  length_closed =
      ap (λ n. n + 1) (sym (length_is (without_call calls call)))
      ∙ sum_without each call is_found.held calls order is_found.found
      ∙ length_is calls

-- it is there
pub held_there : (calls : List OpenCall) (call : ℕ) → IsFound calls call
    → 1 ≤ held_times call calls
held_there calls call is_found =
    let within = within_sum (counts_for call) call is_found.held calls is_found.found in
    let its = ap one_if (eq-eqb is_found.held.number call
    (has_its_number calls call is_found.held is_found.found)) in
    omega (arith, within, its)
