-- How many calls are open after one is opened, changed or closed.
use Rattle.std.proofs.Common.{◌≡◌, ◌≤◌, ◌+◌, Bool, true, false, not, cond, List, [], ◌∷◌, length, filter, Some, refl, sym, true≢false, arith, length-append}
use Rattle.std.proofs.lemmas.List.{length-map}
use Rattle.std.specs.Prelude.{ℕ, nat_lt}
use Rattle.std.proofs.lemmas.List.Sums.{length-filter, count_by-le-length}
use Rattle.bandwidth.specs.declared.open_call.OpenCall.{OpenCall}
use Rattle.bandwidth.specs.Calls.{has_call_number, call_of, with_units, with_call, without_call, with_changed}
use Rattle.rulings.specs.Founded.{is_owned}

-- no call has both a smaller and a greater number
parts_fit : (calls : List OpenCall) (number : ℕ)
    → length (filter (λ c. nat_lt c.number number) calls)
    + length (filter (λ c. nat_lt number c.number) calls)
    ≤ length calls
parts_fit [] number = omega arith
parts_fit (call ∷ calls) number =
    by (nat_lt call.number number) (nat_lt number call.number) never (parts_fit calls number)
  where
    never : nat_lt call.number number ≡ true → nat_lt number call.number ≡ true → ⊥
    never smaller greater = grind (arith, smaller, greater)

    by : (smaller greater : Bool) → (smaller ≡ true → greater ≡ true → ⊥)
        → length (filter (λ c. nat_lt c.number number) calls)
        + length (filter (λ c. nat_lt number c.number) calls)
        ≤ length calls
        → length (cond smaller (call ∷ filter (λ c. nat_lt c.number number) calls)
        (filter (λ c. nat_lt c.number number) calls))
        + length (cond greater (call ∷ filter (λ c. nat_lt number c.number) calls)
        (filter (λ c. nat_lt number c.number) calls))
        ≤ length (call ∷ calls)
    by true true never rest = absurd (never refl refl)
    by true false never rest = omega (arith, rest)
    by false true never rest = omega (arith, rest)
    by false false never rest = omega (arith, rest)

pub length-with_call : (calls : List OpenCall) (call : OpenCall)
    → length (with_call calls call) ≤ length calls + 1
length-with_call calls call =
    let parts = length-append (filter (λ c. nat_lt c.number call.number) calls)
    (call ∷ filter (λ c. nat_lt call.number c.number) calls) in
    omega (arith, parts, parts_fit calls call.number)

pub length-with_changed : (calls : List OpenCall) (number units : ℕ)
    → length (with_changed calls number units) ≡ length calls
length-with_changed calls number units = length-map calls (with_units number units)

-- one was open
pub length-without_call : (calls : List OpenCall) (number : ℕ) (id : List ℕ)
    → is_owned id (call_of calls number) ≡ true
    → length (without_call calls number) + 1 ≤ length calls
length-without_call [] number id h = absurd (true≢false (sym h))
length-without_call (call ∷ calls) number id h =
    by (has_call_number number call) (length-without_call calls number id) h
  where
    shorter : length (filter (λ c. not (has_call_number number c)) calls) ≤ length calls
    shorter =
        omega (
          arith,
          length-filter (λ c. not (has_call_number number c)) calls,
          count_by-le-length (λ c. not (has_call_number number c)) calls,
        )

    by : (same : Bool)
        → (is_owned id (call_of calls number) ≡ true
        → length (without_call calls number) + 1 ≤ length calls)
        → is_owned id (cond same (Some call) (call_of calls number)) ≡ true
        → length (cond (not same) (call ∷ without_call calls number) (without_call calls number)) +
        1
        ≤ length (call ∷ calls)
    by true rest h = omega (arith, shorter)
    by false rest h = omega (arith, rest h)
