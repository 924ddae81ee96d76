-- How many calls there are after one is opened, changed or closed, and which call an ID owns.
use Rattle.std.proofs.Common.{◌≡◌, ℕ, suc, ◌+◌, ◌≤◌, Bool, true, false, cond, List, [], ◌∷◌, length, refl, ap, arith}
use Rattle.std.specs.Prelude.{Ok, Err, Option, Some, None, not}
use Rattle.std.specs.List.{sum_by}
use Rattle.std.proofs.lemmas.List.Sums.{sum_by-cons}
use Rattle.bandwidth.specs.declared.open_call.OpenCall.{OpenCall}
use Rattle.bandwidth.specs.declared.faults.CallsFault.TheVariants as faults
use Rattle.bandwidth.specs.OpenCalls.{if_owned}
use Rattle.bandwidth.specs.Calls.{has_call_number, has_owner, is_open, with_call, without_call, with_changed}
use Rattle.bandwidth.proofs.CallLemmas.{sum_with}

-- ---- how many calls there are
length_is : (calls : List OpenCall) → length calls ≡ sum_by (λ c. 1) calls
length_is [] = refl
length_is (call ∷ calls) =
    let rest = length_is calls in
    let head = sum_by-cons (λ c. 1) call calls in omega (arith, rest, head)

pub length_with : (calls : List OpenCall) (call : OpenCall) → is_open calls call.number ≡ false
    → length (with_call calls call) ≡ length calls + 1
length_with calls call closed =
    let more = sum_with (λ c. 1) calls call closed in
    let before = length_is calls in
    let after = length_is (with_call calls call) in omega (arith, more, before, after)

pub length_without : (calls : List OpenCall) (number : ℕ)
    → length (without_call calls number) ≤ length calls
length_without [] number = omega arith
length_without (call ∷ calls) number =
    by (has_call_number number call) (length_without calls number)
  where
    by : (t : Bool) → length (without_call calls number) ≤ length calls
        → length (cond (not t) (call ∷ without_call calls number) (without_call calls number))
        ≤ length (call ∷ calls)
    by true rest = omega (arith, rest)
    by false rest = omega (arith, rest)

pub length_changed : (calls : List OpenCall) (number units : ℕ)
    → length (with_changed calls number units) ≡ length calls
length_changed [] number units = refl
length_changed (call ∷ calls) number units = ap suc (length_changed calls number units)

-- ---- who owns a call
-- the call that is given to an ID is the one that was found
pub held_found : (id : List ℕ) (o : Option OpenCall) (held : OpenCall) → Ok held ≡ if_owned id o
    → o ≡ Some held
held_found id None held h = cc
held_found id (Some call) held h = by (has_owner id call) h
  where
    by : (t : Bool) → Ok held ≡ cond t (Ok call) (Err faults.NotYours) → Some call ≡ Some held
    by true e = let same : call ≡ held = cc in ap Some same
    by false e = absurd cc
