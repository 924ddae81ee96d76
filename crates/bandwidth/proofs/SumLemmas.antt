-- The sum of the calls that pass a test: with one call more, without one, and with one changed.
use Rattle.std.proofs.Common.{◌≡◌, ℕ, ◌+◌, ◌≤◌, Bool, true, false, cond, List, [], ◌∷◌, refl, sym, ap, ◌∙◌, arith}
use Rattle.std.specs.Prelude.{Some, filter, count_by, if◌then◌else◌}
use Rattle.std.specs.List.{sum_by}
use Rattle.std.proofs.lemmas.List.Sums.{sum_by-cons, sum_by-le-sum_by}
use Rattle.bandwidth.specs.declared.open_call.OpenCall.{OpenCall}
use Rattle.bandwidth.specs.Calls.{AreInOrder, call_of, is_open, with_call, without_call, with_changed}
use Rattle.bandwidth.specs.Use.{units_of}
use Rattle.bandwidth.proofs.CallLemmas.{ascend, sum_with, sum_without, sum_changed, within_sum}

module _ (test : OpenCall → Bool) where
  -- what a call adds
  abbrev pub part : OpenCall → ℕ
  part call = if test call then call.units else 0

  pub filtered : (calls : List OpenCall) → units_of (filter test calls) ≡ sum_by part calls
  filtered [] = refl
  filtered (call ∷ calls) =
      by (test call) (filtered calls) ∙ sym (sum_by-cons part call calls)
    where
      by : (t : Bool) → units_of (filter test calls) ≡ sum_by part calls
          → units_of (cond t (call ∷ filter test calls) (filter test calls))
          ≡ cond t call.units 0 + sum_by part calls
      by true rest =
          let head = sum_by-cons (λ c. c.units) call (filter test calls) in
          omega (arith, head, rest)
      by false rest =
          let same : sum_by part calls ≡ 0 + sum_by part calls = omega arith in rest ∙ same

  -- with a call of a new number
  pub units_with : (calls : List OpenCall) (call : OpenCall) → is_open calls call.number ≡ false
      → units_of (filter test (with_call calls call))
      ≡ units_of (filter test calls) + (if test call then call.units else 0)
  units_with calls call closed =
      filtered (with_call calls call) ∙ sum_with part calls call closed
      ∙ ap (λ n. n + part call) (sym (filtered calls))

  -- without the call of a number
  pub units_without : (calls : List OpenCall) (number : ℕ) (held : OpenCall) → AreInOrder calls
      → call_of calls number ≡ Some held
      → units_of (filter test (without_call calls number)) + (if test held then held.units else 0)
      ≡ units_of (filter test calls)
  units_without calls number held order found =
      ap (λ n. n + part held) (filtered (without_call calls number))
      ∙ sum_without part number held calls (ascend calls order) found ∙ sym (filtered calls)

  -- with another bandwidth of the call of a number, which is counted as before
  pub units_changed : (calls : List OpenCall) (number units : ℕ) (held : OpenCall)
      → AreInOrder calls → call_of calls number ≡ Some held
      → test (record held { units = units }) ≡ test held
      → units_of (filter test (with_changed calls number units))
      + (if test held then held.units else 0)
      ≡ units_of (filter test calls) + (if test held then units else 0)
  units_changed calls number units held order found still =
      ap (λ n. n + part held) (filtered (with_changed calls number units))
      ∙ sum_changed part number held units calls (ascend calls order) found
      ∙ ap (λ n. n + part (record held { units = units })) (sym (filtered calls))
      ∙ ap (λ t. units_of (filter test calls) + cond t units 0) still

  -- a call that counts is no more than the sum
  pub units_within : (calls : List OpenCall) (number : ℕ) (held : OpenCall)
      → call_of calls number ≡ Some held
      → (if test held then held.units else 0) ≤ units_of (filter test calls)
  units_within calls number held found =
      let within = within_sum part number held calls found in
      let all = filtered calls in omega (arith, within, all)

  -- no sum is greater than that of all calls
  pub units_of_some : (calls : List OpenCall) → units_of (filter test calls) ≤ units_of calls
  units_of_some calls =
      let all = filtered calls in
      let less = sum_by-le-sum_by part (λ c. c.units) calls (λ c. by (test c) c.units) in
      omega (arith, all, less)
    where
      by : (t : Bool) (units : ℕ) → cond t units 0 ≤ units
      by true units = omega arith
      by false units = omega arith

  -- without such a call the sum is 0
  pub nothing_counted : (calls : List OpenCall) → count_by test calls ≡ 0
      → units_of (filter test calls) ≡ 0
  nothing_counted [] none = refl
  nothing_counted (call ∷ calls) none =
      by (test call) (sym (sum_by-cons (λ c. cond (test c) 1 0) call calls) ∙ none)
      (nothing_counted calls)
    where
      by : (t : Bool) → cond t 1 0 + count_by test calls ≡ 0
          → (count_by test calls ≡ 0 → units_of (filter test calls) ≡ 0)
          → units_of (cond t (call ∷ filter test calls) (filter test calls)) ≡ 0
      by true never rest = absurd (omega (arith, never))
      by false left rest =
          let same : count_by test calls ≡ 0 + count_by test calls = omega arith in
          rest (same ∙ left)
