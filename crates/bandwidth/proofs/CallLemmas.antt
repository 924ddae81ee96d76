-- Any sum over a list of calls: with one call more, without one, and with one changed.
use Rattle.std.proofs.Common.{◌≡◌, ℕ, zero, suc, ◌+◌, ◌<◌, ◌≤◌, ◌||◌, Bool, true, false, cond, List, [], ◌∷◌, refl, sym, ap, subst, ◌∙◌, arith}
use Rattle.std.specs.Prelude.{Option, Some, None, ⊤, not, find, is_some, filter, nat_lt, slice_get}
use Rattle.std.specs.List.{AllByRecursion, list_any, sum_by}
use Rattle.std.proofs.lemmas.Bool.{both_ways, eqb-true, eq-eqb, ltb-true, ltb-false, ne_eqb}
use Rattle.std.proofs.lemmas.Option.{none-some, same_Some}
use Rattle.std.proofs.lemmas.List.Sums.{sum_by-cons, sum_by-append}
use Rattle.bandwidth.specs.declared.open_call.OpenCall.{OpenCall}
use Rattle.bandwidth.specs.Calls.{AreInOrder, has_call_number, call_of, is_open, with_call, without_call, with_changed}

-- ---- who is found
-- a call is found exactly if one is open
is_some_found : (test : OpenCall → Bool) (calls : List OpenCall)
    → is_some (find test calls) ≡ list_any test calls
is_some_found test [] = refl
is_some_found test (call ∷ calls) = by (test call) (is_some_found test calls)
  where
    by : (t : Bool) → is_some (find test calls) ≡ list_any test calls
        → is_some (cond t (Some call) (find test calls)) ≡ (t || list_any test calls)
    by true h = refl
    by false h = h

pub open_if_found : (calls : List OpenCall) (number : ℕ)
    → is_some (call_of calls number) ≡ is_open calls number
open_if_found calls number = is_some_found (has_call_number number) calls

pub none_if_closed : (calls : List OpenCall) (number : ℕ) → is_open calls number ≡ false
    → call_of calls number ≡ None
none_if_closed calls number closed =
    none (call_of calls number) (open_if_found calls number ∙ closed)
  where
    none : (o : Option OpenCall) → is_some o ≡ false → o ≡ None
    none None e = refl
    none (Some call) e = cc

pub closed_if_none : (calls : List OpenCall) (number : ℕ) → call_of calls number ≡ None
    → is_open calls number ≡ false
closed_if_none calls number none = sym (open_if_found calls number) ∙ ap is_some none

-- what is found has the number
pub has_its_number : (calls : List OpenCall) (number : ℕ) (held : OpenCall)
    → call_of calls number ≡ Some held → held.number ≡ number
has_its_number [] number held h = absurd (none-some held h)
has_its_number (call ∷ calls) number held h =
    by (has_call_number number call) refl h (has_its_number calls number held)
  where
    by : (t : Bool) → has_call_number number call ≡ t
        → cond t (Some call) (call_of calls number) ≡ Some held
        → (call_of calls number ≡ Some held → held.number ≡ number) → held.number ≡ number
    by true e found rest =
        ap (λ c. c.number) (sym (same_Some call held found)) ∙ eqb-true call.number number e
    by false e found rest = rest found

-- ---- order, by recursion
abbrev pub Ascend : List OpenCall → Type 0
Ascend [] = ⊤
Ascend (call ∷ calls) = AllByRecursion (λ c. call.number < c.number) calls × Ascend calls

each_from_places : (P : OpenCall → Type 0) (calls : List OpenCall)
    → ((i : ℕ) (c : OpenCall) → slice_get calls i ≡ Some c → P c) → AllByRecursion P calls
each_from_places P [] h = tt
each_from_places P (call ∷ calls) h =
    (h 0 call refl, each_from_places P calls (λ i c there. h (suc i) c there))

pub ascend : (calls : List OpenCall) → AreInOrder calls → Ascend calls
ascend [] order = tt
ascend (call ∷ calls) order = (
  each_from_places (λ c. call.number < c.number) calls
      (λ i c there. order 0 (suc i) call c (omega arith) refl there),
  ascend calls (λ i j c d before at_i at_j. order (suc i) (suc j) c d (omega arith) at_i at_j),
)

at_a_place : (P : OpenCall → Type 0) (calls : List OpenCall) → AllByRecursion P calls
    → (i : ℕ) (c : OpenCall) → slice_get calls i ≡ Some c → P c
at_a_place P [] h i c there = absurd (none-some c there)
at_a_place P (call ∷ calls) h zero c there = subst P (same_Some call c there) h.0
at_a_place P (call ∷ calls) h (suc i) c there = at_a_place P calls h.1 i c there

pub in_order : (calls : List OpenCall) → Ascend calls → AreInOrder calls
in_order [] h i j c d before at_i at_j = absurd (none-some c at_i)
in_order (call ∷ calls) h zero zero c d before at_i at_j =
    let never : ⊥ = omega (arith, before) in absurd never
in_order (call ∷ calls) h zero (suc j) c d before at_i at_j =
    let after = at_a_place (λ x. call.number < x.number) calls h.0 j d at_j in
    let same = ap (λ x. x.number) (same_Some call c at_i) in omega (arith, after, same)
in_order (call ∷ calls) h (suc i) zero c d before at_i at_j =
    let never : ⊥ = omega (arith, before) in absurd never
in_order (call ∷ calls) h (suc i) (suc j) c d before at_i at_j =
    in_order calls h.1 i j c d (omega (arith, before)) at_i at_j

-- after a call of a number no call has it
pub closed_after : (number : ℕ) (calls : List OpenCall)
    → AllByRecursion (λ c. number < c.number) calls → is_open calls number ≡ false
closed_after number [] h = refl
closed_after number (call ∷ calls) h =
    let above = h.0 in
    ap (λ t. t || is_open calls number)
    (ne_eqb call.number number (λ e. let never : ⊥ = omega (arith, above, e) in never))
    ∙ closed_after number calls h.1

-- what is not open is not open further on
pub closed_head : (call : OpenCall) (calls : List OpenCall) (number : ℕ)
    → is_open (call ∷ calls) number ≡ false → has_call_number number call ≡ false
closed_head call calls number closed = by (has_call_number number call) closed
  where
    by : (t : Bool) → (t || is_open calls number) ≡ false → t ≡ false
    by true e = e
    by false e = refl

pub closed_tail : (call : OpenCall) (calls : List OpenCall) (number : ℕ)
    → is_open (call ∷ calls) number ≡ false → is_open calls number ≡ false
closed_tail call calls number closed = by (has_call_number number call) closed
  where
    by : (t : Bool) → (t || is_open calls number) ≡ false → is_open calls number ≡ false
    by true e = cc
    by false e = e

-- ---- nothing to change
pub without_none : (calls : List OpenCall) (number : ℕ) → is_open calls number ≡ false
    → without_call calls number ≡ calls
without_none [] number closed = refl
without_none (call ∷ calls) number closed =
    ap (λ t. cond (not t) (call ∷ without_call calls number) (without_call calls number))
    (closed_head call calls number closed)
    ∙ ap (λ cs. call ∷ cs) (without_none calls number (closed_tail call calls number closed))

pub changed_none : (calls : List OpenCall) (number units : ℕ) → is_open calls number ≡ false
    → with_changed calls number units ≡ calls
changed_none [] number units closed = refl
changed_none (call ∷ calls) number units closed =
    ap (λ t. cond t (record call { units = units }) call ∷ with_changed calls number units)
    (closed_head call calls number closed)
    ∙ ap (λ cs. call ∷ cs) (changed_none calls number units (closed_tail call calls number closed))

-- ---- sums
module _ (f : OpenCall → ℕ) where
  -- the calls of lesser and of greater numbers are all
  apart : (calls : List OpenCall) (number : ℕ) → is_open calls number ≡ false
      → sum_by f (filter (λ c. nat_lt c.number number) calls)
      + sum_by f (filter (λ c. nat_lt number c.number) calls) ≡ sum_by f calls
  apart [] number closed = refl
  apart (call ∷ calls) number closed =
      by (nat_lt call.number number) refl (nat_lt number call.number) refl
      (apart calls number (closed_tail call calls number closed))
      ∙ sym (sum_by-cons f call calls)
    where
      less : List OpenCall
      less = filter (λ c. nat_lt c.number number) calls

      more : List OpenCall
      more = filter (λ c. nat_lt number c.number) calls

      by : (a : Bool) → nat_lt call.number number ≡ a → (b : Bool) → nat_lt number call.number ≡ b
          → sum_by f less + sum_by f more ≡ sum_by f calls
          → sum_by f (cond a (call ∷ less) less) + sum_by f (cond b (call ∷ more) more)
          ≡ f call + sum_by f calls
      by true low true high rest =
          let under = ltb-true call.number number low in
          let over = ltb-true number call.number high in
          let never : ⊥ = omega (arith, under, over) in absurd never
      by true low false high rest =
          let head = sum_by-cons f call less in omega (arith, head, rest)
      by false low true high rest =
          let head = sum_by-cons f call more in omega (arith, head, rest)
      by false low false high rest =
          let under = ltb-false call.number number low in
          let over = ltb-false number call.number high in
          absurd (both_ways (has_call_number number call) (closed_head call calls number closed)
          (eq-eqb call.number number (omega (arith, under, over))))

  -- with one call more
  pub sum_with : (calls : List OpenCall) (call : OpenCall) → is_open calls call.number ≡ false
      → sum_by f (with_call calls call) ≡ sum_by f calls + f call
  sum_with calls call closed =
      let less = filter (λ c. nat_lt c.number call.number) calls in
      let more = filter (λ c. nat_lt call.number c.number) calls in
      let both = sum_by-append f less (call ∷ more) in
      let head = sum_by-cons f call more in
      let all = apart calls call.number closed in omega (arith, both, head, all)

  -- without one, and with another in its place
  module _ (number : ℕ) (held : OpenCall) where
    pub sum_without : (calls : List OpenCall) → Ascend calls → call_of calls number ≡ Some held
        → sum_by f (without_call calls number) + f held ≡ sum_by f calls
    sum_without [] order found = absurd (none-some held found)
    sum_without (call ∷ calls) order found =
        by (has_call_number number call) refl found (sum_without calls order.1)
        ∙ sym (sum_by-cons f call calls)
      where
        by : (t : Bool) → has_call_number number call ≡ t
            → cond t (Some call) (call_of calls number) ≡ Some held
            → (call_of calls number ≡ Some held
            → sum_by f (without_call calls number) + f held ≡ sum_by f calls)
            → sum_by f (cond (not t) (call ∷ without_call calls number) (without_call calls number))
            + f held ≡ f call + sum_by f calls
        by true e here rest =
            let its = eqb-true call.number number e in
            let closed = subst (λ n. is_open calls n ≡ false) its
            (closed_after call.number calls order.0) in
            let left = ap (sum_by f) (without_none calls number closed) in
            let same = ap f (same_Some call held here) in omega (arith, left, same)
        by false e later rest =
            let head = sum_by-cons f call (without_call calls number) in
            let tail = rest later in omega (arith, head, tail)

    pub sum_changed : (units : ℕ) (calls : List OpenCall) → Ascend calls
        → call_of calls number ≡ Some held
        → sum_by f (with_changed calls number units) + f held
        ≡ sum_by f calls + f (record held { units = units })
    sum_changed units [] order found = absurd (none-some held found)
    sum_changed units (call ∷ calls) order found =
        let before = sum_by-cons f call calls in
        let after = by (has_call_number number call) refl found (sum_changed units calls order.1) in
        omega (arith, before, after)
      where
        by : (t : Bool) → has_call_number number call ≡ t
            → cond t (Some call) (call_of calls number) ≡ Some held
            → (call_of calls number ≡ Some held
            → sum_by f (with_changed calls number units) + f held
            ≡ sum_by f calls + f (record held { units = units }))
            → sum_by f
            (cond t (record call { units = units }) call ∷ with_changed calls number units)
            + f held ≡ (f call + sum_by f calls) + f (record held { units = units })
        by true e here rest =
            let its = eqb-true call.number number e in
            let closed = subst (λ n. is_open calls n ≡ false) its
            (closed_after call.number calls order.0) in
            let head = sum_by-cons f (record call { units = units })
            (with_changed calls number units) in
            let left = ap (sum_by f) (changed_none calls number units closed) in
            let same = ap f (same_Some call held here) in
            let changed = ap (λ c. f (record c { units = units })) (same_Some call held here) in
            omega (arith, head, left, same, changed)
        by false e later rest =
            let head = sum_by-cons f call (with_changed calls number units) in
            let tail = rest later in omega (arith, head, tail)

    -- one call is no more than the sum
    pub within_sum : (calls : List OpenCall) → call_of calls number ≡ Some held
        → f held ≤ sum_by f calls
    within_sum [] found = absurd (none-some held found)
    within_sum (call ∷ calls) found =
        let head = sum_by-cons f call calls in
        let within = by (has_call_number number call) found (within_sum calls) in
        omega (arith, head, within)
      where
        by : (t : Bool) → cond t (Some call) (call_of calls number) ≡ Some held
            → (call_of calls number ≡ Some held → f held ≤ sum_by f calls)
            → f held ≤ f call + sum_by f calls
        by true here rest = let same = ap f (same_Some call held here) in omega (arith, same)
        by false later rest = let tail = rest later in omega (arith, tail)
