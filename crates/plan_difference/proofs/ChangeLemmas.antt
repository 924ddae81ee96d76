-- The sets whose digits are planned otherwise, of those of all dialled digits.
use Rattle.std.proofs.Common.{◌≡◌, ℕ, zero, suc, ◌+◌, ◌<◌, ◌≤◌, ◌⊎◌, inl, inr, Bool, true, false, List, [], ◌∷◌, ◌++◌, length, take, slice_get, refl, sym, ap, subst, ◌∙◌, arith}
use Rattle.std.specs.Prelude.{Option, Some, None, unwrap_or, IfSome, Result, Ok, Err, OnOk}
use Rattle.std.specs.Map.{keys_of}
use Rattle.std.proofs.lemmas.Bool.Decides.{nat_tests}
use Rattle.gk_commands.specs.declared.commands.Command.{Command}
use Rattle.gk_terms.specs.Dialled.{IsDialled}
use Rattle.plan_difference.specs.declared.number_sets.NumberSet.{NumberSet}
use Rattle.plan_difference.specs.Difference.{AreClasses, IsDifference, IsCovered, SamePlan, StandsAt}
use Rattle.plan_difference.specs.Entries.{Entry, Entries, EntryAt, AreOnce, IsIn, NotedBy, IsSample, AreSampled, HaveDigits, AreChanged, NotedIfChanged}
use Rattle.plan_difference.specs.Order.{AreGrouped}
use Rattle.plan_difference.specs.Sets.{Covers}
use Rattle.plan_difference.proofs.EntryLemmas.{at_end}
use Rattle.plan_difference.proofs.Plans.{same_of_set}
use Rattle.plan_difference.proofs.Theorem.{set_stands, entry_stands}
use Rattle.plan_difference.proofs.WalkLemmas.{stands_within}

-- ---- a part of a list
-- up to a place, and the one there
take_one_more : {X : Type 0} (xs : List X) (place : ℕ) (x : X) → slice_get xs place ≡ Some x
    → take (suc place) xs ≡ take place xs ++ x ∷ []
take_one_more [] place x e = absurd (let bad : ⊥ = cc in bad)
take_one_more (y ∷ ys) zero x e = ap (λ o. unwrap_or o y ∷ []) e
take_one_more (y ∷ ys) (suc place) x e = ap (λ l. y ∷ l) (take_one_more ys place x e)

-- what stands in a front stands there in the whole
record InFront {X : Type 0} (xs : List X) (bound place : ℕ) (x : X) : Type 0 where
  pub below : place < bound
  pub stands : slice_get xs place ≡ Some x

in_front : {X : Type 0} (xs : List X) (bound place : ℕ) (x : X)
    → slice_get (take bound xs) place ≡ Some x → InFront xs bound place x
in_front xs zero place x e = absurd (let bad : ⊥ = cc in bad)
in_front [] (suc bound) place x e = absurd (let bad : ⊥ = cc in bad)
in_front (y ∷ ys) (suc bound) zero x e = record { below = omega arith; stands = e }
in_front (y ∷ ys) (suc bound) (suc place) x e =
    let rest = in_front ys bound place x e in
    let low = rest.below in
    record { below = omega (arith, low); stands = rest.stands }

module _ (old new : List Command) where
  -- ---- what is among the changed ones
  -- a changed set is one of all, and its digits are planned otherwise
  record Comes (all : Entries) (entry : Entry) : Type 0 where
    pub place : ℕ
    pub stands : slice_get all place ≡ Some entry
    pub differs : ¬ SamePlan old new entry.1

  comes : (all changed : Entries) → AreChanged old new all changed → (place : ℕ) (entry : Entry)
      → slice_get changed place ≡ Some entry → Comes all entry
  comes [] changed h place entry e =
      absurd (none place (ap (λ l. slice_get l place) (sym h) ∙ e))
    where
      none : (place : ℕ) → slice_get {X = Entry} [] place ≡ Some entry → ⊥
      none place f = let bad : ⊥ = cc in bad
  comes (first ∷ all) changed (inl p) place entry e =
      let there = comes all changed p.1 place entry e in
      record { place = suc there.place; stands = there.stands; differs = there.differs }
  comes (first ∷ all) changed (inr p) place entry e =
      by place (ap (λ l. slice_get l place) (sym p.1) ∙ e) (comes all p.0 p.3)
    where
      by : (place : ℕ) → slice_get (first ∷ p.0) place ≡ Some entry
          → ((place : ℕ) (entry : Entry) → slice_get p.0 place ≡ Some entry → Comes all entry)
          → Comes (first ∷ all) entry
      by zero f rest =
          let same : first ≡ entry = ap (λ o. unwrap_or o entry) f in
          record {
            place = 0;
            stands = f;
            differs = subst (λ (x : Entry). ¬ SamePlan old new x.1) same p.2;
          }
      by (suc place) f rest =
          let there = rest place entry f in
          record { place = suc there.place; stands = there.stands; differs = there.differs }

  -- each one of all is planned alike, or is among the changed ones
  alike_or_changed : (all changed : Entries) → AreChanged old new all changed → (place : ℕ)
      (set : NumberSet) (digits : List ℕ) → EntryAt all place set digits
      → SamePlan old new digits ⊎ IsIn changed set
  alike_or_changed [] changed h place set digits e = absurd (let bad : ⊥ = cc in bad)
  alike_or_changed (first ∷ all) changed (inl p) zero set digits e =
      inl (subst (λ (x : Entry). SamePlan old new x.1) (ap (λ o. unwrap_or o first) e) p.0)
  alike_or_changed (first ∷ all) changed (inl p) (suc place) set digits e =
      alike_or_changed all changed p.1 place set digits e
  alike_or_changed (first ∷ all) changed (inr p) zero set digits e =
      inr (record { place = 0; digits = digits; stands = ap (λ l. slice_get l 0) p.1 ∙ e })
  alike_or_changed (first ∷ all) changed (inr p) (suc place) set digits e =
      by (alike_or_changed all p.0 p.3 place set digits e)
    where
      by : SamePlan old new digits ⊎ IsIn p.0 set → SamePlan old new digits ⊎ IsIn changed set
      by (inl same) = inl same
      by (inr there) = inr (record {
        place = suc there.place;
        digits = there.digits;
        stands = ap (λ l. slice_get l (suc there.place)) p.1 ∙ there.stands;
      })

  -- ---- one more
  one_alike : (all changed : Entries) (entry : Entry) → AreChanged old new all changed
      → SamePlan old new entry.1 → AreChanged old new (all ++ entry ∷ []) changed
  one_alike [] changed entry h same = inl (same, h)
  one_alike (first ∷ all) changed entry (inl p) same =
      inl (p.0, one_alike all changed entry p.1 same)
  one_alike (first ∷ all) changed entry (inr p) same =
      inr (p.0, p.1, p.2, one_alike all p.0 entry p.3 same)

  one_changed : (all changed : Entries) (entry : Entry) → AreChanged old new all changed
      → ¬ SamePlan old new entry.1 → AreChanged old new (all ++ entry ∷ []) (changed ++ entry ∷ [])
  one_changed [] changed entry h other = inr ([], ap (λ l. l ++ entry ∷ []) h, other, refl)
  one_changed (first ∷ all) changed entry (inl p) other =
      inl (p.0, one_changed all changed entry p.1 other)
  one_changed (first ∷ all) changed entry (inr p) other =
      inr (
        p.0 ++ entry ∷ [],
        ap (λ l. l ++ entry ∷ []) p.1,
        p.2,
        one_changed all p.0 entry p.3 other,
      )

  -- a step of the loop
  module _ (all : Entries) (once : AreOnce all) (place : ℕ) (before after : Entries)
      (so_far : AreChanged old new (take place all) before) where
    -- the set at the place is not among those before it
    not_before : (entry : Entry) → slice_get all place ≡ Some entry → IsIn before entry.0 → ⊥
    not_before entry at there =
        let one = comes (take place all) before so_far there.place (entry.0, there.digits)
        there.stands in
        let front = in_front all place one.place (entry.0, there.digits) one.stands in
        let same = once one.place place entry.0 there.digits entry.1 front.stands at in
        let low = front.below in
        omega (arith, same, low)

    stepped : (entry : Entry) → slice_get all place ≡ Some entry
        → NotedIfChanged old new before after entry
        → AreChanged old new (take (suc place) all) after
    stepped entry at (inl p) =
        subst (λ l. AreChanged old new l after) (sym (take_one_more all place entry at))
        (subst (AreChanged old new (take place all ++ entry ∷ [])) (sym p.1)
        (one_alike (take place all) before entry so_far p.0))
    stepped entry at (inr p) = by p.1
      where
        by : NotedBy before after entry.0 entry.1
            → AreChanged old new (take (suc place) all) after
        by (inl q) = absurd (not_before entry at q.1)
        by (inr q) =
            subst (λ l. AreChanged old new l after) (sym (take_one_more all place entry at))
            (subst (AreChanged old new (take place all ++ entry ∷ [])) (sym q.0)
            (one_changed (take place all) before entry so_far p.0))

    pub changed_more : place < length all
        → IfSome (slice_get all place) (λ entry. NotedIfChanged old new before after entry)
        → AreChanged old new (take (place + 1) all) after
    changed_more within step =
        subst (λ n. AreChanged old new (take n all) after)
        (let one : suc place ≡ place + 1 = omega arith in one)
        (by (slice_get all place) refl (is_there all place within) step)
      where
        is_there : (xs : Entries) (n : ℕ) → n < length xs → slice_get xs n ≡ None → ⊥
        is_there [] n low e = omega (arith, low)
        is_there (x ∷ xs) zero low e = let bad : ⊥ = cc in bad
        is_there (x ∷ xs) (suc n) low e =
            is_there xs n (let less : n < length xs = omega (arith, low) in less) e

        by : (o : Option Entry) → slice_get all place ≡ o → (slice_get all place ≡ None → ⊥)
            → IfSome o (λ entry. NotedIfChanged old new before after entry)
            → AreChanged old new (take (suc place) all) after
        by None e there step = absurd (there e)
        by (Some entry) e there step = stepped entry e step

  -- ---- the difference
  module _ (all changed : Entries) (classes : AreClasses old new (keys_of all))
      (have : HaveDigits old new all) (part : AreChanged old new all changed) where
    pub changed_sampled : AreSampled old new changed
    changed_sampled place set digits stands =
        let there = comes all changed part place (set, digits) stands in
        record {
          covers = have there.place set digits there.stands;
          differs = there.differs;
        }

    -- digits of one of all are planned alike, or their set is among the changed ones
    alike_or_covered : (digits : List ℕ) → IsCovered old new (keys_of all) digits
        → SamePlan old new digits ⊎ IsCovered old new (keys_of changed) digits
    alike_or_covered digits cover =
        let there = entry_stands all cover.place cover.set cover.stands in
        by there.digits (have cover.place cover.set there.digits there.stands)
        (alike_or_changed all changed part cover.place cover.set there.digits there.stands)
      where
        by : (other : List ℕ) → Covers old new cover.set other
            → SamePlan old new other ⊎ IsIn changed cover.set
            → SamePlan old new digits ⊎ IsCovered old new (keys_of changed) digits
        by other covered (inl same) =
            inl (same_of_set old new other digits (covered.1 ∙ sym cover.covers.1) same)
        by other covered (inr found) = inr (record {
          place = found.place;
          set = cover.set;
          stands = set_stands changed found.place cover.set found.digits found.stands;
          covers = cover.covers;
        })

    pub changed_difference : AreOnce changed → IsDifference old new (keys_of changed)
    changed_difference once = record {
      complete = λ digits dialled. alike_or_covered digits (classes.complete digits dialled);
      sound = λ place set digits stands covers same.
          let there = entry_stands changed place set stands in
          let sample = changed_sampled place set there.digits there.stands in
          sample.differs (same_of_set old new digits there.digits
          (covers.1 ∙ sym sample.covers.1) same);
      once = λ place other set other_set digits stands other_stands covers other_covers.
          let there = entry_stands changed place set stands in
          let other_there = entry_stands changed other other_set other_stands in
          let equal : other_set ≡ set = sym other_covers.1 ∙ covers.1 in
          once place other set there.digits other_there.digits there.stands
          (subst (λ s. EntryAt changed other s other_there.digits) equal other_there.stands);
      witness = λ place set stands.
          let there = entry_stands changed place set stands in
          record {
            digits = there.digits;
            covers = (changed_sampled place set there.digits there.stands).covers;
          };
    }

-- ---- the order
module _ (old new : List Command) where
  -- where a changed set stands among all
  abbrev place_in : (all changed : Entries) → AreChanged old new all changed → ℕ → ℕ
  place_in [] changed h place = place
  place_in (first ∷ all) changed (inl p) place = suc (place_in all changed p.1 place)
  place_in (first ∷ all) changed (inr p) zero = 0
  place_in (first ∷ all) changed (inr p) (suc place) = suc (place_in all p.0 p.3 place)

  stands_in : (all changed : Entries) (h : AreChanged old new all changed) (place : ℕ)
      (entry : Entry) → slice_get changed place ≡ Some entry
      → slice_get all (place_in all changed h place) ≡ Some entry
  stands_in [] changed h place entry e = ap (λ l. slice_get l place) (sym h) ∙ e
  stands_in (first ∷ all) changed (inl p) place entry e =
      stands_in all changed p.1 place entry e
  stands_in (first ∷ all) changed (inr p) zero entry e =
      ap (λ l. slice_get l 0) (sym p.1) ∙ e
  stands_in (first ∷ all) changed (inr p) (suc place) entry e =
      stands_in all p.0 p.3 place entry (ap (λ l. slice_get l (suc place)) (sym p.1) ∙ e)

  rises_in : (all changed : Entries) (h : AreChanged old new all changed) (place later : ℕ)
      → place ≤ later → place_in all changed h place ≤ place_in all changed h later
  rises_in [] changed h place later order = order
  rises_in (first ∷ all) changed (inl p) place later order =
      let rest = rises_in all changed p.1 place later order in omega (arith, rest)
  rises_in (first ∷ all) changed (inr p) zero later order = omega arith
  rises_in (first ∷ all) changed (inr p) (suc place) zero order = absurd (omega (arith, order))
  rises_in (first ∷ all) changed (inr p) (suc place) (suc later) order =
      let rest = rises_in all p.0 p.3 place later (omega (arith, order)) in omega (arith, rest)

  module _ (all changed : Entries) (part : AreChanged old new all changed)
      (grouped : AreGrouped (keys_of all)) where
    where_in : (place : ℕ) (set : NumberSet) → StandsAt (keys_of changed) place set
        → StandsAt (keys_of all) (place_in all changed part place) set
    where_in place set stands =
        let there = entry_stands changed place set stands in
        set_stands all (place_in all changed part place) set there.digits
        (stands_in all changed part place (set, there.digits) there.stands)

    pub part_grouped : AreGrouped (keys_of changed)
    part_grouped = record {
      together = λ x y z a b c at_x at_y at_z xy yz same.
          grouped.together (place_in all changed part x) (place_in all changed part y)
          (place_in all changed part z) a b c (where_in x a at_x) (where_in y b at_y)
          (where_in z c at_z) (rises_in all changed part x y xy) (rises_in all changed part y z yz)
          same;
      joint_first = λ place later set other at there order same.
          grouped.joint_first (place_in all changed part place) (place_in all changed part later)
          set other (where_in place set at) (where_in later other there)
          (rises_in all changed part place later order) same;
    }
