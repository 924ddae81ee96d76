-- The numbers of the sets that have changed, among those of all.
use Rattle.std.proofs.Common.{◌≡◌, ℕ, zero, suc, ◌+◌, ◌<◌, ◌≤◌, inl, inr, Bool, true, false, cond, List, [], ◌∷◌, length, take, slice_get, refl, sym, ap, ◌∙◌, arith, true≢false}
use Rattle.std.specs.Prelude.{IfSome, Option, Some, None, is_some}
use Rattle.std.specs.List.{sum_by}
use Rattle.std.specs.Map.{keys_of, lookup}
use Rattle.std.proofs.lemmas.List.Sums.{sum_by-cons, sum_by-take-le}
use Rattle.gk_commands.specs.declared.commands.Command.{Command}
use Rattle.plan_difference.specs.declared.number_sets.NumberSet.{NumberSet}
use Rattle.plan_difference.specs.Entries.{Entry, Entries, EntryAt, AreChanged, AreOnce, has_set, same_set}
use Rattle.plan_difference.proofs.TextLemmas.{zero_plus}
use Rattle.difference_report.proofs.LengthLaws.{set_itself, sets_same}
use Rattle.difference_report.proofs.Steps.{stepped}

-- ---- sums
pub take_all : {X : Type 0} (xs : List X) (count : ℕ) → length xs ≤ count → take count xs ≡ xs
take_all [] zero h = refl
take_all [] (suc count) h = refl
take_all (x ∷ xs) zero h = absurd (omega (arith, h))
take_all (x ∷ xs) (suc count) h = ap (λ l. x ∷ l) (take_all xs count (omega (arith, h)))

module _ {X : Type 0} (f : X → ℕ) where
  -- one more element
  pub sum_more : (xs : List X) (place total more : ℕ) → place < length xs
      → total ≡ sum_by f (take place xs) → IfSome (slice_get xs place) (λ x. more ≡ f x)
      → total + more ≡ sum_by f (take (place + 1) xs)
  sum_more xs place total more within e g =
      stepped (λ a x. a + f x) 0 xs place total (total + more) within e
      (by (slice_get xs place) g)
    where
      by : (o : Option X) → IfSome o (λ x. more ≡ f x)
          → IfSome o (λ x. total + more ≡ total + f x)
      by None h = tt
      by (Some x) h = ap (λ n. total + n) h

  -- it is no more than all
  pub sum_within : (xs : List X) (place total more : ℕ) → place < length xs
      → total ≡ sum_by f (take place xs) → IfSome (slice_get xs place) (λ x. more ≡ f x)
      → total + more ≤ sum_by f xs
  sum_within xs place total more within e g =
      let sum_is = sum_more xs place total more within e g in
      let low = sum_by-take-le f xs (place + 1) in
      omega (arith, sum_is, low)

same_sum : {X : Type 0} (f g : X → ℕ) (xs : List X)
    → ((place : ℕ) (x : X) → slice_get xs place ≡ Some x → f x ≡ g x)
    → sum_by f xs ≡ sum_by g xs
same_sum f g [] h = refl
same_sum f g (x ∷ xs) h =
    let same : f x + sum_by f xs ≡ g x + sum_by g xs =
    λ i. h 0 x refl i + same_sum f g xs (λ place y e. h (suc place) y e) i in
    sum_by-cons f x xs ∙ same ∙ sym (sum_by-cons g x xs)

module _ (number : NumberSet → ℕ) where
  -- ---- the number of a set, if it is among these
  abbrev pub number_among : Entries → Entry → ℕ
  number_among changed entry = cond (has_set changed entry.0) (number entry.0) 0

  one_number : (entry : Entry) (all : Entries)
      → sum_by number (keys_of (entry ∷ all)) ≡ number entry.0 + sum_by number (keys_of all)
  one_number entry all = sum_by-cons number entry.0 (keys_of all)

  pub no_more : (changed all : Entries)
      → sum_by (number_among changed) all ≤ sum_by number (keys_of all)
  no_more changed [] = omega arith
  no_more changed (entry ∷ all) =
      let rest = no_more changed all in
      let some = sum_by-cons (number_among changed) entry all in
      let whole = one_number entry all in
      let first : number_among changed entry ≤ number entry.0 = by (has_set changed entry.0) in
      omega (arith, rest, some, whole, first)
    where
      by : (t : Bool) → cond t (number entry.0) 0 ≤ number entry.0
      by true = omega arith
      by false = omega arith

  -- ---- no set is there twice
  record IsThere (entries : Entries) (set : NumberSet) : Type 0 where
    pub place : ℕ
    pub digits : List ℕ
    pub stands : EntryAt entries place set digits

  is_there : (entries : Entries) (set : NumberSet) → has_set entries set ≡ true
      → IsThere entries set
  is_there [] set h = absurd (true≢false (sym h))
  is_there (entry ∷ entries) set h = by (same_set set entry.0) refl h (is_there entries set)
    where
      by : (t : Bool) → same_set set entry.0 ≡ t
          → is_some (cond t (Some entry.1) (lookup (same_set set) entries)) ≡ true
          → (has_set entries set ≡ true → IsThere entries set) → IsThere (entry ∷ entries) set
      by true e g rest = record {
        place = 0;
        digits = entry.1;
        stands = ap (λ (s : NumberSet). Some (s, entry.1)) (sym (sets_same set entry.0 e));
      }
      by false e g rest =
          let there = rest g in
          record { place = suc there.place; digits = there.digits; stands = there.stands }

  once_after : (entry : Entry) (all : Entries) → AreOnce (entry ∷ all) → AreOnce all
  once_after entry all once place other set digits other_digits e f =
      let same = once (suc place) (suc other) set digits other_digits e f in omega (arith, same)

  first_again : (entry : Entry) (all : Entries) → AreOnce (entry ∷ all) → (place : ℕ)
      (digits : List ℕ) → EntryAt all place entry.0 digits → ⊥
  first_again entry all once place digits e =
      let same : 0 ≡ suc place = once 0 (suc place) entry.0 entry.1 digits refl e in
      absurd (omega (arith, same))

  module _ (old new : List Command) where
    -- what has changed is among all
    among_all : (all changed : Entries) → AreChanged old new all changed → (set : NumberSet)
        → has_set changed set ≡ true → has_set all set ≡ true
    among_all [] changed h set g = sym (ap (λ l. has_set l set) h) ∙ g
    among_all (entry ∷ all) changed (inl p) set g =
        later (same_set set entry.0) (among_all all changed p.1 set g)
      where
        later : (t : Bool) → has_set all set ≡ true
            → is_some (cond t (Some entry.1) (lookup (same_set set) all)) ≡ true
        later true h = refl
        later false h = h
    among_all (entry ∷ all) changed (inr p) set g =
        by (same_set set entry.0) (sym (ap (λ l. has_set l set) p.1) ∙ g)
        (among_all all p.0 p.3 set)
      where
        by : (t : Bool) → is_some (cond t (Some entry.1) (lookup (same_set set) p.0)) ≡ true
            → (has_set p.0 set ≡ true → has_set all set ≡ true)
            → is_some (cond t (Some entry.1) (lookup (same_set set) all)) ≡ true
        by true h rest = refl
        by false h rest = rest h

    pub total_is : (all changed : Entries) → AreChanged old new all changed → AreOnce all
        → sum_by (number_among changed) all ≡ sum_by number (keys_of changed)
    total_is [] changed h once = ap (λ l. sum_by number (keys_of l)) (sym h)
    total_is (entry ∷ all) changed (inl p) once =
        let rest = total_is all changed p.1 (once_after entry all once) in
        let first : number_among changed entry ≡ 0 = by (has_set changed entry.0) refl in
        sum_by-cons (number_among changed) entry all
        ∙ ap (λ n. n + sum_by (number_among changed) all) first
        ∙ zero_plus (sum_by (number_among changed) all) ∙ rest
      where
        by : (t : Bool) → has_set changed entry.0 ≡ t → cond t (number entry.0) 0 ≡ 0
        by true e =
            let there = is_there all entry.0 (among_all all changed p.1 entry.0 e) in
            absurd (first_again entry all once there.place there.digits there.stands)
        by false e = refl
    total_is (entry ∷ all) changed (inr p) once =
        let rest = total_is all p.0 p.3 (once_after entry all once) in
        let same = same_sum (number_among (entry ∷ p.0)) (number_among p.0) all others in
        let first : number_among (entry ∷ p.0) entry ≡ number entry.0 =
        ap (λ t. cond (is_some (cond t (Some entry.1) (lookup (same_set entry.0) p.0)))
        (number entry.0) 0) (set_itself entry.0) in
        let sums : number_among (entry ∷ p.0) entry + sum_by (number_among (entry ∷ p.0)) all
        ≡ number entry.0 + sum_by number (keys_of p.0) =
        λ i. first i + (same ∙ rest) i in
        ap (λ l. sum_by (number_among l) (entry ∷ all)) p.1
        ∙ sum_by-cons (number_among (entry ∷ p.0)) entry all ∙ sums
        ∙ sym (one_number entry p.0) ∙ ap (λ l. sum_by number (keys_of l)) (sym p.1)
      where
        others : (place : ℕ) (other : Entry) → slice_get all place ≡ Some other
            → number_among (entry ∷ p.0) other ≡ number_among p.0 other
        others place other e = by (same_set other.0 entry.0) refl
          where
            by : (t : Bool) → same_set other.0 entry.0 ≡ t
                → cond (is_some (cond t (Some entry.1) (lookup (same_set other.0) p.0)))
                (number other.0) 0
                ≡ number_among p.0 other
            by true f =
                absurd (first_again entry all once place other.1
                (e ∙ ap (λ (s : NumberSet). Some (s, other.1)) (sets_same other.0 entry.0 f)))
            by false f = refl
