-- A set is said to have digits of another length exactly if it has some.
use Rattle.std.proofs.Common.{◌≡◌, ℕ, zero, suc, ◌==◌, ◌&&◌, ◌||◌, not, ◌-◌, ◌<◌, ◌≤◌, Bool, true, false, cond, nat_le, List, [], ◌∷◌, ◌++◌, length, length-append, refl, sym, ap, subst, ◌∙◌, arith, true≢false}
use Rattle.std.specs.Prelude.{Option, Some, None, bytes_eq}
use Rattle.std.specs.List.{list_all, list_any}
use Rattle.std.specs.Option.{option_eq}
use Rattle.std.proofs.lemmas.Bool.{and_parts, and_from}
use Rattle.std.proofs.lemmas.Bool.Decides.{nat_tests}
use Rattle.std.proofs.lemmas.Slice.Eq.{bytes_eq-Decides}
use Rattle.gk_terms.specs.Dialled.{IsDialled, is_dialled, is_dialled_byte}
use Rattle.digit_patterns.specs.PatternParts.{PatternParts}
use Rattle.digit_patterns.specs.Pattern.{same_pattern}
use Rattle.gk_commands.specs.declared.commands.Command.{Command}
use Rattle.compiler.specs.Technology.{technology_of}
use Rattle.compiler.proofs.FirstRows.{same_pattern-same}
use Rattle.compiler.proofs.RowLemmas.{same_pattern-itself}
use Rattle.plan_difference.specs.declared.number_sets.NumberSet.{NumberSet}
use Rattle.plan_difference.specs.Entries.{Entry, group_of, same_set}
use Rattle.plan_difference.specs.Sets.{Covers, is_joint, set_of}
use Rattle.plan_difference.specs.Walk.{STARS, starred, text_of}
use Rattle.plan_difference.proofs.EntryLemmas.{same_texts}
use Rattle.difference_counts.specs.Ahead.{AreLiteral}
use Rattle.difference_report.specs.Groups.{is_own}
use Rattle.difference_report.specs.Headings.{shared_prefixes}
use Rattle.difference_report.specs.Laws.{HasOther, LengthsAreTold}
use Rattle.difference_report.specs.Lengths.{any_below, has_others, has_others_after, has_others_with, has_rows, is_other, is_other_rest, is_other_text, is_other_with, is_rest, length_after, may_follow, other_count, rest_row}
use Rattle.difference_report.specs.Shape.{shape_of}
use Rattle.difference_report.proofs.DialledLemmas.{fewer_stars, rest_is}
use Rattle.difference_report.proofs.Steps.{IsLeast, any_at, least_of}
use Rattle.difference_report.proofs.LengthLemmas.{IsFilled, alike_without_star, any_shared, filled, is_filled, lead, old_after, own_is, rest_rows, set_after, set_if, sizes, stars_after, stem, z}

-- ---- tests
or_first : (c d : Bool) → c ≡ true → (c || d) ≡ true
or_first true d h = refl
or_first false d h = absurd (true≢false (sym h))

or_second : (c d : Bool) → d ≡ true → (c || d) ≡ true
or_second true d h = refl
or_second false d h = h

one_of : (c d : Bool) {P : Type 0} → (c || d) ≡ true → (c ≡ true → P) → (d ≡ true → P) → P
one_of true d h first second = first refl
one_of false d h first second = second h

other_number : (n m : ℕ) → ¬ (n ≡ m) → not (n == m) ≡ true
other_number n m differs = by (n == m) refl
  where
    by : (t : Bool) → (n == m) ≡ t → not t ≡ true
    by true e = let same : n ≡ m = grind (arith, nat_tests) in absurd (differs same)
    by false e = refl

not_same_number : (n m : ℕ) → not (n == m) ≡ true → ¬ (n ≡ m)
not_same_number n m h e = by (n == m) refl h
  where
    by : (t : Bool) → (n == m) ≡ t → not t ≡ true → ⊥
    by true f g = true≢false (sym g)
    by false f g = let bad : ⊥ = grind (arith, nat_tests) in bad

record Passes {X : Type 0} (test : X → Bool) : Type 0 where
  pub one : X
  pub passes : test one ≡ true

some_below : (test : ℕ → Bool) (most : ℕ) → any_below test most ≡ true → Passes test
some_below test zero h = absurd (true≢false (sym h))
some_below test (suc most) h =
    one_of (any_below test most) (test most) h (some_below test most)
    (λ e. record { one = most; passes = e })

some_of : {X : Type 0} (test : X → Bool) (list : List X) → list_any test list ≡ true → Passes test
some_of test [] h = absurd (true≢false (sym h))
some_of test (x ∷ list) h =
    one_of (test x) (list_any test list) h (λ e. record { one = x; passes = e })
    (some_of test list)

-- ---- the test of two sets
patterns_same : (x y : Option PatternParts) → option_eq same_pattern x y ≡ true → x ≡ y
patterns_same None None e = refl
patterns_same None (Some y) e = absurd (true≢false (sym e))
patterns_same (Some x) None e = absurd (true≢false (sym e))
patterns_same (Some x) (Some y) e = ap (λ p. Some p) (same_pattern-same x y e)

pub sets_same : (set other : NumberSet) → same_set set other ≡ true → set ≡ other
sets_same set other e =
    let d = and_parts (option_eq bytes_eq set.old_technology other.old_technology)
    (option_eq bytes_eq set.new_technology other.new_technology
    && (option_eq same_pattern set.old_row other.old_row
    && option_eq same_pattern set.new_row other.new_row)) e in
    let f = and_parts (option_eq bytes_eq set.new_technology other.new_technology)
    (option_eq same_pattern set.old_row other.old_row
    && option_eq same_pattern set.new_row other.new_row) d.1 in
    let g = and_parts (option_eq same_pattern set.old_row other.old_row)
    (option_eq same_pattern set.new_row other.new_row) f.1 in
    let s = same_texts set.old_technology other.old_technology d.0 in
    let t = same_texts set.new_technology other.new_technology f.0 in
    let p = patterns_same set.old_row other.old_row g.0 in
    let q = patterns_same set.new_row other.new_row g.1 in
    λ i. record { old_technology = s i; new_technology = t i; old_row = p i; new_row = q i }

row_itself : (row : Option PatternParts) → option_eq same_pattern row row ≡ true
row_itself None = refl
row_itself (Some pattern) = same_pattern-itself pattern

pub set_itself : (set : NumberSet) → same_set set set ≡ true
set_itself set =
    λ i. text set.old_technology i && (text set.new_technology i
    && (row_itself set.old_row i && row_itself set.new_row i))
  where
    text : (x : Option (List ℕ)) → option_eq bytes_eq x x ≡ true
    text None = refl
    text (Some x) = (bytes_eq-Decides x x).1 refl

rows_are : (set : NumberSet) (old_row new_row : Option PatternParts) → old_row ≡ set.old_row
    → new_row ≡ set.new_row
    → (option_eq same_pattern old_row set.old_row && option_eq same_pattern new_row set.new_row)
    ≡ true
rows_are set old_row new_row e f =
    and_from (option_eq same_pattern old_row set.old_row)
    (option_eq same_pattern new_row set.new_row)
    (ap (λ row. option_eq same_pattern row set.old_row) e ∙ row_itself set.old_row)
    (ap (λ row. option_eq same_pattern row set.new_row) f ∙ row_itself set.new_row)

-- ---- what is said is so
module _ (old new : List Command) (entry : Entry) where
  from_text : (text : List ℕ) → is_other_text old new entry text ≡ true → HasOther old new entry
  unfolding is_other_text
  from_text text h =
      let d = and_parts (is_dialled text) (is_other old new entry text) h in
      let f = and_parts (same_set (set_of old new text) entry.0)
      (not (length_after old (entry.0, text) == length_after old entry)) d.1 in
      record {
        digits = text;
        covers = (d.0, sets_same (set_of old new text) entry.0 f.0);
        differs = not_same_number (length_after old (entry.0, text)) (length_after old entry) f.1;
      }

  from_front : (front : List ℕ) → has_others_after old new entry front ≡ true
      → HasOther old new entry
  unfolding has_others_after
  from_front front h =
      let some = some_below (is_other_with old new entry front) STARS h in
      from_text (starred (front ++ (shape_of entry.0).literals) some.one) some.passes

  module _ (count : ℕ) where
    abbrev after : List ℕ → Bool
    after front = is_other_with old new entry front count

    from_after : (front : List ℕ) → after front ≡ true → HasOther old new entry
    from_after front = from_text (starred (front ++ (shape_of entry.0).literals) count)

    from_shared : list_any after (shared_prefixes old new) ≡ true → HasOther old new entry
    from_shared h =
        let some = some_of after (shared_prefixes old new) h in from_after some.one some.passes

  from_with : (count : Option ℕ) → has_others_with old new entry count ≡ true
      → HasOther old new entry
  from_with None h = absurd (true≢false (sym h))
  from_with (Some count) h =
      one_of (after count (text_of (technology_of old entry.1)))
      (has_others_after old new entry [] || list_any (after count) (shared_prefixes old new)) h
      (from_after count (text_of (technology_of old entry.1)))
      (λ others. one_of (has_others_after old new entry [])
      (list_any (after count) (shared_prefixes old new)) others (from_front [])
      (from_shared count))

  is_so : has_others old new entry ≡ true → HasOther old new entry
  unfolding has_others
  is_so h =
      by (is_own (group_of entry.0))
      (and_parts (shape_of entry.0).star
      (cond (is_own (group_of entry.0)) (has_others_after old new entry [])
      (has_others_with old new entry (other_count old new entry))) h).1
    where
      by : (own : Bool) → cond own (has_others_after old new entry [])
          (has_others_with old new entry (other_count old new entry)) ≡ true
          → HasOther old new entry
      by true = from_front []
      by false = from_with (other_count old new entry)

-- ---- what is so is said
module _ (old new : List Command) (old_literal : AreLiteral old) (new_literal : AreLiteral new)
    (digits x : List ℕ) (dialled : IsDialled x) where
  abbrev set : Bool → NumberSet
  set joint = set_if old new x joint

  module _ (joint : Bool)
      (e : is_joint old new (technology_of old x) (technology_of new x) ≡ joint)
      (differs : ¬ (length_after old (set joint, x) ≡ length_after old (set joint, digits)))
    where
      abbrev text : List ℕ
      text = filled old new x joint

      is : IsFilled old new x joint
      is = is_filled old new x old_literal new_literal joint e

      of_set : set_of old new text ≡ set joint
      of_set = is.set ∙ ap (set_if old new x) e

      same_length : length_after old (set joint, text) ≡ length_after old (set joint, x)
      same_length =
          λ i. is.size i
          - length (cond (is_own (group_of (set joint))) [] (text_of (is.technology i)))

      text_passes : is_other_text old new (set joint, digits) text ≡ true
      unfolding is_other_text
      text_passes =
          and_from (is_dialled text) (is_other old new (set joint, digits) text)
          (is.dialled dialled)
          (and_from (same_set (set_of old new text) (set joint))
          (not (length_after old (set joint, text) == length_after old (set joint, digits)))
          (ap (λ s. same_set s (set joint)) of_set ∙ set_itself (set joint))
          (other_number (length_after old (set joint, text)) (length_after old (set joint, digits))
          (λ same. differs (sym same_length ∙ same))))

      few : length (z old new x joint) < 33
      few =
          let low = within dialled in let short = is.shorter in omega (arith, low, short)
        where
          high : (c d t : Bool) → (c && d && t) ≡ true → d ≡ true
          high true true t h = refl
          high true false t h = absurd (true≢false (sym h))
          high false d t h = absurd (true≢false (sym h))

          within : IsDialled x → length x ≤ 32
          within h =
              let f : nat_le (length x) 32 ≡ true =
              high (nat_le 1 (length x)) (nat_le (length x) 32)
              (list_all is_dialled_byte x) h in
              grind (arith, nat_tests)

      front_passes : has_others_after old new (set joint, digits) (lead old new x joint) ≡ true
      unfolding has_others_after
      front_passes =
          any_at (is_other_with old new (set joint, digits) (lead old new x joint))
          (length (z old new x joint)) STARS few text_passes

  -- of the joint group: with the least number of stars that may follow a technology prefix
  module _ (e : is_joint old new (technology_of old x) (technology_of new x) ≡ true)
      (differs : ¬ (length_after old (set true, x) ≡ length_after old (set true, digits))) where
    abbrev known : ℕ
    known = length_after old (set true, digits)

    abbrev front : List ℕ
    front = text_of (technology_of old x)

    abbrev rest : ℕ → List ℕ
    rest count = starred (stem old new x) count

    abbrev whole : ℕ → List ℕ
    whole count = starred (front ++ stem old new x) count

    abbrev count : ℕ
    count = length (z old new x true)

    filled_is : IsFilled old new x true
    filled_is = is_filled old new x old_literal new_literal true e

    rest_length : length_after old (set true, x) ≡ length (rest count)
    rest_length =
        let size = filled_is.size in
        let more = sizes old new x count in
        (let is : length x - length front ≡ length (rest count) = omega (arith, size, more) in is)

    rest_follows : may_follow old new (set true) known count ≡ true
    unfolding may_follow
    rest_follows =
        and_from (not (length (rest count) == known))
        (is_rest (rest count) && has_rows old new (set true) (rest count))
        (other_number (length (rest count)) known (λ same. differs (rest_length ∙ same)))
        (and_from (is_rest (rest count)) (has_rows old new (set true) (rest count))
        (rest_is front (rest count)
        (subst IsDialled (stars_after front (stem old new x) count) (filled_is.dialled dialled)))
        (rows_are (set true) (rest_row old (rest count)) (rest_row new (rest count))
        (rest_rows old new x old_literal new_literal e).0
        (rest_rows old new x old_literal new_literal e).1))

    least : IsLeast (may_follow old new (set true) known) STARS count
    least =
        least_of (may_follow old new (set true) known) count STARS (few true e differs)
        rest_follows

    least_is : other_count old new (set true, digits) ≡ Some least.one
    unfolding other_count
    least_is = least.is

    least_follows : is_other_rest old new (set true) known (rest least.one) ≡ true
    unfolding may_follow
    least_follows = least.passes

    least_rows : has_rows old new (set true) (rest least.one) ≡ true
    least_rows =
        (and_parts (is_rest (rest least.one)) (has_rows old new (set true) (rest least.one))
        (and_parts (not (length (rest least.one) == known))
        (is_rest (rest least.one) && has_rows old new (set true) (rest least.one))
        least_follows).1).1

    least_set : set_of old new (whole least.one) ≡ set true
    least_set =
        let rows = and_parts
        (option_eq same_pattern (rest_row old (rest least.one)) (set true).old_row)
        (option_eq same_pattern (rest_row new (rest least.one)) (set true).new_row) least_rows in
        set_after old new x old_literal new_literal e least.one
        (patterns_same (rest_row old (rest least.one)) (set true).old_row rows.0)
        (patterns_same (rest_row new (rest least.one)) (set true).new_row rows.1)

    least_length : length_after old (set true, whole least.one) ≡ length (rest least.one)
    least_length =
        let more = sizes old new x least.one in
        ap (λ t. length (whole least.one) - length (text_of t))
        (old_after old new x old_literal new_literal e least.one)
        ∙ (let is : length (whole least.one) - length front ≡ length (rest least.one) =
        omega (arith, more) in is)

    least_passes : 1 ≤ length front
        → is_other_with old new (set true, digits) front least.one ≡ true
    unfolding is_other_text
    least_passes some =
        and_from (is_dialled (whole least.one))
        (is_other old new (set true, digits) (whole least.one))
        (fewer_stars (front ++ stem old new x) least.one count least.low
        (let size = length-append front (stem old new x) in omega (arith, some, size))
        (filled_is.dialled dialled))
        (and_from (same_set (set_of old new (whole least.one)) (set true))
        (not (length_after old (set true, whole least.one) == known))
        (ap (λ s. same_set s (set true)) least_set ∙ set_itself (set true))
        (ap (λ n. not (n == known)) least_length
        ∙ (and_parts (not (length (rest least.one) == known))
        (is_rest (rest least.one) && has_rows old new (set true) (rest least.one))
        least_follows).0))

    -- after the technology prefix of the other digits, unless that is empty
    abbrev least_after : List ℕ → Bool
    least_after text = is_other_with old new (set true, digits) text least.one

    abbrev alone : Bool
    alone = has_others_after old new (set true, digits) []

    said_alone : front ≡ [] → (alone || list_any least_after (shared_prefixes old new)) ≡ true
    said_alone h =
        or_first alone (list_any least_after (shared_prefixes old new))
        (ap (has_others_after old new (set true, digits)) (sym h) ∙ front_passes true e differs)

    said_after : (t : Option (List ℕ)) → technology_of old x ≡ t
        → (alone || list_any least_after (shared_prefixes old new)) ≡ true
    said_after None f = said_alone (ap text_of f)
    said_after (Some []) f = said_alone (ap text_of f)
    said_after (Some (c ∷ prefix)) f =
        or_second alone (list_any least_after (shared_prefixes old new))
        (any_shared old new x (c ∷ prefix) least_after f e
        (ap (λ t. least_after (text_of t)) (sym f)
        ∙ least_passes (subst (λ t. 1 ≤ length (text_of t)) (sym f) (omega arith))))

    said_joint : has_others_with old new (set true, digits)
        (other_count old new (set true, digits)) ≡ true
    said_joint =
        ap (has_others_with old new (set true, digits)) least_is
        ∙ or_second (least_after (text_of (technology_of old digits)))
        (alone || list_any least_after (shared_prefixes old new))
        (said_after (technology_of old x) refl)

  abbrev either : Bool → Bool
  either joint =
      cond (is_own (group_of (set joint))) (has_others_after old new (set joint, digits) [])
      (has_others_with old new (set joint, digits) (other_count old new (set joint, digits)))

  said : (joint : Bool)
      → is_joint old new (technology_of old x) (technology_of new x) ≡ joint
      → ¬ (length_after old (set joint, x) ≡ length_after old (set joint, digits))
      → either joint ≡ true
  said false e differs =
      ap (λ own. cond own (has_others_after old new (set false, digits) [])
      (has_others_with old new (set false, digits) (other_count old new (set false, digits))))
      (own_is old new x e)
      ∙ front_passes false e differs
  said true e differs = said_joint e differs

-- ---- the law
module _ (old new : List Command) (entry : Entry) (covers : Covers old new entry.0 entry.1)
    (other : HasOther old new entry) where
  star : (t : Bool) → (shape_of entry.0).star ≡ t → t ≡ true
  star true e = refl
  star false e =
      absurd (other.differs (alike_without_star old new entry.0 other.digits entry.1
      other.covers.1 covers.1 e))

  abbrev others : NumberSet → Bool
  others set =
      cond (is_own (group_of set)) (has_others_after old new (set, entry.1) [])
      (has_others_with old new (set, entry.1) (other_count old new (set, entry.1)))

  is_said : AreLiteral old → AreLiteral new → has_others old new entry ≡ true
  unfolding has_others
  is_said old_literal new_literal =
      and_from (shape_of entry.0).star (others entry.0) (star (shape_of entry.0).star refl)
      (subst (λ (s : NumberSet).
      ¬ (length_after old (s, other.digits) ≡ length_after old (s, entry.1)) → others s ≡ true)
      other.covers.1
      (said old new old_literal new_literal entry.1 other.digits other.covers.0
      (is_joint old new (technology_of old other.digits) (technology_of new other.digits)) refl)
      other.differs)

pub lengths_are_told : (old new : List Command) → AreLiteral old → AreLiteral new
    → LengthsAreTold old new
lengths_are_told old new old_literal new_literal entry covers = (
  is_so old new entry,
  λ other. is_said old new entry covers other old_literal new_literal,
)
