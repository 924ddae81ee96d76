-- The number of a place is that of its set.
use Rattle.std.proofs.Common.{◌≡◌, ℕ, zero, suc, ◌+◌, ◌<◌, ◌≤◌, ◌==◌, ◌&&◌, Bool, true, false, cond, nat_lt, List, [], ◌∷◌, length, map, get_or, slice_get, refl, sym, ap, ◌∙◌, arith, tests, true≢false}
use Rattle.std.specs.Prelude.{Option, Some, None, position, replicate, unwrap_or, bytes_eq}
use Rattle.std.specs.List.{position_or_len, sum, sum_by}
use Rattle.std.specs.Map.{keys_of}
use Rattle.std.specs.Option.{option_eq}
use Rattle.std.proofs.lemmas.Bool.{and_parts, eqb-true}
use Rattle.std.proofs.lemmas.List.{length-replicate}
use Rattle.std.proofs.lemmas.Bool.Decides.{nat_tests}
use Rattle.std.proofs.lemmas.List.Quantifiers.{position-Some}
use Rattle.std.proofs.lemmas.List.Sums.{position_or_len_is, sum_by-cons}
use Rattle.std.proofs.lemmas.Map.Entries.{length-keys_of}
use Rattle.std.proofs.lemmas.Option.{slice_get_within}
use Rattle.digit_patterns.specs.PatternParts.{PatternParts}
use Rattle.digit_patterns.specs.Pattern.{same_pattern}
use Rattle.gk_commands.specs.declared.commands.Command.{Command}
use Rattle.compiler.proofs.FirstRows.{same_pattern-same}
use Rattle.compiler.proofs.RowLemmas.{same_pattern-itself}
use Rattle.std.proofs.lemmas.Slice.Eq.{bytes_eq-Decides}
use Rattle.plan_difference.specs.declared.number_sets.NumberSet.{NumberSet}
use Rattle.plan_difference.specs.Entries.{Entry, Entries, EntryAt, AreOnce, same_set}
use Rattle.plan_difference.specs.Sets.{set_of}
use Rattle.plan_difference.proofs.EntryLemmas.{same_texts}
use Rattle.difference_counts.specs.Counted.{number_in, numbers_in}
use Rattle.difference_counts.specs.Numbers.{CHARACTERS, up_to, how_many}
use Rattle.difference_counts.specs.Places.{is_just}
use Rattle.difference_counts.specs.Walk.{GrewBy, place_of, below, first_below}

-- ---- the test of two sets
same_patterns : (x y : Option PatternParts) → option_eq same_pattern x y ≡ true → x ≡ y
same_patterns None None e = refl
same_patterns None (Some y) e = absurd (true≢false (sym e))
same_patterns (Some x) None e = absurd (true≢false (sym e))
same_patterns (Some x) (Some y) e = ap (λ z. Some z) (same_pattern-same x y e)

pub sets_same : (set other : NumberSet) → same_set set other ≡ true → set ≡ other
sets_same set other e =
    let a = and_parts (option_eq bytes_eq set.old_technology other.old_technology)
    (option_eq bytes_eq set.new_technology other.new_technology
    && (option_eq same_pattern set.old_row other.old_row
    && option_eq same_pattern set.new_row other.new_row)) e in
    let b = and_parts (option_eq bytes_eq set.new_technology other.new_technology)
    (option_eq same_pattern set.old_row other.old_row
    && option_eq same_pattern set.new_row other.new_row) a.1 in
    let d = and_parts (option_eq same_pattern set.old_row other.old_row)
    (option_eq same_pattern set.new_row other.new_row) b.1 in
    let p = same_texts set.old_technology other.old_technology a.0 in
    let q = same_texts set.new_technology other.new_technology b.0 in
    let r = same_patterns set.old_row other.old_row d.0 in
    let s = same_patterns set.new_row other.new_row d.1 in
    λ i. record { old_technology = p i; new_technology = q i; old_row = r i; new_row = s i }

option_itself : {X : Type 0} (eq : X → X → Bool) → ((x : X) → eq x x ≡ true)
    → (x : Option X) → option_eq eq x x ≡ true
option_itself eq h None = refl
option_itself eq h (Some x) = h x

set_itself : (set : NumberSet) → same_set set set ≡ true
set_itself set =
    let text = option_itself bytes_eq (λ x. (bytes_eq-Decides x x).1 refl) in
    let pattern = option_itself same_pattern same_pattern-itself in
    let a = text set.old_technology in
    let b = text set.new_technology in
    let d = pattern set.old_row in
    λ i. both (a i) (both (b i) (both (d i) (pattern set.new_row i)))
  where
    both : Bool → Bool → Bool
    both x y = x && y

-- ---- each set once
pub record AreApart (sets : List NumberSet) : Type 0 where
  pub apart : (place other : ℕ) (set : NumberSet) → slice_get sets place ≡ Some set
      → slice_get sets other ≡ Some set → place ≡ other

record HasDigits (entries : Entries) (place : ℕ) (set : NumberSet) : Type 0 where
  pub digits : List ℕ
  pub stands : EntryAt entries place set digits

digits_at : (entries : Entries) (place : ℕ) (set : NumberSet)
    → slice_get (keys_of entries) place ≡ Some set → HasDigits entries place set
digits_at [] place set at = absurd (let bad : ⊥ = cc in bad)
digits_at (entry ∷ entries) zero set at = record {
  digits = entry.1;
  stands = ap (λ o. some_entry (unwrap_or o entry.0) entry.1) at;
}
  where
    some_entry : NumberSet → List ℕ → Option Entry
    some_entry one text = Some (one, text)
digits_at (entry ∷ entries) (suc place) set at =
    let there = digits_at entries place set at in
    record { digits = there.digits; stands = there.stands }

pub are_apart : (entries : Entries) → AreOnce entries → AreApart (keys_of entries)
are_apart entries once = record {
  apart = λ place other set at there.
      let a = digits_at entries place set at in
      let b = digits_at entries other set there in
      once place other set a.digits b.digits a.stands b.stands;
}

-- ---- no two places pass
at_within : {X : Type 0} (xs : List X) (place : ℕ) (d : X) → place < length xs
    → slice_get xs place ≡ Some (get_or xs place d)
at_within [] place d h = absurd (omega (arith, h))
at_within (x ∷ xs) zero d h = refl
at_within (x ∷ xs) (suc place) d h = at_within xs place d (omega (arith, h))

only_place : {X : Type 0} (test : X → Bool) (xs : List X) (place : ℕ) (x : X)
    → slice_get xs place ≡ Some x
    → ((one other : ℕ) (y z : X) → slice_get xs one ≡ Some y → slice_get xs other ≡ Some z
    → test y ≡ true → test z ≡ true → one ≡ other)
    → is_just place (position test xs) ≡ test x
only_place {X} test xs place x at only = by (test x) refl
  where
    within : place < length xs
    within = slice_get_within xs place x at

    at_of : (k : ℕ) → k < length xs → slice_get xs k ≡ Some (get_or xs k x)
    at_of k h = at_within xs k x h

    itself : (n : ℕ) → (n == n) ≡ true
    itself n = search (arith, tests)

    passes_there : test (get_or xs place x) ≡ test x
    passes_there = ap (λ o. test (unwrap_or o x)) (sym (at_of place within) ∙ at)

    before : test x ≡ true → (k : ℕ) → k < place → (t : Bool) → test (get_or xs k x) ≡ t
        → test (get_or xs k x) ≡ false
    before passes k h true e =
        let same = only k place (get_or xs k x) x
        (at_of k (let w : k < length xs = omega (arith, h, within) in w)) at e passes in
        absurd (omega (arith, h, same))
    before passes k h false e = e

    elsewhere : (i : ℕ) → test (get_or xs i x) ≡ true → test x ≡ false → (t : Bool)
        → (i == place) ≡ t → (i == place) ≡ false
    elsewhere i passes fails true e =
        absurd (true≢false (sym passes ∙ ap (λ k. test (get_or xs k x)) (eqb-true i place e)
        ∙ passes_there ∙ fails))
    elsewhere i passes fails false e = e

    found : (r : Option ℕ) → position test xs ≡ r → test x ≡ false
        → is_just place r ≡ false
    found None e f = refl
    found (Some i) e f = elsewhere i (position-Some test xs i x e).1 f (i == place) refl

    by : (t : Bool) → test x ≡ t → is_just place (position test xs) ≡ test x
    by true e =
        let first : position_or_len test xs ≡ place =
        position_or_len_is test xs place x
        (let w : place ≤ length xs = omega (arith, within) in w)
        (λ k h. before e k h (test (get_or xs k x)) refl)
        (λ w. passes_there ∙ e) in
        let whole : position test xs ≡ Some place =
        (λ i. cond (nat_lt (first i) (length xs)) (Some (first i)) None)
        ∙ ap (λ t. cond t (Some place) None)
        (let w : nat_lt place (length xs) ≡ true = grind (arith, nat_tests, within) in w) in
        ap (is_just place) whole ∙ itself place ∙ sym e
    by false e =
        found (position test xs) refl e ∙ sym e

-- ---- the numbers of all places
same_numbers : {X : Type 0} (number : X → ℕ) (xs : List X) (numbers : List ℕ)
    → length numbers ≡ length xs
    → ((place : ℕ) (x : X) → slice_get xs place ≡ Some x → get_or numbers place 0 ≡ number x)
    → numbers ≡ map number xs
same_numbers number [] [] size h = refl
same_numbers number [] (n ∷ numbers) size h = absurd (omega (arith, size))
same_numbers number (x ∷ xs) [] size h = absurd (omega (arith, size))
same_numbers number (x ∷ xs) (n ∷ numbers) size h =
    (λ i. h 0 x refl i ∷ same_numbers number xs numbers
    (let e : length numbers ≡ length xs = omega (arith, size) in e)
    (λ place y at. h (suc place) y at) i)

zero_at : (count place : ℕ) → ◌≡◌ {A = ℕ} (get_or (replicate count 0) place 0) 0
zero_at zero place = refl
zero_at (suc count) zero = refl
zero_at (suc count) (suc place) = zero_at count place

pub sum_zeros : (count : ℕ) → sum (replicate count 0) ≡ 0
sum_zeros zero = refl
sum_zeros (suc count) =
    sum_by-cons (λ n. n) 0 (replicate count 0) ∙ ap (λ n. 0 + n) (sum_zeros count)

module _ (old new : List Command) (sets : List NumberSet) (apart : AreApart sets) (place : ℕ)
    (set : NumberSet) (at : slice_get sets place ≡ Some set) where
  placed_is : (text : List ℕ)
      → is_just place (place_of old new sets text) ≡ same_set (set_of old new text) set
  unfolding place_of
  placed_is text =
      only_place (same_set (set_of old new text)) sets place set at
      (λ one other y z first second passes also.
      apart.apart one other (set_of old new text)
      (first ∙ some_set (sym (sets_same (set_of old new text) y passes)))
      (second ∙ some_set (sym (sets_same (set_of old new text) z also))))
    where
      some_set : {y z : NumberSet} → y ≡ z → Some y ≡ Some z
      some_set e = ap (λ s. Some s) e

  first_below_is : first_below (place_of old new sets) place ≡ number_in old new set
  unfolding first_below below how_many
  first_below_is =
      λ i. sum_by (λ first. up_to 31 (λ rest. placed_is (first ∷ rest) i)) CHARACTERS

pub numbers_are : (old new : List Command) (entries : Entries) (numbers : List ℕ) (count : ℕ)
    → count ≡ length entries → length numbers ≡ count → AreOnce entries
    → GrewBy (replicate count 0) numbers (first_below (place_of old new (keys_of entries)))
    → numbers ≡ numbers_in old new entries
numbers_are old new entries numbers count size again once grew =
    same_numbers (number_in old new) (keys_of entries) numbers
    (again ∙ size ∙ sym (length-keys_of entries)) by
  where
    by : (place : ℕ) (set : NumberSet) → slice_get (keys_of entries) place ≡ Some set
        → get_or numbers place 0 ≡ number_in old new set
    by place set at =
        let within = slice_get_within (keys_of entries) place set at in
        let keys = length-keys_of entries in
        let zeros = length-replicate {A = ℕ} count 0 in
        let low : place < length (replicate {A = ℕ} count 0) =
        omega (arith, within, keys, zeros, size) in
        let whole : get_or numbers place 0
        ≡ get_or (replicate count 0) place 0
        + first_below (place_of old new (keys_of entries)) place =
        grew place low in
        let zero_there = zero_at count place in
        let number = first_below_is old new (keys_of entries) (are_apart entries once) place set at
        in
        omega (arith, whole, zero_there, number)

-- no set has no number
pub none_in : (old new : List Command) (entries : Entries) → (length entries == 0) ≡ true
    → [] ≡ numbers_in old new entries
none_in old new [] e = refl
none_in old new (entry ∷ entries) e =
    absurd (by (length entries) e)
  where
    by : (n : ℕ) → (suc n == 0) ≡ true → ⊥
    by n f = let no : suc n ≡ 0 = eqb-true (suc n) 0 f in omega (arith, no)
