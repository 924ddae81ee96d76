-- Technology prefixes that were learned beside the declared ones.
use Rattle.std.proofs.Common.{◌≡◌, ℕ, ◌||◌, ◌+◌, ◌<◌, ◌≤◌, Bool, true, false, cond, nat_lt, List, [], ◌∷◌, ◌++◌, length, take, drop, filter, slice_get, refl, sym, ap, subst, ◌∙◌, arith, true≢false}
use Rattle.std.specs.Prelude.{Option, Some, None, flat_map, bytes_eq}
use Rattle.std.specs.List.{list_any, filter_map}
use Rattle.std.specs.Cmp.Lexicographic.{same_text}
use Rattle.std.proofs.lemmas.Bool.Decides.{nat_tests}
use Rattle.std.proofs.lemmas.Cmp.{nat_list_eq_equiv}
use Rattle.std.proofs.lemmas.List.Folds.{Any-from_list_any, list_any-append}
use Rattle.gk_terms.specs.Choice.{first_unbeaten}
use Rattle.gk_terms.proofs.ChoiceLemmas.{first_unbeaten-IsFirstUnbeaten, first_unbeaten-none, IsRankOrder-by}
use Rattle.gk_commands.specs.declared.commands.Command.{Command}
use Rattle.gk_commands.specs.declared.commands.Command.TheVariants.{ZoneLocal, ZoneRemote, ZonePrefix, GwTypePrefix, RejectUnknownPrefix, BandwidthDefault, BandwidthZone, BandwidthRemote}
use Rattle.compiler.specs.Technology.{prefixes_of, begins_with, is_longer, longest_beginning, technology_of, technology_among, longest_learned, found_length, hopoffs_of, hopoffs_in}
use Rattle.compiler.specs.Pick.{picked}
use Rattle.compiler.specs.Plan.{plan_of, plan_with, plan_after, by_technology, by_hopoff, LearnsNothing, LearnedIsNoLonger, LearnedIsLonger}
use Rattle.compiler.specs.TablesIndex.{is_among}
use Rattle.compiler.proofs.TechnologyLemmas.{in_filter, filter_keeps, begins_is}

-- one of these with which the digits begin, such that no other is longer
pub record IsLongestOf (xs : List (List ℕ)) (digits p : List ℕ) : Type 0 where
  pub listed : is_among xs p ≡ true
  pub begins : begins_with digits p ≡ true
  pub longest : (q : List ℕ) → is_among xs q ≡ true → begins_with digits q ≡ true
      → length q ≤ length p

-- the digits begin with none of these
abbrev pub BeginsNone : List (List ℕ) → List ℕ → Type 0
BeginsNone xs digits = (q : List ℕ) → is_among xs q ≡ true → begins_with digits q ≡ true → ⊥

module _ (xs : List (List ℕ)) (digits : List ℕ) where
  abbrev those : List (List ℕ)
  those = filter (begins_with digits) xs

  pub is_longest : (p : List ℕ) → longest_beginning xs digits ≡ Some p → IsLongestOf xs digits p
  is_longest p e =
      let first = first_unbeaten-IsFirstUnbeaten is_longer those p e in
      let r = in_filter (begins_with digits) xs first.place p first.stands in
      record {
        listed = r.1;
        begins = r.0;
        longest = λ q there begins.
            let kept = filter_keeps (begins_with digits) xs q there begins in
            let other = Any-from_list_any (λ one. bytes_eq one q) those kept in
            let same : other.1 ≡ q = same_text other.1 q (sym other.4) in
            let unbeaten : is_longer other.1 p ≡ false =
            ap (λ x. is_longer x p) (sym other.3) ∙ first.unbeaten other.0 other.1 other.2 in
            let low : nat_lt (length p) (length q) ≡ false =
            ap (λ x. is_longer x p) (sym same) ∙ unbeaten in
            grind (arith, nat_tests);
      }

  pub is_none : longest_beginning xs digits ≡ None → BeginsNone xs digits
  is_none e q there begins =
      let empty = first_unbeaten-none is_longer (IsRankOrder-by length) those e in
      let kept = filter_keeps (begins_with digits) xs q there begins in
      true≢false (sym kept ∙ ap (λ ys. is_among ys q) empty)

  pub none_from : BeginsNone xs digits → longest_beginning xs digits ≡ None
  none_from none = by (longest_beginning xs digits) refl
    where
      by : (o : Option (List ℕ)) → longest_beginning xs digits ≡ o
          → longest_beginning xs digits ≡ None
      by None e = e
      by (Some p) e =
          let l = is_longest p e in absurd (none p l.listed l.begins)

  pub longest_from : (p : List ℕ) → IsLongestOf xs digits p → longest_beginning xs digits ≡ Some p
  longest_from p l = by (longest_beginning xs digits) refl
    where
      by : (o : Option (List ℕ)) → longest_beginning xs digits ≡ o
          → longest_beginning xs digits ≡ Some p
      by None e = absurd (is_none e p l.listed l.begins)
      by (Some q) e =
          let m = is_longest q e in
          let one = l.longest q m.listed m.begins in
          let two = m.longest p l.listed l.begins in
          let size : length q ≡ length p = omega (arith, one, two) in
          e ∙ ap (λ text. Some text)
          (begins_is digits q m.begins ∙ ap (λ n. take n digits) size
          ∙ sym (begins_is digits p l.begins))

-- ---- two lists
among_both : (xs ys : List (List ℕ)) (q : List ℕ)
    → is_among (xs ++ ys) q ≡ (is_among xs q || is_among ys q)
among_both xs ys q = list_any-append (λ one. bytes_eq one q) xs ys

-- of the longer ones of a list
abbrev longer_ones : List (List ℕ) → ℕ → List (List ℕ)
longer_ones learned least = filter (λ prefix. nat_lt least (length prefix)) learned

later : (t b : Bool) → b ≡ true → (t || b) ≡ true
later true b e = refl
later false b e = e

-- what is among those that a filter keeps is among all, and passes
pub among_filter : (f : List ℕ → Bool) (xs : List (List ℕ)) (q : List ℕ)
    → is_among (filter f xs) q ≡ true → (is_among xs q ≡ true) × (f q ≡ true)
among_filter f [] q h = absurd (true≢false (sym h))
among_filter f (x ∷ xs) q h = by (f x) refl (bytes_eq x q) refl (among_filter f xs q) h
  where
    by : (t : Bool) → f x ≡ t → (s : Bool) → bytes_eq x q ≡ s
        → (is_among (filter f xs) q ≡ true → (is_among xs q ≡ true) × (f q ≡ true))
        → is_among (cond t (x ∷ filter f xs) (filter f xs)) q ≡ true
        → (is_among (x ∷ xs) q ≡ true) × (f q ≡ true)
    by true e true i rest g =
        (ap (λ t. t || is_among xs q) i, ap f (sym (same_text x q (sym i))) ∙ e)
    by true e false i rest g =
        let r = rest (ap (λ t. t || is_among (filter f xs) q) (sym i) ∙ g) in
        (later (bytes_eq x q) (is_among xs q) r.0, r.1)
    by false e s i rest g =
        let r = rest g in (later (bytes_eq x q) (is_among xs q) r.0, r.1)

-- a prefix that is not declared has no hop-off zones
no_hopoffs : (commands : List Command) (prefix : List ℕ)
    → is_among (prefixes_of commands) prefix ≡ false → hopoffs_of commands prefix ≡ []
no_hopoffs [] prefix h = refl
no_hopoffs (ZoneLocal name domain address ∷ commands) prefix h = no_hopoffs commands prefix h
no_hopoffs (ZoneRemote name domain address cost priority ∷ commands) prefix h =
    no_hopoffs commands prefix h
no_hopoffs (ZonePrefix zone pattern gateways ∷ commands) prefix h = no_hopoffs commands prefix h
no_hopoffs (GwTypePrefix declared hopoffs is_default ∷ commands) prefix h =
    by (bytes_eq declared prefix) h (no_hopoffs commands prefix)
  where
    by : (t : Bool) → (t || is_among (prefixes_of commands) prefix) ≡ false
        → (is_among (prefixes_of commands) prefix ≡ false → hopoffs_of commands prefix ≡ [])
        → (cond t hopoffs [] ++ hopoffs_of commands prefix) ≡ []
    by true g rest = absurd (true≢false g)
    by false g rest = rest g
no_hopoffs (RejectUnknownPrefix ∷ commands) prefix h = no_hopoffs commands prefix h
no_hopoffs (BandwidthDefault kind size ∷ commands) prefix h = no_hopoffs commands prefix h
no_hopoffs (BandwidthZone kind zone size ∷ commands) prefix h = no_hopoffs commands prefix h
no_hopoffs (BandwidthRemote size ∷ commands) prefix h = no_hopoffs commands prefix h

-- ---- beside the declared prefixes
module _ (learned : List (List ℕ)) (commands : List Command) (digits : List ℕ) where
  -- one of both is one of the learned or one of the declared
  split : (q : List ℕ) {A : Type 0} → is_among (learned ++ prefixes_of commands) q ≡ true
      → (is_among learned q ≡ true → A) → (is_among (prefixes_of commands) q ≡ true → A) → A
  split q {A} h one two =
      by (is_among learned q) refl (sym (among_both learned (prefixes_of commands) q) ∙ h)
    where
      by : (t : Bool) → is_among learned q ≡ t → (t || is_among (prefixes_of commands) q) ≡ true → A
      by true e g = one e
      by false e g = two g

  first_among : (q : List ℕ) → is_among learned q ≡ true
      → is_among (learned ++ prefixes_of commands) q ≡ true
  first_among q h =
      among_both learned (prefixes_of commands) q
      ∙ ap (λ t. t || is_among (prefixes_of commands) q) h

  second_among : (q : List ℕ) → is_among (prefixes_of commands) q ≡ true
      → is_among (learned ++ prefixes_of commands) q ≡ true
  second_among q h =
      among_both learned (prefixes_of commands) q
      ∙ later (is_among learned q) (is_among (prefixes_of commands) q) h

  -- none longer than this is learned, so each is at most as long
  at_most : (least : ℕ) → longest_learned learned digits least ≡ None
      → (q : List ℕ) → is_among learned q ≡ true → begins_with digits q ≡ true → length q ≤ least
  at_most least none q there begins = by (nat_lt least (length q)) refl
    where
      by : (t : Bool) → nat_lt least (length q) ≡ t → length q ≤ least
      by true e =
          absurd (is_none (longer_ones learned least) digits none q
          (filter_keeps (λ prefix. nat_lt least (length prefix)) learned q there e) begins)
      by false e = grind (arith, nat_tests)

  same_technology : (declared : Option (List ℕ)) → technology_of commands digits ≡ declared
      → longest_learned learned digits (found_length declared) ≡ None
      → ((q : List ℕ) → is_among learned q ≡ true → 0 < length q)
      → technology_among learned commands digits ≡ declared
  same_technology None e none some =
      none_from (learned ++ prefixes_of commands) digits (λ q h begins.
      split q h
      (λ there. let short = at_most 0 none q there begins in
      let long = some q there in omega (arith, short, long))
      (λ there. is_none (prefixes_of commands) digits e q there begins))
  same_technology (Some p) e none some =
      let l = is_longest (prefixes_of commands) digits p e in
      longest_from (learned ++ prefixes_of commands) digits p (record {
        listed = second_among p l.listed;
        begins = l.begins;
        longest = λ q h begins. split q h (λ there. at_most (length p) none q there begins)
            (λ there. l.longest q there begins);
      })

  -- what is declared and begins the digits is at most as long as what was found
  declared_within : (declared : Option (List ℕ)) → technology_of commands digits ≡ declared
      → (q : List ℕ) → is_among (prefixes_of commands) q ≡ true → begins_with digits q ≡ true
      → length q ≤ found_length declared
  declared_within None e q there begins =
      absurd (is_none (prefixes_of commands) digits e q there begins)
  declared_within (Some p) e q there begins =
      (is_longest (prefixes_of commands) digits p e).longest q there begins

  module _ (prefix : List ℕ) (declared : Option (List ℕ))
      (e : technology_of commands digits ≡ declared)
      (h : longest_learned learned digits (found_length declared) ≡ Some prefix) where
    abbrev least : ℕ
    least = found_length declared

    found : IsLongestOf (longer_ones learned least) digits prefix
    found = is_longest (longer_ones learned least) digits prefix h

    is_there : (is_among learned prefix ≡ true) × (nat_lt least (length prefix) ≡ true)
    is_there = among_filter (λ p. nat_lt least (length p)) learned prefix found.listed

    is_long : least < length prefix
    is_long = let low = is_there.1 in grind (arith, nat_tests)

    longer_technology : technology_among learned commands digits ≡ Some prefix
    longer_technology =
        longest_from (learned ++ prefixes_of commands) digits prefix (record {
          listed = first_among prefix is_there.0;
          begins = found.begins;
          longest = λ q there begins. split q there (λ one. of_learned q one begins)
              (λ two. let short = declared_within declared e q two begins in
              let long = is_long in omega (arith, short, long));
        })
      where
        of_learned : (q : List ℕ) → is_among learned q ≡ true → begins_with digits q ≡ true
            → length q ≤ length prefix
        of_learned q one begins = by (nat_lt least (length q)) refl
          where
            by : (t : Bool) → nat_lt least (length q) ≡ t → length q ≤ length prefix
            by true i =
                found.longest q (filter_keeps (λ p. nat_lt least (length p)) learned q one i) begins
            by false i = let long = is_long in grind (arith, nat_tests)

    undeclared : is_among (prefixes_of commands) prefix ≡ false
    undeclared = by (is_among (prefixes_of commands) prefix) refl
      where
        by : (t : Bool) → is_among (prefixes_of commands) prefix ≡ t
            → is_among (prefixes_of commands) prefix ≡ false
        by true i =
            let short = declared_within declared e prefix i found.begins in
            let long = is_long in absurd (let bad : ⊥ = omega (arith, short, long) in bad)
        by false i = i

-- ---- the laws
pub learns_nothing : LearnsNothing
unfolding plan_with plan_of
learns_nothing commands digits = refl

pub learned_is_no_longer : LearnedIsNoLonger
unfolding plan_with plan_of
learned_is_no_longer learned commands digits none some =
    ap (by_technology commands digits)
    (same_technology learned commands digits (technology_of commands digits) refl none some)

pub learned_is_longer : LearnedIsLonger
unfolding plan_with plan_of
learned_is_longer learned commands digits prefix h =
    ap (by_technology commands digits)
    (longer_technology learned commands digits prefix (technology_of commands digits) refl h)
    ∙ ap (λ names. by_hopoff commands prefix (drop (length prefix) digits) (picked commands names))
    (no_hopoffs commands prefix
    (undeclared learned commands digits prefix (technology_of commands digits) refl h))
