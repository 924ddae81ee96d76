-- What is gathered of patterns and technology prefixes.
use Rattle.std.proofs.Common.{◌≡◌, ℕ, zero, suc, ◌<◌, ◌==◌, ◌&&◌, ◌||◌, Bool, true, false, nat_le, List, [], ◌∷◌, ◌++◌, length, map, slice_get, get_or, refl, sym, ap, ◌∙◌, arith, true≢false, append-nil, rules}
use Rattle.std.specs.Prelude.{Option, Some, None, Contains, option_map, unwrap_or}
use Rattle.std.specs.List.{list_all, cons_option}
use Rattle.std.specs.Char.{is_ascii_digit}
use Rattle.std.proofs.lemmas.Bool.{and_parts}
use Rattle.std.proofs.lemmas.Bool.Decides.{nat_tests}
use Rattle.std.proofs.lemmas.Cmp.{nat_list_eq_equiv}
use Rattle.std.proofs.lemmas.List.{map-append}
use Rattle.std.proofs.lemmas.List.Kept.{Contains-dedup, IsStrictlySortedBy-dedup}
use Rattle.std.proofs.lemmas.List.Sorted.{Contains-permutation}
use Rattle.std.specs.Cmp.Lexicographic.{options_equiv, options_total, nat_list_cmp_total, slice_cmp}
use Rattle.std.specs.Cmp.Rules.{comparing}
use Rattle.std.specs.List.{dedup}
use Rattle.std.specs.List.{AllByRecursion}
use Rattle.std.specs.List.Sorted.{IsPermutation, IsSorted, IsStrictlySortedBy}
use Rattle.std.specs.Option.{option_cmp, option_eq}
use Rattle.std.specs.Ordering.{eq_by_cmp, nat_cmp, ordering_reverse}
use Rattle.std.specs.declared.cmp.Ordering.TheVariants.{Less}
use Rattle.std.specs.Str.{bytes_eq}
use Rattle.digit_patterns.specs.Pattern.{same_pattern}
use Rattle.compiler.proofs.FirstRows.{same_pattern-same}
use Rattle.compiler.proofs.RowLemmas.{IsEquivalence-pattern}
use Rattle.plan_difference.proofs.EntryLemmas.{same_texts}
use Rattle.std.proofs.lemmas.List.Elements.{Contains-append_right, Contains-append_left}
use Rattle.std.specs.Bool.{then_some}
use Rattle.gk_terms.specs.Dialled.{dialled_of, is_dialled_byte}
use Rattle.gk_terms.specs.TechPrefix.{IsTechPrefix, is_technology_byte}
use Rattle.digit_patterns.specs.PatternParts.{PatternParts, IsPattern}
use Rattle.gk_commands.specs.declared.commands.Command.{Command}
use Rattle.compiler.specs.Rows.{ZoneRow, rows_of, row_of}
use Rattle.compiler.specs.Technology.{prefixes_of, prefix_in}
use Rattle.compiler.proofs.StepLemmas.{one_or_none, filter_map-more}
use Rattle.plan_difference.specs.Gathered.{Has, KeepsAll, HasPatterns, HasPrefixes, pattern_in, patterns_of, is_no_star, has_no_star}
use Rattle.plan_difference.specs.Order.{IsEachOnce}
use Rattle.plan_difference.specs.Walk.{Heads}

-- ---- places
pub item_at : {X : Type 0} (xs : List X) (place : ℕ) (x : X) → x ≡ get_or xs place x
    → place < length xs → slice_get xs place ≡ Some x
item_at [] place x e h = absurd (omega (arith, h))
item_at (y ∷ xs) zero x e h = ap (λ z. Some z) (sym e)
item_at (y ∷ xs) (suc place) x e h = item_at xs place x e (omega (arith, h))

pub has_from : {X : Type 0} (xs : List X) (x : X) → Contains xs x → Has xs x
has_from xs x c = record { place = c.0; stands = item_at xs c.0 x (sym c.2) c.1 }

pub contains_from : {X : Type 0} (xs : List X) (place : ℕ) (x : X) → slice_get xs place ≡ Some x
    → Contains xs x
contains_from [] place x e = absurd (let bad : ⊥ = cc in bad)
contains_from (y ∷ xs) zero x e = (0, omega arith, ap (λ o. unwrap_or o x) e)
contains_from (y ∷ xs) (suc place) x e =
    let c = contains_from xs place x e in
    let low = c.1 in (suc c.0, omega (arith, low), c.2)

-- ---- rows and their patterns
rows_patterns : (commands : List Command) (place : ℕ) (row : ZoneRow)
    → slice_get (rows_of commands) place ≡ Some row → Contains (patterns_of commands) row.0
rows_patterns commands place row e =
    contains_from (patterns_of commands) place row.0 (by commands place e)
  where
    by : (commands : List Command) (place : ℕ) → slice_get (rows_of commands) place ≡ Some row
        → slice_get (patterns_of commands) place ≡ Some row.0
    by [] place e = absurd (let bad : ⊥ = cc in bad)
    by (command ∷ commands) place e = one (row_of command) place e (by commands)
      where
        one : (o : Option ZoneRow) (place : ℕ)
            → slice_get (cons_option o (rows_of commands)) place ≡ Some row
            → ((place : ℕ) → slice_get (rows_of commands) place ≡ Some row
            → slice_get (patterns_of commands) place ≡ Some row.0)
            → slice_get (cons_option (option_map (λ r. r.0) o) (patterns_of commands)) place
            ≡ Some row.0
        one None place e rest = rest place e
        one (Some first) zero e rest = ap (option_map (λ r. r.0)) e
        one (Some first) (suc place) e rest = rest place e

prefixes_heads : (commands : List Command) (place : ℕ) (prefix : List ℕ)
    → slice_get (prefixes_of commands) place ≡ Some prefix
    → Contains (map (λ p. Some p) (prefixes_of commands)) (Some prefix)
prefixes_heads commands place prefix e =
    contains_from (map (λ p. Some p) (prefixes_of commands)) place (Some prefix)
    (by (prefixes_of commands) place e)
  where
    by : (xs : List (List ℕ)) (place : ℕ) → slice_get xs place ≡ Some prefix
        → slice_get (map (λ p. Some p) xs) place ≡ Some (Some prefix)
    by [] place e = absurd (let bad : ⊥ = cc in bad)
    by (x ∷ xs) zero e = ap (λ o. Some o) e
    by (x ∷ xs) (suc place) e = by xs place e

-- ---- lists of all of both configurations
module _ {X : Type 0} (first second third : List X) (after : List X)
    (kept : KeepsAll ((first ++ second) ++ third) after) where
  pub keeps_first : (x : X) → Contains first x → Has after x
  keeps_first x c =
      has_from after x (kept x (Contains-append_left (first ++ second) third x
      (Contains-append_left first second x c)))

  pub keeps_second : (x : X) → Contains second x → Has after x
  keeps_second x c =
      has_from after x (kept x (Contains-append_left (first ++ second) third x
      (Contains-append_right first second x c)))

  pub keeps_third : (x : X) → Contains third x → Has after x
  keeps_third x c = has_from after x (kept x (Contains-append_right (first ++ second) third x c))

module _ (old new : List Command) (first patterns : List PatternParts)
    (kept : KeepsAll ((first ++ patterns_of old) ++ patterns_of new) patterns) where
  pub has_old_patterns : HasPatterns patterns old
  has_old_patterns place row at =
      keeps_second first (patterns_of old) (patterns_of new) patterns kept row.0
      (rows_patterns old place row at)

  pub has_new_patterns : HasPatterns patterns new
  has_new_patterns place row at =
      keeps_third first (patterns_of old) (patterns_of new) patterns kept row.0
      (rows_patterns new place row at)

abbrev pub heads_of : List Command → Heads
heads_of commands = map (λ p. Some p) (prefixes_of commands)

module _ (old new : List Command) (first heads : Heads)
    (kept : KeepsAll (((first ++ None ∷ []) ++ heads_of old) ++ heads_of new) heads) where
  pub has_none : Has heads None
  has_none =
      keeps_first (first ++ None ∷ []) (heads_of old) (heads_of new) heads kept None
      (Contains-append_right first (None ∷ []) None (contains_from (None ∷ []) 0 None refl))

  pub has_old_prefixes : HasPrefixes heads old
  has_old_prefixes place prefix at =
      keeps_second (first ++ None ∷ []) (heads_of old) (heads_of new) heads kept (Some prefix)
      (prefixes_heads old place prefix at)

  pub has_new_prefixes : HasPrefixes heads new
  has_new_prefixes place prefix at =
      keeps_third (first ++ None ∷ []) (heads_of old) (heads_of new) heads kept (Some prefix)
      (prefixes_heads new place prefix at)

-- ---- one more command
pub patterns_more : (commands : List Command) (command : Command) (pattern : PatternParts)
    → pattern_in command ≡ Some pattern
    → patterns_of (commands ++ command ∷ []) ≡ patterns_of commands ++ pattern ∷ []
patterns_more commands command pattern e =
    filter_map-more pattern_in commands command
    ∙ ap (λ o. patterns_of commands ++ one_or_none o) e

pub patterns_same : (commands : List Command) (command : Command)
    → pattern_in command ≡ None → patterns_of (commands ++ command ∷ []) ≡ patterns_of commands
patterns_same commands command e =
    filter_map-more pattern_in commands command
    ∙ ap (λ o. patterns_of commands ++ one_or_none o) e ∙ append-nil (patterns_of commands)

pub prefixes_more : (commands : List Command) (command : Command) (prefix : List ℕ)
    → prefix_in command ≡ Some prefix
    → map (λ p. Some p) (prefixes_of (commands ++ command ∷ []))
    ≡ map (λ p. Some p) (prefixes_of commands) ++ Some prefix ∷ []
prefixes_more commands command prefix e =
    ap (map (λ p. Some p)) (filter_map-more prefix_in commands command
    ∙ ap (λ o. prefixes_of commands ++ one_or_none o) e)
    ∙ map-append (λ p. Some p) (prefixes_of commands) (prefix ∷ [])

pub prefixes_same : (commands : List Command) (command : Command)
    → prefix_in command ≡ None
    → map (λ p. Some p) (prefixes_of (commands ++ command ∷ []))
    ≡ map (λ p. Some p) (prefixes_of commands)
prefixes_same commands command e =
    ap (map (λ p. Some p)) (filter_map-more prefix_in commands command
    ∙ ap (λ o. prefixes_of commands ++ one_or_none o) e ∙ append-nil (prefixes_of commands))

-- ---- in order, and each once
pub patterns_kept : (before sorted : List PatternParts) → IsPermutation before sorted
    → KeepsAll before (dedup same_pattern sorted)
patterns_kept before sorted moved pattern c =
    Contains-dedup IsEquivalence-pattern same_pattern-same sorted pattern
    (Contains-permutation before sorted pattern moved c)

pub heads_kept : (before sorted : Heads) → IsPermutation before sorted
    → KeepsAll before (dedup (option_eq bytes_eq) sorted)
heads_kept before sorted moved head c =
    Contains-dedup (options_equiv nat_list_eq_equiv) same_texts sorted head
    (Contains-permutation before sorted head moved c)

-- ---- each once
-- texts are the same exactly if neither comes before the other
same_by_order : (x y : Option (List ℕ))
    → option_eq bytes_eq x y ≡ eq_by_cmp (option_cmp (slice_cmp nat_cmp)) x y
same_by_order None None = refl
same_by_order None (Some y) = refl
same_by_order (Some x) None = refl
same_by_order (Some x) (Some y) = search (comparing, rules)

-- what stands after one that is below all after it is another
not_again : (head : Option (List ℕ)) (heads : Heads)
    → AllByRecursion (λ other. option_cmp (slice_cmp nat_cmp) head other ≡ Less) heads
    → (place : ℕ) → slice_get heads place ≡ Some head → ⊥
not_again head [] below place e = let bad : ⊥ = cc in bad
not_again head (other ∷ heads) below zero e =
    not_below head (ap (option_cmp (slice_cmp nat_cmp) head) (ap (λ o. unwrap_or o other) (sym e))
    ∙ below.0)
  where
    not_below : (x : Option (List ℕ)) → option_cmp (slice_cmp nat_cmp) x x ≡ Less → ⊥
    not_below x f =
        let turned : Less ≡ ordering_reverse Less =
        sym f ∙ (options_total nat_list_cmp_total).antisymm x x ∙ ap ordering_reverse f in
        let bad : ⊥ = cc in bad
not_again head (other ∷ heads) below (suc place) e = not_again head heads below.1 place e

strictly_once : (heads : Heads)
    → IsStrictlySortedBy (option_cmp (slice_cmp nat_cmp)) heads → IsEachOnce heads
unfolding IsStrictlySortedBy
strictly_once [] h place other x e f = absurd (let bad : ⊥ = cc in bad)
strictly_once (head ∷ heads) h zero zero x e f = refl
strictly_once (head ∷ heads) h zero (suc other) x e f =
    absurd (not_again head heads h.0 other
    (f ∙ ap (λ y. Some y) (ap (λ o. unwrap_or o head) (sym e))))
strictly_once (head ∷ heads) h (suc place) zero x e f =
    absurd (not_again head heads h.0 place
    (e ∙ ap (λ y. Some y) (ap (λ o. unwrap_or o head) (sym f))))
strictly_once (head ∷ heads) h (suc place) (suc other) x e f =
    ap suc (strictly_once heads h.1 place other x e f)

pub heads_once : (sorted : Heads) → IsSorted (option_cmp (slice_cmp nat_cmp)) sorted
    → IsEachOnce (dedup (option_eq bytes_eq) sorted)
heads_once sorted h =
    strictly_once (dedup (option_eq bytes_eq) sorted)
    (IsStrictlySortedBy-dedup (options_total nat_list_cmp_total) same_by_order sorted h)

-- ---- no stars
digits_only : (p : ℕ → Bool) → ((b : ℕ) → p b ≡ true → is_no_star b ≡ true) → (text : List ℕ)
    → list_all p text ≡ true → has_no_star text ≡ true
digits_only p h [] e = refl
digits_only p h (b ∷ text) e =
    let a = and_parts (p b) (list_all p text) e in
    λ i. h b a.0 i && digits_only p h text a.1 i

no_star_digit : (b : ℕ) → is_ascii_digit b ≡ true → is_no_star b ≡ true
no_star_digit b e = grind (arith, nat_tests)

no_star_technology : (b : ℕ) → is_technology_byte b ≡ true → is_no_star b ≡ true
no_star_technology b e = grind (arith, nat_tests)

pub pattern_is_literal : (pattern : PatternParts) → IsPattern pattern
    → has_no_star pattern.literals ≡ true
pattern_is_literal pattern h =
    digits_only is_ascii_digit no_star_digit pattern.literals
    (first (list_all is_ascii_digit pattern.literals) _ _ h)
  where
    first : (a b c : Bool) → (a && b && c) ≡ true → a ≡ true
    first true b c e = refl
    first false b c e = e

pub prefix_is_clean : (prefix : List ℕ) → IsTechPrefix prefix → has_no_star prefix ≡ true
prefix_is_clean prefix h =
    digits_only is_technology_byte no_star_technology prefix
    (last (nat_le 1 (length prefix)) (nat_le (length prefix) 11)
    (list_all is_technology_byte prefix) h)
  where
    last : (a b c : Bool) → (a && b && c) ≡ true → c ≡ true
    last true true c e = e
    last true false c e = absurd (true≢false (sym e))
    last false b c e = absurd (true≢false (sym e))

-- a technology prefix may be dialled
pub prefix_is_dialled : (prefix : List ℕ) → IsTechPrefix prefix → dialled_of prefix ≡ Some prefix
prefix_is_dialled prefix h =
    ap (λ t. then_some t prefix) (by (length prefix) (list_all is_technology_byte prefix)
    (list_all is_dialled_byte prefix) h (more prefix))
  where
    more : (text : List ℕ) → list_all is_technology_byte text ≡ true
        → list_all is_dialled_byte text ≡ true
    more [] e = refl
    more (b ∷ text) e =
        let a = and_parts (is_technology_byte b) (list_all is_technology_byte text) e in
        let one : is_dialled_byte b ≡ true = ap (λ t. t || (b == 42)) a.0 in
        λ i. one i && more text a.1 i

    by : (n : ℕ) (t d : Bool) → (nat_le 1 n && nat_le n 11 && t) ≡ true → (t ≡ true → d ≡ true)
        → (nat_le 1 n && nat_le n 32 && d) ≡ true
    by n true d e f = let all : d ≡ true = f refl in grind (arith, nat_tests)
    by n false d e f = absurd (let bad : ⊥ = grind (arith, nat_tests) in bad)
