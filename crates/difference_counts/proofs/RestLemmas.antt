-- What was put off is counted, character by character.
use Rattle.std.proofs.Common.{◌≡◌, ℕ, zero, suc, ◌+◌, ◌-◌, ◌*◌, ◌^◌, ◌<◌, ◌≤◌, true, false, List, [], ◌∷◌, ◌++◌, length, filter, get_or, slice_get, refl, sym, ap, subst, ◌∙◌, arith}
use Rattle.std.specs.Prelude.{Option, Some, None, count_by, option_map, position, sum}
use Rattle.std.specs.List.{All, list_all, list_any, sum_by}
use Rattle.std.proofs.Math.Nat.{mul-le-mul_left}
use Rattle.gk_terms.specs.Dialled.{is_dialled_byte}
use Rattle.digit_patterns.specs.PatternParts.{PatternParts}
use Rattle.gk_commands.specs.declared.commands.Command.{Command}
use Rattle.compiler.specs.Rows.{row_for}
use Rattle.plan_difference.specs.declared.number_sets.NumberSet.{NumberSet}
use Rattle.plan_difference.specs.Entries.{same_set}
use Rattle.plan_difference.specs.Gathered.{Has}
use Rattle.plan_difference.specs.Walk.{starred}
use Rattle.plan_difference.proofs.Lookups.{same_row_found}
use Rattle.difference_counts.specs.Ahead.{AreLiteral, HasPatternsOn, pattern_has_at}
use Rattle.difference_counts.specs.Branches.{Branching, leaves_at, branch_has_at, branched, all_branched, weight, weight_of, IsOn, AreOn}
use Rattle.difference_counts.specs.Numbers.{character_at, one_if, sum_to}
use Rattle.difference_counts.specs.Places.{is_just}
use Rattle.difference_counts.specs.Walk.{GrewBy, all_shorter, below, alike_below, rest_place}
use Rattle.difference_counts.proofs.AheadLemmas.{literals_end, patterns_next}
use Rattle.difference_counts.proofs.BranchLemmas.{by_character, none_on, none_left, on_next}
use Rattle.difference_counts.proofs.SumLemmas.{sum_to_none, sum_to_more, sum_to_both, sum_to_same, sum_to_times, sum_to_within}
use Rattle.difference_counts.proofs.WalkLemmas.{below_none, below_more, below_alike, all_shorter_first}

-- ---- what goes on with one character
-- how often it counts: as often as the rest, and once for each branch at which digits leave with it
abbrev pub times_at : List ℕ → ℕ → List Branching → ℕ → ℕ
times_at rest times branches number =
    times + count_by (leaves_at (length rest) number) branches

-- the branches that go on with it
abbrev pub onward : List ℕ → List Branching → ℕ → List Branching
onward rest branches number =
    filter (branch_has_at (length rest) (character_at number)) branches

-- how many texts that makes
abbrev pub part_at : (List ℕ → Option ℕ) → List ℕ → ℕ → ℕ → List Branching → ℕ → ℕ → ℕ
part_at rest_of rest less times branches place number =
    times_at rest times branches number
    * below rest_of (rest ++ character_at number ∷ []) less place
    + all_branched rest_of (onward rest branches number) place

abbrev pub room_at : List ℕ → ℕ → ℕ → List Branching → ℕ → ℕ
room_at rest less times branches number =
    times_at rest times branches number * all_shorter (less + 1)
    + weight (onward rest branches number)

-- ---- all characters
module _ (rest : List ℕ) (dialled : list_all is_dialled_byte rest ≡ true) (less times : ℕ)
    (branches : List Branching) (on : All (IsOn rest (suc less)) branches) where
  abbrev counts : ℕ → ℕ
  counts n = count_by (leaves_at (length rest) n) branches

  pub parts_of : (rest_of : List ℕ → Option ℕ) (place : ℕ)
      → sum_to 12 (part_at rest_of rest less times branches place)
      ≡ times * sum_to 12 (λ n. below rest_of (rest ++ character_at n ∷ []) less place)
      + all_branched rest_of branches place
  unfolding branched
  parts_of rest_of place =
      sum_to_same 12 (part_at rest_of rest less times branches place)
      (λ n. times * below rest_of (rest ++ character_at n ∷ []) less place
      + (counts n * below rest_of (rest ++ character_at n ∷ []) less place
      + sum_by (branched rest_of place) (onward rest branches n)))
      (λ n low. split times (counts n) (below rest_of (rest ++ character_at n ∷ []) less place)
      (sum_by (branched rest_of place) (onward rest branches n)))
      ∙ sum_to_both 12 (λ n. times * below rest_of (rest ++ character_at n ∷ []) less place)
      (λ n. counts n * below rest_of (rest ++ character_at n ∷ []) less place
      + sum_by (branched rest_of place) (onward rest branches n))
      ∙ (λ i. sum_to_times 12 times
      (λ n. below rest_of (rest ++ character_at n ∷ []) less place) i
      + sym (by_character
      (λ rest number less. below rest_of (rest ++ character_at number ∷ []) less place)
      rest dialled less branches on) i)
    where
      split : (a b x y : ℕ) → (a + b) * x + y ≡ a * x + (b * x + y)
      split a b x y = omega arith

  pub rooms_of : sum_to 12 (room_at rest less times branches)
      ≡ times * sum_to 12 (λ n. all_shorter (less + 1)) + weight branches
  unfolding weight_of
  rooms_of =
      sum_to_same 12 (room_at rest less times branches)
      (λ n. times * all_shorter (less + 1)
      + (counts n * all_shorter (less + 1) + sum_by weight_of (onward rest branches n)))
      (λ n low. split times (counts n) (all_shorter (less + 1))
      (sum_by weight_of (onward rest branches n)))
      ∙ sum_to_both 12 (λ n. times * all_shorter (less + 1))
      (λ n. counts n * all_shorter (less + 1) + sum_by weight_of (onward rest branches n))
      ∙ (λ i. sum_to_times 12 times (λ n. all_shorter (less + 1)) i
      + sym (by_character (λ rest number less. all_shorter (less + 1))
      rest dialled less branches on) i)
    where
      split : (a b x y : ℕ) → (a + b) * x + y ≡ a * x + (b * x + y)
      split a b x y = omega arith

twelve : (k : ℕ) → sum_to 12 (λ n. k) ≡ 12 * k
unfolding sum_to
twelve k = omega arith

-- ---- what was counted after so many characters, and how often those are to be counted of which only
-- the length matters
module _ (rest_of : List ℕ → Option ℕ) (rest : List ℕ) (most less times : ℕ)
    (branches : List Branching) where
  pub record IsRestCounted (index alike : ℕ) (before now : List ℕ) : Type 0 where
    pub so_far : (place : ℕ) → place < length before
        → get_or now place 0 + alike * alike_below rest_of rest most place
        ≡ get_or before place 0
        + sum_to index (part_at rest_of rest less times branches place)
    pub bounded : sum now + alike * all_shorter (less + 1)
        ≤ sum before + sum_to index (room_at rest less times branches)

  pub rest_none : (before : List ℕ) → IsRestCounted 0 0 before before
  rest_none before = record {
    so_far = λ place h.
        let a = sum_to_none (part_at rest_of rest less times branches place) in
        omega (arith, a);
    bounded =
        let a = sum_to_none (room_at rest less times branches) in
        omega (arith, a);
  }

  module _ (index alike : ℕ) (before now : List ℕ)
      (counted : IsRestCounted index alike before now) where
    pub rest_on : (after : List ℕ) → length now ≡ length before
        → GrewBy now after (λ place. part_at rest_of rest less times branches place index)
        → sum after ≤ sum now + room_at rest less times branches index
        → IsRestCounted (index + 1) alike before after
    rest_on after size grew bounded = record {
      so_far = λ place h.
          let a = counted.so_far place h in
          let b = grew place (let e : place < length now = omega (arith, size, h) in e) in
          let d = sum_to_more index (part_at rest_of rest less times branches place) in
          omega (arith, a, b, d);
      bounded =
          let a = counted.bounded in
          let d = sum_to_more index (room_at rest less times branches) in
          omega (arith, a, bounded, d);
    }

    pub rest_alike : list_any (branch_has_at (length rest) (character_at index)) branches ≡ false
        → ((place : ℕ) → below rest_of (rest ++ character_at index ∷ []) less place
        ≡ alike_below rest_of rest most place)
        → IsRestCounted (index + 1) (alike + times_at rest times branches index) before now
    rest_alike none same = record {
      so_far = λ place h.
          let a = counted.so_far place h in
          let d = sum_to_more index (part_at rest_of rest less times branches place) in
          let e : times_at rest times branches index
          * below rest_of (rest ++ character_at index ∷ []) less place
          ≡ times_at rest times branches index * alike_below rest_of rest most place =
          ap (λ n. times_at rest times branches index * n) (same place) in
          let f : all_branched rest_of (onward rest branches index) place ≡ 0 =
          none_on rest (character_at index) (branched rest_of place) branches none in
          omega (arith, a, d, e, f);
      bounded =
          let a = counted.bounded in
          let d = sum_to_more index (room_at rest less times branches) in
          omega (arith, a, d);
    }

-- ---- the whole of a rest
module _ (rest_of : List ℕ → Option ℕ) (rest : List ℕ)
    (dialled : list_all is_dialled_byte rest ≡ true) (most less times : ℕ)
    (e : most ≡ suc less) (branches : List Branching) (on : All (IsOn rest most) branches) where
  on_suc : All (IsOn rest (suc less)) branches
  on_suc = subst (λ n. All (IsOn rest n) branches) e on

  -- there is room for one more character
  pub room_for : (index : ℕ) → index < 12
      → sum_to index (room_at rest less times branches) + room_at rest less times branches index
      ≤ 12 * (times * all_shorter (less + 1)) + weight branches
  room_for index within =
      let a = sum_to_within 12 index (room_at rest less times branches) within in
      let b = rooms_of rest dialled less times branches on_suc in
      let d : times * sum_to 12 (λ n. all_shorter (less + 1)) ≡ times * (12 * all_shorter (less + 1))
      = ap (λ n. times * n) (twelve (all_shorter (less + 1))) in
      omega (arith, a, b, d)

  pub room_whole : sum_to 12 (room_at rest less times branches)
      ≡ 12 * (times * all_shorter (less + 1)) + weight branches
  room_whole =
      let b = rooms_of rest dialled less times branches on_suc in
      let d : times * sum_to 12 (λ n. all_shorter (less + 1)) ≡ times * (12 * all_shorter (less + 1))
      = ap (λ n. times * n) (twelve (all_shorter (less + 1))) in
      omega (arith, b, d)

  module _ (index alike start : ℕ) (before now : List ℕ) (first : sum before ≤ start + times)
      (counted : IsRestCounted rest_of rest most less times branches index alike before now) where
    whole_weight : times * all_shorter (most + 1)
        ≡ times + 12 * (times * all_shorter (less + 1))
    whole_weight =
        ap (λ n. times * n) (all_shorter_first most)
        ∙ ap (λ n. times * (1 + 12 * all_shorter n))
        (let w : most ≡ less + 1 = omega (arith, e) in w)
        ∙ by times (all_shorter (less + 1))
      where
        by : (t a : ℕ) → t * (1 + 12 * a) ≡ t + 12 * (t * a)
        by t a = omega arith

    pub room_next : index < 12
        → start + (times * all_shorter (most + 1) + weight branches) < 2 ^ 127
        → sum now + alike * all_shorter (less + 1) + room_at rest less times branches index
        < 2 ^ 127
    room_next within room =
        let a = counted.bounded in
        let b = room_for index within in
        let d = whole_weight in
        omega (arith, a, b, d, first, room)

    pub room_end : index ≡ 12
        → sum now + alike * all_shorter (less + 1)
        ≤ start + (times * all_shorter (most + 1) + weight branches)
    room_end is =
        let a : sum now + alike * all_shorter (less + 1)
        ≤ sum before + sum_to 12 (room_at rest less times branches) =
        subst (λ n. sum now + alike * all_shorter (less + 1)
        ≤ sum before + sum_to n (room_at rest less times branches)) is counted.bounded in
        let b = room_whole in
        let d = whole_weight in
        omega (arith, a, b, d, first)

  pub rest_whole : (start before now after : List ℕ) (index alike : ℕ) → index ≡ 12
      → length before ≡ length start → length now ≡ length before
      → GrewBy start before (λ place. times * one_if (is_just place (rest_of rest)))
      → IsRestCounted rest_of rest most less times branches index alike before now
      → GrewBy now after (λ place. alike * alike_below rest_of rest most place)
      → GrewBy start after (λ place. times * below rest_of rest most place
      + all_branched rest_of branches place)
  rest_whole start before now after index alike is size again first counted last place h =
      let a = first place h in
      let b : get_or now place 0 + alike * alike_below rest_of rest most place
      ≡ get_or before place 0 + sum_to 12 (part_at rest_of rest less times branches place) =
      counted.so_far place (let w : place < length before = omega (arith, size, h) in w)
      ∙ (λ i. get_or before place 0
      + sum_to (is i) (part_at rest_of rest less times branches place)) in
      let d = last place (let w : place < length now = omega (arith, size, again, h) in w) in
      let parts = parts_of rest dialled less times branches on_suc rest_of place in
      let whole : times * below rest_of rest most place
      ≡ times * (one_if (is_just place (rest_of rest))
      + sum_to 12 (λ n. below rest_of (rest ++ character_at n ∷ []) less place)) =
      ap (λ n. times * n) (below_more rest_of rest place most less e) in
      omega (arith, a, b, d, parts, whole)

-- there is one text at least
pub some_shorter : (count few : ℕ) → few ≤ few * all_shorter (count + 1)
some_shorter count few =
    let first = all_shorter_first count in
    let more = mul-le-mul_left few
    (let w : 1 ≤ all_shorter (count + 1) = omega (arith, first) in w) in
    let one : few * 1 ≡ few = omega arith in
    omega (arith, more, one)

-- nothing goes on from it
pub rest_last : (rest_of : List ℕ → Option ℕ) (rest : List ℕ) (most times : ℕ) → most ≡ 0
    → (branches : List Branching) → All (IsOn rest most) branches → (start after : List ℕ)
    → GrewBy start after (λ place. times * one_if (is_just place (rest_of rest)))
    → GrewBy start after (λ place. times * below rest_of rest most place
    + all_branched rest_of branches place)
unfolding branched
rest_last rest_of rest most times e branches on start after first place h =
    let a = first place h in
    let whole : times * below rest_of rest most place
    ≡ times * one_if (is_just place (rest_of rest)) =
    ap (λ n. times * n) (below_none rest_of rest place most e) in
    let none : all_branched rest_of branches place ≡ 0 =
    none_left (λ rest number less. below rest_of (rest ++ character_at number ∷ []) less place)
    rest branches (subst (λ n. All (IsOn rest n) branches) e on) in
    omega (arith, a, whole, none)

-- ---- nothing goes on with a character
module _ (old new : List Command) (sets : List NumberSet) (rest : List ℕ) (most less : ℕ)
    (e : most ≡ suc less) (patterns : List PatternParts) (branches : List Branching)
    (on : AreOn old new rest most patterns branches) (old_literal : AreLiteral old)
    (new_literal : AreLiteral new) (character : ℕ) where
  same_row : (commands : List Command) → AreLiteral commands
      → HasPatternsOn commands rest None patterns
      → list_any (pattern_has_at (length rest) character) patterns ≡ false → (more : List ℕ)
      → row_for commands (rest ++ character ∷ more)
      ≡ row_for commands (starred rest (suc (length more)))
  same_row commands literal here none more =
      same_row_found commands rest (character ∷ more)
      (literals_end commands rest patterns literal (here refl) character none more)

  same_place : list_any (pattern_has_at (length rest) character) patterns ≡ false
      → (more : List ℕ) → rest_place old new sets (rest ++ character ∷ more)
      ≡ rest_place old new sets (starred rest (suc (length more)))
  unfolding rest_place
  same_place none more =
      let p = same_row old old_literal on.old_patterns none more in
      let q = same_row new new_literal on.new_patterns none more in
      λ i. position (same_set (record {
        old_technology = None;
        new_technology = None;
        old_row = option_map (λ row. row.0) (p i);
        new_row = option_map (λ row. row.0) (q i);
      })) sets

  pub rest_ends : list_any (pattern_has_at (length rest) character) patterns ≡ false
      → (place : ℕ) → below (rest_place old new sets) (rest ++ character ∷ []) less place
      ≡ alike_below (rest_place old new sets) rest most place
  rest_ends none place =
      below_alike (rest_place old new sets) rest place character less most e (same_place none)

  -- ---- or some do
  next_patterns : (commands : List Command) → HasPatternsOn commands rest None patterns
      → HasPatternsOn commands (rest ++ character ∷ []) None
      (filter (pattern_has_at (length rest) character) patterns)
  next_patterns commands here =
      subst (λ n. HasPatternsOn commands (rest ++ character ∷ []) None
      (filter (pattern_has_at n character) patterns))
      (let w : length rest - 0 ≡ length rest = omega arith in w)
      (patterns_next commands rest None patterns (omega arith) here character None refl)

  pub next_on : (longer : List ℕ) → longer ≡ rest ++ character ∷ []
      → (ahead : List PatternParts)
      → ahead ≡ filter (pattern_has_at (length rest) character) patterns
      → (onwards : List Branching)
      → onwards ≡ filter (branch_has_at (length rest) character) branches
      → AreOn old new longer less ahead onwards
  next_on longer f ahead g onwards h =
      let old_on = next_patterns old on.old_patterns in
      let new_on = next_patterns new on.new_patterns in
      let all_on = on_next rest most less character e branches on.branches_on in
      record {
        old_patterns = subst (λ t. HasPatternsOn old t None ahead) (sym f)
            (subst (HasPatternsOn old (rest ++ character ∷ []) None) (sym g) old_on);
        new_patterns = subst (λ t. HasPatternsOn new t None ahead) (sym f)
            (subst (HasPatternsOn new (rest ++ character ∷ []) None) (sym g) new_on);
        branches_on = subst (λ t. All (IsOn t less) onwards) (sym f)
            (subst (All (IsOn (rest ++ character ∷ []) less)) (sym h) all_on);
      }

-- ---- all patterns
has_front : {X : Type 0} (xs ys : List X) (x : X) → Has xs x → Has (xs ++ ys) x
has_front {X} xs ys x there = record { place = there.place; stands = by xs there.place there.stands }
  where
    by : (xs : List X) (place : ℕ) → slice_get xs place ≡ Some x
        → slice_get (xs ++ ys) place ≡ Some x
    by [] place e = absurd (let bad : ⊥ = cc in bad)
    by (z ∷ zs) zero e = e
    by (z ∷ zs) (suc place) e = by zs place e

has_back : {X : Type 0} (xs ys : List X) (x : X) → Has ys x → Has (xs ++ ys) x
has_back [] ys x there = there
has_back (z ∷ zs) ys x there =
    let more = has_back zs ys x there in
    record { place = suc more.place; stands = more.stands }

pub all_on : (old new : List Command) (old_all new_all patterns : List PatternParts)
    → HasPatternsOn old [] None old_all → HasPatternsOn new [] None new_all
    → patterns ≡ old_all ++ new_all → (room : ℕ) (branches : List Branching)
    → All (IsOn [] room) branches → AreOn old new [] room patterns branches
all_on old new old_all new_all patterns old_on new_on e room branches on = record {
  old_patterns = subst (HasPatternsOn old [] None) (sym e)
      (λ stays place row at begins.
      has_front old_all new_all row.0 (old_on stays place row at begins));
  new_patterns = subst (HasPatternsOn new [] None) (sym e)
      (λ stays place row at begins.
      has_back old_all new_all row.0 (new_on stays place row at begins));
  branches_on = on;
}

-- past the last character nothing leaves
pub none_branched : (rest_of : List ℕ → Option ℕ) (rest : List ℕ) (branches : List Branching)
    → All (IsOn rest 0) branches → (place : ℕ) → all_branched rest_of branches place ≡ 0
unfolding branched
none_branched rest_of rest branches on place =
    none_left (λ rest number less. below rest_of (rest ++ character_at number ∷ []) less place)
    rest branches on
