-- Digits that go on after a technology prefix that both configurations take off, or after none, have
-- their set by what is after it alone, if no longer prefix begins as they do.
use Rattle.std.proofs.Common.{◌≡◌, ℕ, suc, ◌-◌, ◌||◌, ◌&&◌, not, Bool, true, false, List, [], ◌∷◌, ◌++◌, length, drop, append_assoc, refl, sym, ap, ◌∙◌, true≢false}
use Rattle.std.specs.Prelude.{Option, Some, None, option_map, position}
use Rattle.std.specs.List.{list_any}
use Rattle.std.proofs.lemmas.Bool.{and_parts, not-true}
use Rattle.std.specs.Cmp.Lexicographic.{same_text}
use Rattle.digit_patterns.specs.PatternParts.{PatternParts}
use Rattle.gk_commands.specs.declared.commands.Command.{Command}
use Rattle.compiler.specs.Rows.{row_for}
use Rattle.compiler.specs.Technology.{found_length}
use Rattle.plan_difference.specs.declared.number_sets.NumberSet.{NumberSet}
use Rattle.plan_difference.specs.Entries.{same_set}
use Rattle.plan_difference.specs.Sets.{hops_off, pattern_used, set_of, set_by, is_joint, same_technology}
use Rattle.plan_difference.specs.Walk.{starred}
use Rattle.difference_counts.specs.Ahead.{AreAt, AreLiteral, has_next, pattern_has_at}
use Rattle.difference_counts.specs.Numbers.{character_at, up_to}
use Rattle.difference_counts.specs.Places.{has_at, is_just}
use Rattle.difference_counts.specs.Walk.{place_of, rest_place, below, alike_below, joint_of, left_at}
use Rattle.difference_counts.proofs.AheadLemmas.{found_is, pattern_after, finds, same_set_of}
use Rattle.difference_counts.proofs.WalkLemmas.{below_alike}

pub neither : (a b : Bool) → (a || b) ≡ false → (a ≡ false) × (b ≡ false)
neither true b e = absurd (true≢false e)
neither false b e = (refl, e)

pub same_found : (technology other : Option (List ℕ)) → same_technology technology other ≡ true
    → technology ≡ other
same_found None None e = refl
same_found None (Some other) e = absurd (true≢false (sym e))
same_found (Some prefix) None e = absurd (true≢false (sym e))
same_found (Some prefix) (Some other) e = ap (λ p. Some p) (same_text prefix other (sym e))

-- both take it off
record IsTakenOff (old new : List Command) (old_technology new_technology : Option (List ℕ))
    : Type 0 where
  pub same : old_technology ≡ new_technology
  pub old_stays : hops_off old old_technology ≡ false
  pub new_stays : hops_off new new_technology ≡ false

taken_off : (old new : List Command) (old_technology new_technology : Option (List ℕ))
    → is_joint old new old_technology new_technology ≡ true
    → IsTakenOff old new old_technology new_technology
taken_off old new old_technology new_technology e =
    let a = and_parts (same_technology old_technology new_technology
    && not (hops_off old old_technology)) (not (hops_off new new_technology)) e in
    let b = and_parts (same_technology old_technology new_technology)
    (not (hops_off old old_technology)) a.0 in
    record {
      same = same_found old_technology new_technology b.0;
      old_stays = not-true (hops_off old old_technology) b.1;
      new_stays = not-true (hops_off new new_technology) a.1;
    }

module _ (old new : List Command) (sets : List NumberSet) (front : List ℕ)
    (old_technology : Option (List ℕ)) (old_prefixes : List (List ℕ))
    (old_patterns : List PatternParts) (new_technology : Option (List ℕ))
    (new_prefixes : List (List ℕ)) (new_patterns : List PatternParts)
    (at : AreAt old new front old_technology old_prefixes old_patterns new_technology new_prefixes
    new_patterns) (old_literal : AreLiteral old) (new_literal : AreLiteral new) (character : ℕ)
    (no_old_prefix : list_any (has_at (length front) character) old_prefixes ≡ false)
    (no_new_prefix : list_any (has_at (length front) character) new_prefixes ≡ false) where
  -- ---- of one length, if the two configurations do not both take the prefix off
  module _ (apart : is_joint old new old_technology new_technology ≡ false)
      (no_old_pattern : list_any
      (pattern_has_at (length front - found_length old_technology) character) old_patterns ≡ false)
      (no_new_pattern : list_any
      (pattern_has_at (length front - found_length new_technology) character) new_patterns
      ≡ false) where
    same_place : (rest : List ℕ) → place_of old new sets (front ++ character ∷ rest)
        ≡ place_of old new sets (starred front (suc (length rest)))
    unfolding place_of
    same_place rest =
        ap (λ set. position (same_set set) sets)
        (same_set_of old new front character rest
        (finds old front old_technology old_prefixes old_literal at.old_at character
        no_old_prefix rest old_patterns (at.old_patterns_on apart) no_old_pattern)
        (finds new front new_technology new_prefixes new_literal at.new_at character
        no_new_prefix rest new_patterns (at.new_patterns_on apart) no_new_pattern))

    ends_alike : (place less most : ℕ) → most ≡ suc less
        → below (place_of old new sets) (front ++ character ∷ []) less place
        ≡ alike_below (place_of old new sets) front most place
    ends_alike place less most e =
        below_alike (place_of old new sets) front place character less most e same_place

  -- ---- by what is after the prefix, if they do
  module _ (taken : IsTakenOff old new old_technology new_technology) where
    set_after : (rest : List ℕ) → set_of old new (front ++ character ∷ rest)
        ≡ set_by (is_joint old new old_technology new_technology) old_technology new_technology
        (option_map (λ row. row.0)
        (row_for old (drop (found_length old_technology) front ++ character ∷ rest)))
        (option_map (λ row. row.0)
        (row_for new (drop (found_length old_technology) front ++ character ∷ rest)))
    set_after rest =
        let f = found_is old front old_technology old_prefixes old_literal at.old_at character
        no_old_prefix rest in
        let g = found_is new front new_technology new_prefixes new_literal at.new_at character
        no_new_prefix rest in
        let p = pattern_after old front old_technology old_prefixes old_literal at.old_at
        character no_old_prefix rest taken.old_stays in
        let q : pattern_used new (front ++ character ∷ rest) ≡ option_map (λ row. row.0)
        (row_for new (drop (found_length old_technology) front ++ character ∷ rest)) =
        pattern_after new front new_technology new_prefixes new_literal at.new_at
        character no_new_prefix rest taken.new_stays
        ∙ ap (λ t. option_map (λ row. row.0)
        (row_for new (drop (found_length t) front ++ character ∷ rest))) (sym taken.same) in
        λ i. set_by (is_joint old new (f i) (g i)) (f i) (g i) (p i) (q i)

    rest_after : is_joint old new old_technology new_technology ≡ true → (rest : List ℕ)
        → set_of old new ((front ++ character ∷ []) ++ rest)
        ≡ joint_of old new ((drop (found_length old_technology) front ++ character ∷ []) ++ rest)
    rest_after joint rest =
        ap (set_of old new) (append_assoc front (character ∷ []) rest) ∙ set_after rest
        ∙ ap (λ j. set_by j old_technology new_technology
        (option_map (λ row. row.0)
        (row_for old (drop (found_length old_technology) front ++ character ∷ rest)))
        (option_map (λ row. row.0)
        (row_for new (drop (found_length old_technology) front ++ character ∷ rest)))) joint
        ∙ ap (joint_of old new)
        (sym (append_assoc (drop (found_length old_technology) front) (character ∷ []) rest))

    leaves_joint : is_joint old new old_technology new_technology ≡ true → (less place : ℕ)
        → below (place_of old new sets) (front ++ character ∷ []) less place
        ≡ below (rest_place old new sets)
        (drop (found_length old_technology) front ++ character ∷ []) less place
    unfolding below place_of rest_place
    leaves_joint joint less place =
        λ i. up_to less
        (λ rest. is_just place (position (same_set (rest_after joint rest i)) sets))

-- so what goes on with a character with which nothing does
pub left_is : (old new : List Command) (sets : List NumberSet) (front : List ℕ)
    (old_technology : Option (List ℕ)) (old_prefixes : List (List ℕ))
    (old_patterns : List PatternParts) (new_technology : Option (List ℕ))
    (new_prefixes : List (List ℕ)) (new_patterns : List PatternParts)
    → AreAt old new front old_technology old_prefixes old_patterns new_technology new_prefixes
    new_patterns → AreLiteral old → AreLiteral new → (number most less : ℕ) → most ≡ suc less
    → most - 1 ≡ less
    → (has_next old_technology old_prefixes old_patterns (length front) (character_at number)
    || has_next new_technology new_prefixes new_patterns (length front) (character_at number))
    ≡ false → (joint : Bool) → is_joint old new old_technology new_technology ≡ joint
    → (place : ℕ)
    → below (place_of old new sets) (front ++ character_at number ∷ []) less place
    ≡ left_at old new sets joint (found_length old_technology) front most number place
left_is old new sets front old_technology old_prefixes old_patterns new_technology new_prefixes
    new_patterns at old_literal new_literal number most less e f ends joint g place =
    by joint g
  where
    character : ℕ
    character = character_at number

    sides : (has_next old_technology old_prefixes old_patterns (length front) character ≡ false)
        × (has_next new_technology new_prefixes new_patterns (length front) character ≡ false)
    sides = neither (has_next old_technology old_prefixes old_patterns (length front) character)
        (has_next new_technology new_prefixes new_patterns (length front) character) ends

    first : (list_any (has_at (length front) character) old_prefixes ≡ false)
        × (list_any (pattern_has_at (length front - found_length old_technology) character)
        old_patterns ≡ false)
    first = neither (list_any (has_at (length front) character) old_prefixes)
        (list_any (pattern_has_at (length front - found_length old_technology) character)
        old_patterns) sides.0

    second : (list_any (has_at (length front) character) new_prefixes ≡ false)
        × (list_any (pattern_has_at (length front - found_length new_technology) character)
        new_patterns ≡ false)
    second = neither (list_any (has_at (length front) character) new_prefixes)
        (list_any (pattern_has_at (length front - found_length new_technology) character)
        new_patterns) sides.1

    by : (joint : Bool) → is_joint old new old_technology new_technology ≡ joint
        → below (place_of old new sets) (front ++ character ∷ []) less place
        ≡ left_at old new sets joint (found_length old_technology) front most number place
    by true g =
        leaves_joint old new sets front old_technology old_prefixes old_patterns new_technology
        new_prefixes new_patterns at old_literal new_literal character first.0 second.0
        (taken_off old new old_technology new_technology g) g less place
        ∙ ap (λ n. below (rest_place old new sets)
        (drop (found_length old_technology) front ++ character ∷ []) n place) (sym f)
    by false g =
        ends_alike old new sets front old_technology old_prefixes old_patterns new_technology
        new_prefixes new_patterns at old_literal new_literal character first.0 second.0 g first.1
        second.1 place less most e
