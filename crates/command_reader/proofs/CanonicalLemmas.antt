-- A line that is made word by word.
use Rattle.std.proofs.Common.{◌≡◌, ℕ, ◌+◌, ◌≤◌, ◌<◌, cond, replicate, nat_le, List, [], ◌∷◌, ◌++◌, length, get_or, take, sym, ap, ◌∙◌, length-append, arith}
use Rattle.std.specs.Prelude.{◌&&◌, flat_map}
use Rattle.std.specs.Char.{is_ascii_digit}
use Rattle.std.specs.List.{list_all}
use Rattle.std.proofs.lemmas.Bool.{and_parts, leb-true}
use Rattle.std.proofs.lemmas.List.{flat_map_more, take_more}
use Rattle.gk_terms.specs.Text.{spaced, line_text}
use Rattle.digit_patterns.specs.PatternParts.{PatternParts, IsPattern, character_count}
use Rattle.digit_patterns.specs.Pattern.{pattern_text}
use Rattle.gk_lines.specs.LineBuffer.{ROOM_BYTES, extended, with_words}
use Rattle.gk_lines.proofs.LineBufferLemmas.{extended_twice, words_twice}

-- a line of words that fit, with its line feed, has room
pub line_fits : (words : List (List ℕ)) → length (spaced words) ≤ 512 → length (line_text words) ≤
    ROOM_BYTES
line_fits words fits = omega (arith, fits, length-append (spaced words) (10 ∷ []))

-- ---- a pattern
pub pattern_whole : (line : List ℕ) (p : PatternParts)
    → extended (extended (extended line (32 ∷ p.literals)) (replicate p.dots 46))
    (cond p.star (42 ∷ []) []) ≡ extended line (32 ∷ pattern_text p)
pattern_whole line p =
    let dots : List ℕ = replicate p.dots 46 in
    let star : List ℕ = cond p.star (42 ∷ []) [] in
    ap (λ l. extended l star) (extended_twice line (32 ∷ p.literals) dots) ∙ extended_twice line
    ((32 ∷ p.literals) ++ dots) star

-- a pattern has at most 32 dots
pub few_dots : (p : PatternParts) → IsPattern p → p.dots ≤ 32
few_dots p h =
    let whole = and_parts (list_all is_ascii_digit p.literals && nat_le 1 (character_count p))
    (nat_le (character_count p) 32) h in
    omega (arith, leb-true (character_count p) 32 whole.1)

-- ---- names of a hopoff
pub further_more : (f : List ℕ → List (List ℕ)) (line : List ℕ) (names : List (List ℕ)) (i : ℕ)
    (d : List ℕ) → i < length names
    → with_words (with_words line (flat_map f (take i names))) (f (get_or names i d)) ≡ with_words
    line (flat_map f (take (i + 1) names))
further_more f line names i d h =
    sym (words_twice line (flat_map f (take i names)) (f (get_or names i d)))
    ∙ ap (with_words line) (flat_map_more f [] (take i names) (get_or names i d) ∙ ap (flat_map f)
    (sym (take_more names i d h)))
