-- What is read as a pattern is the pattern's own text, and that is a word.
use Rattle.std.proofs.Common.{◌≡◌, ℕ, zero, suc, ◌≤◌, Bool, true, false, cond, List, [], ◌∷◌, ◌++◌, length, length-append, replicate, Some, refl, ap, ◌∙◌, arith, nat_le}
use Rattle.std.specs.Prelude.{◌&&◌}
use Rattle.std.specs.Char.{is_ascii_digit}
use Rattle.std.specs.List.{list_all}
use Rattle.std.proofs.lemmas.Bool.{and_parts, and_from, leb-true}
use Rattle.std.proofs.lemmas.List.{length-replicate}
use Rattle.std.proofs.lemmas.List.Folds.{list_all-append}
use Rattle.gk_terms.specs.Spelling.{is_visible}
use Rattle.digit_patterns.specs.PatternParts.{PatternParts, IsPattern, character_count}
use Rattle.digit_patterns.specs.Pattern.{pattern_text, pattern_of}
use Rattle.digit_patterns.proofs.ReadBack.{pattern_of-spelled}
use Rattle.gk_commands.specs.Accepted.{is_word}
use Rattle.command_reader.proofs.read_back.Words.{word_from}
use Rattle.command_reader.proofs.read_back.Numbers.{visible_digits}

abbrev star_text : Bool → List ℕ
star_text star = cond star (42 ∷ []) []

visible_dots : (n : ℕ) → list_all is_visible (replicate n 46) ≡ true
visible_dots zero = refl
visible_dots (suc n) = visible_dots n

visible_star : (star : Bool) → list_all is_visible (star_text star) ≡ true
visible_star true = refl
visible_star false = refl

length_star : (star : Bool) → length (star_text star) ≡ cond star 1 0
length_star true = refl
length_star false = refl

pattern_solid : (p : PatternParts) → IsPattern p → is_word (pattern_text p) ≡ true
pattern_solid p h =
    let dots : List ℕ = replicate p.dots 46 in
    let a = and_parts (list_all is_ascii_digit p.literals && nat_le 1 (character_count p))
    (nat_le (character_count p) 32) h in
    let b = and_parts (list_all is_ascii_digit p.literals) (nat_le 1 (character_count p)) a.0 in
    let some : 1 ≤ character_count p = leb-true 1 (character_count p) b.1 in
    let front : list_all is_visible (p.literals ++ dots) ≡ true =
    list_all-append is_visible p.literals dots ∙ and_from _ _ (visible_digits p.literals b.0)
    (visible_dots p.dots) in
    word_from (pattern_text p)
    (omega (
      arith,
      some,
      length-append (p.literals ++ dots) (star_text p.star),
      length-append
          p.literals dots,
      length-replicate {A = ℕ} p.dots 46,
      length_star p.star,
    ))
    (list_all-append is_visible (p.literals ++ dots) (star_text p.star) ∙ and_from _ _ front
    (visible_star p.star))

-- a pattern that was read: its text
pub record IsPatternOf (word : List ℕ) (p : PatternParts) : Type 0 where
  pub same : pattern_text p ≡ word
  pub solid : is_word (pattern_text p) ≡ true
  pub spelled : pattern_of (pattern_text p) ≡ Some p

pub pattern_read : (word : List ℕ) (p : PatternParts) → pattern_of word ≡ Some p → IsPatternOf word
    p
pattern_read word p h =
    let s = pattern_of-spelled word p h in
    record { same = s.1; solid = pattern_solid p s.0; spelled = ap pattern_of s.1 ∙ h }
