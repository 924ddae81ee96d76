-- The text of a pattern spells that pattern.
use Rattle.std.proofs.Common.{◌≡◌, ℕ, zero, suc, ◌+◌, Bool, true, false, cond, ◌&&◌, List, [], ◌∷◌, ◌++◌, length, take, drop, replicate, Some, refl, sym, ap, ◌∙◌, arith, append_assoc, nat_le, subst}
use Rattle.std.specs.Bool.{then_some}
use Rattle.std.specs.Char.{is_ascii_digit}
use Rattle.std.specs.List.{list_all, prefix_len}
use Rattle.std.specs.Cmp.Lexicographic.{same_text}
use Rattle.std.specs.Str.{bytes_eq}
use Rattle.std.proofs.lemmas.Bool.{and_parts, and_from}
use Rattle.std.proofs.lemmas.Bool.Decides.{nat_tests}
use Rattle.std.proofs.lemmas.List.{length-replicate}
use Rattle.std.proofs.Math.Seq.{drop-append_seam, take-append_seam}
use Rattle.digit_patterns.specs.PatternParts.{PatternParts, IsPattern, is_pattern, character_count}
use Rattle.digit_patterns.specs.Pattern.{is_dot, pattern_text, parts_of, pattern_of}
use Rattle.digit_patterns.specs.Laws.{ReadsBack}
use Rattle.digit_patterns.proofs.Parsing.{star_text}

-- elements that pass, and then none that does
prefix_len-passed : (p : ℕ → Bool) (xs ys : List ℕ) → list_all p xs ≡ true → prefix_len p ys ≡ 0 →
    prefix_len p (xs ++ ys) ≡ length xs
prefix_len-passed p [] ys h e = e
prefix_len-passed p (x ∷ xs) ys h e =
    let parts = and_parts (p x) (list_all p xs) h in
    let rest = prefix_len-passed p xs ys parts.1 e in
    let front : cond (p x) (1 + prefix_len p (xs ++ ys)) 0 ≡ 1 + prefix_len p (xs ++ ys) = ap
    (λ b. cond b (1 + prefix_len p (xs ++ ys)) 0) parts.0 in
    omega (arith, front, rest)

are_dots : (n : ℕ) → list_all is_dot (replicate n 46) ≡ true
are_dots zero = refl
are_dots (suc n) = are_dots n

-- neither a dot nor a star is a digit
no_digit : (dots : ℕ) (star : Bool) → prefix_len is_ascii_digit
    (replicate dots 46 ++ star_text star) ≡ 0
no_digit zero true = refl
no_digit zero false = refl
no_digit (suc n) star = refl

no_dot : (star : Bool) → prefix_len is_dot (star_text star) ≡ 0
no_dot true = refl
no_dot false = refl

is_star : (star : Bool) → bytes_eq (star_text star) (42 ∷ []) ≡ star
is_star true = refl
is_star false = refl

bytes_eq-same : (xs : List ℕ) → bytes_eq xs xs ≡ true
bytes_eq-same [] = refl
bytes_eq-same (x ∷ xs) = grind (arith, nat_tests, bytes_eq-same xs)

abbrev made : List ℕ → ℕ → Bool → PatternParts
made literals dots star = record { literals = literals; dots = dots; star = star }

-- the parts of a text that begins with so many digits
abbrev parts_at : List ℕ → ℕ → PatternParts
parts_at text digits = made (take digits text) (prefix_len is_dot (drop digits text))
    (bytes_eq (drop (prefix_len is_dot (drop digits text)) (drop digits text)) (42 ∷ []))

-- the parts of a pattern's text are the pattern's
parts_of-pattern_text : (p : PatternParts) → list_all is_ascii_digit p.literals ≡ true → parts_of
    (pattern_text p) ≡ p
parts_of-pattern_text p h =
    let text = pattern_text p in
    let dots = replicate {A = ℕ} p.dots 46 in
    let others = dots ++ star_text p.star in
    let whole : text ≡ p.literals ++ others = append_assoc p.literals dots (star_text p.star) in
    let digits : prefix_len is_ascii_digit text ≡ length p.literals = ap (prefix_len is_ascii_digit)
    whole ∙ prefix_len-passed is_ascii_digit p.literals others h (no_digit p.dots p.star) in
    let rest : drop (length p.literals) text ≡ others = ap (drop (length p.literals)) whole ∙
    drop-append_seam p.literals others in
    let literals : take (length p.literals) text ≡ p.literals = ap (take (length p.literals)) whole
    ∙ take-append_seam p.literals others in
    let long : length dots ≡ p.dots = length-replicate {A = ℕ} p.dots 46 in
    let counted : prefix_len is_dot others ≡ p.dots = prefix_len-passed is_dot dots
    (star_text p.star) (are_dots p.dots) (no_dot p.star) ∙ long in
    let ending : drop p.dots others ≡ star_text p.star = ap (λ n. drop n others) (sym long) ∙
    drop-append_seam dots (star_text p.star) in
    ap (parts_at text) digits
    ∙ ap (λ o. made (take (length p.literals) text) (prefix_len is_dot o)
    (bytes_eq (drop (prefix_len is_dot o) o) (42 ∷ []))) rest
    ∙ ap (λ n. made (take (length p.literals) text) n (bytes_eq (drop n others) (42 ∷ []))) counted
    ∙ ap (λ l. made l p.dots (bytes_eq (drop p.dots others) (42 ∷ []))) literals
    ∙ ap (made p.literals p.dots) (ap (λ e. bytes_eq e (42 ∷ [])) ending ∙ is_star p.star)

pub reads_back : ReadsBack
reads_back p h =
    let some = list_all is_ascii_digit p.literals && nat_le 1 (character_count p) in
    let digits = (and_parts (list_all is_ascii_digit p.literals) (nat_le 1 (character_count p))
    (and_parts some (nat_le (character_count p) 32) h).0).0 in
    let same = parts_of-pattern_text p digits in
    ap (λ q. then_some (is_pattern q && bytes_eq (pattern_text q) (pattern_text p)) q) same
    ∙ ap (λ b. then_some b p) (and_from (is_pattern p) (bytes_eq (pattern_text p) (pattern_text p))
    h (bytes_eq-same (pattern_text p)))

-- what a text spells is a pattern, and its text is that text
pub pattern_of-spelled : (text : List ℕ) (p : PatternParts) → pattern_of text ≡ Some p → IsPattern p
    × (pattern_text p ≡ text)
pattern_of-spelled text p h = by (is_pattern (parts_of text) && bytes_eq
    (pattern_text (parts_of text)) text) refl h
  where
    by : (b : Bool) → is_pattern (parts_of text) && bytes_eq (pattern_text (parts_of text)) text ≡ b
        → then_some b (parts_of text) ≡ Some p → IsPattern p × (pattern_text p ≡ text)
    by true e f =
        let same : parts_of text ≡ p = cc in
        let parts = and_parts (is_pattern (parts_of text))
        (bytes_eq (pattern_text (parts_of text)) text) e in (
          subst IsPattern same parts.0,
          ap pattern_text (sym same) ∙ same_text
              (pattern_text (parts_of text)) text (sym parts.1),
        )
    by false e f = cc
