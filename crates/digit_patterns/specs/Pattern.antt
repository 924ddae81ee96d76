-- What a pattern's text spells, which texts the pattern matches, and its rank.
use Rattle.std.specs.Prelude.{ℕ, ◌==◌, Bool, ◌&&◌, ◌||◌, cond, IsTrue, nat_le, nat_lt, List, [], ◌∷◌, ◌++◌, length, drop, take, replicate, true, false, Option, Some, if◌then◌else◌}
use Rattle.std.specs.Bool.{then_some}
use Rattle.std.specs.Char.{is_ascii_digit}
use Rattle.std.specs.List.{prefix_len, starts_with}
use Rattle.std.specs.Str.{bytes_eq}
use Rattle.std.proofs.Math.Bool.{beq}
use Rattle.digit_patterns.specs.PatternParts.{PatternParts, least_count, is_pattern}

abbrev pub is_dot : ℕ → Bool
is_dot b = b == 46

-- whether a star follows the dots; nothing if anything else does
abbrev pub star_of : List ℕ → Option Bool
star_of [] = Some false
star_of (b ∷ bs) = then_some (bytes_eq (b ∷ bs) (42 ∷ [])) true

-- the characters of a pattern
abbrev pub pattern_text : PatternParts → List ℕ
pattern_text p = p.literals ++ replicate p.dots 46 ++ (if p.star then 42 ∷ [] else [])

-- the digits in front, the dots right after them, and whether nothing but a star follows those
abbrev pub parts_of : List ℕ → PatternParts
parts_of text =
    let digits = prefix_len is_ascii_digit text in
    let others = drop digits text in
    let dots = prefix_len is_dot others in
    record {
      literals = take digits text;
      dots = dots;
      star = bytes_eq (drop dots others) (42 ∷ []);
    }

-- the pattern that a text spells: its parts, if they are a pattern and are the whole text
abbrev pub pattern_of : List ℕ → Option PatternParts
pattern_of text =
    let p = parts_of text in
    then_some (is_pattern p && bytes_eq (pattern_text p) text) p

-- whether the text has as many characters as a pattern needs
abbrev pub has_count : PatternParts → ℕ → Bool
has_count p count = if p.star then nat_le (least_count p) count else count == least_count p

-- the text begins with the literals, and has a character for each dot; further ones only if there
-- is a star
abbrev pub matches : PatternParts → List ℕ → Bool
matches p text = starts_with ◌==◌ text p.literals && has_count p (length text)

abbrev pub Matches : PatternParts → List ℕ → Type 0
Matches p text = IsTrue (matches p text)

-- more literals first, then more dots, then no star before a star
abbrev pub rank_of : PatternParts → ℕ × ℕ × ℕ
rank_of p = (length p.literals, p.dots, cond p.star 0 1)

-- the first number that differs is the greater
abbrev pub is_rank_above : ℕ × ℕ × ℕ → ℕ × ℕ × ℕ → Bool
is_rank_above r s =
    nat_lt s.0 r.0 || ((r.0 == s.0) && (nat_lt s.1 r.1 || ((r.1 == s.1) && nat_lt s.2 r.2)))

abbrev pub outranks : PatternParts → PatternParts → Bool
outranks p q = is_rank_above (rank_of p) (rank_of q)

abbrev pub Outranks : PatternParts → PatternParts → Type 0
Outranks p q = IsTrue (outranks p q)

abbrev pub same_pattern : PatternParts → PatternParts → Bool
same_pattern p q = bytes_eq p.literals q.literals && ((p.dots == q.dots) && beq p.star q.star)
