-- Patterns that match, by their counts and scores, and the best of them up to a bound.
use Rattle.std.proofs.Common.{◌≡◌, ℕ, zero, suc, ◌+◌, ◌*◌, ◌<◌, ◌≤◌, eqb, nat_le, Bool, true, false, cond, ◌&&◌, ◌⊎◌, inl, inr, List, length, take, refl, sym, ap, ◌∙◌, arith, Option, Some, None}
use Rattle.std.specs.Char.{is_ascii_digit}
use Rattle.std.specs.List.{Contains, list_all, starts_with}
use Rattle.std.specs.Cmp.Lexicographic.{same_text}
use Rattle.std.proofs.lemmas.Bool.{and_parts, leb-true, eqb-true, cases_lt}
use Rattle.std.proofs.lemmas.Bool.Decides.{nat_tests}
use Rattle.digit_patterns.specs.PatternParts.{PatternParts, IsPattern, least_count, character_count}
use Rattle.digit_patterns.specs.Pattern.{Matches, has_count, is_rank_above, Outranks}
use Rattle.digit_patterns.specs.Table.{hit_of}
use Rattle.digit_patterns.specs.declared.tables.Hit.{Hit}
use Rattle.raw_trie.specs.Trie.{Row}
use Rattle.raw_trie.specs.Found.{score_of, IsFound}
use Rattle.raw_trie.proofs.Same.{made}

-- 1 if no star ends the pattern
abbrev pub plain_of : PatternParts → ℕ
plain_of p = cond p.star 0 1

-- what the counts of a matching pattern are
pub record Counts (p : PatternParts) (n : ℕ) : Type 0 where
  pub few : p.dots ≤ 32
  pub one : plain_of p ≤ 1
  pub within : plain_of p ≡ 0 → length p.literals + p.dots ≤ n
  pub whole : plain_of p ≡ 1 → length p.literals + p.dots ≡ n

pub counts_of : (p : PatternParts) (text : List ℕ) → IsPattern p → Matches p text
    → Counts p (length text)
counts_of p text pattern match =
    record { few = few; one = one p.star; within = inside p.star refl; whole = whole p.star refl }
  where
    fits : character_count p ≤ 32
    fits = leb-true (character_count p) 32
        (and_parts (list_all is_ascii_digit p.literals && nat_le 1 (character_count p))
        (nat_le (character_count p) 32) pattern).1

    few : p.dots ≤ 32
    few = omega (arith, fits)

    count : has_count p (length text) ≡ true
    count = (and_parts (starts_with eqb text p.literals) (has_count p (length text)) match).1

    one : (b : Bool) → cond b 0 1 ≤ 1
    one true = omega arith
    one false = omega arith

    inside : (b : Bool) → p.star ≡ b → ◌≡◌ {A = ℕ} (cond b 0 1) 0
        → length p.literals + p.dots ≤ length text
    inside true e f =
        leb-true (least_count p) (length text)
        (sym (ap (λ s. cond s (nat_le (least_count p) (length text))
        (eqb (length text) (least_count p))) e) ∙ count)
    inside false e f = absurd (omega arith)

    whole : (b : Bool) → p.star ≡ b → ◌≡◌ {A = ℕ} (cond b 0 1) 1
        → length p.literals + p.dots ≡ length text
    whole true e f = absurd (omega arith)
    whole false e f =
        sym (eqb-true (length text) (least_count p)
        (sym (ap (λ s. cond s (nat_le (least_count p) (length text))
        (eqb (length text) (least_count p))) e) ∙ count))

-- the literals of a matching pattern are the front of the text
pub literals_in_front : (p : PatternParts) (text : List ℕ) → Matches p text
    → p.literals ≡ take (length p.literals) text
literals_in_front p text match =
    same_text p.literals (take (length p.literals) text)
    (sym (and_parts (starts_with eqb text p.literals) (has_count p (length text)) match).0)

-- equal scores are equal counts
pub same_counts : (l m d e s t : ℕ) → d ≤ 32 → e ≤ 32 → s ≤ 1 → t ≤ 1
    → 66 * l + 2 * d + s ≡ 66 * m + 2 * e + t → (l ≡ m) × (d ≡ e) × (s ≡ t)
same_counts l m d e s t h i j k f =
    let x : l ≡ m = omega arith in
    let y : d ≡ e = omega arith in
    (x, y, omega arith)

-- a greater score is a greater rank
pub outranks_by_score : (p q : PatternParts) → p.dots ≤ 32 → q.dots ≤ 32 → score_of q < score_of p
    → Outranks p q
outranks_by_score p q h i below =
    by (length p.literals) (length q.literals) p.dots q.dots (plain_of p) (plain_of q) h i
    (one p.star) (one q.star) below
  where
    one : (b : Bool) → cond b 0 1 ≤ 1
    one true = omega arith
    one false = omega arith

    by : (l m d e s t : ℕ) → d ≤ 32 → e ≤ 32 → s ≤ 1 → t ≤ 1
        → 66 * m + 2 * e + t < 66 * l + 2 * d + s → is_rank_above (l, d, s) (m, e, t) ≡ true
    by l m d e s t h i j k below = grind (arith, nat_tests)

-- on the counts of a pattern: l literals, d dots, and s, which is 1 if no star ends it
pub too_long : (l d s k j n : ℕ) → d ≤ 32 → s ≤ 1 → (s ≡ 0 → l + d ≤ n) → (s ≡ 1 → l + d ≡ n)
    → k + j ≡ n → 66 * k + 2 * j + 2 ≤ 66 * l + 2 * d + s → 66 * l + 2 * d + s < 66 * (k + 1) → ⊥
too_long l d zero k j n few one within whole full more below =
    let h = within refl in let same : l ≡ k = omega arith in omega arith
too_long l d (suc zero) k j n few one within whole full more below =
    let h = whole refl in let same : l ≡ k = omega arith in omega arith
too_long l d (suc (suc s)) k j n few one within whole full more below = omega arith

pub not_plain : (l d s k j n : ℕ) → d ≤ 32 → s ≤ 1 → (s ≡ 1 → l + d ≡ n) → n ≤ 32 → k + j < n
    → 66 * l + 2 * d + s < 66 * k + 2 * j + 2 → 66 * l + 2 * d + s < 66 * k + 2 * j + 1
not_plain l d zero k j n few one whole short early below = omega arith
not_plain l d (suc zero) k j n few one whole short early below =
    by (whole refl) (cases_lt (66 * l + 2 * d + 1) (66 * k + 2 * j + 1))
  where
    by : l + d ≡ n → (66 * l + 2 * d + 1 < 66 * k + 2 * j + 1)
        ⊎ (66 * k + 2 * j + 1 ≤ 66 * l + 2 * d + 1) → 66 * l + 2 * d + 1 < 66 * k + 2 * j + 1
    by h (inl less) = less
    by h (inr more) = let same : l ≡ k = omega arith in absurd (omega arith)
not_plain l d (suc (suc s)) k j n few one whole short early below = absurd (omega arith)

pub more_dots : (l d s k j : ℕ) → d ≤ 32 → s ≤ 1 → 66 * k + 2 * j + 2 ≤ 66 * l + 2 * d + s
    → 66 * l + 2 * d + s < 66 * (k + 1) → (l ≡ k) × (j < d)
more_dots l d s k j few one far below = let same : l ≡ k = omega arith in (same, omega arith)

module _ (rows : List Row) (text : List ℕ) (patterns : (row : Row) → Contains rows row
    → IsPattern row.0) where
  -- of no matching row is the score below the greater bound, and not below the lesser
  pub widen : (low a b : ℕ) (best : Option Hit) → IsFound rows text low a best
      → ((row : Row) → Contains rows row → Matches row.0 text → score_of row.0 < b
      → score_of row.0 < a) → IsFound rows text low b best
  widen low a b None found less =
      λ row in' match from below. found row in' match from (less row in' match below)
  widen low a b (Some hit) found less = (
    found.0,
    found.1,
    found.2,
    found.3,
    λ row in' match below. found.4 row in' match (less row in' match below),
  )

  -- two matching patterns with one score are one
  same_by_score : (p q : PatternParts) → IsPattern p → IsPattern q → Matches p text → Matches q text
      → score_of p ≡ score_of q → p ≡ q
  same_by_score p q h i m n e =
      let a = counts_of p text h m in let b = counts_of q text i n in
      let counts =
      same_counts (length p.literals) (length q.literals) p.dots q.dots (plain_of p) (plain_of q)
      a.few b.few a.one b.one e in
      made p q (literals_in_front p text m ∙ ap (λ k. take k text) counts.0
      ∙ sym (literals_in_front q text n)) counts.1 (same_star p.star q.star counts.2)
    where
      same_star : (s t : Bool) → ◌≡◌ {A = ℕ} (cond s 0 1) (cond t 0 1) → s ≡ t
      same_star true true e = refl
      same_star false false e = refl
      same_star true false e = absurd (omega arith)
      same_star false true e = absurd (omega arith)

  -- a row at the bound is the best
  pub take_over : (low a b : ℕ) (best : Row) → Contains rows best → Matches best.0 text
      → score_of best.0 ≡ a → ((row : Row) → Contains rows row → Matches row.0 text
      → score_of row.0 < b → (score_of row.0 < a) ⊎ (score_of row.0 ≡ a))
      → IsFound rows text low b (Some (hit_of best))
  take_over low a b best in' match at all = (
    best,
    in',
    match,
    refl,
    λ row has matching below. by row has matching
        (all row has matching below),
  )
    where
      by : (row : Row) → Contains rows row → Matches row.0 text
          → (score_of row.0 < a) ⊎ (score_of row.0 ≡ a) → (row.0 ≡ best.0) ⊎ Outranks best.0 row.0
      by row has matching (inl less) =
          inr (outranks_by_score best.0 row.0 (counts_of best.0 text (patterns best in') match).few
          (counts_of row.0 text (patterns row has) matching).few (omega (arith, less, at)))
      by row has matching (inr same) =
          inl (same_by_score row.0 best.0 (patterns row has) (patterns best in') matching match
          (same ∙ sym at))
