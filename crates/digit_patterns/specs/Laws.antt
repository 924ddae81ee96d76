-- What the ranks of patterns are good for: the longest of the patterns that match is one pattern.
use Rattle.std.specs.Prelude.{◌≡◌, ℕ, false, List, Some, MatchOption, ◌⊎◌}
use Rattle.std.specs.List.{All}
use Rattle.digit_patterns.specs.PatternParts.{PatternParts, IsPattern}
use Rattle.digit_patterns.specs.Pattern.{matches, Matches, rank_of, Outranks, pattern_text, pattern_of}
use Rattle.digit_patterns.specs.Table.{IsBest, best_of}

-- patterns of one rank that match one text are one pattern
abbrev pub RankDecides : Type 0
RankDecides =
    (text : List ℕ) (p q : PatternParts)
    → Matches p text → Matches q text → rank_of p ≡ rank_of q → p ≡ q

-- no pattern outranks itself, and what outranks one that outranks a third outranks the third
pub record RankOrders : Type 0 where
  pub irreflexive : (p : PatternParts) → ¬ Outranks p p
  pub transitive : (p q r : PatternParts) → Outranks p q → Outranks q r → Outranks p r

-- of two patterns that match one text, and differ, one outranks the other
abbrev pub RankIsTotal : Type 0
RankIsTotal =
    (text : List ℕ) (p q : PatternParts)
    → Matches p text → Matches q text → (p ≡ q) ⊎ (Outranks p q ⊎ Outranks q p)

-- the row that is found is the one with the longest matching pattern; there is none only if no row
-- matches
abbrev pub BestIsLongest : Type 0
BestIsLongest =
    (rows : List (PatternParts × ℕ)) (text : List ℕ)
    → MatchOption (best_of rows text) (All (λ row. matches row.0 text ≡ false) rows)
    (IsBest rows text)

-- the text of a pattern spells that pattern
abbrev pub ReadsBack : Type 0
ReadsBack = (p : PatternParts) → IsPattern p → pattern_of (pattern_text p) ≡ Some p
