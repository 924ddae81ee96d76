-- The best matching row of a list of rows. A row is a pattern with a value.
use Rattle.std.specs.Prelude.{◌≡◌, ℕ, List, length, Bool, filter, Option, ◌⊎◌}
use Rattle.std.specs.List.{All, Contains}
use Rattle.std.specs.Option.{option_map}
use Rattle.gk_terms.specs.Choice.{first_unbeaten}
use Rattle.digit_patterns.specs.PatternParts.{PatternParts}
use Rattle.digit_patterns.specs.Pattern.{matches, Matches, outranks, Outranks}
use Rattle.digit_patterns.specs.declared.tables.Hit.{Hit}

-- the row matches, and its pattern outranks that of each matching row of another pattern
pub record IsBest
    {V : Type 0} (rows : List (PatternParts × V)) (text : List ℕ) (best : PatternParts × V)
    : Type 0 where
  pub row : Contains rows best
  pub matching : Matches best.0 text
  pub longest : All (λ (row : PatternParts × V). Matches row.0 text
      → (row.0 ≡ best.0) ⊎ Outranks best.0 row.0) rows

-- whether the pattern of a row outranks that of another
abbrev pub ranks_above : {V : Type 0} → PatternParts × V → PatternParts × V → Bool
ranks_above row other = outranks row.0 other.0

-- whether the pattern of a row matches
abbrev pub row_matches : {V : Type 0} → List ℕ → PatternParts × V → Bool
row_matches text row = matches row.0 text

-- the first matching row that no matching row outranks
abbrev pub best_of : {V : Type 0} → List (PatternParts × V) → List ℕ → Option (PatternParts × V)
best_of rows text = first_unbeaten ranks_above (filter (row_matches text) rows)

-- what a table says of a row
abbrev pub hit_of : PatternParts × ℕ → Hit
hit_of row = record {
  value = row.1;
  literals = length row.0.literals;
  dots = row.0.dots;
  star = row.0.star;
}

abbrev pub best_hit : List (PatternParts × ℕ) → List ℕ → Option Hit
best_hit rows text = option_map hit_of (best_of rows text)
