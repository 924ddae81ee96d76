-- Rows whose pattern an earlier row has.
use Rattle.std.specs.Prelude.{ℕ, ◌+◌, List, [], ◌∷◌, ◌++◌, Bool, Option, Some, None, if◌then◌else◌}
use Rattle.std.specs.List.{list_any}
use Rattle.digit_patterns.specs.PatternParts.{PatternParts}
use Rattle.digit_patterns.specs.Pattern.{same_pattern}

-- whether one of the rows has the pattern
abbrev pub has_pattern : {V : Type 0} → PatternParts → List (PatternParts × V) → Bool
has_pattern p rows = list_any (λ row. same_pattern row.0 p) rows

-- the place of the first row whose pattern a row before it has; the first of the rows is at this
-- place
abbrev pub duplicate_from : {V : Type 0} → ℕ → List (PatternParts × V) → List (PatternParts × V)
    → Option ℕ
duplicate_from place before [] = None
duplicate_from place before (row ∷ rows) =
    if has_pattern row.0 before then Some place
    else duplicate_from (place + 1) (before ++ row ∷ []) rows

-- the first row, counted from 0, whose pattern an earlier row has
abbrev pub duplicate_of : {V : Type 0} → List (PatternParts × V) → Option ℕ
duplicate_of rows = duplicate_from 0 [] rows
