-- The best row of those that a walk has met.
use Rattle.std.specs.Prelude.{◌≡◌, ℕ, Bool, ◌+◌, ◌*◌, ◌<◌, ◌≤◌, List, length, cond, Option, Some, None, ◌⊎◌}
use Rattle.std.specs.List.{Contains}
use Rattle.digit_patterns.specs.PatternParts.{PatternParts}
use Rattle.digit_patterns.specs.Pattern.{Matches, Outranks}
use Rattle.digit_patterns.specs.Table.{hit_of}
use Rattle.digit_patterns.specs.declared.tables.Hit.{Hit}
use Rattle.raw_trie.specs.Trie.{Row}

-- a rank as one number: there are at most 32 dots
abbrev pub score_of : PatternParts → ℕ
score_of p = 66 * length p.literals + 2 * p.dots + cond p.star 0 1

-- the hit is of a matching row, whose pattern outranks those of the other matching rows below the
-- bound; if there is none, no matching row is from the lower bound on and below the other
abbrev pub IsFound : List Row → List ℕ → ℕ → ℕ → Option Hit → Type 0
IsFound rows text low bound None =
    (row : Row) → Contains rows row → Matches row.0 text → low ≤ score_of row.0
    → score_of row.0 < bound → ⊥
IsFound rows text low bound (Some hit) =
    (best : Row) × Contains rows best × Matches best.0 text × (hit ≡ hit_of best)
    × ((row : Row) → Contains rows row → Matches row.0 text → score_of row.0 < bound
    → (row.0 ≡ best.0) ⊎ Outranks best.0 row.0)

-- the same of all matching rows from the lower bound on
abbrev pub IsTop : List Row → List ℕ → ℕ → Option Hit → Type 0
IsTop rows text low None =
    (row : Row) → Contains rows row → Matches row.0 text → score_of row.0 < low
IsTop rows text low (Some hit) =
    (best : Row) × Contains rows best × Matches best.0 text × (hit ≡ hit_of best)
    × ((row : Row) → Contains rows row → Matches row.0 text
    → (row.0 ≡ best.0) ⊎ Outranks best.0 row.0)

-- the hit of an end, or else the best so far
abbrev pub with_hit : Option ℕ → ℕ → ℕ → Bool → Option Hit → Option Hit
with_hit (Some value) literals dots star best =
    Some (record { value = value; literals = literals; dots = dots; star = star })
with_hit None literals dots star best = best
