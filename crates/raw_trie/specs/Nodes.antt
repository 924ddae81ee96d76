-- The nodes that patterns take: one for each different beginning of their characters, the star left
-- off.
use Rattle.std.specs.Prelude.{ℕ, List, [], ◌∷◌, ◌++◌, map, replicate}
use Rattle.std.specs.List.{flat_map}
use Rattle.std.specs.Set.{distinct_count}
use Rattle.std.specs.Str.{bytes_eq}
use Rattle.digit_patterns.specs.PatternParts.{PatternParts}

-- the characters of a pattern, the star left off
abbrev pub path_of : PatternParts → List ℕ
path_of p = p.literals ++ replicate p.dots 46

-- the beginnings of a text: the empty one and the whole are two of them
abbrev pub beginnings : List ℕ → List (List ℕ)
beginnings [] = [] ∷ []
beginnings (c ∷ cs) = [] ∷ map (λ b. c ∷ b) (beginnings cs)

-- those of the patterns, and the empty one, which there is without a pattern too
abbrev pub all_beginnings : List PatternParts → List (List ℕ)
all_beginnings patterns = [] ∷ flat_map (λ p. beginnings (path_of p)) patterns

-- how many of them differ
abbrev pub node_count : List PatternParts → ℕ
node_count patterns = distinct_count bytes_eq (all_beginnings patterns)

-- the patterns of rows
abbrev pub patterns_of : {V : Type 0} → List (PatternParts × V) → List PatternParts
patterns_of rows = map (λ row. row.0) rows
