-- What the words of a trie mean: which nodes there are, where their links lead, and which rows end
-- at them.
use Rattle.std.specs.Prelude.{◌≡◌, ℕ, ◌+◌, ◌*◌, ◌/◌, ◌<◌, ◌==◌, Bool, true, false, List, [], ◌∷◌, ◌++◌, length, replicate, slice_index, slice_index_or, slice_set, if◌then◌else◌, fold, Option, Some, None, MatchOption, ◌⊎◌}
use Rattle.std.specs.List.{list_any, Contains}
use Rattle.std.specs.Str.{bytes_eq}
use Rattle.digit_patterns.specs.PatternParts.{PatternParts, IsPattern}
use Rattle.digit_patterns.specs.Duplicate.{has_pattern}
use Rattle.raw_trie.specs.Nodes.{path_of, beginnings, all_beginnings, patterns_of}

abbrev pub Row : Type 0
Row = PatternParts × ℕ

-- the character of a link: the digit of its number, and the dot for the eleventh
abbrev pub link_character_of : ℕ → ℕ
link_character_of symbol = if symbol == 10 then 46 else symbol + 48

-- where a link of a node leads: a node's number, or 0
abbrev pub link_at : List ℕ → ℕ → ℕ → ℕ
link_at words node symbol = slice_index words (15 * node + symbol)

-- the value of an end, whose first word is 0 if there is none
abbrev pub end_in : List ℕ → ℕ → Option ℕ
end_in words place =
    if slice_index words place == 0 then None else Some (slice_index words (place + 1))

-- the end of a node, without a star or with one
abbrev pub end_at : List ℕ → ℕ → Bool → Option ℕ
end_at words node star = end_in words (15 * node + (if star then 13 else 11))

-- the node of that number is that of the path
abbrev pub At : List (List ℕ) → ℕ → List ℕ → Type 0
At paths node path = (node < length paths) × (slice_index_or paths node [] ≡ path)

-- a link is the number of the path's node, or 0 if it has none
abbrev pub LeadsTo : List (List ℕ) → List ℕ → ℕ → Type 0
LeadsTo paths path link =
    ((link ≡ 0) × ((node : ℕ) → At paths node path → ⊥)) ⊎ ((0 < link) × At paths link path)

-- the row is that of the path, with or without a star
abbrev pub EndsAt : List ℕ → Bool → Row → Type 0
EndsAt path star row = (path_of row.0 ≡ path) × (row.0.star ≡ star)

-- an end tells the value of the path's row, and that there is none
abbrev pub Tells : List Row → List ℕ → Bool → Option ℕ → Type 0
Tells rows path star end =
    MatchOption end ((row : Row) → Contains rows row → EndsAt path star row → ⊥)
    (λ value. (row : Row) × Contains rows row × EndsAt path star row × (row.1 ≡ value))

-- the words are those of a trie with the rows, whose nodes have these paths
pub record IsTrie (rows : List Row) (paths : List (List ℕ)) (words : List ℕ) : Type 0 where
  pub sized : length words ≡ 15 * length paths
  pub root : At paths 0 []
  pub apart : (m n : ℕ) (path : List ℕ) → At paths m path → At paths n path → m ≡ n
  pub closed : (node : ℕ) (path : List ℕ) (c : ℕ) → At paths node (path ++ c ∷ [])
      → (m : ℕ) × At paths m path
  pub links : (node symbol : ℕ) → node < length paths → symbol < 11
      → LeadsTo paths (slice_index_or paths node [] ++ link_character_of symbol ∷ [])
      (link_at words node symbol)
  pub ends : (node : ℕ) (star : Bool) → node < length paths
      → Tells rows (slice_index_or paths node []) star (end_at words node star)
  pub held : (row : Row) → Contains rows row → (m : ℕ) × At paths m (path_of row.0)
  pub patterns : (row : Row) → Contains rows row → IsPattern row.0

-- the words are those of some trie
abbrev pub IsSomeTrie : List ℕ → Type 0
IsSomeTrie words = (rows : List Row) × (paths : List (List ℕ)) × IsTrie rows paths words

-- one more path, unless it is there
abbrev pub with_path : List (List ℕ) → List ℕ → List (List ℕ)
with_path paths path = if list_any (bytes_eq path) paths then paths else paths ++ path ∷ []

-- the paths of a trie to which those of a text's beginnings are added
abbrev pub with_beginnings : List (List ℕ) → List ℕ → List (List ℕ)
with_beginnings paths text = fold with_path paths (beginnings text)

-- the paths of the nodes of rows
abbrev pub paths_of : List Row → List (List ℕ)
paths_of rows = fold with_path [] (all_beginnings (patterns_of rows))

-- the words are those of a trie with the rows, and the node is that of the path
abbrev pub Reaches : List Row → List (List ℕ) → List ℕ → ℕ → List ℕ → Type 0
Reaches rows paths words node path = IsTrie rows paths words × At paths node path

-- the link at a place led to the child, or now leads to it, which is a new node
abbrev pub Links : List ℕ → ℕ → List ℕ → ℕ → Type 0
Links old place new child =
    ((0 < slice_index old place) × (child ≡ slice_index old place) × (new ≡ old))
    ⊎ ((slice_index old place ≡ 0) × (child ≡ length old / 15)
    × (new ≡ slice_set (old ++ replicate 15 0) place child))

-- the words after an end is set, unless there is one
abbrev pub with_end : List ℕ → ℕ → ℕ → List ℕ
with_end words place value =
    if slice_index words place == 0 then slice_set (slice_set words place 1) (place + 1) value
    else words

-- the node of the path is there, whatever trie it was before
abbrev pub GrowsTo : List ℕ → List ℕ → ℕ → List ℕ → Type 0
GrowsTo old new node path =
    (rows : List Row) (paths : List (List ℕ)) → IsTrie rows paths old
    → Reaches rows (with_beginnings paths path) new node path

-- the row is one more, unless there is one with its pattern
abbrev pub Added : List Row → List (List ℕ) → Row → List ℕ → Bool → Type 0
Added rows paths row words true =
    IsTrie (rows ++ row ∷ []) (with_beginnings paths (path_of row.0)) words
    × (has_pattern row.0 rows ≡ false)
Added rows paths row words false = has_pattern row.0 rows ≡ true

abbrev pub AddsRow : List ℕ → List ℕ → Row → Bool → Type 0
AddsRow old new row added =
    (rows : List Row) (paths : List (List ℕ)) → IsTrie rows paths old
    → Added rows paths row new added
