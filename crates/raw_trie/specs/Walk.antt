-- What a look at a node tells of the rows.
use Rattle.std.specs.Prelude.{◌≡◌, ℕ, ◌+◌, ◌-◌, ◌*◌, ◌/◌, List, [], ◌∷◌, ◌++◌, ◌≤◌, slice_index, slice_get, take, true, false, Option, Some, None, if◌then◌else◌}
use Rattle.std.specs.Char.{is_ascii_digit}
use Rattle.std.specs.Option.{option_and_then}
use Rattle.digit_patterns.specs.Duplicate.{duplicate_of}
use Rattle.raw_trie.specs.Trie.{Row, At, LeadsTo, IsTrie, link_at, end_at, paths_of}
use Rattle.raw_trie.specs.declared.walk.Seen.{Seen}

-- the words are those of the trie of the rows, none of which has the pattern of another
pub record Represents (rows : List Row) (words : List ℕ) : Type 0 where
  pub trie : IsTrie rows (paths_of rows) words
  pub once : duplicate_of rows ≡ None

-- the rows have a trie
abbrev pub HasTrie : List Row → Type 0
HasTrie rows = (words : List ℕ) × Represents rows words

-- what was seen is the dot's link and the ends of the node of the path
pub record Shows (rows : List Row) (path : List ℕ) (seen : Seen) : Type 0 where
  pub words : List ℕ
  pub node : ℕ
  pub represents : Represents rows words
  pub at : At (paths_of rows) node path
  pub dot : seen.dot ≡ link_at words node 10
  pub plain : seen.plain ≡ end_at words node false
  pub starred : seen.starred ≡ end_at words node true

-- where the digit's link leads
abbrev pub LeadsOn : List Row → List ℕ → Option ℕ → ℕ → Type 0
LeadsOn rows path None next = next ≡ 0
LeadsOn rows path (Some digit) next = LeadsTo (paths_of rows) (path ++ (digit + 48) ∷ []) next

-- the most nodes that are looked at for so many characters
abbrev pub most_looks : ℕ → ℕ
most_looks n = (n + 1) * (n + 2) / 2

-- the number of a digit
abbrev pub digit_of : ℕ → Option ℕ
digit_of c = if is_ascii_digit c then Some (c - 48) else None

-- each kept node, down to a depth, is where so many characters of the text lead
abbrev pub AreNodes : List Row → List ℕ → List ℕ → ℕ → Type 0
AreNodes rows text nodes deepest =
    (depth : ℕ) → depth ≤ deepest → At (paths_of rows) (slice_index nodes depth) (take depth text)

-- where the next character leads after so many, 0 if nowhere or if it is no digit
abbrev pub LinkAt : List Row → List ℕ → ℕ → ℕ → Type 0
LinkAt rows text depth next =
    LeadsOn rows (take depth text) (option_and_then digit_of (slice_get text depth)) next
