-- How many nodes a look-up of a text looks at.
use Rattle.std.specs.Prelude.{ℕ, ◌+◌, ◌-◌, Bool, List, ◌++◌, length, take, replicate, sum_by, count_by, Option, Some, None}
use Rattle.std.specs.Char.{is_ascii_digit}
use Rattle.std.specs.List.{list_any, prefix_len, range_with_len}
use Rattle.std.specs.Str.{bytes_eq}
use Rattle.digit_patterns.specs.Table.{best_hit}
use Rattle.digit_patterns.specs.declared.tables.Hit.{Hit}
use Rattle.raw_trie.specs.Nodes.{all_beginnings, patterns_of}
use Rattle.raw_trie.specs.Trie.{Row}

-- whether there is a node of this path: it is empty, or a pattern begins so, its star left off
abbrev pub has_node : List Row → List ℕ → Bool
has_node rows path = list_any (bytes_eq path) (all_beginnings (patterns_of rows))

-- how many there are of beginnings of the text that are digits alone, as the empty one is
abbrev pub digit_nodes : List Row → List ℕ → ℕ
digit_nodes rows text =
    count_by (λ literals. has_node rows (take literals text))
    (range_with_len 0 (prefix_len is_ascii_digit text + 1))

-- how many there are of so many characters of the text with dots after them: one dot or more, up
-- to one for each character that is left
abbrev pub dot_nodes : List Row → List ℕ → ℕ → ℕ
dot_nodes rows text literals =
    count_by (λ dots. has_node rows (take literals text ++ replicate dots 46))
    (range_with_len 1 (length text - literals))

-- the same of each number of characters, from the least on and below the end
abbrev pub dot_nodes_between : List Row → List ℕ → ℕ → ℕ → ℕ
dot_nodes_between rows text least end =
    sum_by (dot_nodes rows text) (range_with_len least (end - least))

-- how many literals the hit has: none if there is no hit
abbrev pub least_literals : Option Hit → ℕ
least_literals None = 0
least_literals (Some hit) = hit.literals

-- those of the digits that the text begins with; and, after as many of these digits as the hit has
-- literals, or more, those of dots
abbrev pub looks_of : List Row → List ℕ → ℕ
looks_of rows text =
    digit_nodes rows text
    + dot_nodes_between rows text (least_literals (best_hit rows text))
    (prefix_len is_ascii_digit text + 1)
