-- Lines and words. Every text that is read consists of them.
use Rattle.std.specs.Prelude.{ℕ, ◌-◌, ◌==◌, ◌||◌, Bool, not, nat_lt, List, [], ◌∷◌, ◌++◌, length, take, filter, map, flat_map, slice_index, if◌then◌else◌}
use Rattle.std.specs.List.{list_any, slice_split, onto_first}
use Rattle.gk_terms.specs.declared.limits.TheConstants.{MOST_LINE_BYTES}

-- a space or a tab
abbrev pub is_blank : ℕ → Bool
is_blank b = (b == 32) || (b == 9)

abbrev pub is_empty : {X : Type 0} → List X → Bool
is_empty xs = length xs == 0

-- the words of a line: its parts between blanks, without the empty ones
abbrev pub words_of : List ℕ → List (List ℕ)
words_of line = filter (λ word. not (is_empty word)) (slice_split is_blank line)

-- the lines, each with its line feed; the last may have none, and is not a line if it is empty
abbrev pub raw_lines_of : List ℕ → List (List ℕ)
raw_lines_of [] = []
raw_lines_of (b ∷ bs) =
    if b == 10 then (b ∷ []) ∷ raw_lines_of bs else onto_first b (raw_lines_of bs)

-- the lines that have their line feed
abbrev pub whole_lines_of : List ℕ → List (List ℕ)
whole_lines_of bytes = filter (list_any (λ b. b == 10)) (raw_lines_of bytes)

-- without one such byte at the end; the last byte of an empty text counts as 0
abbrev pub strip_end : ℕ → List ℕ → List ℕ
strip_end byte text =
    if slice_index text (length text - 1) == byte then take (length text - 1) text else text

-- without one carriage return at the end
abbrev pub strip_carriage_return : List ℕ → List ℕ
strip_carriage_return line = strip_end 13 line

-- what a line says: without its line feed and one carriage return just before that
abbrev pub content_of : List ℕ → List ℕ
content_of raw =
    if slice_index raw (length raw - 1) == 10
    then strip_carriage_return (take (length raw - 1) raw)
    else raw

-- what each line says
abbrev pub lines_of : List ℕ → List (List ℕ)
lines_of bytes = map content_of (raw_lines_of bytes)

-- more bytes than a line may have, its ending aside
abbrev pub is_too_long : List ℕ → Bool
is_too_long line = nat_lt MOST_LINE_BYTES (length line)

-- words with a space between each two
abbrev pub spaced : List (List ℕ) → List ℕ
spaced [] = []
spaced (word ∷ words) = word ++ flat_map (λ next. 32 ∷ next) words

-- a line of words, as it is written
abbrev pub line_text : List (List ℕ) → List ℕ
line_text words = spaced words ++ (10 ∷ [])
