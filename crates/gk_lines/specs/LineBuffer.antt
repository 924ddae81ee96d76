-- A line in a buffer of fixed size, as it is read or made.
use Rattle.std.specs.Prelude.{ℕ, ◌+◌, List, [], ◌∷◌, ◌++◌, length, take}
use Rattle.gk_terms.specs.declared.limits.TheConstants.{MOST_LINE_BYTES}
use Rattle.gk_lines.specs.declared.line_buffer.TheConstants.{NUMBER_ROOM}

-- how many bytes of a line are kept: those of the longest line, its carriage return and its line
-- feed
abbrev pub ROOM_BYTES : ℕ
ROOM_BYTES = MOST_LINE_BYTES + 2

-- with more bytes, as far as there is room
unfoldable pub extended : List ℕ → List ℕ → List ℕ
extended line bytes = take ROOM_BYTES (line ++ bytes)

-- with these words, a space before each
abbrev pub with_words : List ℕ → List (List ℕ) → List ℕ
with_words line [] = line
with_words line (word ∷ words) = with_words (extended line (32 ∷ word)) words

-- a line of these words
abbrev pub line_of_words : List (List ℕ) → List ℕ
line_of_words [] = []
line_of_words (word ∷ words) = with_words (extended [] word) words

-- how many bytes these words take in a line, each with one byte after it
abbrev pub room_of : List (List ℕ) → ℕ
room_of [] = 0
room_of (word ∷ words) = length word + 1 + room_of words

-- how many digits a number of a line has at most
abbrev pub MOST_DIGITS : ℕ
MOST_DIGITS = NUMBER_ROOM
