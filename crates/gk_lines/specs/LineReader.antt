-- An input that is read in pieces, line by line.
use Rattle.std.specs.Prelude.{◌≡◌, ◌⊎◌, ℕ, ◌+◌, ◌*◌, ◌^◌, ◌<◌, ◌≤◌, ◌==◌, Bool, true, false, IsTrue, List, [], ◌∷◌, ◌++◌, length, take}
use Rattle.std.specs.List.{position_or_len}
use Rattle.std.specs.Io.KnownBytes.{prepend_known, IsAtEnd}
use Rattle.std.specs.declared.option.Option.{Option}
use Rattle.gk_terms.specs.Text.{raw_lines_of}
use Rattle.gk_lines.specs.declared.line_reader.ReadFault.{ReadFault}
use Rattle.gk_lines.specs.declared.line_reader.ReadFault.TheVariants.{Failed, TurnsSpent}
use Rattle.gk_lines.specs.LineBuffer.{ROOM_BYTES}
use Rattle.gk_lines.specs.Streams.{KnownStep}

-- what was read and not yet taken, how often the reader may still be called, and whether it came to
-- its end
pub record LineReaderParts : Type 0 where
  pub pending : List ℕ
  pub turns : ℕ
  pub ended : Bool

-- the bytes that are still to come: those that are pending, and then those that the reader has
-- left, if it tells
abbrev pub left_of : LineReaderParts → Option (List ℕ) → Option (List ℕ)
left_of lines remaining = prepend_known lines.pending remaining

-- an input that came to its end has a reader with no byte left
abbrev pub AtEndIfEnded : LineReaderParts → Option (List ℕ) → Type 0
AtEndIfEnded lines remaining = IsTrue lines.ended → IsAtEnd remaining

-- whether the reader failed
abbrev pub is_failure : ReadFault → Bool
is_failure Failed = true
is_failure TurnsSpent = false

-- each call of the reader took one turn, and no turn was lost: by the counts of calls before and
-- after, and those of turns
abbrev pub CountsTurns : ℕ → ℕ → ℕ → ℕ → Type 0
CountsTurns calls_before calls_after turns_before turns_after =
    calls_before + turns_before < 2 ^ 64 → calls_after + turns_after ≡ calls_before + turns_before

-- no more turns were taken than bytes came, if the reader tells what it has left
abbrev pub GaveBytes : Option (List ℕ) → Option (List ℕ) → ℕ → ℕ → Type 0
GaveBytes left_before left_after turns_before turns_after =
    KnownStep left_before left_after
    (λ bytes rest. turns_before + length rest ≤ length bytes + turns_after)

-- how many calls a fault excuses from giving a byte: the one that failed
abbrev pub failed_calls : ReadFault → ℕ
failed_calls Failed = 1
failed_calls TurnsSpent = 0

-- ---- a line
-- there is no line feed in these bytes
abbrev pub HasNoFeed : List ℕ → Type 0
HasNoFeed [] = Unit {0}
HasNoFeed (b ∷ bs) = ((b == 10) ≡ false) × HasNoFeed bs

-- a line with its line feed
abbrev pub IsWholeLine : List ℕ → Type 0
IsWholeLine raw = (front : List ℕ) × HasNoFeed front × (raw ≡ front ++ 10 ∷ [])

-- the first line is taken off these bytes, and so much of it is kept as there is room for. A line
-- without its line feed is taken only at the end of the input
pub record TakesLine (ended : Bool) (kept bytes rest : List ℕ) : Type 0 where
  pub raw : List ℕ
  pub split : bytes ≡ raw ++ rest
  pub first : raw_lines_of bytes ≡ raw ∷ raw_lines_of rest
  pub alone : raw_lines_of raw ≡ raw ∷ []
  pub whole : ended ≡ false → IsWholeLine raw
  pub last : IsWholeLine raw ⊎ (rest ≡ [])
  pub kept_is : kept ≡ take ROOM_BYTES raw

-- some bytes of a line without its end are taken off these
abbrev pub TakesPart : List ℕ → List ℕ → Type 0
TakesPart bytes rest = (part : List ℕ) × HasNoFeed part × (bytes ≡ part ++ rest)

-- ---- work
-- how many bytes the reader is asked for at once
abbrev pub PIECE_BYTES : ℕ
PIECE_BYTES = 4096

-- what can still be done before a line is due: it falls with each byte that is taken and each call
-- of the reader
abbrev pub work_left : LineReaderParts → ℕ
work_left lines = lines.turns * (PIECE_BYTES + 1) + length lines.pending

-- how many of these bytes belong to the line that they go on with, its line feed included
abbrev pub length_in_line : List ℕ → ℕ
length_in_line bytes = position_or_len (λ b. b == 10) bytes + 1
