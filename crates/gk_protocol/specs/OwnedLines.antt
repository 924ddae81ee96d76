-- The lines that belong to a request, as they are taken off the input.
use Rattle.std.specs.Prelude.{◌≡◌, ℕ, ◌<◌, ◌≤◌, Bool, false, List, [], ◌∷◌, ◌++◌, length, flat_map, Option, Some, None, Result, Ok, Err}
use Rattle.gk_lines.specs.LineReader.{TakesLine, TakesPart}
use Rattle.gk_lines.specs.declared.line_reader.ReadFault.{ReadFault}
use Rattle.gk_protocol.specs.Session.{handed_on}
use Rattle.gk_protocol.specs.declared.owned_lines.TakenLines.{TakenLines}
use Rattle.gk_protocol.specs.declared.owned_lines.TakenLines.TheVariants.{Whole, NoMemory, CutShort}

-- these raw lines are taken off the bytes, one after another; before them the input had come to
-- its end or not, and after them it has or not
abbrev pub TakesLines : Bool → Bool → List (List ℕ) → List ℕ → List ℕ → Type 0
TakesLines ended now_ended [] bytes rest = (now_ended ≡ false → ended ≡ false) × (rest ≡ bytes)
TakesLines ended now_ended (raw ∷ raws) bytes rest =
    (ended ≡ false) × (kept : List ℕ) × (mid : List ℕ) × (mid_ended : Bool)
    × (line : TakesLine mid_ended kept bytes mid) × (line.raw ≡ raw)
    × TakesLines mid_ended now_ended raws mid rest

-- lines with one more, as it is handed on; once memory ran out there are none
abbrev pub HandsOn : Option (List ℕ) → List ℕ → Option (List ℕ) → Type 0
HandsOn before line None = Unit {0}
HandsOn None line (Some after) = ⊥
HandsOn (Some before) line (Some after) = after ≡ before ++ handed_on line

-- what becomes of the next so many lines. All were taken: they are handed on, or memory ran out for
-- them, if there are some. Fewer were taken, and then the input ended, or a line whose end was not
-- read was begun
abbrev pub GivesLines : Bool → Bool → ℕ → Result TakenLines ReadFault → List ℕ → List ℕ → Type 0
GivesLines ended now_ended count (Ok (Whole text)) bytes rest =
    (raws : List (List ℕ)) × TakesLines ended now_ended raws bytes rest × (length raws ≡ count)
    × (text ≡ flat_map handed_on raws)
GivesLines ended now_ended count (Ok NoMemory) bytes rest =
    (raws : List (List ℕ)) × TakesLines ended now_ended raws bytes rest × (length raws ≡ count)
    × (1 ≤ count)
GivesLines ended now_ended count (Ok CutShort) bytes rest =
    (raws : List (List ℕ)) × TakesLines ended now_ended raws bytes rest × (length raws < count)
    × (rest ≡ [])
GivesLines ended now_ended count (Err fault) bytes rest =
    (raws : List (List ℕ)) × (mid : List ℕ) × (mid_ended : Bool)
    × TakesLines ended mid_ended raws bytes mid × (mid_ended ≡ false) × (length raws < count)
    × TakesPart mid rest
