-- Where a configuration ends, and what its reader answers.
use Rattle.std.specs.Prelude.{◌≡◌, ℕ, Bool, true, false, not, ◌&&◌, ⊤, List, [], ◌∷◌, ◌++◌, Result, Ok, Err, codes, bytes_eq, flat_map, if◌then◌else◌}
use Rattle.std.specs.List.{list_any}
use Rattle.gk_terms.specs.Text.{raw_lines_of, whole_lines_of, content_of, lines_of, words_of, is_too_long, is_empty}
use Rattle.gk_lines.specs.LineReader.{is_failure}
use Rattle.gk_lines.specs.declared.line_reader.ReadFault.{ReadFault}
use Rattle.gk_commands.specs.declared.faults.LineFault.{LineFault}
use Rattle.gk_commands.specs.Configuration.{Configuration}
use Rattle.gk_commands.specs.Progress.{Progress}
use Rattle.gk_commands.specs.Reading.{reading_in, MayRead, MayReadLine}
use Rattle.configuration_reader.specs.declared.configuration.Until.{Until}
use Rattle.configuration_reader.specs.declared.configuration.Until.TheVariants.{EndLine, EndOfInput}
use Rattle.configuration_reader.specs.declared.configuration.ConfigurationFault.{ConfigurationFault}
use Rattle.configuration_reader.specs.declared.configuration.ConfigurationFault.TheVariants.{Line, Read}

-- ---- where it ends
-- `end` alone
abbrev pub is_end_alone : List (List ℕ) → Bool
is_end_alone [] = false
is_end_alone (word ∷ words) = bytes_eq word (codes "end") && is_empty words

-- at most 512 bytes, and its only word is `end`
abbrev pub is_end_line : List ℕ → Bool
is_end_line line = not (is_too_long line) && is_end_alone (words_of line)

-- whether a configuration ends with this line
abbrev pub ends_with : Until → List ℕ → Bool
ends_with EndLine line = is_end_line line
ends_with EndOfInput line = false

-- the lines of the configuration: up to the first that ends it, and that; or all
abbrev pub configuration_in : Until → List (List ℕ) → List (List ℕ)
configuration_in until [] = []
configuration_in until (line ∷ lines) =
    line ∷ (if ends_with until line then [] else configuration_in until lines)

-- the raw lines after it
abbrev pub rest_in : Until → List (List ℕ) → List (List ℕ)
rest_in until [] = []
rest_in until (raw ∷ raws) = if ends_with until (content_of raw) then raws else rest_in until raws

-- the lines of the configuration at the front of these bytes, and the bytes after it
abbrev pub configuration_of : Until → List ℕ → List (List ℕ)
configuration_of until bytes = configuration_in until (lines_of bytes)

abbrev pub rest_of : Until → List ℕ → List ℕ
rest_of until bytes = flat_map (λ raw. raw) (rest_in until (raw_lines_of bytes))

-- ---- what its reader answers
-- these bytes were read before the rest, and no whole line of them ends the configuration
abbrev pub IsUnended : Until → List ℕ → List ℕ → Type 0
IsUnended until bytes rest =
    (read : List ℕ) × (bytes ≡ read ++ rest)
    × (list_any (λ raw. ends_with until (content_of raw)) (whole_lines_of read) ≡ false)

-- what is left of the input of a faulty configuration: what follows it, if it ends with a line;
-- nothing is said if it ends with its input
abbrev pub LeavesRest : Until → List ℕ → List ℕ → Type 0
LeavesRest EndLine bytes rest = rest ≡ rest_of EndLine bytes
LeavesRest EndOfInput bytes rest = ⊤

-- of these bytes this rest is left: the configuration was accepted, and the rest is what follows
-- it; or its first fault is named, or memory ran out at the line that is named; or its end was not
-- read
abbrev pub MayGive : Until → List ℕ → List ℕ → Result Configuration ConfigurationFault → Type 0
MayGive until bytes rest (Ok configuration) =
    (reading_in (configuration_of until bytes) ≡ Ok configuration) × (rest ≡ rest_of until bytes)
MayGive until bytes rest (Err (Line fault)) =
    MayRead (configuration_of until bytes) (Err fault) × LeavesRest until bytes rest
MayGive until bytes rest (Err (Read fault)) = IsUnended until bytes rest

-- whether a fault is that of the reader
abbrev pub is_read_failure : ConfigurationFault → Bool
is_read_failure (Line fault) = false
is_read_failure (Read fault) = is_failure fault

-- ---- what was read, as the answer
-- the same, with the fault of a line as that of the configuration
abbrev pub with_line_fault : Result Configuration LineFault → Result Configuration
    ConfigurationFault
with_line_fault (Ok configuration) = Ok configuration
with_line_fault (Err fault) = Err (Line fault)

-- whether a configuration that ends with its input is faulty already, so that nothing more of it is
-- read
abbrev pub is_decided : {A : Type 0} → Until → Result A LineFault → Bool
is_decided EndLine read = false
is_decided EndOfInput (Ok draft) = false
is_decided EndOfInput (Err fault) = true

-- what was read, with one more line; a fault stays
abbrev pub ContinuesWith : Result Progress LineFault → List ℕ → Result Progress LineFault → Type 0
ContinuesWith (Ok before) line after = MayReadLine before line after
ContinuesWith (Err fault) line after = after ≡ Err fault

-- a fact of the fault of reading, if it is one
abbrev pub IfRead : ConfigurationFault → (ReadFault → Type 0) → Type 0
IfRead (Line fault) P = ⊤
IfRead (Read fault) P = P fault
