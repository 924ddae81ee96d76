-- Whether a configuration is accepted: its commands, or its first fault.
use Rattle.std.specs.Prelude.{◌≡◌, ℕ, ◌+◌, Bool, not, nat_le, List, [], ◌∷◌, ◌++◌, length, Option, Some, None, Result, Ok, Err, MatchResult, find, option_map, option_and_then, is_some, ◌⊎◌, if◌then◌else◌}
use Rattle.std.specs.List.{list_any}
use Rattle.gk_terms.specs.declared.limits.TheConstants.{MOST_LINES, MOST_ZONES}
use Rattle.gk_terms.specs.Text.{lines_of}
use Rattle.gk_commands.specs.declared.faults.FaultKind.{FaultKind}
use Rattle.gk_commands.specs.declared.faults.FaultKind.TheVariants.{DuplicateZone, UnknownZone, NoLocalZone, TooMany, NoMemory}
use Rattle.gk_commands.specs.declared.faults.LineFault.{LineFault}
use Rattle.gk_commands.specs.declared.commands.Command.{Command}
use Rattle.gk_commands.specs.Line.{command_of}
use Rattle.gk_commands.specs.Progress.{Progress, line_count, commands_in}
use Rattle.gk_commands.specs.Configuration.{Configuration}
use Rattle.gk_commands.specs.Zones.{zones_of, declared_by, is_declared, named_by, first_local_of}

-- ---- one line
-- the fault of one more zone: its name is already declared, or no more zones may be declared
abbrev pub fault_of_name : Bool → ℕ → Option FaultKind
fault_of_name declared count =
    if declared then Some DuplicateZone
    else (if nat_le MOST_ZONES count then Some TooMany else None)

-- the fault of a zone that is declared after these commands
abbrev pub zone_fault : List Command → List ℕ → Option FaultKind
zone_fault before name = fault_of_name (is_declared before name) (length (zones_of before))

abbrev pub command_fault : List Command → Command → Option FaultKind
command_fault before command =
    option_and_then (λ zone. zone_fault before zone.0) (declared_by command)

-- with a command of the next line
abbrev pub with_command : Progress → Command → Progress
with_command before command = record before {
  kept = before.kept ++ (record { line = line_count before + 1; command = command }) ∷ [];
}

-- with the next line passed over
abbrev pub with_passed : Progress → Progress
with_passed before = record before { passed = before.passed + 1 }

abbrev pub unless_fault : Option FaultKind → Progress → Result Progress FaultKind
unless_fault None read = Ok read
unless_fault (Some kind) read = Err kind

-- after a line that says this
abbrev pub said_after : Progress → Result (Option Command) FaultKind → Result Progress FaultKind
said_after before (Err kind) = Err kind
said_after before (Ok None) = Ok (with_passed before)
said_after before (Ok (Some command)) =
    unless_fault (command_fault (commands_in before) command) (with_command before command)

-- one line after those before it
unfoldable pub line_after : Progress → List ℕ → Result Progress FaultKind
line_after before line =
    if nat_le MOST_LINES (line_count before) then Err TooMany
    else said_after before (command_of line)

-- ---- all lines
-- a fault of the line with this number
abbrev pub fault_at : ℕ → FaultKind → LineFault
fault_at number kind = record { line = number; kind = kind }

-- the rest is read if this line has no fault
abbrev pub line_then : ℕ → (Progress → Result Progress LineFault) → Result Progress FaultKind
    → Result Progress LineFault
line_then number rest (Ok read) = rest read
line_then number rest (Err kind) = Err (fault_at number kind)

-- the lines one after another, up to the first faulty one
abbrev pub lines_after : Progress → List (List ℕ) → Result Progress LineFault
lines_after before [] = Ok before
lines_after before (line ∷ lines) =
    line_then (line_count before + 1) (λ read. lines_after read lines) (line_after before line)

-- ---- the whole
-- whether a command names a zone that none of these declares
abbrev pub names_unknown : List Command → Command → Bool
names_unknown commands command =
    list_any (λ name. not (is_declared commands name)) (named_by command)

-- the first line that names a zone which no line declares
abbrev pub unknown_zone : Progress → Option LineFault
unknown_zone read =
    option_map (λ n. fault_at n.line UnknownZone)
    (find (λ n. names_unknown (commands_in read) n.command) read.kept)

-- a configuration without a local zone is at fault one past its last line
abbrev pub local_zone_checked : Progress → Result Configuration LineFault
local_zone_checked read =
    if is_some (first_local_of (commands_in read))
    then Ok (record { commands = commands_in read; passed = read.passed })
    else Err (fault_at (line_count read + 1) NoLocalZone)

abbrev pub zones_checked : Progress → Option LineFault → Result Configuration LineFault
zones_checked read (Some fault) = Err fault
zones_checked read None = local_zone_checked read

-- the configuration, if no line has a fault of its own
abbrev pub finished : Progress → Result Configuration LineFault
finished read = zones_checked read (unknown_zone read)

-- the configuration of what was read, or its first fault
abbrev pub finished_of : Result Progress LineFault → Result Configuration LineFault
finished_of (Err fault) = Err fault
finished_of (Ok read) = finished read

-- nothing read yet
abbrev pub nothing_read : Progress
nothing_read = record { kept = []; passed = 0 }

-- what the lines of a configuration say, or its first fault
abbrev pub reading_in : List (List ℕ) → Result Configuration LineFault
reading_in lines = finished_of (lines_after nothing_read lines)

-- what the bytes of a configuration say
unfoldable pub reading_of : List ℕ → Result Configuration LineFault
reading_of bytes = reading_in (lines_of bytes)

-- ---- reading, or out of memory
-- memory is refused only at a line whose command would be kept, and then that is its fault
abbrev pub LacksMemoryFor : Progress → List ℕ → FaultKind → Type 0
LacksMemoryFor before line kind =
    (kind ≡ NoMemory)
    × ((command : Command) × (line_after before line ≡ Ok (with_command before command)))

-- memory was refused at one of these lines: those before it have no fault, its command would be
-- kept, and the fault names it
pub record LacksMemory
    (before : Progress) (lines : List (List ℕ)) (fault : LineFault)
    : Type 0 where
  pub front : List (List ℕ)
  pub line : List ℕ
  pub rest : List (List ℕ)
  pub split : lines ≡ front ++ line ∷ rest
  pub read : Progress
  pub read_is : lines_after before front ≡ Ok read
  pub named : fault.line ≡ line_count read + 1
  pub lacks : LacksMemoryFor read line fault.kind

-- what a reader of one more line may answer: what has been read with it; its fault; or out of
-- memory
abbrev pub MayReadLine : Progress → List ℕ → Result Progress LineFault → Type 0
MayReadLine before line result =
    MatchResult result
    (λ read. line_after before line ≡ Ok read)
    (λ fault. (fault.line ≡ line_count before + 1)
    × ((line_after before line ≡ Err fault.kind) ⊎ LacksMemoryFor before line fault.kind))

-- the same of a reader that changes its draft: at a fault the draft is as before
abbrev pub ReadsLine : {A : Type 0} → Progress → List ℕ → Progress → Result A LineFault → Type 0
ReadsLine before line after result =
    MatchResult result
    (λ _. line_after before line ≡ Ok after)
    (λ fault. MayReadLine before line (Err fault) × (after ≡ before))

-- what a reader of these lines after earlier ones may answer: what has been read with them; their
-- first fault; or out of memory
abbrev pub MayReadOn : Progress → List (List ℕ) → Result Progress LineFault → Type 0
MayReadOn before lines result =
    MatchResult result
    (λ read. lines_after before lines ≡ Ok read)
    (λ fault. (lines_after before lines ≡ Err fault) ⊎ LacksMemory before lines fault)

-- what a reader of a whole configuration may answer: what its lines say; its first fault; or out of
-- memory
abbrev pub MayRead : List (List ℕ) → Result Configuration LineFault → Type 0
MayRead lines result =
    MatchResult result
    (λ configuration. reading_in lines ≡ Ok configuration)
    (λ fault. (reading_in lines ≡ Err fault) ⊎ LacksMemory nothing_read lines fault)
