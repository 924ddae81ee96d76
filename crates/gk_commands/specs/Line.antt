-- What one line says: a command, nothing if it is passed over, or its first fault from the left.
use Rattle.std.specs.Prelude.{ℕ, ◌==◌, Bool, List, [], ◌∷◌, Option, Some, None, Result, Ok, Err, codes, bytes_eq, slice_index, if◌then◌else◌}
use Rattle.gk_terms.specs.Text.{words_of, is_too_long}
use Rattle.gk_commands.specs.declared.faults.FaultKind.{FaultKind}
use Rattle.gk_commands.specs.declared.faults.FaultKind.TheVariants.{TooLong, UnknownCommand, Unsupported, Missing, Extra}
use Rattle.gk_commands.specs.declared.commands.Command.{Command}
use Rattle.gk_commands.specs.declared.commands.Command.TheVariants.{RejectUnknownPrefix}
use Rattle.gk_terms.specs.Fields.{nothing_more}
use Rattle.gk_commands.specs.Fields.{is_one_of}
use Rattle.gk_commands.specs.ZoneLine.{zone_line_at}
use Rattle.gk_commands.specs.TechnologyLine.{gw_type_prefix_at}
use Rattle.gk_commands.specs.BandwidthLine.{bandwidth_at}

-- ---- arq reject-unknown-prefix
abbrev pub arq_at : List (List ℕ) → Result Command FaultKind
arq_at [] = Err Missing
arq_at (word ∷ words) =
    if bytes_eq word (codes "reject-unknown-prefix")
    then nothing_more Extra RejectUnknownPrefix words
    else Err UnknownCommand

-- ---- no shutdown, no use-proxy
-- of the lines that take a command back, these two change nothing here and are passed over
abbrev pub no_at : List (List ℕ) → Result (Option Command) FaultKind
no_at [] = Err Missing
no_at (word ∷ words) =
    if bytes_eq word (codes "shutdown") then nothing_more Extra None words
    else (if bytes_eq word (codes "use-proxy") then Ok None else Err Unsupported)

-- ---- a line
-- a command that a line says
abbrev pub kept_command_of : Result Command FaultKind → Result (Option Command) FaultKind
kept_command_of (Ok command) = Ok (Some command)
kept_command_of (Err kind) = Err kind

-- a word that begins with an exclamation mark
abbrev pub is_remark : List ℕ → Bool
is_remark word = slice_index word 0 == 33

-- first words of lines that change nothing here, and have no further word
abbrev pub passed_alone : List (List ℕ)
passed_alone = codes "gatekeeper" ∷ codes "exit" ∷ codes "end" ∷ []

-- first words of lines that change nothing here, whatever follows
abbrev pub passed_whole : List (List ℕ)
passed_whole = codes "accounting" ∷ codes "timer" ∷ codes "lrq" ∷ []

-- first words of the commands of Cisco's gatekeeper that are left out
abbrev pub left_out_commands : List (List ℕ)
left_out_commands =
    codes "alias" ∷ codes "endpoint" ∷ codes "gw" ∷ codes "load-balance"
    ∷ codes "security" ∷ codes "server" ∷ codes "shutdown" ∷ codes "use-proxy" ∷ []

-- what a line says if it begins with none of the words of kept lines
abbrev pub passed_at : List ℕ → List (List ℕ) → Result (Option Command) FaultKind
passed_at word words =
    if bytes_eq word (codes "no") then no_at words
    else (if is_one_of passed_alone word then nothing_more Extra None words
    else (if is_one_of passed_whole word then Ok None
    else (if is_one_of left_out_commands word then Err Unsupported else Err UnknownCommand)))

-- what a line says by its first word, and the words after it
abbrev pub named_command_at : List ℕ → List (List ℕ) → Result (Option Command) FaultKind
named_command_at word words =
    if bytes_eq word (codes "zone") then kept_command_of (zone_line_at words)
    else (if bytes_eq word (codes "gw-type-prefix") then kept_command_of (gw_type_prefix_at words)
    else (if bytes_eq word (codes "arq") then kept_command_of (arq_at words)
    else (if bytes_eq word (codes "bandwidth") then kept_command_of (bandwidth_at words)
    else passed_at word words)))

-- what the words of a line say; None if it is passed over
abbrev pub command_at : List (List ℕ) → Result (Option Command) FaultKind
command_at [] = Ok None
command_at (word ∷ words) = if is_remark word then Ok None else named_command_at word words

-- what a line says
unfoldable pub command_of : List ℕ → Result (Option Command) FaultKind
command_of line = if is_too_long line then Err TooLong else command_at (words_of line)
