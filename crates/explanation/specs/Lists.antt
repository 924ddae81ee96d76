-- Lists in a text: `; ` stands between each two items, and `none` in the place of an empty list.
use Rattle.std.specs.Prelude.{ℕ, ◌==◌, ◌&&◌, Bool, true, false, not, nat_lt, List, [], ◌∷◌, ◌++◌, fold, Option, Some, None, codes, decimal, bytes_eq, if◌then◌else◌}
use Rattle.std.specs.List.{list_any}
use Rattle.std.specs.Option.{option_or}
use Rattle.gk_terms.specs.Text.{is_empty, spaced}
use Rattle.digit_patterns.specs.PatternParts.{PatternParts}
use Rattle.digit_patterns.specs.Pattern.{same_pattern}
use Rattle.gk_commands.specs.declared.commands.Command.{Command}
use Rattle.gk_commands.specs.declared.commands.Command.TheVariants.{ZoneLocal, ZoneRemote, ZonePrefix, GwTypePrefix, RejectUnknownPrefix, BandwidthDefault, BandwidthZone, BandwidthRemote}
use Rattle.gk_commands.specs.declared.zones.ZoneKind.{ZoneKind}
use Rattle.gk_commands.specs.declared.zones.ZoneKind.TheVariants as kinds
use Rattle.gk_commands.specs.Printing.{command_words, limit_word}
use Rattle.gk_commands.specs.Zones.{declared_by}
use Rattle.bandwidth.specs.declared.over.Over.{Over}
use Rattle.bandwidth.specs.declared.over.Over.TheVariants as overs
use Rattle.compiler.specs.Technology.{hopoffs_in}
use Rattle.explanation.specs.declared.steps.Candidate.{Candidate}
use Rattle.explanation.specs.declared.steps.HeldLimit.{HeldLimit}
use Rattle.explanation.specs.declared.steps.Way.{Way}
use Rattle.explanation.specs.declared.steps.Way.TheVariants as ways

-- a list before its next item
abbrev pub begun : List ℕ → List ℕ
begun list = if is_empty list then list else (list ++ codes "; ")

abbrev pub with_item : List ℕ → List ℕ → List ℕ
with_item list item = begun list ++ item

-- a list, or that it is empty
abbrev pub listed : List ℕ → List ℕ
listed list = if is_empty list then codes "none" else list

-- a text with these words after it, a space before each
abbrev pub with_words : List ℕ → List (List ℕ) → List ℕ
with_words text [] = text
with_words text (word ∷ words) = with_words (text ++ 32 ∷ word) words

-- ---- commands, as canonical lines
abbrev pub command_text : Command → List ℕ
command_text command = spaced (command_words command)

-- whether a command declares a technology prefix
abbrev pub declares : List ℕ → Command → Bool
declares prefix (ZoneLocal name domain address) = false
declares prefix (ZoneRemote name domain address cost priority) = false
declares prefix (ZonePrefix zone pattern gateways) = false
declares prefix (GwTypePrefix declared hopoffs is_default) = bytes_eq declared prefix
declares prefix RejectUnknownPrefix = false
declares prefix (BandwidthDefault kind size) = false
declares prefix (BandwidthZone kind zone size) = false
declares prefix (BandwidthRemote size) = false

-- whether a command sets the default technology
abbrev pub sets_default : Command → Bool
sets_default (ZoneLocal name domain address) = false
sets_default (ZoneRemote name domain address cost priority) = false
sets_default (ZonePrefix zone pattern gateways) = false
sets_default (GwTypePrefix declared hopoffs is_default) = is_default
sets_default RejectUnknownPrefix = false
sets_default (BandwidthDefault kind size) = false
sets_default (BandwidthZone kind zone size) = false
sets_default (BandwidthRemote size) = false

-- whether a command names a pattern for a zone
abbrev pub names_row : PatternParts → List ℕ → Command → Bool
names_row pattern zone (ZoneLocal name domain address) = false
names_row pattern zone (ZoneRemote name domain address cost priority) = false
names_row pattern zone (ZonePrefix named said gateways) =
    bytes_eq named zone && same_pattern said pattern
names_row pattern zone (GwTypePrefix declared hopoffs is_default) = false
names_row pattern zone RejectUnknownPrefix = false
names_row pattern zone (BandwidthDefault kind size) = false
names_row pattern zone (BandwidthZone kind named size) = false
names_row pattern zone (BandwidthRemote size) = false

-- a list with one more command, if it passes the test
abbrev pub with_command : (Command → Bool) → List ℕ → Command → List ℕ
with_command test list command =
    if test command then with_item list (command_text command) else list

-- the commands that pass the test, in line order
abbrev pub commands_that : (Command → Bool) → List Command → List ℕ
commands_that test commands = fold (with_command test) [] commands

-- the last command that sets the default technology, after the one that was found
abbrev pub later_default : List ℕ → Command → List ℕ
later_default found command = if sets_default command then command_text command else found

abbrev pub default_line : List Command → List ℕ
default_line commands = fold later_default [] commands

-- ---- the zones that were not picked
-- whether a command names a zone for what decides: as a hop-off zone of the technology prefix, or
-- for the pattern
abbrev pub names_zone : Option (List ℕ) → Way → List ℕ → Command → Bool
names_zone None ways.HopOff name command = false
names_zone (Some prefix) ways.HopOff name command =
    list_any (bytes_eq name) (hopoffs_in prefix command)
names_zone technology (ways.Matched pattern) name command = names_row pattern name command
names_zone technology ways.Unmatched name command = false

-- a zone that was not picked, and why: the picked one is local and it is remote; or both are of one
-- kind, and it costs more, has a lower priority, or is named later
abbrev pub why_later : Bool → ℕ → ℕ → ℕ → ℕ → List ℕ
why_later true cost other_cost priority other_priority =
    codes ", cost " ++ decimal other_cost ++ codes " above " ++ decimal cost
why_later false cost other_cost priority other_priority =
    if nat_lt other_priority priority
    then codes ", priority " ++ decimal other_priority ++ codes " below " ++ decimal priority
    else codes ", named later"

abbrev pub why_not : ZoneKind → ZoneKind → List ℕ
why_not kinds.Local kinds.Local = codes ", named later"
why_not kinds.Local (kinds.Remote address cost priority) =
    codes ", remote, and a local zone comes first"
why_not (kinds.Remote address cost priority) kinds.Local = codes ", named later"
why_not (kinds.Remote address cost priority) (kinds.Remote other other_cost other_priority) =
    why_later (nat_lt cost other_cost) cost other_cost priority other_priority

-- a list with one more zone, if it is named in the same way as the picked one, and is another one
abbrev pub with_other : List Command → Option (List ℕ) → Way → List ℕ → ZoneKind → List ℕ
    → List ℕ × ZoneKind → List ℕ
with_other commands technology way picked kind list zone =
    if list_any (names_zone technology way zone.0) commands && not (bytes_eq zone.0 picked)
    then with_item list (zone.0 ++ why_not kind zone.1)
    else list

abbrev pub with_declared : List Command → Option (List ℕ) → Way → List ℕ → ZoneKind → List ℕ
    → Option (List ℕ × ZoneKind) → List ℕ
with_declared commands technology way picked kind list None = list
with_declared commands technology way picked kind list (Some zone) =
    with_other commands technology way picked kind list zone

-- the kind of the zone of a name, if a command declares it
abbrev pub kind_if : List ℕ → Option (List ℕ × ZoneKind) → Option ZoneKind
kind_if name None = None
kind_if name (Some zone) = if bytes_eq zone.0 name then Some zone.1 else None

-- the same by the first command that declares it
abbrev pub kind_in : List Command → List ℕ → Option ZoneKind
kind_in commands name =
    fold (λ found command. option_or found (kind_if name (declared_by command))) None commands

-- the zones that are named for the same, and were not picked, in the order of their lines
abbrev pub others_of : List Command → Option (List ℕ) → Way → List ℕ → Option ZoneKind → List ℕ
others_of commands technology way picked None = []
others_of commands technology way picked (Some kind) =
    fold (λ list command. with_declared commands technology way picked kind list
    (declared_by command)) [] commands

-- ---- gateways
-- what is said of a priority: that no gateway of priority 0 is chosen
abbrev pub never_chosen : ℕ → List ℕ
never_chosen priority = if priority == 0 then codes ", never chosen" else []

abbrev pub candidate_text : Candidate → List ℕ
candidate_text c =
    c.id ++ codes " priority " ++ decimal c.priority ++ never_chosen c.priority

abbrev pub candidates_text : List Candidate → List ℕ
candidates_text candidates =
    fold (λ list c. with_item list (candidate_text c)) [] candidates

-- ---- names
abbrev pub names_text : List (List ℕ) → List ℕ
names_text names = fold with_item [] names

-- ---- limits
abbrev pub over_text : Over → List ℕ
over_text (overs.Zone kind zone) = limit_word kind ++ codes " " ++ zone
over_text overs.Remote = codes "remote"

abbrev pub limit_text : HeldLimit → List ℕ
limit_text limit = over_text limit.over ++ codes " " ++ decimal limit.units ++ codes " units"

abbrev pub limits_text : List HeldLimit → List ℕ
limits_text limits = fold (λ list limit. with_item list (limit_text limit)) [] limits
