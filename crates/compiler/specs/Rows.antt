-- The rows of the `zone prefix` commands: which one dialled digits are sent by.
use Rattle.std.specs.Prelude.{ℕ, List, [], ◌∷◌, ◌++◌, fold, map, Option, Some, None, option_map, option_and_then, unwrap_or, if◌then◌else◌}
use Rattle.std.specs.List.{filter_map}
use Rattle.digit_patterns.specs.PatternParts.{PatternParts}
use Rattle.digit_patterns.specs.Pattern.{same_pattern}
use Rattle.digit_patterns.specs.Duplicate.{has_pattern}
use Rattle.digit_patterns.specs.Table.{best_of}
use Rattle.gk_commands.specs.declared.commands.Command.{Command}
use Rattle.gk_commands.specs.declared.commands.Command.TheVariants.{ZoneLocal, ZoneRemote, ZonePrefix, GwTypePrefix, RejectUnknownPrefix, BandwidthDefault, BandwidthZone, BandwidthRemote}
use Rattle.compiler.specs.Pick.{picked}

-- a pattern with a zone that it is declared for
abbrev pub ZoneRow : Type 0
ZoneRow = PatternParts × List ℕ

-- the row of a command, if it is a `zone prefix`
abbrev pub row_of : Command → Option ZoneRow
row_of (ZoneLocal name domain address) = None
row_of (ZoneRemote name domain address cost priority) = None
row_of (ZonePrefix zone pattern gateways) = Some (pattern, zone)
row_of (GwTypePrefix prefix hopoffs is_default) = None
row_of RejectUnknownPrefix = None
row_of (BandwidthDefault kind size) = None
row_of (BandwidthZone kind zone size) = None
row_of (BandwidthRemote size) = None

-- the rows of all `zone prefix` commands, in order
abbrev pub rows_of : List Command → List ZoneRow
rows_of commands = filter_map row_of commands

-- the zone of a row, if the row is of this pattern
abbrev pub zone_for : PatternParts → ZoneRow → Option (List ℕ)
zone_for pattern row = if same_pattern row.0 pattern then Some row.1 else None

-- the zones that a pattern is declared for, in order
abbrev pub zones_for : List Command → PatternParts → List (List ℕ)
zones_for commands pattern = filter_map (zone_for pattern) (rows_of commands)

-- the row of the zone that is picked for a pattern
abbrev pub row_of_pattern : List Command → PatternParts → Option ZoneRow
row_of_pattern commands pattern =
    option_map (λ zone. (pattern, zone)) (picked commands (zones_for commands pattern))

-- the row of the longest pattern that matches the digits, with the zone that is picked for it
abbrev pub row_for : List Command → List ℕ → Option ZoneRow
row_for commands digits =
    option_and_then (λ best. row_of_pattern commands best.0) (best_of (rows_of commands) digits)

-- ---- numbered rows
-- one more row, unless an earlier one has its pattern
abbrev pub with_row : {V : Type 0} → List (PatternParts × V) → PatternParts × V
    → List (PatternParts × V)
with_row rows row = if has_pattern row.0 rows then rows else (rows ++ row ∷ [])

-- the first row of each pattern
abbrev pub first_rows_of : {V : Type 0} → List (PatternParts × V) → List (PatternParts × V)
first_rows_of rows = fold with_row [] rows

-- the row of a pattern, with the zone that is picked for it
abbrev pub with_picked_zone : List Command → ZoneRow → ZoneRow
with_picked_zone commands row =
    (row.0, unwrap_or (picked commands (zones_for commands row.0)) row.1)

-- a row for each pattern, in the order of their first rows, with the zone that is picked for it.
-- The number of a row is its place here
abbrev pub picked_rows_of : List Command → List ZoneRow
picked_rows_of commands = map (with_picked_zone commands) (first_rows_of (rows_of commands))
