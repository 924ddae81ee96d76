-- What is known of the commands of an accepted configuration: their canonical lines read back.
use Rattle.std.specs.Prelude.{◌≡◌, ◌≢◌, ℕ, ◌≤◌, Bool, true, false, not, ◌&&◌, ⊤, List, length, map, Some, Ok, IfSome, is_some}
use Rattle.std.specs.List.{All, AllPairs, Any, Contains, list_all, list_any}
use Rattle.std.specs.Map.{keys_of}
use Rattle.gk_terms.specs.declared.limits.TheConstants.{MOST_LINE_BYTES, MOST_ZONES}
use Rattle.gk_terms.specs.Spelling.{is_visible}
use Rattle.gk_terms.specs.Text.{is_empty, spaced}
use Rattle.gk_commands.specs.declared.commands.Command.{Command}
use Rattle.gk_commands.specs.declared.commands.Command.TheVariants.{ZoneLocal, ZoneRemote, ZonePrefix, GwTypePrefix, RejectUnknownPrefix, BandwidthDefault, BandwidthZone, BandwidthRemote}
use Rattle.gk_commands.specs.declared.commands.LimitKind.{LimitKind}
use Rattle.gk_commands.specs.declared.commands.LimitKind.TheVariants.{Session, Total, Interzone}
use Rattle.gk_commands.specs.Line.{command_of}
use Rattle.gk_commands.specs.Printing.{command_words}
use Rattle.gk_commands.specs.Progress.{Progress, commands_in}
use Rattle.gk_commands.specs.Reading.{nothing_read, lines_after, names_unknown}
use Rattle.gk_commands.specs.Zones.{zones_of, named_by, first_local_of, is_local_command}

-- one or more visible bytes
abbrev pub is_word : List ℕ → Bool
is_word text = not (is_empty text) && list_all is_visible text

-- the canonical line of a command, without its line feed
abbrev pub canonical_line : Command → List ℕ
canonical_line command = spaced (command_words command)

-- a command whose canonical line says it: words, and no more bytes than a line may have
pub record PrintsBack (command : Command) : Type 0 where
  pub said : command_of (canonical_line command) ≡ Ok (Some command)
  pub words : list_all is_word (command_words command) ≡ true
  pub fits : length (canonical_line command) ≤ MOST_LINE_BYTES

-- lines that say these commands, one each, if they are read one after another
pub record LinesSay (lines : List (List ℕ)) (commands : List Command) : Type 0 where
  pub read : Progress
  pub whole : lines_after nothing_read lines ≡ Ok read
  pub same : commands_in read ≡ commands
  pub none_passed : read.passed ≡ 0

-- commands that their canonical lines say
pub record IsPrintable (commands : List Command) : Type 0 where
  pub each : All PrintsBack commands
  pub again : LinesSay (map canonical_line commands) commands

-- commands of an accepted configuration: each zone that one names is declared by one, and one is
-- local
pub record IsAccepted (commands : List Command) : Type 0 where
  pub printable : IsPrintable commands
  pub declared : list_any (names_unknown commands) commands ≡ false
  pub has_local : is_some (first_local_of commands) ≡ true

-- ---- what accepted commands are, in plain words
-- the names of all zones that the commands declare, in line order
abbrev pub zone_names : List Command → List (List ℕ)
zone_names commands = keys_of (zones_of commands)

-- each zone that the command names is one that the commands declare
abbrev pub NamesDeclared : List Command → Command → Type 0
NamesDeclared commands command = All (Contains (zone_names commands)) (named_by command)

-- a number from least to most
abbrev pub IsWithin : ℕ → ℕ → ℕ → Type 0
IsWithin least most n = (least ≤ n) × (n ≤ most)

-- a port: 1 to 65,535
abbrev pub IsPort : ℕ → Type 0
IsPort port = IsWithin 1 65535 port

-- a limit's size in kbit/s: of one call 1 to 5,000, and of all calls together 1 to 10,000,000
abbrev pub IsSizeOf : LimitKind → ℕ → Type 0
IsSizeOf Session size = IsWithin 1 5000 size
IsSizeOf Total size = IsWithin 1 10000000 size
IsSizeOf Interzone size = IsWithin 1 10000000 size

-- each number of the command is in its range: ports; the cost and the priority of a remote zone, 1
-- to 100; the priority of gateways, 0 to 10; and sizes
abbrev pub HasNumbersInRange : Command → Type 0
HasNumbersInRange (ZoneLocal name domain address) = IfSome address (λ a. IfSome a.port IsPort)
HasNumbersInRange (ZoneRemote name domain address cost priority) =
    IsPort address.port × IsWithin 1 100 cost × IsWithin 1 100 priority
HasNumbersInRange (ZonePrefix zone pattern gateways) =
    IfSome gateways (λ g. IsWithin 0 10 g.priority)
HasNumbersInRange (GwTypePrefix prefix hopoffs is_default) = ⊤
HasNumbersInRange RejectUnknownPrefix = ⊤
HasNumbersInRange (BandwidthDefault kind size) = IsSizeOf kind size
HasNumbersInRange (BandwidthZone kind zone size) = IsSizeOf kind size
HasNumbersInRange (BandwidthRemote size) = IsWithin 1 10000000 size

-- commands that an operator would call well formed
pub record IsWellFormed (commands : List Command) : Type 0 where
  -- no two zones have one name
  pub names_differ : AllPairs (λ name other. name ≢ other) (zone_names commands)
  -- no more zones are declared than may be
  pub few_zones : length (zones_of commands) ≤ MOST_ZONES
  -- a local zone is declared
  pub has_local : Any (λ command. is_local_command command ≡ true) commands
  -- each zone that a command names is declared
  pub named_declared : All (NamesDeclared commands) commands
  -- each number of each command is in its range
  pub in_range : All HasNumbersInRange commands

-- accepted commands are well formed
abbrev pub AcceptedAreWellFormed : Type 0
AcceptedAreWellFormed = (commands : List Command) → IsAccepted commands → IsWellFormed commands
