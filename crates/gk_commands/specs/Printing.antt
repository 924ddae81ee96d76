-- Commands as canonical lines: each in words with one space between, and a line feed after them.
use Rattle.std.specs.Prelude.{ℕ, Bool, true, false, List, [], ◌∷◌, ◌++◌, Option, Some, None, codes, decimal, flat_map, if◌then◌else◌}
use Rattle.gk_terms.specs.Text.{line_text}
use Rattle.gk_terms.specs.Address.{AddressParts, ip_text}
use Rattle.digit_patterns.specs.Pattern.{pattern_text}
use Rattle.gk_commands.specs.declared.commands.Command.{Command}
use Rattle.gk_commands.specs.declared.commands.Command.TheVariants.{ZoneLocal, ZoneRemote, ZonePrefix, GwTypePrefix, RejectUnknownPrefix, BandwidthDefault, BandwidthZone, BandwidthRemote}
use Rattle.gk_commands.specs.declared.commands.LocalAddress.{LocalAddress}
use Rattle.gk_commands.specs.declared.commands.GatewayPriority.{GatewayPriority}
use Rattle.gk_commands.specs.declared.commands.LimitKind.{LimitKind}
use Rattle.gk_commands.specs.declared.commands.LimitKind.TheVariants.{Session, Total, Interzone}
use Rattle.gk_commands.specs.TechnologyLine.{is_option_word}

-- ---- zones
-- the port, if one was given
abbrev pub port_words : Option ℕ → List (List ℕ)
port_words None = []
port_words (Some port) = decimal port ∷ []

-- the address, if one was given
abbrev pub local_words : Option LocalAddress → List (List ℕ)
local_words None = []
local_words (Some address) = ip_text address.ip ∷ port_words address.port

-- port, cost and priority, always written
abbrev pub remote_words : AddressParts → ℕ → ℕ → List (List ℕ)
remote_words address cost priority =
    ip_text address.ip ∷ decimal address.port
    ∷ codes "cost" ∷ decimal cost ∷ codes "priority" ∷ decimal priority ∷ []

-- the gateways with their priority, if they were given
abbrev pub gateway_words : Option GatewayPriority → List (List ℕ)
gateway_words None = []
gateway_words (Some g) = codes "gw-priority" ∷ decimal g.priority ∷ g.gateways

-- ---- technology prefixes
-- a further name of a hopoff: one that would not be read as a further name comes after the word
-- `hopoff` again
abbrev pub further_words : List ℕ → List (List ℕ)
further_words name = if is_option_word name then codes "hopoff" ∷ name ∷ [] else name ∷ []

abbrev pub hopoff_words : List (List ℕ) → List (List ℕ)
hopoff_words [] = []
hopoff_words (name ∷ names) = codes "hopoff" ∷ name ∷ flat_map further_words names

abbrev pub default_words : Bool → List (List ℕ)
default_words true = codes "default-technology" ∷ []
default_words false = []

-- ---- bandwidth
abbrev pub limit_word : LimitKind → List ℕ
limit_word Session = codes "session"
limit_word Total = codes "total"
limit_word Interzone = codes "interzone"

-- ---- a command
-- the words of a command's canonical line
abbrev pub command_words : Command → List (List ℕ)
command_words (ZoneLocal name domain address) =
    codes "zone" ∷ codes "local" ∷ name ∷ domain ∷ local_words address
command_words (ZoneRemote name domain address cost priority) =
    codes "zone" ∷ codes "remote" ∷ name ∷ domain ∷ remote_words address cost priority
command_words (ZonePrefix zone pattern gateways) =
    codes "zone" ∷ codes "prefix" ∷ zone ∷ pattern_text pattern ∷ gateway_words gateways
command_words (GwTypePrefix prefix hopoffs is_default) =
    codes "gw-type-prefix" ∷ prefix ∷ hopoff_words hopoffs ++ default_words is_default
command_words RejectUnknownPrefix = codes "arq" ∷ codes "reject-unknown-prefix" ∷ []
command_words (BandwidthDefault kind size) =
    codes "bandwidth" ∷ limit_word kind ∷ codes "default" ∷ decimal size ∷ []
command_words (BandwidthZone kind zone size) =
    codes "bandwidth" ∷ limit_word kind ∷ codes "zone" ∷ zone ∷ decimal size ∷ []
command_words (BandwidthRemote size) = codes "bandwidth" ∷ codes "remote" ∷ decimal size ∷ []

-- a line for each command
abbrev pub text_of : List Command → List ℕ
text_of commands = flat_map (λ command. line_text (command_words command)) commands
