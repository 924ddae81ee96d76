-- Technology prefixes: which one begins dialled digits, its hop-off zones, and the default one.
-- From Cisco's `gw-type-prefix`.
use Rattle.std.specs.Prelude.{ℕ, ◌==◌, Bool, nat_lt, List, [], ◌++◌, length, filter, flat_map, Option, Some, None, bytes_eq, if◌then◌else◌}
use Rattle.std.specs.List.{filter_map, starts_with}
use Rattle.gk_terms.specs.Choice.{first_unbeaten}
use Rattle.gk_commands.specs.declared.commands.Command.{Command}
use Rattle.gk_commands.specs.declared.commands.Command.TheVariants.{ZoneLocal, ZoneRemote, ZonePrefix, GwTypePrefix, RejectUnknownPrefix, BandwidthDefault, BandwidthZone, BandwidthRemote}
use Rattle.compiler.specs.Last.{last_in}

-- the technology prefix that a command declares
abbrev pub prefix_in : Command → Option (List ℕ)
prefix_in (ZoneLocal name domain address) = None
prefix_in (ZoneRemote name domain address cost priority) = None
prefix_in (ZonePrefix zone pattern gateways) = None
prefix_in (GwTypePrefix prefix hopoffs is_default) = Some prefix
prefix_in RejectUnknownPrefix = None
prefix_in (BandwidthDefault kind size) = None
prefix_in (BandwidthZone kind zone size) = None
prefix_in (BandwidthRemote size) = None

-- all that are declared, in order; one may be there more than once
abbrev pub prefixes_of : List Command → List (List ℕ)
prefixes_of commands = filter_map prefix_in commands

-- whether the digits begin with a prefix
abbrev pub begins_with : List ℕ → List ℕ → Bool
begins_with digits prefix = starts_with ◌==◌ digits prefix

-- whether a prefix is longer than another
abbrev pub is_longer : List ℕ → List ℕ → Bool
is_longer prefix other = nat_lt (length other) (length prefix)

-- the longest of some prefixes with which the digits begin
abbrev pub longest_beginning : List (List ℕ) → List ℕ → Option (List ℕ)
longest_beginning prefixes digits =
    first_unbeaten is_longer (filter (begins_with digits) prefixes)

-- the longest declared prefix with which the digits begin
abbrev pub technology_of : List Command → List ℕ → Option (List ℕ)
technology_of commands digits = longest_beginning (prefixes_of commands) digits

-- the longest prefix with which the digits begin, of those that are declared and of some others
abbrev pub technology_among : List (List ℕ) → List Command → List ℕ → Option (List ℕ)
technology_among learned commands digits =
    longest_beginning (learned ++ prefixes_of commands) digits

-- the longest of some learned prefixes with which the digits begin, if it is longer than this
abbrev pub longest_learned : List (List ℕ) → List ℕ → ℕ → Option (List ℕ)
longest_learned learned digits longer_than =
    longest_beginning (filter (λ prefix. nat_lt longer_than (length prefix)) learned) digits

-- how many characters a prefix that was found has; 0 if none was
abbrev pub found_length : Option (List ℕ) → ℕ
found_length None = 0
found_length (Some prefix) = length prefix

-- the hop-off zones that a command names for a prefix
abbrev pub hopoffs_in : List ℕ → Command → List (List ℕ)
hopoffs_in prefix (ZoneLocal name domain address) = []
hopoffs_in prefix (ZoneRemote name domain address cost priority) = []
hopoffs_in prefix (ZonePrefix zone pattern gateways) = []
hopoffs_in prefix (GwTypePrefix declared hopoffs is_default) =
    if bytes_eq declared prefix then hopoffs else []
hopoffs_in prefix RejectUnknownPrefix = []
hopoffs_in prefix (BandwidthDefault kind size) = []
hopoffs_in prefix (BandwidthZone kind zone size) = []
hopoffs_in prefix (BandwidthRemote size) = []

-- the hop-off zones of a prefix: those of its commands, one command after another
abbrev pub hopoffs_of : List Command → List ℕ → List (List ℕ)
hopoffs_of commands prefix = flat_map (hopoffs_in prefix) commands

-- the prefix that a command makes the default technology
abbrev pub default_in : Command → Option (List ℕ)
default_in (ZoneLocal name domain address) = None
default_in (ZoneRemote name domain address cost priority) = None
default_in (ZonePrefix zone pattern gateways) = None
default_in (GwTypePrefix prefix hopoffs is_default) = if is_default then Some prefix else None
default_in RejectUnknownPrefix = None
default_in (BandwidthDefault kind size) = None
default_in (BandwidthZone kind zone size) = None
default_in (BandwidthRemote size) = None

-- the default technology: the last command that sets one counts
abbrev pub default_technology_of : List Command → Option (List ℕ)
default_technology_of commands = last_in (filter_map default_in commands)
