-- One zone picked from several: the first local one; else the remote one of least cost, of these
-- the one of greatest priority, of these the first. This project's profile.
use Rattle.std.specs.Prelude.{ℕ, ◌==◌, Bool, true, false, ◌&&◌, ◌||◌, nat_lt, List, Option, Some, None}
use Rattle.gk_terms.specs.Choice.{first_unbeaten, IsFirstUnbeaten}
use Rattle.gk_commands.specs.declared.commands.Command.{Command}
use Rattle.gk_commands.specs.declared.zones.ZoneKind.{ZoneKind}
use Rattle.gk_commands.specs.declared.zones.ZoneKind.TheVariants.{Local, Remote}
use Rattle.gk_commands.specs.Zones.{zone_of}

-- whether a zone is taken before another, whatever their order in the lines
abbrev pub is_preferred : ZoneKind → ZoneKind → Bool
is_preferred Local Local = false
is_preferred Local (Remote address cost priority) = true
is_preferred (Remote address cost priority) Local = false
is_preferred (Remote address cost priority) (Remote other_address other_cost other_priority) =
    nat_lt cost other_cost || ((cost == other_cost) && nat_lt other_priority priority)

-- the same of what is declared of two names; a name that is not declared comes last
abbrev pub is_option_preferred : Option ZoneKind → Option ZoneKind → Bool
is_option_preferred None other = false
is_option_preferred (Some kind) None = true
is_option_preferred (Some kind) (Some other) = is_preferred kind other

-- whether the zone of a name is taken before that of another
abbrev pub is_picked_before : List Command → List ℕ → List ℕ → Bool
is_picked_before commands name other =
    is_option_preferred (zone_of commands name) (zone_of commands other)

-- the zone picked from a list of names
abbrev pub picked : List Command → List (List ℕ) → Option (List ℕ)
picked commands names = first_unbeaten (is_picked_before commands) names

-- the same as a relation
abbrev pub IsPicked : List Command → List (List ℕ) → List ℕ → Type 0
IsPicked commands names name = IsFirstUnbeaten (is_picked_before commands) names name
