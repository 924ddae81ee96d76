-- Sets of dialled digits: digits belong together if each of two configurations finds the same
-- technology prefix for them and uses the same zone prefix.
use Rattle.std.specs.Prelude.{◌≡◌, ℕ, Bool, true, false, ◌&&◌, not, List, drop, Option, Some, None, option_map, is_some, bytes_eq, if◌then◌else◌}
use Rattle.gk_terms.specs.Dialled.{IsDialled}
use Rattle.digit_patterns.specs.PatternParts.{PatternParts}
use Rattle.gk_commands.specs.declared.commands.Command.{Command}
use Rattle.gk_commands.specs.Zones.{zone_of}
use Rattle.compiler.specs.Pick.{picked}
use Rattle.compiler.specs.Plan.{Target, target_in, by_row}
use Rattle.compiler.specs.Rows.{ZoneRow, row_for}
use Rattle.compiler.specs.Technology.{technology_of, hopoffs_of, found_length}
use Rattle.plan_difference.specs.declared.number_sets.NumberSet.{NumberSet}

-- the hop-off zone that is picked for a technology prefix
abbrev pub hopoff_of : List Command → Option (List ℕ) → Option (List ℕ)
hopoff_of commands None = None
hopoff_of commands (Some prefix) = picked commands (hopoffs_of commands prefix)

-- whether calls with it hop off
abbrev pub hops_off : List Command → Option (List ℕ) → Bool
hops_off commands technology = is_some (hopoff_of commands technology)

-- the row for digits with this technology prefix, which is taken off; none if it hops off
abbrev pub row_after : List Command → Option (List ℕ) → List ℕ → Option ZoneRow
row_after commands technology digits =
    if hops_off commands technology then None
    else row_for commands (drop (found_length technology) digits)

-- the row by which digits are planned
abbrev pub row_used : List Command → List ℕ → Option ZoneRow
row_used commands digits = row_after commands (technology_of commands digits) digits

-- the zone prefix of that row
abbrev pub pattern_used : List Command → List ℕ → Option PatternParts
pattern_used commands digits = option_map (λ row. row.0) (row_used commands digits)

-- whether two configurations find the same technology prefix, or both find none
abbrev pub same_technology : Option (List ℕ) → Option (List ℕ) → Bool
same_technology None None = true
same_technology None (Some prefix) = false
same_technology (Some prefix) None = false
same_technology (Some prefix) (Some other) = bytes_eq prefix other

-- whether that is so, and it hops off in neither
abbrev pub is_joint : (old new : List Command) (old_technology new_technology : Option (List ℕ))
    → Bool
is_joint old new old_technology new_technology =
    same_technology old_technology new_technology
    && not (hops_off old old_technology) && not (hops_off new new_technology)

-- the set of these technology prefixes and zone prefixes. In the joint group, that of the same
-- prefix in both configurations, or none, without hop-off, no prefix is named
abbrev pub set_by : Bool → (old_technology new_technology : Option (List ℕ))
    → (old_row new_row : Option PatternParts) → NumberSet
set_by true old_technology new_technology old_row new_row = record {
  old_technology = None;
  new_technology = None;
  old_row = old_row;
  new_row = new_row;
}
set_by false old_technology new_technology old_row new_row = record {
  old_technology = old_technology;
  new_technology = new_technology;
  old_row = old_row;
  new_row = new_row;
}

-- the set to which digits belong
abbrev pub set_of : (old new : List Command) → List ℕ → NumberSet
set_of old new digits =
    set_by (is_joint old new (technology_of old digits) (technology_of new digits))
    (technology_of old digits) (technology_of new digits)
    (pattern_used old digits) (pattern_used new digits)

-- the dialled digits of a set
abbrev pub Covers : (old new : List Command) → NumberSet → List ℕ → Type 0
Covers old new set digits = IsDialled digits × (set_of old new digits ≡ set)

-- ---- the plans of a set
-- to the hop-off zone, or else by the row
abbrev pub by_zone_or_row : List Command → Option (List ℕ) → Option ZoneRow → Option (List ℕ)
    → Target
by_zone_or_row commands technology row None = by_row commands technology row
by_zone_or_row commands technology row (Some zone) =
    target_in zone technology None (zone_of commands zone)

-- what a technology prefix and a row say of digits
abbrev pub plan_by : List Command → Option (List ℕ) → Option ZoneRow → Target
plan_by commands technology row =
    by_zone_or_row commands technology row (hopoff_of commands technology)
