-- What a set says of the plans of its digits.
use Rattle.std.specs.Prelude.{◌≡◌, ℕ, List, Option, option_and_then}
use Rattle.digit_patterns.specs.PatternParts.{PatternParts}
use Rattle.gk_commands.specs.declared.commands.Command.{Command}
use Rattle.compiler.specs.Plan.{plan_of}
use Rattle.compiler.specs.Rows.{ZoneRow, row_of_pattern}
use Rattle.compiler.specs.Technology.{technology_of}
use Rattle.plan_difference.specs.declared.number_sets.NumberSet.{NumberSet}
use Rattle.plan_difference.specs.Sets.{Covers, plan_by}

-- the row of a zone prefix, with the zone that is picked for it
abbrev pub row_by : List Command → Option PatternParts → Option ZoneRow
row_by commands pattern = option_and_then (row_of_pattern commands) pattern

-- each configuration plans the digits by the technology prefix that it finds and the zone prefix of
-- the set
pub record ArePlannedBy (old new : List Command) (set : NumberSet) (digits : List ℕ) : Type 0 where
  pub old_plan : plan_of old digits
      ≡ plan_by old (technology_of old digits) (row_by old set.old_row)
  pub new_plan : plan_of new digits
      ≡ plan_by new (technology_of new digits) (row_by new set.new_row)

-- so the digits of each set
abbrev pub SetsHavePlans : Type 0
SetsHavePlans =
    (old new : List Command) (set : NumberSet) (digits : List ℕ)
    → Covers old new set digits → ArePlannedBy old new set digits
