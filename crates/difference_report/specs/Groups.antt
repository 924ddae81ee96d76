-- The groups of sets.
use Rattle.std.specs.Prelude.{Bool, ◌||◌, is_some}
use Rattle.plan_difference.specs.declared.number_sets.Group.{Group}

-- whether it is a group of its own, and not the joint one
abbrev pub is_own : Group → Bool
is_own group = is_some group.old || is_some group.new
