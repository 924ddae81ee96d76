-- The technology prefixes of the joint group.
use Rattle.std.proofs.Common.{◌≡◌, List, filter, slice_get, sym, ap, ◌∙◌}
use Rattle.gk_commands.specs.declared.commands.Command.{Command}
use Rattle.plan_difference.specs.Blocked.{IsStarless, AreJoint}
use Rattle.plan_difference.specs.Gathered.{is_joint_head, HasPrefixes, AreClean}
use Rattle.plan_difference.specs.Walk.{Heads}
use Rattle.plan_difference.proofs.ChoosingLemmas.{filter_passes}

starless_by : (commands : List Command) (heads : Heads) → HasPrefixes heads commands
    → AreClean heads → IsStarless commands
starless_by commands heads there clean place prefix at =
    let h = there place prefix at in clean h.place prefix h.stands

pub are_joint_heads : (old new : List Command) (heads kept : Heads) → HasPrefixes heads old
    → HasPrefixes heads new → AreClean heads → kept ≡ filter (is_joint_head old new) heads
    → AreJoint old new kept
are_joint_heads old new heads kept old_there new_there clean same = record {
  old_starless = starless_by old heads old_there clean;
  new_starless = starless_by new heads new_there clean;
  each = λ place head at.
      filter_passes (is_joint_head old new) heads place head
      (ap (λ l. slice_get l place) (sym same) ∙ at);
}
