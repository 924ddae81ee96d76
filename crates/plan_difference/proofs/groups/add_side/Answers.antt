use Rattle.std.proofs.Common.{◌≡◌, ◌∙◌, false, drop}
use Rattle.plan_difference.specs.Sets.{hops_off}
use Rattle.plan_difference.proofs.WalkLemmas.{side_settled}
use Rattle.plan_difference.proofs.groups.add_side.Goals as goal

pub returns-clause-settles : goal.returns-clause-settles
returns-clause-settles c =
    side_settled c.args.old.now.commands c.args.new.now.commands c.add_patterns.new.sets
    c.args.heads.now c.args.group.now c.args.patterns.now _ _
    (c.split_at.ensures.back
    ∙ (λ i. drop (c.found_length.ensures i) (c.as_bytes.ensures.spells i)))
    (hops_off c.args.side.now.commands c.args.technology.now ≡ false)
    c.add_patterns.result c.add_patterns.ensures.settles
