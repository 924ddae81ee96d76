use Rattle.std.proofs.Common.{◌∙◌, sym}
use Rattle.difference_report.specs.Lengths.{may_follow}
use Rattle.difference_report.proofs.Steps.{least_at}
use Rattle.difference_report.proofs.rests.other_count_below.Goals as goal

pub returns-then-branch : goal.returns-then-branch
returns-then-branch c =
    sym (least_at (may_follow c.args.found.now.old c.args.found.now.new c.args.set.now
    c.args.known) c.loop-count.count c.args.most c.loop-count-test.true c.loop-count.invariant
    (sym c.in_ok-may_follow.ensures ∙ c.if-branch.true))
