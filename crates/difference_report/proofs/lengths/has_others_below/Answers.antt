use Rattle.std.proofs.Common.{◌∙◌, sym}
use Rattle.difference_report.specs.Lengths.{is_other_with}
use Rattle.difference_report.proofs.Steps.{any_at}
use Rattle.difference_report.proofs.lengths.has_others_below.Goals as goal

pub returns-then-branch : goal.returns-then-branch
returns-then-branch c =
    sym (any_at (is_other_with c.args.found.now.old c.args.found.now.new
    (c.args.set.now, c.args.digits.now) c.args.front.now) c.loop-count.count c.args.most
    c.loop-count-test.true (sym c.in_ok-is_other_with.ensures ∙ c.if-branch.true))
