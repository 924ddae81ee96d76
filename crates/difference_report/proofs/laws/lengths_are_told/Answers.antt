use Rattle.difference_report.proofs.LengthLaws.{lengths_are_told}
use Rattle.difference_report.proofs.laws.lengths_are_told.Goals as goal

pub returns : goal.returns
returns c =
    lengths_are_told c.args.old.now.commands c.args.new.now.commands c.recall-old.ensures
    c.recall-new.ensures
