use Rattle.std.proofs.Common.{◌∙◌, sym}
use Rattle.difference_counts.proofs.CountLemmas.{none_in}
use Rattle.difference_counts.proofs.counting.count.Goals as goal

pub returns-then-is_empty : goal.returns-then-is_empty
returns-then-is_empty c =
    c.no_counts.ensures
    ∙ none_in c.args.old.now.commands c.args.new.now.commands c.args.sets.now
    (sym c.is_empty.ensures ∙ c.if-is_empty.true)
