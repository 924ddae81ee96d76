use Rattle.std.proofs.Common.{subst, sym}
use Rattle.difference_report.specs.Blocks.{IsFirst}
use Rattle.difference_report.proofs.BlockLemmas.{is_first}
use Rattle.difference_report.proofs.blocks.new_block.Goals as goal

pub width_from-requires-clause-first : goal.width_from-requires-clause-first
width_from-requires-clause-first c =
    subst (λ listed. IsFirst listed c.args.place c.args.group.now) (sym c.listed.ensures.sets)
    (is_first c.args.found.now.old c.args.found.now.new c.args.found.now.listed c.args.place
    c.args._before.now c.args.group.now c.listed.ensures.grouped c.requires.before
    c.requires.other c.requires.here)
