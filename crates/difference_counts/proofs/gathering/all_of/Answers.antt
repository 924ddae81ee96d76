use Rattle.std.proofs.Common.{◌∙◌, ap}
use Rattle.compiler.specs.Technology.{prefixes_of}
use Rattle.plan_difference.specs.Gathered.{patterns_of}
use Rattle.difference_counts.proofs.GatherLemmas.{all_ahead, all_whole}
use Rattle.difference_counts.proofs.gathering.all_of.Goals as goal

pub returns-clause-ahead : goal.returns-clause-ahead
returns-clause-ahead c =
    all_ahead c.args.tables.now.commands c.in_ok-prefixes.prefixes.items
    (c.in_ok-prefixes.ensures.prefixes ∙ ap prefixes_of c.lines_of-commands.ensures)

pub returns-clause-whole : goal.returns-clause-whole
returns-clause-whole c =
    all_whole c.args.tables.now.commands c.in_ok-prefixes.prefixes.items
    c.in_ok-patterns.patterns.items
    (c.in_ok-prefixes.ensures.prefixes ∙ ap prefixes_of c.lines_of-commands.ensures)
    (c.in_ok-patterns.ensures.patterns ∙ ap patterns_of c.lines_of-commands.ensures)
    c.in_ok-prefixes.ensures.literal c.in_ok-patterns.ensures.literal
