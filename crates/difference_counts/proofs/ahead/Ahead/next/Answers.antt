use Rattle.std.proofs.Common.{◌∙◌, ap, length, filter}
use Rattle.difference_counts.specs.Places.{has_at}
use Rattle.difference_counts.proofs.AheadLemmas.{at_next}
use Rattle.difference_counts.proofs.ahead.Ahead.next.Goals as goal

pub returns-clause-at : goal.returns-clause-at
returns-clause-at c =
    let ahead = c.args.self.now in
    let front = c.args.front.now in
    at_next c.args.side.now.tables.now.commands front ahead.technology ahead.prefixes.items
    c.requires.ahead c.args.character c.args.longer.now c.requires.longer c.args.technology
    c.requires.found c.in_ok-prefixes.prefixes.items
    (c.in_ok-prefixes.ensures
    ∙ ap (filter (has_at (length front) c.args.character)) c.deref.ensures.value)
