use Rattle.std.proofs.Common.{◌≡◌, ◌∙◌, []}
use Rattle.publisher.proofs.Histories.{confirmed_in_force}
use Rattle.publisher.proofs.Prefixes.{prefix_nil}
use Rattle.publisher.proofs.Rules.{admits}
use Rattle.publisher.proofs.publishers.Publisher.reader.Goals as goal

pub reader-requires : goal.reader-requires
reader-requires g c = admits g.J.Imprint.book

pub new-requires : goal.new-requires
new-requires g c =
    confirmed_in_force _ c.self.inside.copies.desk.shown.value
    (c.again.ensures ∙ c.self.invariant.3)

pub returns-clause-list : goal.returns-clause-list
returns-clause-list g c =
    let empty : c.new.result.list ≡ [] = c.new.ensures.list ∙ c.in-Ok.ensures.view in
    rw empty (prefix_nil c.args.self.now)
