use Rattle.std.proofs.Common.{◌∙◌}
use Rattle.publisher.proofs.Histories.{confirmed_in_force}
use Rattle.publisher.proofs.publishers.Publisher.tell.Goals as goal

pub new-requires : goal.new-requires
new-requires g c =
    confirmed_in_force _ c.self.inside.copies.desk.shown.value
    (c.again.ensures ∙ c.self.invariant.3)
