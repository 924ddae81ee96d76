use Rattle.std.proofs.Common.{◌∙◌, position}
use Rattle.plan_difference.specs.Entries.{same_set}
use Rattle.difference_counts.proofs.places.Places.place.Goals as goal

pub returns : goal.returns
returns c =
    c.get_index_of.ensures.index
    ∙ (λ i. position (same_set (c.of.ensures i)) (c.self.view_is i))
