use Rattle.command_reader.proofs.one_by_one.NumberLemmas.{held_unknown}
use Rattle.command_reader.proofs.draft.Draft.unknown_zone.Goals as goal

pub returns : goal.returns
returns c =
    rw (c.unknown_at.ensures, c.deref.ensures.value, c.place_of_unknown.ensures)
    (held_unknown c.self.inside.kept.numbers.items _ _ _ c.self.invariant.0 c.self.view_is)
