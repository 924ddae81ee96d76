use Rattle.std.proofs.Common.{◌∙◌}
use Rattle.bandwidth.proofs.named.make_room.Goals as goal

pub returns-then-is_ok-clause-entries : goal.returns-then-is_ok-clause-entries
returns-then-is_ok-clause-entries g c name =
    c.reserve.ensures.entries.2 name ∙ c.let_go.ensures name

pub returns-clause-entries : goal.returns-clause-entries
returns-clause-entries g c name =
    c.reserve-2.ensures.entries.2 name ∙ c.reserve.ensures.entries.2 name
    ∙ c.let_go.ensures name
