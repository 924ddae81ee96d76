use Rattle.std.proofs.Common.{◌≤◌, ◌-◌, length, arith}
use Rattle.std.specs.Arc.{arc_value}
use Rattle.publisher.proofs.Histories.{told_is_shown}
use Rattle.publisher.proofs.publications.Publication.has.Goals as goal

pub returns-then-saturating_sub-shown-clause-told :
    goal.returns-then-saturating_sub-shown-clause-told
returns-then-saturating_sub-shown-clause-told g c is =
    let shown = c.args.self.now in
    told_is_shown (arc_value shown.tables).commands c.args.told.now shown.stem.seen.log
    shown.drafted c.meet.ensures.legal c.meet.ensures.shorter c.meet.ensures.longer (omega arith)
