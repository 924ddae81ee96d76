use Rattle.std.proofs.Common.{ap, arith}
use mathlib.Core.List.{IsPrefix}
use Rattle.std.proofs.Common.{length}
use Rattle.publisher.proofs.Histories.{generations_prefix}
use Rattle.publisher.proofs.fronts.Front.is_shorter.Goals as goal

pub returns-then-mine-others : goal.returns-then-mine-others
returns-then-mine-others g c =
    let front : IsPrefix c.args.self.now c.args.other.now =
    rw (← c.other.view_is)
    (c.meet.ensures.shorter (omega (arith, ap length c.other.view_is))) in
    generations_prefix c.args.self.now c.args.other.now front

pub returns : goal.returns
returns g c =
    let front : IsPrefix c.args.other.now c.args.self.now =
    rw (← c.other.view_is)
    (c.meet.ensures.longer (omega (arith, ap length c.other.view_is))) in
    generations_prefix c.args.other.now c.args.self.now front
