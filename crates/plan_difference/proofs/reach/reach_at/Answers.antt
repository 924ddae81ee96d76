use Rattle.std.proofs.Common.{◌≤◌, length, take, slice_get}
use Rattle.plan_difference.specs.Blocked.{Blocked, IsFreeOrLong}
use Rattle.plan_difference.proofs.PassedLemmas.{at_place}
use Rattle.plan_difference.proofs.reach.reach_at.Goals as goal

pub returns-in-Some : goal.returns-in-Some
returns-in-Some c =
    let old = c.args.old.now.commands in
    let new = c.args.new.now.commands in
    let stem = c.args.stem.now in
    at_place (IsFreeOrLong old new stem) (λ level. level ≤ length stem)
    (λ level. Blocked old new (take level stem))
    (slice_get c.args.heads.now c.args.place) c.in-Some.head.now c.in-Some.ensures
    c.reach.result c.reach.ensures
