use Rattle.std.proofs.Common.{◌≡◌, List, ap, subst}
use mathlib.Core.List.{IsPrefix}
use Rattle.publisher.specs.declared.entries.Entry.{Entry}
use Rattle.publisher.proofs.Prefixes.{prefix_shorter}
use Rattle.publisher.proofs.Histories.{legal_prefix}
use Rattle.publisher.proofs.fronts.Front.meet.Goals as goal

pub returns-clause-shorter : goal.returns-clause-shorter
returns-clause-shorter g c le =
    let both = c.learn.new.self.log in
    let this : IsPrefix c.args.self.now both =
    rw (← c.self.view_is, ← ap (λ s. s.log) c.again-both.ensures) c.learn.ensures.2 in
    prefix_shorter c.args.self.now c.args.other.now.seen.log both this c.learn.ensures.3 le

pub returns-clause-longer : goal.returns-clause-longer
returns-clause-longer g c le =
    let both = c.learn.new.self.log in
    let this : IsPrefix c.args.self.now both =
    rw (← c.self.view_is, ← ap (λ s. s.log) c.again-both.ensures) c.learn.ensures.2 in
    prefix_shorter c.args.other.now.seen.log c.args.self.now both c.learn.ensures.3 this le

pub returns-clause-legal : goal.returns-clause-legal
returns-clause-legal g c =
    let both = c.learn.new.self.log in
    let this : IsPrefix c.args.self.now both =
    rw (← c.self.view_is, ← ap (λ s. s.log) c.again-both.ensures) c.learn.ensures.2 in
    legal_prefix c.args.self.now both this c.learn.ensures.4.1.legal
