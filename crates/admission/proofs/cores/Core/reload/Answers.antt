use Rattle.std.proofs.Common.{Some, None}
use Rattle.std.specs.Arc.{arc_value}
use Rattle.rulings.specs.Events.{Reloading}
use Rattle.admission.specs.Answering.{answered}
use Rattle.admission.proofs.AnsweringLemmas.{answered_as}
use Rattle.admission.proofs.VersionLemmas.{generations_after, refused_as_a_reload}
use Rattle.admission.proofs.cores.Core.reload.Goals as goal

pub returns-in-Some-clause-generations : goal.returns-in-Some-clause-generations
returns-in-Some-clause-generations c =
    let event = Reloading (arc_value c.args.tables).commands in
    let steps = answered_as c.args.self.now c.step_reload-number.new.self event
    c.step_reload-number.new.taker.kept c.reply-reply.result _ (Some c.in-Some.number)
    c.step_reload-number.ensures.step c.reply-reply.ensures c.in-Some.is in
    generations_after _ _ _ (answered event c.reply-reply.result (Some c.in-Some.number)) steps

pub returns-in-None-clause-refused : goal.returns-in-None-clause-refused
returns-in-None-clause-refused c =
    let event = Reloading (arc_value c.args.tables).commands in
    let steps = answered_as c.args.self.now c.step_reload-number.new.self event
    c.step_reload-number.new.taker.kept c.reply-reply.result _ None
    c.step_reload-number.ensures.step c.reply-reply.ensures c.in-None.is in
    refused_as_a_reload _ _ _ (answered event c.reply-reply.result None) steps
