use Rattle.std.proofs.Common.{sym, ap, subst, ◌∙◌}
use Rattle.std.specs.Arc.{arc_value}
use Rattle.rulings.specs.Events.{Reloading}
use Rattle.rulings.specs.Lent.{ruling_meant}
use Rattle.rulings.specs.Ruling.{Ruling}
use Rattle.decision_record.specs.History.{IsUnrecorded}
use Rattle.admission.proofs.EventLemmas.{reload_refused, reload_not_recorded, reload_recorded, reload_ruled}
use Rattle.admission.proofs.cores.Core.step_reload.Goals as goal

pub returns-in-Some-clause-step : goal.returns-in-Some-clause-step
returns-in-Some-clause-step g c = (
  _,
  c.take_reply.ensures.taken,
  subst (λ reply. IsUnrecorded c.args.self.now (Reloading (arc_value c.args.tables).commands) reply
      c.args.self.now) (sym c.reload_refused.ensures)
      (reload_refused _ _ _ c.self.invariant.0 _ c.self.view_is _ (ruling_meant c.reload.result) _
      c.reload.ensures (sym c.reload_lack.ensures ∙ c.in-Some.is)),
)

pub returns-in-Some-clause-reserved : goal.returns-in-Some-clause-reserved
returns-in-Some-clause-reserved g c =
    λ _. reload_not_recorded _ _ _ c.self.invariant.0 _ c.self.view_is _
    (ruling_meant c.reload.result) _
    c.reload.ensures (sym c.reload_lack.ensures ∙ c.in-Some.is)

pub enter_reload-requires-clause-verdict : goal.enter_reload-requires-clause-verdict
enter_reload-requires-clause-verdict g c =
    c.verdict.ensures
    ∙ ap (λ (r : Ruling). r.verdict)
    (reload_ruled _ _ _ c.self.invariant.0 _ c.self.view_is _ _ c.reload.ensures)

pub enter_reload-requires-clause-effect : goal.enter_reload-requires-clause-effect
enter_reload-requires-clause-effect g c =
    c.effect.ensures
    ∙ ap (λ (r : Ruling). r.effect)
    (reload_ruled _ _ _ c.self.invariant.0 _ c.self.view_is _ _ c.reload.ensures)

pub enter_reload-requires-clause-recorded : goal.enter_reload-requires-clause-recorded
enter_reload-requires-clause-recorded g c =
    reload_recorded _ _ _ c.self.invariant.0 _ c.self.view_is _ (ruling_meant c.reload.result)
    c.reload.ensures (sym c.reload_lack.ensures ∙ c.in_default.is)
