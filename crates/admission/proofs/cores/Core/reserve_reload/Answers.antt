use Rattle.std.proofs.Common.{true, sym, ap, subst, ◌∙◌}
use Rattle.decision_record.specs.History.{CoreParts, IsUnrecorded, RecordParts}
use Rattle.std.specs.Arc.{arc_value}
use Rattle.rulings.specs.Events.{Reloading}
use Rattle.rulings.specs.Lent.{ruling_meant}
use Rattle.admission.proofs.CoreLemmas.{core_with}
use Rattle.admission.proofs.EventLemmas.{reload_refused, reload_not_recorded, reload_recorded, reload_lacks_memory}
use Rattle.admission.proofs.cores.Core.reserve_reload.Goals as goal

pub returns-in-Some-clause-err : goal.returns-in-Some-clause-err
returns-in-Some-clause-err c =
    subst (λ reply. IsUnrecorded c.args.self.now (Reloading (arc_value c.args.tables.now).commands)
    reply c.args.self.now) (sym c.reload_refused.ensures)
    (reload_refused _ _ _ c.self.invariant.0 _ c.self.view_is _ (ruling_meant c.reload.result) _
    c.reload.ensures (sym c.reload_lack.ensures ∙ c.in-Some.is))

pub returns-in-Some-clause-again : goal.returns-in-Some-clause-again
returns-in-Some-clause-again c =
    λ _. reload_not_recorded _ _ _ c.self.invariant.0 _ c.self.view_is _
    (ruling_meant c.reload.result) _
    c.reload.ensures (sym c.reload_lack.ensures ∙ c.in-Some.is)

pub returns-then-self-clause-ok : goal.returns-then-self-clause-ok
returns-then-self-clause-ok c = (
  sym c.self.view_is
      ∙ ap (λ b. core_with c.self.inside.machine.limits c.self.inside.history b) c.if-self.true
      ∙ ap (λ (core : CoreParts). record core { reserved = true }) c.self.view_is,
  reload_recorded _ _ _ c.self.invariant.0 _ c.self.view_is _ (ruling_meant c.reload.result)
      c.reload.ensures (sym c.reload_lack.ensures ∙ c.in_default.is),
)

pub returns-in-Ok-clause-ok : goal.returns-in-Ok-clause-ok
returns-in-Ok-clause-ok c = (
  ap (λ (h : RecordParts). core_with c.self.inside.machine.limits h true) c.in-Ok.ensures.ok
      ∙ ap (λ (core : CoreParts). record core { reserved = true }) c.self.view_is,
  reload_recorded _ _ _ c.self.invariant.0 _ c.self.view_is _ (ruling_meant c.reload.result)
      c.reload.ensures (sym c.reload_lack.ensures ∙ c.in_default.is),
)

pub returns-in-Err-clause-err : goal.returns-in-Err-clause-err
returns-in-Err-clause-err c =
    rw (c.reload_refused-in-Err.ensures)
    (reload_lacks_memory _ _ _ c.self.invariant.0 _ c.self.view_is _ (ruling_meant c.reload.result)
    c.reload.ensures (sym c.reload_lack.ensures ∙ c.in_default.is) _
    (ap (λ (h : RecordParts).
    core_with c.self.inside.machine.limits h c.self.inside.reserved) c.in-Err.ensures.err
    ∙ c.self.view_is))
