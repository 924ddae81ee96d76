use Rattle.std.proofs.Common.{◌≡◌, ◌≤◌, length, ◌++◌, ◌∷◌, [], Some, false, refl, sym, ap, ap₂, ◌∙◌, true≢false, arith}
use Rattle.std.specs.Arc.{arc_value}
use Rattle.rulings.specs.Events.{Reloading}
use Rattle.rulings.specs.State.{State}
use Rattle.decision_record.specs.History.{CoreParts, RecordParts, state_of}
use Rattle.admission.specs.CoreInvariant.{places_reserved}
use Rattle.rulings.specs.Ruling.{ruling_of, verdict_of}
use Rattle.rulings.specs.Founded.{takes_memory}
use Rattle.rulings.specs.Step.{places_needed, step}
use Rattle.admission.proofs.EnteringLemmas.{recorded_unrefused, recorded_verdict_of}
use Rattle.admission.proofs.CoreLemmas.{stands_as, counts, is_within, core_still, reload_is_light, state_for}
use Rattle.admission.proofs.EventLemmas.{counts_one, lacks_memory, kept_on, records, entry_of_reload, reload_calls}
use Rattle.admission.proofs.SteppingLemmas.{receipt_is}
use Rattle.admission.proofs.cores.Core.enter_reload.Goals as goal

pub prepare-requires-clause-ruled : goal.prepare-requires-clause-ruled
prepare-requires-clause-ruled g c =
    rw (c.deref.ensures)
    (c.requires.effect
    ∙ ap (λ s. (ruling_of s (Reloading (arc_value c.args.tables).commands)).effect)
    (sym (stands_as _ _ _ c.self.invariant.0 _ c.self.view_is)))

pub prepare-requires-clause-recordable : goal.prepare-requires-clause-recordable
prepare-requires-clause-recordable g c =
    rw (c.deref.ensures)
    (recorded_unrefused _ _
    (ap (λ s. (step s (Reloading (arc_value c.args.tables).commands)).recorded)
    (stands_as _ _ _ c.self.invariant.0 _ c.self.view_is) ∙ c.requires.recorded))

pub prepare-requires-clause-recorded : goal.prepare-requires-clause-recorded
prepare-requires-clause-recorded g c =
    rw (c.deref.ensures)
    (recorded_verdict_of _ _
    (ap (λ s. (step s (Reloading (arc_value c.args.tables).commands)).recorded)
    (stands_as _ _ _ c.self.invariant.0 _ c.self.view_is) ∙ c.requires.recorded))

pub prepare-requires-clause-counted : goal.prepare-requires-clause-counted
prepare-requires-clause-counted g c = counts _ _ _ c.self.invariant.0

pub prepare-requires-clause-within : goal.prepare-requires-clause-within
prepare-requires-clause-within g c = is_within _ _ _ c.self.invariant.0

pub invariant_of-self : goal.invariant_of-self
invariant_of-self g c =
    let stands = stands_as _ _ _ c.self.invariant.0 _ c.self.view_is in
    let event = Reloading (arc_value c.args.tables).commands in
    let recorded = ap (λ s. (step s event).recorded) stands ∙ c.requires.recorded in
    let moved = rw (c.deref.ensures) at c.in-Ok.ensures.state in
    let calls = ap (λ (s : State). length s.calls)
    (moved) in (
      kept_on _ _ _ event c.self.invariant.0 (recorded_unrefused _ _ recorded)
          (recorded_verdict_of _ _ recorded) c.prepare.new.machine c.push_reload.new.self
          (rw (c.deref.ensures) at c.in-Ok.ensures.state)
          (ap (λ (h : RecordParts). h.opening) c.push_reload.ensures.entered ∙ c.in-Ok.ensures.opening)
          (ap (λ (h : RecordParts). h.entries) c.push_reload.ensures.entered
          ∙ ap₂ (λ es e. es ++ e ∷ []) c.in-Ok.ensures.entries
          (entry_of_reload _ _ _ (c.version.ensures.version
          ∙ ap (λ (s : State). s.version) (rw (c.deref.ensures) at c.in-Ok.ensures.state))))
          (omega (
            arith,
            ap (λ (h : RecordParts). h.kept) c.push_reload.ensures.entered,
            c.in-Ok.ensures.places,
          ))
          (rw (c.deref.ensures) at c.is_of_an_accepted_configuration.ensures),
      λ one. c.self.invariant.1 (omega (
        arith,
        one,
        calls,
        ap length (reload_calls
            (state_for c.self.inside.machine c.self.inside.history) (arc_value c.args.tables).commands),
      )),
    )

pub returns-in-Ok-clause-step : goal.returns-in-Ok-clause-step
returns-in-Ok-clause-step g c =
    let stands = stands_as _ _ _ c.self.invariant.0 _ c.self.view_is in
    let event = Reloading (arc_value c.args.tables).commands in
    let recorded = ap (λ s. (step s event).recorded) stands ∙ c.requires.recorded in
    let moved = rw (c.deref.ensures) at c.in-Ok.ensures.state in
    let opened = ap (λ (h : RecordParts). h.opening) c.push_reload.ensures.entered
    ∙ c.in-Ok.ensures.opening in
    let entered = ap (λ (h : RecordParts). h.entries) c.push_reload.ensures.entered
    ∙ ap₂ (λ es e. es ++ e ∷ []) c.in-Ok.ensures.entries
    (entry_of_reload _ _ _ (c.version.ensures.version
    ∙ ap (λ (s : State). s.version) (rw (c.deref.ensures) at c.in-Ok.ensures.state))) in
    let replied = c.requires.verdict ∙ ap (λ s. verdict_of s event) (sym stands) in
    let number = c.records-number.ensures
    ∙ counts_one _ _ _ event c.self.invariant.0 (recorded_unrefused _ _ recorded)
    (recorded_verdict_of _ _ recorded) c.prepare.new.machine c.push_reload.new.self moved opened
    entered
    (omega (
      arith,
      ap (λ (h : RecordParts). h.kept) c.push_reload.ensures.entered,
      c.in-Ok.ensures.places,
    ))
    (rw (c.deref.ensures) at c.is_of_an_accepted_configuration.ensures) in (
      _,
      c.take_reply.ensures.taken,
      records _ _ _ event c.self.invariant.0 (recorded_unrefused _ _ recorded)
          (recorded_verdict_of _ _ recorded) c.prepare.new.machine c.push_reload.new.self moved
          opened entered _ _ _ c.self.view_is replied
          (receipt_is _ event _ _ _ replied number),
    )

pub returns-in-Err-clause-step : goal.returns-in-Err-clause-step
returns-in-Err-clause-step g c =
    let stands = stands_as _ _ _ c.self.invariant.0 _ c.self.view_is in
    let event = Reloading (arc_value c.args.tables).commands in
    let recorded = ap (λ s. (step s event).recorded) stands ∙ c.requires.recorded in (
      _,
      c.take_reply-in-Err.ensures.taken,
      lacks_memory _ event _ stands (recorded_unrefused _ _ recorded) _ _
          (recorded_verdict_of _ _ recorded) (ap Some (sym c.reload_refused.ensures))
          (core_still c.self.inside.machine c.prepare.new.machine c.self.inside.history
          c.prepare.new.history c.self.inside.reserved c.in-Err.ensures.err.0
          c.in-Err.ensures.err.1
          ∙ c.self.view_is),
    )

pub returns-in-Err-clause-reserved : goal.returns-in-Err-clause-reserved
returns-in-Err-clause-reserved g c =
    λ was.
    let event = Reloading (arc_value c.args.tables).commands in
    let light
    : (takes_memory (ruling_of (state_of c.args.self.now) event).effect ≡ false)
    × (places_needed (ruling_of (state_of c.args.self.now) event).effect ≡ 1) =
    reload_is_light _ _ refl in
    let kept : c.places_reserved-reserved.result ≡ 1 =
    c.places_reserved-reserved.ensures
    ∙ ap places_reserved (ap (λ (core : CoreParts). core.reserved) c.self.view_is ∙ was) in
    let enough : places_needed c.args.effect.now ≤ c.places_reserved-reserved.result =
    omega (arith, ap places_needed c.requires.effect ∙ light.1, kept) in
    absurd (true≢false (sym (c.in-Err.ensures.unfailing (omega arith)
    (ap takes_memory c.requires.effect ∙ light.0) enough)))
