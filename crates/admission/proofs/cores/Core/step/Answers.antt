use Rattle.std.proofs.Common.{◌≡◌, true, length, refl, sym, ap, subst, ◌∙◌, arith}
use Rattle.std.specs.Prelude.{IfSome}
use Rattle.std.specs.Option.{option_copied}
use Rattle.gk_commands.specs.Accepted.{IsAccepted}
use Rattle.rulings.specs.Events.{event_meant}
use Rattle.rulings.specs.Founded.{IsFallible}
use Rattle.rulings.specs.Lent.{IsPlanOf, ruling_meant}
use Rattle.rulings.specs.Ruling.{Ruling, ruling_of}
use Rattle.rulings.specs.State.{State, bare}
use Rattle.rulings.specs.Step.{is_recorded, places_needed}
use Rattle.entry_bytes.proofs.AgreeLaws.{ruling_agrees}
use Rattle.admission.proofs.CoreLemmas.{commands_are, core_still, counts, is_within, stands_as, state_for}
use Rattle.admission.proofs.EnteringLemmas.{has_refusal, refused_for}
use Rattle.admission.proofs.EventLemmas.{counts_one, kept_on, lacks_memory, leaves_out, records, refuses}
use Rattle.admission.proofs.FoundedLemmas.{ruled_lacks, ruled_one}
use Rattle.admission.proofs.SteppingLemmas.{receipt_is}
use Rattle.admission.proofs.WritingLemmas.{as_ok, fails_if_needed}
use Rattle.admission.proofs.cores.Core.step.Goals as goal

pub ruling-requires : goal.ruling-requires
ruling-requires g c = record {
  planned =
      subst (λ commands. IfSome (option_copied c.plan_in_force-planned.result)
      (IsPlanOf commands (event_meant c.args.event.now)))
      (sym (c.tables.ensures ∙ commands_are _ _ _ c.self.invariant.0 _ c.self.view_is))
      c.plan_in_force-planned.ensures;
}

pub refuse-requires : goal.refuse-requires
refuse-requires g c =
    has_refusal (bare c.self.inside.machine) (event_meant c.args.event.now)
    (ruling_meant c.ruling.result) _ (sym c.lack.ensures ∙ c.in-Some.is)

pub returns-in-Some-clause-step : goal.returns-in-Some-clause-step
returns-in-Some-clause-step g c =
    let event = event_meant c.args.event.now in
    let s : State = state_for c.self.inside.machine c.self.inside.history in
    let ruled : ruling_meant c.ruling.result ≡ ruling_of s event =
    rw (c.tables.ensures) at c.ruling.ensures in
    let refused = c.refuse.ensures.reply in (
      refused.0,
      refused.2,
      refuses s event c.args.self.now (stands_as _ _ _ c.self.invariant.0 _ c.self.view_is)
          refused.0
          (refused_for c.self.inside.machine s refl event (ruling_meant c.ruling.result) ruled _
          (sym c.lack.ensures ∙ c.in-Some.is)
          ∙ refused.1),
    )

pub returns-then-not-is_recorded-clause-step : goal.returns-then-not-is_recorded-clause-step
returns-then-not-is_recorded-clause-step g c =
    let event = event_meant c.args.event.now in
    let s : State = state_for c.self.inside.machine c.self.inside.history in
    let ruled : ruling_meant c.ruling.result ≡ ruling_of s event =
    rw (c.tables.ensures) at c.ruling.ensures in (
      _,
      c.take_verdict.ensures.taken,
      leaves_out s event c.args.self.now (stands_as _ _ _ c.self.invariant.0 _ c.self.view_is)
          (refused_for c.self.inside.machine s refl event (ruling_meant c.ruling.result) ruled _
          (sym c.lack.ensures ∙ c.in_default.is))
          _ (ap (λ (r : Ruling). r.verdict) ruled)
          (sym c.is_recorded.ensures ∙ c.if-not-is_recorded.true),
    )

pub write-written-requires-clause-agrees : goal.write-written-requires-clause-agrees
write-written-requires-clause-agrees g c =
    ruling_agrees (state_for c.self.inside.machine c.self.inside.history)
    (event_meant c.args.event.now) c.ruling.result (rw (c.tables.ensures) at c.ruling.ensures)

pub settle-requires-clause-recordable : goal.settle-requires-clause-recordable
settle-requires-clause-recordable g c =
    let s : State = state_for c.self.inside.machine c.self.inside.history in
    refused_for c.self.inside.machine s refl (event_meant c.args.event.now)
    (ruling_meant c.ruling.result) (rw (c.tables.ensures) at c.ruling.ensures) _
    (sym c.lack.ensures ∙ c.in_default.is)

pub settle-requires-clause-recorded : goal.settle-requires-clause-recorded
settle-requires-clause-recorded g c =
    let s : State = state_for c.self.inside.machine c.self.inside.history in
    let ruled : ruling_meant c.ruling.result ≡ ruling_of s (event_meant c.args.event.now) =
    rw (c.tables.ensures) at c.ruling.ensures in
    ap (λ (r : Ruling). is_recorded r.verdict) (sym ruled) ∙ sym c.is_recorded.ensures
    ∙ c.if-not-is_recorded.false

pub settle-requires-clause-counted : goal.settle-requires-clause-counted
settle-requires-clause-counted g c = counts _ _ _ c.self.invariant.0

pub settle-requires-clause-within : goal.settle-requires-clause-within
settle-requires-clause-within g c = is_within _ _ _ c.self.invariant.0

pub settle-requires-clause-fallible : goal.settle-requires-clause-fallible
settle-requires-clause-fallible g c =
    let event = event_meant c.args.event.now in
    let s : State = state_for c.self.inside.machine c.self.inside.history in
    let ruled : ruling_meant c.ruling.result ≡ ruling_of s event =
    rw (c.tables.ensures) at c.ruling.ensures in
    let free = refused_for c.self.inside.machine s refl event (ruling_meant c.ruling.result) ruled _
    (sym c.lack.ensures ∙ c.in_default.is) in
    let verdict : is_recorded (ruling_of s event).verdict ≡ true =
    ap (λ (r : Ruling). is_recorded r.verdict) (sym ruled) ∙ sym c.is_recorded.ensures
    ∙ c.if-not-is_recorded.false in
    let effect = ap (λ (r : Ruling). places_needed r.effect) ruled in
    fails_if_needed c.write-written.result (IsFallible event)
    (places_needed (ruling_of s event).effect) (length c.self.inside.machine.calls)
    c.self.inside.draft.room
    (ruled_one s event (ruling_of s event) refl free (length c.self.inside.machine.calls)
    (omega arith))
    c.self.invariant.1 (λ none. c.write-written.ensures.unfailing (effect ∙ none))
    (ruled_lacks s event (ruling_of s event) refl free verdict)

pub invariant_of-self : goal.invariant_of-self
invariant_of-self g c =
    let event = event_meant c.args.event.now in
    let s : State = state_for c.self.inside.machine c.self.inside.history in
    let ruled : ruling_meant c.ruling.result ≡ ruling_of s event =
    rw (c.tables.ensures) at c.ruling.ensures in
    let free = refused_for c.self.inside.machine s refl event (ruling_meant c.ruling.result) ruled _
    (sym c.lack.ensures ∙ c.in_default.is) in
    let verdict : is_recorded (ruling_of s event).verdict ≡ true =
    ap (λ (r : Ruling). is_recorded r.verdict) (sym ruled) ∙ sym c.is_recorded.ensures
    ∙ c.if-not-is_recorded.false in (
      kept_on c.self.inside.machine c.self.inside.history c.self.inside.reserved event
          c.self.invariant.0 free verdict c.settle.new.machine c.settle.new.history
          c.in-Ok.ensures.state c.in-Ok.ensures.opening c.in-Ok.ensures.entries
          c.in-Ok.ensures.places
          (subst (λ o. IfSome o IsAccepted) (sym c.requires.other) tt),
      λ _. as_ok c.write-written.result _ c.in-Ok.ensures.written c.write-written.ensures.room,
    )

pub returns-in-Ok-clause-step : goal.returns-in-Ok-clause-step
returns-in-Ok-clause-step g c =
    let event = event_meant c.args.event.now in
    let s : State = state_for c.self.inside.machine c.self.inside.history in
    let ruled : ruling_meant c.ruling.result ≡ ruling_of s event =
    rw (c.tables.ensures) at c.ruling.ensures in
    let free = refused_for c.self.inside.machine s refl event (ruling_meant c.ruling.result) ruled _
    (sym c.lack.ensures ∙ c.in_default.is) in
    let verdict : is_recorded (ruling_of s event).verdict ≡ true =
    ap (λ (r : Ruling). is_recorded r.verdict) (sym ruled) ∙ sym c.is_recorded.ensures
    ∙ c.if-not-is_recorded.false in
    let replied = ap (λ (r : Ruling). r.verdict) ruled in
    let number = c.records.ensures
    ∙ counts_one c.self.inside.machine c.self.inside.history c.self.inside.reserved event
    c.self.invariant.0 free verdict c.settle.new.machine c.settle.new.history
    c.in-Ok.ensures.state c.in-Ok.ensures.opening c.in-Ok.ensures.entries c.in-Ok.ensures.places
    (subst (λ o. IfSome o IsAccepted) (sym c.requires.other) tt) in (
      _,
      c.take_verdict.ensures.taken,
      records c.self.inside.machine c.self.inside.history c.self.inside.reserved event
          c.self.invariant.0 free verdict c.settle.new.machine c.settle.new.history
          c.in-Ok.ensures.state c.in-Ok.ensures.opening c.in-Ok.ensures.entries
          c.args.self.now _ _ c.self.view_is replied
          (receipt_is s event _ _ c.self.inside.machine.records replied number),
    )

pub returns-in-Err-clause-step : goal.returns-in-Err-clause-step
returns-in-Err-clause-step g c =
    let event = event_meant c.args.event.now in
    let s : State = state_for c.self.inside.machine c.self.inside.history in
    let ruled : ruling_meant c.ruling.result ≡ ruling_of s event =
    rw (c.tables.ensures) at c.ruling.ensures in
    let free = refused_for c.self.inside.machine s refl event (ruling_meant c.ruling.result) ruled _
    (sym c.lack.ensures ∙ c.in_default.is) in
    let verdict : is_recorded (ruling_of s event).verdict ≡ true =
    ap (λ (r : Ruling). is_recorded r.verdict) (sym ruled) ∙ sym c.is_recorded.ensures
    ∙ c.if-not-is_recorded.false in
    let refused = c.refuse-in-Err.ensures.reply in (
      refused.0,
      refused.2,
      lacks_memory s event c.args.self.now (stands_as _ _ _ c.self.invariant.0 _ c.self.view_is)
          free _ refused.0 verdict refused.1
          (core_still c.self.inside.machine c.settle.new.machine c.self.inside.history
          c.settle.new.history c.self.inside.reserved c.in-Err.ensures.err.0
          c.in-Err.ensures.err.1
          ∙ c.self.view_is),
    )
