use Rattle.std.proofs.Common.{refl, ap, ◌∙◌, ◌-◌, arith}
use Rattle.std.specs.Prelude.{◌≤◌, length}
use Rattle.rulings.specs.Ruling.{ruling_of}
use Rattle.rulings.specs.Events.{event_meant}
use Rattle.rulings.specs.Step.{places_needed, with_count, with_effect}
use Rattle.command_reader.proofs.PrintingLemmas.{OnErr-from}
use Rattle.rulings.specs.State.{State, under}
use Rattle.decision_record.specs.History.{RecordParts, in_force}
use Rattle.admission.proofs.FoundedLemmas.{some_needed, ruled_founded, ruled_lacks, ruled_fits, ruled_one, ruled_enough}
use Rattle.admission.proofs.settling.prepare.Goals as goal

pub next_number-number-requires : goal.next_number-number-requires
next_number-number-requires c =
    ruled_fits _ _ _ refl c.requires.recordable c.requires.recorded c.requires.within

pub apply-requires-clause-founded : goal.apply-requires-clause-founded
apply-requires-clause-founded c =
    rw (c.tables.ensures, c.in_ok-keep.ensures.ok, c.requires.ruled)
    (ruled_founded _ _ _ refl c.requires.recordable)

pub apply-requires-clause-counted : goal.apply-requires-clause-counted
apply-requires-clause-counted c =
    ruled_fits _ _ _ refl c.requires.recordable c.requires.recorded c.requires.within

-- a place is kept
pub keep-requires-clause-one : goal.keep-requires-clause-one
keep-requires-clause-one c =
    omega (
      arith,
      c.requires.kept,
      c.saturating_sub-more.ensures,
      c.places_needed-needed.ensures ∙ ap places_needed c.requires.ruled,
      ruled_one _ _ _ refl c.requires.recordable (length c.args.machine.now.calls) (omega arith),
    )

pub returns-in_err-keep-clause-err : goal.returns-in_err-keep-clause-err
returns-in_err-keep-clause-err c =
    let is = c.in_err-keep.ensures in
    let one : 1 ≤ places_needed c.args.effect.now =
    some_needed (places_needed c.args.effect.now) c.saturating_sub-more.result c.args.reserved
    c.args.bytes
    (omega (arith, c.saturating_sub-more.ensures, c.places_needed-needed.ensures)) c.requires.short
    (λ short none. let ok = is.unfailing short none in let impossible : ⊥ = cc in impossible) in
    let one : 1 ≤ places_needed (ruling_of _ _).effect =
    omega (arith, one, ap places_needed c.requires.ruled) in
    OnErr-from c.from_residual.result _
    (refl, is.err, ruled_lacks _ _ _ refl c.requires.recordable c.requires.recorded one)

pub returns-clause-places : goal.returns-clause-places
returns-clause-places c =
    let moved = rw (c.tables.ensures, c.in_ok-keep.ensures.ok) at c.in_default.ensures.ok in
    let enough : length c.args.machine.now.calls
    ≤ c.args.history.now.kept - c.args.reserved = omega (arith, c.requires.kept) in
    omega (
      arith,
      ap (λ (h : RecordParts). h.kept) c.in_ok-keep.ensures.ok,
      ap (λ (h : RecordParts). h.kept) c.give_back-2.ensures,
      ap (λ (s : State). length s.calls) (moved
          ∙ ap (λ e. with_count (with_effect (under (in_force c.args.history.now)
          c.args.machine.now)
          (event_meant c.args.event.now) e)) c.requires.ruled),
      c.saturating_sub-more.ensures,
      c.places_needed-needed.ensures ∙ ap places_needed c.requires.ruled,
      c.requires.kept,
      ruled_one _ _ _ refl c.requires.recordable _ enough,
      ruled_enough _ _ _ refl c.requires.recordable _ enough,
    )
