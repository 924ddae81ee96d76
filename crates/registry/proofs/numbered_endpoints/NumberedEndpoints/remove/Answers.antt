use Rattle.std.proofs.Common.{sym, ap, subst, ◌∙◌}
use Rattle.registry.specs.NumberedEndpoints.{IsTakenOut, by_id, kept_endpoint_of}
use Rattle.registry.proofs.NumberLemmas.{kept_nowhere, kept_under}
use Rattle.registry.proofs.NumberRemoval.{none_taken_out, sound_after_removal, removed_by_id}
use Rattle.registry.proofs.numbered_endpoints.NumberedEndpoints.remove.Goals as goal

pub returns-in_err-number-clause-removed : goal.returns-in_err-number-clause-removed
returns-in_err-number-clause-removed c =
    let id = c.args.id.now in
    c.from_residual.ensures
    ∙ sym (kept_nowhere c.self.inside.endpoints.entries c.self.inside.numbers.entries
    c.self.inside.next c.self.invariant id (sym c.in_err-number.ensures.value))
    ∙ ap (λ r. kept_endpoint_of (by_id r.entries) id) c.self.view_is

pub returns-in_err-number-clause-entries : goal.returns-in_err-number-clause-entries
returns-in_err-number-clause-entries c =
    let id = c.args.id.now in
    let entries = c.self.inside.endpoints.entries in
    let nowhere = kept_nowhere entries c.self.inside.numbers.entries
    c.self.inside.next c.self.invariant id (sym c.in_err-number.ensures.value) in
    subst (λ r. IsTakenOut (by_id r.entries) (by_id entries) id) c.self.view_is
    (none_taken_out entries c.self.inside.numbers.entries c.self.inside.next c.self.invariant id
    nowhere)

pub invariant_of-self-2 : goal.invariant_of-self-2
invariant_of-self-2 c =
    sound_after_removal c.self.inside.endpoints.entries c.remove-2.new.self.entries
    c.self.inside.numbers.entries c.remove.new.self.entries c.self.inside.next
    c.in_ok-number.number c.args.id.now c.self.invariant (sym c.in_ok-number.ensures.value)
    c.remove-2.ensures.updates.0 c.remove.ensures.updates.0 c.remove-2.ensures.ordered

pub returns-clause-removed : goal.returns-clause-removed
returns-clause-removed c =
    let id = c.args.id.now in
    c.remove-2.ensures.value
    ∙ sym (kept_under c.self.inside.endpoints.entries c.self.inside.numbers.entries
    c.self.inside.next c.self.invariant id c.in_ok-number.number
    (sym c.in_ok-number.ensures.value))
    ∙ ap (λ r. kept_endpoint_of (by_id r.entries) id) c.self.view_is

pub returns-clause-entries : goal.returns-clause-entries
returns-clause-entries c =
    subst (λ r. IsTakenOut (by_id r.entries) (by_id c.remove-2.new.self.entries) c.args.id.now)
    c.self.view_is
    (removed_by_id c.self.inside.endpoints.entries c.remove-2.new.self.entries
    c.self.inside.numbers.entries c.remove.new.self.entries c.self.inside.next
    c.in_ok-number.number c.args.id.now c.self.invariant (sym c.in_ok-number.ensures.value)
    c.remove-2.ensures.updates.0 c.remove.ensures.updates.0 c.remove-2.ensures.entries
    c.remove-2.ensures.ordered)
