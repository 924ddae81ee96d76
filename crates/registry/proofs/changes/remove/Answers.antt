use Rattle.std.proofs.Common.{None, subst, ◌∙◌}
use Rattle.registry.specs.Served.{Leaves}
use Rattle.registry.proofs.ServedChanges.{left_out, set_here}
use Rattle.registry.proofs.changes.remove.Goals as goal

pub returns-clause-served : goal.returns-clause-served
returns-clause-served c =
    let number = c.number_for-number.result in
    let old = c.args.by_number.now.entries in
    let new = c.remove-removed.new.self.entries in
    let taken = c.remove-removed.ensures.numbered number c.number_for-number.ensures.number in
    left_out c.args.serving.now c.leave.new.self old new number c.requires.served taken
    (subst (λ gone. Leaves c.args.serving.now c.leave.new.self number gone None)
    (c.as_ref.ensures.value ∙ c.remove-removed.ensures.removed ∙
    c.number_for-number.ensures.kept)
    (subst (Leaves c.args.serving.now c.leave.new.self number _)
    (set_here old new number None taken) c.leave.ensures))

pub returns-clause-changed : goal.returns-clause-changed
returns-clause-changed c = (
  c.number_for-number.result,
  record {
    own = c.number_for-number.ensures.number;
    had = c.remove-removed.ensures.removed ∙ c.number_for-number.ensures.kept;
    set = c.remove-removed.ensures.numbered c.number_for-number.result
        c.number_for-number.ensures.number;
    sorted = c.remove-removed.ensures.sorted;
  },
)
