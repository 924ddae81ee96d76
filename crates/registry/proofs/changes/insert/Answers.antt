use Rattle.std.proofs.Common.{Some, sym, ap, subst, ◌∙◌}
use Rattle.registry.specs.RegistryIndex.{AreServed}
use Rattle.registry.specs.Served.{Leaves}
use Rattle.registry.specs.NumberedEndpoints.{at_number, IsNumberFor}
use Rattle.registry.proofs.ServedChanges.{settled, set_here, taken_back, may_enter, unless_err, when_err}
use Rattle.registry.proofs.changes.insert.Goals as goal

pub returns-then-is_err-clause-served : goal.returns-then-is_err-clause-served
returns-then-is_err-clause-served c =
    let number = c.number_for-number.result in
    taken_back c.args.serving.now c.enter.new.self c.leave.new.self c.args.by_number.now.entries
    number c.args.held c.requires.served
    (when_err c.enter.result c.enter.ensures.err (sym c.is_err.ensures.value ∙ c.if-is_err.true))
    c.leave.ensures

pub returns-in-Ok-clause-served : goal.returns-in-Ok-clause-served
returns-in-Ok-clause-served c =
    let number = c.number_for-number.result in
    let e = c.args.held in
    let old = c.args.by_number.now.entries in
    let new = c.insert.new.self.entries in
    let entered = unless_err c.enter.result c.enter.ensures.ok
    (sym c.is_err.ensures.value ∙ c.if-is_err.false) in
    settled c.args.serving.now c.enter.new.self c.leave-in-Ok.new.self old new number e
    c.requires.served entered c.in-Ok.ensures.placed
    (subst (λ gone. Leaves c.enter.new.self c.leave-in-Ok.new.self number gone (Some e))
    (c.as_ref.ensures.value ∙ c.in-Ok.ensures.replaced)
    (subst (Leaves c.enter.new.self c.leave-in-Ok.new.self number _)
    (set_here old new number (Some e) c.in-Ok.ensures.placed)
    c.leave-in-Ok.ensures))

pub returns-in-Ok-clause-changed : goal.returns-in-Ok-clause-changed
returns-in-Ok-clause-changed c =
    let number = c.number_for-number.result in
    record {
      own = subst (λ id. IsNumberFor c.args.by_number.now id number) c.requires.own
          c.number_for-number.ensures.number;
      had = c.in-Ok.ensures.replaced;
      set = c.in-Ok.ensures.placed;
      sorted = c.in-Ok.ensures.sorted;
    }

pub returns-in-Err-clause-served : goal.returns-in-Err-clause-served
returns-in-Err-clause-served c =
    let number = c.number_for-number.result in
    let e = c.args.held in
    let old = c.args.by_number.now.entries in
    let entered = unless_err c.enter.result c.enter.ensures.ok
    (sym c.is_err.ensures.value ∙ c.if-is_err.false) in
    let same = ap (λ r. r.entries) c.in-Err.ensures.err in
    subst (AreServed c.leave-in-Err.new.self) (sym same)
    (taken_back c.args.serving.now c.enter.new.self c.leave-in-Err.new.self old number e
    c.requires.served (may_enter c.args.serving.now c.enter.new.self number e entered)
    (subst (λ gone. Leaves c.enter.new.self c.leave-in-Err.new.self number (Some gone)
    (at_number old number)) c.in-Err.ensures.back
    (subst (Leaves c.enter.new.self c.leave-in-Err.new.self number (Some c.in-Err.held))
    (ap (λ es. at_number es number) same)
    c.leave-in-Err.ensures)))
