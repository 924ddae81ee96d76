use Rattle.std.proofs.Common.{◌==◌, [], true, Some, cond, refl, sym, ap, subst, ◌∙◌}
use Rattle.std.specs.Prelude.{IsSome, bytes_eq, if◌then◌else◌}
use Rattle.std.specs.Map.{set_value}
use Rattle.std.proofs.lemmas.Map.Steps.{set_value_same}
use Rattle.registry.specs.Served.{PutsIn, found_empty, found_number, kept_for}
use Rattle.registry.proofs.ServedLemmas.{added_some, at_err, at_ok, no_empty_at, puts_in, some_stay}
use Rattle.registry.proofs.served_zones.ServedZones.add.Goals as goal

pub invariant_of-self : goal.invariant_of-self
invariant_of-self c =
    let zones = c.self.inside.numbers.entries in
    let zone = c.args.zone.now in
    let old = c.in-Some.numbers.now in
    let new = c.add.new.self in
    let wrote = (c.get_mut.follows.holds new).3 (subst IsSome c.in-Some.ensures.value refl) in
    no_empty_at zones (c.get_mut.follows.lender new).entries zone (Some new) wrote.0
    c.self.invariant
    (some_stay old new c.add.result c.add.ensures.ok c.add.ensures.err
    (added_some old new c.args.number)
    (ap found_empty c.in-Some.ensures.value ∙ c.self.invariant zone))

pub returns-in-Some-clause-ok : goal.returns-in-Some-clause-ok
returns-in-Some-clause-ok c =
    let zones = c.self.inside.numbers.entries in
    let zone = c.args.zone.now in
    let number = c.args.number in
    let new = c.add.new.self in
    let wrote = (c.get_mut.follows.holds new).3 (subst IsSome c.in-Some.ensures.value refl) in
    at_ok (λ puts.
    subst (λ before. PutsIn before (c.get_mut.follows.lender new).entries zone number true)
    c.self.view_is
    (puts_in zones (c.get_mut.follows.lender new).entries zone (Some new) wrote.0 number true
    (λ n. puts n ∙ ap (λ o. if number == n then true else found_number o n)
    c.in-Some.ensures.value)))
    c.add.result c.add.ensures.ok

pub returns-in-Some-clause-err : goal.returns-in-Some-clause-err
returns-in-Some-clause-err c =
    let zones = c.self.inside.numbers.entries in
    let zone = c.args.zone.now in
    at_err (λ same.
    (c.get_mut.follows.holds c.add.new.self).0
    ∙ ap (set_value (bytes_eq zone) zones) same
    ∙ set_value_same (bytes_eq zone) zones c.in-Some.numbers.now (sym c.in-Some.ensures.value)
    ∙ c.self.view_is)
    c.add.result c.add.ensures.err

pub invariant_of-self-in-Ok : goal.invariant_of-self-in-Ok
invariant_of-self-in-Ok c =
    let zones = c.self.inside.numbers.entries in
    let zone = c.args.zone.now in
    let first = c.in_ok-first.first in
    no_empty_at zones c.insert.new.self.entries zone (Some first)
    (λ other. c.in-Ok.ensures.updates.0 other
    ∙ ap (λ m. cond (bytes_eq zone other) (Some first) (kept_for m.entries other))
    c.get_mut.follows.holds-at-none)
    c.self.invariant (added_some [] first c.args.number c.in_ok-first.ensures)

pub returns-in-Ok-clause-ok : goal.returns-in-Ok-clause-ok
returns-in-Ok-clause-ok c =
    let zones = c.self.inside.numbers.entries in
    let zone = c.args.zone.now in
    let number = c.args.number in
    let first = c.in_ok-first.first in
    subst (λ before. PutsIn before c.insert.new.self.entries zone number true) c.self.view_is
    (puts_in zones c.insert.new.self.entries zone (Some first)
    (λ other. c.in-Ok.ensures.updates.0 other
    ∙ ap (λ m. cond (bytes_eq zone other) (Some first) (kept_for m.entries other))
    c.get_mut.follows.holds-at-none)
    number true
    (λ n. c.in_ok-first.ensures n
    ∙ ap (λ o. if number == n then true else found_number o n) c.in_default.ensures.value))
