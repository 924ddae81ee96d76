use Rattle.std.proofs.Common.{◌≤◌, ◌==◌, ◌&&◌, ℕ, List, [], true, Some, cond, length, refl, sym, ap, subst, ◌∙◌}
use Rattle.std.specs.Prelude.{IsSome, is_some, bytes_eq, if◌then◌else◌}
use Rattle.std.specs.Map.{set_value}
use Rattle.std.proofs.lemmas.Map.Steps.{set_value_same}
use Rattle.registry.specs.Served.{Puts, found_empty, found_in, kept_for}
use Rattle.registry.proofs.ServedLemmas.{at_err, at_ok, no_empty_at, put_some, puts_at, some_stay, within_more, within_same}
use Rattle.registry.proofs.served.Served.add.Goals as goal

pub invariant_of-self : goal.invariant_of-self
invariant_of-self c =
    let places = c.self.inside.zones.entries in
    let prefix = c.args.prefix.now in
    let old = c.in-Some.zones.now in
    let new = c.add.new.self in
    let wrote = (c.get_mut.follows.holds new).3 (subst IsSome c.in-Some.ensures.value refl) in (
      no_empty_at places (c.get_mut.follows.lender new).entries prefix (Some new) wrote.0
          c.self.invariant.0
          (some_stay old new c.add.result c.add.ensures.ok c.add.ensures.err
          (put_some old new c.args.zone.now c.args.number)
          (ap found_empty c.in-Some.ensures.value ∙ c.self.invariant.0 prefix)),
      within_same places (c.get_mut.follows.lender new).entries prefix new c.self.inside.longest
          wrote.0 (ap is_some (sym c.in-Some.ensures.value)) c.self.invariant.1,
    )

pub returns-in-Some-clause-ok : goal.returns-in-Some-clause-ok
returns-in-Some-clause-ok c =
    let places = c.self.inside.zones.entries in
    let prefix = c.args.prefix.now in
    let zone = c.args.zone.now in
    let number = c.args.number in
    let new = c.add.new.self in
    let wrote = (c.get_mut.follows.holds new).3 (subst IsSome c.in-Some.ensures.value refl) in
    at_ok (λ puts.
    subst (λ before. Puts before (c.get_mut.follows.lender new).entries (zone, prefix, number) true)
    c.self.view_is
    (puts_at places (c.get_mut.follows.lender new).entries prefix (Some new) wrote.0 zone number
    true
    (λ z n. puts z n
    ∙ ap (λ o. if bytes_eq zone z && (number == n) then true else found_in o z n)
    c.in-Some.ensures.value)))
    c.add.result c.add.ensures.ok

pub returns-in-Some-clause-err : goal.returns-in-Some-clause-err
returns-in-Some-clause-err c =
    let places = c.self.inside.zones.entries in
    let prefix = c.args.prefix.now in
    at_err (λ same.
    (c.get_mut.follows.holds c.add.new.self).0
    ∙ ap (set_value (bytes_eq prefix) places) same
    ∙ set_value_same (bytes_eq prefix) places c.in-Some.zones.now (sym c.in-Some.ensures.value)
    ∙ c.self.view_is)
    c.add.result c.add.ensures.err

pub invariant_of-self-in-Ok : goal.invariant_of-self-in-Ok
invariant_of-self-in-Ok c =
    let places = c.self.inside.zones.entries in
    let prefix = c.args.prefix.now in
    let first = c.in_ok-first.first in
    let new = c.insert.new.self.entries in
    let changes = λ (other : List ℕ). c.in-Ok.ensures.updates.0 other
    ∙ ap (λ m. cond (bytes_eq prefix other) (Some first) (kept_for m.entries other))
    c.get_mut.follows.holds-at-none in (
      no_empty_at places new prefix (Some first) changes c.self.invariant.0
          (put_some [] first c.args.zone.now c.args.number c.in_ok-first.ensures),
      within_more places new prefix (Some first) c.self.inside.longest c.lengthen.new.longest changes
          c.self.invariant.1 c.lengthen.ensures.others c.lengthen.ensures.text
          c.lengthen.ensures.own,
    )

pub returns-in-Ok-clause-ok : goal.returns-in-Ok-clause-ok
returns-in-Ok-clause-ok c =
    let places = c.self.inside.zones.entries in
    let prefix = c.args.prefix.now in
    let zone = c.args.zone.now in
    let number = c.args.number in
    let first = c.in_ok-first.first in
    let new = c.insert.new.self.entries in
    subst (λ before. Puts before new (zone, prefix, number) true) c.self.view_is
    (puts_at places new prefix (Some first)
    (λ other. c.in-Ok.ensures.updates.0 other
    ∙ ap (λ m. cond (bytes_eq prefix other) (Some first) (kept_for m.entries other))
    c.get_mut.follows.holds-at-none)
    zone number true
    (λ z n. c.in_ok-first.ensures z n
    ∙ ap (λ o. if bytes_eq zone z && (number == n) then true else found_in o z n)
    c.in_default.ensures.value))
