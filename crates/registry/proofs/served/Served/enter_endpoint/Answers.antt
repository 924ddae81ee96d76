use Rattle.std.proofs.Common.{sym, subst}
use Rattle.registry.specs.Served.{AddsPlaces, MayAddPlaces}
use Rattle.registry.proofs.ServedLemmas.{gateway_enters, gateway_may_enter, terminal_enters, at_ok, at_err}
use Rattle.registry.proofs.served.Served.enter_endpoint.Goals as goal

pub returns-in-Gateway-clause-ok : goal.returns-in-Gateway-clause-ok
returns-in-Gateway-clause-ok c =
    let e = c.args.endpoint.now in
    let old = c.args.self.now in
    let new = c.add_each.new.self in
    at_ok (λ adds. gateway_enters e c.args.number old new (sym c.in-Gateway.ensures)
    (subst (λ zone. AddsPlaces old new c.args.number zone e.technologies) c.zone.ensures
    (subst (AddsPlaces old new c.args.number c.zone.result.now) c.technologies.ensures.value adds)))
    c.add_each.result c.add_each.ensures.ok

pub returns-in-Gateway-clause-err : goal.returns-in-Gateway-clause-err
returns-in-Gateway-clause-err c =
    let e = c.args.endpoint.now in
    let old = c.args.self.now in
    let new = c.add_each.new.self in
    at_err (λ adds. gateway_may_enter e c.args.number old new (sym c.in-Gateway.ensures)
    (subst (λ zone. MayAddPlaces old new c.args.number zone e.technologies) c.zone.ensures
    (subst (MayAddPlaces old new c.args.number c.zone.result.now) c.technologies.ensures.value
    adds)))
    c.add_each.result c.add_each.ensures.err

pub returns-in-Terminal-clause-ok : goal.returns-in-Terminal-clause-ok
returns-in-Terminal-clause-ok c =
    terminal_enters c.args.endpoint.now c.args.number c.args.self.now (sym c.in-Terminal.ensures)
