use Rattle.std.proofs.Common.{is_some, sym, ap, ◌∙◌}
use Rattle.std.specs.Prelude.{bytes_eq}
use Rattle.std.specs.Map.{lookup}
use Rattle.registry.proofs.UnnamedLemmas.{found_unnamed, passed_named}
use Rattle.registry.proofs.choosing.first_unnamed.Goals as goal

pub returns-then-not-contains_key-clause-best : goal.returns-then-not-contains_key-clause-best
returns-then-not-contains_key-clause-best c =
    let named = c.args.named.now.entries in
    found_unnamed c.args.endpoints.now.entries named c.args.zone.now c.args.prefix.now
    c.loop-number.from c.in-Some.number c.in_ok-endpoint.endpoint.now c.in-Some.ensures
    (sym c.in_ok-endpoint.ensures)
    (ap (λ id. is_some (lookup (bytes_eq id) named)) (sym c.id.ensures)
    ∙ sym c.contains_key.ensures ∙ c.if-not-contains_key.true)
    c.loop-number.invariant

pub loop-number-preserved : goal.loop-number-preserved
loop-number-preserved c =
    let named = c.args.named.now.entries in
    passed_named c.args.endpoints.now.entries named c.args.zone.now c.args.prefix.now
    c.loop-number.from c.in-Some.number c.in_ok-endpoint.endpoint.now c.in-Some.ensures
    (sym c.in_ok-endpoint.ensures)
    (ap (λ id. is_some (lookup (bytes_eq id) named)) (sym c.id.ensures)
    ∙ sym c.contains_key.ensures ∙ c.if-not-contains_key.false)
    c.loop-number.invariant
