use Rattle.std.proofs.Common.{sym, subst}
use Rattle.std.proofs.lemmas.Result.{err_from_is_err_and}
use Rattle.registry.specs.Served.{MayAddPlaces}
use Rattle.registry.proofs.ServedLemmas.{entered_more, part_added}
use Rattle.registry.proofs.served.Served.add_each.Goals as goal

pub loop-prefix-preserved : goal.loop-prefix-preserved
loop-prefix-preserved c =
    entered_more c.args.self.now c.loop-prefix.self c.add.new.self c.args.number c.args.zone
    c.args.prefixes.now c.loop-prefix.prefix-index c.prefix-item.result c.loop-prefix-test.true
    c.prefix-item.is c.loop-prefix.invariant c.in_ok-add.ensures.ok

pub returns-in_err-add-clause-err : goal.returns-in_err-add-clause-err
returns-in_err-add-clause-err c =
    let p = err_from_is_err_and c.from_residual.result c.from_residual.ensures.1 in
    let before :
    MayAddPlaces c.args.self.now c.loop-prefix.self c.args.number c.args.zone c.args.prefixes.now =
    part_added c.args.self.now c.loop-prefix.self c.args.number c.args.zone c.args.prefixes.now
    c.loop-prefix.prefix-index c.loop-prefix.invariant in
    let now : MayAddPlaces c.args.self.now c.add.new.self c.args.number c.args.zone
    c.args.prefixes.now =
    subst (λ new. MayAddPlaces c.args.self.now new c.args.number c.args.zone c.args.prefixes.now)
    (sym c.in_err-add.ensures.err) before in
    rw p.1 now
