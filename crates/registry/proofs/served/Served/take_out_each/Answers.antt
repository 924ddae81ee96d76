use Rattle.std.proofs.Common.{◌+◌, take, sym, subst, ◌∙◌}
use Rattle.std.specs.Option.{option_copied}
use Rattle.registry.specs.Served.{TakesOut}
use Rattle.registry.proofs.ServedLemmas.{left_more, kept_more}
use Rattle.registry.proofs.served.Served.take_out_each.Goals as goal
use Rattle.registry.proofs.served.Served.take_out_each.Goals.{then-not-serves, else-not-serves}

pub loop-prefix-preserved : goal.loop-prefix-preserved
loop-prefix-preserved c =
    let old = c.args.self.now in
    let zone = c.args.zone in
    let kept = option_copied c.args.kept in
    let prefixes = c.args.prefixes.now in
    let index = c.loop-prefix.prefix-index in
    elim c.if-not-serves.branch [
      | then-not-serves w ↦
          subst (λ new. TakesOut old new c.args.number zone (take (index + 1) prefixes) kept)
          (sym w.self-is)
          (left_more old c.loop-prefix.self w.take_out.new.self c.args.number zone kept prefixes
          index
          c.prefix-item.result c.loop-prefix-test.true c.prefix-item.is c.loop-prefix.invariant
          (sym c.serves.ensures ∙ w.if-not-serves.true) w.take_out.ensures)
      | else-not-serves w ↦
          subst (λ new. TakesOut old new c.args.number zone (take (index + 1) prefixes) kept)
          (sym w.self-is)
          (kept_more old c.loop-prefix.self c.loop-prefix.self c.args.number zone kept prefixes
          index
          c.prefix-item.result c.loop-prefix-test.true c.prefix-item.is c.loop-prefix.invariant
          (sym c.serves.ensures ∙ w.if-not-serves.false))
    ]
