use Rattle.std.proofs.Common.{◌∙◌, ap, ◌++◌, drop, length}
use Rattle.std.specs.Prelude.{replicate}
use Rattle.plan_difference.proofs.TextLemmas.{spelled_is, zero_plus}
use Rattle.plan_difference.proofs.texts.spelled.Goals as goal

pub returns : goal.returns
returns c =
    let head = c.args.head.now in
    spelled_is head c.args.stem.now c.write_at.new.target c.write_at-2.new.target
    (c.write_at.ensures ∙ ap (λ n. head ++ drop n (replicate 32 42)) (zero_plus (length head)))
    c.write_at-2.ensures
