use Rattle.std.proofs.Common.{◌≡◌, ◌++◌, ◌∷◌, take, fold}
use Rattle.std.specs.Prelude.{codes}
use Rattle.difference_report.proofs.rows.joint_technologies.Given as goal

abbrev pub invariant-loop-prefix : goal.invariant-loop-prefix
invariant-loop-prefix l =
    l.list.items ≡ fold (λ list prefix. list ++ 32 ∷ prefix) (codes "-")
    (take l.prefix-index l.prefixes)
