use Rattle.std.proofs.Common.{◌≡◌, take}
use Rattle.std.specs.Prelude.{IfSome}
use Rattle.compiler.specs.Plan.{row_meant}
use Rattle.explanation.specs.Steps.{candidates_of}
use Rattle.explanation.proofs.candidates.candidates.Given as goal

abbrev pub invariant-loop-place : goal.invariant-loop-place
invariant-loop-place l =
    IfSome (row_meant l.tables.commands l.row) (λ used. l.list.items
    ≡ candidates_of l.tables.commands (take l.place l.registry.endpoints) l.zone l.prefix used)
