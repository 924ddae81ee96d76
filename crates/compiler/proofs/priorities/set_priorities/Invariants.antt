use Rattle.std.proofs.Common.{◌≡◌, ℕ, List, take, bytes_eq, Some, if◌then◌else◌}
use Rattle.std.specs.List.{list_any}
use Rattle.std.specs.Map.{lookup}
use Rattle.compiler.proofs.priorities.set_priorities.Given as goal

abbrev pub invariant-loop-name : goal.invariant-loop-name
invariant-loop-name l =
    (gateway : List ℕ) → lookup (bytes_eq gateway) l.gateways.entries
    ≡ (if list_any (bytes_eq gateway) (take l.name-index l.names) then Some l.priority
    else lookup (bytes_eq gateway) l.initial.gateways.entries)
