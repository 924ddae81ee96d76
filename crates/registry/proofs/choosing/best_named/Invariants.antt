use Rattle.std.specs.Prelude.{◌≡◌, bytes_eq}
use Rattle.std.specs.List.{AllByRecursion, IsDistinct}
use Rattle.std.specs.Map.{keys_of}
use Rattle.compiler.specs.Priority.{named_priority}
use Rattle.registry.specs.Chosen.{IsBestGateway, is_other_than}
use Rattle.registry.proofs.choosing.best_named.Given as goal

-- the IDs that are left are different, each comes with its priority, and the best of the others is
-- known
abbrev pub invariant-loop-id : goal.invariant-loop-id
invariant-loop-id l = record {
  different : IsDistinct bytes_eq (keys_of l.id-iterator);
  ranked : AllByRecursion (λ e. e.1 ≡ named_priority l.named.entries e.0) l.id-iterator;
  best : IsBestGateway l.endpoints.entries l.named.entries
      (is_other_than l.named.entries l.zone l.prefix (keys_of l.id-iterator)) l.best;
}
