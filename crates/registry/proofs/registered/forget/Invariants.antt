use Rattle.std.proofs.Common.{◌≤◌, take}
use Rattle.std.specs.HashMap.{spare}
use Rattle.registry.specs.RegistryIndex.{Forgets}
use Rattle.registry.proofs.registered.forget.Given as goal

abbrev pub invariant-loop-alias : goal.invariant-loop-alias
invariant-loop-alias l = record {
  forgets : Forgets l.fn.alias_numbers.entries l.alias_numbers.entries (take l.alias-index
      l.aliases);
  room : spare l.fn.alias_numbers ≤ spare l.alias_numbers;
}
