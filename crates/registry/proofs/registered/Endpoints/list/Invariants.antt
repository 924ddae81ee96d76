use Rattle.std.proofs.Common.{◌≡◌, ◌++◌}
use Rattle.registry.specs.NumberedEndpoints.{endpoints_of}
use Rattle.registry.proofs.registered.Endpoints.list.Given as goal

abbrev pub invariant-loop-held : goal.invariant-loop-held
invariant-loop-held l = l.list.items ++ l.held-iterator ≡ endpoints_of l.self
