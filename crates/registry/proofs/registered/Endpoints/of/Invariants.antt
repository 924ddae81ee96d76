use Rattle.std.proofs.Common.{drop}
use Rattle.registry.specs.NumberedEndpoints.{endpoints_of}
use Rattle.registry.proofs.CopyLemmas.{IsCopied}
use Rattle.registry.proofs.registered.Endpoints.of.Given as goal

abbrev pub invariant-loop-endpoint : goal.invariant-loop-endpoint
invariant-loop-endpoint l =
    IsCopied l.endpoints (endpoints_of l.made) (drop l.endpoint-index l.endpoints) l.made.next
