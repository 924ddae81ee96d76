use Rattle.registry.specs.NumberedEndpoints.{endpoints_of}
use Rattle.registry.proofs.CopyLemmas.{IsCopied}
use Rattle.registry.proofs.registered.Endpoints.copy.Given as goal

abbrev pub invariant-loop-held : goal.invariant-loop-held
invariant-loop-held l =
    IsCopied (endpoints_of l.fn.self) (endpoints_of l.copy) l.held-iterator l.copy.next
