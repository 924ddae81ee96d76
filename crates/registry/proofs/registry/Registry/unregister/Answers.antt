use Rattle.std.proofs.Common.{length, ap, sym, subst, ◌∙◌, arith}
use Rattle.registry.specs.NumberedEndpoints.{endpoints_of}
use Rattle.registry.specs.Registration.{RegistryParts, unregistered_in}
use Rattle.gk_terms.specs.Outcome.{Changes}
use Rattle.registry.proofs.RegisteringLemmas.{fewer, unregistered, not_registered}
use Rattle.registry.proofs.registry.Registry.unregister.Goals as goal
use Rattle.registry.proofs.registry.Registry.unregister.Goals.{in-Some, in-None}

pub invariant_of-self : goal.invariant_of-self
invariant_of-self c =
    let shorter = fewer c.args.id.now (endpoints_of c.self.inside.endpoints) in
    let left = ap length c.remove.ensures.without in
    let within = c.self.invariant in
    omega (arith, shorter, left, within)

pub returns-clause-changes : goal.returns-clause-changes
returns-clause-changes c =
    let id = c.args.id.now in
    let before : RegistryParts = record {
      endpoints = (endpoints_of c.self.inside.endpoints);
      most = c.self.inside.most;
    } in
    let after : RegistryParts = record {
      endpoints = (endpoints_of c.remove.new.self);
      most = c.self.inside.most;
    } in
    subst (λ old. Changes old after (unregistered_in old id) c.match-remove.result) c.self.view_is
    (elim c.match-remove.branch [
      | in-Some w ↦
          subst (Changes before after (unregistered_in before id)) (sym w.result-is)
          (unregistered before id w.in-Some.held (endpoints_of c.remove.new.self)
          (sym c.remove.ensures.removed ∙ w.in-Some.is) c.remove.ensures.without)
      | in-None w ↦
          subst (Changes before after (unregistered_in before id)) (sym w.result-is)
          (not_registered before id (endpoints_of c.remove.new.self)
          (sym c.remove.ensures.removed ∙ w.in-None.is) c.remove.ensures.without)
    ])
