use Rattle.std.proofs.Common.{◌≡◌, false, length, ap, ◌∙◌, arith}
use Rattle.registry.specs.NumberedEndpoints.{endpoints_of}
use Rattle.registry.specs.Registration.{RegistryParts, is_full_for}
use Rattle.registry.proofs.RegisteringLemmas.{fits}
use Rattle.registry.proofs.registry.Registry.put.Goals as goal
use Rattle.registry.proofs.registry.Registry.put.Goals.{in-Ok, in-Err}

pub invariant_of-self : goal.invariant_of-self
invariant_of-self c = elim c.match-put.branch [
  | in-Ok w ↦
      let before : RegistryParts = record {
        endpoints = (endpoints_of c.self.inside.endpoints);
        most = c.self.inside.most;
      } in
      let room : is_full_for before c.args.endpoint.now ≡ false =
      ap (λ r. is_full_for r c.args.endpoint.now) c.self.view_is ∙ c.requires.room in
      let long = ap length w.in-Ok.ensures.ok in
      let enough = fits before c.args.endpoint.now c.args.zone c.self.invariant room in
      omega (arith, long, enough)
  | in-Err w ↦
      let same = ap length w.in-Err.ensures.err in
      let within = c.self.invariant in
      omega (arith, same, within)
]
