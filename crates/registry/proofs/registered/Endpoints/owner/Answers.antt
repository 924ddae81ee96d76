use Rattle.std.proofs.Common.{sym, ap, subst, ◌∙◌}
use Rattle.std.specs.Option.{option_copied}
use Rattle.registry.specs.Registration.{ShareNoAlias}
use Rattle.registry.specs.RegistryIndex.{owner_of}
use Rattle.registry.specs.NumberedEndpoints.{endpoints_of}
use Rattle.registry.proofs.OwnerLemmas.{led_nowhere, led_to_owner}
use Rattle.registry.proofs.SoundLemmas.{no_shared_alias}
use Rattle.registry.proofs.registered.Endpoints.owner.Goals as goal

pub returns-in_err-get-clause-found : goal.returns-in_err-get-clause-found
returns-in_err-get-clause-found c =
    let alias = c.args.alias.now in
    ap option_copied c.from_residual.ensures
    ∙ sym (led_nowhere c.self.inside.by_number.entries c.self.inside.alias_numbers.entries
    c.self.invariant.0 alias (sym c.get.ensures.value ∙ ap option_copied c.in_err-get.was))
    ∙ ap (λ r. owner_of (endpoints_of r) alias) c.self.view_is

pub returns-in_err-get-clause-unshared : goal.returns-in_err-get-clause-unshared
returns-in_err-get-clause-unshared c =
    subst ShareNoAlias (ap endpoints_of c.self.view_is)
    (no_shared_alias c.self.inside.by_number.entries c.self.inside.alias_numbers.entries
    c.self.invariant.0)

pub returns-clause-found : goal.returns-clause-found
returns-clause-found c =
    let alias = c.args.alias.now in
    c.at_number.ensures
    ∙ led_to_owner c.self.inside.by_number.entries c.self.inside.alias_numbers.entries
    c.self.invariant.0
    alias c.in_ok-get.field-0.now (sym c.get.ensures.value ∙ ap option_copied c.in_ok-get.was)
    ∙ ap (λ r. owner_of (endpoints_of r) alias) c.self.view_is

pub returns-clause-unshared : goal.returns-clause-unshared
returns-clause-unshared c =
    subst ShareNoAlias (ap endpoints_of c.self.view_is)
    (no_shared_alias c.self.inside.by_number.entries c.self.inside.alias_numbers.entries
    c.self.invariant.0)
