use Rattle.std.proofs.Common.{[], ◌∷◌, ◌++◌, length, ap, sym, ◌∙◌, arith, length-append}
use Rattle.registry.specs.Endpoint.{has_alias}
use Rattle.registry.proofs.EndpointLemmas.{distinct_more}
use Rattle.registry.proofs.endpoints.Endpoint.add_alias.Goals as goal

pub invariant_of-self : goal.invariant_of-self
invariant_of-self c =
    let pushed = c.push_reserved.ensures.items
    ∙ ap (λ items. items ++ c.args.alias ∷ []) c.reserve.ensures.items in
    let longer = ap length pushed ∙ length-append c.self.inside.aliases.items _ in
    let room = c.if-len-ge-MOST_ALIASES.false in
    let count = c.len.ensures in
    let free = ap (λ e. has_alias e c.args.alias) c.self.view_is ∙ sym c.has_alias.ensures
    ∙ c.if-has_alias.false in
    record {
      aliases = omega (arith, longer, room, count);
      technologies = c.self.invariant.technologies;
      different_aliases = distinct_more _ _ _ c.self.invariant.different_aliases free pushed;
      different_technologies = c.self.invariant.different_technologies;
    }
