use Rattle.std.proofs.Common.{[], ◌∷◌, ◌++◌, length, ap, sym, ◌∙◌, arith, length-append}
use Rattle.registry.specs.Endpoint.{has_technology}
use Rattle.registry.proofs.EndpointLemmas.{distinct_more}
use Rattle.registry.proofs.endpoints.Endpoint.add_technology.Goals as goal

pub invariant_of-self : goal.invariant_of-self
invariant_of-self c =
    let pushed = c.push_reserved.ensures.items
    ∙ ap (λ items. items ++ c.args.prefix ∷ []) c.reserve.ensures.items in
    let longer = ap length pushed ∙ length-append c.self.inside.technologies.items _ in
    let room = c.if-len-ge-MOST_TECHNOLOGIES.false in
    let count = c.len.ensures in
    let free = ap (λ e. has_technology e c.args.prefix) c.self.view_is ∙ sym
    c.has_technology.ensures
    ∙ c.if-has_technology.false in
    record {
      technologies = omega (arith, longer, room, count);
      aliases = c.self.invariant.aliases;
      different_technologies = distinct_more _ _ _ c.self.invariant.different_technologies free
          pushed;
      different_aliases = c.self.invariant.different_aliases;
    }
