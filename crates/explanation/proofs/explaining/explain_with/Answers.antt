use Rattle.std.proofs.Common.{ap, refl, ◌∙◌}
use Rattle.explanation.specs.Steps.{gateways_by}
use Rattle.rulings.specs.Routing.{target_for}
use Rattle.explanation.proofs.TechnologyLemmas.{begins_if_found}
use Rattle.explanation.proofs.WritingLemmas.{of_found}
use Rattle.explanation.proofs.explaining.explain_with.Goals as goal

pub way-requires : goal.way-requires
way-requires c =
    begins_if_found c.args.tables.now.commands c.args.registry.now.endpoints c.args.digits.now
    c.technology-technology.result c.technology-technology.ensures

pub returns : goal.returns
returns c =
    let commands = c.args.tables.now.commands in
    let endpoints = c.args.registry.now.endpoints in
    let planned = c.plan_beside-plan.ensures in
    record {
      known_is = refl;
      caller_is = refl;
      digits_are = refl;
      technology_is = c.technology-technology.ensures;
      givers_are = c.in_ok-givers.ensures;
      way_is = c.way.ensures;
      reached_is = of_found _ _ _ planned c.reached-reached.ensures;
      search_is = of_found _ _ _ planned c.search-search.ensures;
      gateways_are = of_found _ _ _ planned c.in_ok-gateways.ensures
          ∙ ap (λ prefix. gateways_by commands endpoints c.args.caller.now prefix
          (target_for commands endpoints c.args.digits.now)) c.sought.ensures;
      route_is = c.route.ensures;
      limits_are = c.in_ok-limits.ensures;
    }
