use Rattle.std.proofs.Common.{length, ap, arith}
use Rattle.registry.proofs.EndpointLemmas.{distinct_none}
use Rattle.registry.proofs.endpoints.Endpoint.new.Goals as goal

pub invariant_of-result : goal.invariant_of-result
invariant_of-result c =
    let aliases = ap length c.new.ensures.items in
    let technologies = ap length c.new-2.ensures.items in
    record {
      aliases = omega (arith, aliases);
      technologies = omega (arith, technologies);
      different_aliases = distinct_none _ c.new.ensures.items;
      different_technologies = distinct_none _ c.new-2.ensures.items;
    }
