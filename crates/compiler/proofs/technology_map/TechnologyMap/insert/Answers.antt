use Rattle.std.proofs.Common.{◌≤◌, length, sym, subst}
use Rattle.std.proofs.Math.Nat.{le-max_left, le-max_right}
use Rattle.compiler.proofs.TechnologyLemmas.{within_more}
use Rattle.compiler.proofs.technology_map.TechnologyMap.insert.Goals as goal

pub invariant_of-self-2 : goal.invariant_of-self-2
invariant_of-self-2 c =
    within_more _ _ c.args.prefix.now c.args.hopoff c.self.inside.longest c.max-longest.result
    c.self.invariant c.in_ok-put.ensures.changed
    (subst (λ n. c.self.inside.longest ≤ n) (sym c.max-longest.ensures) (le-max_left _ _))
    (subst (λ text. length text ≤ c.max-longest.result) c.as_bytes.ensures.spells
    (subst (λ n. length c.as_bytes.result.now ≤ n) (sym c.max-longest.ensures)
    (le-max_right _ _)))
