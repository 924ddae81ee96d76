-- What good limits bound.
use Rattle.std.proofs.Common.{◌≡◌, ◌≤◌, ◌+◌, ℕ, true, arith}
use Rattle.std.proofs.lemmas.Bool.{leb-true, and_parts}
use Rattle.gk_terms.specs.declared.limits.TheConstants.{MOST_RELOADS}
use Rattle.rulings.specs.Limits.{is_limit, are_limits}
use Rattle.rulings.specs.declared.limits.Limits.{Limits}

few_reloads : (l : Limits) → are_limits l ≡ true → l.reloads ≤ 4096
few_reloads l good =
    let last : is_limit MOST_RELOADS l.reloads ≡ true = (and_parts _ _ good).1 in
    leb-true l.reloads MOST_RELOADS (and_parts _ _ last).1

pub few_versions : (l : Limits) (version : ℕ) → are_limits l ≡ true → version ≤ l.reloads + 1
    → version ≤ 4097
few_versions l version good within = let few = few_reloads l good in omega (arith, few, within)
