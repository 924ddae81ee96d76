use Rattle.std.proofs.Common.{◌≤◌, get_or, arith, subst}
use Rattle.std.specs.List.{SwappedAt}
use Rattle.plan_difference.specs.Blocked.{AreRaised}
use Rattle.plan_difference.proofs.passing.pass.Goals as goal

pub swap-requires-clause-a_in_bounds : goal.swap-requires-clause-a_in_bounds
swap-requires-clause-a_in_bounds c =
    let before = c.args.firsts.now in
    let up : get_or before c.args.least 0 ≤ get_or before 32 0 =
    c.requires.rising c.args.least 32 c.requires.least (omega arith) in
    omega (arith, up, c.requires.first, c.requires.within, c.first_at-other.ensures)

pub returns-clause-swapped : goal.returns-clause-swapped
returns-clause-swapped c =
    subst (λ n. SwappedAt c.args.heads.now c.swap.new.self n c.args.place)
    c.first_at-other.ensures c.swap.ensures.by_index

pub returns-clause-raised : goal.returns-clause-raised
returns-clause-raised c =
    subst (λ n. AreRaised c.args.least c.args.place n c.args.firsts.now c.raise.new.firsts)
    c.first_at-other.ensures c.raise.ensures
