use Rattle.std.proofs.Common.{◌∙◌, ap, sym, take, drop, length, nat_eq}
use Rattle.std.specs.Cmp.Lexicographic.{pointwise}
use Rattle.plan_difference.proofs.WalkLemmas.{pattern_by_stem, pattern_without}
use Rattle.plan_difference.proofs.walk.add_pattern.Goals as goal

pub returns-in-Some-clause-settles : goal.returns-in-Some-clause-settles
returns-in-Some-clause-settles c =
    pattern_by_stem c.args.old.now.commands c.args.new.now.commands c.add_stem.new.sets
    c.args.heads.now c.args.group.now c.args.front.now c.args.pattern.now c.in-Some.stem.now
    (c.in-Some.ensures.cases.1
    ∙ ap (drop (length c.args.front.now)) c.literals.ensures.literals)
    c.add_stem.result c.add_stem.ensures.settles

pub returns-in-None-clause-settles : goal.returns-in-None-clause-settles
returns-in-None-clause-settles c =
    pattern_without c.args.old.now.commands c.args.new.now.commands c.args.sets.now
    c.args.heads.now c.args.group.now c.args.front.now c.args.pattern.now
    (ap (λ l. pointwise nat_eq (take (length c.args.front.now) l) c.args.front.now)
    (sym c.literals.ensures.literals) ∙ c.in-None.ensures.cases)
