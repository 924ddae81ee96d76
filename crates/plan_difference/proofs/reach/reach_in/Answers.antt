use Rattle.std.proofs.Common.{◌∙◌, ◌++◌, ◌-◌, inl, cond, nat_lt, length, sym, subst, true≢false}
use Rattle.gk_terms.specs.Dialled.{IsDialled}
use Rattle.plan_difference.specs.Walk.{text_of}
use Rattle.plan_difference.proofs.BlockedLemmas.{found_is, level_found}
use Rattle.plan_difference.proofs.reach.reach_in.Goals as goal

pub returns-then-is_same_technology : goal.returns-then-is_same_technology
returns-then-is_same_technology c =
    inl (record {
      dialled = subst IsDialled c.requires c.as_bytes-text.ensures.dialled;
      longest = found_is c.args.old.now.commands c.args.new.now.commands c.args.digits.now
          (text_of c.args.head.now ++ c.args.stem.now) c.declared.result c.declared-2.result
          c.longer_of-found.result c.requires c.declared.ensures c.declared-2.ensures
          c.longer_of-found.ensures
          ∙ c.is_same_technology.ensures.0 c.if-is_same_technology.true;
    })

pub returns : goal.returns
returns c =
    level_found c.args.old.now.commands c.args.new.now.commands c.args.head.now c.args.stem.now
    c.longer_of-found.result c.level_of.result
    (found_is c.args.old.now.commands c.args.new.now.commands c.args.digits.now
    (text_of c.args.head.now ++ c.args.stem.now) c.declared.result c.declared-2.result
    c.longer_of-found.result c.requires c.declared.ensures c.declared-2.ensures
    c.longer_of-found.ensures)
    (λ same. true≢false (sym (c.is_same_technology.ensures.1 same)
    ∙ c.if-is_same_technology.false))
    (c.level_of.ensures
    ∙ (λ i. cond (nat_lt (c.found_length.ensures i) (c.found_length-2.ensures i))
    (c.found_length-2.ensures i - c.found_length.ensures i) (length c.args.stem.now)))
