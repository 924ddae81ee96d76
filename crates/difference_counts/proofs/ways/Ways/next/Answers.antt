use Rattle.std.proofs.Common.{◌≡◌, ◌∙◌, not, ap, sym, subst}
use Rattle.plan_difference.specs.Sets.{is_joint}
use Rattle.difference_counts.specs.Ahead.{HasPatternsOn}
use Rattle.difference_counts.proofs.ways.Ways.next.Goals as goal

pub returns : goal.returns
returns c =
    let old = c.args.walk.now.old.tables.now.commands in
    let new = c.args.walk.now.new.tables.now.commands in
    let first = c.in_ok-old.ensures.technology in
    let second = c.in_ok-new.ensures.technology in
    let same : is_joint old new c.in_ok-old.old.technology c.in_ok-new.new.technology
    ≡ c.is_joint-wanted.result =
    (λ i. is_joint old new (first i) (second i)) ∙ sym c.is_joint-wanted.ensures in
    record {
      old_at = c.in_ok-old.ensures.at;
      new_at = c.in_ok-new.ensures.at;
      old_patterns_on = λ e.
          subst (λ t. HasPatternsOn old c.args.longer.now t c.in_ok-old.old.patterns.items)
          (sym first) (c.in_ok-old.ensures.patterns (ap not (sym same ∙ e)));
      new_patterns_on = λ e.
          subst (λ t. HasPatternsOn new c.args.longer.now t c.in_ok-new.new.patterns.items)
          (sym second) (c.in_ok-new.ensures.patterns (ap not (sym same ∙ e)));
    }
