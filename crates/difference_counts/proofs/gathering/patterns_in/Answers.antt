use Rattle.std.proofs.Common.{◌≡◌, ◌∙◌, ap, subst, sym, take, true, ◌+◌, ◌++◌, ◌∷◌, []}
use Rattle.std.specs.List.{list_all}
use Rattle.compiler.proofs.StepLemmas.{take_with}
use Rattle.plan_difference.specs.Gathered.{patterns_of}
use Rattle.plan_difference.proofs.GatherLemmas.{patterns_more, patterns_same}
use Rattle.difference_counts.specs.Ahead.{literal_pattern}
use Rattle.difference_counts.proofs.GatherLemmas.{all_push}
use Rattle.difference_counts.proofs.gathering.patterns_in.Goals as goal
use Rattle.difference_counts.proofs.gathering.patterns_in.Goals.{in-Some+in_ok-push, in_default}

pub loop-command-preserved : goal.loop-command-preserved
loop-command-preserved c =
    let commands = c.args.commands.now in
    let place = c.loop-command.command-index in
    let before = c.loop-command.patterns.items in
    let more : take (place + 1) commands ≡ take place commands ++ c.command-item.result ∷ [] =
    take_with commands place c.command-item.result c.command-item.is c.loop-command-test.true in
    elim c.match-pattern_in.branch [
      | in-Some+in_ok-push w ↦
          let pattern = w.in-Some.pattern.now in
          let grown = ap (λ patterns. patterns.items) w.patterns-is
          ∙ w.in_ok-push.ensures.items in
          record {
            listed = grown
                ∙ ap (λ items. items ++ pattern ∷ []) c.loop-command.invariant.listed
                ∙ sym (ap patterns_of more
                ∙ patterns_more (take place commands) c.command-item.result pattern
                w.in-Some.ensures.pattern);
            literal = subst (λ items. list_all literal_pattern items ≡ true) (sym grown)
                (all_push literal_pattern before pattern c.loop-command.invariant.literal
                w.in-Some.ensures.literal);
          }
      | in_default w ↦ record {
        listed = ap (λ patterns. patterns.items) w.patterns-is ∙ c.loop-command.invariant.listed
            ∙ sym (ap patterns_of more
            ∙ patterns_same (take place commands) c.command-item.result
            w.in_default.ensures.pattern);
        literal = subst (λ items. list_all literal_pattern items ≡ true)
            (sym (ap (λ patterns. patterns.items) w.patterns-is))
            c.loop-command.invariant.literal;
      }
    ]
