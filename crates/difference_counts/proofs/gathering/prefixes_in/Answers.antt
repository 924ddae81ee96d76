use Rattle.std.proofs.Common.{◌≡◌, ◌∙◌, ap, subst, sym, take, true, ◌++◌, ◌∷◌, [], append-nil}
use Rattle.std.specs.List.{list_all}
use Rattle.compiler.specs.Technology.{prefixes_of, prefix_in}
use Rattle.compiler.proofs.StepLemmas.{take_with, filter_map-more, one_or_none}
use Rattle.plan_difference.specs.Gathered.{has_no_star}
use Rattle.difference_counts.proofs.GatherLemmas.{all_push}
use Rattle.difference_counts.proofs.gathering.prefixes_in.Goals as goal
use Rattle.difference_counts.proofs.gathering.prefixes_in.Goals.{in-Some+in_ok-push, in_default}

pub loop-command-preserved : goal.loop-command-preserved
loop-command-preserved c =
    let commands = c.args.commands.now in
    let place = c.loop-command.command-index in
    let before = c.loop-command.prefixes.items in
    let more = ap prefixes_of
    (take_with commands place c.command-item.result c.command-item.is c.loop-command-test.true)
    ∙ filter_map-more prefix_in (take place commands) c.command-item.result in
    elim c.match-prefix_in.branch [
      | in-Some+in_ok-push w ↦
          let prefix = w.in-Some.prefix in
          let grown = ap (λ prefixes. prefixes.items) w.prefixes-is
          ∙ w.in_ok-push.ensures.items in
          record {
            listed = grown
                ∙ ap (λ items. items ++ prefix ∷ []) c.loop-command.invariant.listed
                ∙ sym (more ∙ ap (λ o. prefixes_of (take place commands) ++ one_or_none o)
                (sym w.in-Some.ensures.prefix));
            literal = subst (λ items. list_all has_no_star items ≡ true) (sym grown)
                (all_push has_no_star before prefix c.loop-command.invariant.literal
                w.in-Some.ensures.literal);
          }
      | in_default w ↦ record {
        listed = ap (λ prefixes. prefixes.items) w.prefixes-is ∙ c.loop-command.invariant.listed
            ∙ sym (more ∙ ap (λ o. prefixes_of (take place commands) ++ one_or_none o)
            (sym w.in_default.ensures.prefix) ∙ append-nil (prefixes_of (take place commands)));
        literal = subst (λ items. list_all has_no_star items ≡ true)
            (sym (ap (λ prefixes. prefixes.items) w.prefixes-is))
            c.loop-command.invariant.literal;
      }
    ]
