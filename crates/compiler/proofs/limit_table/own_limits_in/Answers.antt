use Rattle.std.proofs.Common.{◌≡◌, List, [], ◌∷◌, ◌++◌, ◌+◌, length, take, drop, replicate, ap, sym, subst, ◌∙◌}
use Rattle.std.specs.Prelude.{option_map}
use Rattle.std.proofs.lemmas.List.{take_all, length-replicate}
use Rattle.gk_commands.specs.declared.commands.Command.{Command}
use Rattle.compiler.specs.declared.limits.ZoneLimits.{ZoneLimits}
use Rattle.compiler.specs.TablesIndex.{no_limits, limits_or, limits_said, kept_limits, AreOwnLimits}
use Rattle.compiler.proofs.LimitLemmas.{own_limits_begin, own_limits_more, written_back}
use Rattle.compiler.proofs.StepLemmas.{take_with}
use Rattle.compiler.proofs.limit_table.own_limits_in.Goals as goal

pub loop-command-init : goal.loop-command-init
loop-command-init c =
    let zones = c.args.zones.now.entries in
    let none : c.in_ok-limits.limits.items ≡ replicate (length zones) no_limits =
    c.in_ok-limits.ensures.items_if_clones_equal (λ limits same. same)
    ∙ ap (λ count. replicate count no_limits) c.len.ensures.len in
    record {
      own = own_limits_begin zones c.in_ok-limits.limits.items none;
      each = ap length none ∙ length-replicate (length zones) no_limits;
    }

pub loop-command-preserved : goal.loop-command-preserved
loop-command-preserved c =
    let zones = c.args.zones.now.entries in
    let commands = c.args.commands.now in
    let place = c.loop-command.command-index in
    let command = c.command-item.result in
    let old = c.loop-command.limits.items in
    let new = c.add_limits.new.limits in
    let more : take (place + 1) commands ≡ take place commands ++ command ∷ [] =
    take_with commands place command c.command-item.is c.loop-command-test.true in
    let count : length new ≡ c.loop-command.limits.len =
    c.add_limits.ensures.each ∙ c.deref_mut.ensures.len in
    let back : take c.loop-command.limits.len (new ++ drop (length new) old) ≡ new =
    written_back new old c.loop-command.limits.len count in
    let own : AreOwnLimits zones (take place commands ++ command ∷ []) new =
    own_limits_more zones (take place commands) command old new c.loop-command.invariant.own
    (λ name. c.add_limits.ensures.kept name
    ∙ ap (λ all. option_map (limits_or (limits_said name command)) (kept_limits zones all name))
    c.deref_mut.ensures.value) in
    record {
      own = subst (λ (before : List Command). AreOwnLimits zones before
          (take c.loop-command.limits.len (new ++ drop (length new) old))) (sym more)
          (subst (λ (limits : List ZoneLimits). AreOwnLimits zones
          (take place commands ++ command ∷ []) limits) (sym back) own);
      each = ap length back ∙ c.add_limits.ensures.each
          ∙ ap length c.deref_mut.ensures.value ∙ c.loop-command.invariant.each;
    }

pub returns-clause-own : goal.returns-clause-own
returns-clause-own c =
    subst (λ (before : List Command). AreOwnLimits c.args.zones.now.entries before
    c.loop-command.limits.items)
    (take_all c.loop-command.command-index c.args.commands.now c.loop-command-test.false)
    c.loop-command.invariant.own
