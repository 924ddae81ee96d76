use Rattle.std.proofs.Common.{◌≡◌, ◌<◌, ◌≤◌, ◌-◌, length, ap, subst, ◌∙◌, arith}
use Rattle.std.specs.Prelude.{min}
use Rattle.gk_commands.specs.Zones.{is_local}
use Rattle.compiler.proofs.TechnologyLemmas.{most_is}
use Rattle.registry.specs.Served.{AreWithin}
use Rattle.registry.proofs.LearnedLemmas.{longest_found, may_be, none_found}
use Rattle.registry.proofs.served.Served.longest_local.Goals as goal

pub served_as-requires : goal.served_as-requires
served_as-requires c =
    let least = c.args.least in
    let text = c.args.text.now in
    let most = c.min-most.result in
    let tried : c.loop-shorter.shorter < c.saturating_sub-shorter-end.result =
    c.loop-shorter-test.true in
    let end : c.saturating_sub-shorter-end.result ≡ most - least =
    c.saturating_sub-shorter-end.ensures in
    may_be c.self.inside.zones.entries (is_local c.args.tables.now.commands) c.self.inside.longest
    c.self.invariant.1 text c.min.result
    (c.min.ensures ∙ ap (min (length text)) c.longest_for-longest.ensures) most
    (most_is _ _ _ c.technology_bytes.ensures.counted c.technology_bytes.ensures.within
    c.min-most.ensures) (most - c.loop-shorter.shorter) (omega (arith, tried, end))
    (omega (arith, tried, end))

pub returns-in-Some : goal.returns-in-Some
returns-in-Some c =
    let least = c.args.least in
    let text = c.args.text.now in
    let passes = is_local c.args.tables.now.commands in
    let most = c.min-most.result in
    let tried : c.loop-shorter.shorter < c.saturating_sub-shorter-end.result =
    c.loop-shorter-test.true in
    let end : c.saturating_sub-shorter-end.result ≡ most - least =
    c.saturating_sub-shorter-end.ensures in
    longest_found c.args.self.now passes c.self.inside.longest
    (subst (AreWithin c.self.inside.longest) c.self.view_is c.self.invariant.1) text
    c.min.result (c.min.ensures ∙ ap (min (length text)) c.longest_for-longest.ensures) most
    (most_is _ _ _ c.technology_bytes.ensures.counted c.technology_bytes.ensures.within
    c.min-most.ensures) least (most - c.loop-shorter.shorter) c.in-Some.prefix
    (omega (arith, tried, end)) (omega (arith, tried, end)) c.in-Some.ensures.spells
    c.in-Some.ensures.served
    (λ n longer below. c.loop-shorter.invariant n (omega (arith, tried, end, longer)) below)

pub returns : goal.returns
returns c =
    let least = c.args.least in
    let text = c.args.text.now in
    let passes = is_local c.args.tables.now.commands in
    let most = c.min-most.result in
    let past : c.saturating_sub-shorter-end.result ≤ c.loop-shorter.shorter =
    c.loop-shorter-test.false in
    let end : c.saturating_sub-shorter-end.result ≡ most - least =
    c.saturating_sub-shorter-end.ensures in
    none_found c.args.self.now passes c.self.inside.longest
    (subst (AreWithin c.self.inside.longest) c.self.view_is c.self.invariant.1) text
    c.min.result (c.min.ensures ∙ ap (min (length text)) c.longest_for-longest.ensures) most
    (most_is _ _ _ c.technology_bytes.ensures.counted c.technology_bytes.ensures.within
    c.min-most.ensures) least
    (λ n more below. c.loop-shorter.invariant n (omega (arith, past, end, more, below)) below)
