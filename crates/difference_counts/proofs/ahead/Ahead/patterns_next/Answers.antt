use Rattle.std.proofs.Common.{◌≡◌, ◌∙◌, ◌-◌, ◌∷◌, ◌++◌, ◌==◌, [], sym, subst, length, drop, filter}
use Rattle.std.specs.List.{starts_with}
use Rattle.compiler.specs.Technology.{found_length}
use Rattle.difference_counts.specs.Ahead.{HasPatternsOn, pattern_has_at}
use Rattle.difference_counts.proofs.AheadLemmas.{ok_then, patterns_next, patterns_from, found_next}
use Rattle.difference_counts.proofs.JointLemmas.{same_found}
use Rattle.difference_counts.proofs.ahead.Ahead.patterns_next.Goals as goal

pub patterns_after-requires : goal.patterns_after-requires
patterns_after-requires c =
    found_next c.args.side.now.tables.now.commands c.args.longer.now c.args.technology.now
    c.requires.found

pub returns-then-is_same_technology : goal.returns-then-is_same_technology
returns-then-is_same_technology c =
    let commands = c.args.side.now.tables.now.commands in
    let front = c.args.front.now in
    let ahead = c.args.self.now in
    let character = c.args.character in
    let found = c.args.technology.now in
    ok_then c.patterns_with.result
    (λ kept. kept.items
    ≡ filter (pattern_has_at (length front - c.found_length-taken.result) character)
    c.deref.result.now)
    (λ kept. HasPatternsOn commands c.args.longer.now found kept.items)
    (λ kept e. subst (λ text. HasPatternsOn commands text found kept.items)
    (sym c.requires.longer)
    (subst (HasPatternsOn commands (front ++ character ∷ []) found)
    (sym (e ∙ (λ i. filter
    (pattern_has_at (length front - c.found_length-taken.ensures i) character)
    (c.deref.ensures.value i))))
    (patterns_next commands front ahead.technology ahead.patterns.items c.requires.within
    (c.requires.patterns c.if-wanted_before.true) character found
    (same_found found ahead.technology
    (sym c.is_same_technology.ensures ∙ c.if-is_same_technology.true)))))
    c.patterns_with.ensures

pub returns : goal.returns
returns c =
    let commands = c.args.side.now.tables.now.commands in
    let longer = c.args.longer.now in
    let found = c.args.technology.now in
    let patterns = c.args.side.now.patterns.now in
    let all = filter
    (λ pattern. starts_with ◌==◌ pattern.literals (drop (found_length found) longer)) patterns in
    ok_then c.patterns_after.result (λ kept. kept.items ≡ all)
    (λ kept. HasPatternsOn commands longer found kept.items)
    (λ kept e. subst (HasPatternsOn commands longer found) (sym e)
    (patterns_from commands longer found patterns c.requires.whole))
    c.patterns_after.ensures
