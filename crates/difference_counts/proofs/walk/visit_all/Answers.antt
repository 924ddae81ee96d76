use Rattle.std.proofs.Common.{◌<◌, ℕ, subst, refl, arith, get_or, length, ◌∷◌, []}
use Rattle.difference_counts.specs.Numbers.{CHARACTERS}
use Rattle.difference_counts.specs.Branches.{GrewWith}
use Rattle.difference_counts.specs.Walk.{below, place_of, rest_place}
use Rattle.difference_counts.proofs.WalkLemmas.{first_more, first_all}
use Rattle.difference_counts.proofs.walk.visit_all.Goals as goal

pub loop-character-preserved : goal.loop-character-preserved
loop-character-preserved c =
    let old = c.args.walk.now.old.tables.now.commands in
    let new = c.args.walk.now.new.tables.now.commands in
    let sets = c.args.walk.now.places.now in
    let index = c.loop-character.character-index in
    let now = c.loop-character.numbers in
    let before = c.loop-character.invariant.bounded in
    let more = c.in_ok-visit.ensures.bounded in
    let grew : GrewWith (rest_place old new sets) now c.loop-character.branches.items
    c.visit.new.numbers c.visit.new.branches.items
    (below (place_of old new sets) (get_or CHARACTERS index 0 ∷ []) 31) =
    subst (λ text. GrewWith (rest_place old new sets) now c.loop-character.branches.items
    c.visit.new.numbers c.visit.new.branches.items (below (place_of old new sets) text 31))
    c.with_character-first.ensures c.in_ok-visit.ensures.grew in
    record {
      grew = λ place h.
          let size = c.loop-character.auto.numbers in
          let a = c.loop-character.invariant.grew place h in
          let b = grew place (let e : place < length now = omega (arith, size, h) in e) in
          let d = first_more (place_of old new sets) index place (get_or CHARACTERS index 0) refl
          c.loop-character-test.true in
          omega (arith, a, b, d);
      bounded = omega (arith, before, more);
    }

pub returns-clause-grew : goal.returns-clause-grew
returns-clause-grew c = λ (place : ℕ) h.
    let a = c.loop-character.invariant.grew place h in
    let b = first_all (place_of c.args.walk.now.old.tables.now.commands
    c.args.walk.now.new.tables.now.commands c.args.walk.now.places.now)
    c.loop-character.character-index place c.loop-character-test.false in
    omega (arith, a, b)
