use Rattle.std.proofs.Common.{◌≡◌, ◌∙◌, ap, sym, subst, arith, ℕ, List, ◌<◌, [], length, filter}
use Rattle.std.specs.Prelude.{Option}
use Rattle.std.specs.List.{All, sum_by}
use Rattle.difference_counts.specs.Branches.{IsOn, all_branched, branched, has_room, weight, weight_of}
use Rattle.difference_counts.specs.Numbers.{sum_to}
use Rattle.difference_counts.specs.Walk.{rest_place}
use Rattle.difference_counts.proofs.BranchLemmas.{by_room, on_room}
use Rattle.difference_counts.proofs.RestLemmas.{all_on}
use Rattle.difference_counts.proofs.SumLemmas.{sum_to_none, sum_to_more, sum_to_within}
use Rattle.difference_counts.proofs.rests.count_branches.Goals as goal

pub loop-room-init : goal.loop-room-init
loop-room-init c = record {
  grew = λ place h.
      let none = sum_to_none (λ room. sum_by (branched (rest_place
      c.args.walk.now.old.tables.now.commands c.args.walk.now.new.tables.now.commands
      c.args.walk.now.places.now) place) (filter (has_room room) c.args.branches.now)) in
      omega (arith, none);
  bounded =
      let none = sum_to_none
      (λ room. sum_by weight_of (filter (has_room room) c.args.branches.now)) in
      omega (arith, none);
}

pub visit_rests-requires-clause-room : goal.visit_rests-requires-clause-room
visit_rests-requires-clause-room c =
    let room = c.loop-room.room in
    let branches = c.args.branches.now in
    let here : weight c.deref-in-loop-room.result.now ≡ sum_by weight_of (filter (has_room room) branches) =
    ap weight (c.deref-in-loop-room.ensures.value ∙ c.in_ok-some.ensures) in
    let within = sum_to_within 33 room
    (λ room. sum_by weight_of (filter (has_room room) branches)) c.loop-room-test.true in
    let whole = by_room weight_of branches in
    let bounded = c.loop-room.invariant.bounded in
    let enough = c.requires.room in
    omega (arith, here, within, whole, bounded, enough)

pub visit_rests-requires-clause-on : goal.visit_rests-requires-clause-on
visit_rests-requires-clause-on c =
    let room = c.loop-room.room in
    all_on c.args.walk.now.old.tables.now.commands c.args.walk.now.new.tables.now.commands
    c.args.walk.now.old.patterns.now c.args.walk.now.new.patterns.now c.deref.result.now
    c.requires.old.patterns_on c.requires.new.patterns_on
    (c.deref.ensures.value ∙ c.in_ok-patterns.ensures) room c.deref-in-loop-room.result.now
    (subst (All (IsOn [] room)) (sym (c.deref-in-loop-room.ensures.value ∙ c.in_ok-some.ensures))
    (on_room room c.args.branches.now))

pub loop-room-preserved : goal.loop-room-preserved
loop-room-preserved c =
    let rests : List ℕ → Option ℕ = rest_place c.args.walk.now.old.tables.now.commands
    c.args.walk.now.new.tables.now.commands c.args.walk.now.places.now in
    let room = c.loop-room.room in
    let branches = c.args.branches.now in
    let on = c.deref-in-loop-room.ensures.value ∙ c.in_ok-some.ensures in
    record {
      grew = λ place h.
          let size = c.loop-room.auto.numbers in
          let a = c.loop-room.invariant.grew place h in
          let b = c.in_ok-visit_rests.ensures.grew place
          (let w : place < length c.loop-room.numbers = omega (arith, size, h) in w) in
          let e : all_branched rests c.deref-in-loop-room.result.now place
          ≡ sum_by (branched rests place) (filter (has_room room) branches) =
          ap (λ l. all_branched rests l place) on in
          let d = sum_to_more room
          (λ room. sum_by (branched rests place) (filter (has_room room) branches)) in
          omega (arith, a, b, d, e);
      bounded =
          let a = c.loop-room.invariant.bounded in
          let b = c.in_ok-visit_rests.ensures.bounded in
          let e : weight c.deref-in-loop-room.result.now
          ≡ sum_by weight_of (filter (has_room room) branches) = ap weight on in
          let d = sum_to_more room
          (λ room. sum_by weight_of (filter (has_room room) branches)) in
          omega (arith, a, b, d, e);
    }

pub returns-clause-grew : goal.returns-clause-grew
returns-clause-grew c = λ (place : ℕ) h.
    let rests : List ℕ → Option ℕ = rest_place c.args.walk.now.old.tables.now.commands
    c.args.walk.now.new.tables.now.commands c.args.walk.now.places.now in
    let branches = c.args.branches.now in
    let low = c.loop-room-test.false in
    let few = c.loop-room.auto.room-end in
    let all : c.loop-room.room ≡ 33 = omega (arith, low, few) in
    let a = c.loop-room.invariant.grew place h in
    let b : sum_to c.loop-room.room
    (λ room. sum_by (branched rests place) (filter (has_room room) branches))
    ≡ sum_to 33 (λ room. sum_by (branched rests place) (filter (has_room room) branches)) =
    ap (λ n. sum_to n
    (λ room. sum_by (branched rests place) (filter (has_room room) branches))) all in
    let d = by_room (branched rests place) branches in
    omega (arith, a, b, d)

pub returns-clause-bounded : goal.returns-clause-bounded
returns-clause-bounded c =
    let branches = c.args.branches.now in
    let low = c.loop-room-test.false in
    let few = c.loop-room.auto.room-end in
    let all : c.loop-room.room ≡ 33 = omega (arith, low, few) in
    let a = c.loop-room.invariant.bounded in
    let b : sum_to c.loop-room.room (λ room. sum_by weight_of (filter (has_room room) branches))
    ≡ sum_to 33 (λ room. sum_by weight_of (filter (has_room room) branches)) =
    ap (λ n. sum_to n (λ room. sum_by weight_of (filter (has_room room) branches))) all in
    let d = by_room weight_of branches in
    omega (arith, a, b, d)
