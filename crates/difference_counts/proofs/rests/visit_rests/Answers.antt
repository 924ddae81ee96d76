use Rattle.std.proofs.Common.{◌≡◌, ◌≢◌, ◌∙◌, ap, sym, subst, refl, arith, ℕ, List, ◌+◌, ◌-◌, ◌*◌, ◌<◌, ◌≤◌, [], length, get_or, suc}
use Rattle.std.specs.Prelude.{Option, count_by}
use Rattle.std.specs.List.{All}
use Rattle.difference_counts.specs.Branches.{IsOn, all_branched, branched, leaves_at, weight}
use Rattle.difference_counts.specs.Numbers.{character_at, sum_to}
use Rattle.difference_counts.specs.Walk.{all_shorter, below, rest_place}
use Rattle.difference_counts.proofs.BranchLemmas.{no_branch}
use Rattle.difference_counts.proofs.RestLemmas.{next_on, parts_of, rooms_of, part_at, room_at, onward, none_branched}
use Rattle.difference_counts.proofs.SumLemmas.{sum_to_none, sum_to_more, sum_to_within}
use Rattle.difference_counts.proofs.rests.visit_rests.Goals as goal

pub returns-then-is_empty-clause-grew : goal.returns-then-is_empty-clause-grew
returns-then-is_empty-clause-grew c = λ (place : ℕ) h.
    let none = no_branch (branched (rest_place c.args.walk.now.old.tables.now.commands
    c.args.walk.now.new.tables.now.commands c.args.walk.now.places.now) place)
    c.args.branches.now (sym c.is_empty.ensures ∙ c.if-is_empty.true) in
    omega (arith, none)

pub returns-then-room-eq0-clause-grew : goal.returns-then-room-eq0-clause-grew
returns-then-room-eq0-clause-grew c = λ (place : ℕ) h.
    let none = none_branched (rest_place c.args.walk.now.old.tables.now.commands
    c.args.walk.now.new.tables.now.commands c.args.walk.now.places.now) [] c.args.branches.now
    (subst (λ n. All (IsOn [] n) c.args.branches.now) c.if-room-eq0.true
    c.requires.on.branches_on) place in
    omega (arith, none)

pub loop-number-init : goal.loop-number-init
loop-number-init c = record {
  grew = λ place h.
      let none = sum_to_none (part_at (rest_place c.args.walk.now.old.tables.now.commands
      c.args.walk.now.new.tables.now.commands c.args.walk.now.places.now) []
      (c.args.room - 1) 0 c.args.branches.now place) in
      omega (arith, none);
  bounded =
      let none = sum_to_none (room_at [] (c.args.room - 1) 0 c.args.branches.now) in
      omega (arith, none);
}

pub visit_rest-requires-clause-room : goal.visit_rest-requires-clause-room
visit_rest-requires-clause-room c =
    let room = c.args.room in
    let branches = c.args.branches.now in
    let number = c.loop-number.number in
    let some : room ≢ 0 = c.if-room-eq0.false in
    let next : room ≡ suc (room - 1) = omega (arith, some) in
    let on : weight c.deref-in-loop-number.result.now ≡ weight (onward [] branches number) =
    ap weight (c.deref-in-loop-number.ensures.value ∙ c.in_ok-on.ensures) in
    let here : c.leaving_at-times.result * all_shorter (room - 1 + 1)
    ≡ (0 + count_by (leaves_at 0 number) branches) * all_shorter (room - 1 + 1) =
    ap (λ n. n * all_shorter (room - 1 + 1)) (c.leaving_at-times.ensures
    ∙ (let w : count_by (leaves_at 0 number) branches
    ≡ 0 + count_by (leaves_at 0 number) branches = omega arith in w)) in
    let bounded = c.loop-number.invariant.bounded in
    let within : sum_to number (room_at [] (room - 1) 0 branches)
    + ((0 + count_by (leaves_at 0 number) branches) * all_shorter (room - 1 + 1)
    + weight (onward [] branches number))
    ≤ sum_to 12 (room_at [] (room - 1) 0 branches) =
    sum_to_within 12 number (room_at [] (room - 1) 0 branches) c.loop-number-test.true in
    let whole = rooms_of [] refl (room - 1) 0 branches
    (subst (λ n. All (IsOn [] n) branches) next c.requires.on.branches_on) in
    let enough = c.requires.room in
    omega (arith, on, here, bounded, within, whole, enough)

pub visit_rest-requires-clause-on : goal.visit_rest-requires-clause-on
visit_rest-requires-clause-on c =
    let room = c.args.room in
    let some : room ≢ 0 = c.if-room-eq0.false in
    let next : room ≡ suc (room - 1) = omega (arith, some) in
    next_on c.args.walk.now.old.tables.now.commands c.args.walk.now.new.tables.now.commands
    c.args.walk.now.places.now [] room (room - 1) next c.args.patterns.now c.args.branches.now
    c.requires.on c.requires.old c.requires.new (character_at c.loop-number.number)
    c.with_character-first.result c.with_character-first.ensures c.deref.result.now
    (c.deref.ensures.value ∙ c.in_ok-ahead.ensures) c.deref-in-loop-number.result.now
    (c.deref-in-loop-number.ensures.value ∙ c.in_ok-on.ensures)

pub loop-number-preserved : goal.loop-number-preserved
loop-number-preserved c =
    let rests : List ℕ → Option ℕ = rest_place c.args.walk.now.old.tables.now.commands
    c.args.walk.now.new.tables.now.commands c.args.walk.now.places.now in
    let room = c.args.room in
    let branches = c.args.branches.now in
    let number = c.loop-number.number in
    let now = c.loop-number.numbers in
    let on = c.deref-in-loop-number.ensures.value ∙ c.in_ok-on.ensures in
    let on_weight : weight c.deref-in-loop-number.result.now ≡ weight (onward [] branches number) =
    ap weight on in
    let here : c.leaving_at-times.result ≡ 0 + count_by (leaves_at 0 number) branches =
    c.leaving_at-times.ensures
    ∙ (let w : count_by (leaves_at 0 number) branches
    ≡ 0 + count_by (leaves_at 0 number) branches = omega arith in w) in
    let product : c.leaving_at-times.result * all_shorter (room - 1 + 1)
    ≡ (0 + count_by (leaves_at 0 number) branches) * all_shorter (room - 1 + 1) =
    ap (λ n. n * all_shorter (room - 1 + 1)) here in
    record {
      grew = λ place h.
          let size = c.loop-number.auto.numbers in
          let a = c.loop-number.invariant.grew place h in
          let b : get_or c.visit_rest.new.numbers place 0
          ≡ get_or now place 0 + part_at rests [] (room - 1) 0 branches place number =
          c.in_ok-visit_rest.ensures.grew place
          (let w : place < length now = omega (arith, size, h) in w)
          ∙ (λ i. get_or now place 0
          + (here i * below rests (c.with_character-first.ensures i) (room - 1) place
          + all_branched rests (on i) place)) in
          let d = sum_to_more number (part_at rests [] (room - 1) 0 branches place) in
          omega (arith, a, b, d);
      bounded =
          let a = c.loop-number.invariant.bounded in
          let b = c.in_ok-visit_rest.ensures.bounded in
          let d : sum_to (number + 1) (room_at [] (room - 1) 0 branches)
          ≡ sum_to number (room_at [] (room - 1) 0 branches)
          + ((0 + count_by (leaves_at 0 number) branches) * all_shorter (room - 1 + 1)
          + weight (onward [] branches number)) =
          sum_to_more number (room_at [] (room - 1) 0 branches) in
          omega (arith, a, b, d, on_weight, product);
    }

pub returns-clause-grew : goal.returns-clause-grew
returns-clause-grew c = λ (place : ℕ) h.
    let rests : List ℕ → Option ℕ = rest_place c.args.walk.now.old.tables.now.commands
    c.args.walk.now.new.tables.now.commands c.args.walk.now.places.now in
    let room = c.args.room in
    let branches = c.args.branches.now in
    let some : room ≢ 0 = c.if-room-eq0.false in
    let next : room ≡ suc (room - 1) = omega (arith, some) in
    let low = c.loop-number-test.false in
    let few = c.loop-number.auto.number-end in
    let all : c.loop-number.number ≡ 12 = omega (arith, low, few) in
    let a = c.loop-number.invariant.grew place h in
    let b : sum_to c.loop-number.number (part_at rests [] (room - 1) 0 branches place)
    ≡ sum_to 12 (part_at rests [] (room - 1) 0 branches place) =
    ap (λ n. sum_to n (part_at rests [] (room - 1) 0 branches place)) all in
    let d = parts_of [] refl (room - 1) 0 branches
    (subst (λ n. All (IsOn [] n) branches) next c.requires.on.branches_on) rests place in
    omega (arith, a, b, d)

pub returns-clause-bounded : goal.returns-clause-bounded
returns-clause-bounded c =
    let room = c.args.room in
    let branches = c.args.branches.now in
    let some : room ≢ 0 = c.if-room-eq0.false in
    let next : room ≡ suc (room - 1) = omega (arith, some) in
    let low = c.loop-number-test.false in
    let few = c.loop-number.auto.number-end in
    let all : c.loop-number.number ≡ 12 = omega (arith, low, few) in
    let a = c.loop-number.invariant.bounded in
    let b : sum_to c.loop-number.number (room_at [] (room - 1) 0 branches)
    ≡ sum_to 12 (room_at [] (room - 1) 0 branches) =
    ap (λ n. sum_to n (room_at [] (room - 1) 0 branches)) all in
    let d = rooms_of [] refl (room - 1) 0 branches
    (subst (λ n. All (IsOn [] n) branches) next c.requires.on.branches_on) in
    omega (arith, a, b, d)
