use Rattle.std.proofs.Common.{◌≡◌, ◌<◌, ℕ, List, ap, arith, length}
use Rattle.std.specs.Prelude.{Option}
use Rattle.difference_counts.specs.Branches.{all_branched, weight}
use Rattle.difference_counts.specs.Walk.{rest_place}
use Rattle.difference_counts.proofs.counting.count_whole.Goals as goal

pub visit_all-requires-clause-room : goal.visit_all-requires-clause-room
visit_all-requires-clause-room c =
    let none : weight c.new-branches.result.items ≡ 0 = ap weight c.new-branches.ensures.items in
    let room = c.requires.room in
    omega (arith, none, room)

pub count_branches-requires-clause-room : goal.count_branches-requires-clause-room
count_branches-requires-clause-room c =
    let none : weight c.new-branches.result.items ≡ 0 = ap weight c.new-branches.ensures.items in
    let same : weight c.deref.result.now ≡ weight c.visit_all.new.branches.items =
    ap weight c.deref.ensures.value in
    let bounded = c.in_ok-visit_all.ensures.bounded in
    let room = c.requires.room in
    omega (arith, none, same, bounded, room)

pub returns-clause-grew : goal.returns-clause-grew
returns-clause-grew c = λ (place : ℕ) h.
    let rests : List ℕ → Option ℕ = rest_place c.args.walk.now.old.tables.now.commands
    c.args.walk.now.new.tables.now.commands c.args.walk.now.places.now in
    let size = c.visit_all.auto.numbers in
    let none : all_branched rests c.new-branches.result.items place ≡ 0 =
    ap (λ l. all_branched rests l place) c.new-branches.ensures.items in
    let same : all_branched rests c.deref.result.now place
    ≡ all_branched rests c.visit_all.new.branches.items place =
    ap (λ l. all_branched rests l place) c.deref.ensures.value in
    let first = c.in_ok-visit_all.ensures.grew place h in
    let second = c.in_ok-count_branches.ensures.grew place
    (let w : place < length c.visit_all.new.numbers = omega (arith, size, h) in w) in
    omega (arith, none, same, first, second)

pub returns-clause-bounded : goal.returns-clause-bounded
returns-clause-bounded c =
    let none : weight c.new-branches.result.items ≡ 0 = ap weight c.new-branches.ensures.items in
    let same : weight c.deref.result.now ≡ weight c.visit_all.new.branches.items =
    ap weight c.deref.ensures.value in
    let first = c.in_ok-visit_all.ensures.bounded in
    let second = c.in_ok-count_branches.ensures.bounded in
    omega (arith, none, same, first, second)
