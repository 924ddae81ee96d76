use Rattle.std.proofs.Common.{◌≡◌, ◌∙◌, ◌*◌, ℕ, ap, sym, arith}
use Rattle.compiler.specs.Technology.{found_length}
use Rattle.plan_difference.specs.Sets.{is_joint}
use Rattle.difference_counts.specs.Branches.{all_branched, weight}
use Rattle.difference_counts.specs.Walk.{all_shorter, over_ends, rest_place}
use Rattle.difference_counts.proofs.FrontLemmas.{all_dialled}
use Rattle.difference_counts.proofs.VisitLemmas.{put_off, put_off_weight, noted, times_over}
use Rattle.difference_counts.proofs.walk.leave.Goals as goal

pub returns-then-is_joint-clause-grew : goal.returns-then-is_joint-clause-grew
returns-then-is_joint-clause-grew c = λ (place : ℕ) h.
    let old = c.args.walk.now.old.tables.now.commands in
    let new = c.args.walk.now.new.tables.now.commands in
    let sets = c.args.walk.now.places.now in
    let taken = c.found_length-taken.ensures in
    let one = put_off c.args.branches.now.items c.new.result c.args.front.now
    (found_length c.args.ways.now.old.technology) c.args.ends.now c.new.ensures.front
    (c.new.ensures.taken ∙ taken) c.new.ensures.leaving c.args.most c.requires.some
    c.requires.length c.requires.within
    (all_dialled c.args.front.now c.as_bytes-text.ensures.dialled) old new sets
    (is_joint old new c.args.ways.now.old.technology c.args.ways.now.new.technology)
    (sym c.is_joint.ensures ∙ c.if-is_joint.true) place in
    let items = ap (λ l. all_branched (rest_place old new sets) l place) c.in_ok-push.ensures.items in
    omega (arith, one, items)

pub returns-then-is_joint-clause-bounded : goal.returns-then-is_joint-clause-bounded
returns-then-is_joint-clause-bounded c =
    let taken = c.found_length-taken.ensures in
    let one = put_off_weight c.args.branches.now.items c.new.result c.args.front.now
    (found_length c.args.ways.now.old.technology) c.args.ends.now c.new.ensures.front
    (c.new.ensures.taken ∙ taken) c.new.ensures.leaving c.args.most c.requires.some
    c.requires.length c.requires.within
    (all_dialled c.args.front.now c.as_bytes-text.ensures.dialled) in
    let items = ap weight c.in_ok-push.ensures.items in
    omega (arith, one, items)

pub note_alike-requires-clause-room : goal.note_alike-requires-clause-room
note_alike-requires-clause-room c =
    let room = c.requires.room in
    let times : c.how_many.result * all_shorter c.args.most
    ≡ over_ends c.args.ends.now (λ number. all_shorter c.args.most) =
    ap (λ n. n * all_shorter c.args.most) c.how_many.ensures
    ∙ times_over c.args.ends.now (all_shorter c.args.most) in
    omega (arith, room, times)

pub returns-clause-grew : goal.returns-clause-grew
returns-clause-grew c = λ (place : ℕ) h.
    let old = c.args.walk.now.old.tables.now.commands in
    let new = c.args.walk.now.new.tables.now.commands in
    let grew = c.note_alike.ensures.grew place h in
    let one = noted old new c.args.walk.now.places.now c.args.ends.now
    (found_length c.args.ways.now.old.technology) c.args.front.now c.args.most c.how_many.result
    c.how_many.ensures
    (is_joint old new c.args.ways.now.old.technology c.args.ways.now.new.technology)
    (sym c.is_joint.ensures ∙ c.if-is_joint.false) place in
    omega (arith, grew, one)

pub returns-clause-bounded : goal.returns-clause-bounded
returns-clause-bounded c =
    let bounded = c.note_alike.ensures.bounded in
    let times : c.how_many.result * all_shorter c.args.most
    ≡ over_ends c.args.ends.now (λ number. all_shorter c.args.most) =
    ap (λ n. n * all_shorter c.args.most) c.how_many.ensures
    ∙ times_over c.args.ends.now (all_shorter c.args.most) in
    omega (arith, bounded, times)
