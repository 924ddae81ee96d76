use Rattle.std.proofs.Common.{◌≡◌, ◌∙◌, ap, sym, refl, arith, ℕ, List, ◌+◌, ◌*◌, ◌^◌, ◌<◌, get_or}
use Rattle.std.specs.Prelude.{Option, sum}
use Rattle.std.proofs.lemmas.Grind.{pow_more}
use Rattle.difference_counts.specs.Numbers.{one_if}
use Rattle.difference_counts.specs.Places.{is_just}
use Rattle.difference_counts.specs.Walk.{place_by}
use Rattle.difference_counts.proofs.WalkLemmas.{grew_none, grew_alike, room_alike, bounded_alike, power_within}
use Rattle.difference_counts.proofs.lengths.note_alike.Goals as goal

pub loop-more-init : goal.loop-more-init
loop-more-init c = record {
  power = refl;
  grew = grew_none (place_by c.args.walk.now.old.tables.now.commands
      c.args.walk.now.new.tables.now.commands c.args.walk.now.places.now c.args.after_prefix)
      c.args.front.now c.args.times c.args.numbers.now;
  bounded = omega arith;
}

pub overflow_mul-times : goal.overflow_mul-times
overflow_mul-times c =
    let room = room_alike c.args.times c.loop-more.more c.args.most (sum c.args.numbers.now)
    (sum c.loop-more.numbers) c.loop-more-test.true c.loop-more.invariant.bounded c.requires.room in
    let power : c.args.times * c.loop-more.count ≡ c.args.times * 12 ^ c.loop-more.more =
    ap (λ n. c.args.times * n) c.loop-more.invariant.power in
    omega (arith, room, power)

pub note-requires : goal.note-requires
note-requires c =
    let room = room_alike c.args.times c.loop-more.more c.args.most (sum c.args.numbers.now)
    (sum c.loop-more.numbers) c.loop-more-test.true c.loop-more.invariant.bounded c.requires.room in
    let power : c.args.times * c.loop-more.count ≡ c.args.times * 12 ^ c.loop-more.more =
    ap (λ n. c.args.times * n) c.loop-more.invariant.power in
    omega (arith, room, power)

pub overflow_mul-count : goal.overflow_mul-count
overflow_mul-count c =
    let size = c.requires.length in
    let low = c.loop-more-test.true in
    let within = power_within c.loop-more.more
    (let few : c.loop-more.more < 32 = omega (arith, size, low) in few) in
    let power = c.loop-more.invariant.power in
    omega (arith, within, power)

pub loop-more-preserved : goal.loop-more-preserved
loop-more-preserved c =
    let places : List ℕ → Option ℕ = place_by c.args.walk.now.old.tables.now.commands
    c.args.walk.now.new.tables.now.commands c.args.walk.now.places.now c.args.after_prefix in
    let front = c.args.front.now in
    let times = c.args.times in
    let more = c.loop-more.more in
    let before = c.args.numbers.now in
    let between = c.loop-more.numbers in
    let power = c.loop-more.invariant.power in
    record {
      power = ap (λ n. n * 12) power ∙ sym (pow_more 12 more);
      grew = grew_alike places front times more before between c.note.new.numbers
          c.loop-more.auto.numbers c.loop-more.invariant.grew
          (λ place h. c.note.ensures.grew place h
          ∙ (λ i. get_or between place 0 + times * power i
          * one_if (is_just place ((c.place_by.ensures
          ∙ ap places c.starred.ensures) i))));
      bounded = bounded_alike times more (sum before) (sum between) (sum c.note.new.numbers)
          c.loop-more.invariant.bounded
          (let last = c.note.ensures.bounded in
          let same : times * c.loop-more.count ≡ times * 12 ^ more = ap (λ n. times * n) power in
          omega (arith, last, same));
    }
