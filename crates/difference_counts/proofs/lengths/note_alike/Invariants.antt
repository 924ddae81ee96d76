use Rattle.std.proofs.Common.{◌≡◌, ◌+◌, ◌*◌, ◌^◌, ◌≤◌}
use Rattle.std.specs.Prelude.{sum}
use Rattle.difference_counts.specs.Walk.{GrewBy, all_shorter, alike_below, place_by}
use Rattle.difference_counts.proofs.lengths.note_alike.Given as goal

abbrev pub invariant-loop-more : goal.invariant-loop-more
invariant-loop-more l = record {
  power : l.count ≡ 12 ^ l.more;
  grew : GrewBy l.initial.numbers l.numbers (λ place. l.times * alike_below
      (place_by l.walk.old.tables.now.commands l.walk.new.tables.now.commands l.walk.places.now
      l.after_prefix) l.front l.more place);
  bounded : sum l.numbers ≤ sum l.initial.numbers + l.times * all_shorter l.more;
}
