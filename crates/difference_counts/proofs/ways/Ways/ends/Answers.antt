use Rattle.std.proofs.Common.{◌∙◌, ◌<◌, ◌||◌, not, ap, arith, length}
use Rattle.std.proofs.lemmas.List.{length-set}
use Rattle.difference_counts.specs.Ahead.{has_next}
use Rattle.difference_counts.specs.Numbers.{character_at}
use Rattle.difference_counts.proofs.SumLemmas.{flag_set}
use Rattle.difference_counts.proofs.ways.Ways.ends.Goals as goal

pub loop-number-preserved : goal.loop-number-preserved
loop-number-preserved c =
    let old = c.args.self.now.old in
    let new = c.args.self.now.new in
    let size = c.loop-number.invariant.size in
    let low = c.loop-number-test.true in
    record {
      size = length-set c.loop-number.ends c.loop-number.number (not c.goes_on.result) ∙ size;
      each = flag_set c.loop-number.ends c.loop-number.number (not c.goes_on.result)
          (λ number. not (has_next old.technology old.prefixes.items old.patterns.items
          c.args.count (character_at number)
          || has_next new.technology new.prefixes.items new.patterns.items c.args.count
          (character_at number)))
          (let w : c.loop-number.number < length c.loop-number.ends = omega (arith, size, low) in w)
          c.loop-number.invariant.each (ap not c.goes_on.ensures);
    }

pub returns : goal.returns
returns c = record {
  each = λ number h. c.loop-number.invariant.each number
      (let last = c.loop-number-test.false in
      let w : number < c.loop-number.number = omega (arith, h, last) in w);
}
