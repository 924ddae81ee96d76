use Rattle.std.proofs.Common.{rules, arith, ◌≡◌, ◌∙◌, ◌<◌, length, true, false}
use Rattle.difference_report.specs.ReportText.{wider}
use Rattle.difference_report.proofs.BlockLemmas.{ends, goes_on, starts}
use Rattle.difference_report.proofs.Steps.{stepped}
use Rattle.std.specs.Prelude.{slice_get}
use Rattle.difference_report.proofs.blocks.width_from.Goals as goal

pub loop-place-init : goal.loop-place-init
loop-place-init c = record {
  low = omega arith;
  width = starts c.args.found.now.old c.args.found.now.new c.args.group.now c.args.sets.now
      c.args.first c.requires.first;
}

pub returns-then-not-is_of : goal.returns-then-not-is_of
returns-then-not-is_of c =
    let within : c.loop-place.place < length c.args.sets.now = search rules in
    let other : c.is_of.result ≡ false = search rules in
    c.loop-place.invariant.width
    ∙ ends c.args.found.now.old c.args.found.now.new c.args.group.now c.args.sets.now
    c.args.first c.loop-place.place c.is_of.result c.requires.grouped c.requires.first
    c.loop-place.invariant.low within c.is_of.ensures other

pub loop-place-preserved : goal.loop-place-preserved
loop-place-preserved c =
    let within : c.loop-place.place < length c.args.sets.now = search rules in
    let same : c.is_of.result ≡ true = search rules in
    let low = c.loop-place.invariant.low in
    record {
      low = omega (arith, low);
      width = stepped (wider c.args.found.now.old c.args.found.now.new c.args.group.now) 0
          c.args.sets.now c.loop-place.place c.loop-place.width c.in_ok-width.width within
          c.loop-place.invariant.width
          (goes_on c.args.found.now.old c.args.found.now.new c.args.group.now
          (slice_get c.args.sets.now c.loop-place.place) c.is_of.result c.loop-place.width
          c.in_ok-width.width c.is_of.ensures same c.in_ok-width.ensures);
    }
