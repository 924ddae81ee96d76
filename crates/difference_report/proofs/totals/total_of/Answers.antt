use Rattle.std.proofs.Common.{rules, arith, ◌≡◌, ◌∙◌, ◌<◌, ◌≤◌, ap, sym, length}
use Rattle.std.specs.Prelude.{sum}
use Rattle.std.specs.List.{sum_by}
use Rattle.std.specs.Map.{keys_of}
use Rattle.std.proofs.lemmas.List.Sums.{sum-map}
use Rattle.difference_counts.specs.Counted.{number_in}
use Rattle.difference_report.specs.Totals.{number_if}
use Rattle.difference_report.proofs.TotalLemmas.{no_more, sum_more, sum_within, take_all, total_is}
use Rattle.difference_report.proofs.totals.total_of.Goals as goal

pub overflow_add-total : goal.overflow_add-total
overflow_add-total c =
    let old = c.args.old.now.commands in
    let new = c.args.new.now.commands in
    let within : c.loop-place.place < length c.args.sets.now = search rules in
    let low = sum_within (number_if old new c.args.changed.now) c.args.sets.now c.loop-place.place
    c.loop-place.total c.number_if-total.result within c.loop-place.invariant
    c.number_if-total.ensures in
    let most = no_more (number_in old new) c.args.changed.now c.args.sets.now in
    let all = c.total-all.ensures ∙ ap sum c.requires.counts
    ∙ sum-map (number_in old new) (keys_of c.args.sets.now) in
    let fits = c.total-all.type_inv in
    omega (arith, low, most, all, fits)

pub loop-place-preserved : goal.loop-place-preserved
loop-place-preserved c =
    let within : c.loop-place.place < length c.args.sets.now = search rules in
    sum_more (number_if c.args.old.now.commands c.args.new.now.commands c.args.changed.now)
    c.args.sets.now c.loop-place.place c.loop-place.total c.number_if-total.result within
    c.loop-place.invariant c.number_if-total.ensures

pub returns : goal.returns
returns c =
    let old = c.args.old.now.commands in
    let new = c.args.new.now.commands in
    let past = c.loop-place-test.false in
    let count = c.len-place-end.ensures.count in
    let whole : length c.args.sets.now ≤ c.loop-place.place = omega (arith, past, count) in
    let is : c.loop-place.total
    ≡ sum_by (number_if old new c.args.changed.now) c.args.sets.now =
    c.loop-place.invariant
    ∙ ap (sum_by (number_if old new c.args.changed.now))
    (take_all c.args.sets.now c.loop-place.place whole) in
    is ∙ total_is (number_in old new) old new c.args.sets.now c.args.changed.now c.requires.part
    c.len-place-end.ensures.once ∙ sym (sum-map (number_in old new) (keys_of c.args.changed.now))
