use Rattle.std.proofs.Common.{◌≡◌, ◌∙◌, ap, subst, arith, ◌++◌, take, drop, length}
use Rattle.std.specs.Prelude.{sum}
use Rattle.std.specs.Map.{keys_of}
use Rattle.std.proofs.lemmas.List.{length-replicate}
use Rattle.compiler.proofs.LimitLemmas.{written_back}
use Rattle.difference_counts.specs.Walk.{GrewBy, first_below, place_of}
use Rattle.difference_counts.proofs.CountLemmas.{numbers_are, sum_zeros}
use Rattle.difference_counts.proofs.NumberLemmas.{all_fit}
use Rattle.difference_counts.proofs.counting.count_all.Goals as goal

pub count_whole-requires-clause-room : goal.count_whole-requires-clause-room
count_whole-requires-clause-room c =
    let none : sum c.deref_mut.result.now ≡ 0 =
    ap sum (c.deref_mut.ensures.value ∙ c.in_ok-numbers.ensures) ∙ sum_zeros c.len.result in
    let few = all_fit in
    omega (arith, none, few)

pub new-requires : goal.new-requires
new-requires c =
    let none : sum c.deref_mut.result.now ≡ 0 =
    ap sum (c.deref_mut.ensures.value ∙ c.in_ok-numbers.ensures) ∙ sum_zeros c.len.result in
    let few = all_fit in
    let bounded = c.in_ok-count_whole.ensures.bounded in
    let written : sum (take c.in_ok-numbers.numbers.len
    (c.count_whole.new.numbers
    ++ drop (length c.count_whole.new.numbers) c.in_ok-numbers.numbers.items))
    ≡ sum c.count_whole.new.numbers =
    ap sum (written_back c.count_whole.new.numbers c.in_ok-numbers.numbers.items
    c.in_ok-numbers.numbers.len (c.count_whole.auto.numbers ∙ c.deref_mut.ensures.len)) in
    omega (arith, none, few, bounded, written)

pub returns : goal.returns
returns c =
    let old = c.args.old.now.commands in
    let new = c.args.new.now.commands in
    let sets = c.args.sets.now in
    let numbers = c.count_whole.new.numbers in
    let count = c.len.result in
    let zeros = c.deref_mut.ensures.value ∙ c.in_ok-numbers.ensures in
    c.new.ensures
    ∙ written_back numbers c.in_ok-numbers.numbers.items c.in_ok-numbers.numbers.len
    (c.count_whole.auto.numbers ∙ c.deref_mut.ensures.len)
    ∙ numbers_are old new sets numbers count c.len.ensures.count
    (c.count_whole.auto.numbers ∙ ap length zeros ∙ length-replicate count 0) c.len.ensures.once
    (subst (λ start. GrewBy start numbers (first_below (place_of old new (keys_of sets)))) zeros
    (subst (λ places. GrewBy c.deref_mut.result.now numbers (first_below (place_of old new places)))
    c.in_ok-places.ensures c.in_ok-count_whole.ensures.grew))
