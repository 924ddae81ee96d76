use Rattle.std.proofs.Common.{◌≡◌, ◌-◌, ◌++◌, length, take, replicate, ap, ◌∙◌, arith}
use Rattle.std.proofs.lemmas.List.{take_all}
use Rattle.short_texts.specs.PackedDigits as Spec
use Rattle.short_texts.proofs.PackedLemmas.{length_pairs}
use Rattle.short_texts.proofs.packed_digits.packed.Goals as goal

pub returns : goal.returns
returns c =
    let text = c.args.text.now in
    let pairs = Spec.pairs_of text in
    let place = c.loop-place.place in
    let all : place ≡ length pairs =
    omega (
      arith,
      length_pairs text,
      c.div_ceil-place-end.ensures,
      c.loop-place-test.false,
      c.loop-place.auto.place-end,
    ) in
    c.loop-place.invariant
    ∙ ap (λ p. take p pairs ++ replicate (16 - p) 0) all
    ∙ ap (λ front. front ++ replicate (16 - length pairs) 0)
    (take_all (length pairs) pairs (omega arith))
