use Rattle.std.proofs.Common.{◌≡◌, suc, ◌+◌, ◌*◌, length, get_or, slice_get, refl, ap, ◌∙◌, arith}
use Rattle.std.proofs.lemmas.Option.{slice_get_past, slice_get_read}
use Rattle.short_texts.proofs.PackedLemmas.{item_read, pair_of_two, pair_of_one}
use Rattle.short_texts.proofs.packed_digits.pair_at.Goals as goal

pub returns-in-Some : goal.returns-in-Some
returns-in-Some c =
    let text = c.args.text.now in
    let at = 2 * c.args.place in
    let first = get_or text at 0 in
    let second = c.in-Some.second.now in
    let found = c.in-Some.ensures.lookup in
    let next : suc at ≡ at + 1 = omega arith in
    rw (c.nibble-low.ensures.value, c.nibble.ensures.value)
    (pair_of_two text c.args.place at first second refl
    (item_read text at c.requires.within)
    (ap (slice_get text) next
    ∙ slice_get_read text (length text) (at + 1) second refl found.3.0 found.1))

pub returns-in-None : goal.returns-in-None
returns-in-None c =
    let text = c.args.text.now in
    let at = 2 * c.args.place in
    let first = get_or text at 0 in
    let found = c.in-None.ensures.lookup in
    let next : suc at ≡ at + 1 = omega arith in
    rw (c.nibble-low.ensures.value)
    (pair_of_one text c.args.place at first refl
    (item_read text at c.requires.within)
    (ap (slice_get text) next ∙ slice_get_past text (at + 1) found.3))
