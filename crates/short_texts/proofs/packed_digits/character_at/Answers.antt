use Rattle.std.proofs.Common.{◌/◌, ◌∙◌, sym, arith}
use Rattle.short_texts.proofs.PackedLemmas.{low_found, high_found}
use Rattle.short_texts.proofs.packed_digits.character_at.Goals as goal

pub returns-then-place-eq0 : goal.returns-then-place-eq0
returns-then-place-eq0 c =
    low_found c.args.bytes.now (c.args.place / 2) c.args.place
    (omega (arith, c.if-place-eq0.true))
    (omega (arith, c.requires.within)) c.requires.after
    ∙ sym c.character_in.ensures

pub returns-else-place-eq0 : goal.returns-else-place-eq0
returns-else-place-eq0 c =
    high_found c.args.bytes.now (c.args.place / 2) c.args.place
    (omega (arith, c.if-place-eq0.false))
    (omega (arith, c.requires.within)) c.requires.after
    ∙ sym c.character_in-else-place-eq0.ensures
