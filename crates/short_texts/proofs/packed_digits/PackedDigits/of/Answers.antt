use Rattle.short_texts.proofs.PackedLemmas.{are_packed, unpacked_packed}
use Rattle.short_texts.proofs.packed_digits.PackedDigits.of.Goals as goal

pub invariant_of-result : goal.invariant_of-result
invariant_of-result c =
    rw (c.packed.ensures, c.as_bytes.ensures.spells) (are_packed c.args.digits.now
    c.as_bytes.ensures.dialled)

pub returns : goal.returns
returns c =
    rw (c.packed.ensures, c.as_bytes.ensures.spells) (unpacked_packed c.args.digits.now
    c.as_bytes.ensures.dialled)
