use Rattle.std.proofs.Common.{◌==◌, ◌&&◌, ◌||◌, leb, take, arith}
use Rattle.std.proofs.lemmas.List.{length-take-le}
use Rattle.gk_terms.proofs.LaneLemmas.{all_of, either, both, equal_to, at_least, at_most}
use Rattle.gk_terms.proofs.dialled_digits.DialledBytesByteKind.are_first_eight_of_kind.Goals as goal

pub returns : goal.returns
returns c =
    let bytes = take 8 c.args.text.now in
    let long = length-take-le 8 c.args.text.now c.requires in
    let digit = both bytes 8 long (λ b. leb 48 b) (λ b. leb b 57) (at_least bytes 8 long 48)
    (at_most bytes 8 long 57) in
    let digit_or_hash = either bytes 8 long (λ b. leb 48 b && leb b 57) (λ b. b == 35) digit
    (equal_to bytes 8 long 35) in
    all_of bytes 8 long _ (omega arith) (either bytes 8 long
    (λ b. (leb 48 b && leb b 57) || (b == 35)) (λ b. b == 42) digit_or_hash
    (equal_to bytes 8 long 42))
