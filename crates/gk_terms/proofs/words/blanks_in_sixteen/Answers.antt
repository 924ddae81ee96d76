use Rattle.std.proofs.Common.{◌==◌, take, arith}
use Rattle.std.proofs.lemmas.List.{length-take-le}
use Rattle.gk_terms.proofs.LaneLemmas.{bits_of, either, equal_to}
use Rattle.gk_terms.proofs.words.blanks_in_sixteen.Goals as goal

pub returns : goal.returns
returns c =
    let bytes = take 16 c.args.line.now in
    let long = length-take-le 16 c.args.line.now c.requires in
    bits_of bytes 16 long _ (omega arith)
    (either bytes 16 long (λ b. b == 32) (λ b. b == 9) (equal_to bytes 16 long 32)
    (equal_to bytes 16 long 9))
