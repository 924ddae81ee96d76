use Rattle.std.proofs.Common.{◌≡◌, ◌-◌, ◌++◌, take, replicate}
use Rattle.short_texts.specs.PackedDigits.{pairs_of}
use Rattle.short_texts.proofs.packed_digits.packed.Given as goal

abbrev pub invariant-loop-place : goal.invariant-loop-place
invariant-loop-place l = l.bytes ≡ take l.place (pairs_of l.text) ++ replicate (16 - l.place) 0
