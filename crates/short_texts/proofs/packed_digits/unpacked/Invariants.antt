use Rattle.std.proofs.Common.{◌≡◌, ◌-◌, ◌≤◌, ◌++◌, length, take, replicate}
use Rattle.short_texts.specs.PackedDigits.{unpacked}
use Rattle.short_texts.proofs.packed_digits.unpacked.Given as goal

abbrev pub invariant-loop-place : goal.invariant-loop-place
invariant-loop-place l =
    (l.place ≤ length (unpacked l.bytes))
    × (l.text ≡ take l.place (unpacked l.bytes) ++ replicate (32 - l.place) 0)
