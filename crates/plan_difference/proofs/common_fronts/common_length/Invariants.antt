use Rattle.std.proofs.Common.{◌≡◌, take}
use Rattle.plan_difference.proofs.common_fronts.common_length.Given as goal

abbrev pub invariant-loop-place : goal.invariant-loop-place
invariant-loop-place l = take l.place l.text ≡ take l.place l.other
