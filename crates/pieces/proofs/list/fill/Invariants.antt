use Rattle.std.proofs.Common.{◌≡◌, ◌++◌, replicate}
use Rattle.std.specs.Prelude.{vec_items, vec_capacity}
use Rattle.pieces.proofs.list.fill.Given as goal

abbrev pub invariant-loop-pushed : goal.invariant-loop-pushed
invariant-loop-pushed g l = record {
  added : vec_items l.items ≡ vec_items l.fn.items ++ replicate l._pushed l.item;
  room : vec_capacity l.items ≡ vec_capacity l.fn.items;
}
