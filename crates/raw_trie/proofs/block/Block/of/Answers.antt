use Rattle.std.proofs.Common.{rules, ◌≡◌, ◌+◌, ◌<◌, ◌≤◌, List, length, get_or, take, map-id, sym, ap, ◌∙◌, arith}
use Rattle.std.specs.Prelude.{Vec, vec_items}
use Rattle.std.specs.List.{flat_map}
use Rattle.std.proofs.lemmas.Iterator.Adapters.{YieldsList-from_vec}
use Rattle.std.proofs.lemmas.Iterator.Consumers.{YieldsList-so_far, YieldsList-turn}
use Rattle.std.proofs.lemmas.List.Folds.{length-flat_map-take}
use Rattle.raw_trie.proofs.block.Block.of.Goals as goal

-- the pieces so far and the next one have no more items than all of them
with_next : {T A : Type 0} (all front : List (Vec T A)) (piece : Vec T A)
    → front ≡ take (length front) all
    → (length front < length all) × (piece ≡ get_or all (length front) piece)
    → length (flat_map vec_items front) + length (vec_items piece)
    ≤ length (flat_map vec_items all)
with_next all front piece is next =
    let bound = length-flat_map-take vec_items all (length front) piece next.0 in
    let first = ap (λ ps. length (flat_map vec_items ps)) is in
    let one = ap (λ p. length (vec_items p)) next.1 in
    omega arith

pub copy-written-requires-clause-room : goal.copy-written-requires-clause-room
copy-written-requires-clause-room c =
    let pieces = c.into_pieces-piece-items.result.items in
    let front = c.loop-piece.yielded in
    let list =
    YieldsList-from_vec {s = c.into_iter-piece-iterator.result} pieces (search rules)
    (search rules) in
    let so_far =
    YieldsList-so_far list front c.loop-piece.piece-iterator c.loop-piece.yielded_by in
    let next =
    YieldsList-turn list front c.loop-piece.piece-iterator c.loop-piece.yielded_by c.next.result
    c.next.new.self c.in-Some-piece.piece c.in-Some-piece.is c.next.ensures.steps in
    let fits =
    with_next pieces front c.in-Some-piece.piece (sym (map-id front) ∙ so_far) next in
    omega (
      arith,
      c.in-Some.ensures,
      ap length c.into_pieces-piece-items.ensures,
      ap length c.loop-piece.invariant.written,
    )
