use Rattle.std.proofs.Common.{◌≡◌, ◌+◌, ◌-◌, length, sym, ap, ◌∙◌, length-append, length-set, arith}
use Rattle.byte_log.specs.Pieces.{left_of, last_room}
use Rattle.byte_log.proofs.PieceLemmas.{last_has_room, last_read, last_set, left_read, pieces_counted, pieces_put, some_left}
use Rattle.byte_log.proofs.piece_list.PieceList.put.Goals as goal

pub put-requires-clause-some : goal.put-requires-clause-some
put-requires-clause-some g c =
    let some = some_left c.args.self.now.size c.args.self.now.pieces c.requires.some in
    let pieces = ap (λ l. length l.pieces) c.self.view_is in
    let counted = pieces_counted c.self.inside.pieces.items in
    let count = c.len-last.ensures in
    let left = ap (λ l. left_of l.size l.pieces) c.self.view_is in
    let last : c.len-last.result - 1 + 1 ≡ length c.self.inside.pieces.items =
    omega (arith, c.self.inside.pieces.ok.0) in
    let read = left_read c.self.inside.size c.self.inside.pieces.items (c.len-last.result - 1)
    c.index_mut-piece.result.now last c.index_mut-piece.ensures.value in
    let has = last_has_room c.self.inside.size c.self.inside.pieces.items
    (c.len-last.result - 1) c.index_mut-piece.result.now last c.index_mut-piece.ensures.value
    c.self.invariant.last in
    omega (arith, c.requires.some)

pub put-requires-clause-room : goal.put-requires-clause-room
put-requires-clause-room g c =
    let some = some_left c.args.self.now.size c.args.self.now.pieces c.requires.some in
    let pieces = ap (λ l. length l.pieces) c.self.view_is in
    let counted = pieces_counted c.self.inside.pieces.items in
    let count = c.len-last.ensures in
    let left = ap (λ l. left_of l.size l.pieces) c.self.view_is in
    let last : c.len-last.result - 1 + 1 ≡ length c.self.inside.pieces.items =
    omega (arith, c.self.inside.pieces.ok.0) in
    let read = left_read c.self.inside.size c.self.inside.pieces.items (c.len-last.result - 1)
    c.index_mut-piece.result.now last c.index_mut-piece.ensures.value in
    let has = last_has_room c.self.inside.size c.self.inside.pieces.items
    (c.len-last.result - 1) c.index_mut-piece.result.now last c.index_mut-piece.ensures.value
    c.self.invariant.last in
    omega (arith, c.requires.fits)

pub invariant_of-self : goal.invariant_of-self
invariant_of-self g c =
    let some = some_left c.args.self.now.size c.args.self.now.pieces c.requires.some in
    let pieces = ap (λ l. length l.pieces) c.self.view_is in
    let counted = pieces_counted c.self.inside.pieces.items in
    let count = c.len-last.ensures in
    let last : c.len-last.result - 1 + 1 ≡ length c.self.inside.pieces.items =
    omega (arith, c.self.inside.pieces.ok.0) in
    let has = last_has_room c.self.inside.size c.self.inside.pieces.items
    (c.len-last.result - 1) c.index_mut-piece.result.now last c.index_mut-piece.ensures.value
    c.self.invariant.last in
    let long = ap length c.put.ensures.items in
    let sum = length-append c.index_mut-piece.result.now.items c.args.items.now in
    let same = length-set c.self.inside.pieces.items (c.len-last.result - 1) c.put.new.self in
    record {
      last = last_set c.self.inside.size c.self.inside.pieces.items (c.len-last.result - 1)
          c.put.new.self last (omega (arith, c.put.ensures.room));
      empty = c.self.invariant.empty;
      table = omega (arith, c.self.invariant.table);
      few = omega (arith, c.self.invariant.few);
      some = c.self.invariant.some;
      small = c.self.invariant.small;
    }

pub returns : goal.returns
returns g c =
    let some = some_left c.args.self.now.size c.args.self.now.pieces c.requires.some in
    let pieces = ap (λ l. length l.pieces) c.self.view_is in
    let counted = pieces_counted c.self.inside.pieces.items in
    let count = c.len-last.ensures in
    let last : c.len-last.result - 1 + 1 ≡ length c.self.inside.pieces.items =
    omega (arith, c.self.inside.pieces.ok.0) in
    let put = pieces_put c.self.inside.pieces.items (c.len-last.result - 1)
    c.index_mut-piece.result.now c.put.new.self c.args.items.now last
    c.index_mut-piece.ensures.value c.put.ensures.items in
    let start = last_read c.self.inside.pieces.items (c.len-last.result - 1)
    c.index_mut-piece.result.now last c.index_mut-piece.ensures.value in
    rw (← c.self.view_is) (record {
      is = ap
          (λ ps. record {
            pieces = ps;
            spare = length c.self.inside.spare.items;
            next = last_room c.self.inside.spare.items;
            size = c.self.inside.size;
          }) put;
      piece = last ∙ sym counted;
      start = ap length c.items-start.ensures ∙ sym start;
    })
