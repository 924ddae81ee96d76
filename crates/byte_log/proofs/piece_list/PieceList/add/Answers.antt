use Rattle.std.proofs.Common.{refl, ap, arith}
use Rattle.std.proofs.lemmas.List.{length_push}
use Rattle.byte_log.proofs.PieceLemmas.{room_pushed, spare_pushed}
use Rattle.byte_log.proofs.piece_list.PieceList.add.Goals as goal

pub invariant_of-self-2 : goal.invariant_of-self-2
invariant_of-self-2 g c =
    let piece = c.in_ok-piece.ensures in
    let none = ap (λ p. p.items) piece in
    let room = ap (λ p. p.room) piece in
    let size = ap (λ l. l.size) c.self.view_is in
    let large = c.requires in
    let few = c.if-len-count-ge-MOST_PIECES.false in
    let enough = c.in_ok-reserve.ensures.ok in
    let long = c.reserve.ensures.len in
    let count = c.len-count.ensures in
    let count-2 = c.len.ensures in
    rw (c.push_reserved.ensures.items, c.reserve-2.ensures.items, c.reserve.ensures.items)
    (record {
      last = c.self.invariant.last;
      empty = spare_pushed c.self.inside.size c.self.inside.spare.items c.in_ok-piece.piece
          c.self.invariant.empty none (omega arith);
      table = rw length_push (omega (
        arith,
        c.self.inside.pieces.ok.0,
        c.self.inside.spare.ok.0,
      ));
      few = rw length_push (omega (
        arith,
        c.self.inside.pieces.ok.0,
        c.self.inside.spare.ok.0,
      ));
      some = c.self.invariant.some;
      small = c.self.invariant.small;
    })

pub returns-clause-ok : goal.returns-clause-ok
returns-clause-ok g c =
    let room = ap (λ p. p.room) c.in_ok-piece.ensures in
    let last = room_pushed c.self.inside.spare.items c.in_ok-piece.piece in
    rw (
      ← c.self.view_is,
      c.push_reserved.ensures.items,
      c.reserve-2.ensures.items,
      c.reserve.ensures.items,
    )
    (rw (last, room, length_push) refl)
