use Rattle.std.proofs.Common.{◌++◌, ◌∷◌, [], length, inl, inr, refl, sym, ap, subst, ◌∙◌, length-append, arith}
use Rattle.std.proofs.lemmas.Bool.{cases_lt}
use Rattle.std.proofs.lemmas.List.{length_push}
use Rattle.byte_log.specs.Pieces.{AreSpare, last_room, pieces_in}
use Rattle.byte_log.proofs.PieceLemmas.{last_pushed, pieces_counted, pieces_pushed, room_pushed, spare_last, spare_taken}
use Rattle.byte_log.proofs.piece_list.PieceList.put_in_next.Goals as goal

pub put-requires-clause-some : goal.put-requires-clause-some
put-requires-clause-some g c =
    let spare = subst (AreSpare c.self.inside.size) c.take_last-piece.ensures.items
    c.self.invariant.empty in
    let last = spare_last c.self.inside.size c.take_last-piece.new.self.items
    c.take_last-piece.result spare in
    omega (arith, last.1, c.self.invariant.some)

pub put-requires-clause-room : goal.put-requires-clause-room
put-requires-clause-room g c =
    let spare = subst (AreSpare c.self.inside.size) c.take_last-piece.ensures.items
    c.self.invariant.empty in
    let last = spare_last c.self.inside.size c.take_last-piece.new.self.items
    c.take_last-piece.result spare in
    let size = ap (λ l. l.size) c.self.view_is in
    let next = ap (λ l. l.next) c.self.view_is in
    let top = ap last_room c.take_last-piece.ensures.items
    ∙ room_pushed c.take_last-piece.new.self.items c.take_last-piece.result in
    elim (cases_lt c.args.self.now.size (length c.args.items.now)) [
      | inl long ↦ omega (arith, c.requires.long long)
      | inr short ↦ omega (arith, last.1)
    ]

pub invariant_of-self : goal.invariant_of-self
invariant_of-self g c =
    let spare = subst (AreSpare c.self.inside.size) c.take_last-piece.ensures.items
    c.self.invariant.empty in
    let last = spare_last c.self.inside.size c.take_last-piece.new.self.items
    c.take_last-piece.result spare in
    let fewer = ap length c.take_last-piece.ensures.items
    ∙ length_push c.take_last-piece.new.self.items c.take_last-piece.result in
    let long = ap length c.put.ensures.items in
    let sum = length-append c.take_last-piece.result.items c.args.items.now in
    let table = c.self.invariant.table in
    let few = c.self.invariant.few in
    let same = c.push_reserved.ensures.capacity in
    rw c.push_reserved.ensures.items (record {
      last = last_pushed c.self.inside.size c.self.inside.pieces.items c.put.new.self
          (omega (arith, c.put.ensures.room, last.1));
      empty = spare_taken c.self.inside.size c.take_last-piece.new.self.items
          c.take_last-piece.result spare;
      table = rw length_push (omega arith);
      few = rw length_push (omega arith);
      some = c.self.invariant.some;
      small = c.self.invariant.small;
    })

pub returns : goal.returns
returns g c =
    let spare = subst (AreSpare c.self.inside.size) c.take_last-piece.ensures.items
    c.self.invariant.empty in
    let last = spare_last c.self.inside.size c.take_last-piece.new.self.items
    c.take_last-piece.result spare in
    let fewer = ap length c.take_last-piece.ensures.items
    ∙ length_push c.take_last-piece.new.self.items c.take_last-piece.result in
    let counted = pieces_counted c.self.inside.pieces.items in
    rw (← c.self.view_is) (record {
      pieces =
          ap pieces_in c.push_reserved.ensures.items
          ∙ pieces_pushed c.self.inside.pieces.items c.put.new.self
          ∙ ap (λ xs. pieces_in c.self.inside.pieces.items ++ xs ∷ [])
          (c.put.ensures.items ∙ ap (λ xs. xs ++ c.args.items.now) last.0);
      spare = sym fewer;
      size = refl;
      piece = omega (arith, c.len-number.ensures, c.self.inside.pieces.ok.0);
      start = refl;
    })
