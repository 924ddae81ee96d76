use Rattle.std.proofs.Common.{◌-◌, length, ap, ◌∙◌, arith}
use Rattle.byte_log.specs.Pieces.{last_room}
use Rattle.byte_log.proofs.PieceLemmas.{pieces_kept}
use Rattle.byte_log.proofs.piece_list.PieceList.close_before_last.Goals as goal

pub returns : goal.returns
returns g c =
    let kept = pieces_kept c.self.inside.pieces.items (c.len-count.result - 2)
    c.index_mut-piece.result.now c.close.new.self
    (omega (arith, c.if-count-lt2.false, c.len-count.ensures, c.self.inside.pieces.ok.0))
    c.index_mut-piece.ensures.value c.close.ensures in
    ap
    (λ ps. record {
      pieces = ps;
      spare = length c.self.inside.spare.items;
      next = last_room c.self.inside.spare.items;
      size = c.self.inside.size;
    }) kept
    ∙ c.self.view_is
