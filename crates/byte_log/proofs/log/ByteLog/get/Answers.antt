use Rattle.std.proofs.Common.{Some, refl, sym, ap, ◌∙◌}
use Rattle.std.specs.Prelude.{slice_get, option_copied}
use Rattle.byte_log.specs.Items.{item_from, piece_at}
use Rattle.byte_log.proofs.ItemLemmas.{is_in, item_absent, item_read}
use Rattle.byte_log.proofs.log.ByteLog.get.Goals as goal

pub returns-in_err-first : goal.returns-in_err-first
returns-in_err-first c =
    let none = item_absent c.self.inside.pieces.pieces c.self.inside.places.items c.args.place
    (sym c.in_err-first.ensures.place) in
    rw (← c.self.view_is, c.from_residual.ensures, none) refl

pub piece-piece-requires : goal.piece-piece-requires
piece-piece-requires c =
    (is_in c.self.inside.pieces.pieces c.self.inside.places.items c.args.place
    c.in_ok-first.first.now c.self.invariant.are_in (sym c.in_ok-first.ensures.place)).there

pub item_in-requires-clause-order : goal.item_in-requires-clause-order
item_in-requires-clause-order c =
    let is = is_in c.self.inside.pieces.pieces c.self.inside.places.items c.args.place
    c.in_ok-first.first.now c.self.invariant.are_in (sym c.in_ok-first.ensures.place) in
    rw (c.piece-piece.ensures, c.get-next.ensures.place) is.begins

pub item_in-requires-clause-within : goal.item_in-requires-clause-within
item_in-requires-clause-within c =
    let is = is_in c.self.inside.pieces.pieces c.self.inside.places.items c.args.place
    c.in_ok-first.first.now c.self.invariant.are_in (sym c.in_ok-first.ensures.place) in
    rw (c.piece-piece.ensures, c.get-next.ensures.place) is.ends

pub returns : goal.returns
returns c =
    let item = item_read c.self.inside.pieces.pieces c.self.inside.places.items c.args.place
    c.in_ok-first.first.now (sym c.in_ok-first.ensures.place) in
    ap Some (c.item_in.ensures
    ∙ ap (λ p. item_from p c.in_ok-first.first.now (option_copied c.get-next.result))
    c.piece-piece.ensures
    ∙ ap (λ o. item_from
    (piece_at c.self.inside.pieces.pieces c.in_ok-first.first.now.piece)
    c.in_ok-first.first.now o) c.get-next.ensures.place)
    ∙ sym item
    ∙ ap (λ l. slice_get l.items c.args.place) c.self.view_is
