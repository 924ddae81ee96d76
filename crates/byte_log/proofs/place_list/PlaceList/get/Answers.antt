use Rattle.std.proofs.Common.{◌%◌, sym, ap, ◌∙◌, arith}
use Rattle.std.specs.Prelude.{slice_get}
use Rattle.byte_log.proofs.PlaceLemmas.{place_absent, place_read, place_there}
use Rattle.byte_log.proofs.place_list.PlaceList.get.Goals as goal

pub returns-then-len-piece-clause-place : goal.returns-then-len-piece-clause-place
returns-then-len-piece-clause-place c =
    sym
    (place_absent c.self.inside.pieces c.args.number c.self.invariant
    (omega (arith, c.if-len-piece.true, c.len.ensures.value)))
    ∙ ap (λ l. slice_get l.items c.args.number) c.self.view_is

pub returns-clause-place : goal.returns-clause-place
returns-clause-place c =
    place_read c.piece.result.now (c.args.number % 16384) c.get.result c.get.ensures.lookup
    ∙ ap (λ places. slice_get places (c.args.number % 16384)) c.piece.ensures
    ∙ sym
    (place_there c.self.inside.pieces.pieces c.args.number c.self.invariant.full
    (omega (arith, c.if-len-piece.false, c.len.ensures.value)))
    ∙ ap (λ l. slice_get l.items c.args.number) c.self.view_is
