use Rattle.std.proofs.Common.{◌≡◌, ◌<◌, ◌≤◌, ◌+◌, ◌-◌, drop, length, ap, sym, ◌∙◌, refl, arith}
use Rattle.std.specs.Prelude.{Some, slice_get, vec_items}
use Rattle.std.specs.List.{flat_map}
use Rattle.std.proofs.lemmas.Option.{slice_get_read}
use Rattle.trial_run.proofs.ReportLemmas.{in_piece, past_piece}
use Rattle.trial_run.proofs.report.row_in.Goals as goal

pub returns-then-left-len : goal.returns-then-left-len
returns-then-left-len c =
    let piece = c.piece-item.result in
    let left = c.loop-piece.left in
    let low : left < length (vec_items piece) =
    omega (arith, c.if-left-len.true, c.len.ensures, piece.ok.0) in
    ap (λ r. Some r) c.row.ensures
    ∙ sym (c.loop-piece.invariant
    ∙ in_piece c.args.pieces.now c.loop-piece.piece-index piece c.piece-item.is
    c.loop-piece-test.true left low
    ∙ slice_get_read (vec_items piece) (length (vec_items piece)) left c.index.result.now refl low
    c.index.ensures)

pub loop-piece-preserved : goal.loop-piece-preserved
loop-piece-preserved c =
    let piece = c.piece-item.result in
    let left = c.loop-piece.left in
    let high : length (vec_items piece) ≤ left =
    omega (arith, c.if-left-len.false, c.len.ensures, piece.ok.0) in
    let taken : left - length (vec_items piece) ≡ left - c.len-left.result =
    omega (arith, c.len-left.ensures, piece.ok.0) in
    c.loop-piece.invariant
    ∙ past_piece c.args.pieces.now c.loop-piece.piece-index piece c.piece-item.is
    c.loop-piece-test.true left high
    ∙ ap (λ n. slice_get (flat_map vec_items (drop (c.loop-piece.piece-index + 1)
    c.args.pieces.now)) n)
    taken
