use Rattle.std.proofs.Common.{◌-◌, ◌≤◌, length, drop, subst, arith}
use Rattle.std.proofs.lemmas.List.{length-take}
use Rattle.gk_lines.specs.LineReader.{LineReaderParts, PIECE_BYTES}
use Rattle.gk_protocol.proofs.sessions.let_go.Goals as goal

-- what the type says of its fields: they are seen as this value, and hold its invariant
pub returns : goal.returns
returns c =
    let fields = c.well_formed.0.1.0 in
    subst (λ (lines : LineReaderParts). length lines.pending ≤ PIECE_BYTES) fields.1.0
    (omega (
      arith,
      fields.1.1.1,
      length-take (fields.0.end - fields.0.start)
          (drop fields.0.start fields.0.piece),
    ))
