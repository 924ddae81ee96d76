use Rattle.std.proofs.Common.{◌-◌, ◌≤◌, length, take, drop, length-take, refl, sym, subst, arith}
use Rattle.gk_lines.specs.LineReader.{LineReaderParts}
use Rattle.gk_lines.proofs.PendingLemmas.{take-drop-taken}
use Rattle.gk_lines.proofs.line_reader.LineReader.consume.Goals as goal

pub returns : goal.returns
returns c =
    let i = c.self.inside in
    let within : c.args.count ≤ length (take (i.end - i.start) (drop i.start i.piece)) =
    subst (λ (p : LineReaderParts). c.args.count ≤ length p.pending) (sym c.self.view_is) c.requires
    in
    let fits : c.args.count ≤ i.end - i.start = omega (
      arith,
      within,
      length-take (i.end - i.start)
          (drop i.start i.piece),
    ) in
    rw (take-drop-taken i.piece i.start i.end c.args.count fits, ← c.self.view_is) refl
