use Rattle.std.proofs.Common.{sym, ap, subst, ◌∙◌, ◌++◌, ◌∷◌, []}
use Rattle.gk_terms.specs.Text.{lines_of}
use Rattle.gk_commands.specs.WholeLines.{EndsALine}
use Rattle.gk_commands.proofs.WholeLinesLemmas.{one_more_line, still_ends}
use Rattle.gk_commands.proofs.whole_lines.WholeLines.with_line.Goals as goal

pub invariant_of-self : goal.invariant_of-self
invariant_of-self c =
    subst EndsALine (sym c.in-Ok.ensures)
    (still_ends c.self.inside.bytes.items c.args.line.now c.self.invariant
    (c.reads_as_line.ensures c.if-not-reads_as_line.false))

pub returns-in-Ok : goal.returns-in-Ok
returns-in-Ok c =
    ap lines_of c.in-Ok.ensures ∙ one_more_line c.self.inside.bytes.items c.args.line.now
    c.self.invariant (c.reads_as_line.ensures c.if-not-reads_as_line.false)
    ∙ ap (λ lines. lines ++ c.args.line.now ∷ []) c.self.view_is
