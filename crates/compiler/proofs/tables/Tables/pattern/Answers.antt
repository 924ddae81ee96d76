use Rattle.std.proofs.Common.{◌≡◌, ap, sym, subst, ◌∙◌, Some}
use Rattle.std.specs.Prelude.{Option, option_map, slice_get}
use Rattle.digit_patterns.specs.PatternParts.{PatternParts}
use Rattle.gk_commands.specs.Configuration.{Configuration}
use Rattle.compiler.specs.Plan.{row_at}
use Rattle.compiler.specs.Rows.{ZoneRow}
use Rattle.compiler.specs.TablesIndex.{NumberedRow}
use Rattle.compiler.proofs.TableLemmas.{index_pattern}
use Rattle.compiler.proofs.tables.Tables.pattern.Goals as goal

pub returns : goal.returns
returns c =
    ap (option_map (λ (row : NumberedRow). row.0)) c.in_ok-pattern.ensures.entry
    ∙ ap (λ place. option_map (λ (row : NumberedRow). row.0)
    (slice_get c.self.inside.rows.entries place)) c.place.ensures
    ∙ subst (λ (configuration : Configuration).
    option_map (λ (row : NumberedRow). row.0) (slice_get c.self.inside.rows.entries c.args.row)
    ≡ option_map (λ (row : ZoneRow). row.0) (row_at configuration.commands c.args.row))
    c.self.view_is
    (index_pattern c.self.invariant c.args.row)
