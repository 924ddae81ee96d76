use Rattle.std.proofs.Common.{sym, subst, ◌∙◌, List}
use Rattle.gk_commands.specs.declared.commands.Command.{Command}
use Rattle.gk_commands.specs.Accepted.{IsAccepted}
use Rattle.gk_commands.proofs.AcceptedLemmas.{named_declared}
use Rattle.compiler.specs.TablesIndex.{IsIndex}
use Rattle.compiler.proofs.tables.Tables.compile.Goals as goal

pub parts_in-requires-clause-accepted : goal.parts_in-requires-clause-accepted
parts_in-requires-clause-accepted c =
    subst IsAccepted (sym c.as_slice-lines.ensures.commands) c.as_slice-lines.ensures.accepted

pub invariant_of-result : goal.invariant_of-result
invariant_of-result c =
    let lines = c.as_slice-lines.result.now in
    let accepted : IsAccepted lines =
    subst IsAccepted (sym c.as_slice-lines.ensures.commands) c.as_slice-lines.ensures.accepted in
    let made = c.in_ok-parts.ensures in
    subst (λ (commands : List Command). IsIndex commands c.in_ok-parts.parts.zones.entries
    c.in-Some.first_local
    c.in_ok-parts.parts.routes.rows.entries c.in_ok-parts.parts.routes.prefixes
    c.in_ok-parts.parts.routes.priorities.entries
    c.in_ok-parts.parts.technologies c.default_technology_in-default_technology.result
    c.rejects_unknown-rejects_unknown.result c.in_ok-parts.parts.limits.items
    c.remote_limit_in-remote_limit.result)
    c.as_slice-lines.ensures.commands
    (record {
      zones_are = made.zones;
      few_zones = made.few_zones;
      local_is = sym c.in-Some.is ∙ c.first_local_in.ensures;
      rows_are = made.routes.rows_are;
      distinct = made.routes.distinct;
      prefixes_are = made.routes.prefixes_are;
      priorities_are = made.routes.priorities_are;
      technologies_are = made.technologies;
      default_is = c.default_technology_in-default_technology.ensures;
      rejects_is = c.rejects_unknown-rejects_unknown.ensures;
      limits_are = made.limits;
      remote_limit_is = c.remote_limit_in-remote_limit.ensures;
      declared = named_declared lines accepted;
    })
