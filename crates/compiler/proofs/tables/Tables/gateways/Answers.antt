use Rattle.std.proofs.Common.{◌≡◌, List, ℕ, sym, ap, subst, ◌∙◌, Some}
use Rattle.std.specs.Prelude.{IfSome, nat_eq}
use Rattle.std.specs.Map.{lookup}
use Rattle.std.specs.Option.{option_copied}
use Rattle.gk_commands.specs.Configuration.{Configuration}
use Rattle.compiler.specs.Plan.{row_meant}
use Rattle.compiler.specs.Priority.{entries_of, AreNamedFor}
use Rattle.compiler.proofs.TableLemmas.{kept_priorities}
use Rattle.compiler.proofs.tables.Tables.gateways.Goals as goal

pub returns : goal.returns
returns c =
    let row = c.in_ok-row.row in
    let priorities = c.self.inside.priorities.entries in
    let kept : entries_of (lookup (nat_eq row) priorities)
    ≡ entries_of (option_copied c.get.result) =
    ap (λ place. entries_of (lookup (nat_eq place) priorities)) (sym c.place.ensures)
    ∙ ap entries_of (sym c.get.ensures.value) in
    rw c.in_ok-row.was
    (subst (λ (named : List (List ℕ × ℕ)). IfSome
    (row_meant c.args.self.now.commands (Some row))
    (λ used. AreNamedFor c.args.self.now.commands used named)) kept
    (subst (λ (configuration : Configuration). IfSome
    (row_meant configuration.commands (Some row))
    (λ used. AreNamedFor configuration.commands used (entries_of (lookup (nat_eq row) priorities))))
    c.self.view_is (kept_priorities c.self.invariant row)))
