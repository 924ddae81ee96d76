use Rattle.std.proofs.Common.{ap, ◌∙◌}
use Rattle.std.specs.Prelude.{Some}
use Rattle.admission.proofs.CoreLemmas.{commands_are, is_sound}
use Rattle.admission.proofs.cores.Core.tables.Goals as goal

pub returns-clause-tables : goal.returns-clause-tables
returns-clause-tables c = c.tables.ensures ∙ commands_are _ _ _ c.self.invariant.0 _ c.self.view_is

pub returns-clause-generations : goal.returns-clause-generations
returns-clause-generations c =
    ap Some (c.tables.ensures ∙ commands_are _ _ _ c.self.invariant.0 _ c.self.view_is)
    ∙ (is_sound _ _ _ c.self.invariant.0 _ c.self.view_is).commands_are
