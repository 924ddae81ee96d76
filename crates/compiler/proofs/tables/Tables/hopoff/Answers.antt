use Rattle.std.proofs.Common.{◌≡◌, ℕ, ap, subst, ◌∙◌}
use Rattle.std.specs.Prelude.{Option, option_map, option_and_then}
use Rattle.gk_commands.specs.Configuration.{Configuration}
use Rattle.gk_commands.specs.Zones.{zones_of}
use Rattle.compiler.specs.Pick.{picked}
use Rattle.compiler.specs.Technology.{hopoffs_of}
use Rattle.compiler.specs.TablesIndex.{hopoff_at}
use Rattle.compiler.specs.Zones.{number_in}
use Rattle.compiler.proofs.TableLemmas.{index_hopoff_of}
use Rattle.compiler.proofs.tables.Tables.hopoff.Goals as goal

pub returns : goal.returns
returns c =
    c.flatten.ensures
    ∙ ap (option_and_then (λ (hopoff : Option ℕ). hopoff)) c.get.ensures
    ∙ subst (λ (configuration : Configuration).
    hopoff_at c.self.inside.technologies c.args.prefix.now
    ≡ option_map (number_in (zones_of configuration.commands))
    (picked configuration.commands (hopoffs_of configuration.commands c.args.prefix.now)))
    c.self.view_is
    (index_hopoff_of c.self.invariant c.args.prefix.now)
