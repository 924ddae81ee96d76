use Rattle.std.proofs.Common.{◌≡◌, ap, sym, subst, ◌∙◌, None}
use Rattle.gk_commands.specs.Configuration.{Configuration}
use Rattle.gk_commands.specs.Zones.{zones_of}
use Rattle.compiler.specs.Zones.{view_at, view_of_name, number_in}
use Rattle.compiler.proofs.TableLemmas.{no_view, number_found}
use Rattle.compiler.proofs.tables.Tables.zone_of.Goals as goal

pub returns-in_err-place : goal.returns-in_err-place
returns-in_err-place c =
    c.from_residual.ensures
    ∙ sym (subst (λ (configuration : Configuration). view_of_name configuration.commands
    c.args.name.now ≡ None)
    c.self.view_is
    (no_view c.self.inside.zones.entries c.self.inside.commands.commands c.args.name.now
    c.self.invariant.zones_are (sym c.get_index_of.ensures.index ∙ c.in_err-place.was)))

pub returns : goal.returns
returns c =
    c.zone.ensures
    ∙ ap (view_at c.args.self.now.commands)
    (c.new.ensures
    ∙ sym (subst (λ (configuration : Configuration). number_in
    (zones_of configuration.commands) c.args.name.now ≡ c.in_ok-place.place)
    c.self.view_is
    (number_found c.self.inside.zones.entries c.self.inside.commands.commands c.args.name.now
    c.in_ok-place.place
    c.self.invariant.zones_are (sym c.get_index_of.ensures.index ∙ c.in_ok-place.was))))
