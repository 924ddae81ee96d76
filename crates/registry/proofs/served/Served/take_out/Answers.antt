use Rattle.std.proofs.Common.{false, sym, ap, ◌∙◌}
use Rattle.std.specs.Prelude.{if◌then◌else◌}
use Rattle.registry.specs.Served.{serves_at, same_place}
use Rattle.registry.proofs.ServedLemmas.{no_empty_kept, no_empty_left, none_left, within_kept, within_less}
use Rattle.registry.proofs.served.Served.take_out.Goals as goal

pub invariant_of-self : goal.invariant_of-self
invariant_of-self c =
    let old = c.self.inside.zones.entries in
    let mid = c.is_last_taken.new.zones.entries in
    let new = c.remove.new.self.entries in
    let prefix = c.args.prefix.now in (
      no_empty_left old mid new prefix c.remove.ensures.updates.0 c.self.invariant.0
          c.is_last_taken.ensures.others,
      within_less old mid new prefix c.self.inside.longest c.remove.ensures.updates.0
          c.is_last_taken.ensures.others c.self.invariant.1,
    )

pub returns-then-is_last_taken : goal.returns-then-is_last_taken
returns-then-is_last_taken c other =
    none_left c.is_last_taken.new.zones.entries c.remove.new.self.entries c.args.prefix.now
    c.remove.ensures.updates.0 (sym c.is_last_taken.ensures.empty ∙ c.if-is_last_taken.true) other
    ∙ c.is_last_taken.ensures.puts other
    ∙ ap (λ places. if same_place (c.args.zone.now, c.args.prefix.now, c.args.number) other
    then false else serves_at places other) c.self.view_is

pub invariant_of-self-else-is_last_taken : goal.invariant_of-self-else-is_last_taken
invariant_of-self-else-is_last_taken c =
    let old = c.self.inside.zones.entries in
    let mid = c.is_last_taken.new.zones.entries in
    let prefix = c.args.prefix.now in (
      no_empty_kept old mid prefix c.is_last_taken.ensures.others c.self.invariant.0
          (sym c.is_last_taken.ensures.empty ∙ c.if-is_last_taken.false),
      within_kept old mid prefix c.self.inside.longest c.is_last_taken.ensures.others
          c.is_last_taken.ensures.there c.self.invariant.1,
    )
