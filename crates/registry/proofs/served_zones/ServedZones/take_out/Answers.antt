use Rattle.std.proofs.Common.{◌==◌, false, ◌&&◌, sym, ap, ◌∙◌}
use Rattle.std.specs.Prelude.{bytes_eq, if◌then◌else◌}
use Rattle.registry.specs.Served.{serves_in}
use Rattle.registry.proofs.ServedLemmas.{no_empty_left, none_left_in}
use Rattle.registry.proofs.served_zones.ServedZones.take_out.Goals as goal

pub invariant_of-self : goal.invariant_of-self
invariant_of-self c =
    no_empty_left c.self.inside.numbers.entries c.is_last_taken.new.numbers.entries
    c.remove.new.self.entries c.args.zone.now c.remove.ensures.updates.0 c.self.invariant
    c.is_last_taken.ensures.others

pub returns-then-is_last_taken : goal.returns-then-is_last_taken
returns-then-is_last_taken c z n =
    none_left_in c.is_last_taken.new.numbers.entries c.remove.new.self.entries c.args.zone.now
    c.remove.ensures.updates.0 (sym c.is_last_taken.ensures.empty ∙ c.if-is_last_taken.true) z n
    ∙ c.is_last_taken.ensures.puts z n
    ∙ ap (λ zones. if bytes_eq c.args.zone.now z && (c.args.number == n) then false
    else serves_in zones z n) c.self.view_is
