use Rattle.std.proofs.Common.{◌==◌, false, Some, refl, ap, subst, ◌∙◌}
use Rattle.std.specs.Prelude.{IsSome, if◌then◌else◌}
use Rattle.registry.specs.Served.{found_number}
use Rattle.registry.proofs.ServedLemmas.{puts_in}
use Rattle.registry.proofs.served_zones.is_last_taken.Goals as goal

pub returns-in-Some-clause-puts : goal.returns-in-Some-clause-puts
returns-in-Some-clause-puts c =
    let number = c.args.number in
    let new = c.take_out.new.self in
    let wrote = (c.get_mut.follows.holds new).3 (subst IsSome c.in-Some.ensures.value refl) in
    puts_in c.args.numbers.now.entries (c.get_mut.follows.lender new).entries c.args.zone.now
    (Some new) wrote.0 number false
    (λ n. c.take_out.ensures n ∙ ap (λ o. if number == n then false else found_number o n)
    c.in-Some.ensures.value)
