use Rattle.std.proofs.Common.{◌==◌, ◌&&◌, false, Some, refl, ap, subst, ◌∙◌}
use Rattle.std.specs.Prelude.{IsSome, bytes_eq, if◌then◌else◌}
use Rattle.registry.specs.Served.{found_in}
use Rattle.registry.proofs.ServedLemmas.{puts_at}
use Rattle.registry.proofs.served.is_last_taken.Goals as goal

pub returns-in-Some-clause-puts : goal.returns-in-Some-clause-puts
returns-in-Some-clause-puts c =
    let zone = c.args.zone.now in
    let number = c.args.number in
    let new = c.take_out.new.self in
    let wrote = (c.get_mut.follows.holds new).3 (subst IsSome c.in-Some.ensures.value refl) in
    puts_at c.args.zones.now.entries (c.get_mut.follows.lender new).entries c.args.prefix.now
    (Some new) wrote.0 zone number false
    (λ z n. c.take_out.ensures z n
    ∙ ap (λ o. if bytes_eq zone z && (number == n) then false else found_in o z n)
    c.in-Some.ensures.value)
