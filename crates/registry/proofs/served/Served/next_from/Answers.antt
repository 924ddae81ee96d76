use Rattle.std.proofs.Common.{◌≡◌, ◌≤◌, ℕ, false, subst, ap, ◌∙◌}
use Rattle.std.specs.Prelude.{MatchOption}
use Rattle.registry.specs.Served.{IsLeastFrom, found_in, kept_for}
use Rattle.registry.proofs.served.Served.next_from.Goals as goal

pub returns-in-Some : goal.returns-in-Some
returns-in-Some c =
    let zone = c.args.zone.now in
    subst (λ o. MatchOption c.next_from.result
    ((number : ℕ) → c.args.from ≤ number → found_in o zone number ≡ false)
    (IsLeastFrom (λ number. found_in o zone number) c.args.from))
    (c.in-Some.ensures.value ∙ ap (λ places. kept_for places c.args.prefix.now) c.self.view_is)
    c.next_from.ensures
