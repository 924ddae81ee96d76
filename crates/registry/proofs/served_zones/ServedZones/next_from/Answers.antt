use Rattle.std.proofs.Common.{◌≡◌, ◌≤◌, ℕ, false, subst, ap, ◌∙◌}
use Rattle.std.specs.Prelude.{MatchOption}
use Rattle.registry.specs.Served.{IsLeastFrom, found_number, kept_for}
use Rattle.registry.proofs.served_zones.ServedZones.next_from.Goals as goal

pub returns-in-Some : goal.returns-in-Some
returns-in-Some c =
    subst (λ o. MatchOption c.next_from.result
    ((number : ℕ) → c.args.from ≤ number → found_number o number ≡ false)
    (IsLeastFrom (λ number. found_number o number) c.args.from))
    (c.in-Some.ensures.value ∙ ap (λ zones. kept_for zones c.args.zone.now) c.self.view_is)
    c.next_from.ensures
