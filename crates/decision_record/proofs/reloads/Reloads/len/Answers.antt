use Rattle.std.proofs.Common.{ℕ, subst}
use Rattle.std.specs.Prelude.{IfSome, slice_get}
use Rattle.decision_record.specs.Reloads.{IsReload, ReloadsParts}
use Rattle.decision_record.proofs.PastLemmas.{reloads_are}
use Rattle.decision_record.proofs.reloads.Reloads.len.Goals as goal

pub returns-in-Some-clause-reloads : goal.returns-in-Some-clause-reloads
returns-in-Some-clause-reloads c =
    let own = c.self.inside in
    subst (λ (r : ReloadsParts). (place : ℕ) → IfSome (slice_get r.entries place) IsReload)
    c.self.view_is (reloads_are own.known.items own.past.items own.last)

pub returns-in-None-clause-reloads : goal.returns-in-None-clause-reloads
returns-in-None-clause-reloads c =
    let own = c.self.inside in
    subst (λ (r : ReloadsParts). (place : ℕ) → IfSome (slice_get r.entries place) IsReload)
    c.self.view_is (reloads_are own.known.items own.past.items own.last)
