-- The plan by which an event is ruled, and the receipt of its entry.
use Rattle.std.proofs.Common.{◌≡◌, ◌+◌, ℕ, Some, sym, ap, ap₂, ◌∙◌}
use Rattle.std.proofs.lemmas.Option.{same_Some}
use Rattle.compiler.specs.declared.plans.Routed.{Routed}
use Rattle.compiler.specs.Plan.{plan_of}
use Rattle.rulings.specs.State.{State}
use Rattle.rulings.specs.Events.{PlainEvent, Registering, Unregistering, Admitting, Answering, Changing, Releasing, Reloading, kind_of, id_of, call_number_of}
use Rattle.rulings.specs.Lent.{IsPlanOf}
use Rattle.rulings.specs.Ruling.{verdict_of}
use Rattle.rulings.specs.declared.replies.Reply.{Reply}
use Rattle.decision_record.specs.History.{entry_of, receipt_of}
use Rattle.admission.specs.Answering.{IsRoutedFor, receipt_for}

-- digits that were routed under the version in force have the plan of its commands
pub planned_for : (s : State) (event : PlainEvent) (routed : Routed) → IsRoutedFor s event routed
    → routed.version ≡ s.version → IsPlanOf s.commands event routed.plan
planned_for s (Registering e) routed h same = tt
planned_for s (Unregistering id) routed h same = tt
planned_for s (Admitting id call digits units) routed h same =
    h.1 same ∙ ap (λ d. Some (plan_of s.commands d)) (sym (same_Some _ _ h.0))
planned_for s (Answering id call units) routed h same = tt
planned_for s (Changing id call units) routed h same = tt
planned_for s (Releasing id call) routed h same = tt
planned_for s (Reloading commands) routed h same = tt

-- the receipt of the entry of this number
pub receipt_is : (s : State) (event : PlainEvent) (reply : Reply) (number : ℕ) (records : ℕ)
    → reply ≡ verdict_of s event → number ≡ records + 1
    → receipt_for event reply number ≡ receipt_of (records + 1) (entry_of s event)
receipt_is s event reply number records verdict is = ap₂ (λ n r. record {
  number = n;
  kind = kind_of event;
  id = id_of event;
  call = call_number_of event;
  reply = r;
}) is verdict
