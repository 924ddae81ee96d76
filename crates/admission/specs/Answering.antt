-- What a core answers to an event that is lent.
use Rattle.std.specs.Prelude.{◌≡◌, ℕ, List, Option, Some, None, Result, Ok, Err}
use Rattle.compiler.specs.declared.plans.Routed.{Routed}
use Rattle.compiler.specs.Plan.{plan_of, target_of}
use Rattle.rulings.specs.State.{State}
use Rattle.rulings.specs.Events.{PlainEvent, Registering, Unregistering, Admitting, Answering, Changing, Releasing, Reloading, kind_of, id_of, call_number_of}
use Rattle.rulings.specs.declared.replies.Reply.{Reply}
use Rattle.rulings.specs.declared.replies.Reply.TheVariants.{Released}
use Rattle.decision_record.specs.declared.entries.Receipt.{Receipt}

-- the digits that an admission asks for
abbrev pub digits_asked : PlainEvent → Option (List ℕ)
digits_asked (Registering endpoint) = None
digits_asked (Unregistering id) = None
digits_asked (Admitting id call digits units) = Some digits
digits_asked (Answering id call units) = None
digits_asked (Changing id call units) = None
digits_asked (Releasing id call) = None
digits_asked (Reloading commands) = None

-- if the digits were routed under the version in force, the plan is what its commands say of them
abbrev pub IsPlanIfInForce : State → Routed → Type 0
IsPlanIfInForce s routed =
    routed.version ≡ s.version
    → target_of s.commands routed.plan ≡ Some (plan_of s.commands routed.dialled)

-- and they are those that an admission asks for
abbrev pub IsRoutedFor : State → PlainEvent → Routed → Type 0
IsRoutedFor s event routed =
    (digits_asked event ≡ Some routed.dialled) × IsPlanIfInForce s routed

-- the receipt of an event with this reply, if its entry has this number
abbrev pub receipt_for : PlainEvent → Reply → ℕ → Receipt
receipt_for event reply number = record {
  number = number;
  kind = kind_of event;
  id = id_of event;
  call = call_number_of event;
  reply = reply;
}

-- an answer by its reply and by the number of its entry, if it has one
abbrev pub answered : PlainEvent → Reply → Option ℕ → Result (Reply × Receipt) Reply
answered event reply (Some number) = Ok (reply, receipt_for event reply number)
answered event reply None = Err reply

-- the reply in an answer, whether or not the event was recorded
abbrev pub reply_in : Result (Reply × Receipt) Reply → Reply
reply_in (Ok answer) = answer.0
reply_in (Err reply) = reply

-- the reply that was kept; if there is none, any
abbrev pub reply_kept : Option Reply → Reply
reply_kept (Some reply) = reply
reply_kept None = Released 0
