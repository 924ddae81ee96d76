-- A step of a core whose reply goes into a taker.
use Rattle.std.specs.Prelude.{◌≡◌, ℕ, Option, Some}
use Rattle.rulings.specs.declared.lacks.Lack.{Lack}
use Rattle.rulings.specs.declared.replies.Reply.{Reply}
use Rattle.rulings.specs.Events.{PlainEvent}
use Rattle.rulings.specs.Lacks.{reply_without}
use Rattle.decision_record.specs.History.{CoreParts, Steps}
use Rattle.admission.specs.Answering.{answered}

-- the taker has a reply; with it, and with the number of the event's entry if it has one, the core
-- answers the event
abbrev pub StepsInto
    : {S : Type 0} → (S → Reply → Type 0) → CoreParts → PlainEvent → S → Option ℕ → CoreParts
    → Type 0
StepsInto has old event taker number new =
    (reply : Reply) × has taker reply × Steps old event (answered event reply number) new

-- the taker has the reply to an event that lacks this
abbrev pub HasRefusal : {S : Type 0} → (S → Reply → Type 0) → PlainEvent → Lack → S → Type 0
HasRefusal has event lack taker =
    (refusal : Reply) × (reply_without event lack ≡ Some refusal) × has taker refusal
