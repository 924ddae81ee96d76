-- What a session over a seat may be answered: the generic answers, by the replies of a desk to a
-- seat, and by the snapshots that a seat takes.
use Rattle.std.specs.Prelude.{◌≡◌, ◌+◌, ◌⊎◌, ℕ, true, List, Some, Ok, Err}
use mathlib.Core.List.{IsPrefix}
use Rattle.gk_commands.specs.Configuration.{Configuration}
use Rattle.gk_commands.specs.Reading.{reading_in}
use Rattle.call_rows.specs.Rows.{SnapshotParts}
use Rattle.rulings.specs.State.{State}
use Rattle.rulings.specs.Events.{PlainEvent}
use Rattle.rulings.specs.declared.replies.Reply.{Reply}
use Rattle.decision_record.specs.declared.entries.Receipt.{Receipt}
use Rattle.live_desk.specs.Seats.{Asked, IsSnapshotFor, Looks, SeatParts}
use Rattle.gk_protocol.specs.declared.requests.Request.{Request}
use Rattle.gk_protocol.specs.declared.answers.Answer.{Answer}
use Rattle.gk_protocol.specs.declared.answers.Answer.TheVariants as answers
use Rattle.gk_protocol.specs.Answers.{answer_text_of}
use Rattle.gk_protocol.specs.Requests.{trial_without_memory}
use Rattle.gk_protocol.specs.Answering as answering
use Rattle.gk_protocol.specs.Demands.{Demand, AnEvent, AReload, ATrial, demand_of}

-- a seat goes on so: it stays lost if it was, and has seen no less
abbrev pub GoesOn : SeatParts → SeatParts → Type 0
GoesOn old new = (old.lost ≡ true → new.lost ≡ true) × IsPrefix old.seen new.seen

-- the desk replies so to an event of a seat that was recorded: the seat counts it, and has its
-- receipt as the last
abbrev pub Records : State → SeatParts → PlainEvent → Reply → Receipt → SeatParts → Type 0
Records opening old event reply receipt new =
    Asked opening old event (Ok (reply, receipt)) new
    × (new.share ≡ old.share + 1) × (new.last ≡ Some receipt)

-- or to one that was not: the seat has the count and the last receipt that it had
abbrev pub LeavesOut : State → SeatParts → PlainEvent → Reply → SeatParts → Type 0
LeavesOut opening old event reply new =
    Asked opening old event (Err reply) new
    × (new.share ≡ old.share) × (new.last ≡ old.last)

-- the desk replies so to an event of a seat, whether or not it was recorded
abbrev pub MaySay : State → SeatParts → PlainEvent → Reply → SeatParts → Type 0
MaySay opening old event reply new =
    (((receipt : Receipt) × Records opening old event reply receipt new)
    ⊎ LeavesOut opening old event reply new)
    × GoesOn old new

-- a trial is of the rows and endpoints of some lawful history, in which the seat looked for its
-- last receipt
abbrev pub MayShow : State → SeatParts → SeatParts → SnapshotParts → Type 0
MayShow opening old looked shown = IsSnapshotFor opening old looked shown

-- the answer is the desk's reply to an event, and repeats the request's sequence number
abbrev pub Replies : State → SeatParts → ℕ → PlainEvent → Answer → SeatParts → Type 0
Replies opening old sequence event answer new =
    answering.Replies (MaySay opening) old sequence event answer new

-- the same of the answer as it is written
abbrev pub RepliesInto
    : State → SeatParts → ℕ → PlainEvent → List ℕ → SeatParts → Type 0
RepliesInto opening old sequence event text new =
    (reply : Reply) × (text ≡ answer_text_of (answers.Reply sequence reply))
    × MaySay opening old event reply new

-- what may be answered to a reload
abbrev pub MayReload : State → SeatParts → ℕ → List (List ℕ) → Answer → SeatParts → Type 0
MayReload opening old sequence lines answer new =
    answering.MayReload (MaySay opening) old sequence lines answer new

-- what may be answered to a trial under a configuration
abbrev pub TriesFor
    : State → SeatParts → SeatParts → ℕ → Configuration → Answer → Type 0
TriesFor opening old looked sequence configuration answer =
    ((shown : SnapshotParts) × MayShow opening old looked shown
    × answering.TriesOn sequence shown configuration answer)
    ⊎ (answer ≡ trial_without_memory sequence)

-- what may be answered to a trial
abbrev pub MayTry
    : State → SeatParts → SeatParts → ℕ → ℕ → List (List ℕ) → Answer → Type 0
MayTry opening old looked sequence workers lines answer =
    answering.MayTry (MayShow opening old) looked sequence workers lines answer

-- the lines of a trial are a configuration, and there may be so many workers
abbrev pub IsTrial : ℕ → List (List ℕ) → Type 0
IsTrial workers lines =
    (answering.are_workers workers ≡ true)
    × ((configuration : Configuration) × (reading_in lines ≡ Ok configuration))

-- the seat by which a request is answered: that which was asked; a trial of a configuration may
-- have looked for its last receipt first
abbrev pub LooksFor : State → Demand → SeatParts → SeatParts → Type 0
LooksFor opening (AnEvent event) old looked = looked ≡ old
LooksFor opening (AReload lines) old looked = looked ≡ old
LooksFor opening (ATrial workers lines) old looked =
    (looked ≡ old) ⊎ (IsTrial workers lines × Looks opening old looked)

-- a seat may answer a request so and be the new one after it; a trial leaves the seat by which it
-- was answered
abbrev pub MayAnswer : State → SeatParts → Request → Answer → SeatParts → Type 0
MayAnswer opening old request answer new =
    (looked : SeatParts) × LooksFor opening (demand_of request) old looked
    × answering.MayAnswer (MaySay opening) (MayShow opening old) looked request answer new
