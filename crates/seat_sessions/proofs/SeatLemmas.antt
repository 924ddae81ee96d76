-- What a seat is answered, as an answer to a request.
use Rattle.std.proofs.Common.{◌≡◌, ◌+◌, ℕ, List, true, Option, Some, None, Result, Ok, Err, refl, sym, subst, inl, inr, ap, ◌∙◌}
use Rattle.std.specs.Prelude.{IfOk, IfSome, IfNone, MatchResult}
use Rattle.gk_terms.specs.Text.{lines_of}
use Rattle.gk_commands.specs.Configuration.{Configuration}
use Rattle.gk_commands.specs.Reading.{reading_in}
use Rattle.call_rows.specs.Rows.{SnapshotParts}
use Rattle.rulings.specs.State.{State}
use Rattle.rulings.specs.Events.{PlainEvent}
use Rattle.rulings.specs.declared.replies.Reply.{Reply}
use Rattle.decision_record.specs.declared.entries.Receipt.{Receipt}
use Rattle.live_desk.specs.Seats.{Asked, IsSnapshotFor, Looks, SeatParts}
use Rattle.admission.specs.Answering.{answered, receipt_for, reply_in}
use Rattle.gk_protocol.specs.declared.requests.Request.{Request}
use Rattle.gk_protocol.specs.declared.requests.Request.TheVariants.{Reload, Try}
use Rattle.gk_protocol.specs.declared.answers.Answer.{Answer}
use Rattle.gk_protocol.specs.declared.answers.Answer.TheVariants as answers
use Rattle.gk_protocol.specs.Hearing.{AnswersInto}
use Rattle.gk_protocol.specs.Answers.{answer_text_of}
use Rattle.gk_protocol.specs.Answering.{are_workers, TriesOn}
use Rattle.gk_protocol.specs.Demands.{Demand, AnEvent, AReload, ATrial, asked_event, demand_of, sequence_of}
use Rattle.gk_protocol.proofs.AnswerLemmas.{may_answer}
use Rattle.gk_protocol.proofs.TrialLemmas.{tried_on, lacking_trial}
use Rattle.seat_sessions.specs.SeatAnswers.{GoesOn, LooksFor, MayAnswer, MayReload, MaySay, MayShow, MayTry, RepliesInto, TriesFor}

-- what a call of a seat says of its share and last receipt
abbrev pub Counts : SeatParts → Result (Reply × Receipt) Reply → SeatParts → Type 0
Counts old asked new = MatchResult asked
    (λ a. (new.share ≡ old.share + 1) × (new.last ≡ Some a.1))
    (λ _. (new.share ≡ old.share) × (new.last ≡ old.last))

-- the reply in what was answered is one that the desk may give
said : (opening : State) (old : SeatParts) (event : PlainEvent)
    (asked : Result (Reply × Receipt) Reply) (new : SeatParts) → Asked opening old event asked new
    → Counts old asked new → GoesOn old new → MaySay opening old event (reply_in asked) new
said opening old event (Ok answer) new h counts goes =
    (inl (answer.1, (h, counts.0, counts.1)), goes)
said opening old event (Err reply) new h counts goes = (inr (h, counts.0, counts.1), goes)

pub said_as : (opening : State) (old : SeatParts) (event : PlainEvent)
    (asked : Result (Reply × Receipt) Reply) (reply : Reply) (new : SeatParts)
    → reply ≡ reply_in asked → Asked opening old event asked new → Counts old asked new
    → GoesOn old new → MaySay opening old event reply new
said_as opening old event asked reply new is h counts goes =
    subst (λ r. MaySay opening old event r new) (sym is)
    (said opening old event asked new h counts goes)

-- the same of an answer by the number of its entry
said_lent : (opening : State) (old : SeatParts) (event : PlainEvent) (reply : Reply)
    (number : Option ℕ) (new : SeatParts)
    → Asked opening old event (answered event reply number) new
    → IfSome number (λ n. (new.share ≡ old.share + 1)
    × (new.last ≡ Some (receipt_for event reply n)))
    → IfNone number ((new.share ≡ old.share) × (new.last ≡ old.last))
    → GoesOn old new → MaySay opening old event reply new
said_lent opening old event reply (Some number) new h some none goes =
    (inl (receipt_for event reply number, (h, some.0, some.1)), goes)
said_lent opening old event reply None new h some none goes =
    (inr (h, none.0, none.1), goes)

-- the same of a seat inside, and of the reply that was kept
pub said_kept : (opening : State) (inside old : SeatParts) (event : PlainEvent)
    (kept reply : Reply) (number : Option ℕ) (new : SeatParts) → inside ≡ old → kept ≡ reply
    → Asked opening inside event (answered event kept number) new
    → IfSome number (λ n. (new.share ≡ inside.share + 1)
    × (new.last ≡ Some (receipt_for event kept n)))
    → IfNone number ((new.share ≡ inside.share) × (new.last ≡ inside.last))
    → GoesOn inside new → MaySay opening old event reply new
said_kept opening inside old event kept reply number new is same h some none goes =
    subst (λ (s : SeatParts). MaySay opening s event reply new) is
    (subst (λ r. MaySay opening inside event r new) same
    (said_lent opening inside event kept number new h some none goes))

-- whatever is asked, the seat may be the one that was asked
looks_not : (opening : State) (demand : Demand) (seat : SeatParts)
    → LooksFor opening demand seat seat
looks_not opening (AnEvent event) seat = refl
looks_not opening (AReload lines) seat = refl
looks_not opening (ATrial workers lines) seat = inl refl

-- a request is answered by the line of the desk's reply to its event
pub said_into : (opening : State) (old : SeatParts) (request : Request) (sequence : ℕ)
    (event : PlainEvent) (text : List ℕ) (new : SeatParts) → asked_event request ≡ Some event
    → sequence ≡ sequence_of request → RepliesInto opening old sequence event text new
    → AnswersInto (MayAnswer opening) old request text new
said_into opening old request sequence event text new asks same told = (
  answers.Reply (sequence_of request) told.0,
  (
    old,
    looks_not opening (demand_of request) old,
    may_answer (MaySay opening) (MayShow opening old) old new event told.0 told.2 request asks,
  ),
  told.1 ∙ ap (λ n. answer_text_of (answers.Reply n told.0)) same,
)

-- what is answered to a trial of some lawful history is an answer to the trial
pub tried_for : (opening : State) (old looked : SeatParts) (sequence workers : ℕ)
    (lines : List (List ℕ)) (configuration : Configuration) → are_workers workers ≡ true
    → reading_in lines ≡ Ok configuration → (answer : Answer)
    → TriesFor opening old looked sequence configuration answer
    → MayTry opening old looked sequence workers lines answer
tried_for opening old looked sequence workers lines configuration enough read answer
    (inl (shown, taken, tried)) =
    tried_on (MayShow opening old) looked sequence workers lines configuration enough read shown
    answer taken tried
tried_for opening old looked sequence workers lines configuration enough read answer
    (inr lacking) =
    subst (λ a. MayTry opening old looked sequence workers lines a) (sym lacking)
    (lacking_trial (MayShow opening old) looked sequence workers lines configuration enough read)

-- what was answered on a snapshot that a seat took
pub tries_on : {E : Type 0} (opening : State) (inside old looked : SeatParts) (sequence : ℕ)
    (configuration : Configuration) (taken : Result SnapshotParts E) (shown : SnapshotParts)
    (answer : Answer) → inside ≡ old → IfOk taken (IsSnapshotFor opening inside looked)
    → taken ≡ Ok shown → TriesOn sequence shown configuration answer
    → TriesFor opening old looked sequence configuration answer
tries_on opening inside old looked sequence configuration taken shown answer same found is tried =
    inl (
      shown,
      subst (λ (seat : SeatParts). IsSnapshotFor opening seat looked shown) same
          (subst (λ r. IfOk r (IsSnapshotFor opening inside looked)) is found),
      tried,
    )

-- a seat that looked for its last receipt, for a trial of a configuration
pub looked_for : (opening : State) (old new : SeatParts) (workers : ℕ) (lines : List (List ℕ))
    (configuration : Configuration) → are_workers workers ≡ true
    → reading_in lines ≡ Ok configuration → Looks opening old new
    → LooksFor opening (ATrial workers lines) old new
looked_for opening old new workers lines configuration enough read looks =
    inr ((enough, (configuration, read)), looks)

-- what may be answered to a reload is an answer to the request
pub reloads : (opening : State) (old : SeatParts) (request : Request) (sequence : ℕ)
    (lines : List ℕ) (answer : Answer) (new : SeatParts) → request ≡ Reload sequence lines
    → MayReload opening old sequence (lines_of lines) answer new
    → MayAnswer opening old request answer new
reloads opening old request sequence lines answer new is may =
    subst (λ r. MayAnswer opening old r answer new) (sym is) (old, refl, may)

-- and to a trial
pub tries : (opening : State) (old : SeatParts) (request : Request) (sequence workers : ℕ)
    (lines : List ℕ) (answer : Answer) (new : SeatParts) → request ≡ Try sequence workers lines
    → LooksFor opening (ATrial workers (lines_of lines)) old new
    → MayTry opening old new sequence workers (lines_of lines) answer
    → MayAnswer opening old request answer new
tries opening old request sequence workers lines answer new is looks may =
    subst (λ r. MayAnswer opening old r answer new) (sym is) (new, looks, (may, refl))
