-- What every record says of answers to calls: a call that an endpoint answers leads to that
-- endpoint, an answer to a call that is not open opens it, and one to a call that is open changes
-- nothing. Who is not registered is refused exactly for that, and so is who answers a call that was
-- not admitted to it.
use Rattle.std.specs.Prelude.{◌≡◌, ◌↔◌, ℕ, true, List, [], ◌∷◌, ◌++◌, Some, None}
use Rattle.gk_commands.specs.declared.commands.Command.{Command}
use Rattle.registry.specs.Endpoint.{EndpointParts}
use Rattle.registry.specs.Registration.{endpoint_of, is_registered}
use Rattle.bandwidth.specs.declared.open_call.OpenCall.{OpenCall}
use Rattle.bandwidth.specs.Calls.{call_of}
use Rattle.rulings.specs.declared.limits.Limits.{Limits}
use Rattle.rulings.specs.declared.routes.Destination.{Destination}
use Rattle.rulings.specs.declared.replies.AdmitRefusal.TheVariants.{CallerNotRegistered, CallOpen}
use Rattle.rulings.specs.declared.replies.Reply.TheVariants.{Admitted, AdmitRefused}
use Rattle.rulings.specs.State.{State, opening_of}
use Rattle.rulings.specs.Events.{PlainEvent, Answering}
use Rattle.rulings.specs.Routing.{destination_of}
use Rattle.rulings.specs.Ruling.{answered_call, verdict_of}
use Rattle.entry_bytes.specs.Entry.{PlainEntry}
use Rattle.decision_record.specs.History.{IsLegal, replay}
use Rattle.admission.specs.HistoryLaws.{StandsAfter}

-- the ways in which the endpoint of an ID may answer the call of this number, if it asks these
-- units, and the units that the call has then
pub data MayAnswer (s : State) (id : List ℕ) (call units : ℕ) : (granted : ℕ) → Type 0 where
  -- none is open: it comes from another gatekeeper, and has what was asked
  ToOpen : call_of s.calls call ≡ None → MayAnswer s id call units units
  -- the open one was admitted to this endpoint, and keeps what it has
  AsAdmitted : (held : OpenCall) → call_of s.calls call ≡ Some held → held.answerer ≡ Some id
      → MayAnswer s id call units held.units

-- the endpoint is registered, it is where the call leads, and it may answer it so
pub record IsAnswered
    (s : State) (id : List ℕ) (call units granted : ℕ) (destination : Destination) : Type 0 where
  pub endpoint : EndpointParts
  pub registered : endpoint_of s.endpoints id ≡ Some endpoint
  pub leads : destination ≡ destination_of endpoint.kind endpoint
  pub answers : MayAnswer s id call units granted

-- in any state: a granted answer leads to the endpoint that answers
abbrev pub AnswersLeadToTheEndpoint : Type 0
AnswersLeadToTheEndpoint =
    (s : State) (call units : ℕ) (id : List ℕ) (replied_call granted : ℕ)
    (destination : Destination)
    → verdict_of s (Answering id call units) ≡ Admitted replied_call destination granted
    → (replied_call ≡ call) × IsAnswered s id call units granted destination

-- so does each granted answer of a record, in the state in which it was asked
abbrev pub RecordedAnswersLeadToTheEndpoint : Type 0
RecordedAnswersLeadToTheEndpoint =
    (commands : List Command) (limits : Limits) (entries before : List PlainEntry) (e : PlainEntry)
    → IsLegal (opening_of commands limits) entries
    → StandsAfter entries before e
    → (call units : ℕ) (id : List ℕ) (replied_call granted : ℕ) (destination : Destination)
    → e.event ≡ Answering id call units
    → e.reply ≡ Admitted replied_call destination granted
    → (replied_call ≡ call)
    × IsAnswered (replay (opening_of commands limits) before) id call units granted destination

-- ---- calls that are opened
-- the endpoint of the ID is registered in the first state; in the second, the open call of this
-- number is the one from a zone of another gatekeeper that this endpoint answers, as its own
pub record IsOpenedBy (s t : State) (id : List ℕ) (call units : ℕ) : Type 0 where
  pub endpoint : EndpointParts
  pub registered : endpoint_of s.endpoints id ≡ Some endpoint
  pub own : (answered_call endpoint call units).owner ≡ id
  pub is_open : call_of t.calls call ≡ Some (answered_call endpoint call units)

-- after each granted answer of a record to a call of a number that was not open, that call is open
abbrev pub RecordedAnswersOpenTheirCalls : Type 0
RecordedAnswersOpenTheirCalls =
    (commands : List Command) (limits : Limits) (entries before : List PlainEntry) (e : PlainEntry)
    → IsLegal (opening_of commands limits) entries
    → StandsAfter entries before e
    → (call units : ℕ) (id : List ℕ) (replied_call granted : ℕ) (destination : Destination)
    → e.event ≡ Answering id call units
    → e.reply ≡ Admitted replied_call destination granted
    → call_of (replay (opening_of commands limits) before).calls call ≡ None
    → IsOpenedBy (replay (opening_of commands limits) before)
    (replay (opening_of commands limits) (before ++ e ∷ [])) id call units

-- ---- calls that are open
-- the event is an answer to the call of this number, by the ID to which the open one was admitted
pub record IsAnswerTo (held : OpenCall) (number : ℕ) (event : PlainEvent) : Type 0 where
  pub id : List ℕ
  pub asked : ℕ
  pub answers : event ≡ Answering id number asked
  pub admitted : held.answerer ≡ Some id

-- endpoints and calls are as they were
pub record HasSameCalls (s t : State) : Type 0 where
  pub endpoints : t.endpoints ≡ s.endpoints
  pub calls : t.calls ≡ s.calls

-- no record opens a call anew: a call of an open number is only granted as an answer of the ID to
-- which it was admitted, and as it is, and then nothing changes
abbrev pub RecordedRepeatsChangeNothing : Type 0
RecordedRepeatsChangeNothing =
    (commands : List Command) (limits : Limits) (entries before : List PlainEntry) (e : PlainEntry)
    (number units : ℕ) (destination : Destination) (held : OpenCall)
    → IsLegal (opening_of commands limits) entries
    → StandsAfter entries before e
    → e.reply ≡ Admitted number destination units
    → call_of (replay (opening_of commands limits) before).calls number ≡ Some held
    → (units ≡ held.units) × IsAnswerTo held number e.event
    × HasSameCalls (replay (opening_of commands limits) before)
    (replay (opening_of commands limits) (before ++ e ∷ []))

-- ---- refusals
-- an endpoint that answers is refused as not registered exactly if it is not
abbrev pub AnswersOfStrangersAreRefused : Type 0
AnswersOfStrangersAreRefused =
    (s : State) (call units : ℕ) (id : List ℕ)
    → (verdict_of s (Answering id call units) ≡ AdmitRefused call CallerNotRegistered)
    ↔ (endpoint_of s.endpoints id ≡ None)

-- a call of this number is open, and was not admitted to this ID
pub record IsForOthers (s : State) (id : List ℕ) (call : ℕ) : Type 0 where
  pub held : OpenCall
  pub is_open : call_of s.calls call ≡ Some held
  pub not_admitted : ¬ (held.answerer ≡ Some id)

-- a call number is refused as open exactly if the endpoint that answers is registered, and a call
-- of it is open that was not admitted to this endpoint
abbrev pub AnswersToOthersCallsAreRefused : Type 0
AnswersToOthersCallsAreRefused =
    (s : State) (call units : ℕ) (id : List ℕ)
    → (verdict_of s (Answering id call units) ≡ AdmitRefused call CallOpen)
    ↔ ((is_registered s.endpoints id ≡ true) × IsForOthers s id call)
