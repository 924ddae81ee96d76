-- A reply to an event is an answer to the request that asks for it.
use Rattle.std.proofs.Common.{◌≡◌, ℕ, List, Option, Some, None, refl, sym, ap, subst, ◌∙◌, inl, inr}
use Rattle.std.proofs.lemmas.Option.{none-some, same_Some}
use Rattle.rulings.specs.Events.{PlainEvent, put_in_force}
use Rattle.rulings.specs.declared.replies.Reply.{Reply as CoreReply}
use Rattle.decision_record.specs.History.{CoreParts, MayReply, Steps}
use Rattle.call_rows.specs.Rows.{SnapshotParts}
use Rattle.admission.specs.Answering.{answered, receipt_for}
use Rattle.gk_protocol.specs.declared.requests.Request.{Request}
use Rattle.gk_protocol.specs.declared.requests.Request.TheVariants.{Register, Unregister, Admit, Incoming, Change, Release, Reload, Try}
use Rattle.gk_protocol.specs.declared.answers.Answer.TheVariants.{Reply}
use Rattle.gk_protocol.specs.Answering as answering
use Rattle.gk_protocol.specs.Answers.{answer_text_of}
use Rattle.gk_protocol.specs.Demands.{Demand, AnEvent, AReload, ATrial, asked_event, demand_of, event_in, sequence_of}
use Rattle.gk_protocol.specs.CoreAnswers.{MayAnswer, MayShow}
use Rattle.gk_protocol.specs.Hearing.{AnswersInto}

-- no request asks for a reload as an event
pub asks_no_reload : (request : Request) (event : PlainEvent) → asked_event request ≡ Some event
    → put_in_force event ≡ None
asks_no_reload (Register sequence endpoint) event asks = ap put_in_force (same_Some _ _ (sym asks))
asks_no_reload (Unregister sequence id) event asks = ap put_in_force (same_Some _ _ (sym asks))
asks_no_reload (Admit sequence id call digits units) event asks =
    ap put_in_force (same_Some _ _ (sym asks))
asks_no_reload (Incoming sequence id call units) event asks =
    ap put_in_force (same_Some _ _ (sym asks))
asks_no_reload (Change sequence id call units) event asks =
    ap put_in_force (same_Some _ _ (sym asks))
asks_no_reload (Release sequence id call) event asks = ap put_in_force (same_Some _ _ (sym asks))
asks_no_reload (Reload sequence lines) event asks = absurd (none-some _ asks)
asks_no_reload (Try sequence workers lines) event asks = absurd (none-some _ asks)

module _ {S : Type 0} (MayReply : S → PlainEvent → CoreReply → S → Type 0)
    (MayShow : S → SnapshotParts → Type 0) (old new : S) (event : PlainEvent) (reply : CoreReply)
    (may : MayReply old event reply new) where
  as_asked : (asked : PlainEvent) → Some asked ≡ Some event → MayReply old asked reply new
  as_asked asked asks = subst (λ e. MayReply old e reply new) (same_Some _ _ (sym asks)) may

  meets : (sequence : ℕ) (demand : Demand) → event_in demand ≡ Some event
      → answering.MayMeet MayReply MayShow old sequence demand (Reply sequence reply) new
  meets sequence (AnEvent asked) asks = (reply, refl, as_asked asked asks)
  meets sequence (AReload lines) asks = absurd (none-some _ asks)
  meets sequence (ATrial workers lines) asks = absurd (none-some _ asks)

  -- whoever answers
  pub may_answer : (request : Request) → asked_event request ≡ Some event
      → answering.MayAnswer MayReply MayShow old request (Reply (sequence_of request) reply) new
  may_answer request asks = meets (sequence_of request) (demand_of request) asks

-- a step gives a reply that a core may give
pub step_replies : (old new : CoreParts) (event : PlainEvent) (reply : CoreReply)
    (number : Option ℕ) → Steps old event (answered event reply number) new
    → MayReply old event reply new
step_replies old new event reply (Some number) h = inl (receipt_for event reply number, h)
step_replies old new event reply None h = inr h

-- a request is answered by the line of the reply to its event, which repeats its number; the core
-- that steps is the one that was asked
pub answered_into : (old asked_of new : CoreParts) (request : Request) (repeated : ℕ)
    (event : PlainEvent) (line : List ℕ) (number : Option ℕ) → old ≡ asked_of
    → asked_event request ≡ Some event
    → (reply : CoreReply) × (line ≡ answer_text_of (Reply repeated reply))
    × Steps old event (answered event reply number) new
    → repeated ≡ sequence_of request → AnswersInto MayAnswer asked_of request line new
answered_into old asked_of new request repeated event line number same asks told counted = (
  Reply (sequence_of request) told.0,
  subst (λ (core : CoreParts). MayAnswer core request (Reply (sequence_of request) told.0) new) same
      (may_answer MayReply MayShow old new event told.0
      (step_replies old new event told.0 number told.2) request asks),
  told.1 ∙ ap (λ n. answer_text_of (Reply n told.0)) counted,
)
