-- What a line asks, and what may be answered to it.
use Rattle.std.proofs.Common.{◌≡◌, ℕ, Bool, false, List, ◌∷◌, refl, sym, ap, subst, ◌∙◌, inl, inr, cond, ⊎_elim}
use Rattle.std.specs.Prelude.{Option, Some, None, Result, Ok, Err, option_map}
use Rattle.gk_terms.specs.Fields.{◌>>=◌}
use Rattle.gk_terms.specs.Text.{words_of, is_too_long}
use Rattle.gk_protocol.specs.declared.request_faults.RequestFault.{RequestFault}
use Rattle.gk_protocol.specs.declared.request_faults.RequestFault.TheVariants.{LineTooLong}
use Rattle.gk_protocol.specs.declared.registrations.NoRequest.{NoRequest}
use Rattle.gk_protocol.specs.declared.registrations.NoRequest.TheVariants.{Fault, NoMemory}
use Rattle.gk_protocol.specs.declared.request_lines.Heard.{Heard}
use Rattle.gk_protocol.specs.declared.request_lines.Heard.TheVariants.{Blank, Answered, Owns}
use Rattle.gk_protocol.specs.declared.requests.Request.{Request}
use Rattle.gk_protocol.specs.declared.requests.Request.TheVariants.{Register}
use Rattle.gk_protocol.specs.declared.line_owners.LineOwner.{LineOwner}
use Rattle.gk_protocol.specs.declared.answers.Answer.{Answer}
use Rattle.gk_protocol.specs.declared.answers.Answer.TheVariants.{Malformed}
use Rattle.gk_protocol.specs.Answers.{answer_text_of}
use Rattle.gk_protocol.specs.Asking.{Asking, Whole}
use Rattle.gk_protocol.specs.Asking as asking
use Rattle.gk_protocol.specs.RequestFields.{Reads}
use Rattle.gk_protocol.specs.LineOwners.{asking_with}
use Rattle.gk_protocol.specs.RegistrationOptions.{IsNoRegistrationAt}
use Rattle.gk_protocol.specs.Registrations.{registering_of, registering_by_word, registering_at, register_at, no_memory_at, no_memory_to, no_memory_answer_of}
use Rattle.gk_protocol.specs.Requests.{asking_of, asking_at, whole_request_of, asked_of}
use Rattle.gk_protocol.specs.Hearing.{AnswersInto, HearsRequest, LacksOptions, owner_heard, Hears}
use Rattle.gk_lines.specs.Streams.{KnownStep}
use Rattle.gk_lines.specs.declared.line_reader.ReadFault.{ReadFault}
use Rattle.gk_protocol.specs.declared.owned_lines.TakenLines.{TakenLines}
use Rattle.gk_protocol.specs.declared.sessions.Progress.{Progress}
use Rattle.gk_protocol.specs.declared.sessions.Progress.TheVariants as progress
use Rattle.gk_protocol.specs.OwnedLines.{GivesLines}
use Rattle.gk_protocol.specs.AnswersLine.{AnswersAlone, AnswersOwner, AnswersByItself, AnswersLine}

-- what a line asks, and the number and ID that a no-memory reply to it names, by its first word
pub asks_at : (line word first : List ℕ) (words : List (List ℕ)) → is_too_long line ≡ false →
    words_of line ≡ word ∷ words → word ≡ first → asking_of line ≡ asking_at (first ∷ words)
unfolding asking_of
asks_at line word first words fits split is =
    ap (λ b. cond b (Err LineTooLong) (asking_at (words_of line))) fits ∙ ap asking_at split ∙ ap
    (λ w. asking_at (w ∷ words)) is

pub registers_at : (line word first : List ℕ) (words : List (List ℕ)) → is_too_long line ≡ false →
    words_of line ≡ word ∷ words → word ≡ first → registering_of line ≡ registering_by_word
    (first ∷ words)
unfolding registering_of
registers_at line word first words fits split is =
    ap (λ b. cond b None (registering_by_word (words_of line))) fits ∙ ap registering_by_word split
    ∙ ap (λ w. registering_by_word (w ∷ words)) is

-- the answer in place of another, for a line that takes no memory, and for a registration
pub lacks_none : (line : List ℕ) (answer : Answer) → None ≡ Some answer
    → no_memory_answer_of line ≡ Some answer
lacks_none line answer none = let impossible : ⊥ = cc in absurd impossible

pub lacks_options : (line : List ℕ) (words : List (List ℕ))
    → registering_of line ≡ registering_at words → (answer : Answer)
    → no_memory_at words ≡ Some answer → no_memory_answer_of line ≡ Some answer
lacks_options line words registers answer lacks = ap (option_map no_memory_to) registers ∙ lacks

module _ {S : Type 0} (MayAnswer : S → Request → Answer → S → Type 0) where
  -- the answerer's answer to a request
  pub answered_request : (old new : S) (line : List ℕ) (request : Request) (answer : Answer) →
      asking_of line ≡ Ok (Some (Whole request)) → MayAnswer old request answer new → AnswersAlone
      MayAnswer old line answer new
  answered_request old new line request answer e h = (Ok request, e, inl h)

  -- a request that stands whole in its line
  pub heard_request : (old new : S) (line reply : List ℕ) (read : Result Request RequestFault)
      (no_memory : Option Answer) (heard : Result Heard RequestFault)
      → asking_of line ≡ whole_request_of read
      → ((answer : Answer) → no_memory ≡ Some answer → no_memory_answer_of line ≡ Some answer)
      → HearsRequest MayAnswer old read no_memory heard reply new
      → Hears MayAnswer old line heard reply new
  heard_request old new line reply read no_memory (Ok Answered) asks lacks h = (
    read,
    asks,
    ⊎_elim
        (λ (asked : (request : Request) × (read ≡ Ok request)
        × AnswersInto MayAnswer old request reply new). inl asked)
        (λ (lacking : (answer : Answer) × (no_memory ≡ Some answer)
        × (reply ≡ answer_text_of answer) × (new ≡ old)).
        inr (lacking.0, lacks lacking.0 lacking.1, lacking.2, lacking.3)) h,
  )
  heard_request old new line reply read no_memory (Ok Blank) asks lacks h = absurd h
  heard_request old new line reply read no_memory (Ok (Owns owner count)) asks lacks h = absurd h
  heard_request old new line reply read no_memory (Err fault) asks lacks h =
      (asks ∙ ap whole_request_of h.0, h.1)

  -- a registration whose options could not be read
  pub registration_lacks : (old : S) (reply : List ℕ) (words : List (List ℕ)) (none : NoRequest)
      (heard : Result Heard RequestFault) → IsNoRegistrationAt words none → LacksOptions none heard
      reply → HearsRequest MayAnswer old (register_at words) (no_memory_at words) heard reply old
  registration_lacks old reply words (Fault fault) heard e is =
      subst (λ (h : Result Heard RequestFault).
      HearsRequest MayAnswer old (register_at words) (no_memory_at words) h reply old)
      (sym is) (ap (λ r. r >>= (λ fields. Ok (Register fields.0 fields.1))) e, refl)
  registration_lacks old reply words (NoMemory sequence id) heard e is =
      subst (λ (h : Result Heard RequestFault).
      HearsRequest MayAnswer old (register_at words) (no_memory_at words) h reply old)
      (sym is.0)
      (inr (no_memory_to (sequence, id), ap (option_map no_memory_to) e, is.1, refl))

  -- a line to which the next lines belong
  pub heard_owner : (old : S) (line reply : List ℕ) (read : Result Asking RequestFault)
      (fields : Result (LineOwner × ℕ) RequestFault) (heard : Result Heard RequestFault)
      → asking_of line ≡ asked_of read → Reads read (λ o. asking_with o.0 o.1) fields
      → heard ≡ owner_heard fields → Hears MayAnswer old line heard reply old
  heard_owner old line reply read (Ok owner) heard asks reads is =
      subst (λ (h : Result Heard RequestFault). Hears MayAnswer old line h reply old) (sym is)
      (asks ∙ ap asked_of reads, refl)
  heard_owner old line reply read (Err fault) heard asks reads is =
      subst (λ (h : Result Heard RequestFault). Hears MayAnswer old line h reply old) (sym is)
      (asks ∙ ap asked_of reads, refl)

  -- the answer to a line that asks by itself
  pub answered_by_itself : (old new : S) (line reply : List ℕ) → Hears MayAnswer old line
      (Ok Answered) reply new → AnswersByItself MayAnswer old line (Ok progress.Answered) reply new
  answered_by_itself old new line reply h =
      ⊎_elim
      (λ (asked : (request : Request) × (h.0 ≡ Ok request)
      × AnswersInto MayAnswer old request reply new). (
        asked.2.0,
        asked.2.2,
        answered_request old new line asked.0 asked.2.0
            (h.1 ∙ ap whole_request_of asked.1) asked.2.1,
      ))
      (λ (lacks : (answer : Answer) × (no_memory_answer_of line ≡ Some answer) ×
      (reply ≡ answer_text_of answer) × (new ≡ old)). (
        lacks.0,
        lacks.2,
        (h.0, h.1, inr (lacks.1, lacks.3)),
      ))
      h.2

  -- the answer to a line that is no request
  pub answered_fault : (old new : S) (line reply : List ℕ) (fault : RequestFault) → Hears MayAnswer
      old line (Err fault) reply new → AnswersAlone MayAnswer old line (Malformed fault) new
  answered_fault old new line reply fault h = (Err fault, h.0, inl (refl, h.1))

  -- ---- over what a reader tells
  -- a line by itself
  pub by_itself : (known : Option (List ℕ)) (ended : Bool) (old new : S) (line reply : List ℕ)
      (result : Result Progress ReadFault) → AnswersByItself MayAnswer old line result reply new
      → KnownStep known known (AnswersLine MayAnswer ended ended old line result reply new)
  by_itself None ended old new line reply result a = tt
  by_itself (Some bytes) ended old new line reply result a = inl (a, refl, refl)

  -- a request with the lines that belong to it
  pub owner_answered : (known rest : Option (List ℕ)) (ended now_ended : Bool) (old new : S)
      (line reply : List ℕ) (count : ℕ) (request : List ℕ → Request) (no_memory : Answer)
      (taken : TakenLines) (progress : Progress)
      → asking_of line ≡ Ok (Some (asking.Owns count request no_memory)) → KnownStep known rest
      (GivesLines ended now_ended count (Ok taken))
      → AnswersOwner MayAnswer old request no_memory taken progress reply new
      → KnownStep known rest (AnswersLine MayAnswer ended now_ended old line (Ok progress) reply
      new)
  owner_answered None rest ended now_ended old new line reply count request no_memory taken progress
      asks gives a = tt
  owner_answered (Some bytes) None ended now_ended old new line reply count request no_memory taken
      progress asks gives a = absurd gives
  owner_answered (Some bytes) (Some rest) ended now_ended old new line reply count request no_memory
      taken progress asks gives a = inr (count, request, no_memory, asks, taken, gives, a)

  -- a request whose lines were not read to their end
  pub owner_unread : (known rest : Option (List ℕ)) (ended now_ended : Bool) (old : S)
      (line reply : List ℕ) (count : ℕ) (request : List ℕ → Request) (no_memory : Answer)
      (fault : ReadFault)
      → asking_of line ≡ Ok (Some (asking.Owns count request no_memory)) → KnownStep known rest
      (GivesLines ended now_ended count (Err fault))
      → KnownStep known rest (AnswersLine MayAnswer ended now_ended old line (Err fault) reply old)
  owner_unread None rest ended now_ended old line reply count request no_memory fault asks gives =
      tt
  owner_unread (Some bytes) None ended now_ended old line reply count request no_memory fault asks
      gives = absurd gives
  owner_unread (Some bytes) (Some rest) ended now_ended old line reply count request no_memory fault
      asks gives = inr (count, request, no_memory, asks, refl, gives)
