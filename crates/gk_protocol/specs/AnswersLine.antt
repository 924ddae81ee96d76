-- What a session does with one line, and with the lines that belong to it.
use Rattle.std.specs.Prelude.{◌≡◌, ◌⊎◌, ℕ, Bool, List, Some, None, Result, Ok, Err}
use Rattle.gk_lines.specs.declared.line_reader.ReadFault.{ReadFault}
use Rattle.gk_protocol.specs.declared.request_faults.RequestFault.{RequestFault}
use Rattle.gk_protocol.specs.declared.request_faults.RequestFault.TheVariants as fault
use Rattle.gk_protocol.specs.declared.requests.Request.{Request}
use Rattle.gk_protocol.specs.Asking.{Owns}
use Rattle.gk_protocol.specs.declared.answers.Answer.{Answer}
use Rattle.gk_protocol.specs.declared.answers.Answer.TheVariants.{Malformed}
use Rattle.gk_protocol.specs.declared.owned_lines.TakenLines.{TakenLines}
use Rattle.gk_protocol.specs.declared.owned_lines.TakenLines.TheVariants as taken
use Rattle.gk_protocol.specs.declared.sessions.Progress.{Progress}
use Rattle.gk_protocol.specs.declared.sessions.Progress.TheVariants.{Blank, Answered, CutShort}
use Rattle.gk_protocol.specs.Answers.{answer_text_of}
use Rattle.gk_protocol.specs.Registrations.{no_memory_answer_of}
use Rattle.gk_protocol.specs.Requests.{asking_of, whole_request_of}
use Rattle.gk_protocol.specs.Hearing.{AnswersInto}
use Rattle.gk_protocol.specs.OwnedLines.{GivesLines}
use Rattle.gk_protocol.specs.Session.{MayGet}

module _ {S : Type 0} (MayAnswer : S → Request → Answer → S → Type 0) where
  -- what a line asks by itself is answered
  abbrev pub AnswersAlone : S → List ℕ → Answer → S → Type 0
  AnswersAlone old line answer new =
      (request : Result Request RequestFault) × (asking_of line ≡ whole_request_of request)
      × MayGet MayAnswer old
      (record { request = request; no_memory = no_memory_answer_of line }) answer new

  -- the answer to a request by what became of its lines, of which the reply is the line
  abbrev pub AnswersOwner : S → (List ℕ → Request) → Answer → TakenLines → Progress → List ℕ → S
      → Type 0
  AnswersOwner old request no_memory (taken.Whole lines) Answered reply new =
      AnswersInto MayAnswer old (request lines) reply new
  AnswersOwner old request no_memory taken.NoMemory Answered reply new =
      (reply ≡ answer_text_of no_memory) × (new ≡ old)
  AnswersOwner old request no_memory taken.CutShort CutShort reply new =
      (reply ≡ answer_text_of (Malformed fault.CutShort)) × (new ≡ old)
  AnswersOwner old request no_memory lines progress reply new = ⊥

  -- the next lines belong to what a line asks, and are taken; or their end was not read, and the
  -- answerer was not asked
  abbrev pub AnswersWithLines : Bool → Bool → S → List ℕ → Result Progress ReadFault → List ℕ → S
      → List ℕ → List ℕ → Type 0
  AnswersWithLines ended now_ended old line (Ok progress) reply new bytes rest =
      (count : ℕ) × (request : List ℕ → Request) × (no_memory : Answer)
      × (asking_of line ≡ Ok (Some (Owns count request no_memory)))
      × (lines : TakenLines) × GivesLines ended now_ended count (Ok lines) bytes rest
      × AnswersOwner old request no_memory lines progress reply new
  AnswersWithLines ended now_ended old line (Err fault) reply new bytes rest =
      (count : ℕ) × (request : List ℕ → Request) × (no_memory : Answer)
      × (asking_of line ≡ Ok (Some (Owns count request no_memory)))
      × (new ≡ old) × GivesLines ended now_ended count (Err fault) bytes rest

  -- a line by itself leaves the input after it as it is; the reply is the line of its answer
  abbrev pub AnswersByItself : S → List ℕ → Result Progress ReadFault → List ℕ → S → Type 0
  AnswersByItself old line (Ok Blank) reply new = (asking_of line ≡ Ok None) × (new ≡ old)
  AnswersByItself old line (Ok Answered) reply new =
      (answer : Answer) × (reply ≡ answer_text_of answer) × AnswersAlone old line answer new
  AnswersByItself old line (Ok CutShort) reply new = ⊥
  AnswersByItself old line (Err fault) reply new = ⊥

  -- what comes of a line before these bytes, of which this rest is left, with this reply
  abbrev pub AnswersLine : Bool → Bool → S → List ℕ → Result Progress ReadFault → List ℕ → S
      → List ℕ → List ℕ → Type 0
  AnswersLine ended now_ended old line result reply new bytes rest =
      (AnswersByItself old line result reply new × (rest ≡ bytes) × (now_ended ≡ ended))
      ⊎ AnswersWithLines ended now_ended old line result reply new bytes rest
