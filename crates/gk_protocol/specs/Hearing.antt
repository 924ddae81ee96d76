-- What comes of one line by itself: it is blank, it is answered, it asks for something with the next
-- lines, or it has a fault. The reply counts only if the line is answered.
use Rattle.std.specs.Prelude.{◌≡◌, ◌⊎◌, ℕ, List, Option, Some, None, Result, Ok, Err}
use Rattle.gk_protocol.specs.declared.request_faults.RequestFault.{RequestFault}
use Rattle.gk_protocol.specs.declared.registrations.NoRequest.{NoRequest}
use Rattle.gk_protocol.specs.declared.registrations.NoRequest.TheVariants.{Fault, NoMemory}
use Rattle.gk_protocol.specs.declared.request_lines.Heard.{Heard}
use Rattle.gk_protocol.specs.declared.request_lines.Heard.TheVariants.{Blank, Answered, Owns}
use Rattle.gk_protocol.specs.declared.line_owners.LineOwner.{LineOwner}
use Rattle.gk_protocol.specs.declared.requests.Request.{Request}
use Rattle.gk_protocol.specs.declared.answers.Answer.{Answer}
use Rattle.gk_protocol.specs.Answers.{answer_text_of}
use Rattle.gk_protocol.specs.LineOwners.{asking_with}
use Rattle.gk_protocol.specs.Registrations.{no_memory_to, no_memory_answer_of}
use Rattle.gk_protocol.specs.Requests.{asking_of, whole_request_of}

-- what comes of a registration whose options could not be read: its fault; or the reply that memory
-- ran out
abbrev pub LacksOptions : NoRequest → Result Heard RequestFault → List ℕ → Type 0
LacksOptions (Fault fault) heard reply = heard ≡ Err fault
LacksOptions (NoMemory sequence id) heard reply =
    (heard ≡ Ok Answered) × (reply ≡ answer_text_of (no_memory_to (sequence, id)))

-- what comes of a line to which the next lines belong
abbrev pub owner_heard : Result (LineOwner × ℕ) RequestFault → Result Heard RequestFault
owner_heard (Ok owner) = Ok (Owns owner.0 owner.1)
owner_heard (Err fault) = Err fault

module _ {S : Type 0} (MayAnswer : S → Request → Answer → S → Type 0) where
  -- a request may get an answer of which this is the line
  abbrev pub AnswersInto : S → Request → List ℕ → S → Type 0
  AnswersInto old request line new =
      (answer : Answer) × MayAnswer old request answer new × (line ≡ answer_text_of answer)

  -- a request that was read is answered; or memory ran out for its fields, as the reply says, and
  -- the answerer is left as it was. A fault is given back, and leaves it too
  abbrev pub HearsRequest : S → Result Request RequestFault → Option Answer
      → Result Heard RequestFault → List ℕ → S → Type 0
  HearsRequest old read no_memory (Ok Answered) reply new =
      ((request : Request) × (read ≡ Ok request) × AnswersInto old request reply new)
      ⊎ ((answer : Answer) × (no_memory ≡ Some answer) × (reply ≡ answer_text_of answer)
      × (new ≡ old))
  HearsRequest old read no_memory (Err fault) reply new = (read ≡ Err fault) × (new ≡ old)
  HearsRequest old read no_memory heard reply new = ⊥

  -- what comes of a line. One that owns the next lines, and a fault, have no reply yet
  abbrev pub Hears : S → List ℕ → Result Heard RequestFault → List ℕ → S → Type 0
  Hears old line (Ok Blank) reply new = (asking_of line ≡ Ok None) × (new ≡ old)
  Hears old line (Ok Answered) reply new =
      (read : Result Request RequestFault) × (asking_of line ≡ whole_request_of read)
      × HearsRequest old read (no_memory_answer_of line) (Ok Answered) reply new
  Hears old line (Ok (Owns owner count)) reply new =
      (asking_of line ≡ Ok (Some (asking_with owner count))) × (new ≡ old)
  Hears old line (Err fault) reply new = (asking_of line ≡ Err fault) × (new ≡ old)
