-- What a session writes for the bytes that it reads, whoever answers.
use Rattle.std.specs.Prelude.{◌≡◌, ◌⊎◌, ℕ, ◌+◌, ◌≤◌, ◌==◌, Bool, true, false, nat_le, zero, suc, length, List, [], ◌∷◌, ◌++◌, take, replicate, flat_map, Option, Some, None, Result, Ok, Err, if◌then◌else◌}
use Rattle.gk_terms.specs.Text.{raw_lines_of, whole_lines_of, content_of, is_too_long}
use Rattle.gk_terms.specs.declared.limits.TheConstants.{MOST_LINE_BYTES}
use Rattle.gk_protocol.specs.declared.request_faults.RequestFault.{RequestFault}
use Rattle.gk_protocol.specs.declared.request_faults.RequestFault.TheVariants.{CutShort}
use Rattle.gk_protocol.specs.declared.requests.Request.{Request}
use Rattle.gk_protocol.specs.Asking.{Asking, Whole, Owns}
use Rattle.gk_protocol.specs.declared.session_faults.SessionFault.{SessionFault}
use Rattle.gk_protocol.specs.declared.session_faults.SessionFault.TheVariants.{ReadFault, WriteFault, NoMemory, TurnsSpent}
use Rattle.gk_lines.specs.LineReader.{PIECE_BYTES}
use Rattle.gk_lines.specs.declared.line_reader.ReadFault as read
use Rattle.gk_lines.specs.declared.line_reader.ReadFault.TheVariants as line
use Rattle.gk_protocol.specs.declared.answers.Answer.{Answer}
use Rattle.gk_protocol.specs.declared.answers.Answer.TheVariants.{Malformed}
use Rattle.gk_protocol.specs.Answers.{answer_text_of}
use Rattle.gk_protocol.specs.Registrations.{no_memory_answer_of}
use Rattle.gk_protocol.specs.Requests.{asking_of}

-- ---- the requests of an input
-- what a line asks, or its first fault; and the answer that may stand in its place, if memory runs
-- out for its options or lines
pub record Asked : Type 0 where
  pub request : Result Request RequestFault
  pub no_memory : Option Answer

-- how many of the next lines belong to what a line asks
abbrev pub lines_owned : Result (Option Asking) RequestFault → ℕ
lines_owned (Err fault) = 0
lines_owned (Ok None) = 0
lines_owned (Ok (Some (Whole request))) = 0
lines_owned (Ok (Some (Owns count request no_memory))) = count

-- a line that belongs to a request, as it is handed on: as it stood, and a too long one as 513
-- bytes `a` and a line feed
abbrev pub handed_on : List ℕ → List ℕ
handed_on raw =
    if is_too_long (content_of raw) then replicate (MOST_LINE_BYTES + 1) 97 ++ 10 ∷ [] else raw

-- a request with the lines that belong to it; memory may run out for them only if there are some.
-- If they are cut short, it is a fault at the end of the input, and not whole before
abbrev pub with_its_lines : Bool → ℕ → (List ℕ → Request) → Answer → List (List ℕ) → List Asked
with_its_lines at_end count request no_memory raws =
    if nat_le count (length raws)
    then (record {
      request = Ok
          (request (flat_map handed_on (take count raws)));
      no_memory = if count == 0 then None else Some no_memory;
    }) ∷ []
    else (if at_end then (record { request = Err CutShort; no_memory = None }) ∷ [] else [])

-- what a line asks, before these lines; a blank one asks nothing
abbrev pub asked_by : Bool → Option Answer → List (List ℕ) → Result (Option Asking) RequestFault
    → List Asked
asked_by at_end no_memory raws (Err fault) =
    (record { request = Err fault; no_memory = no_memory }) ∷ []
asked_by at_end no_memory raws (Ok None) = []
asked_by at_end no_memory raws (Ok (Some (Whole request))) =
    (record { request = Ok request; no_memory = no_memory }) ∷ []
asked_by at_end no_memory raws (Ok (Some (Owns count request lacking))) =
    with_its_lines at_end count request lacking raws

-- what these lines ask, of which the first so many belong to the request before; at the end of the
-- input or before it
abbrev pub asked_in : Bool → ℕ → List (List ℕ) → List Asked
asked_in at_end owned [] = []
asked_in at_end (suc owned) (raw ∷ raws) = asked_in at_end owned raws
asked_in at_end zero (raw ∷ raws) =
    let line = content_of raw in
    asked_by at_end (no_memory_answer_of line) raws (asking_of line)
    ++ asked_in at_end (lines_owned (asking_of line)) raws

-- the requests that bytes consist of, in order
abbrev pub requests_of : List ℕ → List Asked
requests_of bytes = asked_in true 0 (raw_lines_of bytes)

-- the requests that stand whole in the whole lines of bytes
abbrev pub whole_requests_of : List ℕ → List Asked
whole_requests_of bytes = asked_in false 0 (whole_lines_of bytes)

-- ---- what was read ahead
-- bytes that were read and belong to no line that was taken: no more than one call of the reader
-- gives
abbrev pub IsReadAhead : List ℕ → Type 0
IsReadAhead ahead = length ahead ≤ PIECE_BYTES

-- ---- answers
module _ {S : Type 0} (MayAnswer : S → Request → Answer → S → Type 0) where
  -- the answerer's answer to a request; or the fault of a line that is none, which leaves the
  -- answerer
  abbrev pub Answered : S → Result Request RequestFault → Answer → S → Type 0
  Answered old (Ok request) answer new = MayAnswer old request answer new
  Answered old (Err fault) answer new = (answer ≡ Malformed fault) × (new ≡ old)

  -- what may be answered: that; or the answer that memory ran out, which leaves the answerer
  abbrev pub MayGet : S → Asked → Answer → S → Type 0
  MayGet old asked answer new =
      Answered old asked.request answer new ⊎ ((asked.no_memory ≡ Some answer) × (new ≡ old))

  -- these requests may get these lines as replies, one after another
  abbrev pub Runs : S → List Asked → List ℕ → S → Type 0
  Runs old [] text new = (text ≡ []) × (new ≡ old)
  Runs old (asked ∷ others) text new =
      (answer : Answer) × (rest : List ℕ) × (mid : S) × MayGet old asked answer mid
      × Runs mid others rest new
      × (text ≡ answer_text_of answer ++ rest)

  -- ---- how a session ends
  -- at the end of its input: each request was answered, in so many replies
  pub record IsWhole (bytes : List ℕ) (old new : S) (text : List ℕ) (count : ℕ) : Type 0 where
    pub runs : Runs old (requests_of bytes) text new
    pub counted : count ≡ length (requests_of bytes)

  -- at a fault of reading, before this rest of its input: what stands whole in the whole lines that
  -- were read was answered
  pub record IsStopped (bytes rest : List ℕ) (old new : S) (text : List ℕ) : Type 0 where
    pub read : List ℕ
    pub split : bytes ≡ read ++ rest
    pub runs : Runs old (whole_requests_of read) text new

  -- at a fault of writing, before this rest of its input: a last reply may not have been written to
  -- its end
  pub record IsCutShort (bytes rest : List ℕ) (old new : S) (text : List ℕ) : Type 0 where
    pub read : List ℕ
    pub split : bytes ≡ read ++ rest
    pub earlier : List Asked
    pub last : Asked
    pub asked : requests_of read ≡ earlier ++ last ∷ []
    pub whole : (whole_requests_of read ≡ requests_of read) ⊎ (rest ≡ [])
    pub replies : List ℕ
    pub mid : S
    pub runs : Runs old earlier replies mid
    pub answer : Answer
    pub answered : MayGet mid last answer new
    pub written : List ℕ
    pub lost : List ℕ
    pub line : answer_text_of answer ≡ written ++ lost
    pub text_is : text ≡ replies ++ written

  -- what a session over these bytes wrote, by how it ended, with these bytes read ahead of what it
  -- took, and this rest of its input. Its buffers take no memory
  abbrev pub Ends : List ℕ → List ℕ → List ℕ → S → S → List ℕ → Result ℕ SessionFault → Type 0
  Ends bytes ahead rest old new text (Ok count) =
      (ahead ≡ []) × (rest ≡ []) × IsWhole bytes old new text count
  Ends bytes ahead rest old new text (Err ReadFault) =
      (ahead ≡ []) × IsStopped bytes rest old new text
  Ends bytes ahead rest old new text (Err TurnsSpent) =
      (ahead ≡ []) × IsStopped bytes rest old new text
  Ends bytes ahead rest old new text (Err WriteFault) =
      IsCutShort bytes (ahead ++ rest) old new text
  Ends bytes ahead rest old new text (Err NoMemory) = ⊥

-- ---- faults
-- whether a session ended at its reader
abbrev pub is_read_fault : SessionFault → Bool
is_read_fault ReadFault = true
is_read_fault WriteFault = false
is_read_fault NoMemory = false
is_read_fault TurnsSpent = false

-- whether it ended at its writer
abbrev pub is_write_fault : SessionFault → Bool
is_write_fault ReadFault = false
is_write_fault WriteFault = true
is_write_fault NoMemory = false
is_write_fault TurnsSpent = false

-- a fault of reading a line, as one of the session
abbrev pub session_fault_of : read.ReadFault → SessionFault
session_fault_of line.Failed = ReadFault
session_fault_of line.TurnsSpent = TurnsSpent
