-- What one line asks: a request, nothing if it is blank, or its first fault from the left.
use Rattle.std.specs.Prelude.{ℕ, List, [], ◌∷◌, Option, Some, None, Result, Ok, Err, codes, bytes_eq, if◌then◌else◌}
use Rattle.gk_terms.specs.Fields.{◌>>=◌, nothing_more}
use Rattle.gk_terms.specs.Text.{words_of, is_too_long}
use Rattle.gk_terms.specs.Name.{name_of}
use Rattle.gk_terms.specs.Dialled.{dialled_of}
use Rattle.rulings.specs.declared.replies.ReloadRefusal.TheVariants as reload
use Rattle.rulings.specs.declared.replies.Reply.TheVariants.{ReloadRefused}
use Rattle.gk_protocol.specs.declared.answers.Answer.{Answer}
use Rattle.gk_protocol.specs.declared.answers.Answer.TheVariants.{Reply, TryRefused}
use Rattle.gk_protocol.specs.declared.answers.TrialRefusal.TheVariants as trial
use Rattle.gk_protocol.specs.declared.request_faults.RequestFault.{RequestFault}
use Rattle.gk_protocol.specs.declared.request_faults.RequestFault.TheVariants as fault
use Rattle.gk_protocol.specs.declared.requests.Request.{Request}
use Rattle.gk_protocol.specs.declared.requests.Request.TheVariants.{Unregister, Admit, Incoming, Change, Release, Reload, Try}
use Rattle.gk_protocol.specs.Asking.{Asking, Whole, Owns}
use Rattle.gk_protocol.specs.RequestFields.{sequence_number_of, asked_call_of, asked_units_of, owned_count_of, asked_workers_of, field_at}
use Rattle.gk_protocol.specs.Registrations.{register_at}

-- ---- URQ seq id
abbrev pub unregister_at : List (List ℕ) → Result Request RequestFault
unregister_at words = do
  sequence ← field_at sequence_number_of fault.BadSequence words
  id ← field_at name_of fault.BadName sequence.1
  nothing_more fault.Extra (Unregister sequence.0 id.0) id.1

-- ---- ARQ seq id call digits units
abbrev pub admit_at : List (List ℕ) → Result Request RequestFault
admit_at words = do
  sequence ← field_at sequence_number_of fault.BadSequence words
  id ← field_at name_of fault.BadName sequence.1
  call ← field_at asked_call_of fault.BadNumber id.1
  digits ← field_at dialled_of fault.BadDigits call.1
  units ← field_at asked_units_of fault.BadNumber digits.1
  nothing_more fault.Extra (Admit sequence.0 id.0 call.0 digits.0 units.0) units.1

-- ---- ANS seq id call units
abbrev pub incoming_at : List (List ℕ) → Result Request RequestFault
incoming_at words = do
  sequence ← field_at sequence_number_of fault.BadSequence words
  id ← field_at name_of fault.BadName sequence.1
  call ← field_at asked_call_of fault.BadNumber id.1
  units ← field_at asked_units_of fault.BadNumber call.1
  nothing_more fault.Extra (Incoming sequence.0 id.0 call.0 units.0) units.1

-- ---- BRQ seq id call units
abbrev pub change_at : List (List ℕ) → Result Request RequestFault
change_at words = do
  sequence ← field_at sequence_number_of fault.BadSequence words
  id ← field_at name_of fault.BadName sequence.1
  call ← field_at asked_call_of fault.BadNumber id.1
  units ← field_at asked_units_of fault.BadNumber call.1
  nothing_more fault.Extra (Change sequence.0 id.0 call.0 units.0) units.1

-- ---- DRQ seq id call
abbrev pub release_at : List (List ℕ) → Result Request RequestFault
release_at words = do
  sequence ← field_at sequence_number_of fault.BadSequence words
  id ← field_at name_of fault.BadName sequence.1
  call ← field_at asked_call_of fault.BadNumber id.1
  nothing_more fault.Extra (Release sequence.0 id.0 call.0) call.1

-- ---- CFG seq n, to which the next n lines belong
-- its refusal if memory runs out
abbrev pub reload_without_memory : ℕ → Answer
reload_without_memory sequence = Reply sequence (ReloadRefused reload.NoMemory)

abbrev pub reload_at : List (List ℕ) → Result Asking RequestFault
reload_at words = do
  sequence ← field_at sequence_number_of fault.BadSequence words
  count ← field_at owned_count_of fault.BadNumber sequence.1
  nothing_more fault.Extra
      (Owns count.0 (Reload sequence.0) (reload_without_memory sequence.0)) count.1

-- ---- TRY seq workers n, to which the next n lines belong
-- its refusal if memory runs out
abbrev pub trial_without_memory : ℕ → Answer
trial_without_memory sequence = TryRefused sequence trial.NoMemory

abbrev pub try_at : List (List ℕ) → Result Asking RequestFault
try_at words = do
  sequence ← field_at sequence_number_of fault.BadSequence words
  workers ← field_at asked_workers_of fault.BadNumber sequence.1
  count ← field_at owned_count_of fault.BadNumber workers.1
  nothing_more fault.Extra
      (Owns count.0 (Try sequence.0 workers.0) (trial_without_memory sequence.0)) count.1

-- ---- a line
-- what is asked, if it could be read
abbrev pub asked_of : Result Asking RequestFault → Result (Option Asking) RequestFault
asked_of (Ok asked) = Ok (Some asked)
asked_of (Err fault) = Err fault

-- a request that stands whole in its line
abbrev pub whole_request_of : Result Request RequestFault → Result (Option Asking) RequestFault
whole_request_of (Ok request) = Ok (Some (Whole request))
whole_request_of (Err fault) = Err fault

-- the request of another first word than RRQ, CFG and TRY
abbrev pub other_request_at : List ℕ → List (List ℕ) → Result Request RequestFault
other_request_at word words =
    if bytes_eq word (codes "URQ") then unregister_at words
    else (if bytes_eq word (codes "ARQ") then admit_at words
    else (if bytes_eq word (codes "ANS") then incoming_at words
    else (if bytes_eq word (codes "BRQ") then change_at words
    else (if bytes_eq word (codes "DRQ") then release_at words else Err fault.UnknownWord))))

-- what is asked by a line of another first word than RRQ
abbrev pub other_asking_at : List ℕ → List (List ℕ) → Result (Option Asking) RequestFault
other_asking_at word words =
    if bytes_eq word (codes "CFG") then asked_of (reload_at words)
    else (if bytes_eq word (codes "TRY") then asked_of (try_at words)
    else whole_request_of (other_request_at word words))

-- what the words of a line ask; without a word they ask nothing
abbrev pub asking_at : List (List ℕ) → Result (Option Asking) RequestFault
asking_at [] = Ok None
asking_at (word ∷ words) =
    if bytes_eq word (codes "RRQ") then whole_request_of (register_at words)
    else other_asking_at word words

-- what a line asks
unfoldable pub asking_of : List ℕ → Result (Option Asking) RequestFault
asking_of line = if is_too_long line then Err fault.LineTooLong else asking_at (words_of line)
