-- A run: a configuration, and then requests.
use Rattle.std.specs.Prelude.{◌≡◌, ◌⊎◌, ℕ, Bool, true, false, List, [], ◌++◌, Option, Some, None, Result, Ok, Err}
use Rattle.gk_commands.specs.Configuration.{Configuration}
use Rattle.gk_commands.specs.Reading.{reading_in, MayRead}
use Rattle.rulings.specs.declared.limits.Limits.{Limits}
use Rattle.admission.specs.declared.cores.OpeningFault.{OpeningFault}
use Rattle.admission.specs.declared.cores.OpeningFault.TheVariants as opening
use Rattle.rulings.specs.State.{opening_of}
use Rattle.decision_record.specs.History.{CoreParts}
use Rattle.gk_lines.specs.declared.line_reader.ReadFault.{ReadFault}
use Rattle.gk_protocol.specs.declared.requests.Request.{Request}
use Rattle.gk_protocol.specs.declared.answers.Answer.{Answer}
use Rattle.gk_protocol.specs.declared.session_faults.SessionFault.{SessionFault}
use Rattle.gk_protocol.specs.Session.{IsReadAhead, Ends, is_read_fault, is_write_fault, session_fault_of}
use Rattle.configuration_reader.specs.declared.configuration.Until.TheVariants.{EndLine}
use Rattle.configuration_reader.specs.declared.configuration.ConfigurationFault.{ConfigurationFault}
use Rattle.configuration_reader.specs.declared.configuration.ConfigurationFault.TheVariants.{Line, Read}
use Rattle.runs.specs.declared.run.Ended.{Ended}
use Rattle.runs.specs.declared.run.RunFault.{RunFault}
use Rattle.runs.specs.declared.run.RunFault.TheVariants.{BadLimits, Config, Session, NoMemory}
use Rattle.configuration_reader.specs.Configuration.{configuration_of, rest_of, IsUnended}

-- a core in its opening state: a configuration's commands as version 1, and nothing registered,
-- open, recorded or reserved
abbrev pub opened : Configuration → Limits → CoreParts
opened configuration limits =
    record { opening = opening_of configuration.commands limits; entries = []; reserved = false }

-- a run within these limits opens such a core
abbrev pub OpensWithin : Limits → Configuration → CoreParts → Type 0
OpensWithin limits configuration core = core ≡ opened configuration limits

-- ---- how a run ends, whoever answers its requests
module _ {S : Type 0} (MayAnswer : S → Request → Answer → S → Type 0)
    (Opens : Configuration → S → Type 0) where
  -- the configuration at the front of these bytes was accepted, and the bytes after it were served
  -- as a session: it began in a state that the configuration opens, wrote this text, and ended with
  -- this result. `ahead` are the bytes that were read and belong to no line that was taken, no more
  -- than one call of the reader gives
  pub record Serves (bytes rest : List ℕ) (text : List ℕ)
      (result : Result ℕ SessionFault) : Type 0 where
    pub configuration : Configuration
    pub accepted : reading_in (configuration_of EndLine bytes) ≡ Ok configuration
    pub first : S
    pub opens : Opens configuration first
    pub last : S
    pub ahead : List ℕ
    pub in_one_call : IsReadAhead ahead
    pub ends : Ends MayAnswer (rest_of EndLine bytes) ahead rest first last text result

  -- the reader failed, or its turns were spent, before the configuration was read to its end:
  -- nothing was written
  pub record StopsBefore (bytes rest : List ℕ) (text : List ℕ) (fault : SessionFault) : Type 0 where
    pub unwritten : text ≡ []
    pub of_reader : (read : ReadFault) × (fault ≡ session_fault_of read)
    pub unended : IsUnended EndLine bytes rest

  -- the configuration at the front of these bytes is accepted
  abbrev pub AcceptsFront : List ℕ → Type 0
  AcceptsFront bytes =
      (configuration : Configuration)
      × (reading_in (configuration_of EndLine bytes) ≡ Ok configuration)

  -- what a run over these bytes wrote, one case for each result; `rest` is what the reader has left
  -- of them. At each fault before the requests nothing was written, and at Config and NoMemory the
  -- configuration was read to its end, with some bytes after it read ahead
  abbrev pub RunEnds : List ℕ → List ℕ → List ℕ → Result ℕ RunFault → Type 0
  RunEnds bytes rest text (Ok count) = Serves bytes rest text (Ok count)
  RunEnds bytes rest text (Err BadLimits) = (text ≡ []) × (rest ≡ bytes)
  RunEnds bytes rest text (Err (Config fault)) =
      (text ≡ []) × MayRead (configuration_of EndLine bytes) (Err fault)
      × ((ahead : List ℕ) × (rest_of EndLine bytes ≡ ahead ++ rest))
  RunEnds bytes rest text (Err (Session fault)) =
      Serves bytes rest text (Err fault) ⊎ StopsBefore bytes rest text fault
  RunEnds bytes rest text (Err NoMemory) =
      (text ≡ []) × AcceptsFront bytes × ((ahead : List ℕ) × (rest_of EndLine bytes ≡ ahead ++
      rest))

-- ---- faults
-- whether a run ended at its reader
abbrev pub is_run_read_fault : RunFault → Bool
is_run_read_fault BadLimits = false
is_run_read_fault (Config fault) = false
is_run_read_fault (Session fault) = is_read_fault fault
is_run_read_fault NoMemory = false

-- whether it ended at its writer
abbrev pub is_run_write_fault : RunFault → Bool
is_run_write_fault BadLimits = false
is_run_write_fault (Config fault) = false
is_run_write_fault (Session fault) = is_write_fault fault
is_run_write_fault NoMemory = false

-- whether a fault always comes before the requests
abbrev pub is_before_requests : RunFault → Bool
is_before_requests BadLimits = true
is_before_requests (Config fault) = true
is_before_requests (Session fault) = false
is_before_requests NoMemory = true

-- the fault of a run whose configuration is not read, and of one whose core is not opened
abbrev pub run_fault_of : ConfigurationFault → RunFault
run_fault_of (Line fault) = Config fault
run_fault_of (Read fault) = Session (session_fault_of fault)

abbrev pub opening_run_fault_of : OpeningFault → RunFault
opening_run_fault_of opening.BadLimits = BadLimits
opening_run_fault_of opening.NoMemory = NoMemory

-- ---- a run under a configuration that was read before
-- what is left of it: the core, and how its session ended; or why there was none
abbrev pub how_ended : Result Ended RunFault → Option (CoreParts × Result ℕ SessionFault)
how_ended (Ok ended) = Some (ended.core, ended.replies)
how_ended (Err fault) = None

module _ {S : Type 0} (MayAnswer : S → Request → Answer → S → Type 0) where
  -- the bytes were served as a session that began in this state and ended so, in that state; or
  -- nothing was read or written
  abbrev pub ServesUnder : S → List ℕ → List ℕ → List ℕ → Option (S × Result ℕ SessionFault)
      → Type 0
  ServesUnder first bytes rest text (Some (last, result)) =
      (ahead : List ℕ) × IsReadAhead ahead
      × Ends MayAnswer bytes ahead rest first last text result
  ServesUnder first bytes rest text None = (text ≡ []) × (rest ≡ bytes)
