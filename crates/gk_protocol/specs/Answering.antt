-- What may be answered to requests, whoever answers: by which replies to events are allowed, and by
-- which rows and endpoints a trial may be of.
use Rattle.std.specs.Prelude.{◌≡◌, ◌≢◌, ◌⊎◌, ◌&&◌, ℕ, nat_le, Bool, true, false, List, Result, Ok, Err, MatchBool}
use Rattle.gk_commands.specs.declared.faults.LineFault.{LineFault}
use Rattle.gk_commands.specs.declared.faults.FaultKind.TheVariants as fault_kind
use Rattle.gk_commands.specs.Configuration.{Configuration}
use Rattle.gk_commands.specs.Reading.{reading_in, MayRead}
use Rattle.rulings.specs.Events.{PlainEvent, Reloading}
use Rattle.rulings.specs.declared.replies.Reply.{Reply as CoreReply}
use Rattle.call_rows.specs.Rows.{SnapshotParts}
use Rattle.trial_run.specs.Report.{report_of}
use Rattle.trial_run.specs.ReportText.{report_text}
use Rattle.gk_protocol.specs.declared.requests.Request.{Request}
use Rattle.gk_protocol.specs.declared.answers.Answer.{Answer}
use Rattle.gk_protocol.specs.declared.answers.Answer.TheVariants.{Reply, Misconfigured, Tried, TryRefused}
use Rattle.gk_protocol.specs.declared.answers.TrialRefusal.{TrialRefusal}
use Rattle.gk_protocol.specs.declared.answers.TrialRefusal.TheVariants as trial
use Rattle.gk_protocol.specs.Requests.{reload_without_memory, trial_without_memory}
use Rattle.gk_protocol.specs.Demands.{Demand, AnEvent, AReload, ATrial, sequence_of, demand_of}
use Rattle.gk_protocol.specs.declared.owned_tables.NoTables.{NoTables}
use Rattle.gk_protocol.specs.declared.owned_tables.NoTables.TheVariants as none

-- ---- lines that are to be a configuration
-- memory may run out for these lines: at one that would be kept, after lines without a fault; or
-- for all of them, if they are accepted
abbrev pub MayLackMemory : List (List ℕ) → Type 0
MayLackMemory lines =
    ((fault : LineFault) × (fault.kind ≡ fault_kind.NoMemory) × MayRead lines (Err fault))
    ⊎ ((configuration : Configuration) × (reading_in lines ≡ Ok configuration))

-- why there are no tables of lines: the first fault of the lines, or memory ran out
abbrev pub IsNoConfiguration : List (List ℕ) → NoTables → Type 0
IsNoConfiguration lines (none.Faulty fault) = reading_in lines ≡ Err fault
IsNoConfiguration lines none.NoMemory = MayLackMemory lines

-- the same of a fault that was read
abbrev pub IsNoTablesFor : LineFault → NoTables → Type 0
IsNoTablesFor fault (none.Faulty other) = (other ≡ fault) × (fault.kind ≢ fault_kind.NoMemory)
IsNoTablesFor fault none.NoMemory = fault.kind ≡ fault_kind.NoMemory

-- ---- events, by the replies that are allowed to them
module _ {S : Type 0} (MayReply : S → PlainEvent → CoreReply → S → Type 0) where
  -- the answer is a reply that is allowed to the event, and repeats the request's sequence number
  abbrev pub Replies : S → ℕ → PlainEvent → Answer → S → Type 0
  Replies old sequence event answer new =
      (reply : CoreReply) × (answer ≡ Reply sequence reply) × MayReply old event reply new

  -- by what the lines of a reload say: a reply to their configuration; or their first fault, which
  -- leaves the answerer
  abbrev pub ReloadsBy : S → ℕ → Result Configuration LineFault → Answer → S → Type 0
  ReloadsBy old sequence (Ok configuration) answer new =
      Replies old sequence (Reloading configuration.commands) answer new
  ReloadsBy old sequence (Err fault) answer new =
      (answer ≡ Misconfigured sequence fault) × (new ≡ old)

  -- what may be answered to a reload: that; or that memory ran out for the lines, which leaves the
  -- answerer
  abbrev pub MayReload : S → ℕ → List (List ℕ) → Answer → S → Type 0
  MayReload old sequence lines answer new =
      ReloadsBy old sequence (reading_in lines) answer new
      ⊎ ((answer ≡ reload_without_memory sequence) × (new ≡ old) × MayLackMemory lines)

-- ---- trials, by the rows and endpoints that they may be of
-- whether there may be so many workers
abbrev pub are_workers : ℕ → Bool
are_workers workers = nat_le 1 workers && nat_le workers 64

-- why there are no tables for a trial by so many workers; that there may not be so many comes
-- before what the lines say
abbrev pub IsNoTrial : ℕ → List (List ℕ) → TrialRefusal → Type 0
IsNoTrial workers lines trial.BadWorkers = are_workers workers ≡ false
IsNoTrial workers lines (trial.Misconfigured fault) =
    (are_workers workers ≡ true) × (reading_in lines ≡ Err fault)
IsNoTrial workers lines trial.NoThread = ⊥
IsNoTrial workers lines trial.NoMemory = (are_workers workers ≡ true) × MayLackMemory lines

-- the report of these rows and endpoints under a configuration, as text
abbrev pub report_under : SnapshotParts → Configuration → List ℕ
report_under shown configuration =
    report_text (report_of configuration.commands shown.endpoints shown.rows)

-- what may be answered to a trial of these rows and endpoints under a configuration: the report;
-- that a worker's thread could not be started; or that memory ran out
abbrev pub TriesOn : ℕ → SnapshotParts → Configuration → Answer → Type 0
TriesOn sequence shown configuration answer =
    (answer ≡ Tried sequence (report_under shown configuration))
    ⊎ ((answer ≡ TryRefused sequence trial.NoThread)
    ⊎ (answer ≡ trial_without_memory sequence))

module _ {S : Type 0} (MayShow : S → SnapshotParts → Type 0) where
  -- by what the lines of a trial say: a report of what it may be of, under their configuration, or
  -- that a worker's thread could not be started; or their first fault
  abbrev pub TriesBy : S → ℕ → Result Configuration LineFault → Answer → Type 0
  TriesBy s sequence (Ok configuration) answer =
      ((shown : SnapshotParts) × MayShow s shown
      × (answer ≡ Tried sequence (report_under shown configuration)))
      ⊎ (answer ≡ TryRefused sequence trial.NoThread)
  TriesBy s sequence (Err fault) answer =
      answer ≡ TryRefused sequence (trial.Misconfigured fault)

  -- what may be answered to a trial: that, or that memory ran out for it; if there may not be so
  -- many workers, that comes before what the lines say
  abbrev pub MayTry : S → ℕ → ℕ → List (List ℕ) → Answer → Type 0
  MayTry s sequence workers lines answer =
      MatchBool (are_workers workers)
      (TriesBy s sequence (reading_in lines) answer
      ⊎ ((answer ≡ trial_without_memory sequence) × MayLackMemory lines))
      (answer ≡ TryRefused sequence trial.BadWorkers)

-- ---- requests
module _ {S : Type 0} (MayReply : S → PlainEvent → CoreReply → S → Type 0)
    (MayShow : S → SnapshotParts → Type 0) where
  -- what may be answered, by what is asked; a trial leaves the answerer as it was
  abbrev pub MayMeet : S → ℕ → Demand → Answer → S → Type 0
  MayMeet old sequence (AnEvent event) answer new =
      Replies MayReply old sequence event answer new
  MayMeet old sequence (AReload lines) answer new =
      MayReload MayReply old sequence lines answer new
  MayMeet old sequence (ATrial workers lines) answer new =
      MayTry MayShow old sequence workers lines answer × (new ≡ old)

  -- a request may be answered so in the old state, and the new one is the state after it
  abbrev pub MayAnswer : S → Request → Answer → S → Type 0
  MayAnswer old request answer new = MayMeet old (sequence_of request) (demand_of request) answer new
