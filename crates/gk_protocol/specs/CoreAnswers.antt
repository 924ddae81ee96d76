-- The answers of a core to requests.
use Rattle.std.specs.Prelude.{◌≡◌, ℕ, List, Result}
use Rattle.gk_commands.specs.declared.faults.LineFault.{LineFault}
use Rattle.gk_commands.specs.Configuration.{Configuration}
use Rattle.rulings.specs.Events.{PlainEvent}
use Rattle.call_rows.specs.Rows.{SnapshotParts}
use Rattle.decision_record.specs.History.{CoreParts, MayReply, state_of}
use Rattle.decision_record.specs.Rows.{rows_of}
use Rattle.gk_protocol.specs.declared.requests.Request.{Request}
use Rattle.gk_protocol.specs.declared.answers.Answer.{Answer}
use Rattle.gk_protocol.specs.Demands.{Demand}
use Rattle.gk_protocol.specs.Answering as answering

-- the answer is the core's reply to an event, and repeats the request's sequence number
abbrev pub Replies : CoreParts → ℕ → PlainEvent → Answer → CoreParts → Type 0
Replies old sequence event answer new = answering.Replies MayReply old sequence event answer new

-- ---- reloads
-- by what the lines say: the core's reply to their configuration; or their first fault, which
-- leaves the core
abbrev pub ReloadsBy : CoreParts → ℕ → Result Configuration LineFault → Answer → CoreParts → Type 0
ReloadsBy old sequence read answer new = answering.ReloadsBy MayReply old sequence read answer new

-- what may be answered to a reload: that; or that memory ran out for the lines, which leaves the
-- core
abbrev pub MayReload : CoreParts → ℕ → List (List ℕ) → Answer → CoreParts → Type 0
MayReload old sequence lines answer new =
    answering.MayReload MayReply old sequence lines answer new

-- ---- trials
-- what a trial is of: the rows of the core's record, and its endpoints
abbrev pub shown_by : CoreParts → SnapshotParts
shown_by core = record {
  rows = rows_of core.opening core.entries;
  endpoints = (state_of core).endpoints;
}

-- a trial may be of nothing else
abbrev pub MayShow : CoreParts → SnapshotParts → Type 0
MayShow core shown = shown ≡ shown_by core

-- the report of a core's record and endpoints under another configuration, as text
abbrev pub report_under : CoreParts → Configuration → List ℕ
report_under core configuration = answering.report_under (shown_by core) configuration

-- by what the lines say: the report under their configuration, or that a worker's thread could not
-- be started; or their first fault
abbrev pub TriesBy : CoreParts → ℕ → Result Configuration LineFault → Answer → Type 0
TriesBy core sequence read answer = answering.TriesBy MayShow core sequence read answer

-- what may be answered to a trial: that, or that memory ran out for it; if there may not be so many
-- workers, that comes before what the lines say
abbrev pub MayTry : CoreParts → ℕ → ℕ → List (List ℕ) → Answer → Type 0
MayTry core sequence workers lines answer =
    answering.MayTry MayShow core sequence workers lines answer

-- ---- requests
-- what may be answered, by what is asked; a trial leaves the core as it was
abbrev pub MayMeet : CoreParts → ℕ → Demand → Answer → CoreParts → Type 0
MayMeet old sequence demand answer new =
    answering.MayMeet MayReply MayShow old sequence demand answer new

-- a core may answer a request so, and be the new one after it
abbrev pub MayAnswer : CoreParts → Request → Answer → CoreParts → Type 0
MayAnswer old request answer new = answering.MayAnswer MayReply MayShow old request answer new
