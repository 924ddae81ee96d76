-- What every core keeps. A reader of the contracts need not know it.
use Rattle.std.specs.Prelude.{◌≡◌, ◌≤◌, ℕ, ◌+◌, Bool, List, length, if◌then◌else◌}
use Rattle.std.specs.List.{AllByRecursion}
use Rattle.gk_commands.specs.Accepted.{IsAccepted}
use Rattle.bandwidth.specs.declared.open_call.OpenCall.{OpenCall}
use Rattle.rulings.specs.State.{State}
use Rattle.decision_record.specs.Drafts.{DraftParts}
use Rattle.decision_record.specs.History.{RecordParts, IsLegal, replay, generations_of}

-- the places that are kept for a reload
abbrev pub places_reserved : Bool → ℕ
places_reserved reserved = if reserved then 1 else 0

-- the machine is in the state that a legal history leaves, each configuration that was put in force
-- was accepted, and each open call has a kept place for the entry of its release, and a reserved
-- reload one for its own
pub record IsOrderKept (opening : State) (history : RecordParts) (machine : State) (reserved : Bool)
    : Type 0 where
  pub legal : IsLegal opening history.entries
  pub replayed : machine ≡ replay opening history.entries
  pub accepted : AllByRecursion IsAccepted (generations_of opening.commands history.entries)
  pub kept : length machine.calls + places_reserved reserved ≤ history.kept

-- while a call is open, there is room to write the entry of its release
abbrev pub IsReady : List OpenCall → DraftParts → Type 0
IsReady calls draft = 1 ≤ length calls → 138 ≤ draft.room
