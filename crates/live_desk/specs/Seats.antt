-- What is seen of a seat and of what lies under the lock, and what a seat's calls say.
use Rattle.std.specs.Prelude.{◌≡◌, ◌==◌, ◌-◌, ⊤, Ok, Err, if◌then◌else◌, [], ◌∷◌, ℕ, ◌+◌, ◌≤◌, ◌<◌, ◌⊎◌, ◌↔◌, List, length, Bool, false, Option, Some, IfSome, Result, All, slice_get}
use Rattle.std.specs.Option.{IsSomeAnd}
use Rattle.std.specs.List.{AllByRecursion, sum_by}
use mathlib.Core.List.{IsPrefix}
use Rattle.gk_commands.specs.declared.commands.Command.{Command}
use Rattle.compiler.specs.declared.plans.Routed.{Routed}
use Rattle.compiler.specs.Plan.{plan_of, target_of}
use Rattle.rulings.specs.State.{State}
use Rattle.rulings.specs.Events.{PlainEvent, Registering, Unregistering, Admitting, Answering, Changing, Releasing, Reloading, kind_of, id_of, call_number_of}
use Rattle.rulings.specs.declared.replies.Reply.{Reply}
use Rattle.rulings.specs.declared.replies.Reply.TheVariants.{Reloaded, ReloadRefused}
use Rattle.rulings.specs.declared.replies.ReloadRefusal.{ReloadRefusal}
use Rattle.rulings.specs.declared.replies.ReloadRefusal.TheVariants.{NoMemory}
use Rattle.decision_record.specs.declared.entries.Receipt.{Receipt}
use Rattle.call_rows.specs.Rows.{SnapshotParts}
use Rattle.entry_bytes.specs.Entry.{PlainEntry}
use Rattle.decision_record.specs.History.{CoreParts, IsLegal, Stands, state_of, Steps, generations}
use Rattle.decision_record.specs.Rows.{rows_of}
use Rattle.publisher.specs.Generations.{commands_of}
use Rattle.admission.specs.Answering.{digits_asked}
use Rattle.admission.specs.HistoryLaws.{AreAccepted}

-- ---- a core
-- a core with this history, and no place reserved for a reload
abbrev pub held : State → List PlainEntry → CoreParts
held opening entries = record { opening = opening; entries = entries; reserved = false }

-- a core, whether or not a place is reserved
abbrev pub unreserved : CoreParts → CoreParts
unreserved core = held core.opening core.entries

-- ---- histories
-- it is legal, and each configuration that was put in force, the opening one too, was accepted
pub record IsLawful (opening : State) (history : List PlainEntry) : Type 0 where
  pub legal : IsLegal opening history
  pub accepted : AllByRecursion AreAccepted (generations (held opening history))

-- ---- seats
-- a seat: how many of its events were recorded, the receipt of the last, whether that was once not
-- found, the generations that it has seen, and whether it once did not see those in force
pub record SeatParts : Type 0 where
  pub share : ℕ
  pub last : Option Receipt
  pub astray : Bool
  pub seen : List (List Command)
  pub lost : Bool

-- what lies under the lock: what was recorded, the book's total, how many seats were given out, and
-- how many there are
pub record RoomParts : Type 0 where
  pub entries : List PlainEntry
  pub booked : ℕ
  pub given : ℕ
  pub most : ℕ

-- ---- plans
-- the plan is what the last of these generations says of the digits, under their number
pub record IsRouted (list : List (List Command)) (r : Routed) : Type 0 where
  pub version : r.version ≡ length list
  pub plan : target_of (commands_of list r.version) r.plan
      ≡ Some (plan_of (commands_of list r.version) r.dialled)

-- the same of a beginning of these generations
pub record IsBehind (all : List (List Command)) (r : Routed) : Type 0 where
  pub before : List (List Command)
  pub front : IsPrefix before all
  pub routed : IsRouted before r

-- a plan for the digits of an event, by some of what a seat has seen
abbrev pub IsPlanFor : PlainEvent → List (List Command) → Routed → Type 0
IsPlanFor event list r = IsRouted list r × (digits_asked event ≡ Some r.dialled)

-- the same by a beginning of these generations
abbrev pub IsPlanBehind : PlainEvent → List (List Command) → Routed → Type 0
IsPlanBehind event all r = IsBehind all r × (digits_asked event ≡ Some r.dialled)

-- ---- receipts
-- the receipt, if there is one, stands at its number
abbrev pub LastStands : List PlainEntry → Option Receipt → Type 0
LastStands entries last = IfSome last (Stands entries)

-- the seat is not astray, and its last receipt stands
abbrev pub IsFound : List PlainEntry → SeatParts → Type 0
IsFound entries s = (s.astray ≡ false) × LastStands entries s.last

-- the receipt names what was asked, and the reply
abbrev pub IsReceiptOf : PlainEvent → Reply → Receipt → Type 0
IsReceiptOf event reply r =
    (r.kind ≡ kind_of event) × (r.id ≡ id_of event) × (r.call ≡ call_number_of event)
    × (r.reply ≡ reply)

-- some lawful history, not shorter than the seat's share, in which its last receipt stands unless it
-- is astray, is led on by the event with this answer; unless the seat is lost, it has seen just the
-- generations that are in force then
pub record Asked
    (opening : State) (before : SeatParts) (event : PlainEvent)
    (answer : Result (Reply × Receipt) Reply) (after : SeatParts)
    : Type 0 where
  pub history : List PlainEntry
  pub next : List PlainEntry
  pub lawful : IsLawful opening history
  pub long : before.share ≤ length history
  pub found : after.astray ≡ false ↔ IsFound history before
  pub answers : Steps (held opening history) event answer (held opening next)
  pub seen : after.lost ≡ false → after.seen ≡ generations (held opening next)

-- ---- snapshots
-- the rows and endpoints of a history
abbrev pub snapshot_of : State → List PlainEntry → SnapshotParts
snapshot_of opening history = record {
  rows = rows_of opening history;
  endpoints = (state_of (held opening history)).endpoints;
}

-- a seat that looked for its last receipt in some lawful history, not shorter than its share: it
-- is astray unless it was found there, and else as it was
pub record Looks (opening : State) (before after : SeatParts) : Type 0 where
  pub history : List PlainEntry
  pub lawful : IsLawful opening history
  pub long : before.share ≤ length history
  pub found : after.astray ≡ false ↔ IsFound history before
  pub same : after ≡ record before { astray = after.astray }

-- the snapshot is that of the history in which the seat looked for its last receipt
abbrev pub IsSnapshotFor : State → SeatParts → SeatParts → SnapshotParts → Type 0
IsSnapshotFor opening before after snapshot =
    (looks : Looks opening before after) × (snapshot ≡ snapshot_of opening looks.history)

-- ---- reloads
-- these commands are the generation of the version that is replied
abbrev pub IsPutAs : List Command → Reply → List (List Command) → Type 0
IsPutAs commands reply list =
    (version : ℕ) × (reply ≡ Reloaded version) × (0 < version)
    × (slice_get list (version - 1) ≡ Some commands)

-- a reload that was recorded has put its commands in force; one that was not is refused as a reload
abbrev pub IsPut
    : PlainEvent → Result (Reply × Receipt) Reply → List (List Command) → Type 0
IsPut (Registering endpoint) answer list = ⊤
IsPut (Unregistering id) answer list = ⊤
IsPut (Admitting id call digits units) answer list = ⊤
IsPut (Answering id call units) answer list = ⊤
IsPut (Changing id call units) answer list = ⊤
IsPut (Releasing id call) answer list = ⊤
IsPut (Reloading commands) (Ok answer) list = IsPutAs commands answer.0 list
IsPut (Reloading commands) (Err reply) list =
    (reason : ReloadRefusal) × (reply ≡ ReloadRefused reason)

-- it is answered as a reload: with a version, or with the reason of its refusal
abbrev pub IsReloadAnswer : Result (Reply × Receipt) Reply → Type 0
IsReloadAnswer (Ok answer) = (version : ℕ) × (answer.0 ≡ Reloaded version)
IsReloadAnswer (Err reply) = (reason : ReloadRefusal) × (reply ≡ ReloadRefused reason)

-- the answer to a reload, as the reply under the lock that it tells of
abbrev pub as_replied : Result (ℕ × Receipt) ReloadRefusal → Result (Reply × Receipt) Reply
as_replied (Ok told) = Ok (Reloaded told.0, told.1)
as_replied (Err reason) = Err (ReloadRefused reason)

-- some lawful history was led on by a reload of these commands with this answer; or memory ran out
-- for their tables, and then nothing was asked, and the seat is as it was
abbrev pub IsReloadOf
    : State → SeatParts → List Command → Result (ℕ × Receipt) ReloadRefusal → SeatParts → Type 0
IsReloadOf opening before commands answer after =
    Asked opening before (Reloading commands) (as_replied answer) after
    ⊎ ((answer ≡ Err NoMemory) × (after ≡ before))

-- ---- all seats
abbrev pub all_shares : List SeatParts → ℕ
all_shares seats = sum_by (λ s. s.share) seats

-- the record is lawful, as long as all shares together, and each seat's last receipt stands in it
pub record IsTheirs (opening : State) (seats : List SeatParts) (entries : List PlainEntry)
    : Type 0 where
  pub lawful : IsLawful opening entries
  pub long : length entries ≡ all_shares seats
  pub found : All (IsFound entries) seats

-- some seat is not found in the record
abbrev pub IsAstrayIn : List PlainEntry → List SeatParts → Type 0
IsAstrayIn entries seats =
    (place : ℕ) × IsSomeAnd (slice_get seats place) (λ s. IsFound entries s → ⊥)

-- in some lawful history some seat is not found
pub record SomeAstray (opening : State) (seats : List SeatParts) : Type 0 where
  pub history : List PlainEntry
  pub lawful : IsLawful opening history
  pub astray : IsAstrayIn history seats

abbrev pub IsBadCount : ℕ → Type 0
IsBadCount seats = (seats ≡ 0) ⊎ (32 < seats)

-- ---- receipts of a whole run
abbrev pub mark : ℕ → ℕ → ℕ
mark n m = if n == m then 1 else 0

-- how many of the receipts have this number
abbrev pub times : ℕ → List Receipt → ℕ
times n [] = 0
times n (r ∷ rs) = mark n r.number + times n rs

-- receipts of different numbers, as many as the record has entries, each of which stands in it, are
-- one of each entry
abbrev pub AreAllAccounted : Type 0
AreAllAccounted =
    (entries : List PlainEntry) (rs : List Receipt)
    → ((n : ℕ) → times n rs ≤ 1) → length rs ≡ length entries → All (Stands entries) rs
    → (n : ℕ) → 0 < n → n ≤ length entries → times n rs ≡ 1
