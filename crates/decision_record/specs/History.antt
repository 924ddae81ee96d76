-- The record of a core: a legal history, and the state that it leaves.
use Rattle.std.specs.Prelude.{◌≡◌, ◌⊎◌, ℕ, ◌+◌, ◌-◌, ◌==◌, Bool, false, true, IsTrue, ⊤, List, [], ◌∷◌, ◌++◌, length, filter_map, slice_get, Option, Some, None, Result, MatchResult, if◌then◌else◌}
use Rattle.gk_commands.specs.declared.commands.Command.{Command}
use Rattle.gk_commands.specs.Configuration.{Configuration}
use Rattle.rulings.specs.State.{State}
use Rattle.rulings.specs.Events.{PlainEvent, Reloading, kind_of, id_of, call_number_of, put_in_force}
use Rattle.rulings.specs.Ruling.{ruling_of}
use Rattle.rulings.specs.Lacks.{no_memory_reply_of}
use Rattle.rulings.specs.Step.{step}
use Rattle.rulings.specs.declared.replies.Reply.{Reply}
use Rattle.rulings.specs.declared.replies.Reply.TheVariants as reply
use Rattle.entry_bytes.specs.Entry.{PlainEntry, asked_id, entry_by, unrouted_entry}
use Rattle.entry_bytes.specs.ReadEntry.{entry_read}
use Rattle.entry_bytes.specs.declared.brief_event.BriefEvent.{BriefEvent}
use Rattle.decision_record.specs.declared.entries.Entry.{Entry}
use Rattle.decision_record.specs.declared.entries.Entry.TheVariants as entry
use Rattle.decision_record.specs.declared.entries.ReloadedCommands.{ReloadedCommands}
use Rattle.decision_record.specs.declared.entries.ReloadedCommands.TheVariants as kept_as
use Rattle.decision_record.specs.declared.entries.Receipt.{Receipt}

-- ---- entries
-- what the record has of a reload: its commands, with the count of the lines that were passed over;
-- or the lines of the commands alone
abbrev pub configuration_reloaded : ReloadedCommands → Configuration
configuration_reloaded (kept_as.Commands commands) = commands.now
configuration_reloaded (kept_as.Lines lines) = record { commands = lines.now; passed = 0 }

-- the commands of a reload
abbrev pub commands_reloaded : ReloadedCommands → List Command
commands_reloaded reloaded = (configuration_reloaded reloaded).commands

-- the record has lines, so it takes memory to read the commands
abbrev pub AreKeptAsLines : ReloadedCommands → Type 0
AreKeptAsLines (kept_as.Commands commands) = ⊥
AreKeptAsLines (kept_as.Lines lines) = ⊤

-- the entry of a reload of these commands, as this version
abbrev pub reload_entry : List Command → (version : ℕ) → PlainEntry
reload_entry commands version = unrouted_entry (Reloading commands) (reply.Reloaded version)

-- the values of an entry
abbrev pub plain_entry : Entry → PlainEntry
plain_entry (entry.Asked read) = entry_read read
plain_entry (entry.Reload commands version) = reload_entry (commands_reloaded commands) version

-- what is recorded of an event
abbrev pub entry_of : State → PlainEvent → PlainEntry
entry_of s event = entry_by event (ruling_of s event)

-- ---- histories
-- each entry is what is recorded of its event in the state that the entries before it leave
abbrev pub IsLegal : State → List PlainEntry → Type 0
IsLegal s [] = ⊤
IsLegal s (e ∷ es) =
    (e ≡ entry_of s e.event) × IsTrue (step s e.event).recorded × IsLegal (step s e.event).state es

-- the state that a history leaves
abbrev pub replay : State → List PlainEntry → State
replay s [] = s
replay s (e ∷ es) = replay (step s e.event).state es

-- ---- a core
-- what a core holds: its opening state, its record, and whether a place of the record is reserved
-- for a reload
pub record CoreParts : Type 0 where
  pub opening : State
  pub entries : List PlainEntry
  pub reserved : Bool

-- the state of a core is the replay of its record
unfoldable pub state_of : CoreParts → State
state_of core = replay core.opening core.entries

-- with the entry of one more event; then nothing is reserved
abbrev pub with_entry : CoreParts → PlainEvent → CoreParts
with_entry core event =
    record core {
      entries = core.entries ++ entry_of (state_of core) event ∷ [];
      reserved = false;
    }

-- ---- receipts
-- the receipt of the entry with this number
abbrev pub receipt_of : ℕ → PlainEntry → Receipt
receipt_of number e = record {
  number = number;
  kind = kind_of e.event;
  id = id_of e.event;
  call = call_number_of e.event;
  reply = e.reply;
}

-- the receipt is of such an event of the same endpoint and call
pub record IsOfEvent (event : PlainEvent) (receipt : Receipt) : Type 0 where
  pub kind : receipt.kind ≡ kind_of event
  pub call : receipt.call ≡ call_number_of event
  pub id : receipt.id ≡ Some (asked_id event)

-- the same of an event that asked this
pub record IsOfAsked (asked : BriefEvent) (receipt : Receipt) : Type 0 where
  pub kind : receipt.kind ≡ asked.kind
  pub call : receipt.call ≡ asked.call
  pub id : receipt.id ≡ Some asked.id

-- the entry of this number, counted from 1
abbrev pub entry_of_number : List PlainEntry → ℕ → Option PlainEntry
entry_of_number entries number = if number == 0 then None else slice_get entries (number - 1)

-- the receipt is that of the entry at its number
abbrev pub Stands : List PlainEntry → Receipt → Type 0
Stands entries receipt =
    (e : PlainEntry) × (entry_of_number entries receipt.number ≡ Some e)
    × (receipt ≡ receipt_of receipt.number e)

-- ---- generations
-- the commands in force after an event
abbrev pub in_force_after : List Command → Option (List Command) → List Command
in_force_after commands None = commands
in_force_after commands (Some others) = others

-- the commands in force after a history that opened with these
abbrev pub in_force_of : List Command → List PlainEntry → List Command
in_force_of commands [] = commands
in_force_of commands (e ∷ es) = in_force_of (in_force_after commands (put_in_force e.event)) es

-- the commands that were put in force, the opening ones first
abbrev pub generations_of : List Command → List PlainEntry → List (List Command)
generations_of commands entries = commands ∷ filter_map (λ e. put_in_force e.event) entries

-- the same of a core
abbrev pub generations : CoreParts → List (List Command)
generations core = generations_of core.opening.commands core.entries

-- ---- the record
-- the commands that were in force before the first entry; the entries; how many places are kept for
-- further ones; and for how many there is room without memory, if they are short: of 138 bytes at
-- most
pub record RecordParts : Type 0 where
  pub opening : List Command
  pub entries : List PlainEntry
  pub kept : ℕ
  pub room : ℕ

-- the commands in force after its entries
abbrev pub in_force : RecordParts → List Command
in_force record_parts = in_force_of record_parts.opening record_parts.entries

-- ---- what a call of a core does
-- the event was recorded: the machine's reply, the receipt of the new entry, and the record with
-- that entry
pub record IsRecorded
    (old : CoreParts) (event : PlainEvent) (reply : Reply) (receipt : Receipt) (new : CoreParts)
    : Type 0 where
  pub recorded : (step (state_of old) event).recorded ≡ true
  pub reply_is : reply ≡ (step (state_of old) event).reply
  pub receipt_is : receipt ≡ receipt_of (length old.entries + 1) (entry_of (state_of old) event)
  pub new_is : new ≡ with_entry old event

-- the reply to an event that was not recorded: the machine's; or no-memory, which comes last, so
-- only if the machine would have recorded the event
abbrev pub unrecorded_reply : State → PlainEvent → Option Reply
unrecorded_reply s event =
    if (step s event).recorded then no_memory_reply_of event else Some (step s event).reply

-- it was not recorded, and nothing changes
pub record IsUnrecorded
    (old : CoreParts) (event : PlainEvent) (reply : Reply) (new : CoreParts)
    : Type 0 where
  pub reply_is : unrecorded_reply (state_of old) event ≡ Some reply
  pub unchanged : new ≡ old

abbrev pub Steps : CoreParts → PlainEvent → Result (Reply × Receipt) Reply → CoreParts → Type 0
Steps old event result new =
    MatchResult result (λ ok. IsRecorded old event ok.0 ok.1 new)
    (λ reply. IsUnrecorded old event reply new)

-- a core may give this reply to the event, recorded or not, and be the new one after it
abbrev pub MayReply : CoreParts → PlainEvent → Reply → CoreParts → Type 0
MayReply old event reply new =
    ((receipt : Receipt) × IsRecorded old event reply receipt new)
    ⊎ IsUnrecorded old event reply new

-- the core after an event, if memory lasts
abbrev pub core_after : CoreParts → PlainEvent → CoreParts
core_after core event =
    if (step (state_of core) event).recorded then with_entry core event else core
