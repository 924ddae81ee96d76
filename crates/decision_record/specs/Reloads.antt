-- How the reloads of a record are held. A reader of the contracts need not know it.
use Rattle.std.specs.Prelude.{◌≡◌, ◌<◌, ◌≤◌, ℕ, ◌+◌, List, [], ◌++◌, length, map, slice_get, Option, Some, None, IfSome}
use Rattle.std.specs.Option.{option_map, unwrap_or}
use Rattle.std.specs.List.{AllByRecursion, cons_option}
use Rattle.std.specs.Arc.{arc_value}
use Rattle.gk_commands.specs.declared.commands.Command.{Command}
use Rattle.pieces.specs.Pieces.{PiecesParts}
use Rattle.entry_bytes.specs.Entry.{PlainEntry}
use Rattle.decision_record.specs.History.{reload_entry}
use Rattle.decision_record.specs.declared.reloads.PastConfiguration.{PastConfiguration}
use Rattle.decision_record.specs.declared.reloads.PastConfiguration.TheVariants as past
use Rattle.decision_record.specs.declared.reloads.PastReload.{PastReload}
use Rattle.decision_record.specs.declared.reloads.LastReload.{LastReload}

-- the entries of the reloads, the commands that the last one put in force, and for how many further
-- ones there is at least room without memory
pub record ReloadsParts : Type 0 where
  pub entries : List PlainEntry
  pub last : Option (List Command)
  pub room : ℕ

-- the entry is that of a reload
abbrev pub IsReload : PlainEntry → Type 0
IsReload e = (commands : List Command) × (version : ℕ) × (e ≡ reload_entry commands version)

-- what the known lines say
abbrev pub Texts : Type 0
Texts = List (List Command)

-- the commands that were in force
abbrev pub commands_past : Texts → PastConfiguration → List Command
commands_past texts (past.Lines place) = unwrap_or (slice_get texts place) []
commands_past texts (past.Commands commands) = commands.commands
commands_past texts (past.Tables tables) = (arc_value tables).commands

-- the place of its lines among the known ones
abbrev pub place_of : PastConfiguration → Option ℕ
place_of (past.Lines place) = Some place
place_of (past.Commands commands) = None
place_of (past.Tables tables) = None

abbrev pub IsPlaced : Texts → PastConfiguration → Type 0
IsPlaced texts configuration = IfSome (place_of configuration) (λ place. place < length texts)

-- each text that was known has its place still; at most one place of the room is taken, and none
-- is added
pub record KeepsTexts (old new : PiecesParts (List Command)) : Type 0 where
  pub kept : (place : ℕ) → place < length old.items
      → slice_get new.items place ≡ slice_get old.items place
  pub more : length old.items ≤ length new.items
  pub room : old.room ≤ new.room + 1
  pub most : new.room ≤ old.room

-- those that are
abbrev pub commands_last : LastReload → List Command
commands_last reload = (arc_value reload.tables).commands

-- the values of their entries
abbrev pub plain_past : Texts → PastReload → PlainEntry
plain_past texts reload =
    reload_entry (commands_past texts reload.configuration) reload.version

abbrev pub plain_last : LastReload → PlainEntry
plain_last reload = reload_entry (commands_last reload) reload.version

-- the entries in order
abbrev pub reloads_told : Texts → List PastReload → Option LastReload → List PlainEntry
reloads_told texts past last =
    map (plain_past texts) past ++ cons_option (option_map plain_last last) []

-- the lines of each past one have a place among the known ones
abbrev pub ArePlaced : Texts → List PastReload → Type 0
ArePlaced texts past = AllByRecursion (λ reload. IsPlaced texts reload.configuration) past
