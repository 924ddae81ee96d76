-- How the entries of a record are held. A reader of the contracts need not know it.
use Rattle.std.specs.Prelude.{◌≡◌, ◌≤◌, ℕ, ◌==◌, min, List, ◌∷◌, length, map, filter_map, slice_get, Option, Some, None, if◌then◌else◌}
use Rattle.std.specs.List.{AllByRecursion}
use Rattle.gk_commands.specs.declared.commands.Command.{Command}
use Rattle.byte_log.specs.Parts.{LogParts}
use Rattle.field_bytes.specs.Fields.{◌>>=◌, byte_in, number_bytes, number_in}
use Rattle.entry_bytes.specs.Entry.{PlainEntry}
use Rattle.entry_bytes.specs.EntryBytes.{entry_in}
use Rattle.entry_bytes.specs.ReadEvent.{HasRightEndpoint}
use Rattle.decision_record.specs.History.{in_force_after, in_force_of}
use Rattle.decision_record.specs.Reloads.{ReloadsParts}

-- ---- items of the log
-- the item of the reload at this place among the reloads: a byte with which no other entry begins,
-- and the place
abbrev pub reload_item : (place : ℕ) → List ℕ
reload_item place = 255 ∷ number_bytes place

-- the reload at the place that the bytes are
abbrev pub reload_in : (reloads : List PlainEntry) → List ℕ → Option PlainEntry
reload_in reloads bytes = number_in bytes >>= λ place. slice_get reloads place.0

-- what an item means beside the reloads, by its first byte
abbrev pub item_by : (reloads : List PlainEntry) → List ℕ → (first : ℕ) → List ℕ → Option PlainEntry
item_by reloads bytes first rest =
    if first == 255 then reload_in reloads rest else entry_in bytes

abbrev pub item_meant : (reloads : List PlainEntry) → List ℕ → Option PlainEntry
item_meant reloads bytes = byte_in bytes >>= λ first. item_by reloads bytes first.0 first.1

-- an entry was read, and its endpoint, if it has one, is whole
abbrev pub MeansEntry : Option PlainEntry → Type 0
MeansEntry None = ⊥
MeansEntry (Some e) = HasRightEndpoint e.event

-- ---- the record
-- the entries, in order
abbrev pub entries_told : LogParts → ReloadsParts → List PlainEntry
entries_told log reloads = filter_map (item_meant reloads.entries) log.items

-- for how many further short entries both have room
abbrev pub room_in : LogParts → ReloadsParts → ℕ
room_in log reloads = min log.room reloads.room

-- the items mean these entries, whose endpoints are whole; there are no more
-- reloads than entries; and both have room for the kept places
pub record IsStored (log : LogParts) (reloads : ReloadsParts) (entries : List PlainEntry) (kept : ℕ)
    : Type 0 where
  pub meant : map (item_meant reloads.entries) log.items ≡ map Some entries
  pub right : AllByRecursion (λ (e : PlainEntry). HasRightEndpoint e.event) entries
  pub few_reloads : length reloads.entries ≤ length entries
  pub room : kept ≤ log.room
  pub room_reloads : kept ≤ reloads.room

-- the commands that the last reload put in force, if there was one, and else the opening ones, are
-- those in force after these entries
abbrev pub IsLastReload : List Command → Option (List Command) → List PlainEntry → Type 0
IsLastReload opening last entries = in_force_after opening last ≡ in_force_of opening entries
