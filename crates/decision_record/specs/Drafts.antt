-- An entry that is written, and not in the record yet.
use Rattle.std.specs.Prelude.{◌≡◌, ◌≤◌, ℕ, List, length, Option, None, IfSome}
use Rattle.rulings.specs.Events.{put_in_force}
use Rattle.entry_bytes.specs.Entry.{PlainEntry}
use Rattle.entry_bytes.specs.EntryBytes.{entry_in}
use Rattle.entry_bytes.specs.ReadEvent.{HasRightEndpoint}

-- the entry, if one was written; how many bytes it has; and how many there is room for without
-- memory
pub record DraftParts : Type 0 where
  pub entry : Option PlainEntry
  pub bytes : ℕ
  pub room : ℕ

-- the entry is not a reload, and its endpoint is whole. A reader of the contracts need not know it.
pub record IsRight (e : PlainEntry) : Type 0 where
  pub other : put_in_force e.event ≡ None
  pub endpoint : HasRightEndpoint e.event

pub record IsDraft (bytes : List ℕ) : Type 0 where
  pub right : IfSome (entry_in bytes) IsRight
  pub most : length bytes ≤ 1396
