-- A block that is full, and can be freed.
use Rattle.std.specs.Prelude.{◌≡◌, ◌^◌, ◌<◌, length}
use Rattle.raw_trie.specs.declared.block.Block.TheInside.{Inside}

-- the lease is that of the words, and the room is full
pub record IsWholeBlock (b : Inside) : Type 0 where
  pub heap : b.lease.alloc ≡ b.alloc
  pub start : b.lease.at ≡ b.words.at
  pub leased : b.lease.room ≡ b.words.room
  pub counted : b.room ≡ b.words.room
  pub full : length b.words.words ≡ b.room
  pub small : b.room < 2 ^ 40
