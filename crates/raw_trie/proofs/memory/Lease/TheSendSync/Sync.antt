use denote.RattleType.{RattleType}
use denote.Param.Send.{IsSync}
use Rattle.std.specs.declared.alloc.Allocator.{Ghosts}
use Rattle.raw_trie.proofs.Crosses.{Lease-sync}
use Rattle.raw_trie.specs.contracts.memory.Lease.{the_row}

pub sync : (A : RattleType) (g : Ghosts A.Denot) → IsSync (the_row A g)
sync = Lease-sync
