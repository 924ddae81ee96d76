use denote.RattleType.{RattleType}
use denote.Param.Send.{IsSend, Frees}
use Rattle.std.specs.declared.alloc.Allocator.{Ghosts}
use Rattle.raw_trie.proofs.Crosses.{Lease-send}
use Rattle.raw_trie.specs.contracts.memory.Lease.{the_row}

pub send : (A : RattleType) (g : Ghosts A.Denot) → IsSend A → Frees g g.dealloc_token
    → IsSend (the_row A g)
send A g s = Lease-send A g
