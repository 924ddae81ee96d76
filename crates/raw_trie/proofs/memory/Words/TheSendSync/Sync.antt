use denote.Param.Send.{IsSync}
use Rattle.raw_trie.proofs.Crosses.{Words-sync}
use Rattle.raw_trie.specs.contracts.memory.Words.{the_row}

pub sync : IsSync the_row
sync = Words-sync
