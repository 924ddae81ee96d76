use denote.Param.Send.{IsSend}
use Rattle.raw_trie.proofs.Crosses.{Words-send}
use Rattle.raw_trie.specs.contracts.memory.Words.{the_row}

pub send : IsSend the_row
send = Words-send
