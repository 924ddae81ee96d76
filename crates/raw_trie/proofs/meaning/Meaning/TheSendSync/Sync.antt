-- A meaning owns nothing, so threads may share it.
use denote.Param.Send.{IsSync, struct_send, whole-keyless}
use denote.Struct.Owning.{shape, to}
use Rattle.raw_trie.specs.contracts.meaning.Meaning.{the_row, the_type}

pub sync : IsSync the_row
sync = record {
  shared =
      λ d b o κ q. whole-keyless _ _
      (λ z vs. ((struct_send (shape the_type) tt).owned (to the_type z) vs, tt)) q d b o;
}
