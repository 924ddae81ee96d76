use Rattle.std.proofs.Common.{◌∷◌}
use Rattle.gk_terms.specs.Text.{words_of}
use Rattle.command_reader.proofs.one_by_one.NameLemmas.{AreNames}
use Rattle.command_reader.proofs.fields.names_from.Given as goal

-- the words before those that are left are names, and they are held
abbrev pub invariant-loop-word : goal.invariant-loop-word
invariant-loop-word l = AreNames (l.fn.first ∷ words_of l.fn.words) (words_of l.word-iterator)
    l.names
