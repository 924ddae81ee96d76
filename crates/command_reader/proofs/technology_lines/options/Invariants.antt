use Rattle.gk_terms.specs.Text.{words_of}
use Rattle.command_reader.proofs.one_by_one.OptionLemmas.{AreOptions}
use Rattle.command_reader.proofs.technology_lines.options.Given as goal

-- the words before those that are left are options, and they are held
abbrev pub invariant-loop-word : goal.invariant-loop-word
invariant-loop-word l = AreOptions (words_of l.fn.words) (words_of l.word-iterator) l.options
