use Rattle.std.proofs.Common.{sym}
use Rattle.gk_commands.specs.Printing.{hopoff_words, default_words}
use Rattle.gk_lines.proofs.LineBufferLemmas.{words_twice}
use Rattle.command_reader.proofs.canonical_lines.add_technology.Goals as goal

pub returns : goal.returns
returns c =
    rw (c.add_default_technology.ensures, c.add_hopoffs.ensures)
    (sym (words_twice c.args.line.now (hopoff_words c.args.hopoffs.now)
    (default_words c.args.is_default)))
