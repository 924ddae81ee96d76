use Rattle.gk_commands.specs.Printing.{command_words}
use Rattle.gk_lines.proofs.LineBufferLemmas.{line_whole}
use Rattle.command_reader.proofs.CanonicalLemmas.{line_fits}
use Rattle.command_reader.proofs.canonical_lines.make_line.Goals as goal

pub returns : goal.returns
returns c = rw (c.push_byte.ensures, c.make_words.ensures)
    (line_whole (command_words c.args.command.now) (line_fits (command_words c.args.command.now)
    c.requires.fits))
