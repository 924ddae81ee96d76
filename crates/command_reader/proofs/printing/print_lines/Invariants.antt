use Rattle.std.proofs.Common.{◌≡◌, take}
use Rattle.std.specs.Io.KnownBytes.{Appends}
use Rattle.gk_commands.specs.Printing.{text_of}
use Rattle.command_reader.proofs.printing.print_lines.Given as goal

abbrev pub invariant-loop-command : goal.invariant-loop-command
invariant-loop-command g l = record {
  written : Appends (g.W.Sink.contents l.fn.writer) (g.W.Sink.contents l.writer)
      (text_of (take l.command-index l.commands));
  noted : g.W.Sink.failures l.writer ≡ g.W.Sink.failures l.fn.writer;
}
