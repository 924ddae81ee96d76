use Rattle.std.proofs.Common.{ap, subst, ◌∙◌}
use Rattle.std.specs.Io.KnownBytes.{Appends}
use Rattle.std.proofs.lemmas.List.{take_all}
use Rattle.gk_lines.specs.Streams.{AppendsFront}
use Rattle.gk_commands.specs.Printing.{text_of}
use Rattle.command_reader.proofs.PrintingLemmas.{line_of_command, line_more, front_of_all, OnErr-from}
use Rattle.command_reader.proofs.printing.print_lines.Goals as goal

pub loop-command-preserved : goal.loop-command-preserved
loop-command-preserved g c =
    let contents = g.W.Sink.contents in
    let commands = c.args.commands.now in
    let item = c.command-item.result in
    let bytes = c.as_bytes.ensures ∙ c.make_line.ensures ∙ ap line_of_command c.command-item.is in
    record {
      written = line_more (contents c.args.writer.now) (contents c.loop-command.writer)
          (contents c.write_whole.new.sink) commands
          c.loop-command.command-index item c.loop-command-test.true
          c.loop-command.invariant.written
          (subst (Appends (contents c.loop-command.writer) (contents c.write_whole.new.sink)) bytes
          c.in_ok-write_whole.ensures.whole);
      noted = c.in_ok-write_whole.ensures.noted ∙ c.loop-command.invariant.noted;
    }

pub returns-in_err-write_whole-clause-front : goal.returns-in_err-write_whole-clause-front
returns-in_err-write_whole-clause-front g c =
    let contents = g.W.Sink.contents in
    let commands = c.args.commands.now in
    let item = c.command-item.result in
    let bytes = c.as_bytes.ensures ∙ c.make_line.ensures ∙ ap line_of_command c.command-item.is in
    OnErr-from c.from_residual.result _
    (front_of_all (contents c.args.writer.now) (contents c.loop-command.writer)
    (contents c.write_whole.new.sink) commands
    c.loop-command.command-index item c.loop-command-test.true c.loop-command.invariant.written
    (subst (AppendsFront (contents c.loop-command.writer) (contents c.write_whole.new.sink)) bytes
    c.in_err-write_whole.ensures.front))

pub returns : goal.returns
returns g c =
    let contents = g.W.Sink.contents in
    record {
      whole = subst (λ ns. Appends (contents c.args.writer.now) (contents c.loop-command.writer)
          (text_of ns))
          (take_all c.loop-command.command-index c.args.commands.now c.loop-command-test.false)
          c.loop-command.invariant.written;
      front = tt;
      noted = c.loop-command.invariant.noted;
    }
