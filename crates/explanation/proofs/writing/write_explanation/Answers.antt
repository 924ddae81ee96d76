use Rattle.std.proofs.Common.{subst}
use Rattle.std.specs.Io.KnownBytes.{Appends}
use Rattle.explanation.proofs.writing.write_explanation.Goals as goal

pub returns-in-Ok-write_whole-clause-written : goal.returns-in-Ok-write_whole-clause-written
returns-in-Ok-write_whole-clause-written g c = (
  c.in-Ok.text,
  c.in-Ok.ensures,
  subst (Appends (g.W.Sink.contents c.args.writer.now)
      (g.W.Sink.contents c.write_whole.new.sink)) c.as_bytes.ensures
      c.in-Ok-write_whole.ensures.whole,
)
