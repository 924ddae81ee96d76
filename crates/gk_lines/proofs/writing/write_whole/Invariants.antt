use Rattle.std.proofs.Common.{◌≡◌, length}
use Rattle.gk_lines.specs.Streams.{AppendsUpTo}
use Rattle.gk_lines.proofs.writing.write_whole.Given as goal

abbrev pub invariant-loop-rest : goal.invariant-loop-rest
invariant-loop-rest g l = record {
  written : AppendsUpTo (g.W.Sink.contents l.fn.sink) (g.W.Sink.contents l.sink) l.fn.bytes l.rest;
  noted : g.W.Sink.failures l.sink ≡ g.W.Sink.failures l.fn.sink;
}

abbrev pub decreases-loop-rest : goal.decreases-loop-rest
decreases-loop-rest g l = length l.rest
