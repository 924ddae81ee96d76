use Rattle.std.proofs.Common.{◌≡◌, ◌≤◌}
use Rattle.gk_lines.specs.Streams.{KnownStep}
use Rattle.gk_lines.specs.LineReader.{work_left, left_of, AtEndIfEnded, CountsTurns}
use Rattle.configuration_reader.proofs.ConfigurationLemmas.{IsReading}
use Rattle.configuration_reader.proofs.configuration.read_configuration.Given as goal

abbrev pub invariant-loop-read : goal.invariant-loop-read
invariant-loop-read g l =
    let remaining = g.R.Source.remaining in
    record {
      ended : AtEndIfEnded l.lines (remaining l.reader);
      under_way : KnownStep (left_of l.fn.lines (remaining l.fn.reader))
          (left_of l.lines (remaining l.reader)) (IsReading l.until l.lines.ended l.read);
      turns : CountsTurns (g.R.Source.calls l.fn.reader) (g.R.Source.calls l.reader)
          l.fn.lines.turns l.lines.turns;
      noted : g.R.Source.failures l.reader ≡ g.R.Source.failures l.fn.reader;
    }

abbrev pub decreases-loop-read : goal.decreases-loop-read
decreases-loop-read g l = work_left l.lines
