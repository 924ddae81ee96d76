use Rattle.std.specs.Prelude.{Result}
use Rattle.gk_terms.specs.Text.{lines_of}
use Rattle.gk_commands.specs.declared.faults.LineFault.{LineFault}
use Rattle.gk_commands.specs.Progress.{Progress}
use Rattle.gk_commands.specs.Reading.{nothing_read, MayReadOn}
use Rattle.command_reader.proofs.reading.lines_in.Given as goal

-- whatever may be answered of the lines that are left, after those read, may be answered of all
-- lines
abbrev pub invariant-loop-line : goal.invariant-loop-line
invariant-loop-line l =
    (end : Result Progress LineFault) → MayReadOn l.draft (lines_of l.line-iterator) end → MayReadOn
    nothing_read (lines_of l.fn.bytes) end
