use Rattle.std.proofs.Common.{◌≡◌, ◌+◌, ◌<◌, length, length-append, Ok, sym, ap, subst, ◌∙◌, arith}
use Rattle.std.specs.HashSet.{keys}
use Rattle.gk_terms.specs.declared.limits.TheConstants.{MOST_LINES}
use Rattle.command_reader.specs.declared.kept.Kept.{Kept}
use Rattle.command_reader.specs.Index.{AreDeclared}
use Rattle.gk_commands.specs.Progress.{Progress, line_count}
use Rattle.command_reader.proofs.read_back.File.{one_more_kept, one_more_printable}
use Rattle.command_reader.proofs.read_back.Line.{command_back}
use Rattle.command_reader.proofs.one_by_one.IndexLemmas.{same_fault, one_more_declared}
use Rattle.command_reader.proofs.one_by_one.KeptLemmas.{line_kept, line_passed, line_refused}
use Rattle.command_reader.proofs.one_by_one.NumberLemmas.{held_commands, held_count, held_more}
use Rattle.gk_commands.specs.WholeLines.{KeepsLine}
use Rattle.command_reader.proofs.draft.Draft.read_line.Goals as goal

pub returns-in-Err : goal.returns-in-Err
returns-in-Err c =
    let room : line_count c.args.self.now < MOST_LINES = omega
    (arith, c.if-before-ge-MOST_LINES.false, c.line_count-before.ensures.count) in
    let same = held_commands c.self.inside.kept.numbers.items _ _ _ c.self.invariant.0
    c.self.view_is in
    let declared = subst (AreDeclared (keys c.self.inside.kept.declared)) (sym same)
    c.self.invariant.2 in
    let old : Kept = record c.self.inside.kept { line = c.line_count-before.result + 1 } in (
      rw (c.fault_at-in-Err.ensures) (
        ap (λ n. n + 1) c.line_count-before.ensures.count,
        line_refused old c.args.self.now c.args.line.now _ room declared c.in-Err.ensures.0,
      ),
      rw (c.in-Err.ensures.1.commands, c.in-Err.ensures.1.numbers) c.self.view_is,
    )

pub invariant_of-self-then-len-commands_before : goal.invariant_of-self-then-len-commands_before
invariant_of-self-then-len-commands_before c =
    let room : line_count c.args.self.now < MOST_LINES = omega
    (arith, c.if-before-ge-MOST_LINES.false, c.line_count-before.ensures.count) in
    let commands = c.self.inside.kept.commands.items in
    let numbers = c.self.inside.kept.numbers.items in
    let same = held_commands numbers _ _ _ c.self.invariant.0 c.self.view_is in
    let declared = subst (AreDeclared (keys c.self.inside.kept.declared)) (sym same)
    c.self.invariant.2 in
    let old : Kept = record c.self.inside.kept { line = c.line_count-before.result + 1 } in
    let more : length commands < length c.add_line.new.kept.commands.items = omega
    (arith, c.if-len-commands_before.true, c.len.ensures, c.len-commands_before.ensures) in
    let kept = line_kept old c.add_line.new.kept c.args.self.now c.args.line.now room declared
    c.in_default.ensures more in
    let count = held_count numbers _ _ _ c.self.invariant.0 c.self.view_is in
    let one_command : length c.add_line.new.kept.commands.items ≡ length commands + 1 = ap length
    kept.added.commands ∙ length-append commands _ in
    let one_number : length c.add_line.new.kept.numbers.items ≡ length numbers + 1 = ap length
    kept.added.numbers ∙ length-append numbers _ in
    let free = sym (same_fault (keys c.self.inside.kept.declared) commands kept.command
    c.self.invariant.2) ∙ kept.added.free in
    let back = command_back c.args.line.now kept.command kept.said in (
      omega (arith, one_command, one_number, c.self.invariant.0),
      omega (arith, room, one_command, count),
      rw kept.added.commands (one_more_declared _ _ _ _ c.self.invariant.2 kept.added.declared),
      rw kept.added.commands (one_more_printable commands kept.command c.self.invariant.3
          (omega (arith, room, count)) back free),
      rw kept.added.commands (one_more_kept c.self.inside.command_lines c.args.line.now _ commands
          kept.command c.self.invariant.4 (subst (λ lines. KeepsLine lines c.args.line.now
          c.keep_line.result) c.take.ensures.value c.keep_line.ensures) (omega (arith, room, count))
          kept.said free),
    )

pub returns-then-len-commands_before : goal.returns-then-len-commands_before
returns-then-len-commands_before c =
    let room : line_count c.args.self.now < MOST_LINES = omega
    (arith, c.if-before-ge-MOST_LINES.false, c.line_count-before.ensures.count) in
    let numbers = c.self.inside.kept.numbers.items in
    let same = held_commands numbers _ _ _ c.self.invariant.0 c.self.view_is in
    let declared = subst (AreDeclared (keys c.self.inside.kept.declared)) (sym same)
    c.self.invariant.2 in
    let old : Kept = record c.self.inside.kept { line = c.line_count-before.result + 1 } in
    let more : length c.self.inside.kept.commands.items < length c.add_line.new.kept.commands.items
    = omega (arith, c.if-len-commands_before.true, c.len.ensures, c.len-commands_before.ensures)
    in
    let kept = line_kept old c.add_line.new.kept c.args.self.now c.args.line.now room declared
    c.in_default.ensures more in
    let added =
    held_more numbers c.add_line.new.kept.numbers.items c.self.inside.kept.commands.items
    c.add_line.new.kept.commands.items _ c.line_count-before.result c.args.self.now kept.command
    c.self.invariant.0 c.self.view_is c.line_count-before.ensures.count kept.added.commands
    kept.added.numbers in
    kept.after ∙ ap (λ (r : Progress). Ok r) added

pub invariant_of-self-2 : goal.invariant_of-self-2
invariant_of-self-2 c =
    let room : line_count c.args.self.now < MOST_LINES = omega
    (arith, c.if-before-ge-MOST_LINES.false, c.line_count-before.ensures.count) in
    let count = held_count c.self.inside.kept.numbers.items _ _ _ c.self.invariant.0 c.self.view_is
    in
    let old : Kept = record c.self.inside.kept { line = c.line_count-before.result + 1 } in
    let passed = line_passed old c.add_line.new.kept c.args.self.now c.args.line.now room
    c.in_default.ensures
    (λ more. absurd (omega (
      arith,
      c.if-len-commands_before.false,
      c.len.ensures,
      c.len-commands_before.ensures,
      more,
    ))) in
    rw (passed.same.commands, passed.same.numbers, passed.same.declared) (
      c.self.invariant.0,
      omega (arith, room, count),
      c.self.invariant.2,
      c.self.invariant.3,
      c.self.invariant.4,
    )
