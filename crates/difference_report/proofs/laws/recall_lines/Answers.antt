use Rattle.std.proofs.Common.{arith, ◌≡◌, ◌≤◌, length, subst, true}
use Rattle.std.specs.List.{list_all}
use Rattle.difference_report.specs.Laws.{prefix_is_literal, row_is_literal}
use Rattle.difference_report.proofs.LiteralLemmas.{are_literal}
use Rattle.difference_report.proofs.TotalLemmas.{take_all}
use Rattle.difference_report.proofs.laws.recall_lines.Goals as goal

pub returns : goal.returns
returns c =
    let past = c.loop-command-test.false in
    let whole : length c.args.commands.now ≤ c.loop-command.command-index = omega (arith, past) in
    let all = take_all c.args.commands.now c.loop-command.command-index whole in
    are_literal c.args.commands.now
    (subst (λ lines. list_all prefix_is_literal lines ≡ true) all
    c.loop-command.invariant.prefixes)
    (subst (λ lines. list_all row_is_literal lines ≡ true) all c.loop-command.invariant.rows)
