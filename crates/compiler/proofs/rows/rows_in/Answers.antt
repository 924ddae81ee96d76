use Rattle.std.proofs.Common.{◌≡◌, ap, take, length, ◌+◌, ◌++◌, ◌∷◌, [], arith}
use Rattle.compiler.proofs.FirstRows.{same_pattern-same}
use Rattle.compiler.proofs.StepLemmas.{take_with, rows_same, rows_more}
use Rattle.compiler.proofs.rows.rows_in.Goals as goal
use Rattle.compiler.proofs.rows.rows_in.Goals.{in-Some+in_ok-add_row, in_default}

pub loop-command-preserved : goal.loop-command-preserved
loop-command-preserved c =
    let zones = c.args.zones.now.entries in
    let commands = c.args.commands.now in
    let place = c.loop-command.command-index in
    let more : take (place + 1) commands ≡ take place commands ++ c.command-item.result ∷ [] =
    take_with commands place c.command-item.result c.command-item.is c.loop-command-test.true in
    elim c.match-row_of.branch [
      | in-Some+in_ok-add_row w ↦ record {
        rows = rw (more, w.rows-is)
            (rows_more zones (take place commands) c.command-item.result
            (w.in-Some.pattern.now, w.in-Some.zone.now) c.loop-command.rows.entries
            w.add_row.new.rows.entries c.loop-command.invariant.rows
            w.in-Some.ensures
            w.in_ok-add_row.ensures.picked
            w.in_ok-add_row.ensures.patterns same_pattern-same);
        distinct = rw w.rows-is w.in_ok-add_row.ensures.distinct;
        few = let e = ap (λ rows. length rows.entries) w.rows-is in
            omega (arith, e, w.in_ok-add_row.ensures.few, c.loop-command.invariant.few);
      }
      | in_default w ↦ record {
        rows = rw (more, w.rows-is)
            (rows_same zones (take place commands) c.command-item.result c.loop-command.rows.entries
            c.loop-command.invariant.rows w.in_default.ensures);
        distinct = rw w.rows-is c.loop-command.invariant.distinct;
        few = let e = ap (λ rows. length rows.entries) w.rows-is in omega
            (arith, c.loop-command.invariant.few);
      }
    ]
