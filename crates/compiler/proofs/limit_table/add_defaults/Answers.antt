use Rattle.std.proofs.Common.{◌<◌, ap, sym, ◌∙◌, length, arith}
use Rattle.compiler.specs.TablesIndex.{limits_if_local}
use Rattle.compiler.proofs.LimitLemmas.{default_set, defaults_end}
use Rattle.compiler.proofs.RowLemmas.{none_past}
use Rattle.compiler.proofs.limit_table.add_defaults.Goals as goal
use Rattle.compiler.proofs.limit_table.add_defaults.Goals.{in-Some, in_default}

pub loop-place-preserved : goal.loop-place-preserved
loop-place-preserved c =
    let zones = c.args.zones.now.entries in
    let limits = c.loop-place.limits in
    let place = c.loop-place.place in
    let inside : place < length limits =
    omega (arith, c.loop-place-test.true, c.loop-place.auto.limits) in
    elim c.match-get_index.branch [
      | in-Some w ↦
          let set = default_set zones c.args.defaults c.args.limits.now limits place _
          w.limits_if_local.result
          (sym w.in-Some.ensures.entry) inside
          (w.limits_if_local.ensures ∙ ap (limits_if_local w.in-Some.kind.now) w.or.ensures)
          c.loop-place.invariant.before c.loop-place.invariant.after in
          rw w.limits-is (record { before = set.0; after = set.1 })
      | in_default w ↦
          let within : place < length zones =
          omega (arith, inside, c.loop-place.auto.limits, c.requires) in
          absurd (none_past zones place within (sym w.in_default.ensures.entry))
    ]

pub returns-clause-kept : goal.returns-clause-kept
returns-clause-kept c =
    defaults_end c.args.zones.now.entries c.args.defaults c.args.limits.now c.loop-place.limits
    c.loop-place.place c.requires c.loop-place-test.false c.loop-place.invariant.before
    c.loop-place.invariant.after
