use Rattle.std.proofs.Common.{◌≤◌, length, take}
use Rattle.std.specs.List.{IsDistinct}
use Rattle.std.specs.Map.{keys_of}
use Rattle.digit_patterns.specs.Pattern.{same_pattern}
use Rattle.compiler.specs.TablesIndex.{AreRows}
use Rattle.compiler.proofs.rows.rows_in.Given as goal

abbrev pub invariant-loop-command : goal.invariant-loop-command
invariant-loop-command l = record {
  rows : AreRows l.zones.entries (take l.command-index l.commands) l.rows.entries;
  distinct : IsDistinct same_pattern (keys_of l.rows.entries);
  few : length l.rows.entries ≤ l.command-index;
}
