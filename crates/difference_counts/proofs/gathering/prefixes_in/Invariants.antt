use Rattle.std.proofs.Common.{◌≡◌, take, true}
use Rattle.std.specs.List.{list_all}
use Rattle.compiler.specs.Technology.{prefixes_of}
use Rattle.plan_difference.specs.Gathered.{has_no_star}
use Rattle.difference_counts.proofs.gathering.prefixes_in.Given as goal

abbrev pub invariant-loop-command : goal.invariant-loop-command
invariant-loop-command l = record {
  listed : l.prefixes.items ≡ prefixes_of (take l.command-index l.commands);
  literal : list_all has_no_star l.prefixes.items ≡ true;
}
