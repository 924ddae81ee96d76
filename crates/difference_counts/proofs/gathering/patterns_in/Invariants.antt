use Rattle.std.proofs.Common.{◌≡◌, take, true}
use Rattle.std.specs.List.{list_all}
use Rattle.plan_difference.specs.Gathered.{patterns_of}
use Rattle.difference_counts.specs.Ahead.{literal_pattern}
use Rattle.difference_counts.proofs.gathering.patterns_in.Given as goal

abbrev pub invariant-loop-command : goal.invariant-loop-command
invariant-loop-command l = record {
  listed : l.patterns.items ≡ patterns_of (take l.command-index l.commands);
  literal : list_all literal_pattern l.patterns.items ≡ true;
}
