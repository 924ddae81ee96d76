use Rattle.std.proofs.Common.{◌+◌, ◌≤◌, length}
use Rattle.publisher_tests.proofs.reader_tests.is_published_on.Given as goal

-- one generation more at most for each number
abbrev pub invariant-loop-version : goal.invariant-loop-version
invariant-loop-version g l = length l.publisher ≤ l.version + 16
