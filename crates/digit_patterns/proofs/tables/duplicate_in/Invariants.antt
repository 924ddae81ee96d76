use Rattle.std.proofs.Common.{◌≡◌, take}
use Rattle.std.specs.HashSet.{contains}
use Rattle.digit_patterns.specs.PatternParts.{PatternParts}
use Rattle.digit_patterns.specs.Pattern.{same_pattern}
use Rattle.digit_patterns.specs.Duplicate.{has_pattern, duplicate_of}
use Rattle.digit_patterns.proofs.Duplicates.{duplicate_after}
use Rattle.digit_patterns.proofs.tables.duplicate_in.Given as goal

abbrev pub invariant-loop-place : goal.invariant-loop-place
invariant-loop-place l = record {
  searched : duplicate_of l.rows ≡ duplicate_after l.rows l.place;
  kept : (p : PatternParts) → contains same_pattern l.seen p ≡ has_pattern p (take l.place l.rows);
}
