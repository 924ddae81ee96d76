use Rattle.std.proofs.Common.{◌≡◌, true, false, cond, take, sym, ap, ◌∙◌}
use Rattle.digit_patterns.specs.Pattern.{same_pattern}
use Rattle.digit_patterns.specs.Duplicate.{has_pattern}
use Rattle.digit_patterns.proofs.Duplicates.{duplicate_after-new, duplicate_after-found, has_pattern_more, seen_from_kept, unseen_from_added}
use Rattle.digit_patterns.proofs.tables.duplicate_in.Goals as goal

-- an earlier row has the pattern
pub returns-then-not-branch : goal.returns-then-not-branch
returns-then-not-branch c =
    let row = c.index-rows-place.result in
    let kept = c.loop-place.invariant.kept row.0 in
    let seen : has_pattern row.0 (take c.loop-place.place c.args.rows.now) ≡ true = sym kept ∙
    seen_from_kept _ _ c.in_ok-insert.ensures.added c.if-not-branch.true in
    sym (c.loop-place.invariant.searched ∙ duplicate_after-found c.args.rows.now c.loop-place.place
    row c.index-rows-place.is c.loop-place-test.true seen)

-- no earlier row has it, and now it is seen
pub loop-place-preserved : goal.loop-place-preserved
loop-place-preserved c =
    let row = c.index-rows-place.result in
    let place = c.loop-place.place in
    let kept = c.loop-place.invariant.kept in
    let unseen : has_pattern row.0 (take place c.args.rows.now) ≡ false = sym (kept row.0) ∙
    unseen_from_added _ _ c.in_ok-insert.ensures.added c.if-not-branch.false in
    record {
      searched = c.loop-place.invariant.searched ∙ duplicate_after-new c.args.rows.now place row
          c.index-rows-place.is c.loop-place-test.true unseen;
      kept = λ p. c.in_ok-insert.ensures.updates.0 p ∙ ap (cond (same_pattern row.0 p) true)
          (kept p) ∙ has_pattern_more c.args.rows.now place row c.index-rows-place.is
          c.loop-place-test.true p;
    }
