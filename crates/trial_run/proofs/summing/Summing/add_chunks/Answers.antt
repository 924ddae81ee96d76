use Rattle.std.proofs.Common.{ℕ, Bool, map, sym}
use Rattle.call_rows.specs.Moves.{move_in}
use Rattle.trial_run.specs.Chunks.{chunk_of}
use Rattle.trial_run.specs.Levels.{AreNumbered, IsBelow, chunk_most, summary_of}
use Rattle.trial_run.specs.Touched.{touching}
use Rattle.trial_run.proofs.StandingLemmas.{low_after_chunk, one_chunk_more}
use Rattle.trial_run.proofs.summing.Summing.add_chunks.Goals as goal

pub loop-piece-preserved : goal.loop-piece-preserved
loop-piece-preserved c =
    let k = c.loop-piece.piece-index in
    let work = c.args.self.now in
    let touches : ℕ → ℕ → Bool = λ zone. touching work.touched.now zone in
    let asked = c.requires.each k c.piece-item.result c.loop-piece-test.true in
    let sums = c.in-Ok.summaries.items in
    let told : AreNumbered work.zones (λ zone. summary_of (touches zone) (chunk_of work.size k
    (map move_in work.steps.now))) sums × IsBelow chunk_most sums =
    rw (sym c.piece-item.is, c.in-Ok.is) at asked in
    let was = c.loop-piece.invariant in
    let made = c.add_chunk.ensures in
    let each = rw c.as_slice.ensures.value at made.each in (
      one_chunk_more touches work.size k work.zones (map move_in work.steps.now)
          c.loop-piece.standings c.add_chunk.new.standings sums
          c.requires.sound was.0 told.0 made.len each,
      low_after_chunk k work.zones _ _ c.loop-piece.standings c.add_chunk.new.standings sums was.0
          told.0 was.1 told.1 made.len each,
    )
