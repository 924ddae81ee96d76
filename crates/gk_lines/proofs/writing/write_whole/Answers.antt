use Rattle.std.proofs.Common.{◌∙◌}
use Rattle.gk_lines.proofs.StreamLemmas.{write_goes_on}
use Rattle.gk_lines.proofs.writing.write_whole.Goals as goal

pub loop-rest-preserved : goal.loop-rest-preserved
loop-rest-preserved g c = record {
  written = rw (c.split_at.ensures.back) (write_goes_on _ _ _ _ _ c.in_ok-count.count
      c.loop-rest.invariant.written c.in_ok-count.ensures.bytes);
  noted = c.in_ok-count.ensures.noted ∙ c.loop-rest.invariant.noted;
}
