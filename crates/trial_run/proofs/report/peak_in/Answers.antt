use Rattle.std.proofs.Common.{ap, sym, ◌∙◌}
use Rattle.std.specs.Prelude.{option_and_then, option_map, slice_get}
use Rattle.trial_run.specs.HeldPeaks.{peak_with}
use Rattle.trial_run.proofs.ReportLemmas.{peak_at}
use Rattle.trial_run.proofs.report.peak_in.Goals as goal

pub returns : goal.returns
returns c =
    let zones = c.args.zones.now in
    let tops = c.args.tops.now in
    let place = c.args.place in
    c.peak_of.ensures
    ∙ ap (λ o. option_and_then (λ zone. option_map (peak_with zone) o) c.name_at.result)
    c.top_at.ensures
    ∙ ap (λ o. option_and_then (λ zone. option_map (peak_with zone) (slice_get tops place)) o)
    c.name_at.ensures
    ∙ sym (peak_at zones tops place)
