use Rattle.std.proofs.Common.{◌*◌, ◌∙◌, List, length, map, ap, sym, subst}
use Rattle.std.proofs.lemmas.List.{length-map}
use Rattle.call_rows.specs.Moves.{move_in}
use Rattle.std.proofs.lemmas.List.{take_all}
use Rattle.call_rows.specs.Moves.{Move}
use Rattle.trial_run.specs.declared.standings.Standing.{Standing}
use Rattle.trial_run.specs.Levels.{AreNumbered, ground, standing_from}
use Rattle.trial_run.specs.Touched.{touching}
use Rattle.trial_run.proofs.StandingLemmas.{tops_numbered}
use Rattle.trial_run.proofs.summing.Summing.peaks.Goals as goal

pub returns : goal.returns
returns c =
    let work = c.args.self.now in
    let all = take_all (length c.args.pieces.now * work.size) (map move_in work.steps.now) (rw
    (length-map work.steps.now move_in) c.requires.all) in
    let made = subst (λ (ms : List Move). AreNumbered work.zones (λ zone. standing_from (touching
    work.touched.now zone) ground ms) c.add_chunks.new.standings) all
    c.in_ok-add_chunks.ensures in
    tops_numbered work.zones c.in_ok-standings.standings.len _ c.add_chunks.new.standings
    c.in_ok-standings.standings.items _ made
    (made.0 ∙ sym c.in_ok-standings.ensures.len) (c.in_ok-tops.ensures
    ∙ ap (map (λ (s : Standing). s.top)) c.as_slice.ensures.value)
