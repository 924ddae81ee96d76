-- Summaries of all zones, one row at a time.
use Rattle.std.proofs.Common.{◌≡◌, ◌<◌, ◌+◌, ℕ, Bool, List, take, get_or, map, length, ap, sym, ◌∙◌}
use Rattle.std.specs.Prelude.{Some, option_map, slice_get}
use Rattle.std.proofs.lemmas.List.{length-map, get_or-map}
use Rattle.std.proofs.lemmas.List.Sums.{fold_more}
use Rattle.call_rows.specs.Moves.{Move}
use Rattle.trial_run.specs.declared.standings.Summary.{Summary}
use Rattle.trial_run.specs.Levels.{AreNumbered, flat, summary_after, summary_of}

-- one row more, at each zone
pub one_more : {S : Type 0} (f : S → Move) (touches : ℕ → ℕ → Bool) (steps : List S) (i n : ℕ)
    (d : S) (old new : List Summary)
    → AreNumbered n (λ zone. summary_of (touches zone) (take i (map f steps))) old
    → i < length steps
    → ((place : ℕ) → slice_get new place
    ≡ option_map (λ s. summary_after (touches place) s (f (get_or steps i d))) (slice_get old
    place))
    → length new ≡ length old
    → AreNumbered n (λ zone. summary_of (touches zone) (take (i + 1) (map f steps))) new
one_more f touches steps i n d old new h low each len =
    let moves : List Move = map f steps in
    let within : i < length moves = rw (length-map steps f) low in
    let is : get_or moves i (f d) ≡ f (get_or steps i d) = get_or-map f steps i d (f d) low in (
      len ∙ h.0,
      λ zone below. each zone
          ∙ ap (option_map (λ s. summary_after (touches zone) s (f (get_or steps i d))))
          (h.1 zone below)
          ∙ ap (λ m. Some (summary_after (touches zone) (summary_of (touches zone) (take i moves))
          m))
          (sym is)
          ∙ ap (λ s. Some s)
          (sym (fold_more (summary_after (touches zone)) flat moves i (f d) within)),
    )
