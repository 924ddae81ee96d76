-- How high a level goes along moves, from where it stands; and the same of a chunk by itself.
use Rattle.std.specs.Prelude.{◌≡◌, ◌≤◌, ◌<◌, ◌+◌, ◌-◌, max, ℕ, Bool, List, Some, length, slice_get, if◌then◌else◌}
use Rattle.std.specs.List.{fold}
use Rattle.call_rows.specs.Moves.{Move}
use Rattle.trial_run.specs.declared.standings.Standing.{Standing}
use Rattle.trial_run.specs.declared.standings.Summary.{Summary}

-- ---- from where a level stands
-- the level and the greatest so far, after so much is added and taken
abbrev pub raised : ℕ → ℕ → Standing → Standing
raised gained lost s = record {
  level = s.level + gained - lost;
  top = max s.top (s.level + gained - lost);
}

abbrev pub stand : (ℕ → Bool) → Standing → Move → Standing
stand touches s m = if touches m.admission then raised m.gained m.lost s else s

abbrev pub standing_from : (ℕ → Bool) → Standing → List Move → Standing
standing_from touches s moves = fold (stand touches) s moves

-- nothing is used, and nothing was
abbrev pub ground : Standing
ground = record { level = 0; top = 0 }

-- ---- a chunk by itself
-- what it adds, what it takes, and how far above its beginning it goes
abbrev pub summary_by : ℕ → ℕ → Summary → Summary
summary_by gained lost s = record {
  gained = s.gained + gained;
  lost = s.lost + lost;
  height = max s.height ((s.gained + gained) - (s.lost + lost));
}

abbrev pub summary_after : (ℕ → Bool) → Summary → Move → Summary
summary_after touches s m = if touches m.admission then summary_by m.gained m.lost s else s

-- of no rows
abbrev pub flat : Summary
flat = record { gained = 0; lost = 0; height = 0 }

abbrev pub summary_from : (ℕ → Bool) → Summary → List Move → Summary
summary_from touches s moves = fold (summary_after touches) s moves

abbrev pub summary_of : (ℕ → Bool) → List Move → Summary
summary_of touches moves = summary_from touches flat moves

-- after a chunk, from where it began
abbrev pub over_chunk : Standing → Summary → Standing
over_chunk s c = record {
  level = s.level + c.gained - c.lost;
  top = max s.top (s.level + c.height);
}

-- ---- of each zone, by its number
-- one of each number below n
abbrev pub AreNumbered : {X : Type 0} → ℕ → (ℕ → X) → List X → Type 0
AreNumbered n f xs =
    (length xs ≡ n) × ((number : ℕ) → number < n → slice_get xs number ≡ Some (f number))

-- no sum is above this
abbrev pub IsBelow : ℕ → List Summary → Type 0
IsBelow most xs =
    (place : ℕ) (s : Summary) → slice_get xs place ≡ Some s
    → (s.gained ≤ most) × (s.lost ≤ most) × (s.height ≤ most)

abbrev pub IsLow : ℕ → List Standing → Type 0
IsLow most xs =
    (place : ℕ) (s : Standing) → slice_get xs place ≡ Some s → (s.level ≤ most) × (s.top ≤ most)

-- what one chunk of rows adds at most
abbrev pub chunk_most : ℕ
chunk_most = 8589934590000000
