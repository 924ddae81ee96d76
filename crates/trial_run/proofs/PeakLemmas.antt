-- The greatest use along rows is the greatest level along their moves.
use Rattle.std.proofs.Common.{◌≡◌, ◌≤◌, ◌+◌, ◌-◌, max, ℕ, Bool, true, false, List, [], ◌∷◌, refl, ap, ◌∙◌, sym, arith}
use Rattle.std.specs.Prelude.{if◌then◌else◌}
use Rattle.call_rows.specs.Moves.{Move, gain, loss, move_of, moves_from, moves_of}
use Rattle.call_rows.specs.OpenCalls.{Open, opens_after, seen_after, use_of}
use Rattle.call_rows.specs.Rows.{RowParts}
use Rattle.call_rows.proofs.MoveLemmas.{row_step}
use Rattle.trial_run.specs.Levels.{ground, raised, stand, standing_from}
use Rattle.trial_run.specs.Peaks.{peak_from, peak_over}
use Rattle.trial_run.proofs.LevelLemmas.{standing}

use_below_peak : (touches : ℕ → Bool) (opens : List Open) (seen : ℕ) (rows : List RowParts)
    → use_of touches opens ≤ peak_from touches opens seen rows
use_below_peak touches opens seen [] = omega arith
use_below_peak touches opens seen (r ∷ rows) = omega arith

top_first : (p u u' k : ℕ) → u ≤ p → u' ≤ k → max p (max u k) ≡ max (max p u') k
top_first p u u' k a b = omega (arith, a, b)

-- one row, from the use before it to that after it
stands_at : (touches : ℕ → Bool) (held top later k : ℕ) (m : Move)
    → held ≤ top → later ≤ k → later + loss touches m ≡ held + gain touches m
    → (high : ℕ) × (later ≤ high) × (stand touches (standing held top) m ≡ standing later high)
    × (max top (max held k) ≡ max high k)
stands_at touches held top later k m h low step = by (touches m.admission) step
  where
    by : (t : Bool) → later + (if t then m.lost else 0) ≡ held + (if t then m.gained else 0)
        → (high : ℕ) × (later ≤ high)
        × ((if t then raised m.gained m.lost (standing held top) else standing held top)
        ≡ standing later high) × (max top (max held k) ≡ max high k)
    by true step =
        let at : held + m.gained - m.lost ≡ later = omega (arith, step) in (
          max top later,
          omega arith,
          ap (λ n. standing n (max top n)) at,
          top_first top held later k h low,
        )
    by false step =
        let at : held ≡ later = omega (arith, step) in
        (top, omega (arith, at, h), ap (λ n. standing n top) at, omega (arith, h))

peak_from_top : (touches : ℕ → Bool) (opens : List Open) (seen top : ℕ) (rows : List RowParts)
    → use_of touches opens ≤ top
    → max top (peak_from touches opens seen rows)
    ≡ (standing_from touches (standing (use_of touches opens) top)
    (moves_from opens seen rows)).top
peak_from_top touches opens seen top [] h = omega (arith, h)
peak_from_top touches opens seen top (r ∷ rows) h =
    let m = move_of seen opens r.event in
    let after = opens_after seen r.event opens in
    let next = seen_after seen r.event in
    let low = use_below_peak touches after next rows in
    let (high, below, stands, tops) =
    stands_at touches (use_of touches opens) top (use_of touches after)
    (peak_from touches after next rows) m h low (row_step touches seen opens r.event) in
    tops ∙ peak_from_top touches after next high rows below
    ∙ ap (λ s. (standing_from touches s (moves_from after next rows)).top) (sym stands)

pub peak_is_top : (touches : ℕ → Bool) (rows : List RowParts)
    → peak_over touches rows ≡ (standing_from touches ground (moves_of rows)).top
peak_is_top touches rows =
    let all = peak_from_top touches [] 0 0 rows (omega arith) in
    let zero_first : (n : ℕ) → n ≡ max 0 n = λ n. omega arith in
    zero_first (peak_over touches rows) ∙ all

-- ---- tests that agree have the same peak
use_alike : (f g : ℕ → Bool) → ((place : ℕ) → f place ≡ g place) → (opens : List Open)
    → use_of f opens ≡ use_of g opens
use_alike f g alike [] = refl
use_alike f g alike (o ∷ opens) =
    ap (λ t. (if t then o.units else 0) + use_of f opens) (alike o.admission)
    ∙ ap (λ n. (if g o.admission then o.units else 0) + n) (use_alike f g alike opens)

peak_alike_from : (f g : ℕ → Bool) → ((place : ℕ) → f place ≡ g place) → (opens : List Open)
    (seen : ℕ) (rows : List RowParts) → peak_from f opens seen rows ≡ peak_from g opens seen rows
peak_alike_from f g alike opens seen [] = use_alike f g alike opens
peak_alike_from f g alike opens seen (r ∷ rows) =
    let after = opens_after seen r.event opens in
    let next = seen_after seen r.event in
    ap (λ n. max n (peak_from f after next rows)) (use_alike f g alike opens)
    ∙ ap (λ n. max (use_of g opens) n) (peak_alike_from f g alike after next rows)

pub peak_alike : (f g : ℕ → Bool) → ((place : ℕ) → f place ≡ g place) → (rows : List RowParts)
    → peak_over f rows ≡ peak_over g rows
peak_alike f g alike rows = peak_alike_from f g alike [] 0 rows
