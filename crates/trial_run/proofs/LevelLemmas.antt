-- A chunk by itself tells what it does to the level from wherever it begins.
use Rattle.std.proofs.Common.{◌≡◌, ◌≤◌, ◌+◌, ◌-◌, max, ℕ, Bool, true, false, List, [], ◌∷◌, ◌++◌, refl, ap, ◌∙◌, sym, subst, arith}
use Rattle.std.specs.Prelude.{if◌then◌else◌}
use Rattle.std.proofs.lemmas.List.Sums.{fold-append}
use Rattle.call_rows.specs.Moves.{IsSound, gain, loss, Move}
use Rattle.trial_run.specs.declared.standings.Summary.{Summary}
use Rattle.trial_run.specs.declared.standings.Standing.{Standing}
use Rattle.trial_run.specs.Levels.{flat, ground, over_chunk, raised, stand, standing_from, summary_after, summary_by, summary_from, summary_of}

abbrev pub standing : ℕ → ℕ → Standing
standing l t = record { level = l; top = t }

-- one more move, in numbers
level_step : (s g l mg ml : ℕ) → l ≤ s + g → ml ≤ (s + g - l) + mg → (s + g - l) + mg - ml
    ≡ s + (g + mg) - (l + ml)
level_step s g l mg ml h i = omega arith

sound_step : (s g l mg ml : ℕ) → l ≤ s + g → ml ≤ (s + g - l) + mg → l + ml ≤ s + (g + mg)
sound_step s g l mg ml h i = omega arith

top_step : (p s h g l : ℕ) → l ≤ s + g → max (max p (s + h)) (s + g - l) ≡ max p (s + max h (g - l))
top_step p s h g l b = omega arith

step_law : (touches : ℕ → Bool) (st : Standing) (c : Summary) (m : Move)
    → c.lost ≤ st.level + c.gained
    → loss touches m ≤ (st.level + c.gained - c.lost) + gain touches m
    → stand touches (over_chunk st c) m ≡ over_chunk st (summary_after touches c m)
step_law touches st c m h i = by (touches m.admission) i
  where
    by : (t : Bool) → (if t then m.lost else 0) ≤ (st.level + c.gained - c.lost) + (if t then
        m.gained else 0)
        → (if t then raised m.gained m.lost (over_chunk st c) else over_chunk st c)
        ≡ over_chunk st (if t then summary_by m.gained m.lost c else c)
    by true i =
        let at = level_step st.level c.gained c.lost m.gained m.lost h i in
        let high = top_step st.top st.level c.height (c.gained + m.gained) (c.lost + m.lost)
        (sound_step st.level c.gained c.lost m.gained m.lost h i) in
        ap (λ n. standing n (max (max st.top (st.level + c.height)) n)) at
        ∙ ap (λ n. standing (st.level + (c.gained + m.gained) - (c.lost + m.lost)) n) high
    by false i = refl

-- what a move does to the sums of a chunk and to a level, where the test may hold or not
sums_after : (touches : ℕ → Bool) (level : ℕ) (c : Summary) (m : Move)
    → c.lost ≤ level + c.gained
    → loss touches m ≤ (level + c.gained - c.lost) + gain touches m
    → ((summary_after touches c m).lost ≤ level + (summary_after touches c m).gained)
    × ((level + c.gained - c.lost) + gain touches m - loss touches m
    ≡ level + (summary_after touches c m).gained - (summary_after touches c m).lost)
sums_after touches level c m h i = by (touches m.admission) i
  where
    by : (t : Bool) → (if t then m.lost else 0) ≤ (level + c.gained - c.lost) + (if t then
        m.gained else 0)
        → ((if t then summary_by m.gained m.lost c else c).lost ≤ level + (if t then summary_by
        m.gained m.lost c else c).gained)
        × ((level + c.gained - c.lost) + (if t then m.gained else 0) - (if t then m.lost else 0) ≡
        level + (if t then summary_by m.gained m.lost c else c).gained - (if t then summary_by
        m.gained m.lost c else c).lost)
    by true i = (
      sound_step level c.gained c.lost m.gained m.lost h i,
      level_step level c.gained
          c.lost m.gained m.lost h i,
    )
    by false i = (h, omega arith)

-- the level after a move
pub level_is : (touches : ℕ → Bool) (st : Standing) (m : Move) → (stand touches st m).level
    ≡ st.level + gain touches m - loss touches m
level_is touches st m = by (touches m.admission)
  where
    by : (t : Bool) → (if t then raised m.gained m.lost st else st).level
        ≡ st.level + (if t then m.gained else 0) - (if t then m.lost else 0)
    by true = refl
    by false = omega arith

level_low : (touches : ℕ → Bool) (st : Standing) (m : Move) → st.level ≤ st.top
    → (stand touches st m).level ≤ (stand touches st m).top
level_low touches st m h = by (touches m.admission)
  where
    by : (t : Bool) → (if t then raised m.gained m.lost st else st).level ≤ (if t then raised
        m.gained m.lost st else st).top
    by true = omega arith
    by false = h

chunk_from : (touches : ℕ → Bool) (st : Standing) (c : Summary) (ms : List Move)
    → c.lost ≤ st.level + c.gained
    → IsSound touches (st.level + c.gained - c.lost) ms
    → standing_from touches (over_chunk st c) ms ≡ over_chunk st (summary_from touches c ms)
chunk_from touches st c [] h sound = refl
chunk_from touches st c (m ∷ ms) h sound =
    let one = step_law touches st c m h sound.0 in
    let sums = sums_after touches st.level c m h sound.0 in
    let rest = subst (λ n. IsSound touches n ms) sums.1 sound.1 in
    ap (λ s. standing_from touches s ms) one ∙ chunk_from touches st (summary_after touches c m)
    ms sums.0 rest

-- the chunk law: the level and its greatest after a chunk, from the chunk's own summary
pub chunk_law : (touches : ℕ → Bool) (st : Standing) (ms : List Move)
    → st.level ≤ st.top → IsSound touches st.level ms
    → standing_from touches st ms ≡ over_chunk st (summary_of touches ms)
chunk_law touches st ms h sound =
    let same : over_chunk st flat ≡ st =
    let a : st.level + 0 - 0 ≡ st.level = omega arith in
    let b : max st.top (st.level + 0) ≡ st.top = omega (arith, h) in
    ap (λ n. standing n (max st.top (st.level + 0))) a ∙ ap (λ n. standing st.level n) b in
    let low : 0 ≤ st.level + 0 = omega arith in
    let level : st.level ≡ st.level + 0 - 0 = omega arith in
    ap (λ s. standing_from touches s ms) (sym same)
    ∙ chunk_from touches st flat ms low (subst (λ n. IsSound touches n ms) level sound)

-- the level never passes the greatest so far
pub level_below_top : (touches : ℕ → Bool) (st : Standing) (ms : List Move) → st.level ≤ st.top
    → (standing_from touches st ms).level ≤ (standing_from touches st ms).top
level_below_top touches st [] h = h
level_below_top touches st (m ∷ ms) h = level_below_top touches (stand touches st m) ms (level_low
    touches st m h)

-- sound moves are sound in each part
pub sound_rest : (touches : ℕ → Bool) (st : Standing) (front rest : List Move)
    → IsSound touches st.level (front ++ rest) → IsSound touches (standing_from touches st
    front).level rest
sound_rest touches st [] rest sound = sound
sound_rest touches st (m ∷ front) rest sound =
    sound_rest touches (stand touches st m) front rest (subst (λ n. IsSound touches n (front
    ++ rest)) (sym (level_is touches st m)) sound.1)

pub sound_front : (touches : ℕ → Bool) (level : ℕ) (front rest : List Move)
    → IsSound touches level (front ++ rest) → IsSound touches level front
sound_front touches level [] rest sound = tt
sound_front touches level (m ∷ front) rest sound = (
  sound.0,
  sound_front touches (level + gain
      touches m - loss touches m) front rest sound.1,
)

-- one more chunk
pub next_chunk : (touches : ℕ → Bool) (front chunk rest : List Move)
    → IsSound touches 0 (front ++ (chunk ++ rest))
    → standing_from touches ground (front ++ chunk)
    ≡ over_chunk (standing_from touches ground front) (summary_of touches chunk)
next_chunk touches front chunk rest sound =
    let here = sound_rest touches ground front (chunk ++ rest) sound in
    let st = standing_from touches ground front in
    fold-append (stand touches) ground front chunk
    ∙ chunk_law touches st chunk (level_below_top touches ground front (omega arith)) (sound_front
    touches st.level chunk rest here)
