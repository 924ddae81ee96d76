-- The standings of all zones, one chunk at a time.
use Rattle.std.specs.Prelude.{option_map}
use Rattle.std.proofs.lemmas.Option.{slice_get-map}
use Rattle.std.proofs.lemmas.List.{length-map}
use Rattle.std.proofs.Math.Seq.{take-append_seam}
use Rattle.std.proofs.Common.{map, rules, ◌≡◌, ◌<◌, ◌≤◌, ◌+◌, ◌*◌, ◌-◌, ◌++◌, max, ℕ, Bool, List, take, drop, length, ap, sym, subst, ◌∙◌, arith}
use Rattle.std.specs.Prelude.{Some, slice_get}
use Rattle.std.proofs.lemmas.List.{take-append-drop}
use Rattle.std.proofs.lemmas.Option.{same_Some, slice_get_within}
use Rattle.call_rows.specs.Moves.{IsSound, Move}
use Rattle.trial_run.specs.declared.standings.Summary.{Summary}
use Rattle.trial_run.specs.declared.standings.Standing.{Standing}
use Rattle.trial_run.specs.Chunks.{chunk_of}
use Rattle.trial_run.specs.Levels.{AreNumbered, IsBelow, IsLow, chunk_most, ground, over_chunk, standing_from, summary_of}
use Rattle.trial_run.proofs.LevelLemmas.{next_chunk}
use Rattle.trial_run.proofs.ChunkLemmas.{take_chunk}

-- what each zone's standing is after one chunk more
pub one_chunk_more : (touches : ℕ → ℕ → Bool) (size k n : ℕ) (moves : List Move) (old new : List
    Standing) (sums : List Summary)
    → ((zone : ℕ) → IsSound (touches zone) 0 moves)
    → AreNumbered n (λ zone. standing_from (touches zone) ground (take (k * size) moves)) old
    → AreNumbered n (λ zone. summary_of (touches zone) (chunk_of size k moves)) sums
    → length new ≡ length old
    → ((place : ℕ) (s : Standing) (c : Summary) → slice_get old place ≡ Some s
    → slice_get sums place ≡ Some c → slice_get new place ≡ Some (over_chunk s c))
    → AreNumbered n (λ zone. standing_from (touches zone) ground (take ((k + 1) * size) moves)) new
one_chunk_more touches size k n moves old new sums sound before chunk len each =
    let front = take (k * size) moves in
    let here = chunk_of size k moves in
    let rest = drop size (drop (k * size) moves) in
    let whole : front ++ (here ++ rest) ≡ moves = ap (λ r. front
    ++ r) (take-append-drop size (drop (k * size) moves))
    ∙ take-append-drop (k * size) moves in (
      len ∙ before.0,
      λ zone below.
          let law = next_chunk (touches zone) front here rest (subst (λ ms. IsSound (touches zone)
          0 ms) (sym whole) (sound zone)) in
          each zone _ _ (before.1 zone below) (chunk.1 zone below)
          ∙ ap (λ s. Some s) (sym law ∙ ap (λ ms. standing_from (touches zone) ground ms) (sym
          (take_chunk size k moves))),
    )

-- and how high it may be
level_low : (k l g d : ℕ) → l ≤ k * 8589934590000000 → g ≤ 8589934590000000
    → l + g - d ≤ (k + 1) * 8589934590000000
level_low k l g d a b = omega (arith, a, b)

top_low : (k l t h : ℕ) → l ≤ k * 8589934590000000 → t ≤ k * 8589934590000000
    → h ≤ 8589934590000000 → max t (l + h) ≤ (k + 1) * 8589934590000000
top_low k l t h a b c = omega (arith, a, b, c)

pub low_after_chunk : (k n : ℕ) (f : ℕ → Standing) (g : ℕ
    → Summary) (old new : List Standing) (sums : List Summary)
    → AreNumbered n f old → AreNumbered n g sums
    → IsLow (k * chunk_most) old → IsBelow chunk_most sums
    → length new ≡ length old
    → ((place : ℕ) (s : Standing) (c : Summary) → slice_get old place ≡ Some s
    → slice_get sums place ≡ Some c → slice_get new place ≡ Some (over_chunk s c))
    → IsLow ((k + 1) * chunk_most) new
low_after_chunk k n f g old new sums olds chunks low below len each place s at =
    let inside = subst (λ m. place < m) (len ∙ olds.0) (slice_get_within new place s at) in
    let o = olds.1 place inside in
    let c = chunks.1 place inside in
    let same : s ≡ over_chunk (f place) (g place) = same_Some s (over_chunk (f place) (g place))
    (sym at ∙ each place (f place) (g place) o c) in
    let l = low place (f place) o in
    let b = below place (g place) c in
    subst (λ (z : Standing). (z.level ≤ (k + 1) * 8589934590000000)
    × (z.top ≤ (k + 1) * 8589934590000000)) (sym same) (
      level_low k (f place).level (g place).gained (g place).lost l.0 b.0,
      top_low k (f
          place).level (f place).top (g place).height l.0 l.1 b.2,
    )

-- a vector after a call that wrote it as a slice of the same length
written_back : {X : Type 0} (new old : List X) (count : ℕ) → length new ≡ count
    → take count (new ++ drop (length new) old) ≡ new
written_back new old count h =
    ap (λ n. take n (new ++ drop (length new) old)) (sym h)
    ∙ take-append_seam new (drop (length new) old)

-- the greatest use of each
pub tops_numbered : (n count : ℕ) (f : ℕ → Standing) (new old : List Standing) (tops : List ℕ)
    → AreNumbered n f new → length new ≡ count
    → tops ≡ map (λ (s : Standing). s.top) (take count (new ++ drop (length new) old))
    → AreNumbered n (λ zone. (f zone).top) tops
tops_numbered n count f new old tops h len made =
    let is : tops ≡ map (λ (s : Standing). s.top) new = made
    ∙ ap (map (λ (s : Standing). s.top)) (written_back new old count len) in
    let counted : length (map (λ (s : Standing). s.top) new)
    ≡ length new = search (rules, length-map) in (
      ap length is ∙ counted ∙ h.0,
      λ zone below. ap (λ xs. slice_get xs zone) is
          ∙ slice_get-map (λ (s : Standing). s.top) new zone
          ∙ ap (option_map (λ (s : Standing). s.top)) (h.1 zone below),
    )
