-- What each row changes of the units in use, and that no move takes more than there is.
use Rattle.std.proofs.Common.{◌≡◌, ◌≤◌, ◌+◌, ◌-◌, ◌==◌, ℕ, Bool, true, false, List, [], ◌∷◌, Some, refl, sym, subst, arith}
use Rattle.std.specs.Prelude.{if◌then◌else◌}
use Rattle.call_rows.specs.declared.rows.CallEvent.{CallEvent}
use Rattle.call_rows.specs.declared.rows.CallEvent.TheVariants as said
use Rattle.call_rows.specs.Moves.{IsSound, admitted_move, gain, loss, move_of, moved, moves_from, moves_of}
use Rattle.call_rows.specs.OpenCalls.{Open, open_of, opened_if, opens_after, seen_after, use_of, with_units, without}
use Rattle.call_rows.specs.Rows.{RowParts}

-- ---- what one row changes
change_step : (touches : ℕ → Bool) (call units : ℕ) (opens : List Open)
    → use_of touches (with_units call units opens) + loss touches (moved units (open_of call opens))
    ≡ use_of touches opens + gain touches (moved units (open_of call opens))
change_step touches call units [] = by (touches 0)
  where
    by : (t : Bool) → 0 + (if t then 0 else 0) ≡ 0 + (if t then 0 else 0)
    by t = refl
change_step touches call units (o ∷ os) =
    by (o.call == call) (touches o.admission) (change_step touches call units os)
  where
    by : (b t : Bool)
        → use_of touches (with_units call units os) + loss touches (moved units (open_of call os))
        ≡ use_of touches os + gain touches (moved units (open_of call os))
        → use_of touches (if b then record o { units = units } ∷ os else o ∷ with_units call units
        os) + loss touches (moved units (if b then Some o else open_of call os))
        ≡ use_of touches (o ∷ os) + gain touches
        (moved units (if b then Some o else open_of call os))
    by true t rest = ends (touches o.admission)
      where
        ends : (t : Bool) → ((if t then units else 0) + use_of touches os)
            + (if t then o.units else 0)
            ≡ ((if t then o.units else 0) + use_of touches os) + (if t then units else 0)
        ends true = omega arith
        ends false = omega arith
    by false t rest = omega (arith, rest)

release_step : (touches : ℕ → Bool) (call : ℕ) (opens : List Open)
    → use_of touches (without call opens) + loss touches (moved 0 (open_of call opens))
    ≡ use_of touches opens + gain touches (moved 0 (open_of call opens))
release_step touches call [] = by (touches 0)
  where
    by : (t : Bool) → 0 + (if t then 0 else 0) ≡ 0 + (if t then 0 else 0)
    by t = refl
release_step touches call (o ∷ os) = by (o.call == call) (release_step touches call os)
  where
    by : (b : Bool)
        → use_of touches (without call os) + loss touches (moved 0 (open_of call os))
        ≡ use_of touches os + gain touches (moved 0 (open_of call os))
        → use_of touches (if b then os else o ∷ without call os) + loss touches
        (moved 0 (if b then Some o else open_of call os))
        ≡ use_of touches (o ∷ os) + gain touches (moved 0 (if b then Some o else open_of call os))
    by true rest = ends (touches o.admission)
      where
        ends : (t : Bool) → use_of touches os + (if t then o.units else 0)
            ≡ ((if t then o.units else 0) + use_of touches os) + (if t then 0 else 0)
        ends true = omega arith
        ends false = omega arith
    by false rest = omega (arith, rest)

admitted_step : (touches : ℕ → Bool) (granted : Bool) (o : Open) (opens : List Open)
    → use_of touches (opened_if granted o opens)
    + loss touches (admitted_move o.admission granted o.units)
    ≡ use_of touches opens + gain touches (admitted_move o.admission granted o.units)
admitted_step touches true o opens = ends (touches o.admission)
  where
    ends : (t : Bool) → ((if t then o.units else 0) + use_of touches opens)
        + (if t then 0 else 0) ≡ use_of touches opens + (if t then o.units else 0)
    ends true = omega arith
    ends false = omega arith
admitted_step touches false o opens = refl

pub row_step : (touches : ℕ → Bool) (seen : ℕ) (opens : List Open) (event : CallEvent)
    → use_of touches (opens_after seen event opens) + loss touches (move_of seen opens event)
    ≡ use_of touches opens + gain touches (move_of seen opens event)
row_step touches seen opens (said.Admitted a) =
    admitted_step touches a.granted (record {
      call = a.call;
      units = a.units;
      admission = seen;
    }) opens
row_step touches seen opens (said.Answered a) =
    admitted_step touches a.granted (record {
      call = a.call;
      units = a.units;
      admission = seen;
    }) opens
row_step touches seen opens (said.Changed call units) = change_step touches call units opens
row_step touches seen opens (said.Released call) = release_step touches call opens

-- what is taken was there, and the level is then that of the open calls
pub level_after : (u l u' g : ℕ) → u' + l ≡ u + g → (l ≤ u + g) × (u + g - l ≡ u')
level_after u l u' g h = (omega (arith, h), omega (arith, h))

-- ---- the moves are sound
-- from any open calls
pub moves_sound_from : (touches : ℕ → Bool) (opens : List Open) (seen : ℕ) (rows : List RowParts)
    → IsSound touches (use_of touches opens) (moves_from opens seen rows)
moves_sound_from touches opens seen [] = tt
moves_sound_from touches opens seen (r ∷ rs) =
    let m = move_of seen opens r.event in
    let after = opens_after seen r.event opens in
    let one = level_after (use_of touches opens) (loss touches m) (use_of touches after)
    (gain touches m) (row_step touches seen opens r.event) in (
      one.0,
      subst (λ n. IsSound touches n (moves_from after (seen_after seen r.event) rs))
          (sym one.1) (moves_sound_from touches after (seen_after seen r.event) rs),
    )

-- of any rows
pub moves_sound : (touches : ℕ → Bool) (rows : List RowParts)
    → IsSound touches 0 (moves_of rows)
moves_sound touches rows = moves_sound_from touches [] 0 rows
