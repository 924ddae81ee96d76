-- What a report keeps.
use Rattle.std.proofs.Common.{get_or, min, drop, ◌≡◌, ◌<◌, ◌≤◌, ◌+◌, ◌-◌, ◌++◌, ℕ, zero, suc, Bool, true, false, cond, not, List, [], ◌∷◌, Option, Some, None, length, map, refl, sym, ap, ◌∙◌, arith}
use Rattle.std.specs.Prelude.{filter, option_map, option_and_then, slice_get}
use Rattle.std.specs.Prelude.{Vec, vec_items}
use Rattle.std.specs.List.{flat_map}
use Rattle.std.proofs.Math.Seq.{drop-cons}
use Rattle.std.specs.Map.{keys_of}
use Rattle.std.proofs.lemmas.Option.{same_Some}
use Rattle.gk_commands.specs.declared.zones.ZoneKind.{ZoneKind}
use Rattle.trial_run.specs.declared.report_rows.ReportRow.{ReportRow}
use Rattle.trial_run.specs.Answers.{is_same}
use Rattle.trial_run.specs.HeldPeaks.{peak_with, peaks_held}
use Rattle.trial_run.specs.Levels.{AreNumbered}
use Rattle.trial_run.specs.Report.{changed_among, same_among}

-- ---- peaks
-- the peak at a place
pub peak_at : (zones : List (List ℕ)) (tops : List ℕ) (place : ℕ)
    → slice_get (peaks_held zones tops) place
    ≡ option_and_then (λ zone. option_map (peak_with zone) (slice_get tops place))
    (slice_get zones place)
peak_at [] tops place = refl
peak_at (zone ∷ zones) [] place = by (slice_get (zone ∷ zones) place)
  where
    by : (o : Option (List ℕ))
        → None ≡ option_and_then (λ zone. option_map (peak_with zone) None) o
    by None = refl
    by (Some z) = refl
peak_at (zone ∷ zones) (top ∷ tops) zero = refl
peak_at (zone ∷ zones) (top ∷ tops) (suc place) = peak_at zones tops place

-- there are as many peaks as there are both
pub length_peaks : (zones : List (List ℕ)) (tops : List ℕ)
    → length (peaks_held zones tops) ≡ min (length zones) (length tops)
length_peaks [] tops = omega arith
length_peaks (zone ∷ zones) [] = omega arith
length_peaks (zone ∷ zones) (top ∷ tops) = omega (arith, length_peaks zones tops)

-- the peaks of zones, one number for each
pub peaks_are : (zones : List (List ℕ × ZoneKind)) (tops : List ℕ) (f : ℕ → ℕ) (g : List ℕ → ℕ)
    → AreNumbered (length zones) f tops
    → ((k : ℕ) (z : List ℕ × ZoneKind) → slice_get zones k ≡ Some z → f k ≡ g z.0)
    → peaks_held (keys_of zones) tops ≡ map (λ zone. peak_with zone.0 (g zone.0)) zones
peaks_are [] tops f g h same = refl
peaks_are (z ∷ zones) [] f g h same = absurd (let no : ⊥ = omega (arith, h.0) in no)
peaks_are (z ∷ zones) (top ∷ tops) f g h same =
    let first : top ≡ g z.0 = same_Some top (f 0) (h.1 0 (omega arith)) ∙ same 0 z refl in
    let rest = peaks_are zones tops (λ k. f (suc k)) g
    (omega (arith, h.0), λ k below. h.1 (suc k) (omega (arith, below)))
    (λ k y at. same (suc k) y at) in
    ap (λ n. peak_with z.0 n ∷ peaks_held (keys_of zones) tops) first
    ∙ ap (λ l. peak_with z.0 (g z.0) ∷ l) rest

-- ---- counts
pub counted : (rows : List ReportRow) → same_among rows + changed_among rows ≡ length rows
counted [] = refl
counted (r ∷ rows) = by (is_same r.verdict) (counted rows)
  where
    by : (t : Bool) → same_among rows + changed_among rows ≡ length rows
        → length (cond t (r ∷ filter (λ row. is_same row.verdict) rows)
        (filter (λ row. is_same row.verdict) rows))
        + length (cond (not t) (r ∷ filter (λ row. not (is_same row.verdict)) rows)
        (filter (λ row. not (is_same row.verdict)) rows)) ≡ suc (length rows)
    by true h = omega (arith, h)
    by false h = omega (arith, h)

-- ---- a list in pieces
first_piece : {X : Type 0} (xs ys : List X) (place : ℕ) → place < length xs
    → slice_get (xs ++ ys) place ≡ slice_get xs place
first_piece [] ys place h = absurd (let no : ⊥ = omega (arith, h) in no)
first_piece (x ∷ xs) ys zero h = refl
first_piece (x ∷ xs) ys (suc place) h = first_piece xs ys place (omega (arith, h))

later_piece : {X : Type 0} (xs ys : List X) (place : ℕ) → length xs ≤ place
    → slice_get (xs ++ ys) place ≡ slice_get ys (place - length xs)
later_piece [] ys place h = ap (slice_get ys) (let is : place ≡ place - 0 = omega arith in is)
later_piece (x ∷ xs) ys zero h = absurd (let no : ⊥ = omega (arith, h) in no)
later_piece (x ∷ xs) ys (suc place) h =
    later_piece xs ys place (omega (arith, h))
    ∙ ap (slice_get ys) (let is : place - length xs
    ≡ suc place - suc (length xs) = omega arith in is)

module _ {T A : Type 0} (pieces : List (Vec T A)) (i : ℕ) (piece : Vec T A)
    (is : piece ≡ get_or pieces i piece) (within : i < length pieces) where
  from_piece : flat_map vec_items (drop i pieces)
      ≡ vec_items piece ++ flat_map vec_items (drop (i + 1) pieces)
  from_piece =
      let next : suc i ≡ i + 1 = omega arith in
      ap (flat_map vec_items) (drop-cons pieces i piece within)
      ∙ ap (λ p. vec_items p ++ flat_map vec_items (drop (suc i) pieces)) (sym is)
      ∙ ap (λ n. vec_items piece ++ flat_map vec_items (drop n pieces)) next

  pub in_piece : (left : ℕ) → left < length (vec_items piece)
      → slice_get (flat_map vec_items (drop i pieces)) left ≡ slice_get (vec_items piece) left
  in_piece left low =
      ap (λ l. slice_get l left) from_piece
      ∙ first_piece (vec_items piece) (flat_map vec_items (drop (i + 1) pieces)) left low

  pub past_piece : (left : ℕ) → length (vec_items piece) ≤ left
      → slice_get (flat_map vec_items (drop i pieces)) left
      ≡ slice_get (flat_map vec_items (drop (i + 1) pieces)) (left - length (vec_items piece))
  past_piece left high =
      ap (λ l. slice_get l left) from_piece
      ∙ later_piece (vec_items piece) (flat_map vec_items (drop (i + 1) pieces)) left high
