-- The search for a row whose pattern an earlier row has, row by row.
use Rattle.std.proofs.Common.{◌≡◌, ℕ, ◌+◌, ◌<◌, Bool, true, false, not, cond, ◌||◌, List, [], ◌∷◌, ◌++◌, length, get_or, take, drop, Option, Some, refl, sym, ap, ◌∙◌}
use Rattle.std.proofs.lemmas.List.{take_more, drop_more}
use Rattle.std.proofs.lemmas.List.Folds.{list_any_more}
use Rattle.digit_patterns.specs.PatternParts.{PatternParts}
use Rattle.digit_patterns.specs.Pattern.{same_pattern}
use Rattle.digit_patterns.specs.Duplicate.{has_pattern, duplicate_from}

-- the search from a place on
abbrev pub duplicate_after : {V : Type 0} → List (PatternParts × V) → ℕ → Option ℕ
duplicate_after rows place = duplicate_from place (take place rows) (drop place rows)

module _ {V : Type 0} (rows : List (PatternParts × V)) (place : ℕ) (row : PatternParts × V)
    (stands : row ≡ get_or rows place row) (within : place < length rows) where
  -- a step of the search
  step : duplicate_after rows place ≡ cond (has_pattern row.0 (take place rows)) (Some place)
      (duplicate_after rows (place + 1))
  step =
      ap (duplicate_from place (take place rows)) (drop_more rows place row within ∙ ap
      (λ r. r ∷ drop (place + 1) rows) (sym stands))
      ∙ ap (λ front. cond (has_pattern row.0 (take place rows)) (Some place)
      (duplicate_from (place + 1) front (drop (place + 1) rows)))
      (sym (take_more rows place row within ∙ ap (λ r. take place rows ++ r ∷ []) (sym stands)))

  -- no earlier row has the pattern
  pub duplicate_after-new : has_pattern row.0 (take place rows) ≡ false → duplicate_after rows place
      ≡ duplicate_after rows (place + 1)
  duplicate_after-new e = step ∙ ap (λ b. cond b (Some place) (duplicate_after rows (place + 1))) e

  -- an earlier row has it
  pub duplicate_after-found : has_pattern row.0 (take place rows) ≡ true → duplicate_after rows
      place ≡ Some place
  duplicate_after-found e = step ∙ ap (λ b. cond b (Some place) (duplicate_after rows (place + 1)))
      e

  -- one more row is seen
  pub has_pattern_more : (p : PatternParts) → cond (same_pattern row.0 p) true
      (has_pattern p (take place rows)) ≡ has_pattern p (take (place + 1) rows)
  has_pattern_more p =
      flipped (same_pattern row.0 p) (has_pattern p (take place rows))
      ∙ ap (λ r. has_pattern p (take place rows) || same_pattern r.0 p) stands
      ∙ sym (list_any_more (λ r. same_pattern r.0 p) rows place row within)
    where
      flipped : (s t : Bool) → cond s true t ≡ (t || s)
      flipped true true = refl
      flipped true false = refl
      flipped false true = refl
      flipped false false = refl

-- what a key that was added, or not, says of the keys before
pub seen_from_kept : (added seen : Bool) → added ≡ not seen → added ≡ false → seen ≡ true
seen_from_kept added true h e = refl
seen_from_kept added false h e = cc

pub unseen_from_added : (added seen : Bool) → added ≡ not seen → added ≡ true → seen ≡ false
unseen_from_added added true h e = cc
unseen_from_added added false h e = refl
