-- Rows without those whose pattern an earlier row has: the best one stays, and no pattern occurs
-- twice.
use Rattle.std.proofs.Common.{◌≡◌, ℕ, suc, ◌+◌, ◌<◌, Bool, true, false, cond, nat_eq, ◌&&◌, ◌||◌, ◌⊎◌, inl, inr, List, [], ◌∷◌, ◌++◌, length, length-append, length-take-le, get_or, take, map, filter, fold, slice_get, refl, sym, ap, subst, ◌∙◌, arith, append_assoc, append-nil}
use Rattle.std.specs.Prelude.{Option, Some, None, option_map}
use Rattle.std.specs.List.{All}
use Rattle.std.specs.Str.{bytes_eq}
use Rattle.std.specs.Cmp.{booleans_Decides}
use Rattle.std.specs.Cmp.Lexicographic.{same_text}
use Rattle.std.proofs.Math.Bool.{beq}
use Rattle.std.proofs.lemmas.Bool.{and_parts, eqb-true}
use Rattle.std.proofs.lemmas.List.{map-append, take_more}
use Rattle.std.proofs.lemmas.List.Elements.{filter-append}
use Rattle.std.proofs.lemmas.List.Sums.{fold-append}
use Rattle.std.proofs.lemmas.List.Folds.{Any-from_list_any}
use Rattle.gk_terms.specs.Choice.{better}
use Rattle.digit_patterns.specs.PatternParts.{PatternParts}
use Rattle.digit_patterns.specs.Pattern.{matches, outranks, Outranks, same_pattern}
use Rattle.digit_patterns.specs.Table.{IsBest, best_of, ranks_above, row_matches}
use Rattle.digit_patterns.specs.Duplicate.{has_pattern, duplicate_from, duplicate_of}
use Rattle.digit_patterns.proofs.Ranks.{IsRankOrder-outranks, best_of-pass}
use Rattle.digit_patterns.proofs.RankLaws.{best_of-none, best_of-IsBest}
use Rattle.compiler.specs.Rows.{with_row, first_rows_of}
use Rattle.compiler.specs.TablesIndex.{places_from, places_of}

-- patterns that the test calls the same are one
pub same_pattern-same : (p q : PatternParts) → same_pattern p q ≡ true → p ≡ q
same_pattern-same p q h =
    let parts = and_parts (bytes_eq p.literals q.literals)
    ((nat_eq p.dots q.dots) && beq p.star q.star) h in
    let others = and_parts (nat_eq p.dots q.dots) (beq p.star q.star) parts.1 in
    ap (λ l. made l p.dots p.star) (same_text p.literals q.literals (sym parts.0))
    ∙ ap (λ d. made q.literals d p.star) (eqb-true p.dots q.dots others.0)
    ∙ ap (made q.literals q.dots) ((booleans_Decides p.star q.star).0 others.1)
  where
    made : List ℕ → ℕ → Bool → PatternParts
    made literals dots star = record { literals = literals; dots = dots; star = star }

module _ {V : Type 0} where
  -- one more row after the others
  best_of-one_more : (rows : List (PatternParts × V)) (row : PatternParts × V) (text : List ℕ)
      → best_of (rows ++ row ∷ []) text
      ≡ cond (row_matches text row) (better ranks_above (best_of rows text) row)
      (best_of rows text)
  best_of-one_more rows row text =
      best_of-pass (rows ++ row ∷ []) text
      ∙ ap (fold (better ranks_above) None) (filter-append (row_matches text) rows (row ∷ []))
      ∙ fold-append (better ranks_above) None (filter (row_matches text) rows)
      (filter (row_matches text) (row ∷ []))
      ∙ ap (λ b. fold (better ranks_above) b (filter (row_matches text) (row ∷ [])))
      (sym (best_of-pass rows text))
      ∙ last (row_matches text row) (best_of rows text)
    where
      last : (t : Bool) (best : Option (PatternParts × V))
          → fold (better ranks_above) best (cond t (row ∷ []) [])
          ≡ cond t (better ranks_above best row) best
      last true best = refl
      last false best = refl

  -- the best row is not outranked by a matching row whose pattern is among those of the others
  not_above : (rows : List (PatternParts × V)) (row best : PatternParts × V) (text : List ℕ)
      → IsBest rows text best → has_pattern row.0 rows ≡ true → matches row.0 text ≡ true
      → outranks row.0 best.0 ≡ false
  not_above rows row best text is_best seen match =
      let found = Any-from_list_any (λ other. same_pattern other.0 row.0) rows seen in
      let same : found.1.0 ≡ row.0 = same_pattern-same found.1.0 row.0 found.4 in
      let other : get_or rows found.0 found.1 ≡ found.1 = found.3 in
      let is_row : (get_or rows found.0 found.1).0 ≡ row.0 = ap (λ r. r.0) other ∙ same in
      by (subst (λ (p : PatternParts). matches p text ≡ true → (p ≡ best.0) ⊎ Outranks best.0 p)
      is_row (is_best.longest found.0 found.1 found.2) match)
    where
      by : (row.0 ≡ best.0) ⊎ Outranks best.0 row.0 → outranks row.0 best.0 ≡ false
      by (inl e) = ap (outranks row.0) (sym e) ∙ IsRankOrder-outranks.irreflexive row.0
      by (inr below) = cases (outranks row.0 best.0) refl
        where
          cases : (t : Bool) → outranks row.0 best.0 ≡ t → outranks row.0 best.0 ≡ false
          cases false e = e
          cases true e =
              let f = IsRankOrder-outranks.transitive row.0 best.0 row.0 e below in let g =
              IsRankOrder-outranks.irreflexive row.0 in cc

  -- if a row's pattern is among those of the others, one of them matches too
  none_best : (rows : List (PatternParts × V)) (row : PatternParts × V) (text : List ℕ)
      → All (λ (other : PatternParts × V). matches other.0 text ≡ false) rows
      → has_pattern row.0 rows ≡ true → matches row.0 text ≡ true → ⊥
  none_best rows row text none seen match =
      let found = Any-from_list_any (λ other. same_pattern other.0 row.0) rows seen in
      let same : found.1.0 ≡ row.0 = same_pattern-same found.1.0 row.0 found.4 in
      let other : get_or rows found.0 found.1 ≡ found.1 = found.3 in
      let fails = none found.0 found.1 found.2 in
      let e : matches (get_or rows found.0 found.1).0 text ≡ matches row.0 text =
      ap (λ p. matches p text) (ap (λ r. r.0) other ∙ same) in
      cc

  -- a row whose pattern was there before is not better
  best_of-seen : (rows : List (PatternParts × V)) (row : PatternParts × V) (text : List ℕ)
      → has_pattern row.0 rows ≡ true → matches row.0 text ≡ true
      → better ranks_above (best_of rows text) row ≡ best_of rows text
  best_of-seen rows row text seen match = by (best_of rows text) refl
    where
      by : (best : Option (PatternParts × V)) → best_of rows text ≡ best
          → better ranks_above best row ≡ best
      by None h = absurd (none_best rows row text (best_of-none rows text h) seen match)
      by (Some best) h =
          rw (not_above rows row best text (best_of-IsBest rows text best h) seen match) refl

  -- a row that is kept or passed over changes the best kept row as it changes the best of all
  best_of-with_row : (kept before : List (PatternParts × V)) (row : PatternParts × V)
      (text : List ℕ)
      → best_of kept text ≡ best_of before text
      → best_of (with_row kept row) text ≡ best_of (before ++ row ∷ []) text
  best_of-with_row kept before row text h = by (has_pattern row.0 kept) refl
    where
      both : cond (row_matches text row) (better ranks_above (best_of kept text) row)
          (best_of kept text) ≡ best_of (before ++ row ∷ []) text
      both =
          ap (λ best. cond (row_matches text row) (better ranks_above best row) best) h
          ∙ sym (best_of-one_more before row text)

      passed : has_pattern row.0 kept ≡ true → (t : Bool) → row_matches text row ≡ t
          → best_of kept text
          ≡ cond t (better ranks_above (best_of kept text) row) (best_of kept text)
      passed seen true e = sym (best_of-seen kept row text seen e)
      passed seen false e = refl

      by : (t : Bool) → has_pattern row.0 kept ≡ t
          → best_of (with_row kept row) text ≡ best_of (before ++ row ∷ []) text
      by true e =
          ap (λ t. best_of (cond t kept (kept ++ row ∷ [])) text) e
          ∙ passed e (row_matches text row) refl
          ∙ both
      by false e =
          ap (λ t. best_of (cond t kept (kept ++ row ∷ [])) text) e
          ∙ best_of-one_more kept row text
          ∙ both

  best_of-fold : (kept before rows : List (PatternParts × V)) (text : List ℕ)
      → best_of kept text ≡ best_of before text
      → best_of (fold with_row kept rows) text ≡ best_of (before ++ rows) text
  best_of-fold kept before [] text h = h ∙ ap (λ all. best_of all text) (sym (append-nil before))
  best_of-fold kept before (row ∷ rows) text h =
      best_of-fold (with_row kept row) (before ++ row ∷ []) rows text
      (best_of-with_row kept before row text h)
      ∙ ap (λ all. best_of all text) (append_assoc before (row ∷ []) rows)

  -- so the first row of each pattern suffices
  pub best_of-first_rows_of : (rows : List (PatternParts × V)) (text : List ℕ)
      → best_of (first_rows_of rows) text ≡ best_of rows text
  best_of-first_rows_of rows text = best_of-fold [] [] rows text refl

  -- ---- no pattern occurs twice
  none_more : (place : ℕ) (before rows : List (PatternParts × V)) (row : PatternParts × V)
      → duplicate_from place before rows ≡ None → has_pattern row.0 (before ++ rows) ≡ false
      → duplicate_from place before (rows ++ row ∷ []) ≡ None
  none_more place before [] row h unseen =
      let e : has_pattern row.0 before ≡ false = ap (has_pattern row.0) (sym (append-nil before))
      ∙ unseen in
      ap (λ t. cond t (Some place) None) e
  none_more place before (other ∷ rows) row h unseen =
      by (has_pattern other.0 before)
      (λ e. none_more (place + 1) (before ++ other ∷ []) rows row e
      (ap (has_pattern row.0) (append_assoc before (other ∷ []) rows) ∙ unseen)) h
    where
      by : (t : Bool)
          → (duplicate_from (place + 1) (before ++ other ∷ []) rows ≡ None
          → duplicate_from (place + 1) (before ++ other ∷ []) (rows ++ row ∷ []) ≡ None)
          → cond t (Some place) (duplicate_from (place + 1) (before ++ other ∷ []) rows) ≡ None
          → cond t (Some place)
          (duplicate_from (place + 1) (before ++ other ∷ []) (rows ++ row ∷ [])) ≡ None
      by true rest e = cc
      by false rest e = rest e

  distinct-with_row : (kept : List (PatternParts × V)) (row : PatternParts × V)
      → duplicate_of kept ≡ None → duplicate_of (with_row kept row) ≡ None
  distinct-with_row kept row h = by (has_pattern row.0 kept) refl
    where
      by : (t : Bool) → has_pattern row.0 kept ≡ t
          → duplicate_of (cond t kept (kept ++ row ∷ [])) ≡ None
      by true e = h
      by false e = none_more 0 [] kept row h e

  distinct-fold : (kept rows : List (PatternParts × V)) → duplicate_of kept ≡ None
      → duplicate_of (fold with_row kept rows) ≡ None
  distinct-fold kept [] h = h
  distinct-fold kept (row ∷ rows) h =
      distinct-fold (with_row kept row) rows (distinct-with_row kept row h)

  pub distinct-first_rows_of : (rows : List (PatternParts × V))
      → duplicate_of (first_rows_of rows) ≡ None
  distinct-first_rows_of rows = distinct-fold [] rows refl

-- ---- other values beside the patterns
module _ {V W : Type 0} (value : PatternParts × V → W) where
  -- a row with this value in place of its own
  abbrev pub beside : PatternParts × V → PatternParts × W
  beside row = (row.0, value row)

  better-beside : (best : Option (PatternParts × V)) (row : PatternParts × V)
      → better ranks_above (option_map beside best) (beside row)
      ≡ option_map beside (better ranks_above best row)
  better-beside None row = refl
  better-beside (Some best) row = by (outranks row.0 best.0) refl
    where
      by : (t : Bool) → outranks row.0 best.0 ≡ t
          → better ranks_above (Some (beside best)) (beside row)
          ≡ option_map beside (better ranks_above (Some best) row)
      by true e = rw e refl
      by false e = rw e refl

  fold-step : (best : Option (PatternParts × V)) (row : PatternParts × V)
      (sources : List (PatternParts × V)) (others : List (PatternParts × W)) (t : Bool)
      → fold (better ranks_above) (option_map beside (better ranks_above best row)) others
      ≡ option_map beside (fold (better ranks_above) (better ranks_above best row) sources)
      → fold (better ranks_above) (option_map beside best) others
      ≡ option_map beside (fold (better ranks_above) best sources)
      → fold (better ranks_above) (option_map beside best) (cond t (beside row ∷ others) others)
      ≡ option_map beside (fold (better ranks_above) best (cond t (row ∷ sources) sources))
  fold-step best row sources others true over on =
      ap (λ next. fold (better ranks_above) next others) (better-beside best row)
      ∙ over
  fold-step best row sources others false over on = on

  fold-beside : (best : Option (PatternParts × V)) (rows : List (PatternParts × V)) (text : List ℕ)
      → fold (better ranks_above) (option_map beside best)
      (filter (row_matches text) (map beside rows))
      ≡ option_map beside (fold (better ranks_above) best (filter (row_matches text) rows))
  fold-beside best [] text = refl
  fold-beside best (row ∷ rows) text =
      fold-step best row (filter (row_matches text) rows)
      (filter (row_matches text) (map beside rows)) (matches row.0 text)
      (fold-beside (better ranks_above best row) rows text) (fold-beside best rows text)

  -- the best row is that of the same pattern
  pub best_of-beside : (rows : List (PatternParts × V)) (text : List ℕ)
      → best_of (map beside rows) text ≡ option_map beside (best_of rows text)
  best_of-beside rows text =
      best_of-pass (map beside rows) text
      ∙ fold-beside None rows text
      ∙ ap (option_map beside) (sym (best_of-pass rows text))

  has_pattern-beside : (p : PatternParts) (rows : List (PatternParts × V))
      → has_pattern p (map beside rows) ≡ has_pattern p rows
  has_pattern-beside p [] = refl
  has_pattern-beside p (row ∷ rows) =
      ap (λ t. same_pattern row.0 p || t) (has_pattern-beside p rows)

  duplicate_from-beside : (place : ℕ) (before rows : List (PatternParts × V))
      → duplicate_from place (map beside before) (map beside rows)
      ≡ duplicate_from place before rows
  duplicate_from-beside place before [] = refl
  duplicate_from-beside place before (row ∷ rows) =
      ap (λ t. cond t (Some place)
      (duplicate_from (place + 1) (map beside before ++ beside row ∷ []) (map beside rows)))
      (has_pattern-beside row.0 before)
      ∙ ap (λ front. cond (has_pattern row.0 before) (Some place)
      (duplicate_from (place + 1) front (map beside rows)))
      (sym (map-append beside before (row ∷ [])))
      ∙ ap (cond (has_pattern row.0 before) (Some place))
      (duplicate_from-beside (place + 1) (before ++ row ∷ []) rows)

  pub duplicate_of-beside : (rows : List (PatternParts × V))
      → duplicate_of (map beside rows) ≡ duplicate_of rows
  duplicate_of-beside rows = duplicate_from-beside 0 [] rows

-- ---- rows by their places
module _ {V : Type 0} where
  -- what is at the place of a row
  abbrev pub at_place : List (PatternParts × V) → PatternParts × ℕ → Option (PatternParts × V)
  at_place rows row = slice_get rows row.1

  stands : (front rows : List (PatternParts × V)) (row : PatternParts × V)
      → slice_get (front ++ row ∷ rows) (length front) ≡ Some row
  stands [] rows row = refl
  stands (other ∷ front) rows row = stands front rows row

  places : (front rows : List (PatternParts × V)) (place : ℕ) → place ≡ length front
      → map (beside (at_place (front ++ rows))) (places_from place rows)
      ≡ map (beside (λ row. Some row)) rows
  places front [] place h = refl
  places front (row ∷ rows) place h =
      ap (λ there. (row.0, there) ∷ map (beside (at_place (front ++ row ∷ rows)))
      (places_from (place + 1) rows))
      (ap (slice_get (front ++ row ∷ rows)) h ∙ stands front rows row)
      ∙ ap (λ all. (row.0, Some row) ∷ map (beside (at_place all)) (places_from (place + 1) rows))
      (sym (append_assoc front (row ∷ []) rows))
      ∙ ap (λ others. (row.0, Some row) ∷ others)
      (places (front ++ row ∷ []) rows (place + 1)
      (omega (arith, h, length-append front (row ∷ []))))

  -- the best of the places_of rows has the place of the best row
  pub best_of-places_of : (rows : List (PatternParts × V)) (text : List ℕ)
      → option_map (beside (at_place rows)) (best_of (places_of rows) text)
      ≡ option_map (beside (λ row. Some row)) (best_of rows text)
  best_of-places_of rows text =
      sym (best_of-beside (at_place rows) (places_of rows) text)
      ∙ ap (λ all. best_of all text) (places [] rows 0 refl)
      ∙ best_of-beside (λ row. Some row) rows text

  pub duplicate_of-places_of : (rows : List (PatternParts × V))
      → duplicate_of (places_of rows) ≡ duplicate_of rows
  duplicate_of-places_of rows =
      sym (duplicate_of-beside (at_place rows) (places_of rows))
      ∙ ap duplicate_of (places [] rows 0 refl)
      ∙ duplicate_of-beside (λ row. Some row) rows

  length-places_from : (place : ℕ) (rows : List (PatternParts × V))
      → length (places_from place rows) ≡ length rows
  length-places_from place [] = refl
  length-places_from place (row ∷ rows) = ap suc (length-places_from (place + 1) rows)

  pub length-places_of : (rows : List (PatternParts × V)) → length (places_of rows) ≡ length rows
  length-places_of rows = length-places_from 0 rows

  places_from-one_more : (place : ℕ) (rows : List (PatternParts × V)) (row : PatternParts × V)
      → places_from place (rows ++ row ∷ []) ≡ places_from place rows
      ++ (row.0, place + length rows) ∷ []
  places_from-one_more place [] row =
      let e : place ≡ place + 0 = omega arith in
      ap (λ n. (row.0, n) ∷ []) e
  places_from-one_more place (other ∷ rows) row =
      let e : place + 1 + length rows ≡ place + length (other ∷ rows) = omega arith in
      ap (λ others. (other.0, place) ∷ others)
      (places_from-one_more (place + 1) rows row
      ∙ ap (λ n. places_from (place + 1) rows ++ (row.0, n) ∷ []) e)

  -- one more row, with its place
  pub places_more : (rows : List (PatternParts × V)) (place : ℕ) (row : PatternParts × V)
      → row ≡ get_or rows place row → place < length rows
      → places_of (take (place + 1) rows) ≡ places_of (take place rows) ++ (row.0, place) ∷ []
  places_more rows place row stands within =
      let size : length (take place rows) ≡ place =
      length-take-le place rows (omega (arith, within)) in
      let e : 0 + length (take place rows) ≡ place = omega (arith, size) in
      ap places_of
      (take_more rows place row within ∙ ap (λ r. take place rows ++ r ∷ []) (sym stands))
      ∙ places_from-one_more 0 (take place rows) row
      ∙ ap (λ n. places_of (take place rows) ++ (row.0, n) ∷ []) e
