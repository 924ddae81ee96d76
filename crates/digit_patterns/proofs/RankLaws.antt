-- The patterns that match one text, and the best of them.
use Rattle.std.proofs.Common.{◌≡◌, ℕ, Bool, true, false, not, cond, ◌&&◌, ◌||◌, nat_eq, ◌⊎◌, inl, inr, List, [], ◌∷◌, length, get_or, take, filter, find, Option, Some, None, slice_get, refl, sym, ap, ◌∙◌, arith, MatchOption}
use Rattle.std.specs.List.{list_any, All, position_or_len, starts_with}
use Rattle.std.specs.Cmp.Lexicographic.{same_text}
use Rattle.std.proofs.lemmas.Bool.{and_parts, and_from}
use Rattle.std.proofs.lemmas.Bool.Decides.{nat_tests}
use Rattle.std.proofs.lemmas.List.Folds.{find_at, list_any_at}
use Rattle.std.proofs.lemmas.Option.{get_or_from_slice_get}
use Rattle.gk_terms.proofs.ChoiceLemmas.{find_passes, within_list, first_unbeaten-none}
use Rattle.digit_patterns.specs.PatternParts.{PatternParts}
use Rattle.digit_patterns.specs.Pattern.{matches, Matches, has_count, rank_of, is_rank_above, outranks, Outranks}
use Rattle.digit_patterns.specs.Table.{IsBest, best_of, ranks_above, row_matches}
use Rattle.digit_patterns.specs.Laws.{RankDecides, RankOrders, RankIsTotal, BestIsLongest}
use Rattle.digit_patterns.proofs.Ranks.{IsRankOrder-outranks, IsRankOrder-ranks_above}

-- a matching pattern's literals are the front of the text
literals_in_front : (p : PatternParts) (text : List ℕ) → Matches p text → p.literals ≡ take
    (length p.literals) text
literals_in_front p text h =
    let parts = and_parts (starts_with nat_eq text p.literals) (has_count p (length text)) h in
    same_text p.literals (take (length p.literals) text) (sym parts.0)

-- patterns of one rank that match one text are one pattern
pub same_rank : RankDecides
same_rank text p q h i e =
    let long : length p.literals ≡ length q.literals = ap {A = ℕ × ℕ × ℕ} (λ r. r.0) e in
    let literals : p.literals ≡ q.literals = literals_in_front p text h ∙ ap (λ n. take n text) long
    ∙ sym (literals_in_front q text i) in
    let dots : p.dots ≡ q.dots = ap {A = ℕ × ℕ × ℕ} (λ r. r.1) e in
    let star : p.star ≡ q.star = same_star p.star q.star (ap {A = ℕ × ℕ × ℕ} (λ r. r.2) e) in
    same p q literals dots star
  where
    same_star : (s t : Bool) → ◌≡◌ {A = ℕ} (cond s 0 1) (cond t 0 1) → s ≡ t
    same_star true true e = refl
    same_star false false e = refl
    same_star true false e = absurd (omega arith)
    same_star false true e = absurd (omega arith)

    made : List ℕ → ℕ → Bool → PatternParts
    made literals dots star = record { literals = literals; dots = dots; star = star }

    same : (p q : PatternParts) → p.literals ≡ q.literals → p.dots ≡ q.dots → p.star ≡ q.star → p ≡
        q
    same p q a b c = ap (λ l. made l p.dots p.star) a ∙ ap (λ d. made q.literals d p.star) b ∙ ap
        (made q.literals q.dots) c

pub rank_orders : RankOrders
rank_orders = record {
  irreflexive = λ p h. let e = IsRankOrder-outranks.irreflexive p in cc;
  transitive = λ p q r. IsRankOrder-outranks.transitive p q r;
}

-- of two ranks that differ one is above the other
equal_ranks : (a b c d e f : ℕ) → is_rank_above (a, b, c) (d, e, f) ≡ false → is_rank_above (
  d,
  e,
  f,
)
    (a, b, c) ≡ false → (a ≡ d) × (b ≡ e) × (c ≡ f)
equal_ranks a b c d e f h i =
    let x : a ≡ d = grind (arith, nat_tests) in
    let y : b ≡ e = grind (arith, nat_tests) in
    let z : c ≡ f = grind (arith, nat_tests) in
    (x, y, z)

-- of two patterns that match one text, and differ, one outranks the other
pub rank_is_total : RankIsTotal
rank_is_total text p q h i = by (outranks p q) (outranks q p) refl refl
  where
    by : (s t : Bool) → outranks p q ≡ s → outranks q p ≡ t → (p ≡ q) ⊎
        (Outranks p q ⊎ Outranks q p)
    by true t e f = inr (inl e)
    by false true e f = inr (inr f)
    by false false e f =
        let equal = equal_ranks (length p.literals) p.dots (cond p.star 0 1) (length q.literals)
        q.dots (cond q.star 0 1) e f in
        let same : rank_of p ≡ rank_of q = cc (equal.0, equal.1, equal.2) in
        inl (same_rank text p q h i same)

module _ {X : Type 0} (p q : X → Bool) where
  -- a choice from the elements that pass a test is one by both tests
  find-filter : (xs : List X) → find q (filter p xs) ≡ find (λ x. p x && q x) xs
  find-filter [] = refl
  find-filter (x ∷ xs) = by (p x) (find-filter xs)
    where
      by : (b : Bool) → find q (filter p xs) ≡ find (λ x. p x && q x) xs → find q
          (cond b (x ∷ filter p xs) (filter p xs)) ≡ cond (b && q x) (Some x)
          (find (λ x. p x && q x) xs)
      by true rest = ap (cond (q x) (Some x)) rest
      by false rest = rest

  list_any-filter : (xs : List X) → list_any q (filter p xs) ≡ list_any (λ x. p x && q x) xs
  list_any-filter [] = refl
  list_any-filter (x ∷ xs) = by (p x) (list_any-filter xs)
    where
      by : (b : Bool) → list_any q (filter p xs) ≡ list_any (λ x. p x && q x) xs → list_any q
          (cond b (x ∷ filter p xs) (filter p xs)) ≡ ((b && q x) || list_any (λ x. p x && q x) xs)
      by true rest = ap (λ t. q x || t) rest
      by false rest = rest

-- what fails for the whole list fails for each element
none_passes : {X : Type 0} (p : X → Bool) (xs : List X) → list_any p xs ≡ false → All
    (λ x. p x ≡ false) xs
none_passes p xs h k d within = by (p (get_or xs k d)) refl (λ e. list_any_at p xs k d within e)
  where
    by : (t : Bool) → p (get_or xs k d) ≡ t → (p (get_or xs k d) ≡ true → list_any p xs ≡ true) → p
        (get_or xs k d) ≡ false
    by false e f = e
    by true e f = let g = f e in cc

-- none is filtered only if none passes
filter-none : {X : Type 0} (p : X → Bool) (xs : List X) → filter p xs ≡ [] → list_any p xs ≡ false
filter-none p [] h = refl
filter-none p (x ∷ xs) h = by (p x) (filter-none p xs) h
  where
    by : (b : Bool) → (filter p xs ≡ [] → list_any p xs ≡ false) → cond b (x ∷ filter p xs)
        (filter p xs) ≡ [] → (b || list_any p xs) ≡ false
    by true rest h = cc
    by false rest h = rest h

module _ {V : Type 0} (rows : List (PatternParts × V)) (text : List ℕ) where
  -- no row is found only if no row matches
  pub best_of-none : best_of rows text ≡ None → All (λ (row : PatternParts × V). matches row.0 text
      ≡ false) rows
  best_of-none h = none_passes (row_matches text) rows (filter-none (row_matches text) rows
      (first_unbeaten-none ranks_above IsRankOrder-ranks_above (filter (row_matches text) rows) h))

  -- the row that is found has the longest matching pattern
  pub best_of-IsBest : (best : PatternParts × V) → best_of rows text ≡ Some best → IsBest rows text
      best
  best_of-IsBest best h =
      let found : find test rows ≡ Some best = sym (find-filter (row_matches text) unbeaten rows) ∙
      h in
      let passed = find_passes test rows best found in
      let parts = and_parts (row_matches text best) (unbeaten best) passed in
      let stands : slice_get rows (position_or_len test rows) ≡ Some best = sym (find_at test rows)
      ∙ found in
      let place = position_or_len test rows in
      record {
        row = (
          place,
          within_list rows place best stands,
          get_or_from_slice_get rows place best best
              stands,
        );
        matching = parts.0;
        longest = λ k d within match. longer best (get_or rows k d) match parts.0
            (none_passes (λ row. row_matches text row && ranks_above row best) rows
            (no_other best parts.1) k d within);
      }
    where
      unbeaten : PatternParts × V → Bool
      unbeaten row = not (list_any (λ other. ranks_above other row)
          (filter (row_matches text) rows))

      test : PatternParts × V → Bool
      test row = row_matches text row && unbeaten row

      no_other : (best : PatternParts × V) → unbeaten best ≡ true → list_any
          (λ row. row_matches text row && ranks_above row best) rows ≡ false
      no_other best h = sym (list_any-filter (row_matches text) (λ row. ranks_above row best) rows)
          ∙ negated (list_any (λ other. ranks_above other best) (filter (row_matches text) rows)) h
        where
          negated : (t : Bool) → not t ≡ true → t ≡ false
          negated false e = refl
          negated true e = cc

      longer : (best row : PatternParts × V) → Matches row.0 text → Matches best.0 text →
          (row_matches text row && ranks_above row best) ≡ false → (row.0 ≡ best.0) ⊎ Outranks
          best.0 row.0
      longer best row h i e = by (rank_is_total text row.0 best.0 h i)
        where
          by : (row.0 ≡ best.0) ⊎ (Outranks row.0 best.0 ⊎ Outranks best.0 row.0) → (row.0 ≡ best.0)
              ⊎ Outranks best.0 row.0
          by (inl same) = inl same
          by (inr (inl above)) = let both : (row_matches text row && ranks_above row best) ≡ true =
              and_from _ _ h above in cc
          by (inr (inr below)) = inr below

pub best_is_longest : BestIsLongest
best_is_longest rows text = by (best_of rows text) refl
  where
    by : (found : Option (PatternParts × ℕ)) → best_of rows text ≡ found → MatchOption found
        (All (λ row. matches row.0 text ≡ false) rows) (IsBest rows text)
    by None h = best_of-none rows text h
    by (Some best) h = best_of-IsBest rows text best h
