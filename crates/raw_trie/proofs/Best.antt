-- What a walk has found at its end is the best row.
use Rattle.std.proofs.Common.{◌≡◌, ℕ, zero, suc, ◌+◌, ◌<◌, ◌≤◌, Bool, true, false, cond, ◌⊎◌, inl, inr, List, [], ◌∷◌, ◌++◌, length, get_or, take, refl, sym, ap, ◌∙◌, arith, Option, Some, None, is_some}
use Rattle.std.specs.List.{Contains}
use Rattle.std.specs.Option.{option_map}
use Rattle.std.proofs.lemmas.Bool.{cases_order, cases_lt}
use Rattle.std.proofs.lemmas.List.{append-nil, append_assoc, get_or-take, length-take-le, get_or_default}
use Rattle.std.proofs.lemmas.List.Elements.{All-contains}
use Rattle.std.proofs.lemmas.List.Folds.{list_any_at}
use Rattle.digit_patterns.specs.PatternParts.{PatternParts}
use Rattle.digit_patterns.specs.Pattern.{matches, Matches, Outranks, same_pattern}
use Rattle.digit_patterns.specs.Duplicate.{has_pattern, duplicate_from, duplicate_of}
use Rattle.digit_patterns.specs.Table.{best_of, best_hit, hit_of}
use Rattle.digit_patterns.specs.declared.tables.Hit.{Hit}
use Rattle.digit_patterns.proofs.RankLaws.{rank_orders, best_of-none, best_of-IsBest}
use Rattle.raw_trie.specs.Trie.{Row}
use Rattle.raw_trie.specs.Found.{score_of, IsFound, IsTop}
use Rattle.raw_trie.proofs.Same.{tested_of_same}

abbrev NoEarlier : ℕ → List Row → List Row → Row → Type 0
NoEarlier place before rest d =
    duplicate_from place before rest ≡ None → (i : ℕ) → i < length rest
    → has_pattern (get_or rest i d).0 (before ++ take i rest) ≡ false

-- if no row has the pattern of an earlier one, none of the rest has that of a row before it
no_earlier : (place : ℕ) (before rest : List Row) → duplicate_from place before rest ≡ None
    → (k : ℕ) (d : Row) → k < length rest
    → has_pattern (get_or rest k d).0 (before ++ take k rest) ≡ false
no_earlier place before [] none k d within = absurd (omega arith)
no_earlier place before (row ∷ rows) none k d within =
    by (has_pattern row.0 before) refl
    (λ rest i h. no_earlier (place + 1) (before ++ row ∷ []) rows rest i d h) k within
  where
    by : (t : Bool) → has_pattern row.0 before ≡ t
        → NoEarlier (place + 1) (before ++ row ∷ []) rows d → (i : ℕ) → i < length (row ∷ rows)
        → has_pattern (get_or (row ∷ rows) i d).0 (before ++ take i (row ∷ rows)) ≡ false
    by true e later i h =
        absurd (let f : Some place ≡ None = sym
        (ap (λ t. cond t (Some place) (duplicate_from (place + 1) (before ++ row ∷ []) rows)) e)
        ∙ none in cc)
    by false e later zero h = ap (has_pattern row.0) (append-nil before) ∙ e
    by false e later (suc i) h =
        let rest : duplicate_from (place + 1) (before ++ row ∷ []) rows ≡ None =
        sym (ap (λ t. cond t (Some place) (duplicate_from (place + 1) (before ++ row ∷ []) rows)) e)
        ∙ none in
        ap (has_pattern (get_or rows i d).0) (sym (append_assoc before (row ∷ []) (take i rows)))
        ∙ later rest i (omega arith)

-- so rows with one pattern are one row
same_row : (rows : List Row) → duplicate_of rows ≡ None → (a b : Row) → Contains rows a
    → Contains rows b → a.0 ≡ b.0 → a ≡ b
same_row rows once a b in_a in_b same = by (cases_order in_a.0 in_b.0)
  where
    apart : (i j : ℕ) (x y : Row) → get_or rows i x ≡ x → get_or rows j y ≡ y → i < j
        → j < length rows → x.0 ≡ y.0 → ⊥
    apart i j x y at_i at_j before within e =
        let fresh : has_pattern (get_or rows j y).0 (take j rows) ≡ false =
        no_earlier 0 [] rows once j y within in
        let there : get_or (take j rows) i x ≡ x = get_or-take j rows i x before ∙ at_i in
        let tested : same_pattern (get_or (take j rows) i x).0 (get_or rows j y).0 ≡ true =
        ap (λ (r : Row). same_pattern r.0 (get_or rows j y).0) there
        ∙ tested_of_same x.0 (get_or rows j y).0 (e ∙ ap (λ (r : Row). r.0) (sym at_j)) in
        let found : has_pattern (get_or rows j y).0 (take j rows) ≡ true =
        list_any_at (λ r. same_pattern r.0 (get_or rows j y).0) (take j rows) i x
        (omega (arith, length-take-le j rows (omega arith))) tested in
        cc

    by : (in_a.0 ≡ in_b.0) ⊎ ((in_a.0 < in_b.0) ⊎ (in_b.0 < in_a.0)) → a ≡ b
    by (inl e) =
        sym in_a.2 ∙ get_or_default rows in_a.0 a b in_a.1 ∙ ap (λ i. get_or rows i b) e ∙ in_b.2
    by (inr (inl less)) = absurd (apart in_a.0 in_b.0 a b in_a.2 in_b.2 less in_b.1 same)
    by (inr (inr more)) = absurd (apart in_b.0 in_a.0 b a in_b.2 in_a.2 more in_a.1 (sym same))

-- the top of all rows
pub best_at_end : (rows : List Row) (text : List ℕ) (best : Option Hit) → duplicate_of rows ≡ None
    → IsTop rows text 0 best → best ≡ best_hit rows text
best_at_end rows text best once found = by best (best_of rows text) refl found
  where
    by : (b : Option Hit) (o : Option Row) → best_of rows text ≡ o → IsTop rows text 0 b
        → b ≡ option_map hit_of (best_of rows text)
    by None None e f = sym (ap (option_map hit_of) e)
    by None (Some row) e f =
        let is = best_of-IsBest rows text row e in
        absurd (let none : score_of row.0 < 0 = f row is.row is.matching in omega arith)
    by (Some hit) None e f =
        let none = best_of-none rows text e f.1.0 f.0 f.1.1 in
        let some : matches f.0.0 text ≡ true = f.2 in
        let clash : matches (get_or rows f.1.0 f.0).0 text ≡ true =
        ap (λ (r : Row). matches r.0 text) f.1.2 ∙ some in
        absurd (let g : true ≡ false = sym clash ∙ none in cc)
    by (Some hit) (Some row) e f =
        let is = best_of-IsBest rows text row e in
        let above = f.4 row is.row is.matching in
        let below =
        All-contains (λ (r : Row). Matches r.0 text → (r.0 ≡ row.0) ⊎ Outranks row.0 r.0) rows f.0
        is.longest f.1 f.2 in
        ap Some (f.3 ∙ ap hit_of (sym
        (same_row rows once row f.0 is.row f.1 (same_pattern_of row.0 f.0.0 above below))))
        ∙ sym (ap (option_map hit_of) e)
      where
        same_pattern_of : (p q : PatternParts) → (p ≡ q) ⊎ Outranks q p → (q ≡ p) ⊎ Outranks p q
            → p ≡ q
        same_pattern_of p q (inl e) b = e
        same_pattern_of p q a (inl e) = sym e
        same_pattern_of p q (inr a) (inr b) =
            absurd (rank_orders.irreflexive p (rank_orders.transitive p q p b a))

-- what was found below the bound is the top of all rows if no matching row is at the bound or above
pub top_of_found : (rows : List Row) (text : List ℕ) (low bound : ℕ) (best : Option Hit)
    → IsFound rows text low bound best
    → ((row : Row) → Contains rows row → Matches row.0 text → score_of row.0 < bound)
    → IsTop rows text low best
top_of_found rows text low bound None found all =
    λ row in' match. by row in' match (cases_lt (score_of row.0) low)
  where
    by : (row : Row) → Contains rows row → Matches row.0 text
        → (score_of row.0 < low) ⊎ (low ≤ score_of row.0) → score_of row.0 < low
    by row in' match (inl less) = less
    by row in' match (inr more) = absurd (found row in' match more (all row in' match))
top_of_found rows text low bound (Some hit) found all =
    (found.0, found.1, found.2, found.3, λ row in' match. found.4 row in' match (all row in' match))

-- a hit from a higher bound on is one from a lower bound on
pub top_lower : (rows : List Row) (text : List ℕ) (low high : ℕ) (best : Option Hit)
    → is_some best ≡ true → IsTop rows text high best → IsTop rows text low best
top_lower rows text low high None some top = absurd (let f : false ≡ true = some in cc)
top_lower rows text low high (Some hit) some top = top

-- if there is none from a bound on, all matching rows are below it
pub below_if_none : (rows : List Row) (text : List ℕ) (high : ℕ) (best : Option Hit)
    → is_some best ≡ false → IsTop rows text high best → (row : Row) → Contains rows row
    → Matches row.0 text → score_of row.0 < high
below_if_none rows text high None none top = top
below_if_none rows text high (Some hit) none top = absurd (let f : true ≡ false = none in cc)
