-- The order of patterns by rank, and the best row by one pass.
use Rattle.std.proofs.Common.{◌≡◌, ℕ, ◌≤◌, true, false, List, length, take, filter, fold, None, sym, ap, ◌∙◌, arith}
use Rattle.std.proofs.lemmas.Bool.Decides.{nat_tests}
use Rattle.std.proofs.Math.Seq.{take_all}
use Rattle.gk_terms.specs.Choice.{better}
use Rattle.gk_terms.proofs.ChoiceLemmas.{IsRankOrder, IsRankOrder-on, first_unbeaten-pass}
use Rattle.digit_patterns.specs.PatternParts.{PatternParts}
use Rattle.digit_patterns.specs.Pattern.{is_rank_above, outranks, rank_of}
use Rattle.digit_patterns.specs.Table.{best_of, ranks_above, row_matches}

-- ranks are compared number by number
pub IsRankOrder-is_above : IsRankOrder is_rank_above
IsRankOrder-is_above = record {
  irreflexive = λ r. lower r.0 r.1 r.2;
  transitive = λ r s t. chain r.0 r.1 r.2 s.0 s.1 s.2 t.0 t.1 t.2;
  splits = λ r s t. split r.0 r.1 r.2 s.0 s.1 s.2 t.0 t.1 t.2;
}
  where
    lower : (a b c : ℕ) → is_rank_above (a, b, c) (a, b, c) ≡ false
    lower a b c = grind (arith, nat_tests)

    chain : (a b c d e f g h i : ℕ) → is_rank_above (a, b, c) (d, e, f) ≡ true → is_rank_above (
      d,
      e,
      f,
    )
        (g, h, i) ≡ true → is_rank_above (a, b, c) (g, h, i) ≡ true
    chain a b c d e f g h i j k = grind (arith, nat_tests)

    split : (a b c d e f g h i : ℕ) → is_rank_above (a, b, c) (g, h, i) ≡ true → is_rank_above (
      a,
      b,
      c,
    )
        (d, e, f) ≡ false → is_rank_above (d, e, f) (g, h, i) ≡ true
    split a b c d e f g h i j k = grind (arith, nat_tests)

-- so are patterns by their ranks
pub IsRankOrder-outranks : IsRankOrder outranks
IsRankOrder-outranks = IsRankOrder-on rank_of is_rank_above IsRankOrder-is_above

-- and rows by their patterns
pub IsRankOrder-ranks_above : {V : Type 0} → IsRankOrder (ranks_above {V = V})
IsRankOrder-ranks_above = IsRankOrder-on (λ row. row.0) outranks IsRankOrder-outranks

-- the best row comes of one pass over the matching rows
pub best_of-pass : {V : Type 0} (rows : List (PatternParts × V)) (text : List ℕ) → best_of rows text
    ≡ fold (better ranks_above) None (filter (row_matches text) rows)
best_of-pass rows text = first_unbeaten-pass ranks_above IsRankOrder-ranks_above
    (filter (row_matches text) rows)

-- the same of a pass that has seen so many rows, and there are no more
pub best_of-after : {V : Type 0} (rows : List (PatternParts × V)) (text : List ℕ) (n : ℕ) → length
    rows ≤ n → fold (better ranks_above) None (filter (row_matches text) (take n rows)) ≡ best_of
    rows text
best_of-after rows text n h = ap (λ xs. fold (better ranks_above) None
    (filter (row_matches text) xs)) (take_all n rows h) ∙ sym (best_of-pass rows text)
