-- A trie with one more row.
use Rattle.std.proofs.Common.{◌≡◌, ℕ, ◌+◌, ◌*◌, ◌<◌, ◌≢◌, eqb, Bool, true, false, cond, ◌⊎◌, inl, inr, List, [], ◌∷◌, ◌++◌, length, get_or, set, refl, sym, ap, ◌∙◌, subst, arith, Option, Some, None}
use Rattle.std.specs.List.{Contains}
use Rattle.std.proofs.lemmas.Bool.{cases_eq, cond-true, cond-false, eqb-true, eqb-false, ne_eqb, false_from_ne_true}
use Rattle.std.proofs.lemmas.List.{get_or-set_same, get_or-set_other, length-set}
use Rattle.std.proofs.lemmas.List.Elements.{Contains-push_cases, Contains-append_left, Contains-push, Contains-get_or}
use Rattle.std.proofs.lemmas.List.Folds.{list_any_at, list_any_none}
use Rattle.digit_patterns.specs.PatternParts.{PatternParts, IsPattern}
use Rattle.digit_patterns.specs.Pattern.{same_pattern}
use Rattle.digit_patterns.specs.Duplicate.{has_pattern}
use Rattle.raw_trie.specs.Nodes.{path_of}
use Rattle.raw_trie.specs.Trie.{Row, At, EndsAt, Tells, IsTrie, Reaches, GrowsTo, Added, AddsRow, link_at, end_in, end_at, with_end, with_beginnings}
use Rattle.raw_trie.proofs.Growth.{end_in-same, Tells-at, LeadsTo-at}
use Rattle.raw_trie.proofs.Same.{same_parts, same_of_tested, tested_of_same}

-- where the end stands in a node
abbrev pub place_of : ℕ → Bool → ℕ
place_of node star = 15 * node + cond star 13 11

end_at-place : (words : List ℕ) (node : ℕ) (star : Bool)
    → end_at words node star ≡ end_in words (place_of node star)
end_at-place words node true = refl
end_at-place words node false = refl

module _ (rows : List Row) (paths : List (List ℕ)) (old : List ℕ) (trie : IsTrie rows paths old)
    (node : ℕ) (row : Row) (at : At paths node (path_of row.0)) (pattern : IsPattern row.0) where
  abbrev star : Bool
  star = row.0.star

  abbrev place : ℕ
  place = place_of node star

  abbrev new : List ℕ
  new = set (set old place 1) (place + 1) row.1

  below : place + 1 < length old
  below = by star
    where
      by : (b : Bool) → place_of node b + 1 < length old
      by true = omega (arith, trie.sized, at.0)
      by false = omega (arith, trie.sized, at.0)

  other_word : (i : ℕ) → i ≢ place → i ≢ place + 1 → get_or new i 0 ≡ get_or old i 0
  other_word i a b =
      get_or-set_other (set old place 1) (place + 1) i row.1 0 b
      ∙ get_or-set_other old place i 1 0 a

  flag : get_or new place 0 ≡ 1
  flag = get_or-set_other (set old place 1) (place + 1) place row.1 0 (λ e. absurd (omega arith))
      ∙ get_or-set_same old place 1 0 (omega (arith, below))

  value : get_or new (place + 1) 0 ≡ row.1
  value = get_or-set_same (set old place 1) (place + 1) row.1 0
      (omega (arith, below, length-set old place 1))

  new_end : end_at new node star ≡ Some row.1
  new_end =
      end_at-place new node star
      ∙ ap (λ f. cond (eqb f 0) None (Some (get_or new (place + 1) 0))) flag
      ∙ ap Some value

  -- the links and the other ends are as they were
  same_link : (n s : ℕ) → s < 11 → link_at new n s ≡ link_at old n s
  same_link n s small = by star refl
    where
      by : (b : Bool) → star ≡ b → link_at new n s ≡ link_at old n s
      by true e =
          let f : place ≡ 15 * node + 13 = ap (place_of node) e in
          other_word (15 * n + s) (λ g. absurd (omega arith)) (λ g. absurd (omega arith))
      by false e =
          let f : place ≡ 15 * node + 11 = ap (place_of node) e in
          other_word (15 * n + s) (λ g. absurd (omega arith)) (λ g. absurd (omega arith))

  other_place : (n : ℕ) (a b : Bool) → ((n ≡ node) × (a ≡ b) → ⊥)
      → (place_of n a ≢ place_of node b) × (place_of n a ≢ place_of node b + 1)
      × (place_of n a + 1 ≢ place_of node b) × (place_of n a + 1 ≢ place_of node b + 1)
  other_place n true true other = (
    λ e. other (omega arith, refl),
    λ e. absurd (omega arith),
    λ e. absurd (omega arith),
    λ e. other (omega arith, refl),
  )
  other_place n false false other = (
    λ e. other (omega arith, refl),
    λ e. absurd (omega arith),
    λ e. absurd (omega arith),
    λ e. other (omega arith, refl),
  )
  other_place n true false other = (
    λ e. absurd (omega arith),
    λ e. absurd (omega arith),
    λ e. absurd (omega arith),
    λ e. absurd (omega arith),
  )
  other_place n false true other = (
    λ e. absurd (omega arith),
    λ e. absurd (omega arith),
    λ e. absurd (omega arith),
    λ e. absurd (omega arith),
  )

  same_end : (n : ℕ) (b : Bool) → ((n ≡ node) × (b ≡ star) → ⊥) → end_at new n b ≡ end_at old n b
  same_end n b other =
      let apart = other_place n b star other in
      end_at-place new n b ∙ end_in-same old new (place_of n b)
      (other_word (place_of n b) apart.0 apart.1) (other_word (place_of n b + 1) apart.2 apart.3)
      ∙ sym (end_at-place old n b)

  -- an end of another path or star tells the same with the row
  still : (n : ℕ) (b : Bool) (end : Option ℕ) → n < length paths → ((n ≡ node) × (b ≡ star) → ⊥)
      → Tells rows (get_or paths n []) b end → Tells (rows ++ row ∷ []) (get_or paths n []) b end
  still n b (Some v) within other tells =
      (tells.0, Contains-append_left rows (row ∷ []) tells.0 tells.1, tells.2, tells.3)
  still n b None within other tells = λ r in' ends. by r ends (Contains-push_cases rows row r in')
    where
      by : (r : Row) → EndsAt (get_or paths n []) b r → Contains rows r ⊎ (row ≡ r) → ⊥
      by r ends (inl in') = tells r in' ends
      by r ends (inr same) =
          let here : path_of row.0 ≡ get_or paths n [] =
          ap (λ (x : Row). path_of x.0) same ∙ ends.0 in
          other (
            trie.apart n node (path_of row.0) (within, sym here) at,
            sym (ap (λ (x : Row). x.0.star) same ∙ ends.1),
          )

  ends : (n : ℕ) (b : Bool) → n < length paths
      → Tells (rows ++ row ∷ []) (get_or paths n []) b (end_at new n b)
  ends n b within = by (cases_eq n node) (same_star b star)
    where
      same_star : (s t : Bool) → (s ≡ t) ⊎ (s ≡ t → ⊥)
      same_star true true = inl refl
      same_star false false = inl refl
      same_star true false = inr (λ e. absurd (let f : true ≡ false = e in cc))
      same_star false true = inr (λ e. absurd (let f : false ≡ true = e in cc))

      keeps : ((n ≡ node) × (b ≡ star) → ⊥)
          → Tells (rows ++ row ∷ []) (get_or paths n []) b (end_at new n b)
      keeps other =
          Tells-at (rows ++ row ∷ []) (get_or paths n []) (get_or paths n []) b (end_at old n b)
          (end_at new n b) refl (sym (same_end n b other))
          (still n b (end_at old n b) within other (trie.ends n b within))

      by : (n ≡ node) ⊎ (n ≡ node → ⊥) → (b ≡ star) ⊎ (b ≡ star → ⊥)
          → Tells (rows ++ row ∷ []) (get_or paths n []) b (end_at new n b)
      by (inr far) e = keeps (λ both. far both.0)
      by (inl near) (inr far) = keeps (λ both. far both.1)
      by (inl near) (inl same) =
          let told : end_at new n b ≡ Some row.1 =
          ap (λ k. end_at new k b) near ∙ ap (end_at new node) same ∙ new_end in
          let path : path_of row.0 ≡ get_or paths n [] =
          sym at.1 ∙ ap (λ k. get_or paths k []) (sym near) in
          Tells-at (rows ++ row ∷ []) (get_or paths n []) (get_or paths n []) b (Some row.1)
          (end_at new n b) refl (sym told) (row, Contains-push rows row, (path, sym same), refl)

  with_row : IsTrie (rows ++ row ∷ []) paths new
  with_row = record {
    sized = length-set (set old place 1) (place + 1) row.1 ∙ length-set old place 1 ∙ trie.sized;
    root = trie.root;
    apart = trie.apart;
    closed = trie.closed;
    links = λ n s within small. LeadsTo-at paths _ _ (link_at old n s) (link_at new n s) refl
        (sym (same_link n s small)) (trie.links n s within small);
    ends = ends;
    held = λ r in'. by_held r (Contains-push_cases rows row r in');
    patterns = λ r in'. by_pattern r (Contains-push_cases rows row r in');
  }
    where
      by_held : (r : Row) → Contains rows r ⊎ (row ≡ r) → (m : ℕ) × At paths m (path_of r.0)
      by_held r (inl in') = trie.held r in'
      by_held r (inr same) = (node, subst (λ (x : Row). At paths node (path_of x.0)) same at)

      by_pattern : (r : Row) → Contains rows r ⊎ (row ≡ r) → IsPattern r.0
      by_pattern r (inl in') = trie.patterns r in'
      by_pattern r (inr same) = subst (λ (x : Row). IsPattern x.0) same pattern

  -- whether there was a row with the pattern
  told : (end : Option ℕ) → end_at old node star ≡ end → Tells rows (path_of row.0) star end
  told end e =
      Tells-at rows (get_or paths node []) (path_of row.0) star (end_at old node star) end at.1 e
      (trie.ends node star at.0)

  was_none : get_or old place 0 ≡ 0 → has_pattern row.0 rows ≡ false
  was_none e =
      let none : end_at old node star ≡ None =
      end_at-place old node star ∙ ap (λ f. cond (eqb f 0) None (Some (get_or old (place + 1) 0)))
      e in
      let free = told None none in
      list_any_none (λ r. same_pattern r.0 row.0) rows
      (λ k d within. false_from_ne_true (same_pattern (get_or rows k d).0 row.0) (λ t.
      let same = same_of_tested (get_or rows k d).0 row.0 t in
      free (get_or rows k d) (Contains-get_or rows k d within)
      (ap path_of same, ap (λ (p : PatternParts). p.star) same)))

  was_there : get_or old place 0 ≢ 0 → has_pattern row.0 rows ≡ true
  was_there e =
      let some : end_at old node star ≡ Some (get_or old (place + 1) 0) =
      end_at-place old node star ∙ cond-false (eqb (get_or old place 0) 0) None
      (Some (get_or old (place + 1) 0)) (ne_eqb (get_or old place 0) 0 e) in
      let there = told (Some (get_or old (place + 1) 0)) some in
      let same : there.0.0 ≡ row.0 =
      same_parts there.0.0 row.0 (trie.patterns there.0 there.1) pattern there.2.0 there.2.1 in
      list_any_at (λ r. same_pattern r.0 row.0) rows there.1.0 there.0 there.1.1
      (ap (λ (r : Row). same_pattern r.0 row.0) there.1.2 ∙ tested_of_same there.0.0 row.0 same)

  -- the row is added, or was there
  pub added_new : eqb (get_or old place 0) 0 ≡ true → (words : List ℕ)
      → words ≡ with_end old place row.1
      → IsTrie (rows ++ row ∷ []) paths words × (has_pattern row.0 rows ≡ false)
  added_new e words w =
      let are : words ≡ new = w ∙ cond-true (eqb (get_or old place 0) 0) new old e in (
        subst (λ ws. IsTrie (rows ++ row ∷ []) paths ws) (sym are) with_row,
        was_none (eqb-true (get_or old place 0) 0 e),
      )

  pub added_before : eqb (get_or old place 0) 0 ≡ false → has_pattern row.0 rows ≡ true
  added_before e = was_there (eqb-false (get_or old place 0) 0 e)

-- a row is added at the node of its pattern
pub ended : (old mid new : List ℕ) (node : ℕ) (row : Row) (t : Bool) → IsPattern row.0
    → GrowsTo old mid node (path_of row.0) → t ≡ eqb (get_or mid (place_of node row.0.star) 0) 0
    → new ≡ with_end mid (place_of node row.0.star) row.1 → AddsRow old new row t
ended old mid new node row t pattern grows e w rows paths trie =
    by t (sym e)
  where
    there : Reaches rows (with_beginnings paths (path_of row.0)) mid node (path_of row.0)
    there = grows rows paths trie

    by : (b : Bool) → eqb (get_or mid (place_of node row.0.star) 0) 0 ≡ b
        → Added rows paths row new b
    by true f =
        added_new rows (with_beginnings paths (path_of row.0)) mid there.0 node row there.1 pattern
        f new w
    by false f =
        added_before rows (with_beginnings paths (path_of row.0)) mid there.0 node row there.1
        pattern f
