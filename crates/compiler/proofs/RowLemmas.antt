-- Maps of rows by their keys.
use Rattle.std.proofs.Common.{◌≡◌, ℕ, zero, suc, ◌||◌, ◌+◌, ◌<◌, Bool, true, false, cond, List, [], ◌∷◌, ◌++◌, length, take, slice_get, refl, sym, ap, ◌∙◌, arith, ◌&&◌, nat_eq, eq-eqb}
use Rattle.std.specs.Prelude.{Some, None}
use Rattle.std.specs.List.{list_any}
use Rattle.std.specs.Map.{keys_of}
use Rattle.std.specs.Cmp.{IsEquivalence}
use Rattle.std.proofs.Math.Bool.{beq}
use Rattle.std.proofs.lemmas.Cmp.{nat_list_eq_equiv}
use Rattle.std.proofs.lemmas.Option.{get_or_from_slice_get, slice_get_within}
use Rattle.indexmap.specs.IndexMap.{insert_entry}
use Rattle.digit_patterns.specs.PatternParts.{PatternParts}
use Rattle.digit_patterns.specs.Pattern.{same_pattern}
use Rattle.compiler.specs.TablesIndex.{NumberedRow, with_pattern, places_of}
use Rattle.compiler.proofs.FirstRows.{same_pattern-same, places_more}

-- the keys after an insertion, under a test that does not tell its arguments apart by their order
module _ {K V : Type 0} (eq : K → K → Bool) (flipped : (x y : K) → eq x y ≡ eq y x) where
  pub keys-insert_entry : (es : List (K × V)) (k : K) (v : V)
      → keys_of (insert_entry eq es k v)
      ≡ cond (list_any (λ other. eq other k) (keys_of es)) (keys_of es) (keys_of es ++ k ∷ [])
  keys-insert_entry [] k v = refl
  keys-insert_entry (e ∷ es) k v =
      by (eq k e.0) refl (keys-insert_entry es k v)
    where
      by : (t : Bool) → eq k e.0 ≡ t
          → keys_of (insert_entry eq es k v)
          ≡ cond (list_any (λ other. eq other k) (keys_of es)) (keys_of es) (keys_of es ++ k ∷ [])
          → keys_of (cond t ((e.0, v) ∷ es) (e ∷ insert_entry eq es k v))
          ≡ cond (eq e.0 k || list_any (λ other. eq other k) (keys_of es))
          (e.0 ∷ keys_of es) (e.0 ∷ keys_of es ++ k ∷ [])
      by true h rest =
          ap (λ t. cond (t || list_any (λ other. eq other k) (keys_of es))
          (e.0 ∷ keys_of es) (e.0 ∷ keys_of es ++ k ∷ [])) (sym (flipped e.0 k ∙ h))
      by false h rest =
          ap (λ ks. e.0 ∷ ks) rest
          ∙ inside (list_any (λ other. eq other k) (keys_of es))
          ∙ ap (λ t. cond (t || list_any (λ other. eq other k) (keys_of es))
          (e.0 ∷ keys_of es) (e.0 ∷ keys_of es ++ k ∷ [])) (sym (flipped e.0 k ∙ h))
        where
          inside : (t : Bool)
              → (e.0 ∷ cond t (keys_of es) (keys_of es ++ k ∷ []))
              ≡ cond t (e.0 ∷ keys_of es) (e.0 ∷ keys_of es ++ k ∷ [])
          inside true = refl
          inside false = refl

same_pattern-flipped : (p q : PatternParts) → same_pattern p q ≡ same_pattern q p
same_pattern-flipped p q = by (same_pattern p q) (same_pattern q p) refl refl
  where
    by : (s t : Bool) → same_pattern p q ≡ s → same_pattern q p ≡ t → s ≡ t
    by true true e f = refl
    by false false e f = refl
    by true false e f = let same = same_pattern-same p q e in
        sym e ∙ ap (same_pattern p) (sym same) ∙ ap (λ r. same_pattern r p) same ∙ f
    by false true e f = let same = same_pattern-same q p f in
        sym e ∙ ap (same_pattern p) same ∙ ap (λ r. same_pattern r p) (sym same) ∙ f

-- a pattern is the same as itself
pub same_pattern-itself : (p : PatternParts) → same_pattern p p ≡ true
same_pattern-itself p =
    ap (λ t. t && (nat_eq p.dots p.dots && beq p.star p.star)) (nat_list_eq_equiv.refl p.literals)
    ∙ ap (λ t. t && beq p.star p.star) (eq-eqb p.dots p.dots refl) ∙ by p.star
  where
    by : (t : Bool) → beq t t ≡ true
    by true = refl
    by false = refl

-- the laws of patterns under the test
pub IsEquivalence-pattern : IsEquivalence same_pattern
IsEquivalence-pattern = record {
  refl = same_pattern-itself;
  symm = same_pattern-flipped;
  congr = λ x y z h. ap (λ p. same_pattern p z) (same_pattern-same x y h);
}

pub patterns-insert : (rows : List NumberedRow) (pattern : PatternParts) (zone : ℕ)
    → keys_of (insert_entry same_pattern rows pattern zone) ≡ with_pattern (keys_of rows) pattern
patterns-insert rows pattern zone =
    keys-insert_entry same_pattern same_pattern-flipped rows pattern zone

-- one more row, with its place
pub places_with : {V : Type 0} (rows : List (PatternParts × V)) (place : ℕ) (row : PatternParts × V)
    → slice_get rows place ≡ Some row
    → places_of (take (place + 1) rows) ≡ places_of (take place rows) ++ (row.0, place) ∷ []
places_with rows place row h =
    places_more rows place row (sym (get_or_from_slice_get rows place row row h))
    (slice_get_within rows place row h)

-- there is an item at each place within the list
pub none_past : {X : Type 0} (xs : List X) (place : ℕ) → place < length xs
    → slice_get xs place ≡ None → ⊥
none_past [] place within h = absurd (omega arith)
none_past (x ∷ xs) zero within h = cc
none_past (x ∷ xs) (suc place) within h =
    let rest : place < length xs = omega arith in none_past xs place rest h
