-- The nodes of a trie by their paths.
use Rattle.std.proofs.Common.{◌≡◌, ℕ, ◌+◌, ◌<◌, ◌≤◌, ◌≢◌, eqb, true, false, ◌⊎◌, inl, inr, List, [], ◌∷◌, ◌++◌, length, get_or, map, fold, refl, sym, ap, ◌∙◌, arith}
use Rattle.std.specs.List.{list_any, All}
use Rattle.std.specs.Str.{bytes_eq}
use Rattle.std.proofs.lemmas.Slice.Eq.{bytes_eq-Decides}
use Rattle.std.proofs.lemmas.Bool.{cases_lt, cond-true, cond-false, false_from_ne_true}
use Rattle.std.proofs.lemmas.Bool.Decides.{eqb_tells}
use Rattle.std.proofs.lemmas.List.{get_or_append_left, get_or_push, get_or_default, length_push, map-append}
use Rattle.std.proofs.lemmas.List.Folds.{list_any_at, list_any_none}
use Rattle.std.proofs.lemmas.List.Sums.{fold-append}
use Rattle.raw_trie.specs.Nodes.{beginnings}
use Rattle.raw_trie.specs.Trie.{At, with_path, with_beginnings, link_character_of}

-- a node stays when one more is added
pub At-left : (paths : List (List ℕ)) (q : List ℕ) (node : ℕ) (path : List ℕ) → At paths node path
    → At (paths ++ q ∷ []) node path
At-left paths q node path at =
    let within : node < length paths = at.0 in
    (simp length_push (omega arith), get_or_append_left paths (q ∷ []) [] node within ∙ at.1)

-- the one that is added
pub At-new : (paths : List (List ℕ)) (q : List ℕ) → At (paths ++ q ∷ []) (length paths) q
At-new paths q = (simp length_push (omega arith), get_or_push paths q [] (length paths) refl)

-- each is one of these
pub At-cases : (paths : List (List ℕ)) (q : List ℕ) (node : ℕ) (path : List ℕ)
    → At (paths ++ q ∷ []) node path → At paths node path ⊎ ((node ≡ length paths) × (q ≡ path))
At-cases paths q node path at = by (cases_lt node (length paths))
  where
    by : (node < length paths) ⊎ (length paths ≤ node)
        → At paths node path ⊎ ((node ≡ length paths) × (q ≡ path))
    by (inl within) = inl (within, sym (get_or_append_left paths (q ∷ []) [] node within) ∙ at.1)
    by (inr past) =
        let last : node ≡ length paths = omega (arith, at.0, length_push paths q) in
        inr (last, sym (get_or_push paths q [] node (sym last)) ∙ at.1)

-- a path that is there adds nothing
pub with_path-there : (paths : List (List ℕ)) (node : ℕ) (path : List ℕ) → At paths node path
    → with_path paths path ≡ paths
with_path-there paths node path at =
    cond-true (list_any (bytes_eq path) paths) paths (paths ++ path ∷ [])
    (list_any_at (bytes_eq path) paths node [] at.0
    ((bytes_eq-Decides path (get_or paths node [])).1 (sym at.1)))

-- another is one more
pub with_path-new : (paths : List (List ℕ)) (path : List ℕ) → ((node : ℕ) → At paths node path → ⊥)
    → with_path paths path ≡ paths ++ path ∷ []
with_path-new paths path absent =
    cond-false (list_any (bytes_eq path) paths) paths (paths ++ path ∷ [])
    (list_any_none (bytes_eq path) paths none)
  where
    none : All (λ p. bytes_eq path p ≡ false) paths
    none k d within =
        false_from_ne_true (bytes_eq path (get_or paths k d))
        (λ e. absent k (
          within,
          get_or_default paths k [] d within
              ∙ sym ((bytes_eq-Decides path (get_or paths k d)).0 e),
        ))

-- the beginnings of a text with one more character
pub beginnings-push : (text : List ℕ) (c : ℕ)
    → beginnings (text ++ c ∷ []) ≡ beginnings text ++ (text ++ c ∷ []) ∷ []
beginnings-push [] c = refl
beginnings-push (b ∷ bs) c =
    ap (λ t. [] ∷ map (λ x. b ∷ x) t) (beginnings-push bs c)
    ∙ ap (λ t. [] ∷ t) (map-append (λ x. b ∷ x) (beginnings bs) ((bs ++ c ∷ []) ∷ []))

pub with_beginnings-push : (paths : List (List ℕ)) (text : List ℕ) (c : ℕ)
    → with_beginnings paths (text ++ c ∷ [])
    ≡ with_path (with_beginnings paths text) (text ++ c ∷ [])
with_beginnings-push paths text c =
    ap (fold with_path paths) (beginnings-push text c)
    ∙ fold-append with_path paths (beginnings text) ((text ++ c ∷ []) ∷ [])

-- different links have different characters
pub same_symbol : (s t : ℕ) → s < 11 → t < 11 → link_character_of s ≡ link_character_of t → s ≡ t
same_symbol s t h i e = by (eqb_tells s 10) (eqb_tells t 10)
  where
    by : ((eqb s 10 ≡ true) × (s ≡ 10)) ⊎ ((eqb s 10 ≡ false) × (s ≢ 10))
        → ((eqb t 10 ≡ true) × (t ≡ 10)) ⊎ ((eqb t 10 ≡ false) × (t ≢ 10)) → s ≡ t
    by (inl a) (inl b) = omega arith
    by (inl a) (inr b) =
        let f : 46 ≡ t + 48 =
        sym (cond-true (eqb s 10) 46 (s + 48) a.0) ∙ e ∙ cond-false (eqb t 10) 46 (t + 48) b.0 in
        absurd (omega arith)
    by (inr a) (inl b) =
        let f : s + 48 ≡ 46 =
        sym (cond-false (eqb s 10) 46 (s + 48) a.0) ∙ e ∙ cond-true (eqb t 10) 46 (t + 48) b.0 in
        absurd (omega arith)
    by (inr a) (inr b) =
        let f : s + 48 ≡ t + 48 =
        sym (cond-false (eqb s 10) 46 (s + 48) a.0) ∙ e ∙ cond-false (eqb t 10) 46 (t + 48) b.0 in
        omega arith
