-- Patterns are the same if their characters and stars are.
use Rattle.std.proofs.Common.{◌≡◌, ℕ, zero, suc, nat_le, eqb, Bool, true, false, ◌&&◌, List, [], ◌∷◌, ◌++◌, length, replicate, refl, sym, ap, ◌∙◌}
use Rattle.gk_terms.specs.declared.limits.TheConstants.{MOST_DIALLED}
use Rattle.std.specs.Char.{is_ascii_digit}
use Rattle.std.specs.List.{list_all}
use Rattle.std.specs.Str.{bytes_eq}
use Rattle.std.proofs.Math.Bool.{beq}
use Rattle.std.proofs.lemmas.Bool.{and_parts, and_from, eqb-true, eq-eqb}
use Rattle.std.proofs.lemmas.List.{length-replicate}
use Rattle.std.proofs.lemmas.Slice.Eq.{bytes_eq-Decides}
use Rattle.digit_patterns.specs.PatternParts.{PatternParts, IsPattern, character_count}
use Rattle.digit_patterns.specs.Pattern.{same_pattern}
use Rattle.raw_trie.specs.Nodes.{path_of}

pub made : (p q : PatternParts) → p.literals ≡ q.literals → p.dots ≡ q.dots → p.star ≡ q.star
    → p ≡ q
made p q a b c =
    ap (λ l. parts l p.dots p.star) a ∙ ap (λ d. parts q.literals d p.star) b
    ∙ ap (parts q.literals q.dots) c
  where
    parts : List ℕ → ℕ → Bool → PatternParts
    parts literals dots star = record { literals = literals; dots = dots; star = star }

-- a dot is no digit
pub no_dot : (c : ℕ) → is_ascii_digit c ≡ true → 46 ≡ c → ⊥
no_dot c h e =
    let f : is_ascii_digit 46 ≡ true = ap is_ascii_digit e ∙ h in let g : false ≡ true = f in cc

-- literals and dots are read off the characters
pub same_front : (xs ys : List ℕ) (m n : ℕ) → list_all is_ascii_digit xs ≡ true
    → list_all is_ascii_digit ys ≡ true → xs ++ replicate m 46 ≡ ys ++ replicate n 46
    → (xs ≡ ys) × (m ≡ n)
same_front [] [] m n h i e =
    (refl, sym (length-replicate m 46) ∙ ap length e ∙ length-replicate n 46)
same_front [] (y ∷ ys) zero n h i e = absurd (let f : [] ≡ y ∷ (ys ++ replicate n 46) = e in cc)
same_front [] (y ∷ ys) (suc m) n h i e =
    absurd (no_dot y (and_parts (is_ascii_digit y) (list_all is_ascii_digit ys) i).0
    (let f : 46 ∷ replicate m 46 ≡ y ∷ (ys ++ replicate n 46) = e in cc))
same_front (x ∷ xs) [] m zero h i e = absurd (let f : x ∷ (xs ++ replicate m 46) ≡ [] = e in cc)
same_front (x ∷ xs) [] m (suc n) h i e =
    absurd (no_dot x (and_parts (is_ascii_digit x) (list_all is_ascii_digit xs) h).0
    (let f : x ∷ (xs ++ replicate m 46) ≡ 46 ∷ replicate n 46 = e in cc))
same_front (x ∷ xs) (y ∷ ys) m n h i e =
    let first : x ≡ y =
    (let f : x ∷ (xs ++ replicate m 46) ≡ y ∷ (ys ++ replicate n 46) = e in cc) in
    let later : xs ++ replicate m 46 ≡ ys ++ replicate n 46 =
    (let f : x ∷ (xs ++ replicate m 46) ≡ y ∷ (ys ++ replicate n 46) = e in cc) in
    let rest =
    same_front xs ys m n (and_parts (is_ascii_digit x) (list_all is_ascii_digit xs) h).1
    (and_parts (is_ascii_digit y) (list_all is_ascii_digit ys) i).1 later in
    (ap (λ c. c ∷ xs) first ∙ ap (λ cs. y ∷ cs) rest.0, rest.1)

pub digits_of : (p : PatternParts) → IsPattern p → list_all is_ascii_digit p.literals ≡ true
digits_of p h =
    let front =
    and_parts (list_all is_ascii_digit p.literals && nat_le 1 (character_count p))
    (nat_le (character_count p) MOST_DIALLED) h in
    (and_parts (list_all is_ascii_digit p.literals) (nat_le 1 (character_count p)) front.0).0

pub same_parts : (p q : PatternParts) → IsPattern p → IsPattern q → path_of p ≡ path_of q
    → p.star ≡ q.star → p ≡ q
same_parts p q h i e f =
    let both = same_front p.literals q.literals p.dots q.dots (digits_of p h) (digits_of q i) e in
    made p q both.0 both.1 f

-- the test of patterns tells whether they are the same
pub same_of_tested : (p q : PatternParts) → same_pattern p q ≡ true → p ≡ q
same_of_tested p q h =
    let outer =
    and_parts (bytes_eq p.literals q.literals) (eqb p.dots q.dots && beq p.star q.star) h in
    let inner = and_parts (eqb p.dots q.dots) (beq p.star q.star) outer.1 in
    made p q ((bytes_eq-Decides p.literals q.literals).0 outer.0) (eqb-true p.dots q.dots inner.0)
    (same_star p.star q.star inner.1)
  where
    same_star : (s t : Bool) → beq s t ≡ true → s ≡ t
    same_star true true e = refl
    same_star false false e = refl
    same_star true false e = cc
    same_star false true e = cc

pub tested_of_same : (p q : PatternParts) → p ≡ q → same_pattern p q ≡ true
tested_of_same p q h =
    ap (λ x. same_pattern x q) h ∙ and_from (bytes_eq q.literals q.literals)
    (eqb q.dots q.dots && beq q.star q.star) ((bytes_eq-Decides q.literals q.literals).1 refl)
    (and_from (eqb q.dots q.dots) (beq q.star q.star) (eq-eqb q.dots q.dots refl) (itself q.star))
  where
    itself : (s : Bool) → beq s s ≡ true
    itself true = refl
    itself false = refl
