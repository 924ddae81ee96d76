-- Each pattern takes at most 32 nodes beside the root.
use Rattle.std.proofs.Common.{◌≡◌, ℕ, ◌+◌, ◌*◌, ◌≤◌, ◌&&◌, ◌||◌, nat_le, Bool, true, false, cond, List, [], ◌∷◌, ◌++◌, length, length-append, map, replicate, refl, ◌∙◌, arith}
use Rattle.std.specs.Char.{is_ascii_digit}
use Rattle.std.specs.List.{All, Contains, list_all, flat_map}
use Rattle.std.specs.Set.{is_member, unique_keys, distinct_count}
use Rattle.std.specs.Str.{bytes_eq}
use Rattle.std.proofs.lemmas.Bool.{and_parts, leb-true}
use Rattle.std.proofs.lemmas.List.{length-map, length-replicate}
use Rattle.std.proofs.lemmas.List.Elements.{All-head, All-tail, All-map, All-weaker, All-contains_itself}
use Rattle.std.proofs.lemmas.List.Folds.{list_any-append}
use Rattle.gk_terms.specs.declared.limits.TheConstants.{MOST_DIALLED}
use Rattle.digit_patterns.specs.PatternParts.{PatternParts, IsPattern, character_count}
use Rattle.raw_trie.specs.Nodes.{path_of, beginnings, node_count, patterns_of}
use Rattle.raw_trie.specs.Trie.{Row, IsTrie}

-- ---- keys, of which equal ones count once
module _ {K : Type 0} (eq : K → K → Bool) where
  -- a key in front of others counts at most once
  counted_if : (t : Bool) (x : K) (xs : List K)
      → length (cond t (unique_keys eq xs) (x ∷ unique_keys eq xs)) ≤ 1 + distinct_count eq xs
  counted_if true x xs = omega arith
  counted_if false x xs = omega arith

  -- and not at all if it is among them
  counted_before : (t : Bool) (x : K) (xs : List K) (n : ℕ) → t ≡ true → distinct_count eq xs ≤ n
      → length (cond t (unique_keys eq xs) (x ∷ unique_keys eq xs)) ≤ n
  counted_before true x xs n e h = h
  counted_before false x xs n e h = absurd (let f : false ≡ true = e in cc)

  -- some keys in front of others count at most once each
  distinct_count-front : (front rest : List K)
      → distinct_count eq (front ++ rest) ≤ length front + distinct_count eq rest
  distinct_count-front [] rest = omega arith
  distinct_count-front (x ∷ front) rest =
      omega (
        arith,
        counted_if (is_member eq (front ++ rest) x) x (front ++ rest),
        distinct_count-front front rest,
      )

  -- as they do between a key and others
  distinct_count-after : (x : K) (front rest : List K)
      → distinct_count eq (x ∷ (front ++ rest)) ≤ length front + distinct_count eq (x ∷ rest)
  distinct_count-after x front rest =
      by (is_member eq front x) (is_member eq rest x)
      (list_any-append (eq x) front rest) (distinct_count-front front rest)
    where
      or_true : (s : Bool) → (s || true) ≡ true
      or_true true = refl
      or_true false = refl

      by : (s t : Bool) → is_member eq (front ++ rest) x ≡ (s || t)
          → distinct_count eq (front ++ rest) ≤ length front + distinct_count eq rest
          → distinct_count eq (x ∷ (front ++ rest))
          ≤ length front + length (cond t (unique_keys eq rest) (x ∷ unique_keys eq rest))
      by s true e h =
          counted_before (is_member eq (front ++ rest) x) x (front ++ rest) _ (e ∙ or_true s) h
      by s false e h =
          omega (arith, h, counted_if (is_member eq (front ++ rest) x) x (front ++ rest))

-- ---- beginnings
-- those of a text count as many as its characters, beside the empty one
distinct_count-beginnings : (text : List ℕ) (rest : List (List ℕ))
    → distinct_count bytes_eq ([] ∷ (beginnings text ++ rest))
    ≤ length text + distinct_count bytes_eq ([] ∷ rest)
distinct_count-beginnings [] rest = omega arith
distinct_count-beginnings (c ∷ cs) rest =
    omega (
      arith,
      distinct_count-after bytes_eq [] (map (λ b. c ∷ b) (beginnings cs)) rest,
      length-map (beginnings cs) (λ b. c ∷ b),
      length-beginnings cs,
    )
  where
    length-beginnings : (text : List ℕ) → length (beginnings text) ≡ length text + 1
    length-beginnings [] = refl
    length-beginnings (b ∷ bs) =
        omega (arith, length-map (beginnings bs) (λ t. b ∷ t), length-beginnings bs)

-- a pattern has at most 32 characters beside its star
length-path_of : (p : PatternParts) → IsPattern p → length (path_of p) ≤ 32
length-path_of p h =
    let parts = and_parts (list_all is_ascii_digit p.literals && nat_le 1 (character_count p))
    (nat_le (character_count p) MOST_DIALLED) h in
    omega (
      arith,
      leb-true (character_count p) 32 parts.1,
      length-append p.literals (replicate p.dots 46),
      length-replicate {A = ℕ} p.dots 46,
    )

-- at most 32 nodes for each pattern, and the root
pub node_count-bound : (patterns : List PatternParts) → All IsPattern patterns
    → node_count patterns ≤ 1 + 32 * length patterns
node_count-bound [] all = omega arith
node_count-bound (p ∷ ps) all =
    omega (
      arith,
      distinct_count-beginnings (path_of p)
          (flat_map (λ q. beginnings (path_of q)) ps),
      length-path_of p (All-head IsPattern p ps all),
      node_count-bound ps (All-tail IsPattern p ps all),
    )

-- the rows of a trie have patterns of at most 32 characters
pub node_count-rows : (rows : List Row) (paths : List (List ℕ)) (words : List ℕ)
    → IsTrie rows paths words → node_count (patterns_of rows) ≤ 1 + 32 * length rows
node_count-rows rows paths words trie =
    omega (arith, node_count-bound (patterns_of rows) all, length-map rows (λ row. row.0))
  where
    all : All IsPattern (patterns_of rows)
    all = All-map IsPattern (λ (row : Row). row.0) rows
        (All-weaker (Contains rows) (λ row. IsPattern row.0) trie.patterns rows
        (All-contains_itself rows))
