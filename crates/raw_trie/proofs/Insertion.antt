-- The nodes of a pattern, character by character.
use Rattle.std.proofs.Common.{◌≡◌, ℕ, ◌+◌, ◌-◌, ◌*◌, ◌<◌, ◌≤◌, eqb, Bool, true, false, List, [], ◌∷◌, ◌++◌, length, get_or, refl, sym, ◌∙◌, subst, arith}
use Rattle.std.specs.Char.{is_ascii_digit}
use Rattle.std.specs.List.{list_all}
use Rattle.std.proofs.lemmas.Bool.Decides.{nat_tests}
use Rattle.std.proofs.lemmas.List.Folds.{list_all_at}
use Rattle.std.proofs.lemmas.Bool.{cond-false, ne_eqb}
use Rattle.raw_trie.specs.Trie.{IsSomeTrie, Reaches, Links, GrowsTo, link_character_of, with_path, with_beginnings}
use Rattle.raw_trie.proofs.Paths.{with_path-there, with_beginnings-push}
use Rattle.raw_trie.proofs.Growth.{linked}

-- the words of the node that was reached are there
pub within_words : (old new : List ℕ) (node : ℕ) (path : List ℕ) → IsSomeTrie old
    → GrowsTo old new node path → 15 * node + 14 < length new
within_words old new node path some grows =
    let there = grows some.0 some.1 some.2 in omega (arith, there.0.sized, there.1.0)

-- the root is that of the empty path
pub grows_none : (words : List ℕ) → GrowsTo words words 0 []
grows_none words rows paths trie =
    subst (λ ps. Reaches rows ps words 0 []) (sym (with_path-there paths 0 [] trie.root))
    (trie, trie.root)

-- one more character
pub grows_more : (old mid new : List ℕ) (node symbol child : ℕ) (path : List ℕ) → symbol < 11
    → GrowsTo old mid node path → Links mid (15 * node + symbol) new child
    → GrowsTo old new child (path ++ link_character_of symbol ∷ [])
grows_more old mid new node symbol child path small grows links rows paths trie =
    let there = grows rows paths trie in
    let known = with_beginnings paths path in
    let reached : Reaches rows (with_path known (get_or known node [] ++ link_character_of symbol ∷
    []))
    new child (get_or known node [] ++ link_character_of symbol ∷ []) =
    linked rows known mid there.0 node symbol there.1.0 small new child links in
    let here : Reaches rows (with_path known (path ++ link_character_of symbol ∷ [])) new child
    (path ++ link_character_of symbol ∷ []) =
    subst (λ p. Reaches rows (with_path known (p ++ link_character_of symbol ∷ [])) new child
    (p ++ link_character_of symbol ∷ [])) there.1.1 reached in
    subst (λ ps. Reaches rows ps new child (path ++ link_character_of symbol ∷ []))
    (sym (with_beginnings-push paths path (link_character_of symbol))) here

-- the number of a digit stands for the digit
pub character_of-digit : (digit : ℕ) → 48 ≤ digit → digit < 58 → link_character_of (digit - 48) ≡
    digit
character_of-digit digit low high =
    cond-false (eqb (digit - 48) 10) 46 (digit - 48 + 48)
    (ne_eqb (digit - 48) 10 (λ e. absurd (omega arith))) ∙ omega arith

-- each of the digits is one
pub is_digit_at : (digits : List ℕ) (i : ℕ) → list_all is_ascii_digit digits ≡ true
    → i < length digits → is_ascii_digit (get_or digits i 0) ≡ true
is_digit_at digits i all within = by (is_ascii_digit (get_or digits i 0)) refl
  where
    by : (t : Bool) → is_ascii_digit (get_or digits i 0) ≡ t
        → is_ascii_digit (get_or digits i 0) ≡ true
    by true e = e
    by false e = let f = list_all_at is_ascii_digit digits i 0 within e in cc

-- and stands from 48 to 57
pub digit_range : (c : ℕ) → is_ascii_digit c ≡ true → (48 ≤ c) × (c < 58)
digit_range c h = (grind (arith, nat_tests), grind (arith, nat_tests))
