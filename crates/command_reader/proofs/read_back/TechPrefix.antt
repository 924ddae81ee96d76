-- What is read as a technology prefix spells itself.
use Rattle.std.proofs.Common.{◌≡◌, ℕ, zero, suc, ◌≤◌, Bool, true, false, cond, List, [], ◌∷◌, length, take, Some, refl, sym, ap, subst, ◌∙◌, arith, nat_le}
use Rattle.std.specs.Prelude.{◌&&◌, ◌-◌, ◌==◌, slice_index}
use Rattle.std.specs.Bool.{then_some}
use Rattle.std.specs.List.{list_all}
use Rattle.std.proofs.lemmas.Bool.{and_parts, leb-true}
use Rattle.std.proofs.lemmas.Bool.Decides.{nat_tests}
use Rattle.std.proofs.lemmas.List.{length-take-le}
use Rattle.gk_terms.specs.TechPrefix.{is_technology_byte, is_tech_prefix, without_star, tech_prefix_of}
use Rattle.gk_terms.proofs.Visible.{visible_from_tech_prefix}
use Rattle.gk_commands.specs.Accepted.{is_word}
use Rattle.command_reader.proofs.read_back.Words.{word_from}
use Rattle.command_reader.proofs.read_back.Numbers.{then_some-parts}

no_star : (b : ℕ) → is_technology_byte b ≡ true → (b == 42) ≡ false
no_star b h = grind (arith, nat_tests)

no_star_at : (text : List ℕ) (i : ℕ) → list_all is_technology_byte text ≡ true →
    (slice_index text i == 42) ≡ false
no_star_at [] i h = refl
no_star_at (b ∷ bs) zero h = no_star b (and_parts _ _ h).0
no_star_at (b ∷ bs) (suc i) h = no_star_at bs i (and_parts _ _ h).1

-- a text without a star keeps its last byte
starless : (text : List ℕ) → list_all is_technology_byte text ≡ true → without_star text ≡ text
starless text h = ap (λ b. cond b (take (length text - 1) text) text)
    (no_star_at text (length text - 1) h)

no_longer : (text : List ℕ) → length (without_star text) ≤ length text
no_longer text = by (slice_index text (length text - 1) == 42)
  where
    by : (b : Bool) → length (cond b (take (length text - 1) text) text) ≤ length text
    by true = omega (arith, length-take-le (length text - 1) text (omega arith))
    by false = omega arith

-- a technology prefix that was read
pub record IsTechPrefixOf (word prefix : List ℕ) : Type 0 where
  pub solid : is_word prefix ≡ true
  pub spelled : tech_prefix_of prefix ≡ Some prefix
  pub short : length prefix ≤ length word

tech_prefix_back : (prefix : List ℕ) → is_tech_prefix prefix ≡ true → IsTechPrefixOf prefix prefix
tech_prefix_back prefix h =
    let p = and_parts (nat_le 1 (length prefix) && nat_le (length prefix) 11)
    (list_all is_technology_byte prefix) h in
    let q = and_parts (nat_le 1 (length prefix)) (nat_le (length prefix) 11) p.0 in
    let same : without_star prefix ≡ prefix = starless prefix p.1 in
    record {
      solid = word_from prefix (omega (arith, leb-true _ _ q.0))
          (visible_from_tech_prefix prefix h);
      spelled = ap (λ text. then_some (is_tech_prefix text) text) same ∙ ap
          (λ b. then_some b prefix) h;
      short = omega arith;
    }

pub tech_prefix_read : (word prefix : List ℕ) → tech_prefix_of word ≡ Some prefix → IsTechPrefixOf
    word prefix
tech_prefix_read word prefix h =
    let t = then_some-parts (is_tech_prefix (without_star word)) (without_star word) prefix h in
    let back = tech_prefix_back prefix (ap is_tech_prefix (sym t.1) ∙ t.0) in
    record {
      solid = back.solid;
      spelled = back.spelled;
      short = subst
          (λ text. length text ≤ length word) t.1 (no_longer word);
    }
