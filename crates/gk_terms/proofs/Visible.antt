-- Visible bytes are ASCII, so a text of them is UTF-8.
use Rattle.std.proofs.Common.{◌≡◌, ℕ, ◌<◌, Bool, true, List, [], ◌∷◌, refl, arith}
use Rattle.std.specs.Str.{IsUtf8}
use Rattle.std.specs.List.{list_all, AllByRecursion}
use Rattle.std.proofs.lemmas.List.Elements.{All-from_recursion}
use Rattle.std.proofs.lemmas.Str.{IsUtf8-from_ascii}
use Rattle.std.proofs.lemmas.Str.Ascii.{IsAscii-from_all}
use Rattle.std.proofs.lemmas.Bool.{and_parts, and_from}
use Rattle.std.proofs.lemmas.Bool.Decides.{nat_tests}
use Rattle.gk_terms.specs.Spelling.{is_visible, IsVisible}
use Rattle.gk_terms.specs.Dialled.{is_dialled, is_dialled_byte}
use Rattle.gk_terms.specs.TechPrefix.{is_tech_prefix, is_technology_byte}

below_128 : (b : ℕ) → is_visible b ≡ true → b < 128
below_128 b h = grind (arith, nat_tests)

all_below_128 : (text : List ℕ) → list_all is_visible text ≡ true → AllByRecursion (λ b. b < 128)
    text
all_below_128 [] h = tt
all_below_128 (b ∷ bs) h = let p = and_parts _ _ h in (below_128 b p.0, all_below_128 bs p.1)

-- a visible text is UTF-8
pub IsUtf8-from_visible : (text : List ℕ) → IsVisible text → IsUtf8 text
IsUtf8-from_visible text h = IsUtf8-from_ascii text (IsAscii-from_all text
    (All-from_recursion _ text (all_below_128 text h)))

-- if p implies q, a list that passes p passes q
list_all-implied : (p q : ℕ → Bool) → ((b : ℕ) → p b ≡ true → q b ≡ true) → (text : List ℕ) →
    list_all p text ≡ true → list_all q text ≡ true
list_all-implied p q implies [] h = refl
list_all-implied p q implies (b ∷ bs) h =
    let parts = and_parts _ _ h in and_from _ _ (implies b parts.0)
    (list_all-implied p q implies bs parts.1)

visible_digit : (b : ℕ) → is_dialled_byte b ≡ true → is_visible b ≡ true
visible_digit b h = grind (arith, nat_tests)

visible_technology : (b : ℕ) → is_technology_byte b ≡ true → is_visible b ≡ true
visible_technology b h = grind (arith, nat_tests)

-- dialled digits are visible
pub visible_from_dialled : (text : List ℕ) → is_dialled text ≡ true → IsVisible text
visible_from_dialled text h = list_all-implied _ _ visible_digit text (and_parts _ _ h).1

-- so is a technology prefix
pub visible_from_tech_prefix : (text : List ℕ) → is_tech_prefix text ≡ true → IsVisible text
visible_from_tech_prefix text h = list_all-implied _ _ visible_technology text (and_parts _ _ h).1
