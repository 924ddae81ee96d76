-- Fields that are written are UTF-8: each of their bytes is ASCII.
use Rattle.std.proofs.Common.{◌≡◌, ℕ, zero, suc, ◌<◌, ◌^◌, Bool, true, List, [], ◌∷◌, ◌++◌, refl, ◌∙◌, arith}
use Rattle.std.specs.Prelude.{nat_lt, decimal, IsAscii}
use Rattle.std.specs.Char.{is_ascii_digit}
use Rattle.std.specs.List.{list_all}
use Rattle.std.specs.Str.{is_utf8}
use Rattle.std.proofs.lemmas.Bool.{and_parts, and_from, ltb-true}
use Rattle.std.proofs.lemmas.Bool.Decides.{nat_tests}
use Rattle.std.proofs.lemmas.List.Folds.{list_all-append}
use Rattle.std.proofs.lemmas.Str.{IsUtf8-from_ascii, is_utf8-from_IsUtf8}
use Rattle.gk_terms.specs.Dialled.{is_dialled_byte}
use Rattle.gk_terms.specs.Spelling.{is_visible}
use Rattle.call_files.proofs.read_back.Numbers.{decimal_digits}

abbrev pub is_low : ℕ → Bool
is_low b = nat_lt b 128

-- a test of which another follows
pub all_so : (p q : ℕ → Bool) → ((b : ℕ) → p b ≡ true → q b ≡ true) → (text : List ℕ)
    → list_all p text ≡ true → list_all q text ≡ true
all_so p q so [] h = refl
all_so p q so (b ∷ bs) h =
    let parts = and_parts (p b) (list_all p bs) h in
    and_from _ _ (so b parts.0) (all_so p q so bs parts.1)

pub all_of_both : (p : ℕ → Bool) (front rest : List ℕ) → list_all p front ≡ true
    → list_all p rest ≡ true → list_all p (front ++ rest) ≡ true
all_of_both p front rest h k = list_all-append p front rest ∙ and_from _ _ h k

low_at : (text : List ℕ) → list_all is_low text ≡ true → IsAscii text
low_at [] h i = omega arith
low_at (b ∷ bs) h zero = ltb-true b 128 (and_parts (is_low b) (list_all is_low bs) h).0
low_at (b ∷ bs) h (suc i) = low_at bs (and_parts (is_low b) (list_all is_low bs) h).1 i

pub utf8_from_low : (text : List ℕ) → list_all is_low text ≡ true → is_utf8 text ≡ true
utf8_from_low text h = is_utf8-from_IsUtf8 text (IsUtf8-from_ascii text (low_at text h))

low_visible : (b : ℕ) → is_visible b ≡ true → is_low b ≡ true
low_visible b h = grind (arith, nat_tests)

visible_digit : (b : ℕ) → is_ascii_digit b ≡ true → is_visible b ≡ true
visible_digit b h = grind (arith, nat_tests)

low_dialled : (b : ℕ) → is_dialled_byte b ≡ true → is_low b ≡ true
low_dialled b h = grind (arith, nat_tests)

pub visible_low : (text : List ℕ) → list_all is_visible text ≡ true → list_all is_low text ≡ true
visible_low text h = all_so is_visible is_low low_visible text h

pub visible_from_digits : (text : List ℕ) → list_all is_ascii_digit text ≡ true
    → list_all is_visible text ≡ true
visible_from_digits text h = all_so is_ascii_digit is_visible visible_digit text h

pub visible_utf8 : (text : List ℕ) → list_all is_visible text ≡ true → is_utf8 text ≡ true
visible_utf8 text h = utf8_from_low text (visible_low text h)

pub dialled_utf8 : (text : List ℕ) → list_all is_dialled_byte text ≡ true → is_utf8 text ≡ true
dialled_utf8 text h = utf8_from_low text (all_so is_dialled_byte is_low low_dialled text h)

pub decimal_utf8 : (n : ℕ) → n < 2 ^ 64 → is_utf8 (decimal n) ≡ true
decimal_utf8 n small = visible_utf8 (decimal n)
    (visible_from_digits (decimal n) (decimal_digits n small))
