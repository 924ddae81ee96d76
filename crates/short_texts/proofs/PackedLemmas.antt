-- What was packed reads back.
use Rattle.std.proofs.Common.{◌≡◌, ℕ, zero, suc, ◌+◌, ◌-◌, ◌*◌, ◌/◌, ◌%◌, ◌<◌, ◌≤◌, ◌==◌, true, false, List, [], ◌∷◌, ◌++◌, length, replicate, take, get_or, Some, None, refl, ap, ◌∙◌, inl, inr, arith}
use Rattle.std.specs.Prelude.{slice_get, slice_set}
use Rattle.std.specs.List.{list_all}
use Rattle.std.proofs.lemmas.Bool.{and_parts, cases_Bool}
use Rattle.std.proofs.lemmas.Bool.Decides.{nat_tests}
use Rattle.gk_terms.specs.Dialled.{is_dialled_byte, IsDialled}
use Rattle.short_texts.specs.PackedDigits.{nibble_of, character_of, character_in, pairs_of, packed, unpacked, ArePacked}

-- an item that is read is one that is found
pub item_read : (text : List ℕ) (i : ℕ) → i < length text
    → slice_get text i ≡ Some (get_or text i 0)
item_read [] i within = absurd (omega arith)
item_read (c ∷ text) zero within = refl
item_read (c ∷ text) (suc i) within = item_read text i (omega arith)

-- ---- pairs
-- the byte at a place, of two characters
pub pair_of_two : (text : List ℕ) (place at first second : ℕ) → at ≡ 2 * place
    → slice_get text at ≡ Some first → slice_get text (suc at) ≡ Some second
    → slice_get (pairs_of text) place ≡ Some (nibble_of first + 16 * nibble_of second)
unfolding pairs_of
pair_of_two [] place at first second is one two = absurd cc
pair_of_two (a ∷ []) zero zero first second is one two = absurd cc
pair_of_two (a ∷ []) zero (suc at) first second is one two = absurd (omega arith)
pair_of_two (a ∷ []) (suc place) zero first second is one two = absurd (omega arith)
pair_of_two (a ∷ []) (suc place) (suc at) first second is one two = absurd cc
pair_of_two (a ∷ b ∷ rest) zero zero first second is one two = cc
pair_of_two (a ∷ b ∷ rest) zero (suc at) first second is one two = absurd (omega arith)
pair_of_two (a ∷ b ∷ rest) (suc place) zero first second is one two = absurd (omega arith)
pair_of_two (a ∷ b ∷ rest) (suc place) (suc zero) first second is one two = absurd (omega arith)
pair_of_two (a ∷ b ∷ rest) (suc place) (suc (suc at)) first second is one two =
    pair_of_two rest place at first second (omega arith) one two

-- and of the last one
pub pair_of_one : (text : List ℕ) (place at first : ℕ) → at ≡ 2 * place
    → slice_get text at ≡ Some first → slice_get text (suc at) ≡ None
    → slice_get (pairs_of text) place ≡ Some (nibble_of first)
unfolding pairs_of
pair_of_one [] place at first is one two = absurd cc
pair_of_one (a ∷ []) zero zero first is one two = cc
pair_of_one (a ∷ []) zero (suc at) first is one two = absurd (omega arith)
pair_of_one (a ∷ []) (suc place) zero first is one two = absurd (omega arith)
pair_of_one (a ∷ []) (suc place) (suc at) first is one two = absurd cc
pair_of_one (a ∷ b ∷ rest) zero zero first is one two = absurd cc
pair_of_one (a ∷ b ∷ rest) zero (suc at) first is one two = absurd (omega arith)
pair_of_one (a ∷ b ∷ rest) (suc place) zero first is one two = absurd (omega arith)
pair_of_one (a ∷ b ∷ rest) (suc place) (suc zero) first is one two = absurd (omega arith)
pair_of_one (a ∷ b ∷ rest) (suc place) (suc (suc at)) first is one two =
    pair_of_one rest place at first (omega arith) one two

-- so many bytes
pub length_pairs : (text : List ℕ) → length (pairs_of text) ≡ (length text + 1) / 2
unfolding pairs_of
length_pairs [] = refl
length_pairs (a ∷ []) = refl
length_pairs (a ∷ b ∷ rest) = let more = length_pairs rest in omega arith

-- ---- characters
-- 4 bits say a character
pub record IsNibble (c n : ℕ) : Type 0 where
  pub least : 1 ≤ n
  pub most : n ≤ 12
  pub back : character_of n ≡ c

pub nibble_back : (c : ℕ) → is_dialled_byte c ≡ true → IsNibble c (nibble_of c)
nibble_back c h = record {
  least = grind (arith, nat_tests);
  most = grind (arith, nat_tests);
  back = grind (arith, nat_tests);
}

-- what stands after the last character
unpacked_zeros : (count : ℕ) → unpacked (replicate count 0) ≡ []
unfolding unpacked
unpacked_zeros zero = refl
unpacked_zeros (suc count) = refl

-- a byte of two characters, and one of a single one
two_back : (n m : ℕ) (rest : List ℕ) → 1 ≤ n → n ≤ 12 → 1 ≤ m
    → unpacked ((n + 16 * m) ∷ rest) ≡ character_of n ∷ character_of m ∷ unpacked rest
unfolding unpacked
two_back n m rest some small more =
    let low : (n + 16 * m) % 16 ≡ n = omega arith in
    let high : (n + 16 * m) / 16 ≡ m = omega arith in
    let is : (n == 0) ≡ false = grind (arith, nat_tests) in
    let has : (m == 0) ≡ false = grind (arith, nat_tests) in
    rw (low, high, is, has) refl

one_back : (n : ℕ) (rest : List ℕ) → 1 ≤ n → n ≤ 12
    → unpacked (n ∷ rest) ≡ character_of n ∷ []
unfolding unpacked
one_back n rest some small =
    let low : n % 16 ≡ n = omega arith in
    let high : n / 16 ≡ 0 = omega arith in
    let is : (n == 0) ≡ false = grind (arith, nat_tests) in
    rw (low, high, is) refl

-- what was packed, with zeros after it, reads back
pub pairs_back : (text : List ℕ) (count : ℕ) → list_all is_dialled_byte text ≡ true
    → unpacked (pairs_of text ++ replicate count 0) ≡ text
unfolding pairs_of
pairs_back [] count all = unpacked_zeros count
pairs_back (a ∷ []) count all =
    let first = nibble_back a (and_parts _ _ all).0 in
    one_back (nibble_of a) (replicate count 0) first.least first.most
    ∙ ap (λ c. c ∷ []) first.back
pairs_back (a ∷ b ∷ rest) count all =
    let parts = and_parts _ _ all in
    let more = and_parts _ _ parts.1 in
    let first = nibble_back a parts.0 in
    let second = nibble_back b more.0 in
    let back = pairs_back rest count more.1 in
    two_back (nibble_of a) (nibble_of b) (pairs_of rest ++ replicate count 0)
    first.least first.most second.least
    ∙ ap (λ c. c ∷ character_of (nibble_of b) ∷ unpacked (pairs_of rest ++ replicate count 0))
    first.back
    ∙ ap (λ c. a ∷ c ∷ unpacked (pairs_of rest ++ replicate count 0)) second.back
    ∙ ap (λ text. a ∷ b ∷ text) back

pub unpacked_packed : (text : List ℕ) → IsDialled text → unpacked (packed text) ≡ text
unpacked_packed text h =
    pairs_back text (16 - length (pairs_of text)) (and_parts _ _ h).1

-- ---- what is held
-- dialled digits are packed, and read back
pub are_packed : (text : List ℕ) → IsDialled text → ArePacked (packed text)
are_packed text h =
    let back = unpacked_packed text h in
    record { digits = rw back h; back = ap packed back }

-- ---- characters of what is held
-- what the first byte says, by whether its halves say something
starts_empty : (byte : ℕ) (rest : List ℕ) → (byte % 16 == 0) ≡ true
    → unpacked (byte ∷ rest) ≡ []
unfolding unpacked
starts_empty byte rest none = rw none refl

starts_single : (byte : ℕ) (rest : List ℕ) → (byte % 16 == 0) ≡ false → (byte / 16 == 0) ≡ true
    → unpacked (byte ∷ rest) ≡ character_of (byte % 16) ∷ []
unfolding unpacked
starts_single byte rest some none = rw (some, none) refl

starts_double : (byte : ℕ) (rest : List ℕ) → (byte % 16 == 0) ≡ false → (byte / 16 == 0) ≡ false
    → unpacked (byte ∷ rest)
    ≡ character_of (byte % 16) ∷ character_of (byte / 16) ∷ unpacked rest
unfolding unpacked
starts_double byte rest some more = rw (some, more) refl

-- the character of the low bits of a byte
pub low_found : (bytes : List ℕ) (half place : ℕ) → place ≡ 2 * half → half < length bytes
    → place ≤ length (unpacked bytes)
    → slice_get (unpacked bytes) place ≡ character_in (get_or bytes half 0 % 16)
low_found [] half place is within after = absurd (omega arith)
low_found (byte ∷ rest) zero (suc place) is within after = absurd (omega arith)
low_found (byte ∷ rest) (suc half) zero is within after = absurd (omega arith)
low_found (byte ∷ rest) (suc half) (suc zero) is within after = absurd (omega arith)
low_found (byte ∷ rest) zero zero is within after =
    elim (cases_Bool (byte % 16 == 0)) [
      | inl none ↦ rw (starts_empty byte rest none, none) refl
      | inr some ↦ elim (cases_Bool (byte / 16 == 0)) [
        | inl none ↦ rw (starts_single byte rest some none, some) refl
        | inr more ↦ rw (starts_double byte rest some more, some) refl
      ]
    ]
low_found (byte ∷ rest) (suc half) (suc (suc place)) is within after =
    elim (cases_Bool (byte % 16 == 0)) [
      | inl none ↦ absurd (omega (arith, ap length (starts_empty byte rest none)))
      | inr some ↦ elim (cases_Bool (byte / 16 == 0)) [
        | inl none ↦ absurd (omega (arith, ap length (starts_single byte rest some none)))
        | inr more ↦
            let starts = starts_double byte rest some more in
            rw starts (low_found rest half place (omega arith) (omega arith)
            (omega (arith, ap length starts)))
      ]
    ]

-- and of its high bits
pub high_found : (bytes : List ℕ) (half place : ℕ) → place ≡ 2 * half + 1 → half < length bytes
    → place ≤ length (unpacked bytes)
    → slice_get (unpacked bytes) place ≡ character_in (get_or bytes half 0 / 16)
high_found [] half place is within after = absurd (omega arith)
high_found (byte ∷ rest) half zero is within after = absurd (omega arith)
high_found (byte ∷ rest) zero (suc (suc place)) is within after = absurd (omega arith)
high_found (byte ∷ rest) (suc half) (suc zero) is within after = absurd (omega arith)
high_found (byte ∷ rest) zero (suc zero) is within after =
    elim (cases_Bool (byte % 16 == 0)) [
      | inl none ↦ absurd (omega (arith, ap length (starts_empty byte rest none)))
      | inr some ↦ elim (cases_Bool (byte / 16 == 0)) [
        | inl none ↦ rw (starts_single byte rest some none, none) refl
        | inr more ↦ rw (starts_double byte rest some more, more) refl
      ]
    ]
high_found (byte ∷ rest) (suc half) (suc (suc place)) is within after =
    elim (cases_Bool (byte % 16 == 0)) [
      | inl none ↦ absurd (omega (arith, ap length (starts_empty byte rest none)))
      | inr some ↦ elim (cases_Bool (byte / 16 == 0)) [
        | inl none ↦ absurd (omega (arith, ap length (starts_single byte rest some none)))
        | inr more ↦
            let starts = starts_double byte rest some more in
            rw starts (high_found rest half place (omega arith) (omega arith)
            (omega (arith, ap length starts)))
      ]
    ]

-- ---- a text that is read character by character
-- if there is no further one, all was read
all_read : (text : List ℕ) (place : ℕ) (after : List ℕ) → place ≤ length text
    → slice_get text place ≡ None → take place (take place text ++ after) ≡ text
all_read [] zero after within none = refl
all_read [] (suc place) after within none = absurd (omega arith)
all_read (c ∷ text) zero after within none = absurd cc
all_read (c ∷ text) (suc place) after within none =
    ap (λ rest. c ∷ rest) (all_read text place after (omega arith) none)

pub all_held : (held text after : List ℕ) (place : ℕ) → held ≡ take place text ++ after
    → place ≤ length text → slice_get text place ≡ None → take place held ≡ text
all_held held text after place is within none =
    ap (take place) is ∙ all_read text place after within none

-- a further one
pub further_read : (text : List ℕ) (place count character : ℕ)
    → slice_get text place ≡ Some character
    → slice_set (take place text ++ replicate (suc count) 0) place character
    ≡ take (suc place) text ++ replicate count 0
further_read [] place count character found = absurd cc
further_read (c ∷ text) zero count character found = cc
further_read (c ∷ text) (suc place) count character found =
    ap (λ rest. c ∷ rest) (further_read text place count character found)

pub within_read : (text : List ℕ) (place character : ℕ)
    → slice_get text place ≡ Some character → place < length text
within_read [] place character found = absurd cc
within_read (c ∷ text) zero character found = omega arith
within_read (c ∷ text) (suc place) character found =
    let rest = within_read text place character found in omega arith
