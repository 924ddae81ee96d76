-- What a test of several bytes together, one in each lane, says of them.
use Rattle.std.proofs.Common.{◌≡◌, ℕ, ◌-◌, ◌%◌, ◌^◌, ◌<◌, ◌≤◌, ◌==◌, ◌&&◌, ◌||◌, Bool, true, false, cond, leb, List, [], ◌∷◌, length, map, replicate, bit_and, bit_or, pow_pos, refl, sym, ap, ◌∙◌, inl, inr, arith}
use Rattle.std.specs.List.{list_all}
use Rattle.std.specs.Simd.Lanes.{mask_l, top, zip2}
use Rattle.std.proofs.Math.Nat.{two-pow-succ}
use Rattle.std.proofs.lemmas.Bool.{cases_Bool, and_parts, eq-eqb, ne_eqb}
use Rattle.std.proofs.lemmas.List.{length-map}
use Rattle.std.proofs.lemmas.Simd.{zip2_of_maps, zip2_splat, zip2_splat_left, map-map, mask_l-lt, mask_l-mod}

-- what a lane holds after a test
abbrev lane : Bool → ℕ
lane passes = cond passes 255 0

top_lane : (a : Bool) → top 7 (lane a) ≡ a
top_lane true = refl
top_lane false = refl

either_lane : (a b : Bool) → bit_or (lane a) (lane b) ≡ lane (a || b)
either_lane true true = refl
either_lane true false = refl
either_lane false true = refl
either_lane false false = refl

both_lanes : (a b : Bool) → bit_and (lane a) (lane b) ≡ lane (a && b)
both_lanes true true = refl
both_lanes true false = refl
both_lanes false true = refl
both_lanes false false = refl

-- no bit is left out if all pass, and one is if not
all_bits : (p : ℕ → Bool) (bytes : List ℕ) → list_all p bytes ≡ true
    → mask_l (map p bytes) ≡ 2 ^ length bytes - 1
all_bits p [] all = refl
all_bits p (b ∷ bs) all =
    let parts = and_parts (p b) (list_all p bs) all in
    let first = ap (λ t. cond {A = ℕ} t 1 0) parts.0 in
    let rest = all_bits p bs parts.1 in
    omega (arith, first, rest, two-pow-succ (length bs), pow_pos (length bs))

a_bit_less : (p : ℕ → Bool) (bytes : List ℕ) → list_all p bytes ≡ false
    → mask_l (map p bytes) < 2 ^ length bytes - 1
a_bit_less p [] some = cc
a_bit_less p (b ∷ bs) some = elim (cases_Bool (p b)) [
  | inl is ↦
      let first = ap (λ t. cond {A = ℕ} t 1 0) is in
      let rest = a_bit_less p bs (sym (ap (λ t. t && list_all p bs) is) ∙ some) in
      omega (arith, first, rest, two-pow-succ (length bs), pow_pos (length bs))
  | inr other ↦
      let first = ap (λ t. cond {A = ℕ} t 1 0) other in
      let below = mask_l-lt (map p bs) in
      let long = length-map bs p in
      let power = ap (λ n. 2 ^ n) long in
      omega (arith, first, below, power, two-pow-succ (length bs), pow_pos (length bs))
]

module _ (bytes : List ℕ) (n : ℕ) (long : length bytes ≡ n) where
  -- the lanes of a test of these bytes
  abbrev pub Tests : (ℕ → Bool) → List ℕ → Type 0
  Tests p lanes = lanes ≡ map (λ b. lane (p b)) bytes

  pub equal_to : (c : ℕ) → Tests (λ b. b == c) (zip2 (λ b d. lane (b == d)) bytes (replicate n c))
  equal_to c = zip2_splat _ bytes n c long

  pub at_least : (c : ℕ) → Tests (λ b. leb c b)
      (zip2 (λ d b. lane (leb d b)) (replicate n c) bytes)
  at_least c = zip2_splat_left _ c n bytes long

  pub at_most : (c : ℕ) → Tests (λ b. leb b c)
      (zip2 (λ b d. lane (leb b d)) bytes (replicate n c))
  at_most c = zip2_splat _ bytes n c long

  pub either : (p q : ℕ → Bool) {u v : List ℕ} → Tests p u → Tests q v
      → Tests (λ b. p b || q b) (zip2 bit_or u v)
  either p q first second =
      zip2_of_maps bit_or (λ b. lane (p b)) (λ b. lane (q b)) bytes first second
      ∙ (λ i. map (λ b. either_lane (p b) (q b) i) bytes)

  pub both : (p q : ℕ → Bool) {u v : List ℕ} → Tests p u → Tests q v
      → Tests (λ b. p b && q b) (zip2 bit_and u v)
  both p q first second =
      zip2_of_maps bit_and (λ b. lane (p b)) (λ b. lane (q b)) bytes first second
      ∙ (λ i. map (λ b. both_lanes (p b) (q b) i) bytes)

  -- the mask of the lanes
  pub bits_of : (p : ℕ → Bool) {v : List ℕ} → n ≤ 64 → Tests p v
      → mask_l (map (top 7) v) % 2 ^ 64 ≡ mask_l (map p bytes)
  bits_of p few tested =
      ap (λ lanes. mask_l (map (top 7) lanes) % 2 ^ 64) tested
      ∙ ap (λ ms. mask_l ms % 2 ^ 64)
      (map-map (top 7) (λ b. lane (p b)) bytes ∙ (λ i. map (λ b. top_lane (p b) i) bytes))
      ∙ mask_l-mod (map p bytes) 64 (omega (arith, long, length-map bytes p))

  -- whether each bit of it is set
  pub all_of : (p : ℕ → Bool) {v : List ℕ} → n ≤ 64 → Tests p v
      → (mask_l (map (top 7) v) % 2 ^ 64 == 2 ^ n - 1) ≡ list_all p bytes
  all_of p {v} few tested =
      ap (λ m. m == 2 ^ n - 1) (bits_of p few tested)
      ∙ ap (λ k. mask_l (map p bytes) == 2 ^ k - 1) (sym long)
      ∙ elim (cases_Bool (list_all p bytes)) [
        | inl all ↦ eq-eqb _ _ (all_bits p bytes all) ∙ sym all
        | inr some ↦
            let less = a_bit_less p bytes some in
            ne_eqb _ _ (λ same. omega (arith, less, same)) ∙ sym some
      ]
