-- How many digits a number has, and a number that is written in place.
use Rattle.std.proofs.Common.{◌≡◌, ℕ, ◌+◌, ◌/◌, ◌<◌, ◌≤◌, List, ◌++◌, length, take, drop, sym, ap, ◌∙◌, length-append, length-take-le, take-append-drop, append_assoc, arith}
use Rattle.std.specs.Prelude.{decimal}
use Rattle.std.proofs.lemmas.List.{take_at, take_all}
use Rattle.itoa.proofs.Decimal.{length_one, length_two, length_pair, length_four}
use Rattle.gk_lines.specs.LineBuffer.{ROOM_BYTES, extended}

-- how many digits a number has, by the range that it is in
pub one : (n : ℕ) → n < 10 → 1 ≡ length (decimal n)
one n h = sym (length_one n h)

pub two : (n : ℕ) → 10 ≤ n → n < 100 → 2 ≡ length (decimal n)
two n l h = sym (length_two n l h)

pub three : (n : ℕ) → 100 ≤ n → n < 1000 → 3 ≡ length (decimal n)
three n l h = omega (arith, length_pair n l (omega arith), length_one (n / 100) (omega arith))

pub four : (n : ℕ) → 1000 ≤ n → n < 10000 → 4 ≡ length (decimal n)
four n l h = omega (
  arith,
  length_pair n (omega arith) (omega arith),
  length_two (n / 100)
      (omega arith) (omega arith),
)

pub five : (n : ℕ) → 10000 ≤ n → n < 100000 → 5 ≡ length (decimal n)
five n l h = omega (arith, length_four n l (omega arith), length_one (n / 10000) (omega arith))

pub six : (n : ℕ) → 100000 ≤ n → n < 1000000 → 6 ≡ length (decimal n)
six n l h = omega (
  arith,
  length_four n (omega arith) (omega arith),
  length_two (n / 10000)
      (omega arith) (omega arith),
)

pub seven : (n : ℕ) → 1000000 ≤ n → n < 10000000 → 7 ≡ length (decimal n)
seven n l h = omega (
  arith,
  length_four n (omega arith) (omega arith),
  three (n / 10000)
      (omega arith) (omega arith),
)

pub eight : (n : ℕ) → 10000000 ≤ n → n < 100000000 → 8 ≡ length (decimal n)
eight n l h = omega (
  arith,
  length_four n (omega arith) (omega arith),
  four (n / 10000)
      (omega arith) (omega arith),
)

pub nine : (n : ℕ) → 100000000 ≤ n → n < 1000000000 → 9 ≡ length (decimal n)
nine n l h = omega (
  arith,
  length_four n (omega arith) (omega arith),
  five (n / 10000) (omega arith)
      (omega arith),
)

pub ten : (n : ℕ) → 1000000000 ≤ n → n < 10000000000 → 10 ≡ length (decimal n)
ten n l h = omega (
  arith,
  length_four n (omega arith) (omega arith),
  six (n / 10000) (omega arith)
      (omega arith),
)

pub ruleset digit_counts = (one, two, three, four, five, six, seven, eight, nine, ten)

-- ---- a number that is written in place, which has room there
pub digits_written : (before after digits : List ℕ) (len : ℕ) → len + length digits ≤ ROOM_BYTES →
    len ≤ length before
    → drop len after ≡ digits ++ drop (len + length digits) before → take len after ≡ take len
    before
    → take (len + length digits) after ≡ extended (take len before) digits
unfolding extended
digits_written before after digits len fits inside written kept =
    let front = take len before in
    let front_len : length front ≡ len = length-take-le len before inside in
    let whole : after ≡ front ++ (digits ++ drop (len + length digits) before) =
    sym (take-append-drop len after) ∙ ap (λ l. take len after ++ l) written ∙ ap
    (λ f. f ++ (digits ++ drop (len + length digits) before)) kept in
    let split : front ++ (digits ++ drop (len + length digits) before) ≡ (front ++ digits) ++ drop
    (len + length digits) before = sym (append_assoc front digits _) in
    let both : length (front ++ digits) ≡ len + length digits = omega
    (arith, length-append front digits, front_len) in
    ap (take (len + length digits)) (whole ∙ split)
    ∙ take_at (front ++ digits) (drop (len + length digits) before) (len + length digits) both
    ∙ sym (take_all ROOM_BYTES (front ++ digits) (omega (arith, both, fits)))
