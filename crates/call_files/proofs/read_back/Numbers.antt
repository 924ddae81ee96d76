-- The digits of a number read as the number.
use Rattle.std.proofs.Common.{◌≡◌, ℕ, zero, suc, ◌+◌, ◌*◌, ◌^◌, ◌<◌, ◌≤◌, Bool, true, false, List, [], ◌∷◌, length, get_or, fold, Some, refl, ap, ◌∙◌, arith, rules}
use Rattle.std.specs.Prelude.{◌-◌, not, ◌||◌, ◌==◌, decimal, nat_le}
use Rattle.std.specs.Bool.{then_some}
use Rattle.std.specs.Char.{is_ascii_digit}
use Rattle.std.specs.List.{list_all}
use Rattle.std.proofs.lemmas.Bool.{and_from, eqb-true, le-leb}
use Rattle.std.proofs.lemmas.Fmt.{decimal_nonempty, decimal_digit, digits_decimal, digits_value-decimal, first_decimal}
use Rattle.std.proofs.lemmas.Str.Parse.{IsDigitsTest, FoldsDigits, IsNumeralModel, numerals_by_fold}
use Rattle.gk_terms.specs.Text.{is_empty}
use Rattle.gk_terms.specs.Number.{is_numeral, value_of, number_of}

abbrev value_after : ℕ → List ℕ → ℕ
value_after n ds = fold (λ n d. 10 * n + (d - 48)) n ds

tells_digits : IsDigitsTest (λ ds. list_all is_ascii_digit ds ≡ true)
tells_digits = search rules

folds_digits : FoldsDigits value_after
folds_digits = record {
  empty = λ n. refl;
  more = λ n c cs h. ap (λ m. value_after (m + (c - 48)) cs) (omega arith);
}

own : IsNumeralModel (λ ds. list_all is_ascii_digit ds ≡ true) value_of
own = numerals_by_fold _ tells_digits value_after folds_digits

-- each byte is a digit
pub decimal_digits : (n : ℕ) → n < 2 ^ 64 → list_all is_ascii_digit (decimal n) ≡ true
decimal_digits n small = digits_decimal own n small

-- a zero stands alone
decimal_leads : (n : ℕ) → n < 2 ^ 64 → get_or (decimal n) 0 0 ≡ 48 → length (decimal n) ≡ 1
decimal_leads zero small h = ap length (decimal_digit 0 (omega arith))
decimal_leads (suc n) small h =
    absurd (omega (arith, h, first_decimal (suc n) (omega arith) small))

empty_after : (d : ℕ) (ds : List ℕ) → length (d ∷ ds) ≡ 1 → is_empty ds ≡ true
empty_after d [] h = refl
empty_after d (b ∷ bs) h = absurd (omega (arith, h))

numeral_from : (text : List ℕ) → 0 < length text → list_all is_ascii_digit text ≡ true
    → (get_or text 0 0 ≡ 48 → length text ≡ 1) → is_numeral text ≡ true
numeral_from [] some digits leads = absurd (omega (arith, some))
numeral_from (d ∷ ds) some digits leads = and_from _ _ digits (by (d == 48) refl)
  where
    by : (b : Bool) → (d == 48) ≡ b → (not (d == 48) || is_empty ds) ≡ true
    by true e = ap (λ b. not b || is_empty ds) e
        ∙ empty_after d ds (leads (eqb-true d 48 e))
    by false e = ap (λ b. not b || is_empty ds) e

decimal_numeral : (n : ℕ) → n < 2 ^ 64 → is_numeral (decimal n) ≡ true
decimal_numeral n small =
    numeral_from (decimal n) (decimal_nonempty n small) (decimal_digits n small)
    (decimal_leads n small)

pub number_of_decimal : (least most n : ℕ) → n < 2 ^ 64 → least ≤ n → n ≤ most
    → number_of least most (decimal n) ≡ Some n
number_of_decimal least most n small low high =
    let value : value_of (decimal n) ≡ n = digits_value-decimal own n small in
    let above : nat_le least (value_of (decimal n)) ≡ true = ap (nat_le least) value
    ∙ le-leb least n low in
    let below : nat_le (value_of (decimal n)) most ≡ true = ap (λ v. nat_le v most) value
    ∙ le-leb n most high in
    let test = and_from _ _ (and_from _ _ (decimal_numeral n small) above) below in
    ap (λ b. then_some b (value_of (decimal n))) test ∙ ap Some value
