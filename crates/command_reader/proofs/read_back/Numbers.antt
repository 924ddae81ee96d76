-- What is read as a number is the number's own digits, and such digits are a word.
use Rattle.std.proofs.Common.{◌≡◌, ℕ, ◌+◌, ◌*◌, ◌^◌, ◌<◌, ◌≤◌, Bool, true, false, List, [], ◌∷◌, length, get_or, fold, Some, refl, sym, ap, subst, ◌∙◌, arith, rules, nat_le}
use Rattle.std.specs.Prelude.{◌-◌, not, ◌&&◌, ◌||◌, ◌==◌, decimal}
use Rattle.std.specs.Bool.{then_some}
use Rattle.std.specs.Char.{is_ascii_digit}
use Rattle.std.specs.List.{list_all}
use Rattle.std.proofs.lemmas.Bool.{and_parts, and_from, leb-true, eq-eqb}
use Rattle.std.proofs.lemmas.Bool.Decides.{nat_tests}
use Rattle.std.proofs.lemmas.Fmt.{decimal-digits_value}
use Rattle.std.proofs.lemmas.Str.Parse.{IsDigitsTest, FoldsDigits, IsNumeralModel, numerals_by_fold}
use Rattle.gk_terms.specs.Spelling.{is_visible}
use Rattle.gk_terms.specs.Text.{is_empty}
use Rattle.gk_terms.specs.Number.{is_numeral, value_of, number_of}
use Rattle.gk_commands.specs.Accepted.{is_word}
use Rattle.command_reader.proofs.read_back.Words.{word_from}

-- what a test lets through
pub then_some-parts : {A : Type 0} (b : Bool) (x y : A) → then_some b x ≡ Some y → (b ≡ true) ×
    (x ≡ y)
then_some-parts true x y h = (refl, cc)
then_some-parts false x y h = absurd (let no : ⊥ = cc in no)

-- ---- digits
are_digits : List ℕ → Type 0
are_digits ds = list_all is_ascii_digit ds ≡ true

abbrev value_after : ℕ → List ℕ → ℕ
value_after n ds = fold (λ n d. 10 * n + (d - 48)) n ds

tells_digits : IsDigitsTest (λ ds. list_all is_ascii_digit ds ≡ true)
tells_digits = search rules

folds_digits : FoldsDigits value_after
folds_digits = record {
  empty = λ n. refl;
  more = λ n c cs h. ap (λ m. value_after (m + (c - 48)) cs) (omega arith);
}

own : IsNumeralModel (λ ds. list_all is_ascii_digit ds ≡ true) value_of
own = numerals_by_fold _ tells_digits value_after folds_digits

visible_digit : (b : ℕ) → is_ascii_digit b ≡ true → is_visible b ≡ true
visible_digit b h = grind (arith, nat_tests)

pub visible_digits : (ds : List ℕ) → list_all is_ascii_digit ds ≡ true → list_all is_visible ds ≡
    true
visible_digits [] h = refl
visible_digits (d ∷ ds) h = let p = and_parts _ _ h in and_from _ _ (visible_digit d p.0)
    (visible_digits ds p.1)

-- ---- numerals
-- a text of digits, without a zero in front of another
record IsDigits (text : List ℕ) : Type 0 where
  digits : list_all is_ascii_digit text ≡ true
  some : 0 < length text
  leads : get_or text 0 0 ≡ 48 → length text ≡ 1

leads_with : (d : ℕ) (ds : List ℕ) → (not (d == 48) || is_empty ds) ≡ true → d ≡ 48 → length
    (d ∷ ds) ≡ 1
leads_with d [] h e = refl
leads_with d (b ∷ bs) h e = let is : (d == 48) ≡ true = eq-eqb d 48 e in let no : ⊥ = grind
    (arith, nat_tests) in absurd no

numeral_parts : (text : List ℕ) → is_numeral text ≡ true → IsDigits text
numeral_parts [] h = absurd (let no : ⊥ = cc in no)
numeral_parts (d ∷ ds) h =
    let p = and_parts (is_ascii_digit d && list_all is_ascii_digit ds)
    (not (d == 48) || is_empty ds) h in
    record {
      digits = p.0;
      some = omega arith;
      leads = λ e. leads_with d ds p.1 e;
    }

-- a number that was read: its digits are the text
pub record IsSpelled (most : ℕ) (text : List ℕ) (n : ℕ) : Type 0 where
  pub same : decimal n ≡ text
  pub within : n ≤ most
  pub word : is_word text ≡ true

spelled_by : (most : ℕ) (text : List ℕ) (n : ℕ) → most < 2 ^ 64 → is_numeral text ≡ true → value_of
    text ≤ most → value_of text ≡ n → IsSpelled most text n
spelled_by most text n small numeral within value =
    let t = numeral_parts text numeral in
    let below : value_of text < 2 ^ 64 = omega (arith, within, small) in
    record {
      same = ap decimal (sym value) ∙ decimal-digits_value own text t.digits t.some t.leads below;
      within = subst (λ m. m ≤ most) value within;
      word = word_from text t.some (visible_digits text t.digits);
    }

pub number_spelled : (least most : ℕ) (text : List ℕ) (n : ℕ) → most < 2 ^ 64 → number_of least most
    text ≡ Some n → IsSpelled most text n
number_spelled least most text n small h =
    let t = then_some-parts _ (value_of text) n h in
    let p = and_parts (is_numeral text && nat_le least (value_of text))
    (nat_le (value_of text) most) t.0 in
    let q = and_parts (is_numeral text) (nat_le least (value_of text)) p.0 in
    spelled_by most text n small q.0 (leb-true _ _ p.1) t.1

-- its digits spell it again
pub number_back : (least most : ℕ) (text : List ℕ) (n : ℕ) → most < 2 ^ 64 → number_of least most
    text ≡ Some n → number_of least most (decimal n) ≡ Some n
number_back least most text n small h = ap (number_of least most)
    (number_spelled least most text n small h).same ∙ h
