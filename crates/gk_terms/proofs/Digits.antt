-- What digits say never falls with more of them.
use Rattle.std.proofs.Common.{◌≡◌, ℕ, ◌+◌, ◌-◌, ◌*◌, ◌<◌, ◌≤◌, List, [], ◌∷◌, length, take, drop, get_or, fold, sym, ap, ◌∙◌, arith}
use Rattle.std.proofs.lemmas.List.Sums.{fold-append, fold_more}
use Rattle.std.proofs.Common.{take-append-drop}
use Rattle.gk_terms.specs.Number.{value_of}

abbrev next_value : ℕ → ℕ → ℕ
next_value n d = 10 * n + (d - 48)

grows : (a : ℕ) (ds : List ℕ) → a ≤ fold next_value a ds
grows a [] = omega arith
grows a (d ∷ ds) = omega (arith, grows (next_value a d) ds)

-- one digit further
pub value_of_more : (ds : List ℕ) (i d : ℕ) → i < length ds → value_of (take (i + 1) ds) ≡ 10 *
    value_of (take i ds) + (get_or ds i d - 48)
value_of_more ds i d h = fold_more next_value 0 ds i d h

-- the value of a front, with the next digit, is at most that of all
pub value_of_front : (ds : List ℕ) (i d : ℕ) → i < length ds → 10 * value_of (take i ds) +
    (get_or ds i d - 48) ≤ value_of ds
value_of_front ds i d h =
    let front = take (i + 1) ds in
    let rest = drop (i + 1) ds in
    let whole : value_of ds ≡ fold next_value (value_of front) rest =
    ap value_of (sym (take-append-drop (i + 1) ds)) ∙ fold-append next_value 0 front rest in
    omega (arith, whole, grows (value_of front) rest, value_of_more ds i d h)

-- what a loop over digits has to know of its next digit
pub ruleset one_digit_more = (value_of_front, value_of_more)
