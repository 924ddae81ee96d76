-- A text that is looked at several bytes at a time.
use Rattle.std.proofs.Common.{◌≡◌, ℕ, ◌+◌, ◌-◌, ◌<◌, ◌≤◌, ◌&&◌, Bool, true, false, cond, List, [], ◌∷◌, ◌++◌, length, take, drop, map, take-add, sym, ap, ◌∙◌, inl, inr, arith}
use Rattle.std.specs.Prelude.{not}
use Rattle.std.specs.List.{position_or_len, list_all}
use Rattle.std.specs.Simd.Lanes.{mask_l}
use Rattle.std.specs.Int.{trailing_zeros, w64}
use Rattle.std.proofs.lemmas.Bool.{cases_Bool, cond-true, eq-eqb, and_parts}
use Rattle.std.proofs.lemmas.List.{take-append-drop, take-take, take_all, drop-drop, length-take-le, length-drop}
use Rattle.std.proofs.lemmas.List.Folds.{prefix_len-append, list_all-append}
use Rattle.std.proofs.lemmas.Simd.{leading_from_mask_l, trailing_mask_l}

-- what is left of a text from a place on
pub from_place : (at : ℕ) (text : List ℕ) → take (length text - at) (drop at text) ≡ drop at text
from_place at text =
    take_all (length text - at) (drop at text) (omega (arith, length-drop at text))

module _ (p : ℕ → Bool) where
  -- bytes after one that passes do not count
  before_first : (bytes rest : List ℕ) → 0 < mask_l (map p bytes)
      → position_or_len p (bytes ++ rest) ≡ position_or_len p bytes
  before_first [] rest some = absurd (omega arith)
  before_first (b ∷ bs) rest some = elim (cases_Bool (p b)) [
    | inl is ↦
        ap (λ t. cond (not t) (1 + position_or_len p (bs ++ rest)) 0) is
        ∙ sym (ap (λ t. cond (not t) (1 + position_or_len p bs) 0) is)
    | inr other ↦
        let mask = ap (λ t. cond {A = ℕ} t 1 0) other in
        let later = before_first bs rest (omega (arith, some, mask)) in
        ap (λ n. cond (not (p b)) (1 + n) 0) later
  ]

  -- no bit is set, so the first that passes is among the others
  none_among : (n : ℕ) (bytes : List ℕ) → n ≤ length bytes → mask_l (map p (take n bytes)) ≡ 0
      → position_or_len p bytes ≡ n + position_or_len p (drop n bytes)
  none_among n bytes within none =
      ap (position_or_len p) (sym (take-append-drop n bytes))
      ∙ prefix_len-append (λ b. not (p b)) (take n bytes) (drop n bytes)
      ∙ cond-true _ _ _ (eq-eqb _ _ (leading_from_mask_l p (take n bytes) none))
      ∙ ap (λ k. k + position_or_len p (drop n bytes)) (length-take-le n bytes within)

  -- the lowest bit stands for the first that passes
  first_among : (n : ℕ) (bytes : List ℕ) → n ≤ 64 → n ≤ length bytes
      → 0 < mask_l (map p (take n bytes))
      → trailing_zeros w64 (mask_l (map p (take n bytes))) ≡ position_or_len p bytes
  first_among n bytes few within some =
      trailing_mask_l p 64 (take n bytes) (omega (arith, length-take-le n bytes within)) some
      ∙ sym (before_first (take n bytes) (drop n bytes) some)
      ∙ ap (position_or_len p) (take-append-drop n bytes)

  -- a search has come as far as a place, and looks at the next n bytes, whose mask is m
  module _ (n at m : ℕ) (text : List ℕ) (within : at + n ≤ length text)
      (so_far : position_or_len p text ≡ at + position_or_len p (drop at text))
      (masked : m ≡ mask_l (map p (take n (take (length text - at) (drop at text))))) where
    mask : m ≡ mask_l (map p (take n (drop at text)))
    mask = masked ∙ ap (λ bytes. mask_l (map p (take n bytes))) (from_place at text)

    left : n ≤ length (drop at text)
    left = omega (arith, length-drop at text)

    pub next_without : m ≡ 0
        → position_or_len p text ≡ at + n + position_or_len p (drop (at + n) text)
    next_without none =
        let rest = none_among n (drop at text) left (sym mask ∙ none) in
        let same = ap (position_or_len p) (drop-drop n at text) in
        omega (arith, so_far, rest, same)

    pub next_with : n ≤ 64 → (m ≡ 0 → ⊥) → at + trailing_zeros w64 m ≡ position_or_len p text
    next_with few some =
        let first = first_among n (drop at text) few left (omega (arith, mask, some)) in
        ap (λ k. at + trailing_zeros w64 k) mask ∙ ap (λ k. at + k) first ∙ sym so_far

  -- all pass if those before a place do, and those from there on
  all_split : (n : ℕ) (text : List ℕ)
      → list_all p text ≡ (list_all p (take n text) && list_all p (drop n text))
  all_split n text =
      ap (list_all p) (sym (take-append-drop n text))
      ∙ list_all-append p (take n text) (drop n text)

  -- those further in front pass too
  all_in_front : (k n : ℕ) (text : List ℕ) → k ≤ n → list_all p (take n text) ≡ true
      → list_all p (take k text) ≡ true
  all_in_front k n text less all =
      ap (list_all p) (sym (take-take k n text less))
      ∙ (and_parts _ _ (sym (all_split k (take n text)) ∙ all)).0

  -- a test has come as far as a place, and is made of the next n bytes
  module _ (n at : ℕ) (text : List ℕ) (so_far : list_all p (take at text) ≡ true)
      (tested : Bool)
      (next : tested ≡ list_all p (take n (take (length text - at) (drop at text)))) where
    these : tested ≡ list_all p (take n (drop at text))
    these = next ∙ ap (λ bytes. list_all p (take n bytes)) (from_place at text)

    rest_fails : tested ≡ false → list_all p (drop at text) ≡ false
    rest_fails fails =
        all_split n (drop at text)
        ∙ ap (λ t. t && list_all p (drop n (drop at text))) (sym these ∙ fails)

    pub next_fail : tested ≡ false → list_all p text ≡ false
    next_fail fails =
        all_split at text ∙ ap (λ t. t && list_all p (drop at text)) so_far ∙ rest_fails fails

    pub next_pass : tested ≡ true → list_all p (take (at + n) text) ≡ true
    next_pass passes =
        ap (list_all p) (take-add at n text)
        ∙ list_all-append p (take at text) (take n (drop at text))
        ∙ ap (λ t. t && list_all p (take n (drop at text))) so_far
        ∙ sym these ∙ passes

  -- the last n bytes may overlap those that have been tested
  pub last_decide : (n at : ℕ) (text : List ℕ) (tested : Bool)
      → list_all p (take at text) ≡ true → n ≤ length text → length text ≤ at + n
      → tested ≡ list_all p (take n (take (length text - (length text - n))
      (drop (length text - n) text)))
      → tested ≡ list_all p text
  last_decide n at text tested so_far within near next =
      let start = length text - n in
      let before = all_in_front start at text (omega arith) so_far in
      let last = take_all n (drop start text) (omega (arith, length-drop start text)) in
      next
      ∙ ap (λ bytes. list_all p (take n bytes)) (from_place start text)
      ∙ ap (list_all p) last
      ∙ sym (all_split start text ∙ ap (λ t. t && list_all p (drop start text)) before)
