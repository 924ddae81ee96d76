-- Where the first byte of a kind stands, by the library's search and by the definition.
use Rattle.std.proofs.Common.{◌≡◌, ℕ, zero, suc, ◌+◌, ◌<◌, Bool, true, false, List, [], ◌∷◌, length, refl, sym, ap, inl, inr, arith}
use Rattle.std.specs.Prelude.{cond, not, slice_index}
use Rattle.std.specs.List.{position_or_len}
use Rattle.std.proofs.lemmas.Bool.{cases_Bool}

module _ (p : ℕ → Bool) where
  -- a byte that passes, and one that does not
  here : (b : ℕ) (bs : List ℕ) → p b ≡ true → position_or_len p (b ∷ bs) ≡ 0
  here b bs is = ap (λ t. cond (not t) (1 + position_or_len p bs) 0) is

  later : (b : ℕ) (bs : List ℕ) → p b ≡ false
      → position_or_len p (b ∷ bs) ≡ 1 + position_or_len p bs
  later b bs other = ap (λ t. cond (not t) (1 + position_or_len p bs) 0) other

  -- none passes
  pub first_of_none : (bytes : List ℕ)
      → ((k : ℕ) → k < length bytes → ¬ (p (slice_index bytes k) ≡ true))
      → length bytes ≡ position_or_len p bytes
  first_of_none [] none = refl
  first_of_none (b ∷ bs) none = elim (cases_Bool (p b)) [
    | inl is ↦ absurd (none 0 (omega arith) is)
    | inr other ↦
        let rest = first_of_none bs (λ k within. none (suc k) (omega (arith, within))) in
        omega (arith, rest, later b bs other)
  ]

  -- the first that passes
  pub first_of_some : (bytes : List ℕ) (k : ℕ) → k < length bytes
      → ((j : ℕ) → j < k → ¬ (p (slice_index bytes j) ≡ true))
      → p (slice_index bytes k) ≡ true → k ≡ position_or_len p bytes
  first_of_some [] k within before is = absurd (omega arith)
  first_of_some (b ∷ bs) zero within before is = sym (here b bs is)
  first_of_some (b ∷ bs) (suc k) within before is = elim (cases_Bool (p b)) [
    | inl earlier ↦ absurd (before 0 (omega arith) earlier)
    | inr other ↦
        let rest = first_of_some bs k (omega (arith, within))
        (λ j below. before (suc j) (omega (arith, below))) is in
        omega (arith, rest, later b bs other)
  ]
