-- Beginnings of one list.
use Rattle.std.proofs.Common.{◌≡◌, ℕ, zero, suc, ◌≤◌, ◌⊎◌, inl, inr, List, [], ◌∷◌, ◌++◌, length, Some, slice_get, refl, ap, sym, ◌∙◌, arith, append_assoc, length-append}
use mathlib.Core.List.{IsPrefix}

module _ {A : Type 0} where
  -- each list begins with itself
  pub prefix_self : (xs : List A) → IsPrefix xs xs
  prefix_self [] = ([], refl)
  prefix_self (x ∷ xs) = (let r = prefix_self xs in r.0, ap (λ ys. x ∷ ys) (prefix_self xs).1)

  -- each list begins with nothing
  pub prefix_nil : (xs : List A) → IsPrefix [] xs
  prefix_nil xs = (xs, refl)

  pub prefix_trans : (xs ys zs : List A) → IsPrefix xs ys → IsPrefix ys zs → IsPrefix xs zs
  prefix_trans xs ys zs p q =
      (p.0 ++ q.0, sym (append_assoc xs p.0 q.0) ∙ (ap (λ w. w ++ q.0) p.1 ∙ q.1))

  -- of two beginnings of one list the shorter begins the longer
  pub prefix_shorter : (xs ys zs : List A) → IsPrefix xs zs → IsPrefix ys zs
      → length xs ≤ length ys → IsPrefix xs ys
  prefix_shorter [] ys zs p q le = (ys, refl)
  prefix_shorter (x ∷ xs) [] zs p q le = absurd (omega arith)
  prefix_shorter (x ∷ xs) (y ∷ ys) [] p q le = absurd (cc (p.1))
  prefix_shorter (x ∷ xs) (y ∷ ys) (z ∷ zs) p q le =
      let heads : x ≡ y = cc (p.1, q.1) in
      let rest = prefix_shorter xs ys zs (p.0, cc (p.1)) (q.0, cc (q.1)) (omega arith) in
      (rest.0, cc (heads, rest.1))

  -- a beginning as long as the whole is the whole
  pub prefix_whole : (xs ys : List A) → IsPrefix xs ys → length ys ≤ length xs → xs ≡ ys
  prefix_whole [] [] p le = refl
  prefix_whole [] (y ∷ ys) p le = absurd (omega arith)
  prefix_whole (x ∷ xs) [] p le = absurd (cc (p.1))
  prefix_whole (x ∷ xs) (y ∷ ys) p le =
      let rest = prefix_whole xs ys (p.0, cc (p.1)) (omega arith) in cc (p.1, rest)

  -- a beginning of a list and one more is one of that list, or the whole
  pub prefix_snoc : (xs ys : List A) (x y : A) → IsPrefix (xs ++ x ∷ []) (ys ++ y ∷ [])
      → IsPrefix (xs ++ x ∷ []) ys ⊎ ((xs ≡ ys) × (x ≡ y))
  prefix_snoc [] [] x y p = inr (refl, cc (p.1))
  prefix_snoc [] (z ∷ zs) x y p =
      let heads : x ≡ z = cc (p.1) in inl (zs, ap (λ w. w ∷ zs) heads)
  prefix_snoc (a ∷ xs) [] x y p =
      absurd (let n = ap length p.1 in
      omega (arith, n, length-append (xs ++ x ∷ []) p.0, length-append xs (x ∷ [])))
  prefix_snoc (a ∷ xs) (b ∷ ys) x y p =
      let heads : a ≡ b = cc (p.1) in
      elim (prefix_snoc xs ys x y (p.0, cc (p.1))) [
        | inl q ↦ inl (q.0, cc (heads, q.1))
        | inr q ↦ inr (cc (heads, q.0), q.1)
      ]

  -- more after a common front
  pub prefix_after : (xs ys zs : List A) → IsPrefix ys zs → IsPrefix (xs ++ ys) (xs ++ zs)
  prefix_after xs ys zs p = (p.0, append_assoc xs ys p.0 ∙ ap (λ w. xs ++ w) p.1)

  -- the last of a list, by its place
  pub get_last : (xs : List A) (x : A) (place : ℕ) → place ≡ length xs
      → slice_get (xs ++ x ∷ []) place ≡ Some x
  get_last [] x zero e = refl
  get_last [] x (suc place) e = absurd (omega arith)
  get_last (y ∷ xs) x zero e = absurd (omega arith)
  get_last (y ∷ xs) x (suc place) e = get_last xs x place (omega arith)
