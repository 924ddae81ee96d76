-- With what a text that goes on from a front begins.
use Rattle.std.proofs.Common.{◌≡◌, ℕ, suc, ◌==◌, ◌&&◌, ◌≤◌, ◌⊎◌, inl, inr, Bool, true, List, [], ◌∷◌, ◌++◌, length, refl, sym, ap, ◌∙◌, arith, tests, true≢false}
use Rattle.std.specs.List.{starts_with}
use Rattle.std.proofs.lemmas.Bool.{and_parts, eqb-true}
use Rattle.difference_counts.specs.Places.{has_at}

-- whether a text begins with another one
abbrev pub begins : List ℕ → List ℕ → Bool
begins text front = starts_with ◌==◌ text front

swapped : (a b : ℕ) → (a == b) ≡ true → (b == a) ≡ true
swapped a b e = ap (λ n. b == n) (eqb-true a b e) ∙ itself b
  where
    itself : (n : ℕ) → (n == n) ≡ true
    itself n = search (arith, tests)

-- a text goes on from a front with a character
pub record GoesOn (front text : List ℕ) (character : ℕ) : Type 0 where
  pub begins : starts_with ◌==◌ text front ≡ true
  pub next : has_at (length front) character text ≡ true

-- what begins a text with this character after the front is no longer than the front, or goes on
-- from it with the character
pub short_or_on : (front rest text : List ℕ) (character : ℕ)
    → begins (front ++ character ∷ rest) text ≡ true
    → (length text ≤ length front) ⊎ GoesOn front text character
short_or_on [] rest [] character h = inl (omega arith)
short_or_on [] rest (x ∷ text) character h =
    inr (record { begins = refl; next = (and_parts (x == character) (begins rest text) h).0 })
short_or_on (y ∷ front) rest [] character h = inl (omega arith)
short_or_on (y ∷ front) rest (x ∷ text) character h =
    let parts = and_parts (x == y) (begins (front ++ character ∷ rest) text) h in
    by parts.0 (short_or_on front rest text character parts.1)
  where
    by : (x == y) ≡ true → (length text ≤ length front) ⊎ GoesOn front text character
        → (suc (length text) ≤ suc (length front)) ⊎ GoesOn (y ∷ front) (x ∷ text) character
    by e (inl short) = inl (omega (arith, short))
    by e (inr on) =
        inr (record { begins = λ i. swapped x y e i && on.begins i; next = on.next })

-- what begins with a front and a character goes on from the front with it
pub goes_on_from : (front text : List ℕ) (character : ℕ)
    → begins text (front ++ character ∷ []) ≡ true → GoesOn front text character
goes_on_from [] [] character h = absurd (true≢false (sym h))
goes_on_from [] (x ∷ text) character h =
    record { begins = refl; next = swapped character x (and_parts (character == x) true h).0 }
goes_on_from (y ∷ front) [] character h = absurd (true≢false (sym h))
goes_on_from (y ∷ front) (x ∷ text) character h =
    let parts = and_parts (y == x) (begins text (front ++ character ∷ [])) h in
    let on = goes_on_from front text character parts.1 in
    record { begins = λ i. parts.0 i && on.begins i; next = on.next }

-- what goes on from a front with a character begins with both
pub begins_on : (front text : List ℕ) (character : ℕ) → begins text front ≡ true
    → has_at (length front) character text ≡ true
    → begins text (front ++ character ∷ []) ≡ true
begins_on [] [] character h e = absurd (true≢false (sym e))
begins_on [] (x ∷ text) character h e = λ i. swapped x character e i && true
begins_on (y ∷ front) [] character h e = absurd (true≢false (sym h))
begins_on (y ∷ front) (x ∷ text) character h e =
    let parts = and_parts (y == x) (begins text front) h in
    λ i. parts.0 i && begins_on front text character parts.1 e i
