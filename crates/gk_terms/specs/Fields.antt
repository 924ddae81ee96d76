-- The fields of a line, read from left to right with the first fault. Both languages have this
-- grammar, each with its own faults: `missing` is the fault of a field that is absent, `extra` that
-- of a word after the last field.
use Rattle.std.specs.Prelude.{◌≡◌, ℕ, List, [], ◌∷◌, Option, Result, Ok, Err, MatchResult}
use Rattle.std.specs.Option.{ok_or}

infixl 10 ◌>>=◌
-- the next field is read only if those before it have no fault
abbrev pub ◌>>=◌ : {A B F : Type 0} → Result A F → (A → Result B F) → Result B F
(Ok x) >>= f = f x
(Err fault) >>= f = Err fault

-- a value, with the words after its field
abbrev pub with_rest : {A F : Type 0} → List (List ℕ) → A → Result (A × List (List ℕ)) F
with_rest words x = Ok (x, words)

-- the first word, as this function reads it, with the words after it
abbrev pub field_by : {A F : Type 0} → F → (List ℕ → Result A F) → List (List ℕ)
    → Result (A × List (List ℕ)) F
field_by missing value [] = Err missing
field_by missing value (word ∷ words) = value word >>= with_rest words

-- the first word as a field: a word that does not spell it is the field's own fault
abbrev pub field : {A F : Type 0} → F → (List ℕ → Option A) → F → List (List ℕ)
    → Result (A × List (List ℕ)) F
field missing read bad words = field_by missing (λ word. ok_or (read word) bad) words

-- a value, if no word comes after the last field
abbrev pub nothing_more : {A F : Type 0} → F → A → List (List ℕ) → Result A F
nothing_more extra x [] = Ok x
nothing_more extra x (word ∷ words) = Err extra

-- what a reader of a field gives: the value, with these words left; or the first fault
abbrev pub Gives : {A F : Type 0} → Result (A × List (List ℕ)) F → Result A F → List (List ℕ)
    → Type 0
Gives read result words = MatchResult result (λ x. read ≡ Ok (x, words)) (λ fault. read ≡ Err fault)
