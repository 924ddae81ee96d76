-- A text that is made word by word.
use Rattle.std.proofs.Common.{◌≡◌, ℕ, ◌+◌, ◌<◌, List, [], ◌∷◌, ◌++◌, length, get_or, take, Ok, Err, refl, sym, ap, ◌∙◌, append_assoc, append-nil}
use Rattle.std.specs.Prelude.{Result, OnOk, flat_map}
use Rattle.std.proofs.lemmas.List.{flat_map_more, take_more}
use Rattle.gk_terms.specs.Text.{spaced}
use Rattle.explanation.specs.Lists.{with_words}

-- words after a text, as one text
pub words_after : (text : List ℕ) (words : List (List ℕ))
    → with_words text words ≡ text ++ flat_map (λ next. 32 ∷ next) words
words_after text [] = sym (append-nil text)
words_after text (word ∷ words) =
    words_after (text ++ 32 ∷ word) words ∙ append_assoc text (32 ∷ word) _

-- a line of words after a text
pub words_said : (text word : List ℕ) (words : List (List ℕ))
    → with_words (text ++ word) words ≡ text ++ spaced (word ∷ words)
words_said text word words =
    words_after (text ++ word) words ∙ append_assoc text word _

-- a line of two words and others, as it is made
pub line_said : (old one two new first second : List ℕ) (words : List (List ℕ))
    → one ≡ old ++ first → two ≡ one ++ 32 ∷ second → new ≡ with_words two words
    → new ≡ old ++ spaced (first ∷ second ∷ words)
line_said old one two new first second words is_one is_two is_new =
    is_new
    ∙ ap (λ text. with_words text words) (is_two ∙ ap (λ text. text ++ 32 ∷ second) is_one)
    ∙ words_said old first (second ∷ words)

-- of four words and others
pub row_said : (old one two three four new first second third fourth : List ℕ)
    (words : List (List ℕ))
    → one ≡ old ++ first → two ≡ one ++ 32 ∷ second → three ≡ two ++ 32 ∷ third
    → four ≡ three ++ 32 ∷ fourth → new ≡ with_words four words
    → new ≡ old ++ spaced (first ∷ second ∷ third ∷ fourth ∷ words)
row_said old one two three four new first second third fourth words is_one is_two is_three is_four
    is_new =
    is_new
    ∙ ap (λ text. with_words text words)
    (is_four ∙ ap (λ text. text ++ 32 ∷ fourth)
    (is_three ∙ ap (λ text. text ++ 32 ∷ third)
    (is_two ∙ ap (λ text. text ++ 32 ∷ second) is_one)))
    ∙ words_said old first (second ∷ third ∷ fourth ∷ words)

-- what follows from what a call promises if it succeeds
pub ok_then : {A E P Q : Type 0} (r : Result A E) → OnOk r P → (P → Q) → OnOk r Q
ok_then (Ok x) is then = then is
ok_then (Err e) is then = is

-- words after words
pub words_twice : (text : List ℕ) (words others : List (List ℕ))
    → with_words text (words ++ others) ≡ with_words (with_words text words) others
words_twice text [] others = refl
words_twice text (word ∷ words) others = words_twice (text ++ 32 ∷ word) words others

-- ---- names of a hopoff
pub further_more : (f : List ℕ → List (List ℕ)) (text : List ℕ) (names : List (List ℕ)) (i : ℕ)
    (d : List ℕ) → i < length names
    → with_words (with_words text (flat_map f (take i names))) (f (get_or names i d)) ≡ with_words
    text (flat_map f (take (i + 1) names))
further_more f text names i d h =
    sym (words_twice text (flat_map f (take i names)) (f (get_or names i d)))
    ∙ ap (with_words text) (flat_map_more f [] (take i names) (get_or names i d) ∙ ap (flat_map f)
    (sym (take_more names i d h)))

-- each name as a word
pub names_more : (text : List ℕ) (names : List (List ℕ)) (i : ℕ) (d : List ℕ) → i < length names
    → with_words text (take i names) ++ 32 ∷ get_or names i d ≡ with_words text (take (i + 1) names)
names_more text names i d h =
    sym (words_twice text (take i names) (get_or names i d ∷ []))
    ∙ ap (with_words text) (sym (take_more names i d h))
