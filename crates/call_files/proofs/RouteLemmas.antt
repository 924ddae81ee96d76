-- The text of a route in a line.
use Rattle.std.proofs.Common.{◌≡◌, ℕ, zero, suc, ◌<◌, ◌≤◌, List, [], ◌∷◌, ◌++◌, length, take, length-append, lit≤, refl, sym, ap, ◌∙◌, append_assoc, arith}
use Rattle.std.specs.Prelude.{flat_map}
use Rattle.std.proofs.lemmas.List.{take_all, append-nil}
use Rattle.gk_terms.specs.Text.{spaced}
use Rattle.gk_lines.specs.LineBuffer.{ROOM_BYTES, extended, with_words, line_of_words, room_of}

take_twice : (n : ℕ) (front bytes : List ℕ) → take n (take n front ++ bytes) ≡ take n
    (front ++ bytes)
take_twice zero front bytes = refl
take_twice (suc n) [] bytes = refl
take_twice (suc n) (b ∷ bs) bytes = ap (λ bs. b ∷ bs) (take_twice n bs bytes)

words_cut : (front : List ℕ) (words : List (List ℕ)) → with_words (take ROOM_BYTES front) words ≡
    take ROOM_BYTES (front ++ flat_map (λ next. 32 ∷ next) words)
unfolding extended
words_cut front [] = ap (take ROOM_BYTES) (sym (append-nil front))
words_cut front (word ∷ words) =
    ap (λ line. with_words line words) (take_twice ROOM_BYTES front (32 ∷ word))
    ∙ words_cut (front ++ (32 ∷ word)) words
    ∙ ap (take ROOM_BYTES) (append_assoc front (32 ∷ word) (flat_map (λ next. 32 ∷ next) words))

line_cut : (words : List (List ℕ)) → line_of_words words ≡ take ROOM_BYTES (spaced words)
unfolding extended
line_cut [] = refl
line_cut (word ∷ words) = words_cut word words

spaces_length : (words : List (List ℕ)) → length (flat_map (λ next. 32 ∷ next) words) ≡ room_of
    words
spaces_length [] = refl
spaces_length (word ∷ words) =
    omega (
      arith,
      length-append (32 ∷ word) (flat_map (λ next. 32 ∷ next) words),
      spaces_length
          words,
    )

spaced_length : (words : List (List ℕ)) → length (spaced words) ≤ room_of words
spaced_length [] = lit≤ tt
spaced_length (word ∷ words) =
    omega (
      arith,
      length-append word (flat_map (λ next. 32 ∷ next) words),
      spaces_length words,
    )

-- a line of words that have room is these words with a space between each two
pub line_spaced : (words : List (List ℕ)) → room_of words < ROOM_BYTES → line_of_words words ≡
    spaced words
line_spaced words room =
    line_cut words ∙ take_all ROOM_BYTES (spaced words)
    (omega (arith, room, spaced_length words))
