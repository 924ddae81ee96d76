-- Words with a space between each two read back as those words, and lines of them as those lines.
use Rattle.std.proofs.Common.{◌≡◌, ℕ, ◌≤◌, ◌<◌, Bool, true, false, cond, zero, suc, List, [], ◌∷◌, ◌++◌, length, length-append, take, get_or, refl, ap, ◌∙◌, arith}
use Rattle.std.specs.Prelude.{◌-◌, not, ◌||◌, ◌==◌, filter, map, flat_map, slice_index}
use Rattle.std.specs.List.{list_all, position_or_len, slice_split, AllByRecursion}
use Rattle.std.proofs.lemmas.Bool.{and_parts, and_from}
use Rattle.std.proofs.lemmas.Bool.Decides.{nat_tests}
use Rattle.std.proofs.lemmas.List.{append-nil}
use Rattle.std.proofs.lemmas.List.Elements.{All-from_recursion}
use Rattle.std.proofs.lemmas.List.Splits.{slice_split_at, slice_split_none}
use Rattle.std.proofs.Math.Seq.{take-append_seam}
use Rattle.gk_terms.specs.Spelling.{is_visible}
use Rattle.gk_commands.specs.Accepted.{is_word}
use Rattle.gk_commands.proofs.LinesLemmas.{feed_later, line_first}
use Rattle.gk_terms.specs.Text.{is_blank, is_empty, words_of, strip_carriage_return, content_of, lines_of, spaced, line_text}

pub word_from : (text : List ℕ) → 0 < length text → list_all is_visible text ≡ true → is_word text ≡
    true
word_from text some visible = let full : is_empty text ≡ false = grind (arith, nat_tests) in
    and_from _ _ (ap not full) visible

pub word_some : (text : List ℕ) → is_word text ≡ true → 0 < length text
word_some [] h = absurd (let no : ⊥ = cc in no)
word_some (b ∷ bs) h = omega arith

pub word_visible : (text : List ℕ) → is_word text ≡ true → list_all is_visible text ≡ true
word_visible text h = (and_parts (not (is_empty text)) (list_all is_visible text) h).1

abbrev pub AreWords : List (List ℕ) → Type 0
AreWords words = list_all is_word words ≡ true

-- ---- words
not_blank : (b : ℕ) → is_visible b ≡ true → is_blank b ≡ false
not_blank b h = grind (arith, nat_tests)

no_blanks : (word : List ℕ) → list_all is_visible word ≡ true → AllByRecursion
    (λ b. is_blank b ≡ false) word
no_blanks [] h = tt
no_blanks (b ∷ bs) h = let p = and_parts _ _ h in (not_blank b p.0, no_blanks bs p.1)

-- what follows a first word
abbrev after : List (List ℕ) → List ℕ
after words = flat_map (λ next. 32 ∷ next) words

-- between their spaces the words are the parts
split_spaced : (word : List ℕ) (words : List (List ℕ)) → AreWords (word ∷ words) → slice_split
    is_blank (spaced (word ∷ words)) ≡ word ∷ words
split_spaced word [] h =
    let p = and_parts (is_word word) true h in
    let free = All-from_recursion (λ b. is_blank b ≡ false) word
    (no_blanks word (and_parts _ _ p.0).1) in
    ap (slice_split is_blank) (append-nil word) ∙ slice_split_none is_blank word free
split_spaced word (next ∷ words) h =
    let p = and_parts (is_word word) (list_all is_word (next ∷ words)) h in
    let free = All-from_recursion (λ b. is_blank b ≡ false) word
    (no_blanks word (and_parts _ _ p.0).1) in
    slice_split_at is_blank word 32 (next ++ after words) free refl ∙ ap (λ others. word ∷ others)
    (split_spaced next words p.1)

-- no word is empty
kept_words : (words : List (List ℕ)) → AreWords words → filter (λ word. not (is_empty word)) words ≡
    words
kept_words [] h = refl
kept_words (word ∷ words) h =
    let p = and_parts (is_word word) (list_all is_word words) h in
    let some = (and_parts (not (is_empty word)) (list_all is_visible word) p.0).0 in
    ap (λ t. cond t (word ∷ filter (λ w. not (is_empty w)) words)
    (filter (λ w. not (is_empty w)) words)) some
    ∙ ap (λ others. word ∷ others) (kept_words words p.1)

-- the words of words with a space between each two are those words
pub words_back : (words : List (List ℕ)) → AreWords words → words_of (spaced words) ≡ words
words_back [] h = refl
words_back (word ∷ words) h =
    ap (filter (λ w. not (is_empty w))) (split_spaced word words h) ∙ kept_words (word ∷ words) h

-- ---- lines
-- a byte of words with spaces between
abbrev is_printed : ℕ → Bool
is_printed b = is_visible b || (b == 32)

printed : (b : ℕ) → is_visible b ≡ true → is_printed b ≡ true
printed b h = grind (arith, nat_tests)

printed_word : (word rest : List ℕ) → list_all is_visible word ≡ true → list_all is_printed rest ≡
    true → list_all is_printed (word ++ rest) ≡ true
printed_word [] rest h k = k
printed_word (b ∷ bs) rest h k = let p = and_parts _ _ h in and_from _ _ (printed b p.0)
    (printed_word bs rest p.1 k)

printed_behind : (words : List (List ℕ)) → AreWords words → list_all is_printed (after words) ≡ true
printed_behind [] h = refl
printed_behind (word ∷ words) h =
    let p = and_parts (is_word word) (list_all is_word words) h in
    printed_word word (after words) (and_parts _ _ p.0).1 (printed_behind words p.1)

printed_spaced : (words : List (List ℕ)) → AreWords words → list_all is_printed (spaced words) ≡
    true
printed_spaced [] h = refl
printed_spaced (word ∷ words) h =
    let p = and_parts (is_word word) (list_all is_word words) h in
    printed_word word (after words) (and_parts _ _ p.0).1 (printed_behind words p.1)

no_feed : (b : ℕ) → is_printed b ≡ true → (b == 10) ≡ false
no_feed b h = grind (arith, nat_tests)

no_return : (b : ℕ) → is_printed b ≡ true → (b == 13) ≡ false
no_return b h = grind (arith, nat_tests)

-- no line feed is found in such a line
no_feeds : (line : List ℕ) → list_all is_printed line ≡ true → length line ≤ position_or_len
    (λ b. b == 10) line
no_feeds [] h = omega arith
no_feeds (b ∷ bs) h =
    let p = and_parts _ _ h in
    omega (arith, no_feeds bs p.1, feed_later b bs (no_feed b p.0))

-- no byte of such a line is a carriage return
no_return_at : (line : List ℕ) (i : ℕ) → list_all is_printed line ≡ true →
    (slice_index line i == 13) ≡ false
no_return_at [] i h = refl
no_return_at (b ∷ bs) zero h = no_return b (and_parts _ _ h).0
no_return_at (b ∷ bs) (suc i) h = no_return_at bs i (and_parts _ _ h).1

-- lines of words, each with its line feed, are the lines of their text
pub lines_back : {X : Type 0} (words : X → List (List ℕ)) (xs : List X) → list_all
    (λ x. list_all is_word (words x)) xs ≡ true
    → lines_of (flat_map (λ x. line_text (words x)) xs) ≡ map (λ x. spaced (words x)) xs
lines_back words [] h = refl
lines_back words (x ∷ xs) h =
    let p = and_parts (list_all is_word (words x)) (list_all (λ x. list_all is_word (words x)) xs) h
    in
    let line : List ℕ = spaced (words x) in
    let rest : List ℕ = flat_map (λ x. line_text (words x)) xs in
    let free : list_all is_printed line ≡ true = printed_spaced (words x) p.0 in
    line_first line rest (no_feeds line free) (no_return_at line (length line - 1) free)
    ∙ ap (λ others. line ∷ others) (lines_back words xs p.1)
