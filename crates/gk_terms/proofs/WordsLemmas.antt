-- The words of a line, taken off from the left.
use Rattle.std.proofs.Common.{◌≡◌, ℕ, ◌+◌, ◌<◌, ◌≤◌, true, false, cond, List, [], ◌∷◌, length, take, drop, refl, sym, ap, subst, ◌∙◌, add_comm, add-one, ⊎_elim, arith}
use Rattle.std.specs.Prelude.{not, filter}
use Rattle.std.specs.List.{prefix_len, position_or_len, slice_split, onto_first}
use Rattle.std.proofs.lemmas.Bool.{cases_Bool, cases_lt}
use Rattle.std.proofs.lemmas.List.Splits.{slice_split-cons_yes, slice_split-cons_no}
use Rattle.std.proofs.lemmas.List.Sums.{prefix_len_stops, prefix_len-drop_no, prefix_len-drop_all}
use Rattle.std.proofs.lemmas.List.Folds.{length-prefix_len}
use Rattle.std.proofs.lemmas.Bool.Decides.{nat_tests}
use Rattle.gk_terms.specs.Text.{is_blank, is_empty, words_of}

-- a blank in front changes no word
words_of-blank : (b : ℕ) (bs : List ℕ) → is_blank b ≡ true → words_of (b ∷ bs) ≡ words_of bs
words_of-blank b bs h = ap (filter (λ word. not (is_empty word)))
    (slice_split-cons_yes is_blank b bs h)

drop_one : (k b : ℕ) (bs : List ℕ) → drop (1 + k) (b ∷ bs) ≡ drop k bs
drop_one k b bs = rw (add_comm 1 k, add-one) refl

-- nor do all of them
pub words_after_blanks : (line : List ℕ) → words_of (drop (prefix_len is_blank line) line) ≡
    words_of line
words_after_blanks [] = refl
words_after_blanks (b ∷ bs) =
    ⊎_elim
    (λ (yes : is_blank b ≡ true).
    ap (λ k. words_of (drop k (b ∷ bs))) (ap (λ t. cond t (1 + prefix_len is_blank bs) 0) yes)
    ∙ ap words_of (drop_one (prefix_len is_blank bs) b bs) ∙ words_after_blanks bs ∙ sym
    (words_of-blank b bs yes))
    (λ (no : is_blank b ≡ false).
    ap (λ k. words_of (drop k (b ∷ bs))) (ap (λ t. cond t (1 + prefix_len is_blank bs) 0) no))
    (cases_Bool (is_blank b))

take_one : (k b : ℕ) (bs : List ℕ) → take (1 + k) (b ∷ bs) ≡ b ∷ take k bs
take_one k b bs = rw (add_comm 1 k, add-one) refl

-- the words after the first cut of a line are those of what is left
record CutAt (line : List ℕ) (n : ℕ) : Type 0 where
  parts : List (List ℕ)
  cut : slice_split is_blank line ≡ take n line ∷ parts
  after : filter (λ word. not (is_empty word)) parts ≡ words_of (drop n line)

after_word : (b : ℕ) (bs : List ℕ) (n : ℕ) → is_blank b ≡ false → CutAt bs n → CutAt (b ∷ bs)
    (1 + n)
after_word b bs n other c = record {
  parts = c.parts;
  cut = slice_split-cons_no is_blank b bs other ∙ ap (onto_first b) c.cut ∙ ap
      (λ word. word ∷ c.parts) (sym (take_one n b bs));
  after = c.after ∙ ap words_of (sym (drop_one n b bs));
}

at_blank : (b : ℕ) (bs : List ℕ) → is_blank b ≡ true → CutAt (b ∷ bs) 0
at_blank b bs blank = record {
  parts = slice_split is_blank bs;
  cut = slice_split-cons_yes is_blank b bs blank;
  after = sym (words_of-blank b bs blank);
}

cut_at : (line : List ℕ) → CutAt line (position_or_len is_blank line)
cut_at [] = record { parts = []; cut = refl; after = refl }
cut_at (b ∷ bs) =
    ⊎_elim
    (λ (yes : is_blank b ≡ true). subst (CutAt (b ∷ bs))
    (ap (λ t. cond (not t) (1 + position_or_len is_blank bs) 0) (sym yes)) (at_blank b bs yes))
    (λ (no : is_blank b ≡ false). subst (CutAt (b ∷ bs))
    (ap (λ t. cond (not t) (1 + position_or_len is_blank bs) 0) (sym no))
    (after_word b bs _ no (cut_at bs)))
    (cases_Bool (is_blank b))

some_length : (word : List ℕ) → 0 < length word → is_empty word ≡ false
some_length word h = grind (arith, nat_tests)

-- the first word ends at the first blank
pub words_by_first : (line : List ℕ) → 0 < position_or_len is_blank line → words_of line ≡ take
    (position_or_len is_blank line) line ∷ words_of (drop (position_or_len is_blank line) line)
words_by_first line h =
    let n : ℕ = position_or_len is_blank line in
    let c : CutAt line n = cut_at line in
    let some : is_empty (take n line) ≡ false =
    some_length (take n line) (omega (arith, length-prefix_len (λ b. not (is_blank b)) line)) in
    ap (filter (λ word. not (is_empty word))) c.cut
    ∙ ap (λ t. cond (not t) (take n line ∷ filter (λ word. not (is_empty word)) c.parts)
    (filter (λ word. not (is_empty word)) c.parts)) some
    ∙ ap (λ words. take n line ∷ words) c.after

-- a line that begins with neither a word nor a blank is empty
no_word_left : (line : List ℕ) → prefix_len is_blank line ≡ 0 → position_or_len is_blank line ≡ 0 →
    words_of line ≡ []
no_word_left [] h k = refl
no_word_left (b ∷ bs) h k =
    ⊎_elim
    (λ (yes : is_blank b ≡ true).
    let some : 1 + prefix_len is_blank bs ≡ 0 = ap (λ t. cond t (1 + prefix_len is_blank bs) 0)
    (sym yes) ∙ h in
    absurd (omega (arith, some)))
    (λ (no : is_blank b ≡ false).
    let some : 1 + position_or_len is_blank bs ≡ 0 = ap
    (λ t. cond (not t) (1 + position_or_len is_blank bs) 0) (sym no) ∙ k in
    absurd (omega (arith, some)))
    (cases_Bool (is_blank b))

blanks_taken : (line : List ℕ) → prefix_len is_blank (drop (prefix_len is_blank line) line) ≡ 0
blanks_taken line =
    ⊎_elim
    (λ (within : prefix_len is_blank line < length line). prefix_len-drop_no is_blank line
    (prefix_len is_blank line) 0 within (prefix_len_stops is_blank line 0 within))
    (λ (past : length line ≤ prefix_len is_blank line). prefix_len-drop_all is_blank line
    (prefix_len is_blank line) past)
    (cases_lt (prefix_len is_blank line) (length line))

-- if no word comes after the blanks in front, there is none
pub no_word : (line : List ℕ) → position_or_len is_blank (drop (prefix_len is_blank line) line) ≡ 0
    → words_of line ≡ []
no_word line h = sym (words_after_blanks line) ∙ no_word_left (drop (prefix_len is_blank line) line)
    (blanks_taken line) h

-- if one does, it is the first
pub a_word : (line : List ℕ) (rest : List ℕ) → rest ≡ drop (prefix_len is_blank line) line → 0 <
    position_or_len is_blank rest → words_of line ≡ take (position_or_len is_blank rest) rest ∷
    words_of (drop (position_or_len is_blank rest) rest)
a_word line rest e h = sym (words_after_blanks line) ∙ ap words_of (sym e) ∙ words_by_first rest h
