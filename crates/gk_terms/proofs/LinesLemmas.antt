-- The lines of a text, taken off from the front.
use Rattle.std.proofs.Common.{◌≡◌, ℕ, ◌+◌, ◌<◌, ◌≤◌, true, false, cond, List, [], ◌∷◌, length, take, drop, refl, sym, ap, subst, ◌∙◌, add_comm, add-one, ⊎_elim, arith}
use Rattle.std.specs.Prelude.{not, ◌==◌}
use Rattle.std.specs.List.{position_or_len, onto_first}
use Rattle.std.proofs.lemmas.Bool.{cases_Bool}
use Rattle.std.proofs.lemmas.List.{take_all, drop_all}
use Rattle.gk_terms.specs.Text.{raw_lines_of}

-- the first line of a text that is not empty: up to its first line feed, and that
record FirstLine (text : List ℕ) (n : ℕ) : Type 0 where
  cut : raw_lines_of text ≡ take (n + 1) text ∷ raw_lines_of (drop (n + 1) text)

at_feed : (b : ℕ) (bs : List ℕ) → (b == 10) ≡ true → FirstLine (b ∷ bs) 0
at_feed b bs feed = record {
  cut = ap (λ t. cond t ((b ∷ []) ∷ raw_lines_of bs)
      (onto_first b (raw_lines_of bs))) feed;
}

before_feed : (b : ℕ) (bs : List ℕ) (n : ℕ) → (b == 10) ≡ false → FirstLine bs n → FirstLine
    (b ∷ bs) (1 + n)
before_feed b bs n other f = record {
  cut = ap (λ t. cond t ((b ∷ []) ∷ raw_lines_of bs) (onto_first b (raw_lines_of bs))) other
      ∙ ap (onto_first b) f.cut ∙ rw (add_comm 1 n, add-one, add-one) refl;
}

-- the last byte, without a line feed after it
at_end : (b : ℕ) → (b == 10) ≡ false → FirstLine (b ∷ []) (1 + 0)
at_end b other = record { cut = ap (λ t. cond t ((b ∷ []) ∷ []) ((b ∷ []) ∷ [])) other }

first_line_at : (b : ℕ) (bs : List ℕ) → FirstLine (b ∷ bs) (position_or_len (λ b. b == 10) (b ∷ bs))
first_line_at b [] =
    ⊎_elim
    (λ (feed : (b == 10) ≡ true). subst (FirstLine (b ∷ []))
    (ap (λ t. cond (not t) (1 + 0) 0) (sym feed)) (at_feed b [] feed))
    (λ (other : (b == 10) ≡ false). subst (FirstLine (b ∷ []))
    (ap (λ t. cond (not t) (1 + 0) 0) (sym other)) (at_end b other))
    (cases_Bool (b == 10))
first_line_at b (c ∷ cs) =
    let n : ℕ = position_or_len (λ b. b == 10) (c ∷ cs) in
    ⊎_elim
    (λ (feed : (b == 10) ≡ true). subst (FirstLine (b ∷ c ∷ cs))
    (ap (λ t. cond (not t) (1 + n) 0) (sym feed)) (at_feed b (c ∷ cs) feed))
    (λ (other : (b == 10) ≡ false). subst (FirstLine (b ∷ c ∷ cs))
    (ap (λ t. cond (not t) (1 + n) 0) (sym other)) (before_feed b (c ∷ cs) n other
    (first_line_at c cs)))
    (cases_Bool (b == 10))

-- the first line of a text that has a line feed
pub line_to_feed : (text : List ℕ) → 0 < length text → raw_lines_of text ≡ take
    (position_or_len (λ b. b == 10) text + 1) text ∷ raw_lines_of
    (drop (position_or_len (λ b. b == 10) text + 1) text)
line_to_feed [] h = absurd (omega arith)
line_to_feed (b ∷ bs) h = (first_line_at b bs).cut

-- without one, the text is one line
pub line_to_end : (text : List ℕ) → 0 < length text → length text ≤ position_or_len (λ b. b == 10)
    text → raw_lines_of text ≡ text ∷ []
line_to_end text h past =
    let n : ℕ = position_or_len (λ b. b == 10) text + 1 in
    line_to_feed text h ∙ ap (λ line. line ∷ raw_lines_of (drop n text))
    (take_all n text (omega (arith, past)))
    ∙ ap (λ rest. text ∷ raw_lines_of rest) (drop_all n text (omega (arith, past)))
