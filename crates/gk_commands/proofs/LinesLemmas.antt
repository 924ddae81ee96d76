-- A line with its line feed in front of others, and what it says.
use Rattle.std.proofs.Common.{◌≡◌, ℕ, ◌+◌, ◌≤◌, true, false, cond, List, [], ◌∷◌, ◌++◌, length, length-append, take, get_or, refl, ap, ◌∙◌, ⊎_elim, arith}
use Rattle.std.specs.Prelude.{◌-◌, not, ◌==◌, map, slice_index}
use Rattle.std.specs.List.{position_or_len, onto_first}
use Rattle.std.proofs.lemmas.Bool.{cases_Bool}
use Rattle.std.proofs.Math.Seq.{take-append_seam}
use Rattle.gk_terms.specs.Text.{strip_carriage_return, content_of, raw_lines_of, lines_of}

-- ---- where the first line feed is
feed_here : (b : ℕ) (bs : List ℕ) → (b == 10) ≡ true → position_or_len (λ b. b == 10) (b ∷ bs) ≡ 0
feed_here b bs feed = ap (λ t. cond (not t) (1 + position_or_len (λ b. b == 10) bs) 0) feed

pub feed_later : (b : ℕ) (bs : List ℕ) → (b == 10) ≡ false → position_or_len (λ b. b == 10) (b ∷ bs)
    ≡ 1 + position_or_len (λ b. b == 10) bs
feed_later b bs other = ap (λ t. cond (not t) (1 + position_or_len (λ b. b == 10) bs) 0) other

-- a line in which none is found, with one after it
raw_line_first : (line rest : List ℕ) → length line ≤ position_or_len (λ b. b == 10) line
    → raw_lines_of ((line ++ 10 ∷ []) ++ rest) ≡ (line ++ 10 ∷ []) ∷ raw_lines_of rest
raw_line_first [] rest past = refl
raw_line_first (b ∷ bs) rest past =
    let more : List (List ℕ) = raw_lines_of ((bs ++ 10 ∷ []) ++ rest) in
    ⊎_elim
    (λ (feed : (b == 10) ≡ true). absurd (omega (arith, past, feed_here b bs feed)))
    (λ (other : (b == 10) ≡ false). ap (λ t. cond t ((b ∷ []) ∷ more) (onto_first b more)) other
    ∙ ap (onto_first b) (raw_line_first bs rest (omega (arith, past, feed_later b bs other))))
    (cases_Bool (b == 10))

-- ---- what the line says
last_is_feed : (line : List ℕ) → get_or (line ++ (10 ∷ [])) (length line) 0 ≡ 10
last_is_feed [] = refl
last_is_feed (b ∷ bs) = last_is_feed bs

content_back : (line : List ℕ) → (slice_index line (length line - 1) == 13) ≡ false → content_of
    (line ++ (10 ∷ [])) ≡ line
content_back line other =
    let raw : List ℕ = line ++ (10 ∷ []) in
    let last : length raw - 1 ≡ length line = omega (arith, length-append {A = ℕ}) in
    let feed : slice_index raw (length raw - 1) ≡ 10 = ap (λ k. get_or raw k 0) last ∙ last_is_feed
    line in
    let front : take (length raw - 1) raw ≡ line = ap (λ k. take k raw) last ∙ take-append_seam line
    (10 ∷ []) in
    ap (λ b. cond (b == 10) (strip_carriage_return (take (length raw - 1) raw)) raw) feed
    ∙ ap strip_carriage_return front
    ∙ ap (λ t. cond t (take (length line - 1) line) line) other

-- a line in which no line feed is found, and without a carriage return at its end, in front of
-- others
pub line_first : (line rest : List ℕ) → length line ≤ position_or_len (λ b. b == 10) line
    → (slice_index line (length line - 1) == 13) ≡ false
    → lines_of ((line ++ 10 ∷ []) ++ rest) ≡ line ∷ lines_of rest
line_first line rest past other =
    ap (map content_of) (raw_line_first line rest past)
    ∙ ap (λ content. content ∷ lines_of rest) (content_back line other)
