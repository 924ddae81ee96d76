-- What is kept of a line says what the whole line says, to those who ask first whether it is too long.
use Rattle.std.proofs.Common.{◌≡◌, ℕ, zero, suc, ◌+◌, ◌-◌, ◌<◌, ◌≤◌, Bool, true, false, cond, List, [], ◌∷◌, length, take, get_or, sym, ap, subst, ◌∙◌, ⊎_elim, lt-ltb, length-take-le, get_or-take, arith}
use Rattle.std.specs.Prelude.{◌==◌, slice_index}
use Rattle.std.specs.List.{onto_first}
use Rattle.std.proofs.lemmas.Bool.{cases_Bool, cases_lt}
use Rattle.std.proofs.lemmas.List.{take_all}
use Rattle.gk_terms.specs.Text.{raw_lines_of, content_of, strip_carriage_return, is_too_long}
use Rattle.gk_lines.specs.LineBuffer.{ROOM_BYTES}
use Rattle.gk_lines.specs.LineReader.{TakesLine}

-- no line feed but at the end
abbrev pub IsOneLine : List ℕ → Type 0
IsOneLine raw = (k : ℕ) → k + 1 < length raw → (get_or raw k 0 == 10) ≡ false

-- what is kept of a line is too long where the line is, and says the same where it is not
pub record SaysSame (kept raw : List ℕ) : Type 0 where
  pub too_long : is_too_long (content_of kept) ≡ is_too_long (content_of raw)
  pub content : is_too_long (content_of raw) ≡ false → content_of kept ≡ content_of raw

-- the first of some lines is one line
abbrev FirstIsOne : List (List ℕ) → Type 0
FirstIsOne [] = Unit {0}
FirstIsOne (raw ∷ others) = IsOneLine raw

one_byte : (b : ℕ) → IsOneLine (b ∷ [])
one_byte b k h = absurd (omega (arith, h))

byte_more : (b : ℕ) (raw : List ℕ) → (b == 10) ≡ false → IsOneLine raw → IsOneLine (b ∷ raw)
byte_more b raw other one zero h = other
byte_more b raw other one (suc k) h = one k (omega (arith, h))

first_more : (b : ℕ) (lines : List (List ℕ)) → (b == 10) ≡ false → FirstIsOne lines → FirstIsOne
    (onto_first b lines)
first_more b [] other one = one_byte b
first_more b (raw ∷ others) other one = byte_more b raw other one

first_is_one : (bytes : List ℕ) → FirstIsOne (raw_lines_of bytes)
first_is_one [] = tt
first_is_one (b ∷ bs) =
    let either : Bool → List (List ℕ) = λ t. cond t ((b ∷ []) ∷ raw_lines_of bs)
    (onto_first b (raw_lines_of bs)) in
    ⊎_elim
    (λ (feed : (b == 10) ≡ true). subst (λ t. FirstIsOne (either t)) (sym feed) (one_byte b))
    (λ (other : (b == 10) ≡ false). subst (λ t. FirstIsOne (either t)) (sym other)
    (first_more b (raw_lines_of bs) other (first_is_one bs)))
    (cases_Bool (b == 10))

-- a text that is at least so long, whichever of the two it is
either_long : (t : Bool) (xs ys : List ℕ) (n : ℕ) → n ≤ length xs → n ≤ length ys → n ≤ length
    (cond t xs ys)
either_long true xs ys n p q = p
either_long false xs ys n p q = q

strip_long : (line : List ℕ) (n : ℕ) → n + 1 ≤ length line → n ≤ length (strip_carriage_return line)
strip_long line n h =
    either_long _ (take (length line - 1) line) line n (omega
    (arith, h, length-take-le (length line - 1) line (omega arith))) (omega (arith, h))

-- a line's ending has at most two bytes
content_long : (raw : List ℕ) (n : ℕ) → n + 2 ≤ length raw → n ≤ length (content_of raw)
content_long raw n h =
    either_long _ (strip_carriage_return (take (length raw - 1) raw)) raw n
    (strip_long (take (length raw - 1) raw) n (omega (
      arith,
      h,
      length-take-le (length raw - 1) raw
          (omega arith),
    ))) (omega (arith, h))

-- a part of a line that does not reach its end has no ending
content_of-part : (raw : List ℕ) (n : ℕ) → IsOneLine raw → n + 1 < length raw → content_of
    (take (n + 1) raw) ≡ take (n + 1) raw
content_of-part raw n one h =
    let part = take (n + 1) raw in
    let size : length part ≡ n + 1 = length-take-le (n + 1) raw (omega (arith, h)) in
    let last : length part - 1 ≡ n = omega (arith, size) in
    let byte : slice_index part (length part - 1) ≡ get_or raw n 0 =
    ap (λ k. get_or part k 0) last ∙ get_or-take (n + 1) raw n 0 (omega arith) in
    ap (λ b. cond (b == 10) (strip_carriage_return (take (length part - 1) part)) part) byte
    ∙ ap (λ t. cond t (strip_carriage_return (take (length part - 1) part)) part) (one n h)

long_says_same : (raw : List ℕ) → IsOneLine raw → ROOM_BYTES < length raw → SaysSame
    (take ROOM_BYTES raw) raw
long_says_same raw one long =
    let part : content_of (take ROOM_BYTES raw) ≡ take ROOM_BYTES raw = content_of-part raw 513 one
    long in
    let size : length (content_of (take ROOM_BYTES raw)) ≡ ROOM_BYTES = ap length part ∙
    length-take-le ROOM_BYTES raw (omega (arith, long)) in
    let kept : is_too_long (content_of (take ROOM_BYTES raw)) ≡ true = lt-ltb _ _
    (omega (arith, size)) in
    let whole : is_too_long (content_of raw) ≡ true = lt-ltb _ _
    (content_long raw 513 (omega (arith, long))) in
    record { too_long = kept ∙ sym whole; content = λ no. absurd (cc (whole, no)) }

-- what is kept of a text's first line
pub kept_content : (bytes raw : List ℕ) (others : List (List ℕ)) → raw_lines_of bytes ≡ raw ∷ others
    → SaysSame (take ROOM_BYTES raw) raw
kept_content bytes raw others is =
    ⊎_elim
    (λ (long : ROOM_BYTES < length raw). long_says_same raw
    (subst FirstIsOne is (first_is_one bytes)) long)
    (λ (short : length raw ≤ ROOM_BYTES).
    let same : take ROOM_BYTES raw ≡ raw = take_all ROOM_BYTES raw short in
    record {
      too_long = ap (λ line. is_too_long (content_of line)) same;
      content = λ _. ap
          content_of same;
    })
    (cases_lt ROOM_BYTES (length raw))

-- the same of a line that was taken
pub TakesLine-says_same : (ended : Bool) (kept bytes rest : List ℕ)
    (taken : TakesLine ended kept bytes rest) → SaysSame kept taken.raw
TakesLine-says_same ended kept bytes rest taken =
    subst (λ line. SaysSame line taken.raw) (sym taken.kept_is)
    (kept_content bytes taken.raw (raw_lines_of rest) taken.first)

-- a function of lines that tells too long ones not apart gives the same of what is kept
pub same_of_kept : {X : Type 0} (f : List ℕ → X) (x : X) →
    ((line : List ℕ) → is_too_long line ≡ true → f line ≡ x) → (kept raw : List ℕ) → SaysSame kept
    raw → f (content_of kept) ≡ f (content_of raw)
same_of_kept f x long kept raw same =
    ⊎_elim
    (λ (h : is_too_long (content_of raw) ≡ true). long (content_of kept) (same.too_long ∙ h) ∙ sym
    (long (content_of raw) h))
    (λ (h : is_too_long (content_of raw) ≡ false). ap f (same.content h))
    (cases_Bool (is_too_long (content_of raw)))
