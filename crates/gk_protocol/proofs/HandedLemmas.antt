-- A line that belongs to a request is handed on as it is kept.
use Rattle.std.proofs.Common.{◌≡◌, ℕ, ◌+◌, ◌-◌, ◌<◌, ◌≤◌, Bool, true, false, cond, List, [], ◌∷◌, ◌++◌, length, take, replicate, sym, ap, ◌∙◌, ⊎_elim, lt-ltb, length-take-le, arith}
use Rattle.std.proofs.lemmas.Bool.{cases_Bool, cases_lt}
use Rattle.std.proofs.lemmas.List.{take_all}
use Rattle.gk_terms.specs.Text.{content_of, strip_carriage_return, is_too_long}
use Rattle.gk_terms.specs.declared.limits.TheConstants.{MOST_LINE_BYTES}
use Rattle.gk_lines.specs.LineBuffer.{ROOM_BYTES}
use Rattle.gk_lines.specs.LineReader.{TakesLine}
use Rattle.gk_lines.proofs.KeptLines.{SaysSame, TakesLine-says_same}
use Rattle.gk_protocol.specs.Session.{handed_on}

-- a text that is at least so long, whichever of the two it is
either_long : (t : Bool) (xs ys : List ℕ) (n : ℕ) → n ≤ length xs → n ≤ length ys → n ≤ length
    (cond t xs ys)
either_long true xs ys n p q = p
either_long false xs ys n p q = q

strip_long : (line : List ℕ) (n : ℕ) → n + 1 ≤ length line → n ≤ length (strip_carriage_return line)
strip_long line n h =
    either_long _ (take (length line - 1) line) line n (omega
    (arith, h, length-take-le (length line - 1) line (omega arith))) (omega (arith, h))

-- a line's ending has at most two bytes
content_long : (raw : List ℕ) (n : ℕ) → n + 2 ≤ length raw → n ≤ length (content_of raw)
content_long raw n h =
    either_long _ (strip_carriage_return (take (length raw - 1) raw)) raw n
    (strip_long (take (length raw - 1) raw) n (omega (
      arith,
      h,
      length-take-le (length raw - 1) raw
          (omega arith),
    ))) (omega (arith, h))

-- so one that is not too long is kept whole
kept_whole : (raw : List ℕ) → is_too_long (content_of raw) ≡ false → take ROOM_BYTES raw ≡ raw
kept_whole raw fits =
    ⊎_elim
    (λ (long : ROOM_BYTES < length raw).
    let whole : is_too_long (content_of raw) ≡ true = lt-ltb _ _
    (content_long raw 513 (omega (arith, long))) in
    let no_such : ⊥ = cc in absurd no_such)
    (λ (short : length raw ≤ ROOM_BYTES). take_all ROOM_BYTES raw short)
    (cases_lt ROOM_BYTES (length raw))

-- what is handed on of a line, by whether it is too long
handed_by : Bool → List ℕ → List ℕ
handed_by long raw = cond long (replicate (MOST_LINE_BYTES + 1) 97 ++ 10 ∷ []) raw

handed_alike : (kept raw : List ℕ) → SaysSame kept raw → kept ≡ take ROOM_BYTES raw → handed_on kept
    ≡ handed_on raw
unfolding handed_by
handed_alike kept raw same is =
    ⊎_elim
    (λ (long : is_too_long (content_of raw) ≡ true).
    ap (λ t. handed_by t kept) (same.too_long ∙ long) ∙ sym (ap (λ t. handed_by t raw) long))
    (λ (fits : is_too_long (content_of raw) ≡ false).
    ap (λ t. handed_by t kept) (same.too_long ∙ fits) ∙ is ∙ kept_whole raw fits ∙ sym
    (ap (λ t. handed_by t raw) fits))
    (cases_Bool (is_too_long (content_of raw)))

-- of a line that was taken
pub kept_handed : (ended : Bool) (kept bytes rest : List ℕ) (t : TakesLine ended kept bytes rest) →
    handed_on kept ≡ handed_on t.raw
kept_handed ended kept bytes rest t = handed_alike kept t.raw
    (TakesLine-says_same ended kept bytes rest t) t.kept_is
