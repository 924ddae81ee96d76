-- Bytes that are taken of a piece, and turns that are counted, with what the reader gave for them.
use Rattle.std.proofs.Common.{◌≡◌, ℕ, ◌+◌, ◌-◌, ◌≤◌, List, subst, ◌<◌, ◌^◌, take, drop, sym, ap, ◌∙◌, arith}
use Rattle.std.specs.Prelude.{Option, Some, None}
use Rattle.std.proofs.lemmas.List.{drop-take, drop-drop}
use Rattle.gk_lines.specs.LineReader.{CountsTurns, GaveBytes}

-- bytes that are taken from the front of a part
pub take-drop-taken : (bytes : List ℕ) (start end count : ℕ) → count ≤ end - start → take
    (end - (start + count)) (drop (start + count) bytes) ≡ drop count
    (take (end - start) (drop start bytes))
take-drop-taken bytes start end count h =
    let left : end - (start + count) ≡ (end - start) - count = omega (arith, h) in
    let whole : count + ((end - start) - count) ≡ end - start = omega (arith, h) in
    ap (λ n. take n (drop (start + count) bytes)) left
    ∙ ap (take ((end - start) - count)) (sym (drop-drop count start bytes))
    ∙ sym (drop-take count ((end - start) - count) (drop start bytes))
    ∙ ap (λ n. drop count (take n (drop start bytes))) whole

-- turns that are counted one call after another
pub turns_then : (a b c s t u : ℕ) → CountsTurns a b s t → CountsTurns b c t u → CountsTurns a c s u
turns_then a b c s t u first second small =
    let same : b + t ≡ a + s = first small in
    second (subst (λ (n : ℕ). n < 2 ^ 64) (sym same) small) ∙ same

-- bytes that the reader gave for the turns of one call after another
pub gave_then : (a b c : Option (List ℕ)) (s t u : ℕ) → GaveBytes a b s t → GaveBytes b c t u →
    GaveBytes a c s u
gave_then None b c s t u first second = tt
gave_then (Some xs) None c s t u first second = absurd first
gave_then (Some xs) (Some ys) None s t u first second = absurd second
gave_then (Some xs) (Some ys) (Some zs) s t u first second = omega (arith, first, second)
