-- Bytes that are written part by part.
use Rattle.std.proofs.Common.{◌≡◌, ℕ, List, [], ◌++◌, take, drop, sym, ap, ◌∙◌, append_assoc, append-nil}
use Rattle.std.specs.Prelude.{Option, Some, None}
use Rattle.std.specs.Io.KnownBytes.{Appends}
use Rattle.std.proofs.lemmas.List.{take-append-drop}
use Rattle.gk_lines.specs.Streams.{AppendsUpTo}

pub appends_nothing : (known : Option (List ℕ)) → Appends known known []
appends_nothing None = tt
appends_nothing (Some bytes) = sym (append-nil bytes)

pub appends_more : (a b c : Option (List ℕ)) (first second : List ℕ) → Appends a b first → Appends b
    c second → Appends a c (first ++ second)
appends_more None b c first second h k = tt
appends_more (Some x) None c first second h k = absurd h
appends_more (Some x) (Some y) None first second h k = absurd k
appends_more (Some x) (Some y) (Some z) first second h k = k ∙ ap (λ front. front ++ second) h ∙
    append_assoc x first second

-- one more part
pub write_goes_on : (old mid new : Option (List ℕ)) (bytes rest : List ℕ) (count : ℕ) → AppendsUpTo
    old mid bytes rest → Appends mid new (take count rest) → AppendsUpTo old new bytes
    (drop count rest)
write_goes_on old mid new bytes rest count so_far more =
    let front = so_far.0 in
    let split : bytes ≡ (front ++ take count rest) ++ drop count rest =
    so_far.1 ∙ ap (λ r. front ++ r) (sym (take-append-drop count rest)) ∙ sym
    (append_assoc front (take count rest) (drop count rest)) in (
      front ++ take count rest,
      split,
      appends_more old mid new front (take count rest) so_far.2
          more,
    )
