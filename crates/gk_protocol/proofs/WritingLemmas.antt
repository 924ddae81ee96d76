-- A text that is written after another.
use Rattle.std.proofs.Common.{ℕ, List, ◌++◌, sym, ap, ◌∙◌, append_assoc}
use Rattle.std.specs.Prelude.{Option, Result, Ok, Err, OnErr}
use Rattle.std.specs.Io.KnownBytes.{Appends}
use Rattle.gk_lines.specs.Streams.{AppendsFront}
use Rattle.gk_lines.proofs.StreamLemmas.{appends_more}

-- a front of the first is one of both
pub front_and_more : (old new : Option (List ℕ)) (bytes more : List ℕ) → AppendsFront old new bytes
    → AppendsFront old new (bytes ++ more)
front_and_more old new bytes more (rest, (front, split, appended)) = (
  rest ++ more,
  (
    front,
    ap (λ text. text ++ more) split ∙ append_assoc front rest more,
    appended,
  ),
)

-- the whole first with a front of the second is one of both
pub whole_and_front : (old middle new : Option (List ℕ)) (bytes more : List ℕ) → Appends old middle
    bytes → AppendsFront middle new more → AppendsFront old new (bytes ++ more)
whole_and_front old middle new bytes more whole (rest, (front, split, appended)) = (
  rest,
  (
    bytes ++ front,
    ap (λ text. bytes ++ text) split ∙ sym (append_assoc bytes front rest),
    appends_more old middle new bytes front whole appended,
  ),
)

-- the same, whether the second was written or not
pub second_front : {A E : Type 0} (result : Result A E) (old middle new : Option (List ℕ))
    (bytes more : List ℕ) → Appends old middle bytes → OnErr result (AppendsFront middle new more)
    → OnErr result (AppendsFront old new (bytes ++ more))
second_front (Ok x) old middle new bytes more whole front = tt
second_front (Err fault) old middle new bytes more whole front =
    whole_and_front old middle new bytes more whole front
