-- Names that are held, unless memory was refused for one of them.
use Rattle.std.proofs.Common.{ℕ, List, ◌++◌, subst}
use Rattle.std.specs.Prelude.{Result, Ok, Err, MatchResult, IsErr}
use Rattle.std.specs.declared.alloc.AllocError.{AllocError}
use Rattle.command_reader.specs.Memory.{HoldsNames}

-- names that are held, with more after them
pub held_more : (before after : Result (List (List ℕ)) AllocError) (front more : List (List ℕ)) →
    MatchResult before (λ names. HoldsNames after (names ++ more)) (λ _. IsErr after) → HoldsNames
    before front → HoldsNames after (front ++ more)
held_more (Ok names) after front more h k = subst (λ (f : List (List ℕ)). HoldsNames after
    (f ++ more)) k h
held_more (Err e) (Ok names) front more h k = let impossible : ⊥ = cc in absurd impossible
held_more (Err e) (Err d) front more h k = tt
