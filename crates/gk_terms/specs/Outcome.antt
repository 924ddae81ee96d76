-- What a call changes, and what it answers if it changes nothing.
use Rattle.std.specs.Prelude.{◌≡◌, ◌⊎◌, true, Result, Ok, Err, MatchResult, is_ok}

-- at Ok the new value is the one that was expected; at Err the error is, and nothing changed
abbrev pub Changes : {S T E : Type 0} → S → S → Result S E → Result T E → Type 0
Changes old new expected result =
    MatchResult result (λ _. expected ≡ Ok new) (λ e. (new ≡ old) × (expected ≡ Err e))

-- the same if memory may run out, which is answered only in place of Ok
abbrev pub ChangesUnlessMemory : {S T E : Type 0} → E → S → S → Result S E → Result T E → Type 0
ChangesUnlessMemory no_memory old new expected result =
    MatchResult result (λ _. expected ≡ Ok new)
    (λ e. (new ≡ old)
    × ((expected ≡ Err e) ⊎ ((e ≡ no_memory) × (is_ok expected ≡ true))))
