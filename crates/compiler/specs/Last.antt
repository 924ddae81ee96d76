-- The last of what commands say of one thing.
use Rattle.std.specs.Prelude.{List, fold, Option, Some, None}

-- the last element of a list
abbrev pub last_in : {X : Type 0} → List X → Option X
last_in xs = fold (λ _ x. Some x) None xs
