-- Steps of a reading that is known to come to an end.
use Rattle.std.proofs.Common.{◌≡◌, Option, Some, None, refl, subst}
use Rattle.std.specs.Prelude.{IsSome}
use Rattle.field_bytes.specs.Fields.{◌>>=◌}

-- its first field is read
pub first : {A B : Type 0} (o : Option A) (f : A → Option B) → IsSome (o >>= f) → IsSome o
first None f known = known
first (Some x) f known = refl

pub never : {A B : Type 0} (o : Option A) (f : A → Option B) → IsSome (o >>= f) → o ≡ None → ⊥
never o f known none =
    let some : IsSome o = first o f known in
    let impossible : ⊥ = cc in impossible

-- and then the rest
pub after : {A B : Type 0} (o : Option A) (f : A → Option B) (x : A) → o ≡ Some x
    → IsSome (o >>= f) → IsSome (f x)
after o f x is known = subst (λ read. IsSome (read >>= f)) is known
