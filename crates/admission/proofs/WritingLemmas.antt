-- An entry that is written before its event is carried out.
use Rattle.std.proofs.Common.{◌≡◌, ◌≤◌, ◌<◌, ◌+◌, ℕ, zero, suc, refl, arith}
use Rattle.std.specs.Prelude.{Result, Ok, Err, OnErr, OnOk, IsOk}

-- what is known of a success
pub as_ok : {A E : Type 0} (r : Result A E) (P : Type 0) → IsOk r → OnOk r P → P
as_ok (Ok x) P is holds = holds
as_ok (Err e) P is holds = let impossible : ⊥ = cc in absurd impossible

-- it fails only if a place is needed, since else a call is open, for whose release there is room
pub fails_if_needed : {A E : Type 0} (r : Result A E) (P : Type 0) (needed calls room : ℕ)
    → 1 ≤ calls + needed → (1 ≤ calls → 138 ≤ room) → (needed ≡ 0 → OnErr r (room < 138))
    → (1 ≤ needed → P) → OnErr r P
fails_if_needed (Ok x) P needed calls room one ready short may = tt
fails_if_needed (Err e) P zero calls room one ready short may =
    let enough = ready (omega (arith, one)) in
    let lacks = short refl in
    let impossible : ⊥ = omega (arith, enough, lacks) in absurd impossible
fails_if_needed (Err e) P (suc n) calls room one ready short may = may (omega arith)
