-- Calls that are opened, changed and closed without a refusal.
use Rattle.std.proofs.Common.{◌≡◌, ◌<◌, true, false, cond, List, Option, Some, None, ap}
use Rattle.std.proofs.lemmas.Bool.{leb-false}
use Rattle.std.specs.Prelude.{ℕ, nat_le, Ok, Err}
use Rattle.bandwidth.specs.declared.open_call.OpenCall.{OpenCall}
use Rattle.bandwidth.specs.declared.faults.CallsFault.TheVariants as faults
use Rattle.bandwidth.specs.Calls.{OpenCallsParts, unless_refused}
use Rattle.rulings.specs.Founded.{is_owned}

pub has_room : (most count : ℕ) → nat_le most count ≡ false → count < most
has_room = leb-false

pub owner_is_not_refused : (c : OpenCallsParts) (id : List ℕ) (calls : List OpenCall)
    (held : Option OpenCall)
    → is_owned id held ≡ true → unless_refused c id calls held ≡ Ok (record c { calls = calls })
owner_is_not_refused c id calls None h = let impossible : ⊥ = cc in absurd impossible
owner_is_not_refused c id calls (Some call) h =
    ap (λ t. cond t (Ok (record c { calls = calls })) (Err faults.NotYours)) h
