-- What holds of the effect of a ruling that no count refuses, so that it can be carried out. A
-- reader of the contracts need not know it.
use Rattle.std.specs.Prelude.{◌≡◌, ◌≤◌, ℕ, nat_le, Bool, true, false, List, length, Option, Some, None, IsSome, ⊤}
use Rattle.compiler.specs.Zones.{zone_meant}
use Rattle.registry.specs.Endpoint.{EndpointParts}
use Rattle.registry.specs.Registration.{is_registered, is_full_for}
use Rattle.bandwidth.specs.declared.open_call.OpenCall.{OpenCall}
use Rattle.bandwidth.specs.Calls.{call_of, is_open, has_owner}
use Rattle.rulings.specs.declared.rulings.Effect.{Effect}
use Rattle.rulings.specs.declared.rulings.Effect.TheVariants.{Nothing, Put, Remove, Open, Resize, Close, PutInForce}
use Rattle.rulings.specs.State.{State, MachineParts, under}
use Rattle.rulings.specs.Events.{PlainEvent, endpoint_asking, put_in_force}
use Rattle.rulings.specs.Ruling.{register_refusal}
use Rattle.rulings.specs.Lacks.{no_memory_reply_of}

-- there is no room for the endpoint
abbrev pub is_full_of_endpoints : State → EndpointParts → Bool
is_full_of_endpoints s e =
    is_full_for (record { endpoints = s.endpoints; most = s.limits.endpoints }) e

-- nothing refuses the endpoint, there is room, and this is the zone that it means
abbrev pub IsPlaceable : State → List ℕ → Option EndpointParts → Type 0
IsPlaceable s zone None = ⊥
IsPlaceable s zone (Some e) =
    (register_refusal s e ≡ None) × (zone ≡ zone_meant s.commands e.zone)
    × (is_full_of_endpoints s e ≡ false)

-- whether a call was found, and it belongs to this ID
abbrev pub is_owned : List ℕ → Option OpenCall → Bool
is_owned id None = false
is_owned id (Some held) = has_owner id held

-- no call of the number is open, there is room, and memory may run out for the event
pub record IsOpenable (s : State) (event : PlainEvent) (call : OpenCall) : Type 0 where
  pub closed : is_open s.calls call.number ≡ false
  pub room : nat_le s.limits.calls (length s.calls) ≡ false
  pub fallible : IsSome (no_memory_reply_of event)

-- the event puts commands in force, and a reload is left
pub record IsReloadable (s : State) (event : PlainEvent) : Type 0 where
  pub puts : IsSome (put_in_force event)
  pub left : s.version ≤ s.limits.reloads

abbrev pub IsFounded : State → PlainEvent → Effect → Type 0
IsFounded s event Nothing = ⊤
IsFounded s event (Put zone) = IsPlaceable s zone (endpoint_asking event)
IsFounded s event (Remove id) = is_registered s.endpoints id ≡ true
IsFounded s event (Open call) = IsOpenable s event call
IsFounded s event (Resize call id units) = is_owned id (call_of s.calls call) ≡ true
IsFounded s event (Close call id) = is_owned id (call_of s.calls call) ≡ true
IsFounded s event PutInForce = IsReloadable s event

-- a machine is the state, but for the commands in force
abbrev pub IsUnder : MachineParts → State → Type 0
IsUnder m s = under s.commands m ≡ s

-- memory may run out for the event
abbrev pub IsFallible : PlainEvent → Type 0
IsFallible event = IsSome (no_memory_reply_of event)

-- whether an effect needs memory of its own
abbrev pub takes_memory : Effect → Bool
takes_memory Nothing = false
takes_memory (Put zone) = true
takes_memory (Remove id) = false
takes_memory (Open call) = true
takes_memory (Resize call id units) = false
takes_memory (Close call id) = false
takes_memory PutInForce = false
