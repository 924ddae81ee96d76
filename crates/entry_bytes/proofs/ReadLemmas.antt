-- What is known of an endpoint that is read.
use Rattle.std.proofs.Common.{◌≡◌, List, ℕ, Option, Some, None, refl, subst}
use Rattle.std.specs.Prelude.{IfSome}
use Rattle.entry_bytes.specs.EndpointTexts.{IsWhole}
use Rattle.registry.specs.Endpoint.{EndpointParts}
use Rattle.rulings.specs.Events.{PlainEvent, Registering}
use Rattle.field_bytes.specs.Fields.{◌>>=◌}
use Rattle.entry_bytes.specs.EndpointBytes.{endpoint_in}
use Rattle.entry_bytes.specs.EventBytes.{registering_in}
use Rattle.entry_bytes.specs.Entry.{entry_told}
use Rattle.entry_bytes.specs.ReadEvent.{HasRightEndpoint}
use Rattle.entry_bytes.specs.declared.verdicts.Verdict.{Verdict}
use Rattle.entry_bytes.specs.declared.verdicts.Verdict.TheVariants as verdict

endpoint_of : (read : Option EndpointParts)
    → IfSome (read >>= λ e. Some (Registering e)) HasRightEndpoint → IfSome read IsWhole
endpoint_of None right = tt
endpoint_of (Some e) right = right

-- the endpoint of a registration is whole
pub whole_endpoint : (bytes : List ℕ) → IfSome (registering_in bytes) HasRightEndpoint
    → IfSome (endpoint_in bytes) IsWhole
whole_endpoint bytes right = endpoint_of (endpoint_in bytes) right

-- an entry has its event
told_event : (event : PlainEvent) (v : Verdict) → (entry_told event v).event ≡ event
told_event event (verdict.Registered zone) = refl
told_event event (verdict.RegisterRefused reason) = refl
told_event event verdict.Unregistered = refl
told_event event (verdict.UnregisterRefused reason) = refl
told_event event (verdict.Admitted zone k name address) = refl
told_event event (verdict.Answering zone k address) = refl
told_event event (verdict.Repeated zone units k name address) = refl
told_event event verdict.CallerNotRegistered = refl
told_event event (verdict.CallOpen zone) = refl
told_event event (verdict.NoRoute zone refusal) = refl
told_event event (verdict.OverLimit zone k name address over) = refl
told_event event verdict.Changed = refl
told_event event (verdict.ChangeRefused reason) = refl
told_event event verdict.Released = refl
told_event event (verdict.ReleaseRefused reason) = refl
told_event event (verdict.Reloaded version) = refl

-- the event of an entry has a right endpoint
pub right_event : (v : Verdict) (read : Option PlainEvent)
    → IfSome (read >>= λ e. Some (entry_told e v)) (λ e. HasRightEndpoint e.event)
    → IfSome read HasRightEndpoint
right_event v None right = tt
right_event v (Some e) right = subst HasRightEndpoint (told_event e v) right
