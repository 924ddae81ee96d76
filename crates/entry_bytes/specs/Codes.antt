-- Values that are one byte each: their codes, and what each code means.
use Rattle.std.specs.Prelude.{ℕ, ◌==◌, List, Option, Some, None, if◌then◌else◌}
use Rattle.gk_commands.specs.declared.commands.LimitKind.{LimitKind}
use Rattle.gk_commands.specs.declared.commands.LimitKind.TheVariants as limit
use Rattle.registry.specs.declared.endpoints.EndpointKind.{EndpointKind}
use Rattle.registry.specs.declared.endpoints.EndpointKind.TheVariants as endpoint
use Rattle.registry.specs.declared.faults.Duplicate.TheVariants.{Id, E164}
use Rattle.rulings.specs.declared.lent_routes.DestinationKind.{DestinationKind}
use Rattle.rulings.specs.declared.lent_routes.DestinationKind.TheVariants as destination
use Rattle.rulings.specs.declared.replies.RegisterRefusal.{RegisterRefusal}
use Rattle.rulings.specs.declared.replies.RegisterRefusal.TheVariants as register
use Rattle.rulings.specs.declared.replies.ReleaseRefusal.{ReleaseRefusal}
use Rattle.rulings.specs.declared.replies.ReleaseRefusal.TheVariants as release
use Rattle.rulings.specs.declared.replies.UnregisterRefusal.{UnregisterRefusal}
use Rattle.rulings.specs.declared.replies.UnregisterRefusal.TheVariants as unregister
use Rattle.rulings.specs.declared.routes.RouteRefusal.{RouteRefusal}
use Rattle.rulings.specs.declared.routes.RouteRefusal.TheVariants as route
use Rattle.field_bytes.specs.Fields.{◌>>=◌, byte_in}

-- a value of one byte, as this function reads it
abbrev pub coded_in : {A : Type 0} → (ℕ → Option A) → List ℕ → Option (A × List ℕ)
coded_in value bytes = byte_in bytes >>= λ code. value code.0 >>= λ x. Some (x, code.1)

-- ---- kinds
abbrev pub endpoint_kind_code : EndpointKind → ℕ
endpoint_kind_code endpoint.Gateway = 0
endpoint_kind_code endpoint.Terminal = 1

abbrev pub endpoint_kind_of : ℕ → Option EndpointKind
endpoint_kind_of code =
    if code == 0 then Some endpoint.Gateway
    else if code == 1 then Some endpoint.Terminal
    else None

abbrev pub destination_kind_code : DestinationKind → ℕ
destination_kind_code destination.Gateway = 0
destination_kind_code destination.Terminal = 1
destination_kind_code destination.Zone = 2

abbrev pub destination_kind_of : ℕ → Option DestinationKind
destination_kind_of code =
    if code == 0 then Some destination.Gateway
    else if code == 1 then Some destination.Terminal
    else if code == 2 then Some destination.Zone
    else None

-- 0 is left for what has no kind
abbrev pub limit_kind_code : LimitKind → ℕ
limit_kind_code limit.Session = 1
limit_kind_code limit.Total = 2
limit_kind_code limit.Interzone = 3

abbrev pub limit_kind_of : ℕ → Option LimitKind
limit_kind_of code =
    if code == 1 then Some limit.Session
    else if code == 2 then Some limit.Total
    else if code == 3 then Some limit.Interzone
    else None

-- ---- refusals
abbrev pub route_refusal_code : RouteRefusal → ℕ
route_refusal_code route.UnknownPrefix = 0
route_refusal_code route.NoGateway = 1
route_refusal_code route.NoDefault = 2

abbrev pub route_refusal_of : ℕ → Option RouteRefusal
route_refusal_of code =
    if code == 0 then Some route.UnknownPrefix
    else if code == 1 then Some route.NoGateway
    else if code == 2 then Some route.NoDefault
    else None

abbrev pub register_refusal_code : RegisterRefusal → ℕ
register_refusal_code register.UnknownZone = 0
register_refusal_code (register.DuplicateAlias Id) = 1
register_refusal_code (register.DuplicateAlias E164) = 2
register_refusal_code register.EndpointsFull = 3
register_refusal_code register.RecordFull = 4
register_refusal_code register.NoMemory = 5

abbrev pub register_refusal_of : ℕ → Option RegisterRefusal
register_refusal_of code =
    if code == 0 then Some register.UnknownZone
    else if code == 1 then Some (register.DuplicateAlias Id)
    else if code == 2 then Some (register.DuplicateAlias E164)
    else if code == 3 then Some register.EndpointsFull
    else if code == 4 then Some register.RecordFull
    else if code == 5 then Some register.NoMemory
    else None

abbrev pub unregister_refusal_code : UnregisterRefusal → ℕ
unregister_refusal_code unregister.NotRegistered = 0
unregister_refusal_code unregister.CallInProgress = 1
unregister_refusal_code unregister.RecordFull = 2
unregister_refusal_code unregister.NoMemory = 3

abbrev pub unregister_refusal_of : ℕ → Option UnregisterRefusal
unregister_refusal_of code =
    if code == 0 then Some unregister.NotRegistered
    else if code == 1 then Some unregister.CallInProgress
    else if code == 2 then Some unregister.RecordFull
    else if code == 3 then Some unregister.NoMemory
    else None

abbrev pub release_refusal_code : ReleaseRefusal → ℕ
release_refusal_code release.NotRegistered = 0
release_refusal_code release.NotYours = 1
release_refusal_code release.NoCall = 2

abbrev pub release_refusal_of : ℕ → Option ReleaseRefusal
release_refusal_of code =
    if code == 0 then Some release.NotRegistered
    else if code == 1 then Some release.NotYours
    else if code == 2 then Some release.NoCall
    else None
