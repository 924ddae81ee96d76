-- A list of endpoints: who is found, who may register, and what a registration changes.
use Rattle.std.specs.Prelude.{◌≡◌, ◌≤◌, ℕ, ◌+◌, ◌==◌, Bool, true, not, ◌&&◌, nat_le, List, ◌∷◌, ◌++◌, length, take, drop, slice_get, find, filter, Option, Some, None, Result, Ok, Err, bytes_eq, if◌then◌else◌}
use Rattle.std.specs.List.{list_any, position_or_len}
use Rattle.gk_terms.specs.Address.{AddressParts}
use Rattle.gk_commands.specs.declared.commands.Command.{Command}
use Rattle.gk_commands.specs.Zones.{is_local}
use Rattle.compiler.specs.Zones.{zone_meant}
use Rattle.registry.specs.declared.faults.Duplicate.{Duplicate}
use Rattle.registry.specs.declared.faults.Duplicate.TheVariants.{Id, E164}
use Rattle.registry.specs.declared.faults.PlacementFault.{PlacementFault}
use Rattle.registry.specs.declared.faults.PlacementFault.TheVariants.{UnknownZone, DuplicateAlias}
use Rattle.registry.specs.declared.faults.RegistryFault.{RegistryFault}
use Rattle.registry.specs.declared.faults.RegistryFault.TheVariants as registry
use Rattle.registry.specs.Endpoint.{EndpointParts, has_alias, share_alias}

-- the endpoint with this ID
abbrev pub has_id : List ℕ → EndpointParts → Bool
has_id id e = bytes_eq e.id id

abbrev pub endpoint_of : List EndpointParts → List ℕ → Option EndpointParts
endpoint_of endpoints id = find (has_id id) endpoints

-- whether an endpoint has this ID
abbrev pub is_registered : List EndpointParts → List ℕ → Bool
is_registered endpoints id = list_any (has_id id) endpoints

-- the endpoint of that zone with that alias
abbrev pub by_alias : List EndpointParts → List ℕ → List ℕ → Option EndpointParts
by_alias endpoints zone number = find (λ e. bytes_eq e.zone zone && has_alias e number) endpoints

abbrev pub same_address : AddressParts → AddressParts → Bool
same_address a b = bytes_eq a.ip b.ip && (a.port == b.port)

-- ---- who may register
-- this ID is registered from another address
abbrev pub id_is_taken : List EndpointParts → EndpointParts → Bool
id_is_taken endpoints e =
    list_any (λ f. has_id e.id f && not (same_address f.address e.address)) endpoints

-- an alias belongs to another endpoint, in whatever zone
abbrev pub alias_is_taken : List EndpointParts → EndpointParts → Bool
alias_is_taken endpoints e = list_any (λ f. not (has_id e.id f) && share_alias f e) endpoints

-- why an endpoint may not register, room aside: the first of three refusals, in the words of
-- whoever asks
abbrev pub registration_refusal : {A : Type 0} → A → (Duplicate → A) → List Command
    → List EndpointParts → EndpointParts → Option A
registration_refusal unknown_zone duplicate commands endpoints e =
    if is_local commands (zone_meant commands e.zone)
    then (if id_is_taken endpoints e then Some (duplicate Id)
    else (if alias_is_taken endpoints e then Some (duplicate E164) else None))
    else Some unknown_zone

-- the same in the words of a registry
abbrev pub registration_fault : List Command → List EndpointParts → EndpointParts
    → Option PlacementFault
registration_fault commands endpoints e =
    registration_refusal UnknownZone DuplicateAlias commands endpoints e

-- the zone, unless there is a fault
abbrev pub zone_unless : List ℕ → Option PlacementFault → Result (List ℕ) PlacementFault
zone_unless zone (Some fault) = Err fault
zone_unless zone None = Ok zone

-- the local zone in which an endpoint may register, room aside, or the fault
abbrev pub placement_of : List Command → List EndpointParts → EndpointParts
    → Result (List ℕ) PlacementFault
placement_of commands endpoints e =
    zone_unless (zone_meant commands e.zone) (registration_fault commands endpoints e)

-- ---- what changes
-- the endpoint in the place of the one with its ID, or else at the end
abbrev pub with_endpoint : List EndpointParts → EndpointParts → List EndpointParts
with_endpoint endpoints e =
    let place = position_or_len (has_id e.id) endpoints in
    take place endpoints ++ e ∷ drop (place + 1) endpoints

-- without the endpoint of this ID
abbrev pub without_endpoint : List EndpointParts → List ℕ → List EndpointParts
without_endpoint endpoints id = filter (λ e. not (has_id id e)) endpoints

-- the endpoints whose zone is a local one, in order
abbrev pub kept_zones : List Command → List EndpointParts → List EndpointParts
kept_zones commands endpoints = filter (λ e. is_local commands e.zone) endpoints

-- ---- a registry
-- the endpoints in order of registration, and how many there may be
pub record RegistryParts : Type 0 where
  pub endpoints : List EndpointParts
  pub most : ℕ

-- a new endpoint, and as many as there may be
abbrev pub is_full_for : RegistryParts → EndpointParts → Bool
is_full_for r e = not (is_registered r.endpoints e.id) && nat_le r.most (length r.endpoints)

-- why an endpoint may not register, in the words of a registry
abbrev pub registry_fault_of : PlacementFault → RegistryFault
registry_fault_of UnknownZone = registry.UnknownZone
registry_fault_of (DuplicateAlias duplicate) = registry.DuplicateAlias duplicate

-- the registry with the endpoint in this zone, if there is room, or the fault that was found before
abbrev pub registered_at : RegistryParts → EndpointParts → Result (List ℕ) PlacementFault
    → Result RegistryParts RegistryFault
registered_at r e (Err fault) = Err (registry_fault_of fault)
registered_at r e (Ok zone) =
    if is_full_for r e then Err registry.TooMany
    else Ok (record r { endpoints = with_endpoint r.endpoints (record e { zone = zone }) })

-- the registry after a registration: one of the three refusals, then room
abbrev pub registered_in : List Command → RegistryParts → EndpointParts
    → Result RegistryParts RegistryFault
registered_in commands r e = registered_at r e (placement_of commands r.endpoints e)

-- the registry after an unregistration
abbrev pub unregistered_in : RegistryParts → List ℕ → Result RegistryParts RegistryFault
unregistered_in r id =
    if is_registered r.endpoints id
    then Ok (record r { endpoints = without_endpoint r.endpoints id })
    else Err registry.NotRegistered

-- the registry with those endpoints alone whose zone is a local one
abbrev pub with_kept_zones : List Command → RegistryParts → RegistryParts
with_kept_zones commands r = record r { endpoints = kept_zones commands r.endpoints }

-- ---- what every registry keeps
-- endpoints with different IDs
abbrev pub HaveDifferentIds : List EndpointParts → Type 0
HaveDifferentIds endpoints =
    (e f : EndpointParts) (i j : ℕ)
    → slice_get endpoints i ≡ Some e → slice_get endpoints j ≡ Some f → e.id ≡ f.id → i ≡ j

-- no alias belongs to two of them
abbrev pub ShareNoAlias : List EndpointParts → Type 0
ShareNoAlias endpoints =
    (alias : List ℕ) (e f : EndpointParts) (i j : ℕ)
    → slice_get endpoints i ≡ Some e → slice_get endpoints j ≡ Some f
    → has_alias e alias ≡ true → has_alias f alias ≡ true → i ≡ j

pub record IsRegistry (r : RegistryParts) : Type 0 where
  pub different : HaveDifferentIds r.endpoints
  pub unshared : ShareNoAlias r.endpoints
  pub within : length r.endpoints ≤ r.most
