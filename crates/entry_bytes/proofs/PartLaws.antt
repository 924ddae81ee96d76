-- What is added of an entry's parts reads back, whatever follows it.
use Rattle.std.proofs.Common.{◌≡◌, ℕ, List, ◌∷◌, ◌++◌, Option, Some, refl, ap, ◌∙◌}
use Rattle.bandwidth.specs.declared.over.Over.{Over}
use Rattle.bandwidth.specs.declared.over.Over.TheVariants as over
use Rattle.gk_commands.specs.declared.commands.LimitKind.{LimitKind}
use Rattle.gk_commands.specs.declared.commands.LimitKind.TheVariants as limit
use Rattle.gk_terms.specs.Address.{AddressParts}
use Rattle.gk_terms.specs.Name.{IsName}
use Rattle.registry.specs.declared.endpoints.EndpointKind.{EndpointKind}
use Rattle.registry.specs.declared.endpoints.EndpointKind.TheVariants as endpoint
use Rattle.registry.specs.declared.faults.Duplicate.TheVariants.{Id, E164}
use Rattle.registry.specs.Endpoint.{EndpointParts}
use Rattle.entry_bytes.specs.EndpointTexts.{endpoint_read, texts_of}
use Rattle.entry_bytes.proofs.EndpointTextLemmas.{endpoint_back}
use Rattle.rulings.specs.declared.lent_routes.DestinationKind.TheVariants as destination
use Rattle.rulings.specs.declared.replies.ChangeRefusal.{ChangeRefusal}
use Rattle.rulings.specs.declared.replies.ChangeRefusal.TheVariants as change
use Rattle.rulings.specs.declared.replies.RegisterRefusal.TheVariants as register
use Rattle.rulings.specs.declared.replies.ReleaseRefusal.TheVariants as release
use Rattle.rulings.specs.declared.replies.UnregisterRefusal.TheVariants as unregister
use Rattle.rulings.specs.declared.routes.RouteRefusal.TheVariants as route
use Rattle.field_bytes.specs.Fields.{◌>>=◌, ReadsBack, IsAddress, address_bytes, name_in, text_bytes}
use Rattle.field_bytes.proofs.FieldLaws.{name_back, address_back}
use Rattle.entry_bytes.specs.Codes as codes
use Rattle.entry_bytes.specs.Refusals.{IsChangeRefusal, IsOver, change_refusal_bytes, change_refusal_in, over_bytes, over_in}
use Rattle.entry_bytes.specs.EndpointBytes.{endpoint_bytes, endpoint_in}
use Rattle.entry_bytes.specs.Laws.{HasCodes}

-- ---- codes
pub endpoint_kinds : HasCodes codes.endpoint_kind_code codes.endpoint_kind_of
endpoint_kinds endpoint.Gateway = refl
endpoint_kinds endpoint.Terminal = refl

pub destination_kinds : HasCodes codes.destination_kind_code codes.destination_kind_of
destination_kinds destination.Gateway = refl
destination_kinds destination.Terminal = refl
destination_kinds destination.Zone = refl

pub limit_kinds : HasCodes codes.limit_kind_code codes.limit_kind_of
limit_kinds limit.Session = refl
limit_kinds limit.Total = refl
limit_kinds limit.Interzone = refl

pub route_refusals : HasCodes codes.route_refusal_code codes.route_refusal_of
route_refusals route.UnknownPrefix = refl
route_refusals route.NoGateway = refl
route_refusals route.NoDefault = refl

pub register_refusals : HasCodes codes.register_refusal_code codes.register_refusal_of
register_refusals register.UnknownZone = refl
register_refusals (register.DuplicateAlias Id) = refl
register_refusals (register.DuplicateAlias E164) = refl
register_refusals register.EndpointsFull = refl
register_refusals register.RecordFull = refl
register_refusals register.NoMemory = refl

pub unregister_refusals : HasCodes codes.unregister_refusal_code codes.unregister_refusal_of
unregister_refusals unregister.NotRegistered = refl
unregister_refusals unregister.CallInProgress = refl
unregister_refusals unregister.RecordFull = refl
unregister_refusals unregister.NoMemory = refl

pub release_refusals : HasCodes codes.release_refusal_code codes.release_refusal_of
release_refusals release.NotRegistered = refl
release_refusals release.NotYours = refl
release_refusals release.NoCall = refl

-- ---- refusals that may name a limit
abbrev zone_read : LimitKind → List ℕ × List ℕ → Option (Over × List ℕ)
zone_read kind zone = Some (over.Zone kind zone.0, zone.1)

zone_over : (kind : LimitKind) (zone rest : List ℕ) → IsName zone
    → (name_in (text_bytes zone ++ rest) >>= zone_read kind) ≡ zone_read kind (zone, rest)
zone_over kind zone rest is =
    ap (λ (read : Option (List ℕ × List ℕ)). read >>= zone_read kind) (name_back zone is rest)

pub over_back : (o : Over) → IsOver o → ReadsBack over_in o (over_bytes o)
over_back (over.Zone limit.Session zone) is rest = zone_over limit.Session zone rest is
over_back (over.Zone limit.Total zone) is rest = zone_over limit.Total zone rest is
over_back (over.Zone limit.Interzone zone) is rest = zone_over limit.Interzone zone rest is
over_back over.Remote is rest = refl

pub change_refusal_back : (refusal : ChangeRefusal) → IsChangeRefusal refusal
    → ReadsBack change_refusal_in refusal (change_refusal_bytes refusal)
change_refusal_back change.NoCall is rest = refl
change_refusal_back change.NotYours is rest = refl
change_refusal_back change.RecordFull is rest = refl
change_refusal_back change.NoMemory is rest = refl
change_refusal_back (change.OverLimit o) is rest =
    ap (λ (read : Option (Over × List ℕ)). read >>= λ o. Some (change.OverLimit o.0, o.1))
    (over_back o is rest)

-- ---- endpoints
endpoint_from : (kind : EndpointKind) (a : AddressParts) (texts : List ℕ) → IsAddress a
    → endpoint_in ((codes.endpoint_kind_code kind ∷ address_bytes a) ++ texts)
    ≡ Some (endpoint_read kind a texts)
endpoint_from endpoint.Gateway a texts is =
    ap
    (λ (read : Option (AddressParts × List ℕ)).
    read >>= λ address. Some (endpoint_read endpoint.Gateway address.0 address.1))
    (address_back a is texts)
endpoint_from endpoint.Terminal a texts is =
    ap
    (λ (read : Option (AddressParts × List ℕ)).
    read >>= λ address. Some (endpoint_read endpoint.Terminal address.0 address.1))
    (address_back a is texts)

pub endpoint_bytes_back : (e : EndpointParts) → IsAddress e.address
    → endpoint_in (endpoint_bytes e) ≡ Some e
endpoint_bytes_back e is =
    endpoint_from e.kind e.address (texts_of e) is
    ∙ ap (λ (v : EndpointParts). Some v) (endpoint_back e)
