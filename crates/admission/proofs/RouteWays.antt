-- Where a target leads: to a destination or to none, each by one way through the routing flow.
use Rattle.std.proofs.Common.{◌≡◌, ℕ, true, false, ◌&&◌, List, Option, Some, None, bytes_eq, nat_lt, refl, sym, ap, subst, ◌∙◌, true≢false}
use Rattle.std.specs.Cmp.Lexicographic.{same_text}
use Rattle.std.proofs.lemmas.Cmp.{nat_list_eq_equiv}
use Rattle.std.proofs.lemmas.Bool.{and_parts, and_from}
use Rattle.std.proofs.lemmas.Map.Views.{Contains-from_any, list_any-from_Contains}
use Rattle.gk_commands.specs.declared.commands.Command.{Command}
use Rattle.compiler.specs.Technology.{default_technology_of}
use Rattle.compiler.specs.Rows.{ZoneRow}
use Rattle.compiler.specs.Plan.{Target, RemoteZone, LocalZone, CallersZone, UnknownPrefix}
use Rattle.compiler.specs.Priority.{priority_of}
use Rattle.registry.specs.declared.endpoints.EndpointKind.{EndpointKind}
use Rattle.registry.specs.declared.endpoints.EndpointKind.TheVariants.{Gateway, Terminal}
use Rattle.registry.specs.Endpoint.{EndpointParts, has_alias, has_technology}
use Rattle.registry.specs.Registration.{by_alias}
use Rattle.registry.specs.Gateway.{is_gateway, serves, gateway_of, IsChosen}
use Rattle.rulings.specs.declared.routes.Destination.{Destination}
use Rattle.rulings.specs.declared.routes.Destination.TheVariants as destinations
use Rattle.rulings.specs.declared.routes.Route.TheVariants.{To, Refused}
use Rattle.rulings.specs.declared.routes.RouteRefusal.{RouteRefusal}
use Rattle.rulings.specs.declared.routes.RouteRefusal.TheVariants as refusals
use Rattle.rulings.specs.State.{State}
use Rattle.rulings.specs.Routing.{destination_of, to_gateway, by_default, by_alias_or_default, in_local_zone, route_of_target}
use Rattle.admission.specs.RouteLaws.{HasDigits, ReachesNone, IsToReach, Sent, Kept, prefixes_known, IsLedTo, Away, ByTechnology, ByAlias, ByDefault, IsLost, Rejected, WithoutTechnology, WithoutDefault, WithoutAlias}
use Rattle.registry.specs.GatewayLaws.{HasNoCandidate}
use Rattle.registry.proofs.GatewayLaws.{chosen_from_computed, none_computed}
use Rattle.admission.proofs.FirstLaws.{found_first, found_none}
use Rattle.admission.proofs.TargetLaws.{Means}

-- ---- endpoints
module _ (zone digits : List ℕ) where
  digits_told : (e : EndpointParts) → (bytes_eq e.zone zone && has_alias e digits) ≡ true
      → HasDigits zone digits e
  digits_told e h =
      let parts = and_parts (bytes_eq e.zone zone) (has_alias e digits) h in (
        same_text e.zone zone (sym parts.0),
        Contains-from_any (λ x y same. same_text x y (sym same))
            digits e.aliases parts.1,
      )

  digits_untold : (e : EndpointParts) → (bytes_eq e.zone zone && has_alias e digits) ≡ false
      → ¬ HasDigits zone digits e
  digits_untold e h has =
      let there : bytes_eq e.zone zone ≡ true = ap (bytes_eq e.zone) (sym has.0)
      ∙ nat_list_eq_equiv.refl e.zone in
      let alias : has_alias e digits ≡ true =
      list_any-from_Contains nat_list_eq_equiv digits e.aliases has.1 in
      true≢false (sym (and_from (bytes_eq e.zone zone) (has_alias e digits) there alias) ∙ h)

  reaches_none : (endpoints : List EndpointParts) → by_alias endpoints zone digits ≡ None
      → ReachesNone endpoints zone digits
  reaches_none endpoints h =
      found_none (λ e. bytes_eq e.zone zone && has_alias e digits) (HasDigits zone digits)
      digits_told digits_untold endpoints h

-- ---- gateways
module _ (commands : List Command) (endpoints : List EndpointParts) (zone prefix : List ℕ)
    (row : Option ZoneRow) where
  -- what is chosen is a gateway, so it is a destination as one
  as_gateway : (e : EndpointParts) → IsChosen commands endpoints zone prefix row e
      → destination_of e.kind e ≡ destinations.Gateway e.id e.address
  as_gateway e chosen = by e.kind refl
    where
      gateway : is_gateway e.kind ≡ true
      gateway =
          let serving = (and_parts (serves zone prefix e) (nat_lt 0 (priority_of commands row e.id))
          chosen.candidate).0 in
          let here = (and_parts (is_gateway e.kind && bytes_eq e.zone zone)
          (has_technology e prefix)
          serving).0 in
          (and_parts (is_gateway e.kind) (bytes_eq e.zone zone) here).0

      by : (kind : EndpointKind) → e.kind ≡ kind
          → destination_of kind e ≡ destinations.Gateway e.id e.address
      by Gateway same = refl
      by Terminal same = absurd (true≢false (sym gateway ∙ ap is_gateway same))

-- ---- routes
module _ (s : State) (caller digits : List ℕ) where
  -- a gateway of the zone, by the way that the prefix came about
  by_gateway : (zone prefix : List ℕ) (row : Option ZoneRow) (destination : Destination)
      → ((e : EndpointParts) → IsChosen s.commands s.endpoints zone prefix row e
      → IsLedTo s caller digits (destinations.Gateway e.id e.address))
      → (found : Option EndpointParts)
      → gateway_of s.commands s.endpoints zone prefix row ≡ found
      → to_gateway found ≡ To destination → IsLedTo s caller digits destination
  by_gateway zone prefix row destination way None e h =
      let impossible : ⊥ = cc in absurd impossible
  by_gateway zone prefix row destination way (Some found) e h =
      let chosen : IsChosen s.commands s.endpoints zone prefix row found =
      chosen_from_computed (priority_of s.commands row) s.endpoints zone prefix found e in
      let is : destination_of found.kind found ≡ destination = cc in
      let same = sym (as_gateway s.commands s.endpoints zone prefix row found chosen) ∙ is in
      subst (IsLedTo s caller digits) same (way found chosen)

  by_alias_led : (zone : List ℕ) (row : Option ZoneRow) (destination : Destination)
      → IsToReach (prefixes_known s) s.commands caller digits zone None row
      → (found : Option EndpointParts)
      → by_alias s.endpoints zone digits ≡ found
      → by_alias_or_default s.commands s.endpoints zone row found ≡ To destination
      → IsLedTo s caller digits destination
  by_alias_led zone row destination reach (Some found) e h =
      let is : destination_of found.kind found ≡ destination = cc in
      subst (IsLedTo s caller digits) is
      (ByAlias zone row found reach
      (found_first (λ e. bytes_eq e.zone zone && has_alias e digits) (HasDigits zone digits)
      (digits_told zone digits) (digits_untold zone digits) s.endpoints found e))
  by_alias_led zone row destination reach None e h =
      default (default_technology_of s.commands) refl h
    where
      default : (prefix : Option (List ℕ)) → default_technology_of s.commands ≡ prefix
          → by_default s.commands s.endpoints zone row prefix ≡ To destination
          → IsLedTo s caller digits destination
      default None f h = let impossible : ⊥ = cc in absurd impossible
      default (Some prefix) f h =
          by_gateway zone prefix row destination
          (λ found chosen. ByDefault zone prefix row found reach
          (reaches_none zone digits s.endpoints e) f chosen)
          (gateway_of s.commands s.endpoints zone prefix row) refl h

  in_zone_led : (zone : List ℕ) (row : Option ZoneRow) (destination : Destination)
      → (technology : Option (List ℕ))
      → IsToReach (prefixes_known s) s.commands caller digits zone technology row
      → in_local_zone s.commands s.endpoints zone row digits technology ≡ To destination
      → IsLedTo s caller digits destination
  in_zone_led zone row destination None reach h =
      by_alias_led zone row destination reach (by_alias s.endpoints zone digits) refl h
  in_zone_led zone row destination (Some prefix) reach h =
      by_gateway zone prefix row destination
      (λ found chosen. ByTechnology zone prefix row found reach chosen)
      (gateway_of s.commands s.endpoints zone prefix row) refl h

  pub led : (destination : Destination) (target : Target)
      → Means (prefixes_known s) s.commands digits target
      → route_of_target s.commands s.endpoints caller digits target ≡ To destination
      → IsLedTo s caller digits destination
  led destination (RemoteZone zone address) (technology, row, cost, priority, sent, kind) h =
      let is : destinations.Zone zone address ≡ destination = cc in
      subst (IsLedTo s caller digits) is
      (Away zone technology row address cost priority sent kind)
  led destination (LocalZone zone technology row) (sent, kind) h =
      in_zone_led zone row destination technology (Sent zone technology row sent kind) h
  led destination (CallersZone technology) (rest, looked, none, kept) h =
      in_zone_led caller None destination technology (Kept technology rest looked none kept) h
  led destination UnknownPrefix means h = let impossible : ⊥ = cc in absurd impossible

  -- ---- refusals
  without_gateway : (zone prefix : List ℕ) (row : Option ZoneRow) (refusal : RouteRefusal)
      → (HasNoCandidate s.commands s.endpoints zone prefix row
      → IsLost s caller digits refusals.NoGateway)
      → (found : Option EndpointParts)
      → gateway_of s.commands s.endpoints zone prefix row ≡ found
      → to_gateway found ≡ Refused refusal → IsLost s caller digits refusal
  without_gateway zone prefix row refusal way (Some found) e h =
      let impossible : ⊥ = cc in absurd impossible
  without_gateway zone prefix row refusal way None e h =
      let is : refusals.NoGateway ≡ refusal = cc in
      subst (IsLost s caller digits) is
      (way (none_computed (priority_of s.commands row) s.endpoints zone prefix e))

  by_alias_lost : (zone : List ℕ) (row : Option ZoneRow) (refusal : RouteRefusal)
      → IsToReach (prefixes_known s) s.commands caller digits zone None row
      → (found : Option EndpointParts)
      → by_alias s.endpoints zone digits ≡ found
      → by_alias_or_default s.commands s.endpoints zone row found ≡ Refused refusal
      → IsLost s caller digits refusal
  by_alias_lost zone row refusal reach (Some found) e h =
      let impossible : ⊥ = cc in absurd impossible
  by_alias_lost zone row refusal reach None e h =
      default (default_technology_of s.commands) refl h
    where
      default : (prefix : Option (List ℕ)) → default_technology_of s.commands ≡ prefix
          → by_default s.commands s.endpoints zone row prefix ≡ Refused refusal
          → IsLost s caller digits refusal
      default None f h =
          let is : refusals.NoDefault ≡ refusal = cc in
          subst (IsLost s caller digits) is
          (WithoutAlias zone row reach (reaches_none zone digits s.endpoints e) f)
      default (Some prefix) f h =
          without_gateway zone prefix row refusal
          (λ none. WithoutDefault zone prefix row reach (reaches_none zone digits s.endpoints e) f
          none) (gateway_of s.commands s.endpoints zone prefix row) refl h

  in_zone_lost : (zone : List ℕ) (row : Option ZoneRow) (refusal : RouteRefusal)
      → (technology : Option (List ℕ))
      → IsToReach (prefixes_known s) s.commands caller digits zone technology row
      → in_local_zone s.commands s.endpoints zone row digits technology ≡ Refused refusal
      → IsLost s caller digits refusal
  in_zone_lost zone row refusal None reach h =
      by_alias_lost zone row refusal reach (by_alias s.endpoints zone digits) refl h
  in_zone_lost zone row refusal (Some prefix) reach h =
      without_gateway zone prefix row refusal (λ none. WithoutTechnology zone prefix row reach none)
      (gateway_of s.commands s.endpoints zone prefix row) refl h

  pub lost : (refusal : RouteRefusal) (target : Target)
      → Means (prefixes_known s) s.commands digits target
      → route_of_target s.commands s.endpoints caller digits target ≡ Refused refusal
      → IsLost s caller digits refusal
  lost refusal (RemoteZone zone address) means h = let impossible : ⊥ = cc in absurd impossible
  lost refusal (LocalZone zone technology row) (sent, kind) h =
      in_zone_lost zone row refusal technology (Sent zone technology row sent kind) h
  lost refusal (CallersZone technology) (rest, looked, none, kept) h =
      in_zone_lost caller None refusal technology (Kept technology rest looked none kept) h
  lost refusal UnknownPrefix (technology, rest, looked, none, rejected) h =
      let is : refusals.UnknownPrefix ≡ refusal = cc in
      subst (IsLost s caller digits) is (Rejected technology rest looked none rejected)
