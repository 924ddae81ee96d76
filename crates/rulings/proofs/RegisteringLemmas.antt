-- A registration that is carried out.
use Rattle.std.proofs.Common.{◌≡◌, Bool, true, false, cond, List, None, refl, ap}
use Rattle.std.specs.Prelude.{ℕ, Option, Ok, Err, Some, if◌then◌else◌}
use Rattle.registry.specs.Endpoint.{EndpointParts}
use Rattle.registry.specs.Registration.{RegistryParts, placement_of, zone_unless, is_registered, id_is_taken, alias_is_taken, without_endpoint, unregistered_in}
use Rattle.registry.specs.declared.faults.PlacementFault.{PlacementFault}
use Rattle.registry.specs.declared.faults.PlacementFault.TheVariants as faults
use Rattle.registry.specs.declared.faults.RegistryFault.TheVariants.{NotRegistered}
use Rattle.registry.specs.declared.faults.Duplicate.TheVariants.{Id, E164}
use Rattle.gk_commands.specs.Zones.{is_local}
use Rattle.compiler.specs.Zones.{zone_meant}
use Rattle.rulings.specs.State.{State}
use Rattle.rulings.specs.Ruling.{register_refusal}
use Rattle.rulings.specs.Refusals.{refusal_of}
use Rattle.rulings.specs.declared.replies.RegisterRefusal.{RegisterRefusal}
use Rattle.rulings.specs.declared.replies.RegisterRefusal.TheVariants as register

pub unregisters : (r : RegistryParts) (id : List ℕ) → is_registered r.endpoints id ≡ true
    → unregistered_in r id ≡ Ok (record r { endpoints = without_endpoint r.endpoints id })
unregisters r id h =
    ap (λ t. cond t (Ok (record r { endpoints = without_endpoint r.endpoints id }))
    (Err NotRegistered)) h

-- ---- what a registry says of a registration, in the words of a reply
module _ (s : State) (e : EndpointParts) where
  -- the three tests as they came out, in the words of a registry and in those of a reply
  abbrev fault_by : Bool → Bool → Bool → Option PlacementFault
  fault_by local same taken =
      if local then
      (if same then Some (faults.DuplicateAlias Id) else
      (if taken then Some (faults.DuplicateAlias E164) else None))
      else Some faults.UnknownZone

  abbrev refusal_by : Bool → Bool → Bool → Option RegisterRefusal
  refusal_by local same taken =
      if local then
      (if same then Some (register.DuplicateAlias Id) else
      (if taken then Some (register.DuplicateAlias E164) else None))
      else Some register.UnknownZone

  -- it may be registered in the zone that it means, and nothing refuses it
  pub placed : (zone : List ℕ) → placement_of s.commands s.endpoints e ≡ Ok zone
      → (register_refusal s e ≡ None) × (zone ≡ zone_meant s.commands e.zone)
  placed zone h =
      by (is_local s.commands (zone_meant s.commands e.zone)) (id_is_taken s.endpoints e)
      (alias_is_taken s.endpoints e) h
    where
      by : (local same taken : Bool)
          → zone_unless (zone_meant s.commands e.zone) (fault_by local same taken) ≡ Ok zone
          → (refusal_by local same taken ≡ None) × (zone ≡ zone_meant s.commands e.zone)
      by false same taken h = let impossible : ⊥ = cc in absurd impossible
      by true true taken h = let impossible : ⊥ = cc in absurd impossible
      by true false true h = let impossible : ⊥ = cc in absurd impossible
      by true false false h = (refl, cc)

  -- it has a fault, which is a refusal
  pub refused_as : (fault : PlacementFault) → placement_of s.commands s.endpoints e ≡ Err fault
      → register_refusal s e ≡ Some (refusal_of fault)
  refused_as fault h =
      by (is_local s.commands (zone_meant s.commands e.zone)) (id_is_taken s.endpoints e)
      (alias_is_taken s.endpoints e) h
    where
      known : (found : PlacementFault)
          → zone_unless (zone_meant s.commands e.zone) (Some found) ≡ Err fault
          → Some (refusal_of found) ≡ Some (refusal_of fault)
      known found is =
          let same : found ≡ fault = cc in ap (λ f. Some (refusal_of f)) same

      by : (local same taken : Bool)
          → zone_unless (zone_meant s.commands e.zone) (fault_by local same taken) ≡ Err fault
          → refusal_by local same taken ≡ Some (refusal_of fault)
      by false same taken h = known faults.UnknownZone h
      by true true taken h = known (faults.DuplicateAlias Id) h
      by true false true h = known (faults.DuplicateAlias E164) h
      by true false false h = let impossible : ⊥ = cc in absurd impossible

  -- no alias is another endpoint's, if nothing refuses it
  pub not_taken : register_refusal s e ≡ None → alias_is_taken s.endpoints e ≡ false
  not_taken h =
      by (is_local s.commands (zone_meant s.commands e.zone)) (id_is_taken s.endpoints e)
      (alias_is_taken s.endpoints e) h
    where
      by : (local same taken : Bool) → refusal_by local same taken ≡ None → taken ≡ false
      by false same taken h = let impossible : ⊥ = cc in absurd impossible
      by true true taken h = let impossible : ⊥ = cc in absurd impossible
      by true false true h = let impossible : ⊥ = cc in absurd impossible
      by true false false h = refl
