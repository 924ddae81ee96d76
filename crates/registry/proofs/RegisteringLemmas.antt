-- What is known of an endpoint that may register, and of a registry after it did or has left.
use Rattle.std.proofs.Common.{◌≡◌, ℕ, suc, ◌+◌, ◌≤◌, Bool, true, false, not, cond, ◌||◌, ◌&&◌, nat_le, List, [], ◌∷◌, length, refl, sym, ap, ◌∙◌, arith}
use Rattle.std.specs.Prelude.{Option, Some, None, Result, Ok, Err, if◌then◌else◌}
use Rattle.std.specs.List.{position_or_len}
use Rattle.std.proofs.lemmas.Bool.{both_ways}
use Rattle.std.proofs.lemmas.Bool.Decides.{nat_tests}
use Rattle.gk_commands.specs.declared.commands.Command.{Command}
use Rattle.gk_commands.specs.Zones.{is_local}
use Rattle.compiler.specs.Zones.{zone_meant, local_zone}
use Rattle.registry.specs.declared.faults.Duplicate.TheVariants.{Id, E164}
use Rattle.registry.specs.declared.faults.PlacementFault.{PlacementFault}
use Rattle.registry.specs.declared.faults.PlacementFault.TheVariants.{UnknownZone, DuplicateAlias}
use Rattle.registry.specs.declared.faults.RegistryFault.TheVariants.{NotRegistered}
use Rattle.registry.specs.Endpoint.{EndpointParts}
use Rattle.registry.specs.Registration.{RegistryParts, placement_of, zone_unless, id_is_taken, alias_is_taken, without_endpoint, has_id, endpoint_of, unregistered_in, is_full_for, is_registered, with_endpoint}
use Rattle.registry.specs.Registering.{placement_among}
use Rattle.registry.proofs.FindLemmas.{found-some, found-none}
use Rattle.registry.proofs.IndexChanges.{put_at, put_later}

-- the three tests, as they came out
abbrev fault_by : Bool → Bool → Bool → Option PlacementFault
fault_by local id alias =
    if local
    then (if id then Some (DuplicateAlias Id)
    else (if alias then Some (DuplicateAlias E164) else None))
    else Some UnknownZone

pub placement_of_local : (commands : List Command) (endpoints : List EndpointParts)
    (e : EndpointParts)
    → placement_among endpoints e (local_zone commands e.zone)
    ≡ placement_of commands endpoints e
placement_of_local commands endpoints e =
    by (is_local commands (zone_meant commands e.zone)) (id_is_taken endpoints e)
    (alias_is_taken endpoints e)
  where
    found : Bool → Bool → Option (List ℕ) → Result (List ℕ) PlacementFault
    found id alias None = Err UnknownZone
    found id alias (Some zone) =
        if id then Err (DuplicateAlias Id)
        else (if alias then Err (DuplicateAlias E164) else Ok zone)

    by : (local id alias : Bool)
        → found id alias (if local then Some (zone_meant commands e.zone) else None)
        ≡ zone_unless (zone_meant commands e.zone) (fault_by local id alias)
    by false id alias = refl
    by true true alias = refl
    by true false true = refl
    by true false false = refl

-- no alias of an endpoint that may register is another's
pub free_if_placed : (commands : List Command) (endpoints : List EndpointParts)
    (e : EndpointParts) (zone : List ℕ) → placement_of commands endpoints e ≡ Ok zone
    → alias_is_taken endpoints e ≡ false
free_if_placed commands endpoints e zone placed =
    by (is_local commands (zone_meant commands e.zone)) (id_is_taken endpoints e)
    (alias_is_taken endpoints e) placed
  where
    by : (local id alias : Bool)
        → zone_unless (zone_meant commands e.zone) (fault_by local id alias) ≡ Ok zone
        → alias ≡ false
    by false id alias h = let impossible : ⊥ = cc in absurd impossible
    by true true alias h = let impossible : ⊥ = cc in absurd impossible
    by true false true h = let impossible : ⊥ = cc in absurd impossible
    by true false false h = refl

-- taking some out makes a list no longer
pub fewer : (id : List ℕ) (endpoints : List EndpointParts)
    → length (without_endpoint endpoints id) ≤ length endpoints
fewer id [] = omega arith
fewer id (e ∷ es) = by (has_id id e) (fewer id es)
  where
    by : (b : Bool) → length (without_endpoint es id) ≤ length es
        → length (cond (not b) (e ∷ without_endpoint es id) (without_endpoint es id))
        ≤ length (e ∷ es)
    by true rest = omega (arith, rest)
    by false rest = omega (arith, rest)

-- if none has the ID, none is taken out
all_kept : (id : List ℕ) (endpoints : List EndpointParts) → is_registered endpoints id ≡ false
    → without_endpoint endpoints id ≡ endpoints
all_kept id [] h = refl
all_kept id (e ∷ es) h = by (has_id id e) h (all_kept id es)
  where
    by : (b : Bool) → (b || is_registered es id) ≡ false
        → (is_registered es id ≡ false → without_endpoint es id ≡ es)
        → cond (not b) (e ∷ without_endpoint es id) (without_endpoint es id) ≡ e ∷ es
    by true none rest = absurd (both_ways true none refl)
    by false none rest = ap (λ xs. e ∷ xs) (rest none)

-- the endpoint was found, and the rest is left
pub unregistered : (r : RegistryParts) (id : List ℕ) (e : EndpointParts)
    (left : List EndpointParts) → endpoint_of r.endpoints id ≡ Some e
    → left ≡ without_endpoint r.endpoints id
    → unregistered_in r id ≡ Ok (record { endpoints = left; most = r.most })
unregistered r id e left found rest =
    ap (λ b. if b then Ok (record r { endpoints = without_endpoint r.endpoints id })
    else Err NotRegistered) (found-some (has_id id) r.endpoints e found)
    ∙ ap (λ xs. Ok (record { endpoints = xs; most = r.most })) (sym rest)

-- no endpoint was found, and nothing has changed
pub not_registered : (r : RegistryParts) (id : List ℕ) (left : List EndpointParts)
    → endpoint_of r.endpoints id ≡ None → left ≡ without_endpoint r.endpoints id
    → (record { endpoints = left; most = r.most } ≡ r) × (unregistered_in r id ≡ Err NotRegistered)
not_registered r id left none rest =
    let absent = found-none (has_id id) r.endpoints none in (
      ap (λ xs. record { endpoints = xs; most = r.most }) (rest ∙ all_kept id r.endpoints absent),
      ap (λ b. if b then Ok (record r { endpoints = without_endpoint r.endpoints id })
          else Err NotRegistered) absent,
    )

-- ---- how many there are
with_length : (e : EndpointParts) (endpoints : List EndpointParts)
    → length (with_endpoint endpoints e)
    ≡ cond (is_registered endpoints e.id) (length endpoints) (suc (length endpoints))
with_length e [] = refl
with_length e (f ∷ es) = by (has_id e.id f) (with_length e es)
  where
    one_more : (b : Bool) → suc (cond b (length es) (suc (length es)))
        ≡ cond b (suc (length es)) (suc (suc (length es)))
    one_more true = refl
    one_more false = refl

    by : (b : Bool)
        → length (with_endpoint es e)
        ≡ cond (is_registered es e.id) (length es) (suc (length es))
        → length (put_at e (f ∷ es) (cond (not b) (1 + position_or_len (has_id e.id) es) 0))
        ≡ cond (b || is_registered es e.id) (suc (length es)) (suc (suc (length es)))
    by true rest = refl
    by false rest =
        ap length (put_later e f es (position_or_len (has_id e.id) es))
        ∙ ap suc rest ∙ one_more (is_registered es e.id)

-- with room for it, the endpoint makes no more than there may be
pub fits : (r : RegistryParts) (e : EndpointParts) (zone : List ℕ)
    → length r.endpoints ≤ r.most → is_full_for r e ≡ false
    → length (with_endpoint r.endpoints (record e { zone = zone })) ≤ r.most
fits r e zone within room =
    by (is_registered r.endpoints e.id) (nat_le r.most (length r.endpoints)) refl room
    (with_length (record e { zone = zone }) r.endpoints)
  where
    by : (b full : Bool) → nat_le r.most (length r.endpoints) ≡ full → (not b && full) ≡ false
        → length (with_endpoint r.endpoints (record e { zone = zone }))
        ≡ cond b (length r.endpoints) (suc (length r.endpoints))
        → length (with_endpoint r.endpoints (record e { zone = zone })) ≤ r.most
    by true full known some long = omega (arith, long, within)
    by false true known none long = absurd (both_ways true none refl)
    by false false known none long = grind (arith, nat_tests)
