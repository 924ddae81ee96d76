-- What every record says, whatever was asked: its admissions went where the configuration leads,
-- its grants keep the sums of their calls within the limits, its endpoints are in local zones, and
-- it never passes the limits of the run.
use Rattle.std.specs.Prelude.{◌≡◌, ◌≤◌, ◌<◌, ℕ, ◌+◌, IsTrue, List, [], ◌∷◌, ◌++◌, length, flat_map, Option, Some, None, Ok}
use Rattle.std.specs.List.{All, AllByRecursion}
use Rattle.gk_commands.specs.declared.commands.Command.{Command}
use Rattle.gk_commands.specs.Configuration.{Configuration}
use Rattle.gk_commands.specs.Reading.{reading_in}
use Rattle.gk_commands.specs.Zones.{is_local}
use Rattle.compiler.specs.Last.{last_in}
use Rattle.registry.specs.Endpoint.{EndpointParts}
use Rattle.registry.specs.Learned.{learned_prefixes, prefixes_given}
use Rattle.registry.specs.Registration.{endpoint_of, kept_zones}
use Rattle.bandwidth.specs.declared.open_call.OpenCall.{OpenCall}
use Rattle.bandwidth.specs.declared.over.Over.{Over}
use Rattle.bandwidth.specs.Calls.{call_of, without_call}
use Rattle.bandwidth.specs.FitLaws.{SumsAreWithin, IsAbove}
use Rattle.rulings.specs.declared.limits.Limits.{Limits}
use Rattle.rulings.specs.declared.routes.Destination.{Destination}
use Rattle.rulings.specs.declared.routes.Route.TheVariants.{To}
use Rattle.rulings.specs.declared.routes.RouteRefusal.{RouteRefusal}
use Rattle.rulings.specs.declared.replies.AdmitRefusal.{AdmitRefusal}
use Rattle.rulings.specs.declared.replies.AdmitRefusal.TheVariants as admit
use Rattle.rulings.specs.declared.replies.ChangeRefusal.{ChangeRefusal}
use Rattle.rulings.specs.declared.replies.ChangeRefusal.TheVariants as change
use Rattle.rulings.specs.declared.replies.Reply.{Reply}
use Rattle.rulings.specs.declared.replies.Reply.TheVariants.{Registered, RegisterRefused, Unregistered, UnregisterRefused, Admitted, AdmitRefused, Changed, ChangeRefused, Released, ReleaseRefused, Reloaded, ReloadRefused}
use Rattle.rulings.specs.State.{State, opening_of}
use Rattle.rulings.specs.Events.{PlainEvent, Admitting, Answering, Changing}
use Rattle.rulings.specs.Routing.{target_for, route_of}
use Rattle.rulings.specs.Ruling.{admitted_call, answered_call}
use Rattle.entry_bytes.specs.Entry.{PlainEntry}
use Rattle.decision_record.specs.History.{IsLegal, replay, generations_of}
use Rattle.admission.specs.RouteLaws.{IsRouted, IsUnrouted}

-- ---- routes
-- the entry is in the record, after these
abbrev pub StandsAfter : List PlainEntry → List PlainEntry → PlainEntry → Type 0
StandsAfter entries before e = (after : List PlainEntry) × (entries ≡ before ++ e ∷ after)

-- they are the commands of an accepted configuration
abbrev pub AreAccepted : List Command → Type 0
AreAccepted commands =
    (lines : List (List ℕ)) × ((configuration : Configuration)
    × (reading_in lines ≡ Ok configuration) × (commands ≡ configuration.commands))

-- if each configuration that was put in force was accepted: each granted admission of a record, for
-- the call and the bandwidth that were asked, went where its digits led, by the configuration that
-- was in force and the endpoints that were registered when it was asked
abbrev pub RecordedAdmissionsAreRouted : Type 0
RecordedAdmissionsAreRouted =
    (commands : List Command) (limits : Limits) (entries before : List PlainEntry) (e : PlainEntry)
    → AllByRecursion AreAccepted (generations_of commands entries)
    → IsLegal (opening_of commands limits) entries
    → StandsAfter entries before e
    → (call units : ℕ) (id digits : List ℕ) (replied_call granted : ℕ) (destination : Destination)
    → e.event ≡ Admitting id call digits units
    → e.reply ≡ Admitted replied_call destination granted
    → (replied_call ≡ call) × (granted ≡ units)
    × IsRouted (replay (opening_of commands limits) before) id digits destination

-- and each that was refused for its route had digits that led nowhere, for this reason
abbrev pub RecordedRefusalsAreUnrouted : Type 0
RecordedRefusalsAreUnrouted =
    (commands : List Command) (limits : Limits) (entries before : List PlainEntry) (e : PlainEntry)
    → AllByRecursion AreAccepted (generations_of commands entries)
    → IsLegal (opening_of commands limits) entries
    → StandsAfter entries before e
    → (call units : ℕ) (id digits : List ℕ) (replied_call : ℕ) (refusal : RouteRefusal)
    → e.event ≡ Admitting id call digits units
    → e.reply ≡ AdmitRefused replied_call (admit.NoRoute refusal)
    → (replied_call ≡ call)
    × IsUnrouted (replay (opening_of commands limits) before) id digits refusal

-- ---- bandwidth
-- the reply grants bandwidth that the call of this number did not have: it opens the call, or it
-- gives it more. An answer to a call that is open is granted too, and gives it nothing.
pub data IsGrant (s : State) (number units : ℕ) : Reply → Type 0 where
  ToOpen : (destination : Destination) → call_of s.calls number ≡ None
      → IsGrant s number units (Admitted number destination units)
  ToRaise : (held : OpenCall) → call_of s.calls number ≡ Some held → held.units < units
      → IsGrant s number units (Changed number units)

-- the call of this number is open with this bandwidth, and no sum of it is above its limit
pub record IsCallWithin (s : State) (number units : ℕ) : Type 0 where
  pub call : OpenCall
  pub is_open : call_of s.calls number ≡ Some call
  pub granted : call.units ≡ units
  pub within : SumsAreWithin s.commands s.calls call

-- no grant of a record leaves a sum of its call above its limit in force
abbrev pub RecordedGrantsAreWithin : Type 0
RecordedGrantsAreWithin =
    (commands : List Command) (limits : Limits) (entries before : List PlainEntry) (e : PlainEntry)
    (number units : ℕ)
    → IsLegal (opening_of commands limits) entries
    → StandsAfter entries before e
    → IsGrant (replay (opening_of commands limits) before) number units e.reply
    → IsCallWithin (replay (opening_of commands limits) (before ++ e ∷ [])) number units

-- and no call was given more while a sum of it stood above its limit already
abbrev pub RecordedRaisesWereWithin : Type 0
RecordedRaisesWereWithin =
    (commands : List Command) (limits : Limits) (entries before : List PlainEntry) (e : PlainEntry)
    (number units : ℕ) (held : OpenCall)
    → IsLegal (opening_of commands limits) entries
    → StandsAfter entries before e
    → e.reply ≡ Changed number units
    → call_of (replay (opening_of commands limits) before).calls number ≡ Some held
    → held.units < units
    → IsCallWithin (replay (opening_of commands limits) before) number held.units

-- the call for which an event asks bandwidth, as it would be: that of a registered caller to where
-- its digits lead, or that which a registered endpoint answers, if no call of its number is open;
-- or an open one
pub data Asks (s : State) : PlainEvent → OpenCall → Type 0 where
  ToBeAdmitted : (id digits : List ℕ) (call units : ℕ) (caller : EndpointParts)
      (destination : Destination)
      → endpoint_of s.endpoints id ≡ Some caller
      → route_of s.commands s.endpoints caller.zone digits ≡ To destination
      → call_of s.calls call ≡ None
      → Asks s (Admitting id call digits units)
      (admitted_call caller call units (target_for s.commands s.endpoints digits) destination)
  ToBeAnswered : (id : List ℕ) (call units : ℕ) (endpoint : EndpointParts)
      → endpoint_of s.endpoints id ≡ Some endpoint
      → call_of s.calls call ≡ None
      → Asks s (Answering id call units) (answered_call endpoint call units)
  ToBeChanged : (id : List ℕ) (call units : ℕ) (held : OpenCall)
      → call_of s.calls call ≡ Some held
      → Asks s (Changing id call units) (record held { units = units })

-- the sum that a refusal names, if it is one for a limit
abbrev pub sum_of_admission : AdmitRefusal → Option Over
sum_of_admission admit.CallerNotRegistered = None
sum_of_admission admit.CallOpen = None
sum_of_admission (admit.NoRoute refusal) = None
sum_of_admission (admit.OverLimit over) = Some over
sum_of_admission admit.CallsFull = None
sum_of_admission admit.RecordFull = None
sum_of_admission admit.NoMemory = None

abbrev pub sum_of_change : ChangeRefusal → Option Over
sum_of_change change.NoCall = None
sum_of_change change.NotYours = None
sum_of_change (change.OverLimit over) = Some over
sum_of_change change.RecordFull = None
sum_of_change change.NoMemory = None

abbrev pub sum_named : Reply → Option Over
sum_named (Registered id zone) = None
sum_named (RegisterRefused id reason) = None
sum_named (Unregistered id) = None
sum_named (UnregisterRefused id reason) = None
sum_named (Admitted call destination units) = None
sum_named (AdmitRefused call reason) = sum_of_admission reason
sum_named (Changed call units) = None
sum_named (ChangeRefused call reason) = sum_of_change reason
sum_named (Released call) = None
sum_named (ReleaseRefused call reason) = None
sum_named (Reloaded version) = None
sum_named (ReloadRefused reason) = None

-- the sum that is named would be above its limit, with the call that asks beside the others
pub record IsRefusedRightly (s : State) (event : PlainEvent) (over : Over) : Type 0 where
  pub call : OpenCall
  pub asks : Asks s event call
  pub above : IsAbove s.commands (without_call s.calls call.number) call over

-- each refusal of a record for a limit names a sum that would be above it
abbrev pub RecordedLimitsAreAbove : Type 0
RecordedLimitsAreAbove =
    (commands : List Command) (limits : Limits) (entries before : List PlainEntry) (e : PlainEntry)
    (over : Over)
    → IsLegal (opening_of commands limits) entries
    → StandsAfter entries before e
    → sum_named e.reply ≡ Some over
    → IsRefusedRightly (replay (opening_of commands limits) before) e.event over

-- ---- zones
-- the zone of each registered endpoint is a local zone of the commands in force, so that none is
-- left out where only endpoints of local zones count, and the learned prefixes are those of all
-- gateways
pub record AreInLocalZones (s : State) : Type 0 where
  pub local : All (λ (e : EndpointParts). IsTrue (is_local s.commands e.zone)) s.endpoints
  pub all_kept : kept_zones s.commands s.endpoints ≡ s.endpoints
  pub all_learned : learned_prefixes s.commands s.endpoints ≡ flat_map prefixes_given s.endpoints

-- every record leaves its endpoints so
abbrev pub EndpointsAreLocal : Type 0
EndpointsAreLocal =
    (commands : List Command) (limits : Limits) (entries : List PlainEntry)
    → IsLegal (opening_of commands limits) entries
    → AreInLocalZones (replay (opening_of commands limits) entries)

-- ---- limits
-- endpoints, calls and reloads are within their limits, and the record has room for its entries and
-- for one release of each open call
pub record IsWithinLimits (s : State) : Type 0 where
  pub endpoints : length s.endpoints ≤ s.limits.endpoints
  pub calls : length s.calls ≤ s.limits.calls
  pub records : s.records + length s.calls ≤ s.limits.records
  pub reloads : s.version ≤ s.limits.reloads + 1

-- what every record keeps: the commands in force are the last that were put in force, the version
-- is the number of those that were, the limits stay, its entries are counted, and no limit is
-- passed
pub record IsSound
    (commands : List Command) (limits : Limits) (entries : List PlainEntry) (s : State)
    : Type 0 where
  pub commands_are : Some s.commands ≡ last_in (generations_of commands entries)
  pub version_is : s.version ≡ length (generations_of commands entries)
  pub limits_are : s.limits ≡ limits
  pub records_are : s.records ≡ length entries
  pub within : IsWithinLimits s

abbrev pub RecordsAreSound : Type 0
RecordsAreSound =
    (commands : List Command) (limits : Limits) (entries : List PlainEntry)
    → IsLegal (opening_of commands limits) entries
    → IsSound commands limits entries (replay (opening_of commands limits) entries)
