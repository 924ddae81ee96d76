-- One event is one step: its ruling, then the refusals by a count, then what the ruling changes.
use Rattle.std.specs.Prelude.{ℕ, ◌+◌, Bool, true, false, not, ◌&&◌, nat_lt, nat_le, List, length, Option, Some, None, if◌then◌else◌}
use Rattle.registry.specs.Endpoint.{EndpointParts}
use Rattle.gk_commands.specs.declared.commands.Command.{Command}
use Rattle.registry.specs.Registration.{with_endpoint, without_endpoint, is_registered, kept_zones}
use Rattle.bandwidth.specs.Calls.{with_call, without_call, with_changed}
use Rattle.std.specs.Option.{option_and_then}
use Rattle.rulings.specs.declared.replies.Reply.{Reply}
use Rattle.rulings.specs.declared.replies.Reply.TheVariants.{Registered, RegisterRefused, Unregistered, UnregisterRefused, Admitted, AdmitRefused, Changed, ChangeRefused, Released, ReleaseRefused, Reloaded, ReloadRefused}
use Rattle.rulings.specs.declared.rulings.Effect.{Effect}
use Rattle.rulings.specs.declared.rulings.Effect.TheVariants.{Nothing, Put, Remove, Open, Resize, Close, PutInForce}
use Rattle.rulings.specs.Ruling.{Ruling}
use Rattle.rulings.specs.declared.lacks.Lack.{Lack}
use Rattle.rulings.specs.declared.lacks.Lack.TheVariants.{Limit, Record}
use Rattle.rulings.specs.Lacks.{reply_without}
use Rattle.rulings.specs.State.{State, free_places}
use Rattle.rulings.specs.Events.{PlainEvent, Registering, Unregistering, Admitting, Answering, Changing, Releasing, Reloading, endpoint_asking, put_in_force}
use Rattle.rulings.specs.Ruling.{ruling_of}

-- ---- verdicts
abbrev pub is_granted : Reply → Bool
is_granted (Registered id zone) = true
is_granted (RegisterRefused id reason) = false
is_granted (Unregistered id) = true
is_granted (UnregisterRefused id reason) = false
is_granted (Admitted call destination units) = true
is_granted (AdmitRefused call reason) = false
is_granted (Changed call units) = true
is_granted (ChangeRefused call reason) = false
is_granted (Released call) = true
is_granted (ReleaseRefused call reason) = false
is_granted (Reloaded version) = true
is_granted (ReloadRefused reason) = false

-- every verdict is recorded but a refused release
abbrev pub is_recorded : Reply → Bool
is_recorded (Registered id zone) = true
is_recorded (RegisterRefused id reason) = true
is_recorded (Unregistered id) = true
is_recorded (UnregisterRefused id reason) = true
is_recorded (Admitted call destination units) = true
is_recorded (AdmitRefused call reason) = true
is_recorded (Changed call units) = true
is_recorded (ChangeRefused call reason) = true
is_recorded (Released call) = true
is_recorded (ReleaseRefused call reason) = false
is_recorded (Reloaded version) = true
is_recorded (ReloadRefused reason) = true

-- ---- what replaces a verdict
-- the free places of the record that are needed: to open a call, one more than for other entries,
-- for the entry of its release, which then needs none
abbrev pub places_needed : Effect → ℕ
places_needed Nothing = 1
places_needed (Put zone) = 1
places_needed (Remove id) = 1
places_needed (Open call) = 2
places_needed (Resize call id units) = 1
places_needed (Close call id) = 0
places_needed PutInForce = 1

-- a new endpoint would be registered, and there are as many as the limit allows
abbrev pub are_endpoints_full : State → EndpointParts → Reply → Bool
are_endpoints_full s e verdict =
    is_granted verdict && not (is_registered s.endpoints e.id)
    && nat_le s.limits.endpoints (length s.endpoints)

-- whether a ruling opens a call
abbrev pub opens_call : Effect → Bool
opens_call Nothing = false
opens_call (Put zone) = false
opens_call (Remove id) = false
opens_call (Open call) = true
opens_call (Resize call id units) = false
opens_call (Close call id) = false
opens_call PutInForce = false

-- a call would be opened, and as many are open as the limit allows
abbrev pub are_calls_full : State → Effect → Bool
are_calls_full s effect = opens_call effect && nat_le s.limits.calls (length s.calls)

-- the configuration was replaced as often as the limit allows
abbrev pub are_reloads_spent : State → Bool
are_reloads_spent s = nat_lt s.limits.reloads s.version

-- the record lacks the free places that the entry needs
abbrev pub lacks_places : State → Effect → Bool
lacks_places s effect = nat_lt (free_places s) (places_needed effect)

-- what is lacking, by whether a limit is met and whether the record lacks places
abbrev pub lack_if : Bool → Bool → Option Lack
lack_if true short = Some Limit
lack_if false true = Some Record
lack_if false false = None

-- what the event lacks, memory aside; a release lacks nothing
abbrev pub lack_of : State → PlainEvent → Ruling → Option Lack
lack_of s (Registering e) ruling =
    lack_if (are_endpoints_full s e ruling.verdict) (lacks_places s ruling.effect)
lack_of s (Unregistering id) ruling = lack_if false (lacks_places s ruling.effect)
lack_of s (Admitting id call digits units) ruling =
    lack_if (are_calls_full s ruling.effect) (lacks_places s ruling.effect)
lack_of s (Answering id call units) ruling =
    lack_if (are_calls_full s ruling.effect) (lacks_places s ruling.effect)
lack_of s (Changing id call units) ruling = lack_if false (lacks_places s ruling.effect)
lack_of s (Releasing id call) ruling = None
lack_of s (Reloading commands) ruling =
    lack_if (are_reloads_spent s) (lacks_places s ruling.effect)

-- the refusal by a count: endpoints-full, calls-full or reloads-spent, and else record-full
unfoldable pub count_refusal : State → PlainEvent → Ruling → Option Reply
count_refusal s event ruling = option_and_then (reply_without event) (lack_of s event ruling)

-- ---- what a ruling changes
-- the endpoint registered in the zone
abbrev pub with_registered : State → List ℕ → Option EndpointParts → State
with_registered s zone None = s
with_registered s zone (Some e) =
    record s { endpoints = with_endpoint s.endpoints (record e { zone = zone }) }

-- the commands in force as the next version, with those endpoints alone whose zone is local in
-- them; open calls stay as they are
abbrev pub with_commands : State → Option (List Command) → State
with_commands s None = s
with_commands s (Some commands) = record s {
  commands = commands;
  version = s.version + 1;
  endpoints = kept_zones commands s.endpoints;
}

abbrev pub with_effect : State → PlainEvent → Effect → State
with_effect s event Nothing = s
with_effect s event (Put zone) = with_registered s zone (endpoint_asking event)
with_effect s event (Remove id) = record s { endpoints = without_endpoint s.endpoints id }
with_effect s event (Open call) = record s { calls = with_call s.calls call }
with_effect s event (Resize call id units) =
    record s { calls = with_changed s.calls call units }
with_effect s event (Close call id) = record s { calls = without_call s.calls call }
with_effect s event PutInForce = with_commands s (put_in_force event)

-- one more verdict was recorded
abbrev pub with_count : State → State
with_count s = record s { records = s.records + 1 }

-- the state after a ruling that is recorded
unfoldable pub state_after : State → PlainEvent → Ruling → State
state_after s event ruling = with_count (with_effect s event ruling.effect)

-- ---- a step
-- a reply, whether it was recorded, and the state after it
pub record Outcome : Type 0 where
  pub reply : Reply
  pub recorded : Bool
  pub state : State

abbrev pub outcome_of : State → PlainEvent → Ruling → Option Reply → Outcome
outcome_of s event ruling (Some refusal) =
    record { reply = refusal; recorded = false; state = s }
outcome_of s event ruling None = record {
  reply = ruling.verdict;
  recorded = is_recorded ruling.verdict;
  state = if is_recorded ruling.verdict then state_after s event ruling else s;
}

unfoldable pub step : State → PlainEvent → Outcome
step s event =
    let ruling = ruling_of s event in
    outcome_of s event ruling (count_refusal s event ruling)
