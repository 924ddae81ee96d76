-- Registered endpoints are in local zones, whatever is recorded.
use Rattle.std.proofs.Common.{◌≡◌, ◌+◌, Bool, true, false, not, cond, List, [], ◌∷◌, take, drop, Option, Some, None, refl, sym, ap, subst, ◌∙◌}
use Rattle.std.specs.Prelude.{flat_map}
use Rattle.std.specs.List.{All, position_or_len}
use Rattle.std.proofs.lemmas.List.Elements.{All-nil, All-cons, All-head, All-tail, All-append, All-take, All-drop, All-filter, filter_passes}
use Rattle.std.proofs.lemmas.Option.{none-some}
use Rattle.gk_commands.specs.declared.commands.Command.{Command}
use Rattle.gk_commands.specs.Zones.{is_local}
use Rattle.compiler.specs.Zones.{zone_meant}
use Rattle.registry.specs.Endpoint.{EndpointParts}
use Rattle.registry.specs.Learned.{prefixes_given}
use Rattle.registry.specs.Registration.{has_id, with_endpoint, kept_zones}
use Rattle.rulings.specs.declared.rulings.Effect.{Effect}
use Rattle.rulings.specs.declared.rulings.Effect.TheVariants.{Nothing, Put, Remove, Open, Resize, Close, PutInForce}
use Rattle.rulings.specs.State.{State, opening_of}
use Rattle.rulings.specs.Events.{PlainEvent, endpoint_asking, put_in_force}
use Rattle.rulings.specs.Ruling.{register_refusal, ruling_of}
use Rattle.rulings.specs.Step.{with_registered, with_commands, with_effect, state_after, step}
use Rattle.rulings.specs.Founded.{IsPlaceable, IsFounded}
use Rattle.entry_bytes.specs.Entry.{PlainEntry}
use Rattle.decision_record.specs.History.{IsLegal, replay}
use Rattle.admission.specs.HistoryLaws.{EndpointsAreLocal}
use Rattle.admission.proofs.FoundedLemmas.{founded}
use Rattle.admission.proofs.StepLemmas.{step_not_refused, step_state}

-- the endpoint is in a local zone
abbrev IsInLocalZone : List Command → EndpointParts → Type 0
IsInLocalZone commands e = is_local commands e.zone ≡ true

-- each of them is
abbrev AllAreLocal : List Command → List EndpointParts → Type 0
AllAreLocal commands endpoints = All (IsInLocalZone commands) endpoints

-- ---- lists of endpoints
-- an endpoint more, or in the place of another
with_one : (commands : List Command) (endpoints : List EndpointParts) (e : EndpointParts)
    → IsInLocalZone commands e → AllAreLocal commands endpoints
    → AllAreLocal commands (with_endpoint endpoints e)
with_one commands endpoints e here others =
    let place = position_or_len (has_id e.id) endpoints in
    All-append (IsInLocalZone commands) (take place endpoints) (e ∷ drop (place + 1) endpoints)
    (All-take (IsInLocalZone commands) place endpoints others)
    (All-cons (IsInLocalZone commands) e (drop (place + 1) endpoints) here
    (All-drop (IsInLocalZone commands) (place + 1) endpoints others))

-- none is left out
all_stay : (commands : List Command) (endpoints : List EndpointParts)
    → AllAreLocal commands endpoints → kept_zones commands endpoints ≡ endpoints
all_stay commands [] all = refl
all_stay commands (e ∷ endpoints) all =
    ap (λ t. cond t (e ∷ kept_zones commands endpoints) (kept_zones commands endpoints))
    (All-head (IsInLocalZone commands) e endpoints all)
    ∙ ap (λ es. e ∷ es)
    (all_stay commands endpoints (All-tail (IsInLocalZone commands) e endpoints all))

-- ---- registrations
-- a test was passed, or its fault would have come
passed : {A : Type 0} (t : Bool) (rest : Option A) (fault : A) → cond t rest (Some fault) ≡ None
    → t ≡ true
passed true rest fault h = refl
passed false rest fault h = absurd (none-some fault (sym h))

-- the zone that an endpoint means is a local one, if nothing refuses the endpoint
meant_is_local : (s : State) (e : EndpointParts) → register_refusal s e ≡ None
    → is_local s.commands (zone_meant s.commands e.zone) ≡ true
meant_is_local s e h = passed (is_local s.commands (zone_meant s.commands e.zone)) _ _ h

-- ---- whole records
effect_local : (s : State) (event : PlainEvent) (effect : Effect) → IsFounded s event effect
    → AllAreLocal s.commands s.endpoints
    → AllAreLocal (with_effect s event effect).commands (with_effect s event effect).endpoints
effect_local s event Nothing founded all = all
effect_local s event (Put zone) founded all = by (endpoint_asking event) founded
  where
    by : (asking : Option EndpointParts) → IsPlaceable s zone asking
        → AllAreLocal (with_registered s zone asking).commands
        (with_registered s zone asking).endpoints
    by None impossible = absurd impossible
    by (Some e) placeable =
        with_one s.commands s.endpoints (record e { zone = zone })
        (ap (is_local s.commands) placeable.1 ∙ meant_is_local s e placeable.0) all
effect_local s event (Remove id) founded all =
    All-filter (λ e. not (has_id id e)) (IsInLocalZone s.commands) s.endpoints all
effect_local s event (Open call) founded all = all
effect_local s event (Resize call id units) founded all = all
effect_local s event (Close call id) founded all = all
effect_local s event PutInForce founded all = by (put_in_force event)
  where
    by : (asked : Option (List Command))
        → AllAreLocal (with_commands s asked).commands (with_commands s asked).endpoints
    by None = all
    by (Some commands) =
        filter_passes (λ (e : EndpointParts). is_local commands e.zone) s.endpoints

step_local : (s : State) (event : PlainEvent) → (step s event).recorded ≡ true
    → AllAreLocal s.commands s.endpoints
    → AllAreLocal (step s event).state.commands (step s event).state.endpoints
unfolding state_after
step_local s event recorded all =
    subst (λ (t : State). AllAreLocal t.commands t.endpoints) (sym (step_state s event recorded))
    (effect_local s event (ruling_of s event).effect
    (founded s event (step_not_refused s event recorded)) all)

replay_local : (s : State) (entries : List PlainEntry) → IsLegal s entries
    → AllAreLocal s.commands s.endpoints
    → AllAreLocal (replay s entries).commands (replay s entries).endpoints
replay_local s [] legal all = all
replay_local s (e ∷ entries) legal all =
    replay_local (step s e.event).state entries legal.2 (step_local s e.event legal.1 all)

pub endpoints_are_local : EndpointsAreLocal
endpoints_are_local commands limits entries legal =
    let s = replay (opening_of commands limits) entries in
    let all = replay_local (opening_of commands limits) entries legal
    (All-nil (IsInLocalZone commands)) in
    let kept = all_stay s.commands s.endpoints all in
    record { local = all; all_kept = kept; all_learned = ap (flat_map prefixes_given) kept }
