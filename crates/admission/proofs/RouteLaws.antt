-- How calls are routed: each reply to an admission comes of one way through the routing flow.
use Rattle.std.proofs.Common.{◌≡◌, ◌≢◌, ℕ, ◌+◌, Bool, true, false, not, cond, ◌||◌, List, [], ◌∷◌, find, Option, Some, None, Result, Ok, Err, map, is_some, refl, sym, ap, subst, ◌∙◌, true≢false}
use Rattle.std.specs.List.{All, list_any}
use Rattle.std.proofs.lemmas.List.Elements.{All-nil, All-cons}
use Rattle.std.proofs.lemmas.Option.{none-some}
use Rattle.gk_commands.specs.declared.faults.LineFault.{LineFault}
use Rattle.gk_commands.specs.declared.commands.Command.{Command}
use Rattle.gk_commands.specs.Zones.{is_declared, named_by, first_local_of}
use Rattle.gk_commands.specs.Configuration.{Configuration}
use Rattle.gk_commands.specs.Progress.{NumberedCommand, Progress, commands_in, line_count}
use Rattle.gk_commands.specs.Reading.{names_unknown, unknown_zone, zones_checked, finished, finished_of, fault_at, lines_after, nothing_read, reading_in}
use Rattle.gk_commands.specs.declared.faults.FaultKind.TheVariants.{NoLocalZone}
use Rattle.registry.specs.Endpoint.{EndpointParts}
use Rattle.registry.specs.Registration.{endpoint_of}
use Rattle.registry.specs.Learned.{learned_prefixes}
use Rattle.bandwidth.specs.Calls.{is_open}
use Rattle.rulings.specs.declared.routes.Destination.{Destination}
use Rattle.rulings.specs.declared.routes.Route.{Route}
use Rattle.rulings.specs.declared.routes.Route.TheVariants.{To, Refused}
use Rattle.rulings.specs.declared.routes.RouteRefusal.{RouteRefusal}
use Rattle.rulings.specs.declared.replies.AdmitRefusal.TheVariants.{CallerNotRegistered, CallOpen, NoRoute}
use Rattle.rulings.specs.declared.replies.Reply.{Reply}
use Rattle.rulings.specs.declared.replies.Reply.TheVariants.{Admitted, AdmitRefused}
use Rattle.rulings.specs.State.{State}
use Rattle.rulings.specs.Routing.{route_of_target, target_for, route_of}
use Rattle.rulings.specs.Events.{Admitting}
use Rattle.rulings.specs.Ruling.{admitted_call, admission_unless, admission_to, call_open_ruling, admission_ruling, ruling_of, verdict_of}
use Rattle.bandwidth.specs.declared.open_call.OpenCall.{OpenCall}
use Rattle.bandwidth.specs.declared.over.Over.{Over}
use Rattle.bandwidth.specs.Fits.{over_of}
use Rattle.registry.specs.Registration.{has_id}
use Rattle.admission.specs.RouteLaws.{prefixes_known, IsRouted, IsUnrouted, AdmissionsAreRouted, RefusalsAreUnrouted, StrangersAreRefused, OpenNumbersAreRefused}
use Rattle.compiler.proofs.PickLemmas.{pick_is_order}
use Rattle.admission.proofs.FirstLaws.{nothing}
use Rattle.admission.proofs.RouteWays.{led, lost}
use Rattle.admission.proofs.TargetLaws.{NamesDeclared, Means, plan_means}

-- ---- an accepted configuration declares each zone that it names
known : (all names : List (List ℕ)) (is : List ℕ → Bool)
    → list_any (λ name. not (is name)) names ≡ false → All (λ name. is name ≡ true) names
known all [] is h = All-nil (λ name. is name ≡ true)
known all (name ∷ names) is h = by (is name) refl (known all names is) h
  where
    by : (t : Bool) → is name ≡ t
        → (list_any (λ name. not (is name)) names ≡ false → All (λ name. is name ≡ true) names)
        → (not t || list_any (λ name. not (is name)) names) ≡ false
        → All (λ name. is name ≡ true) (name ∷ names)
    by true e rest h = All-cons (λ name. is name ≡ true) name names e (rest h)
    by false e rest h = absurd (true≢false h)

declared_in : (all commands : List Command) → find (names_unknown all) commands ≡ None
    → NamesDeclared all commands
declared_in all [] h =
    All-nil (λ command. All (λ name. is_declared all name ≡ true) (named_by command))
declared_in all (command ∷ commands) h =
    by (names_unknown all command) refl (declared_in all commands) h
  where
    by : (t : Bool) → names_unknown all command ≡ t
        → (find (names_unknown all) commands ≡ None → NamesDeclared all commands)
        → cond t (Some command) (find (names_unknown all) commands) ≡ None
        → NamesDeclared all (command ∷ commands)
    by true e rest h = absurd (none-some command (sym h))
    by false e rest h =
        All-cons (λ command. All (λ name. is_declared all name ≡ true) (named_by command)) command
        commands (known [] (named_by command) (is_declared all) e) (rest h)

unnumbered : (p : Command → Bool) (kept : List NumberedCommand)
    → find (λ n. p n.command) kept ≡ None → find p (map (λ n. n.command) kept) ≡ None
unnumbered p [] h = refl
unnumbered p (n ∷ kept) h = by (p n.command) (unnumbered p kept) h
  where
    by : (t : Bool)
        → (find (λ n. p n.command) kept ≡ None → find p (map (λ n. n.command) kept) ≡ None)
        → cond t (Some n) (find (λ n. p n.command) kept) ≡ None
        → cond t (Some n.command) (find p (map (λ n. n.command) kept)) ≡ None
    by true rest h = cc
    by false rest h = rest h

finished_declares : (read : Progress) (configuration : Configuration)
    → finished read ≡ Ok configuration → NamesDeclared configuration.commands configuration.commands
finished_declares read configuration h = by (unknown_zone read) refl h
  where
    local : (t : Bool)
        → cond t (Ok (record { commands = commands_in read; passed = read.passed }))
        (Err (fault_at (line_count read + 1) NoLocalZone)) ≡ Ok configuration
        → commands_in read ≡ configuration.commands
    local true h = cc
    local false h = cc

    by : (unknown : Option LineFault) → unknown_zone read ≡ unknown
        → zones_checked read unknown ≡ Ok configuration
        → NamesDeclared configuration.commands configuration.commands
    by (Some fault) e h = let impossible : ⊥ = cc in absurd impossible
    by None e h =
        let known = unnumbered (names_unknown (commands_in read)) read.kept (nothing _ _ e) in
        subst (λ (commands : List Command). NamesDeclared commands commands)
        (local (is_some (first_local_of (commands_in read))) h)
        (declared_in (commands_in read) (commands_in read) known)

accepted_declares : (lines : List (List ℕ)) (configuration : Configuration)
    → reading_in lines ≡ Ok configuration
    → NamesDeclared configuration.commands configuration.commands
accepted_declares lines configuration h = by (lines_after nothing_read lines) h
  where
    by : (r : Result Progress LineFault) → finished_of r ≡ Ok configuration
        → NamesDeclared configuration.commands configuration.commands
    by (Err fault) h = let impossible : ⊥ = cc in absurd impossible
    by (Ok read) h = finished_declares read configuration h

-- ---- verdicts
route_is : (s : State) (caller digits : List ℕ)
    → route_of s.commands s.endpoints caller digits
    ≡ route_of_target s.commands s.endpoints caller digits
    (target_for s.commands s.endpoints digits)
unfolding route_of
route_is s caller digits = refl

verdict_is : (s : State) (call units : ℕ) (id digits : List ℕ)
    → verdict_of s (Admitting id call digits units)
    ≡ (admission_ruling s call digits units (endpoint_of s.endpoints id)).verdict
unfolding ruling_of
verdict_is s call units id digits = refl

-- ---- admissions to a destination
module _ (zone : List ℕ) (reached : Destination) (admitted : OpenCall) (replied_call : ℕ) where
  -- one that is granted is what was asked
  pub to_granted : (granted : ℕ) (destination : Destination) (over : Option Over)
      → (admission_unless zone reached admitted over).verdict
      ≡ Admitted replied_call destination granted
      → (replied_call ≡ admitted.number) × (granted ≡ admitted.units) × (reached ≡ destination)
  to_granted granted destination None h = (cc, cc, cc)
  to_granted granted destination (Some over) h = let impossible : ⊥ = cc in absurd impossible

  -- one that is refused has a route, a caller, and a number that is not open
  to_has_route : (refusal : RouteRefusal) (over : Option Over)
      → (admission_unless zone reached admitted over).verdict
      ≡ AdmitRefused replied_call (NoRoute refusal) → ⊥
  to_has_route refusal None h = cc
  to_has_route refusal (Some over) h = cc

  pub to_has_caller : (over : Option Over)
      → (admission_unless zone reached admitted over).verdict
      ≡ AdmitRefused replied_call CallerNotRegistered → ⊥
  to_has_caller None h = cc
  to_has_caller (Some over) h = cc

  pub to_has_number : (over : Option Over)
      → (admission_unless zone reached admitted over).verdict
      ≡ AdmitRefused replied_call CallOpen → ⊥
  to_has_number None h = cc
  to_has_number (Some over) h = cc

-- ---- admissions of a registered caller
module _ (s : State) (call units : ℕ) (digits : List ℕ) (caller : EndpointParts) where
  abbrev verdict_to : Route → Reply
  verdict_to route =
      (admission_to s caller call units (target_for s.commands s.endpoints digits) route).verdict

  abbrev asked_call : Destination → OpenCall
  asked_call destination =
      admitted_call caller call units (target_for s.commands s.endpoints digits) destination

  abbrev over_there : Destination → Option Over
  over_there destination = over_of s.commands s.calls (asked_call destination)

  -- no verdict but call-open comes of an open number
  by_route : (verdict : Reply) → verdict ≢ AdmitRefused call CallOpen
      → (admission_ruling s call digits units (Some caller)).verdict ≡ verdict
      → verdict_to (route_of s.commands s.endpoints caller.zone digits) ≡ verdict
  by_route verdict other h = by (is_open s.calls call) h
    where
      by : (t : Bool)
          → (cond t (call_open_ruling caller call)
          (admission_to s caller call units (target_for s.commands s.endpoints digits)
          (route_of s.commands s.endpoints caller.zone digits))).verdict
          ≡ verdict
          → verdict_to (route_of s.commands s.endpoints caller.zone digits) ≡ verdict
      by true h = absurd (other (sym h))
      by false h = h

  route_has_caller : (route : Route)
      → verdict_to route ≡ AdmitRefused call CallerNotRegistered → ⊥
  route_has_caller (Refused reason) h = cc
  route_has_caller (To destination) h =
      to_has_caller caller.zone destination (asked_call destination) call (over_there destination) h

  route_has_number : (route : Route) → verdict_to route ≡ AdmitRefused call CallOpen → ⊥
  route_has_number (Refused reason) h = cc
  route_has_number (To destination) h =
      to_has_number caller.zone destination (asked_call destination) call (over_there destination) h

  -- call-open comes exactly of an open number
  opens_as : (admission_ruling s call digits units (Some caller)).verdict
      ≡ AdmitRefused call CallOpen → is_open s.calls call ≡ true
  opens_as h = by (is_open s.calls call) refl h
    where
      by : (t : Bool) → is_open s.calls call ≡ t
          → (cond t (call_open_ruling caller call)
          (admission_to s caller call units (target_for s.commands s.endpoints digits)
          (route_of s.commands s.endpoints caller.zone digits))).verdict
          ≡ AdmitRefused call CallOpen
          → is_open s.calls call ≡ true
      by true same h = same
      by false same h =
          absurd (route_has_number (route_of s.commands s.endpoints caller.zone digits) h)

  is_refused_as_open : is_open s.calls call ≡ true
      → (admission_ruling s call digits units (Some caller)).verdict ≡ AdmitRefused call CallOpen
  is_refused_as_open same =
      ap (λ t. (cond t (call_open_ruling caller call)
      (admission_to s caller call units (target_for s.commands s.endpoints digits)
      (route_of s.commands s.endpoints caller.zone digits))).verdict) same

-- ---- laws
accepted_state : (lines : List (List ℕ)) (configuration : Configuration) (s : State)
    → reading_in lines ≡ Ok configuration → s.commands ≡ configuration.commands
    → NamesDeclared s.commands s.commands
accepted_state lines configuration s accepted same =
    subst (λ (l : List Command). NamesDeclared l l) (sym same)
    (accepted_declares lines configuration accepted)

-- what the target of the digits says of them
target_means : (s : State) (declared : NamesDeclared s.commands s.commands) (digits : List ℕ)
    → Means (prefixes_known s) s.commands digits (target_for s.commands s.endpoints digits)
target_means s declared digits =
    plan_means (learned_prefixes s.commands s.endpoints) s.commands (pick_is_order s.commands)
    declared digits

module _ (s : State) (declared : NamesDeclared s.commands s.commands) (call units : ℕ)
    (id digits : List ℕ) (replied_call : ℕ) where
  granted_by : (granted : ℕ) (destination : Destination) (caller : EndpointParts)
      → endpoint_of s.endpoints id ≡ Some caller → (route : Route)
      → route_of s.commands s.endpoints caller.zone digits ≡ route
      → verdict_to s call units digits caller route ≡ Admitted replied_call destination granted
      → (replied_call ≡ call) × (granted ≡ units) × IsRouted s id digits destination
  granted_by granted destination caller there (Refused reason) e h =
      let impossible : ⊥ = cc in absurd impossible
  granted_by granted destination caller there (To reached) e h =
      let is = to_granted caller.zone reached (asked_call s call units digits caller reached)
      replied_call granted destination (over_there s call units digits caller reached) h in
      let goes = sym (route_is s caller.zone digits) ∙ e ∙ ap To is.2 in (
        is.0,
        is.1,
        record {
          caller = caller;
          registered = there;
          led =
              led s caller.zone digits destination (target_for s.commands s.endpoints digits)
              (target_means s declared digits) goes;
        },
      )

  granted_to : (granted : ℕ) (destination : Destination) (caller : Option EndpointParts)
      → endpoint_of s.endpoints id ≡ caller
      → (admission_ruling s call digits units caller).verdict
      ≡ Admitted replied_call destination granted
      → (replied_call ≡ call) × (granted ≡ units) × IsRouted s id digits destination
  granted_to granted destination None there h = let impossible : ⊥ = cc in absurd impossible
  granted_to granted destination (Some caller) there h =
      granted_by granted destination caller there
      (route_of s.commands s.endpoints caller.zone digits) refl
      (by_route s call units digits caller (Admitted replied_call destination granted) (λ e. cc) h)

  refused_by : (refusal : RouteRefusal) (caller : EndpointParts)
      → endpoint_of s.endpoints id ≡ Some caller → (route : Route)
      → route_of s.commands s.endpoints caller.zone digits ≡ route
      → verdict_to s call units digits caller route ≡ AdmitRefused replied_call (NoRoute refusal)
      → (replied_call ≡ call) × IsUnrouted s id digits refusal
  refused_by refusal caller there (Refused reason) e h =
      let same : reason ≡ refusal = cc in
      let goes = sym (route_is s caller.zone digits) ∙ e ∙ ap Refused same in (
        cc,
        record {
          caller = caller;
          registered = there;
          lost =
              lost s caller.zone digits refusal (target_for s.commands s.endpoints digits)
              (target_means s declared digits) goes;
        },
      )
  refused_by refusal caller there (To reached) e h =
      absurd (to_has_route caller.zone reached (asked_call s call units digits caller reached)
      replied_call refusal (over_there s call units digits caller reached) h)

  refused_to : (refusal : RouteRefusal) (caller : Option EndpointParts)
      → endpoint_of s.endpoints id ≡ caller
      → (admission_ruling s call digits units caller).verdict
      ≡ AdmitRefused replied_call (NoRoute refusal)
      → (replied_call ≡ call) × IsUnrouted s id digits refusal
  refused_to refusal None there h = let impossible : ⊥ = cc in absurd impossible
  refused_to refusal (Some caller) there h =
      refused_by refusal caller there (route_of s.commands s.endpoints caller.zone digits) refl
      (by_route s call units digits caller (AdmitRefused replied_call (NoRoute refusal))
      (λ e. cc) h)

pub admissions_are_routed : AdmissionsAreRouted
admissions_are_routed lines configuration s accepted same call units id digits replied_call granted
    destination h =
    granted_to s (accepted_state lines configuration s accepted same) call units id digits
    replied_call granted destination (endpoint_of s.endpoints id) refl
    (sym (verdict_is s call units id digits) ∙ h)

pub refusals_are_unrouted : RefusalsAreUnrouted
refusals_are_unrouted lines configuration s accepted same call units id digits replied_call refusal
    h =
    refused_to s (accepted_state lines configuration s accepted same) call units id digits
    replied_call refusal (endpoint_of s.endpoints id) refl
    (sym (verdict_is s call units id digits) ∙ h)

stranger : (s : State) (call units : ℕ) (digits : List ℕ) (caller : Option EndpointParts)
    → (admission_ruling s call digits units caller).verdict ≡ AdmitRefused call CallerNotRegistered
    → caller ≡ None
stranger s call units digits None h = refl
stranger s call units digits (Some caller) h =
    absurd (route_has_caller s call units digits caller
    (route_of s.commands s.endpoints caller.zone digits)
    (by_route s call units digits caller (AdmitRefused call CallerNotRegistered) (λ e. cc) h))

pub strangers_are_refused : StrangersAreRefused
strangers_are_refused s call units id digits = (
  (λ h. stranger s call units digits (endpoint_of s.endpoints id)
      (sym (verdict_is s call units id digits) ∙ h)),
  (λ none. verdict_is s call units id digits
      ∙ ap (λ caller. (admission_ruling s call digits units caller).verdict) none),
)

-- ---- open numbers
pub is_some_found : {X : Type 0} (p : X → Bool) (xs : List X) → is_some (find p xs) ≡ list_any p xs
is_some_found p [] = refl
is_some_found p (x ∷ xs) = by (p x) (is_some_found p xs)
  where
    by : (t : Bool) → is_some (find p xs) ≡ list_any p xs
        → is_some (cond t (Some x) (find p xs)) ≡ (t || list_any p xs)
    by true h = refl
    by false h = h

opened_to : (s : State) (call units : ℕ) (digits : List ℕ) (caller : Option EndpointParts)
    → (admission_ruling s call digits units caller).verdict ≡ AdmitRefused call CallOpen
    → (is_some caller ≡ true) × (is_open s.calls call ≡ true)
opened_to s call units digits None h = let impossible : ⊥ = cc in absurd impossible
opened_to s call units digits (Some caller) h = (refl, opens_as s call units digits caller h)

refused_as_open : (s : State) (call units : ℕ) (digits : List ℕ) (caller : Option EndpointParts)
    → is_some caller ≡ true → is_open s.calls call ≡ true
    → (admission_ruling s call digits units caller).verdict ≡ AdmitRefused call CallOpen
refused_as_open s call units digits None there same = absurd (true≢false (sym there))
refused_as_open s call units digits (Some caller) there same =
    is_refused_as_open s call units digits caller same

pub open_numbers_are_refused : OpenNumbersAreRefused
open_numbers_are_refused s call units id digits = (
  (λ h.
      let is = opened_to s call units digits (endpoint_of s.endpoints id)
      (sym (verdict_is s call units id digits) ∙ h) in
      (sym (is_some_found (has_id id) s.endpoints) ∙ is.0, is.1)),
  (λ h. verdict_is s call units id digits
      ∙ refused_as_open s call units digits (endpoint_of s.endpoints id)
      (is_some_found (has_id id) s.endpoints ∙ h.0) h.1),
)
