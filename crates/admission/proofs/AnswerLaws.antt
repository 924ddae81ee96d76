-- Answers to calls lead to the endpoint that answers; one to a call that is not open opens it, and
-- one to a call that is open changes nothing.
use Rattle.std.proofs.Common.{◌≡◌, ℕ, Bool, true, false, cond, List, Option, Some, None, refl, sym, ap, subst, ◌∙◌, true≢false}
use Rattle.std.proofs.lemmas.Option.{none-some, same_Some}
use Rattle.registry.specs.Endpoint.{EndpointParts}
use Rattle.registry.specs.Registration.{endpoint_of}
use Rattle.bandwidth.specs.declared.open_call.OpenCall.{OpenCall}
use Rattle.bandwidth.specs.Calls.{call_of}
use Rattle.bandwidth.specs.declared.over.Over.{Over}
use Rattle.bandwidth.specs.Fits.{over_of}
use Rattle.bandwidth.proofs.CallLemmas.{none_if_closed}
use Rattle.rulings.specs.declared.routes.Destination.{Destination}
use Rattle.rulings.specs.declared.replies.Reply.TheVariants.{Admitted, Changed}
use Rattle.rulings.specs.declared.rulings.Effect.{Effect}
use Rattle.rulings.specs.declared.rulings.Effect.TheVariants.{Nothing, Open}
use Rattle.rulings.specs.State.{State, opening_of}
use Rattle.rulings.specs.Events.{PlainEvent, Answering}
use Rattle.rulings.specs.Routing.{destination_of}
use Rattle.rulings.specs.Ruling.{Ruling, admission_unless, answered_call, is_that, repeated_answer, call_open_ruling, answering_to, answering_ruling, ruling_of, verdict_of}
use Rattle.rulings.proofs.AdmittingLemmas.{caller_has_id}
use Rattle.decision_record.specs.History.{replay}
use Rattle.admission.specs.AnswerLaws.{MayAnswer, ToOpen, AsAdmitted, IsAnswered, IsAnswerTo, AnswersLeadToTheEndpoint, RecordedAnswersLeadToTheEndpoint, RecordedAnswersOpenTheirCalls, RecordedRepeatsChangeNothing}
use Rattle.admission.proofs.GrantLaws.{found_opened, after_effect, verdict_is, state_is}
use Rattle.admission.proofs.GrantLemmas.{gives_bandwidth, IsBehind, Other, Refusing, Opening, Repeating, Changing_to, that_is, behind}
use Rattle.admission.proofs.HistoryLaws.{verdict_there}
use Rattle.admission.proofs.RouteLaws.{to_granted}

-- ---- the endpoint that answers
module _ (s : State) (call units : ℕ) (id : List ℕ) (replied_call granted : ℕ)
    (destination : Destination) where
  module _ (e : EndpointParts) (there : endpoint_of s.endpoints id ≡ Some e) where
    answered_by : (held : Option OpenCall) → call_of s.calls call ≡ held
        → (answering_to s e call units held).verdict ≡ Admitted replied_call destination granted
        → (replied_call ≡ call) × IsAnswered s id call units granted destination
    answered_by None found h =
        let is = to_granted e.zone (destination_of e.kind e) (answered_call e call units)
        replied_call granted destination
        (over_of s.commands s.calls (answered_call e call units)) h in (
          is.0,
          record {
            endpoint = e;
            registered = there;
            leads = sym is.2;
            answers = subst (MayAnswer s id call units) (sym is.1) (ToOpen found);
          },
        )
    answered_by (Some held) found h = by (is_that e.id held.answerer) refl h
      where
        by : (that : Bool) → is_that e.id held.answerer ≡ that
            → (cond that (repeated_answer e call held.units) (call_open_ruling e call)).verdict
            ≡ Admitted replied_call destination granted
            → (replied_call ≡ call) × IsAnswered s id call units granted destination
        by true that h =
            let leads : destination ≡ destination_of e.kind e = cc in
            let units_are : held.units ≡ granted = cc in (
              cc,
              record {
                endpoint = e;
                registered = there;
                leads = leads;
                answers =
                    subst (MayAnswer s id call units) units_are
                    (AsAdmitted held found
                    (that_is e.id held.answerer that
                    ∙ ap Some (caller_has_id s.endpoints id e there)));
              },
            )
        by false that h = let impossible : ⊥ = cc in absurd impossible

  answered_to : (endpoint : Option EndpointParts) → endpoint_of s.endpoints id ≡ endpoint
      → (answering_ruling s call units endpoint).verdict ≡ Admitted replied_call destination granted
      → (replied_call ≡ call) × IsAnswered s id call units granted destination
  answered_to None there h = let impossible : ⊥ = cc in absurd impossible
  answered_to (Some e) there h = answered_by e there (call_of s.calls call) refl h

ruling_is : (s : State) (call units : ℕ) (id : List ℕ)
    → ruling_of s (Answering id call units)
    ≡ answering_ruling s call units (endpoint_of s.endpoints id)
unfolding ruling_of
ruling_is s call units id = refl

pub ruled_as : (s : State) (call units : ℕ) (id : List ℕ)
    → verdict_of s (Answering id call units)
    ≡ (answering_ruling s call units (endpoint_of s.endpoints id)).verdict
ruled_as s call units id = ap (λ (r : Ruling). r.verdict) (ruling_is s call units id)

pub answers_lead_to_the_endpoint : AnswersLeadToTheEndpoint
answers_lead_to_the_endpoint s call units id replied_call granted destination h =
    answered_to s call units id replied_call granted destination (endpoint_of s.endpoints id) refl
    (sym (ruled_as s call units id) ∙ h)

pub recorded_answers_lead_to_the_endpoint : RecordedAnswersLeadToTheEndpoint
recorded_answers_lead_to_the_endpoint commands limits entries before e legal stands call units id
    replied_call granted destination asked replied =
    answers_lead_to_the_endpoint (replay (opening_of commands limits) before) call units id
    replied_call granted destination
    (verdict_there (opening_of commands limits) entries before e legal stands
    (Answering id call units) (Admitted replied_call destination granted) asked replied)

-- ---- calls that are opened
-- the endpoint is registered, and the effect opens the call that it answers
record OpensFor (s : State) (id : List ℕ) (call units : ℕ) (effect : Effect) : Type 0 where
  endpoint : EndpointParts
  registered : endpoint_of s.endpoints id ≡ Some endpoint
  opens : effect ≡ Open (answered_call endpoint call units)

module _ (s : State) (call units : ℕ) (id : List ℕ) (replied_call granted : ℕ)
    (destination : Destination) (closed : call_of s.calls call ≡ None) where
  granted_opens : (zone : List ℕ) (reached : Destination) (answered : OpenCall)
      (over : Option Over)
      → (admission_unless zone reached answered over).verdict
      ≡ Admitted replied_call destination granted
      → (admission_unless zone reached answered over).effect ≡ Open answered
  granted_opens zone reached answered None h = refl
  granted_opens zone reached answered (Some over) h = let impossible : ⊥ = cc in absurd impossible

  opens_for : (endpoint : Option EndpointParts) → endpoint_of s.endpoints id ≡ endpoint
      → (answering_ruling s call units endpoint).verdict ≡ Admitted replied_call destination granted
      → OpensFor s id call units (answering_ruling s call units endpoint).effect
  opens_for None there h = let impossible : ⊥ = cc in absurd impossible
  opens_for (Some e) there h =
      let answered = answered_call e call units in
      record {
        endpoint = e;
        registered = there;
        opens = ap (λ held. (answering_to s e call units held).effect) closed
            ∙ granted_opens e.zone (destination_of e.kind e) answered
            (over_of s.commands s.calls answered)
            (ap (λ held. (answering_to s e call units held).verdict) (sym closed) ∙ h);
      }

  effect_opens : verdict_of s (Answering id call units) ≡ Admitted replied_call destination granted
      → OpensFor s id call units (ruling_of s (Answering id call units)).effect
  effect_opens h =
      subst (λ (r : Ruling). OpensFor s id call units r.effect) (sym (ruling_is s call units id))
      (opens_for (endpoint_of s.endpoints id) refl (sym (ruled_as s call units id) ∙ h))

pub recorded_answers_open_their_calls : RecordedAnswersOpenTheirCalls
recorded_answers_open_their_calls commands limits entries before e legal stands call units id
    replied_call granted destination asked replied closed =
    let s = replay (opening_of commands limits) before in
    let opening = effect_opens s call units id replied_call granted destination closed
    (verdict_there (opening_of commands limits) entries before e legal stands
    (Answering id call units) (Admitted replied_call destination granted) asked replied) in
    let answered = answered_call opening.endpoint call units in
    let after = state_is commands limits entries before e legal stands
    ∙ after_effect s e.event (Open answered)
    (ap (λ event. (ruling_of s event).effect) asked ∙ opening.opens) in
    record {
      endpoint = opening.endpoint;
      registered = opening.registered;
      own = caller_has_id s.endpoints id opening.endpoint opening.registered;
      is_open = ap (λ (t : State). call_of t.calls call) after ∙ found_opened s.calls answered;
    }

-- ---- calls that are open
-- granted with its own units to the endpoint that answers it, and nothing changes
record IsRepeat (s : State) (event : PlainEvent) (number units : ℕ) (held : OpenCall) : Type 0 where
  units_are : units ≡ held.units
  answers : IsAnswerTo held number event
  effect : (ruling_of s event).effect ≡ Nothing

repeats : (s : State) (event : PlainEvent) (number units : ℕ) (destination : Destination)
    (held : OpenCall)
    → IsBehind s event (ruling_of s event)
    → verdict_of s event ≡ Admitted number destination units → call_of s.calls number ≡ Some held
    → IsRepeat s event number units held
repeats s event number units destination held (Other gives none) verdict found =
    absurd (true≢false (sym (ap gives_bandwidth verdict) ∙ gives))
repeats s event number units destination held (Refusing gives over call names asks fits) verdict
    found =
    absurd (true≢false (sym (ap gives_bandwidth verdict) ∙ gives))
repeats s event number units destination held (Opening reached call is effect closed fits) verdict
    found =
    absurd (none-some held
    (sym (none_if_closed s.calls call.number closed) ∙ ap (call_of s.calls) number_is ∙ found))
  where
    numbers : Admitted call.number reached call.units ≡ Admitted number destination units
        → call.number ≡ number
    numbers h = cc

    number_is : call.number ≡ number
    number_is = numbers (sym is ∙ verdict)
repeats s event number units destination held (Repeating asked reached was is effect there answers)
    verdict found =
    record {
      units_are = sym parts.1 ∙ ap (λ (c : OpenCall). c.units) held_is;
      answers =
          subst (λ n. IsAnswerTo held n event) parts.0
          (subst (λ (c : OpenCall). IsAnswerTo c asked event) held_is answers);
      effect = effect;
    }
  where
    same : Admitted asked reached was.units ≡ Admitted number destination units
        → (asked ≡ number) × (was.units ≡ units)
    same h = (cc, cc)

    parts : (asked ≡ number) × (was.units ≡ units)
    parts = same (sym is ∙ verdict)

    held_is : was ≡ held
    held_is = same_Some was held (sym there ∙ ap (call_of s.calls) parts.0 ∙ found)
repeats s event number units destination held (Changing_to call asked id was is effect there fits)
    verdict found =
    let impossible : ⊥ = differ (sym is ∙ verdict) in absurd impossible
  where
    differ : Changed call asked ≡ Admitted number destination units → ⊥
    differ h = cc

pub recorded_repeats_change_nothing : RecordedRepeatsChangeNothing
recorded_repeats_change_nothing commands limits entries before e number units destination held legal
    stands replied found =
    let s = replay (opening_of commands limits) before in
    let repeat = repeats s e.event number units destination held (behind s e.event)
    (verdict_is commands limits entries before e legal stands ∙ replied) found in
    let after = state_is commands limits entries before e legal stands
    ∙ after_effect s e.event Nothing repeat.effect in (
      repeat.units_are,
      repeat.answers,
      record {
        endpoints = ap (λ (t : State). t.endpoints) after;
        calls = ap (λ (t : State). t.calls) after;
      },
    )
