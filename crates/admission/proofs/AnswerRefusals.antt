-- Answers to calls are refused, apart from limits, exactly if the endpoint is not registered, or if
-- the call is open and was not admitted to it.
use Rattle.std.proofs.Common.{◌≡◌, ℕ, Bool, true, false, cond, List, Option, Some, None, is_some, refl, sym, ap, ◌∙◌, true≢false}
use Rattle.std.proofs.lemmas.Slice.Eq.{bytes_eq-Decides}
use Rattle.registry.specs.Endpoint.{EndpointParts}
use Rattle.registry.specs.Registration.{has_id, endpoint_of}
use Rattle.bandwidth.specs.declared.open_call.OpenCall.{OpenCall}
use Rattle.bandwidth.specs.Calls.{call_of}
use Rattle.bandwidth.specs.Fits.{over_of}
use Rattle.rulings.specs.declared.replies.AdmitRefusal.TheVariants.{CallerNotRegistered, CallOpen}
use Rattle.rulings.specs.declared.replies.Reply.TheVariants.{AdmitRefused}
use Rattle.rulings.specs.State.{State}
use Rattle.rulings.specs.Routing.{destination_of}
use Rattle.rulings.specs.Ruling.{answered_call, is_that, repeated_answer, call_open_ruling, answering_to, answering_ruling}
use Rattle.rulings.proofs.AdmittingLemmas.{caller_has_id}
use Rattle.admission.specs.AnswerLaws.{IsForOthers, AnswersOfStrangersAreRefused, AnswersToOthersCallsAreRefused}
use Rattle.admission.proofs.AnswerLaws.{ruled_as}
use Rattle.admission.proofs.GrantLemmas.{that_is}
use Rattle.admission.proofs.RouteLaws.{to_has_caller, to_has_number, is_some_found}

-- the call was admitted to this ID
is_own : (own id : List ℕ) (answerer : Option (List ℕ)) → own ≡ id → answerer ≡ Some id
    → is_that own answerer ≡ true
is_own own id answerer same admitted =
    ap (is_that own) admitted ∙ (bytes_eq-Decides id own).1 (sym same)

module _ (s : State) (call units : ℕ) where
  -- ---- endpoints that are not registered
  to_has_endpoint : (e : EndpointParts) (held : Option OpenCall)
      → (answering_to s e call units held).verdict ≡ AdmitRefused call CallerNotRegistered → ⊥
  to_has_endpoint e None h =
      let answered = answered_call e call units in
      to_has_caller e.zone (destination_of e.kind e) answered call
      (over_of s.commands s.calls answered) h
  to_has_endpoint e (Some held) h = by (is_that e.id held.answerer) h
    where
      by : (that : Bool)
          → (cond that (repeated_answer e call held.units) (call_open_ruling e call)).verdict
          ≡ AdmitRefused call CallerNotRegistered
          → ⊥
      by true h = cc
      by false h = cc

  stranger : (endpoint : Option EndpointParts)
      → (answering_ruling s call units endpoint).verdict ≡ AdmitRefused call CallerNotRegistered
      → endpoint ≡ None
  stranger None h = refl
  stranger (Some e) h = absurd (to_has_endpoint e (call_of s.calls call) h)

  -- ---- calls that were not admitted to the endpoint
  module _ (id : List ℕ) where
    for_others : (e : EndpointParts) → endpoint_of s.endpoints id ≡ Some e
        → (held : Option OpenCall) → call_of s.calls call ≡ held
        → (answering_to s e call units held).verdict ≡ AdmitRefused call CallOpen
        → IsForOthers s id call
    for_others e there None found h =
        let answered = answered_call e call units in
        absurd (to_has_number e.zone (destination_of e.kind e) answered call
        (over_of s.commands s.calls answered) h)
    for_others e there (Some held) found h = by (is_that e.id held.answerer) refl h
      where
        by : (that : Bool) → is_that e.id held.answerer ≡ that
            → (cond that (repeated_answer e call held.units) (call_open_ruling e call)).verdict
            ≡ AdmitRefused call CallOpen
            → IsForOthers s id call
        by true that h = let impossible : ⊥ = cc in absurd impossible
        by false that h = record {
          held = held;
          is_open = found;
          not_admitted = λ admitted. true≢false
              (sym (is_own e.id id held.answerer (caller_has_id s.endpoints id e there) admitted)
              ∙ that);
        }

    opened_to : (endpoint : Option EndpointParts) → endpoint_of s.endpoints id ≡ endpoint
        → (answering_ruling s call units endpoint).verdict ≡ AdmitRefused call CallOpen
        → (is_some endpoint ≡ true) × IsForOthers s id call
    opened_to None there h = let impossible : ⊥ = cc in absurd impossible
    opened_to (Some e) there h = (refl, for_others e there (call_of s.calls call) refl h)

    refused_as_open : (endpoint : Option EndpointParts) → endpoint_of s.endpoints id ≡ endpoint
        → is_some endpoint ≡ true → IsForOthers s id call
        → (answering_ruling s call units endpoint).verdict ≡ AdmitRefused call CallOpen
    refused_as_open None there some others = absurd (true≢false (sym some))
    refused_as_open (Some e) there some others =
        ap (λ held. (answering_to s e call units held).verdict) others.is_open
        ∙ by (is_that e.id others.held.answerer) refl
      where
        by : (that : Bool) → is_that e.id others.held.answerer ≡ that
            → (cond that (repeated_answer e call others.held.units)
            (call_open_ruling e call)).verdict
            ≡ AdmitRefused call CallOpen
        by true that =
            absurd (others.not_admitted
            (that_is e.id others.held.answerer that
            ∙ ap Some (caller_has_id s.endpoints id e there)))
        by false that = refl

-- ---- laws
pub answers_of_strangers_are_refused : AnswersOfStrangersAreRefused
answers_of_strangers_are_refused s call units id = (
  (λ h. stranger s call units (endpoint_of s.endpoints id) (sym (ruled_as s call units id) ∙ h)),
  (λ none. ruled_as s call units id
      ∙ ap (λ endpoint. (answering_ruling s call units endpoint).verdict) none),
)

pub answers_to_others_calls_are_refused : AnswersToOthersCallsAreRefused
answers_to_others_calls_are_refused s call units id = (
  (λ h.
      let is = opened_to s call units id (endpoint_of s.endpoints id) refl
      (sym (ruled_as s call units id) ∙ h) in
      (sym (is_some_found (has_id id) s.endpoints) ∙ is.0, is.1)),
  (λ h. ruled_as s call units id
      ∙ refused_as_open s call units id (endpoint_of s.endpoints id) refl
      (is_some_found (has_id id) s.endpoints ∙ h.0) h.1),
)
