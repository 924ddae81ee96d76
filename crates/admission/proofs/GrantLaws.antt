-- No grant of a record leaves a sum of its call above its limit.
use Rattle.std.proofs.Common.{◌≡◌, ◌<◌, ℕ, Bool, true, false, cond, List, [], ◌∷◌, ◌++◌, find, filter, Some, None, refl, sym, ap, subst, ◌∙◌, true≢false, arith}
use Rattle.std.specs.Prelude.{nat_lt, IsTrue}
use Rattle.std.proofs.lemmas.Bool.{ltb-true, ne_eqb, eq-eqb}
use Rattle.std.proofs.lemmas.Option.{none-some, same_Some}
use Rattle.gk_commands.specs.declared.commands.Command.{Command}
use Rattle.bandwidth.specs.declared.open_call.OpenCall.{OpenCall}
use Rattle.bandwidth.specs.Calls.{AreInOrder, has_call_number, call_of, is_open, with_call, with_changed}
use Rattle.bandwidth.specs.Fits.{over_of}
use Rattle.bandwidth.specs.declared.over.Over.{Over}
use Rattle.bandwidth.proofs.RefusalLaws.{refusal_names_a_sum}
use Rattle.bandwidth.proofs.FitLaws.{opening_within, raise_within, raised_from_within}
use Rattle.rulings.specs.declared.limits.Limits.{Limits}
use Rattle.rulings.specs.declared.replies.Reply.{Reply}
use Rattle.rulings.specs.declared.replies.Reply.TheVariants.{Admitted, Changed}
use Rattle.rulings.specs.declared.rulings.Effect.{Effect}
use Rattle.rulings.specs.declared.rulings.Effect.TheVariants.{Open, Resize}
use Rattle.rulings.specs.State.{State, opening_of}
use Rattle.rulings.specs.Events.{PlainEvent}
use Rattle.rulings.specs.Ruling.{ruling_of, verdict_of}
use Rattle.rulings.specs.Step.{with_effect, with_count, state_after, step}
use Rattle.entry_bytes.specs.Entry.{PlainEntry}
use Rattle.decision_record.specs.History.{IsLegal, replay}
use Rattle.admission.specs.HistoryLaws.{StandsAfter, IsGrant, ToOpen, ToRaise, IsCallWithin, sum_named, IsRefusedRightly, RecordedGrantsAreWithin, RecordedRaisesWereWithin, RecordedLimitsAreAbove}
use Rattle.admission.proofs.StepLemmas.{step_state}
use Rattle.admission.proofs.HistoryLaws.{verdict_there}
use Rattle.admission.proofs.OrderLemmas.{calls_in_order}
use Rattle.admission.proofs.GrantLemmas.{gives_bandwidth, IsBehind, Other, Refusing, Opening, Repeating, Changing_to, behind}

-- ---- who is found after a change
-- none of a number that is less
none_less : (calls : List OpenCall) (call : OpenCall) (after : List OpenCall)
    → find (has_call_number call.number)
    (filter (λ c. nat_lt c.number call.number) calls ++ call ∷ after) ≡ Some call
none_less [] call after =
    ap (λ t. cond t (Some call) (find (has_call_number call.number) after))
    (eq-eqb call.number call.number refl)
none_less (c ∷ calls) call after =
    by (nat_lt c.number call.number) refl (none_less calls call after)
  where
    less : List OpenCall
    less = filter (λ d. nat_lt d.number call.number) calls

    by : (t : Bool) → nat_lt c.number call.number ≡ t
        → find (has_call_number call.number) (less ++ call ∷ after) ≡ Some call
        → find (has_call_number call.number) (cond t (c ∷ less) less ++ call ∷ after) ≡ Some call
    by true e rest =
        let under = ltb-true c.number call.number e in
        ap (λ t. cond t (Some c) (find (has_call_number call.number) (less ++ call ∷ after)))
        (ne_eqb c.number call.number (λ same. let never : ⊥ = omega (arith, under, same) in never))
        ∙ rest
    by false e rest = rest

pub found_opened : (calls : List OpenCall) (call : OpenCall)
    → call_of (with_call calls call) call.number ≡ Some call
found_opened calls call =
    none_less calls call (filter (λ c. nat_lt call.number c.number) calls)

found_changed : (calls : List OpenCall) (number units : ℕ) (held : OpenCall)
    → call_of calls number ≡ Some held
    → call_of (with_changed calls number units) number ≡ Some (record held { units = units })
found_changed [] number units held found = absurd (none-some held found)
found_changed (call ∷ calls) number units held found =
    by (has_call_number number call) refl found (found_changed calls number units held)
  where
    by : (t : Bool) → has_call_number number call ≡ t
        → cond t (Some call) (call_of calls number) ≡ Some held
        → (call_of calls number ≡ Some held
        → call_of (with_changed calls number units) number ≡ Some (record held { units = units }))
        → call_of (cond t (record call { units = units }) call ∷ with_changed calls number units)
        number
        ≡ Some (record held { units = units })
    by true e here rest =
        ap (λ t. cond t (Some (record call { units = units }))
        (call_of (with_changed calls number units) number)) e
        ∙ ap (λ (c : OpenCall). Some (record c { units = units })) (same_Some call held here)
    by false e later rest =
        ap (λ t. cond t (Some call) (call_of (with_changed calls number units) number)) e
        ∙ rest later

-- ---- the state after a grant
pub after_effect : (s : State) (event : PlainEvent) (effect : Effect)
    → (ruling_of s event).effect ≡ effect
    → state_after s event (ruling_of s event) ≡ with_count (with_effect s event effect)
unfolding state_after
after_effect s event effect is = ap (λ e. with_count (with_effect s event e)) is

module _ (s : State) (event : PlainEvent) (number units : ℕ) where
  opened_within : (call : OpenCall) → (ruling_of s event).effect ≡ Open call
      → call.number ≡ number → call.units ≡ units → is_open s.calls call.number ≡ false
      → over_of s.commands s.calls call ≡ None
      → IsCallWithin (state_after s event (ruling_of s event)) number units
  opened_within call effect its granted closed fits =
      subst (λ (t : State). IsCallWithin t number units) (sym (after_effect s event (Open call)
      effect))
      (record {
        call = call;
        is_open = ap (call_of (with_call s.calls call)) (sym its) ∙ found_opened s.calls call;
        granted = granted;
        within = opening_within s.commands s.calls call fits closed;
      })

  raised_within : (id : List ℕ) (held : OpenCall)
      → (ruling_of s event).effect ≡ Resize number id units
      → call_of s.calls number ≡ Some held → held.units < units
      → over_of s.commands s.calls (record held { units = units }) ≡ None
      → AreInOrder s.calls
      → IsCallWithin (state_after s event (ruling_of s event)) number units
  raised_within id held effect found more fits order =
      subst (λ (t : State). IsCallWithin t number units)
      (sym (after_effect s event (Resize number id units) effect))
      (record {
        call = record held { units = units };
        is_open = found_changed s.calls number units held found;
        granted = refl;
        within = raise_within s.commands s.calls number units held found more fits order;
      })

  -- by what stands behind the ruling
  granted_within : AreInOrder s.calls → IsBehind s event (ruling_of s event)
      → IsGrant s number units (verdict_of s event)
      → IsCallWithin (state_after s event (ruling_of s event)) number units
  granted_within order (Other gives none) grant = absurd (true≢false (sym (given grant) ∙ gives))
    where
      given : {reply : Reply} → IsGrant s number units reply → gives_bandwidth reply ≡ true
      given (ToOpen destination closed) = refl
      given (ToRaise held found more) = refl
  granted_within order (Refusing gives over call names asks fits) grant =
      absurd (true≢false (sym (given grant) ∙ gives))
    where
      given : {reply : Reply} → IsGrant s number units reply → gives_bandwidth reply ≡ true
      given (ToOpen destination closed) = refl
      given (ToRaise held found more) = refl
  granted_within order (Opening destination call verdict effect closed fits) grant =
      let is = opened_as grant verdict in
      opened_within call effect is.0 is.1 closed fits
    where
      opened_as : {reply : Reply} → IsGrant s number units reply
          → reply ≡ Admitted call.number destination call.units
          → (call.number ≡ number) × (call.units ≡ units)
      opened_as (ToOpen reached none) same = (cc, cc)
      opened_as (ToRaise held found more) same = let impossible : ⊥ = cc in absurd impossible
  granted_within order (Repeating asked destination held verdict effect found answers) grant =
      absurd (opens_none grant verdict)
    where
      opens_none : {reply : Reply} → IsGrant s number units reply
          → reply ≡ Admitted asked destination held.units → ⊥
      opens_none (ToOpen reached none) same =
          let number_is : number ≡ asked = cc in
          none-some held (sym none ∙ ap (call_of s.calls) number_is ∙ found)
      opens_none (ToRaise was there more) same = cc
  granted_within order (Changing_to call asked id held verdict effect found fits) grant =
      raised_as grant verdict
    where
      raised_as : {reply : Reply} → IsGrant s number units reply → reply ≡ Changed call asked
          → IsCallWithin (state_after s event (ruling_of s event)) number units
      raised_as (ToOpen reached none) same = let impossible : ⊥ = cc in absurd impossible
      raised_as (ToRaise was there more) same =
          let number_is : call ≡ number = cc in
          let units_are : asked ≡ units = cc in
          let held_is : held ≡ was =
          same_Some held was (sym found ∙ ap (call_of s.calls) number_is ∙ there) in
          raised_within id was
          (effect ∙ ap (λ n. Resize n id asked) number_is ∙ ap (Resize number id) units_are) there
          more
          (ap (λ (c : OpenCall). over_of s.commands s.calls (record c { units = units }))
          (sym held_is)
          ∙ ap (λ u. over_of s.commands s.calls (record held { units = u })) (sym units_are) ∙ fits)
          order

-- ---- whole records
-- the history up to an entry, and with it
legal_before : (s : State) (before : List PlainEntry) (e : PlainEntry) (after : List PlainEntry)
    → IsLegal s (before ++ e ∷ after) → IsLegal s before
legal_before s [] e after legal = tt
legal_before s (b ∷ before) e after legal =
    (legal.0, legal.1, legal_before (step s b.event).state before e after legal.2)

recorded_there : (s : State) (before : List PlainEntry) (e : PlainEntry) (after : List PlainEntry)
    → IsLegal s (before ++ e ∷ after) → IsTrue (step (replay s before) e.event).recorded
recorded_there s [] e after legal = legal.1
recorded_there s (b ∷ before) e after legal =
    recorded_there (step s b.event).state before e after legal.2

replay_with : (s : State) (before : List PlainEntry) (e : PlainEntry)
    → replay s (before ++ e ∷ []) ≡ (step (replay s before) e.event).state
replay_with s [] e = refl
replay_with s (b ∷ before) e = replay_with (step s b.event).state before e

module _ (commands : List Command) (limits : Limits) (entries before : List PlainEntry)
    (e : PlainEntry) (legal : IsLegal (opening_of commands limits) entries)
    (stands : StandsAfter entries before e) where
  legal_there : IsLegal (opening_of commands limits) (before ++ e ∷ stands.0)
  legal_there = subst (IsLegal (opening_of commands limits)) stands.1 legal

  order_there : AreInOrder (replay (opening_of commands limits) before).calls
  order_there =
      calls_in_order (opening_of commands limits) before
      (legal_before (opening_of commands limits) before e stands.0 legal_there) tt

  pub verdict_is : verdict_of (replay (opening_of commands limits) before) e.event ≡ e.reply
  verdict_is =
      verdict_there (opening_of commands limits) entries before e legal stands e.event e.reply refl
      refl

  pub state_is : replay (opening_of commands limits) (before ++ e ∷ [])
      ≡ state_after (replay (opening_of commands limits) before) e.event
      (ruling_of (replay (opening_of commands limits) before) e.event)
  state_is =
      replay_with (opening_of commands limits) before e
      ∙ step_state (replay (opening_of commands limits) before) e.event
      (recorded_there (opening_of commands limits) before e stands.0 legal_there)

pub recorded_grants_are_within : RecordedGrantsAreWithin
recorded_grants_are_within commands limits entries before e number units legal stands grant =
    let s = replay (opening_of commands limits) before in
    subst (λ (t : State). IsCallWithin t number units)
    (sym (state_is commands limits entries before e legal stands))
    (granted_within s e.event number units
    (order_there commands limits entries before e legal stands) (behind s e.event)
    (subst (IsGrant s number units)
    (sym (verdict_is commands limits entries before e legal stands)) grant))

-- a raise
raise_was_within : (s : State) (event : PlainEvent) (number units : ℕ) (held : OpenCall)
    → AreInOrder s.calls → IsBehind s event (ruling_of s event)
    → verdict_of s event ≡ Changed number units → call_of s.calls number ≡ Some held
    → held.units < units → IsCallWithin s number held.units
raise_was_within s event number units held order (Other gives none) verdict found more =
    absurd (true≢false (sym (ap gives_bandwidth verdict) ∙ gives))
raise_was_within s event number units held order (Refusing gives over call names asks fits) verdict
    found more =
    absurd (true≢false (sym (ap gives_bandwidth verdict) ∙ gives))
raise_was_within s event number units held order (Opening destination call is effect closed fits)
    verdict found more =
    let impossible : ⊥ = differ (sym is ∙ verdict) in absurd impossible
  where
    differ : Admitted call.number destination call.units ≡ Changed number units → ⊥
    differ h = cc
raise_was_within s event number units held order (Repeating asked destination was is effect there
    answers)
    verdict found more =
    let impossible : ⊥ = differ (sym is ∙ verdict) in absurd impossible
  where
    differ : Admitted asked destination was.units ≡ Changed number units → ⊥
    differ h = cc
raise_was_within s event number units held order (Changing_to call asked id was is effect there
    fits)
    verdict found more =
    record {
      call = held;
      is_open = found;
      granted = refl;
      within = raised_from_within s.commands s.calls number units held found more fitting order;
    }
  where
    parts : Changed call asked ≡ Changed number units → (call ≡ number) × (asked ≡ units)
    parts h = (cc, cc)

    same : (call ≡ number) × (asked ≡ units)
    same = parts (sym is ∙ verdict)

    held_is : was ≡ held
    held_is = same_Some was held (sym there ∙ ap (call_of s.calls) same.0 ∙ found)

    fitting : over_of s.commands s.calls (record held { units = units }) ≡ None
    fitting =
        ap (λ (c : OpenCall). over_of s.commands s.calls (record c { units = units })) (sym held_is)
        ∙ ap (λ u. over_of s.commands s.calls (record was { units = u })) (sym same.1) ∙ fits

pub recorded_raises_were_within : RecordedRaisesWereWithin
recorded_raises_were_within commands limits entries before e number units held legal stands replied
    found more =
    let s = replay (opening_of commands limits) before in
    raise_was_within s e.event number units held
    (order_there commands limits entries before e legal stands) (behind s e.event)
    (verdict_is commands limits entries before e legal stands ∙ replied) found more

-- a refusal for a limit
refused_rightly : (s : State) (event : PlainEvent) (over : Over)
    → IsBehind s event (ruling_of s event) → sum_named (verdict_of s event) ≡ Some over
    → IsRefusedRightly s event over
refused_rightly s event over (Other gives none) names =
    absurd (none-some over (sym none ∙ names))
refused_rightly s event over (Refusing gives named call is asks fits) names =
    record {
      call = call;
      asks = asks;
      above =
          (refusal_names_a_sum s.commands s.calls call over
          (fits ∙ ap Some (same_Some named over (sym is ∙ names)))).1;
    }
refused_rightly s event over (Opening destination call is effect closed fits) names =
    absurd (none-some over (sym (ap sum_named is) ∙ names))
refused_rightly s event over (Repeating asked destination held is effect there answers) names =
    absurd (none-some over (sym (ap sum_named is) ∙ names))
refused_rightly s event over (Changing_to call asked id was is effect there fits) names =
    absurd (none-some over (sym (ap sum_named is) ∙ names))

pub recorded_limits_are_above : RecordedLimitsAreAbove
recorded_limits_are_above commands limits entries before e over legal stands names =
    let s = replay (opening_of commands limits) before in
    refused_rightly s e.event over (behind s e.event)
    (ap sum_named (verdict_is commands limits entries before e legal stands) ∙ names)
