-- Open calls stay in order of number, whatever is recorded.
use Rattle.std.proofs.Common.{◌≡◌, ◌<◌, ℕ, Bool, true, false, not, cond, List, [], ◌∷◌, ◌++◌, filter, Option, Some, None, refl, sym, subst, arith}
use Rattle.std.specs.Prelude.{nat_lt}
use Rattle.std.specs.List.{AllByRecursion}
use Rattle.std.proofs.lemmas.Bool.{ltb-true}
use Rattle.registry.specs.Endpoint.{EndpointParts}
use Rattle.bandwidth.specs.declared.open_call.OpenCall.{OpenCall}
use Rattle.bandwidth.specs.Calls.{AreInOrder, has_call_number, with_units, with_call, with_changed}
use Rattle.bandwidth.proofs.CallLemmas.{Ascend, in_order}
use Rattle.rulings.specs.declared.rulings.Effect.{Effect}
use Rattle.rulings.specs.declared.rulings.Effect.TheVariants.{Nothing, Put, Remove, Open, Resize, Close, PutInForce}
use Rattle.rulings.specs.State.{State}
use Rattle.gk_commands.specs.declared.commands.Command.{Command}
use Rattle.rulings.specs.Events.{PlainEvent, endpoint_asking, put_in_force}
use Rattle.rulings.specs.Ruling.{ruling_of}
use Rattle.rulings.specs.Step.{with_registered, with_commands, with_effect, state_after, step}
use Rattle.entry_bytes.specs.Entry.{PlainEntry}
use Rattle.decision_record.specs.History.{IsLegal, replay}
use Rattle.admission.proofs.StepLemmas.{step_state}

-- ---- parts of a list in order
module _ (P : OpenCall → Type 0) where
  all_filtered : (test : OpenCall → Bool) (calls : List OpenCall) → AllByRecursion P calls
      → AllByRecursion P (filter test calls)
  all_filtered test [] all = tt
  all_filtered test (call ∷ calls) all = by (test call) (all_filtered test calls all.1)
    where
      by : (t : Bool) → AllByRecursion P (filter test calls)
          → AllByRecursion P (cond t (call ∷ filter test calls) (filter test calls))
      by true rest = (all.0, rest)
      by false rest = rest

  -- what passes a test has what the test tells
  all_passed : (test : OpenCall → Bool) → ((c : OpenCall) → test c ≡ true → P c)
      → (calls : List OpenCall) → AllByRecursion P (filter test calls)
  all_passed test told [] = tt
  all_passed test told (call ∷ calls) = by (test call) refl (all_passed test told calls)
    where
      by : (t : Bool) → test call ≡ t → AllByRecursion P (filter test calls)
          → AllByRecursion P (cond t (call ∷ filter test calls) (filter test calls))
      by true e rest = (told call e, rest)
      by false e rest = rest

  all_joined : (xs : List OpenCall) (call : OpenCall) (ys : List OpenCall) → AllByRecursion P xs
      → P call → AllByRecursion P ys → AllByRecursion P (xs ++ call ∷ ys)
  all_joined [] call ys all here after = (here, after)
  all_joined (x ∷ xs) call ys all here after = (all.0, all_joined xs call ys all.1 here after)

all_weaker : (P Q : OpenCall → Type 0) → ((c : OpenCall) → P c → Q c) → (calls : List OpenCall)
    → AllByRecursion P calls → AllByRecursion Q calls
all_weaker P Q weaker [] all = tt
all_weaker P Q weaker (call ∷ calls) all =
    (weaker call all.0, all_weaker P Q weaker calls all.1)

filter_ascends : (test : OpenCall → Bool) (calls : List OpenCall) → Ascend calls
    → Ascend (filter test calls)
filter_ascends test [] order = tt
filter_ascends test (call ∷ calls) order = by (test call) (filter_ascends test calls order.1)
  where
    by : (t : Bool) → Ascend (filter test calls)
        → Ascend (cond t (call ∷ filter test calls) (filter test calls))
    by true rest = (all_filtered (λ c. call.number < c.number) test calls order.0, rest)
    by false rest = rest

joined_ascends : (xs : List OpenCall) (call : OpenCall) (ys : List OpenCall) → Ascend xs
    → AllByRecursion (λ c. c.number < call.number) xs
    → AllByRecursion (λ c. call.number < c.number) ys → Ascend ys → Ascend (xs ++ call ∷ ys)
joined_ascends [] call ys order below above after = (above, after)
joined_ascends (x ∷ xs) call ys order below above after =
    let under = below.0 in (
      all_joined (λ c. x.number < c.number) xs call ys order.0 under
          (all_weaker (λ c. call.number < c.number) (λ c. x.number < c.number)
          (λ c over. omega (arith, under, over)) ys above),
      joined_ascends xs call ys order.1 below.1 above after,
    )

-- ---- what changes
with_call_ascends : (calls : List OpenCall) (call : OpenCall) → Ascend calls
    → Ascend (with_call calls call)
with_call_ascends calls call order =
    joined_ascends (filter (λ c. nat_lt c.number call.number) calls) call
    (filter (λ c. nat_lt call.number c.number) calls)
    (filter_ascends (λ c. nat_lt c.number call.number) calls order)
    (all_passed (λ c. c.number < call.number) (λ c. nat_lt c.number call.number)
    (λ c e. ltb-true c.number call.number e) calls)
    (all_passed (λ c. call.number < c.number) (λ c. nat_lt call.number c.number)
    (λ c e. ltb-true call.number c.number e) calls)
    (filter_ascends (λ c. nat_lt call.number c.number) calls order)

module _ (number units : ℕ) where
  keeps_number : (call : OpenCall) → (with_units number units call).number ≡ call.number
  keeps_number call = by (has_call_number number call)
    where
      by : (t : Bool) → (cond t (record call { units = units }) call).number ≡ call.number
      by true = refl
      by false = refl

  all_changed : (least : ℕ) (calls : List OpenCall) → AllByRecursion (λ c. least < c.number) calls
      → AllByRecursion (λ c. least < c.number) (with_changed calls number units)
  all_changed least [] all = tt
  all_changed least (call ∷ calls) all =
      (subst (λ n. least < n) (sym (keeps_number call)) all.0, all_changed least calls all.1)

  with_changed_ascends : (calls : List OpenCall) → Ascend calls
      → Ascend (with_changed calls number units)
  with_changed_ascends [] order = tt
  with_changed_ascends (call ∷ calls) order = (
    subst (λ n. AllByRecursion (λ c. n < c.number) (with_changed calls number units))
        (sym (keeps_number call)) (all_changed call.number calls order.0),
    with_changed_ascends calls order.1,
  )

-- ---- whole records
effect_ascends : (s : State) (event : PlainEvent) (effect : Effect) → Ascend s.calls
    → Ascend (with_effect s event effect).calls
effect_ascends s event Nothing order = order
effect_ascends s event (Put zone) order = by (endpoint_asking event)
  where
    by : (asking : Option EndpointParts) → Ascend (with_registered s zone asking).calls
    by None = order
    by (Some e) = order
effect_ascends s event (Remove id) order = order
effect_ascends s event (Open call) order = with_call_ascends s.calls call order
effect_ascends s event (Resize call id units) order =
    with_changed_ascends call units s.calls order
effect_ascends s event (Close call id) order =
    filter_ascends (λ c. not (has_call_number call c)) s.calls order
effect_ascends s event PutInForce order = by (put_in_force event)
  where
    by : (asked : Option (List Command)) → Ascend (with_commands s asked).calls
    by None = order
    by (Some commands) = order

pub step_ascends : (s : State) (event : PlainEvent) → (step s event).recorded ≡ true → Ascend s.calls
    → Ascend (step s event).state.calls
unfolding state_after
step_ascends s event recorded order =
    subst (λ (t : State). Ascend t.calls) (sym (step_state s event recorded))
    (effect_ascends s event (ruling_of s event).effect order)

pub replay_ascends : (s : State) (entries : List PlainEntry) → IsLegal s entries → Ascend s.calls
    → Ascend (replay s entries).calls
replay_ascends s [] legal order = order
replay_ascends s (e ∷ entries) legal order =
    replay_ascends (step s e.event).state entries legal.2 (step_ascends s e.event legal.1 order)

pub calls_in_order : (s : State) (entries : List PlainEntry) → IsLegal s entries
    → Ascend s.calls → AreInOrder (replay s entries).calls
calls_in_order s entries legal order =
    in_order (replay s entries).calls (replay_ascends s entries legal order)
