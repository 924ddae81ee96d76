-- What one entry adds to the rows of a record, and to the calls that are open after them.
use Rattle.std.proofs.Common.{◌≡◌, ◌≤◌, ℕ, ◌+◌, ◌==◌, Bool, true, false, not, ◌&&◌, ◌||◌, cond, List, ◌∷◌, length, nat_le, Option, Some, None, refl, sym, ap, subst, ◌∙◌, true≢false, arith}
use Rattle.std.specs.Option.{option_and_then}
use Rattle.std.proofs.lemmas.Bool.{ne_eqb, leb-false, lt-leb}
use Rattle.gk_commands.specs.declared.commands.Command.{Command}
use Rattle.registry.specs.Endpoint.{EndpointParts}
use Rattle.bandwidth.specs.declared.open_call.OpenCall.{OpenCall}
use Rattle.bandwidth.specs.Calls.{is_open as is_open_call, with_call, without_call, with_changed}
use Rattle.bandwidth.proofs.CallLemmas.{Ascend}
use Rattle.call_rows.specs.declared.rows.CallEvent.{CallEvent}
use Rattle.call_rows.specs.declared.rows.CallEvent.TheVariants as rows
use Rattle.call_rows.specs.Rows.{RowParts, leads_somewhere, leads_to_an_endpoint, is_row}
use Rattle.call_rows.specs.OpenCalls.{Open as OpenOne, opened_if, opens_after}
use Rattle.call_rows.specs.declared.snapshots.PushFault.TheVariants as faults
use Rattle.call_rows.specs.Pushing.{most_open, is_open, opening_fault, event_fault}
use Rattle.rulings.specs.declared.rulings.Effect.{Effect}
use Rattle.rulings.specs.declared.rulings.Effect.TheVariants.{Nothing, Put, Remove, Open, Resize, Close, PutInForce}
use Rattle.rulings.specs.Founded.{IsFounded}
use Rattle.rulings.specs.State.{State}
use Rattle.rulings.specs.Events.{PlainEvent, endpoint_asking, put_in_force}
use Rattle.rulings.specs.Step.{with_registered, with_commands, with_effect}
use Rattle.decision_record.specs.Rows.{row_of}
use Rattle.admission.proofs.CallsLemmas.{length-with_changed}
use Rattle.admission.proofs.OpenRowLemmas.{one_if, times, open_if_there, closed_if_not_there, times_units, length_units, times_without, length_without, held_times, not_held, held_with, length_with, IsFound, found_if_owned, held_without, held_changed, length_closed, held_there}
use Rattle.admission.proofs.ToldRowLemmas.{opens_none, IsOpening, ByAdmission, ByAnswer, Tells}

-- the calls that rows leave open are those of a state, but for a call of number 0, which has no row
pub record AreOpen (opens : List OpenOne) (calls : List OpenCall) : Type 0 where
  pub same : (number : ℕ) → (number == 0) ≡ false → times number opens ≡ held_times number calls
  pub few : length opens + held_times 0 calls ≤ length calls

-- the row that comes next, if there is one, is not refused for its call, and then the calls that
-- rows leave open are these
abbrev pub Passes : List OpenOne → ℕ → Option RowParts → List OpenCall → Type 0
Passes opens seen None calls = AreOpen opens calls
Passes opens seen (Some row) calls =
    (event_fault opens row.event ≡ None) × AreOpen (opens_after seen row.event opens) calls

-- ---- whether there is a row
-- a row of an admission that leads to a destination, by the tests of its type
admitted_by : (row : RowParts) (first call granted leads : Bool) → first ≡ false → leads ≡ true
    → cond (not first && (not call && (not granted || leads))) (Some row) None
    ≡ cond call None (Some row)
admitted_by row true call granted leads positive leading = absurd (true≢false positive)
admitted_by row false call granted false positive leading = absurd (true≢false (sym leading))
admitted_by row false true true true positive leading = refl
admitted_by row false true false true positive leading = refl
admitted_by row false false true true positive leading = refl
admitted_by row false false false true positive leading = refl

-- a row of an answer that leads to an endpoint
answered_by : (row : RowParts) (first call leads : Bool) → first ≡ false → leads ≡ true
    → cond (not first && (not call && leads)) (Some row) None ≡ cond call None (Some row)
answered_by row true call leads positive leading = absurd (true≢false positive)
answered_by row false call false positive leading = absurd (true≢false (sym leading))
answered_by row false true true positive leading = refl
answered_by row false false true positive leading = refl

other_by : (row : RowParts) (first call : Bool) → first ≡ false
    → cond (not first && not call) (Some row) None ≡ cond call None (Some row)
other_by row true call positive = absurd (true≢false positive)
other_by row false true positive = refl
other_by row false false positive = refl

module _ (opens : List OpenOne) (seen number : ℕ) (positive : (number == 0) ≡ false) where
  -- the row of this event
  abbrev row_saying : CallEvent → RowParts
  row_saying event = record { number = number; event = event }

  -- the call that an admission would open, or an answer
  abbrev one_open : (call units : ℕ) → OpenOne
  one_open call units = record { call = call; units = units; admission = seen }

  -- it was refused
  refused : (event : CallEvent) (call units : ℕ) (granted : Bool) (calls : List OpenCall)
      → event_fault opens event ≡ cond granted (opening_fault call opens) None
      → opens_after seen event opens ≡ opened_if granted (one_open call units) opens
      → not granted ≡ true → AreOpen opens calls → (t : Bool)
      → Passes opens seen (cond t (Some (row_saying event)) None) calls
  refused event call units true calls fault after told are t = absurd (true≢false (sym told))
  refused event call units false calls fault after told are false = are
  refused event call units false calls fault after told are true =
      (fault, subst (λ os. AreOpen os calls) (sym after) are)

  -- nothing is said of a call that is open
  quiet : (said : Option CallEvent) (calls : List OpenCall) → opens_none said ≡ true
      → AreOpen opens calls → Passes opens seen (option_and_then (row_of number) said) calls
  quiet None calls told are = are
  quiet (Some (rows.Changed call units)) calls told are = absurd (true≢false (sym told))
  quiet (Some (rows.Released call)) calls told are = absurd (true≢false (sym told))
  quiet (Some (rows.Admitted asked)) calls told are =
      refused (rows.Admitted asked) asked.call asked.units asked.granted calls refl refl told are
      (is_row (row_saying (rows.Admitted asked)))
  quiet (Some (rows.Answered asked)) calls told are =
      refused (rows.Answered asked) asked.call asked.units asked.granted calls refl refl told are
      (is_row (row_saying (rows.Answered asked)))

  -- a call is opened
  opened : (event : CallEvent) (asked units : ℕ) (calls : List OpenCall) (call : OpenCall)
      (most : ℕ)
      → row_of number event ≡ cond (asked == 0) None (Some (row_saying event))
      → event_fault opens event ≡ opening_fault asked opens
      → opens_after seen event opens ≡ one_open asked units ∷ opens
      → asked ≡ call.number
      → AreOpen opens calls → is_open_call calls call.number ≡ false
      → nat_le most (length calls) ≡ false → most ≤ most_open
      → Passes opens seen (row_of number event) (with_call calls call)
  opened event asked units calls call most row_is fault after is are closed room limited =
      subst (λ o. Passes opens seen o (with_call calls call)) (sym row_is) (by (asked == 0) refl)
    where
      longer : length (with_call calls call) ≡ length calls + 1
      longer = length_with calls call closed

      held : (n : ℕ) → held_times n (with_call calls call)
          ≡ held_times n calls + one_if (asked == n)
      held n =
          held_with n calls call closed
          ∙ ap (λ m. held_times n calls + one_if (m == n)) (sym is)

      by : (t : Bool) → (asked == 0) ≡ t
          → Passes opens seen (cond t None (Some (row_saying event))) (with_call calls call)
      by true none = record {
        same = λ n other.
            let unlike = ne_eqb asked n (λ e. true≢false
            (sym none ∙ ap (λ m. m == 0) e ∙ other)) in
            let more = held n in
            let before = are.same n other in
            let nothing = ap one_if unlike in
            omega (arith, more, before, nothing);
        few = let more = held 0 in let one = ap one_if none in
            let before = are.few in
            omega (arith, more, one, before, longer);
      }
      by false some = (
        fault
            ∙ ap (λ t. cond t (Some faults.CallOpen)
            (cond (nat_le most_open (length opens)) (Some faults.TooMany) None)) shut
            ∙ ap (λ t. cond t (Some faults.TooMany) None) fits,
        subst (λ os. AreOpen os (with_call calls call)) (sym after)
            (record {
              same = λ n other. let more = held n in let before = are.same n other in
                  omega (arith, more, before);
              few = let more = held 0 in let none = ap one_if some in
                  let before = are.few in
                  omega (arith, more, none, before, longer);
            }),
      )
        where
          shut : is_open asked opens ≡ false
          shut =
              closed_if_not_there asked opens
              (are.same asked some
              ∙ ap (λ n. held_times n calls) is ∙ not_held call.number calls closed)

          fits : nat_le most_open (length opens) ≡ false
          fits =
              let before = are.few in
              let below = leb-false most (length calls) room in
              lt-leb most_open (length opens) (omega (arith, before, below, limited))

  -- by what is said
  opened_by : (event : CallEvent) (calls : List OpenCall) (call : OpenCall) (most : ℕ)
      → IsOpening call.number event → AreOpen opens calls
      → is_open_call calls call.number ≡ false
      → nat_le most (length calls) ≡ false → most ≤ most_open
      → Passes opens seen (row_of number event) (with_call calls call)
  opened_by event calls call most (ByAdmission asked granted leads is) are closed room limited =
      opened (rows.Admitted asked) asked.call asked.units calls call most
      (admitted_by (row_saying (rows.Admitted asked)) (number == 0) (asked.call == 0)
      asked.granted (leads_somewhere asked.route) positive leads)
      (ap (λ g. cond g (opening_fault asked.call opens) None) granted)
      (ap (λ g. opened_if g (one_open asked.call asked.units) opens) granted)
      is are closed room limited
  opened_by event calls call most (ByAnswer asked granted leads is) are closed room limited =
      opened (rows.Answered asked) asked.call asked.units calls call most
      (answered_by (row_saying (rows.Answered asked)) (number == 0) (asked.call == 0)
      (leads_to_an_endpoint asked.route) positive leads)
      (ap (λ g. cond g (opening_fault asked.call opens) None) granted)
      (ap (λ g. opened_if g (one_open asked.call asked.units) opens) granted)
      is are closed room limited

  -- a call is given other units
  resized : (calls : List OpenCall) (call units : ℕ) → IsFound calls call → Ascend calls
      → AreOpen opens calls
      → Passes opens seen (row_of number (rows.Changed call units)) (with_changed calls call units)
  resized calls call units is_found order are =
      subst (λ o. Passes opens seen o (with_changed calls call units))
      (sym (other_by (row_saying (rows.Changed call units)) (number == 0) (call == 0) positive))
      (by (call == 0) refl)
    where
      by : (t : Bool) → (call == 0) ≡ t
          → Passes opens seen (cond t None (Some (row_saying (rows.Changed call units))))
          (with_changed calls call units)
      by true none = record {
        same = λ n other. are.same n other ∙ sym (held_changed n calls call is_found order units);
        few = let same = held_changed 0 calls call is_found order units in
            let long = length-with_changed calls call units in
            let before = are.few in omega (arith, same, long, before);
      }
      by false some = (
        ap (λ t. cond t None (Some faults.NoCall))
            (open_if_there call opens
            (subst (λ n. 1 ≤ n) (sym (are.same call some)) (held_there calls call is_found))),
        record {
          same = λ n other.
              times_units n call units opens ∙ are.same n other
              ∙ sym (held_changed n calls call is_found order units);
          few = let same = held_changed 0 calls call is_found order units in
              let long = length-with_changed calls call units in
              let as_long = length_units call units opens in
              let before = are.few in omega (arith, same, long, as_long, before);
        },
      )

  -- a call is closed
  closed : (calls : List OpenCall) (call : ℕ) → IsFound calls call → Ascend calls
      → AreOpen opens calls
      → Passes opens seen (row_of number (rows.Released call)) (without_call calls call)
  closed calls call is_found order are =
      subst (λ o. Passes opens seen o (without_call calls call))
      (sym (other_by (row_saying (rows.Released call)) (number == 0) (call == 0) positive))
      (by (call == 0) refl)
    where
      shorter : length (without_call calls call) + 1 ≡ length calls
      shorter = length_closed 0 calls call is_found order

      by : (t : Bool) → (call == 0) ≡ t
          → Passes opens seen (cond t None (Some (row_saying (rows.Released call))))
          (without_call calls call)
      by true none = record {
        same = λ n other.
            let unlike = ne_eqb call n (λ e. true≢false
            (sym none ∙ ap (λ m. m == 0) e ∙ other)) in
            let fewer = held_without n calls call is_found order in
            let before = are.same n other in
            let nothing = ap one_if unlike in
            omega (arith, fewer, before, nothing);
        few = let fewer = held_without 0 calls call is_found order in
            let one = ap one_if none in
            let before = are.few in omega (arith, fewer, one, before, shorter);
      }
      by false some = (
        ap (λ t. cond t None (Some faults.NoCall)) (open_if_there call opens there),
        record {
          same = λ n other.
              let fewer = held_without n calls call is_found order in
              let less = times_without n call opens there in
              let before = are.same n other in omega (arith, fewer, less, before);
          few = let fewer = held_without 0 calls call is_found order in
              let less = length_without call opens there in
              let none = ap one_if some in
              let before = are.few in omega (arith, fewer, less, none, before, shorter);
        },
      )
        where
          there : 1 ≤ times call opens
          there = subst (λ n. 1 ≤ n) (sym (are.same call some)) (held_there calls call is_found)

  -- ---- whatever is ruled
  pub effect_passes : (s : State) (event : PlainEvent) (said : Option CallEvent) (effect : Effect)
      → Tells said effect → IsFounded s event effect → Ascend s.calls
      → s.limits.calls ≤ most_open → AreOpen opens s.calls
      → Passes opens seen (option_and_then (row_of number) said) (with_effect s event effect).calls
  effect_passes s event said Nothing told founded order limited are =
      quiet said s.calls told are
  effect_passes s event said (Put zone) told founded order limited are =
      subst (λ o. Passes opens seen (option_and_then (row_of number) o)
      (with_registered s zone (endpoint_asking event)).calls) (sym told)
      (by (endpoint_asking event))
    where
      by : (asking : Option EndpointParts) → AreOpen opens (with_registered s zone asking).calls
      by None = are
      by (Some e) = are
  effect_passes s event said (Remove id) told founded order limited are =
      subst (λ o. Passes opens seen (option_and_then (row_of number) o) s.calls) (sym told) are
  effect_passes s event said (Open call) told founded order limited are =
      subst (λ o. Passes opens seen (option_and_then (row_of number) o) (with_call s.calls call))
      (sym told.said_is)
      (opened_by told.event s.calls call s.limits.calls told.opening are founded.closed
      founded.room limited)
  effect_passes s event said (Resize call id units) told founded order limited are =
      subst (λ o. Passes opens seen (option_and_then (row_of number) o)
      (with_changed s.calls call units)) (sym told)
      (resized s.calls call units (found_if_owned s.calls call id founded) order are)
  effect_passes s event said (Close call id) told founded order limited are =
      subst (λ o. Passes opens seen (option_and_then (row_of number) o)
      (without_call s.calls call)) (sym told)
      (closed s.calls call (found_if_owned s.calls call id founded) order are)
  effect_passes s event said PutInForce told founded order limited are =
      subst (λ o. Passes opens seen (option_and_then (row_of number) o)
      (with_commands s (put_in_force event)).calls) (sym told) (by (put_in_force event))
    where
      by : (asked : Option (List Command)) → AreOpen opens (with_commands s asked).calls
      by None = are
      by (Some commands) = are
