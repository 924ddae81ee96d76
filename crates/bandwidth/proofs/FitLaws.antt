-- What fits stays within.
use Rattle.std.proofs.Common.{◌≡◌, ◌<◌, ℕ, ◌+◌, ◌≤◌, ◌&&◌, ◌||◌, Bool, true, false, cond, List, [], ◌∷◌, refl, sym, ap, subst, ◌∙◌, arith}
use Rattle.std.specs.Prelude.{Option, Some, None, nat_lt, filter, map, bytes_eq}
use Rattle.std.specs.Option.{option_or}
use Rattle.std.specs.List.{list_any}
use Rattle.std.specs.Cmp.Lexicographic.{same_text}
use Rattle.std.proofs.lemmas.Bool.{and_from, lt-leb, ltb-false}
use Rattle.std.proofs.lemmas.Option.{none-some}
use Rattle.gk_commands.specs.declared.commands.Command.{Command}
use Rattle.gk_commands.specs.declared.commands.LimitKind.{LimitKind}
use Rattle.gk_commands.specs.declared.commands.LimitKind.TheVariants.{Session, Total, Interzone}
use Rattle.compiler.specs.Limit.{limit_of, remote_limit_of}
use Rattle.bandwidth.specs.declared.open_call.OpenCall.{OpenCall}
use Rattle.bandwidth.specs.declared.over.Over.{Over}
use Rattle.bandwidth.specs.declared.over.Over.TheVariants as overs
use Rattle.bandwidth.specs.Calls.{AreInOrder, call_of, without_call, with_changed}
use Rattle.bandwidth.specs.Use.{zones_touched, touches, is_interzone, units_of, total_of, interzone_of, remote_of}
use Rattle.bandwidth.specs.Fits.{Try, is_above, is_no_raise, tries_of, over_of}
use Rattle.bandwidth.specs.Trying.{try_of, sum_beside, first_over, over_if_above, over_in}
use Rattle.bandwidth.specs.FitLaws.{OpeningStaysWithin, RaiseStaysWithin, RaiseWasWithin}
use Rattle.bandwidth.proofs.CallLemmas.{none_if_closed, has_its_number, without_none}
use Rattle.bandwidth.proofs.SumLemmas.{units_with, units_without, units_changed}
use Rattle.bandwidth.proofs.FitLemmas.{one_try, in_turn, first_of_two, over_if_raise}

-- ---- what names nothing is within
neither : (a b : Option Over) → option_or a b ≡ None → (a ≡ None) × (b ≡ None)
neither None b h = (refl, h)
neither (Some x) b h = absurd (none-some x (sym h))

not_above : (sum : ℕ) (limit : Option ℕ) (over : Over) → over_if_above sum limit over ≡ None
    → (most : ℕ) → limit ≡ Some most → sum ≤ most
not_above sum limit over h most is =
    by (is_above sum (Some most)) refl (ap (λ l. over_if_above sum l over) (sym is) ∙ h)
  where
    by : (b : Bool) → nat_lt most sum ≡ b → cond b (Some over) None ≡ None → sum ≤ most
    by true e named = absurd (none-some over (sym named))
    by false e named = ltb-false most sum e

first_not_above : (t : Try) → first_over (t ∷ []) ≡ None → (most : ℕ) → t.limit ≡ Some most
    → t.sum ≤ most
first_not_above t h most is = not_above t.sum t.limit t.over (sym (one_try t) ∙ h) most is

-- one kind of sum, in each zone that the call touches
module _ (commands : List Command) (kind : LimitKind) (others : List OpenCall)
    (call : OpenCall) where
  abbrev try : List ℕ → Try
  try = try_of commands kind others call

  each_within : (zones : List (List ℕ)) → first_over (map try zones) ≡ None
      → (zone : List ℕ) (most : ℕ) → list_any (bytes_eq zone) zones ≡ true
      → limit_of commands kind zone ≡ Some most → sum_beside kind others call zone ≤ most
  each_within [] h zone most there is = cc
  each_within (first ∷ zones) h zone most there is =
      let both = neither (first_over (try first ∷ [])) (first_over (map try zones))
      (sym (first_of_two (try first ∷ []) (map try zones)) ∙ h) in
      by (bytes_eq zone first) refl there both.0
      (λ later. each_within zones both.1 zone most later is)
    where
      by : (b : Bool) → bytes_eq zone first ≡ b → (b || list_any (bytes_eq zone) zones) ≡ true
          → first_over (try first ∷ []) ≡ None
          → (list_any (bytes_eq zone) zones ≡ true → sum_beside kind others call zone ≤ most)
          → sum_beside kind others call zone ≤ most
      by true e here named rest =
          first_not_above (try zone)
          (ap (λ z. first_over (try z ∷ [])) (same_text zone first (sym e)) ∙ named) most is
      by false e later named rest = rest later

-- ---- a call that fits beside the others
pub record FitsBeside (commands : List Command) (others : List OpenCall) (call : OpenCall)
    : Type 0 where
  pub session : (zone : List ℕ) (limit : ℕ) → touches zone call ≡ true
      → limit_of commands Session zone ≡ Some limit → call.units ≤ limit
  pub total : (zone : List ℕ) (limit : ℕ) → touches zone call ≡ true
      → limit_of commands Total zone ≡ Some limit → total_of others zone + call.units ≤ limit
  pub interzone : (zone : List ℕ) (limit : ℕ) → touches zone call ≡ true
      → is_interzone call ≡ true
      → limit_of commands Interzone zone ≡ Some limit
      → interzone_of others zone + call.units ≤ limit
  pub remotely : (limit : ℕ) → call.remote ≡ true → remote_limit_of commands ≡ Some limit
      → remote_of others + call.units ≤ limit

pub fits_beside : (commands : List Command) (others : List OpenCall) (call : OpenCall)
    → first_over (tries_of commands others call) ≡ None → FitsBeside commands others call
fits_beside commands others call h =
    let session = neither _ _ (sym (in_turn commands others call) ∙ h) in
    let total = neither _ _ session.1 in
    let last = neither _ _ total.1 in
    record {
      session = λ zone limit touched is.
          each_within commands Session others call (zones_touched call) session.0 zone limit touched
          is;
      total = λ zone limit touched is.
          each_within commands Total others call (zones_touched call) total.0 zone limit touched is;
      interzone = λ zone limit touched between is.
          each_within commands Interzone others call (zones_touched call)
          (ap (λ b. cond b (over_in commands Interzone others call) None) (sym between) ∙ last.0)
          zone limit touched is;
      remotely = λ limit marked is.
          not_above (remote_of others + call.units) (remote_limit_of commands) overs.Remote
          (ap (λ b. cond b (over_if_above (remote_of others + call.units) (remote_limit_of commands)
          overs.Remote) None) (sym marked) ∙ last.1) limit is;
    }

-- ---- the laws
-- a sum that holds the call is that of the others and the call's own bandwidth
counted : (t : Bool) (units : ℕ) → t ≡ true → cond t units 0 ≡ units
counted t units h = ap (λ b. cond b units 0) h

pub opening_within : OpeningStaysWithin
opening_within commands calls call h closed = record {
  session = fits.session;
  total = λ zone limit touched is.
      let all = units_with (touches zone) calls call closed in
      let own = counted (touches zone call) call.units touched in
      let within = fits.total zone limit touched is in omega (arith, all, own, within);
  interzone = λ zone limit touched between is.
      let all = units_with (λ c. touches zone c && is_interzone c) calls call closed in
      let own = counted (touches zone call && is_interzone call) call.units
      (and_from (touches zone call) (is_interzone call) touched between) in
      let within = fits.interzone zone limit touched between is in omega (arith, all, own, within);
  remotely = λ limit marked is.
      let all = units_with (λ c. c.remote) calls call closed in
      let own = counted call.remote call.units marked in
      let within = fits.remotely limit marked is in omega (arith, all, own, within);
}
  where
    fits : FitsBeside commands calls call
    fits =
        subst (λ others. FitsBeside commands others call) (without_none calls call.number closed)
        (fits_beside commands (without_call calls call.number) call
        (sym (over_if_raise commands calls call
        (ap (λ o. is_no_raise o call.units) (none_if_closed calls call.number closed))) ∙ h))

-- a call that is to get more bandwidth, with which it fits beside the others
module _ (commands : List Command) (calls : List OpenCall) (number units : ℕ) (held : OpenCall)
    (found : call_of calls number ≡ Some held) (more : held.units < units)
    (h : over_of commands calls (record held { units = units }) ≡ None) (order : AreInOrder calls)
  where
    raise_fits : FitsBeside commands (without_call calls number) (record held { units = units })
    raise_fits =
        let its = has_its_number calls number held found in
        subst (λ n. FitsBeside commands (without_call calls n) (record held { units = units })) its
        (fits_beside commands (without_call calls held.number) (record held { units = units })
        (sym (over_if_raise commands calls (record held { units = units })
        (ap (λ o. is_no_raise o units) (ap (call_of calls) its ∙ found)
        ∙ lt-leb units held.units more)) ∙ h))

    -- a sum that counts the call is that of the others and its own bandwidth
    before_raise : (test : OpenCall → Bool) → test held ≡ true
        → units_of (filter test calls)
        ≡ units_of (filter test (without_call calls number)) + held.units
    before_raise test counts =
        let without = units_without test calls number held order found in
        let old = counted (test held) held.units counts in omega (arith, without, old)

    after_raise : (test : OpenCall → Bool)
        → ((u : ℕ) → test (record held { units = u }) ≡ test held) → test held ≡ true
        → units_of (filter test (with_changed calls number units))
        ≡ units_of (filter test (without_call calls number)) + units
    after_raise test still counts =
        let changed = units_changed test calls number units held order found (still units) in
        let without = units_without test calls number held order found in
        let old = counted (test held) held.units counts in
        let new = counted (test held) units counts in omega (arith, changed, without, old, new)

pub raise_within : RaiseStaysWithin
raise_within commands calls number units held found more h order = record {
  session = fits.session;
  total = λ zone limit touched is.
      let within = fits.total zone limit touched is in
      let all = moved (touches zone) (λ u. refl) touched in omega (arith, within, all);
  interzone = λ zone limit touched between is.
      let within = fits.interzone zone limit touched between is in
      let all = moved (λ c. touches zone c && is_interzone c) (λ u. refl)
      (and_from (touches zone held) (is_interzone held) touched between) in
      omega (arith, within, all);
  remotely = λ limit marked is.
      let within = fits.remotely limit marked is in
      let all = moved (λ c. c.remote) (λ u. refl) marked in omega (arith, within, all);
}
  where
    fits : FitsBeside commands (without_call calls number) (record held { units = units })
    fits = raise_fits commands calls number units held found more h order

    moved : (test : OpenCall → Bool)
        → ((u : ℕ) → test (record held { units = u }) ≡ test held) → test held ≡ true
        → units_of (filter test (with_changed calls number units))
        ≡ units_of (filter test (without_call calls number)) + units
    moved test still counts =
        after_raise commands calls number units held found more h order test still counts

pub raised_from_within : RaiseWasWithin
raised_from_within commands calls number units held found more h order = record {
  session = λ zone limit touched is.
      let within = fits.session zone limit touched is in omega (arith, within, more);
  total = λ zone limit touched is.
      let within = fits.total zone limit touched is in
      let all = stood (touches zone) touched in omega (arith, within, all, more);
  interzone = λ zone limit touched between is.
      let within = fits.interzone zone limit touched between is in
      let all = stood (λ c. touches zone c && is_interzone c)
      (and_from (touches zone held) (is_interzone held) touched between) in
      omega (arith, within, all, more);
  remotely = λ limit marked is.
      let within = fits.remotely limit marked is in
      let all = stood (λ c. c.remote) marked in omega (arith, within, all, more);
}
  where
    fits : FitsBeside commands (without_call calls number) (record held { units = units })
    fits = raise_fits commands calls number units held found more h order

    stood : (test : OpenCall → Bool) → test held ≡ true
        → units_of (filter test calls)
        ≡ units_of (filter test (without_call calls number)) + held.units
    stood test counts =
        before_raise commands calls number units held found more h order test counts
