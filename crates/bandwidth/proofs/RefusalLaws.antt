-- What does not fit is above a limit.
use Rattle.std.proofs.Common.{◌≡◌, ◌⊎◌, inl, inr, ⊎_elim, ℕ, ◌+◌, ◌<◌, ◌||◌, Bool, true, false, cond, List, [], ◌∷◌, refl, sym, ap, subst, ◌∙◌, true≢false}
use Rattle.std.specs.Prelude.{Option, Some, None, map, bytes_eq}
use Rattle.std.specs.Option.{option_or}
use Rattle.std.specs.List.{list_any}
use Rattle.std.proofs.lemmas.Bool.{ltb-true}
use Rattle.std.proofs.lemmas.Cmp.{nat_list_eq_equiv}
use Rattle.std.proofs.lemmas.Option.{none-some, same_Some}
use Rattle.gk_commands.specs.declared.commands.Command.{Command}
use Rattle.gk_commands.specs.declared.commands.LimitKind.{LimitKind}
use Rattle.gk_commands.specs.declared.commands.LimitKind.TheVariants.{Session, Total, Interzone}
use Rattle.compiler.specs.Limit.{limit_of, remote_limit_of}
use Rattle.bandwidth.specs.declared.open_call.OpenCall.{OpenCall}
use Rattle.bandwidth.specs.declared.over.Over.{Over}
use Rattle.bandwidth.specs.declared.over.Over.TheVariants as overs
use Rattle.bandwidth.specs.Calls.{call_of, without_call}
use Rattle.bandwidth.specs.Use.{zones_touched, is_interzone, remote_of}
use Rattle.bandwidth.specs.Fits.{Try, is_above, fails, is_no_raise, tries_of}
use Rattle.bandwidth.specs.Trying.{try_of, sum_beside, first_over, over_if_above, over_in, over_between, over_remotely}
use Rattle.bandwidth.specs.FitLaws.{IsAbove, OfSession, OfTotal, OfInterzone, OfRemote, RefusalNamesASum}
use Rattle.bandwidth.proofs.FitLemmas.{one_try, in_turn, first_of_two, over_if_no_raise, over_if_raise}

-- a limit that a sum is above
record Passed (sum : ℕ) (limit : Option ℕ) : Type 0 where
  most : ℕ
  is : limit ≡ Some most
  above : most < sum

passed : (sum : ℕ) (limit : Option ℕ) → is_above sum limit ≡ true → Passed sum limit
passed sum None h = absurd (true≢false (sym h))
passed sum (Some most) h = record { most = most; is = refl; above = ltb-true most sum h }

-- one of two names it
one_of_two : (a b : Option Over) (over : Over) → option_or a b ≡ Some over
    → (a ≡ Some over) ⊎ (b ≡ Some over)
one_of_two None b over h = inr h
one_of_two (Some x) b over h = inl h

or_true : (a b : Bool) → b ≡ true → (a || b) ≡ true
or_true true b h = refl
or_true false b h = h

-- ---- one kind of sum
module _ (commands : List Command) (kind : LimitKind) (others : List OpenCall)
    (call : OpenCall) where
  record Named (zones : List (List ℕ)) (over : Over) : Type 0 where
    zone : List ℕ
    there : list_any (bytes_eq zone) zones ≡ true
    limit : Passed (sum_beside kind others call zone) (limit_of commands kind zone)
    is : overs.Zone kind zone ≡ over

  abbrev try : List ℕ → Try
  try = try_of commands kind others call

  named : (zones : List (List ℕ)) (over : Over) → first_over (map try zones) ≡ Some over
      → Named zones over
  named [] over h = absurd (none-some over h)
  named (first ∷ zones) over h =
      by (fails (try first)) refl
      (ap (λ o. option_or o (first_over (map try zones))) (sym (one_try (try first)))
      ∙ sym (first_of_two (try first ∷ []) (map try zones)) ∙ h)
      (named zones over)
    where
      by : (b : Bool) → fails (try first) ≡ b
          → option_or (cond b (Some (overs.Zone kind first)) None) (first_over (map try zones))
          ≡ Some over
          → (first_over (map try zones) ≡ Some over → Named zones over)
          → Named (first ∷ zones) over
      by true e here rest = record {
        zone = first;
        there =
            ap (λ t. t || list_any (bytes_eq first) zones) (nat_list_eq_equiv.refl first);
        limit = passed (sum_beside kind others call first) (limit_of commands kind first) e;
        is = same_Some (overs.Zone kind first) over here;
      }
      by false e later rest =
          let found = rest later in
          record {
            zone = found.zone;
            there =
                or_true (bytes_eq found.zone first) (list_any (bytes_eq found.zone) zones)
                found.there;
            limit = found.limit;
            is = found.is;
          }

-- ---- the law
module _ (commands : List Command) (others : List OpenCall) (call : OpenCall) (over : Over) where
  above_session : over_in commands Session others call ≡ Some over
      → IsAbove commands others call over
  above_session h =
      let found = named commands Session others call (zones_touched call) over h in
      subst (IsAbove commands others call) found.is
      (OfSession found.zone found.limit.most found.there found.limit.is found.limit.above)

  above_total : over_in commands Total others call ≡ Some over → IsAbove commands others call over
  above_total h =
      let found = named commands Total others call (zones_touched call) over h in
      subst (IsAbove commands others call) found.is
      (OfTotal found.zone found.limit.most found.there found.limit.is found.limit.above)

  above_interzone : over_between commands others call ≡ Some over
      → IsAbove commands others call over
  above_interzone h = by (is_interzone call) refl h
    where
      by : (b : Bool) → is_interzone call ≡ b
          → cond b (over_in commands Interzone others call) None ≡ Some over
          → IsAbove commands others call over
      by false e named = absurd (none-some over named)
      by true e h =
          let found = named commands Interzone others call (zones_touched call) over h in
          subst (IsAbove commands others call) found.is
          (OfInterzone found.zone found.limit.most found.there e found.limit.is found.limit.above)

  above_remote : over_remotely commands others call ≡ Some over
      → IsAbove commands others call over
  above_remote h = by call.remote refl h
    where
      by_limit : (b : Bool) → call.remote ≡ true
          → is_above (remote_of others + call.units) (remote_limit_of commands) ≡ b
          → cond b (Some overs.Remote) None ≡ Some over → IsAbove commands others call over
      by_limit false marked e named = absurd (none-some over named)
      by_limit true marked e here =
          let found = passed (remote_of others + call.units) (remote_limit_of commands) e in
          subst (IsAbove commands others call) (same_Some overs.Remote over here)
          (OfRemote found.most marked found.is found.above)

      by : (b : Bool) → call.remote ≡ b
          → cond b
          (over_if_above (remote_of others + call.units) (remote_limit_of commands) overs.Remote)
          None
          ≡ Some over
          → IsAbove commands others call over
      by false e named = absurd (none-some over named)
      by true e h =
          by_limit (is_above (remote_of others + call.units) (remote_limit_of commands)) e refl h

  above : first_over (tries_of commands others call) ≡ Some over → IsAbove commands others call over
  above h =
      ⊎_elim above_session
      (λ later.
      ⊎_elim above_total
      (λ last.
      ⊎_elim above_interzone above_remote
      (one_of_two (over_between commands others call) (over_remotely commands others call) over
      last))
      (one_of_two (over_in commands Total others call)
      (option_or (over_between commands others call) (over_remotely commands others call)) over
      later))
      (one_of_two (over_in commands Session others call)
      (option_or (over_in commands Total others call)
      (option_or (over_between commands others call) (over_remotely commands others call))) over
      (sym (in_turn commands others call) ∙ h))

pub refusal_names_a_sum : RefusalNamesASum
refusal_names_a_sum commands calls call over h =
    by (is_no_raise (call_of calls call.number) call.units) refl
  where
    by : (b : Bool) → is_no_raise (call_of calls call.number) call.units ≡ b
        → (is_no_raise (call_of calls call.number) call.units ≡ false)
        × IsAbove commands (without_call calls call.number) call over
    by true e =
        absurd (none-some over (sym (over_if_no_raise commands calls call e) ∙ h))
    by false e = (
      e,
      above commands (without_call calls call.number) call over
          (sym (over_if_raise commands calls call e) ∙ h),
    )
