-- The sums of a call beside the others, and the first of them that is above its limit.
use Rattle.std.proofs.Common.{◌≡◌, ℕ, ◌+◌, Bool, true, false, cond, List, [], ◌∷◌, ◌++◌, refl, ap, ◌∙◌, arith}
use Rattle.std.specs.Prelude.{Option, Some, None, find, filter, option_map, if◌then◌else◌}
use Rattle.std.specs.Option.{option_or}
use Rattle.gk_commands.specs.declared.commands.Command.{Command}
use Rattle.gk_commands.specs.declared.commands.LimitKind.TheVariants.{Session, Total, Interzone}
use Rattle.bandwidth.specs.declared.open_call.OpenCall.{OpenCall}
use Rattle.bandwidth.specs.declared.over.Over.{Over}
use Rattle.bandwidth.specs.Calls.{AreInOrder, call_of, without_call}
use Rattle.bandwidth.specs.Use.{is_interzone, units_of, remote_of}
use Rattle.bandwidth.specs.Fits.{Try, fails, is_no_raise, tries_of_kind, remote_try, tries_of, over_of}
use Rattle.bandwidth.specs.declared.over.Over.TheVariants as overs
use Rattle.compiler.specs.Limit.{remote_limit_of}
use Rattle.bandwidth.specs.Trying.{part_found, sum_beside, first_over, over_if_above, over_in, over_between, over_remotely}
use Rattle.bandwidth.proofs.CallLemmas.{closed_if_none, without_none}
use Rattle.bandwidth.proofs.SumLemmas.{units_without}

-- a sum is that of the other calls and what the call counts that has the number
pub beside : (test : OpenCall → Bool) (calls : List OpenCall) (number : ℕ) → AreInOrder calls
    → units_of (filter test (without_call calls number)) + part_found test (call_of calls number)
    ≡ units_of (filter test calls)
beside test calls number order = by (call_of calls number) refl
  where
    by : (o : Option OpenCall) → call_of calls number ≡ o
        → units_of (filter test (without_call calls number)) + part_found test o
        ≡ units_of (filter test calls)
    by None none =
        let same = ap (λ cs. units_of (filter test cs))
        (without_none calls number (closed_if_none calls number none)) in omega (arith, same)
    by (Some held) found = units_without test calls number held order found

-- ---- the first that fails
found_in_two : (tries more : List Try)
    → find fails (tries ++ more) ≡ option_or (find fails tries) (find fails more)
found_in_two [] more = refl
found_in_two (t ∷ tries) more = by (fails t) (found_in_two tries more)
  where
    by : (b : Bool) → find fails (tries ++ more) ≡ option_or (find fails tries) (find fails more)
        → cond b (Some t) (find fails (tries ++ more))
        ≡ option_or (cond b (Some t) (find fails tries)) (find fails more)
    by true rest = refl
    by false rest = rest

pub first_of_two : (tries more : List Try)
    → first_over (tries ++ more) ≡ option_or (first_over tries) (first_over more)
first_of_two tries more =
    ap (option_map (λ t. t.over)) (found_in_two tries more)
    ∙ out (find fails tries) (find fails more)
  where
    out : (a b : Option Try)
        → option_map (λ t. t.over) (option_or a b)
        ≡ option_or (option_map (λ t. t.over) a) (option_map (λ t. t.over) b)
    out None b = refl
    out (Some t) b = refl

pub one_try : (t : Try) → first_over (t ∷ []) ≡ cond (fails t) (Some t.over) None
one_try t = by (fails t)
  where
    by : (b : Bool) → option_map (λ u. u.over) (cond b (Some t) None) ≡ cond b (Some t.over) None
    by true = refl
    by false = refl

-- in the order in which they are tried
pub in_turn : (commands : List Command) (others : List OpenCall) (call : OpenCall)
    → first_over (tries_of commands others call)
    ≡ option_or (over_in commands Session others call)
    (option_or (over_in commands Total others call)
    (option_or (over_between commands others call) (over_remotely commands others call)))
in_turn commands others call =
    first_of_two (session ++ total ++ interzone) remotely
    ∙ ap (λ o. option_or o (first_over remotely))
    (first_of_two (session ++ total) interzone
    ∙ ap (λ o. option_or o (first_over interzone)) (first_of_two session total))
    ∙ regrouped (first_over session) (first_over total) (first_over interzone) (first_over remotely)
    ∙ ap (λ o. option_or (first_over session)
    (option_or (first_over total) (option_or o (first_over remotely))))
    (if_between (is_interzone call))
    ∙ ap (λ o. option_or (first_over session)
    (option_or (first_over total) (option_or (over_between commands others call) o)))
    (if_remote call.remote)
  where
    session : List Try
    session = tries_of_kind commands Session (sum_beside Session others call) call

    total : List Try
    total = tries_of_kind commands Total (sum_beside Total others call) call

    interzone : List Try
    interzone =
        if is_interzone call
        then tries_of_kind commands Interzone (sum_beside Interzone others call) call
        else []

    remotely : List Try
    remotely = if call.remote then remote_try commands others call ∷ [] else []

    regrouped : (a b c d : Option Over)
        → option_or (option_or (option_or a b) c) d ≡ option_or a (option_or b (option_or c d))
    regrouped (Some x) b c d = refl
    regrouped None (Some x) c d = refl
    regrouped None None c d = refl

    if_between : (b : Bool)
        → first_over
        (cond b (tries_of_kind commands Interzone (sum_beside Interzone others call) call) [])
        ≡ cond b (over_in commands Interzone others call) None
    if_between true = refl
    if_between false = refl

    if_remote : (b : Bool)
        → first_over (cond b (remote_try commands others call ∷ []) [])
        ≡ cond b
        (over_if_above (remote_of others + call.units) (remote_limit_of commands) overs.Remote) None
    if_remote true = one_try (remote_try commands others call)
    if_remote false = refl

-- ---- the whole
module _ (commands : List Command) (calls : List OpenCall) (call : OpenCall) where
  pub over_if_no_raise : is_no_raise (call_of calls call.number) call.units ≡ true
      → over_of commands calls call ≡ None
  unfolding over_of
  over_if_no_raise h =
      ap (λ t. cond t None (first_over (tries_of commands (without_call calls call.number) call))) h

  pub over_if_raise : is_no_raise (call_of calls call.number) call.units ≡ false
      → over_of commands calls call
      ≡ first_over (tries_of commands (without_call calls call.number) call)
  unfolding over_of
  over_if_raise h =
      ap (λ t. cond t None (first_over (tries_of commands (without_call calls call.number) call))) h
