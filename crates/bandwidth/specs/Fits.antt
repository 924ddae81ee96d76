-- Whether a call fits the limits in force, and the first sum that would be above its limit. Cisco's
-- `bandwidth` command; the order is this project's profile.
use Rattle.std.specs.Prelude.{ℕ, ◌+◌, nat_lt, nat_le, Bool, false, List, [], ◌∷◌, ◌++◌, map, find, Option, Some, None, option_map, if◌then◌else◌}
use Rattle.gk_commands.specs.declared.commands.Command.{Command}
use Rattle.gk_commands.specs.declared.commands.LimitKind.{LimitKind}
use Rattle.gk_commands.specs.declared.commands.LimitKind.TheVariants.{Session, Total, Interzone}
use Rattle.compiler.specs.Limit.{limit_of, remote_limit_of}
use Rattle.bandwidth.specs.declared.open_call.OpenCall.{OpenCall}
use Rattle.bandwidth.specs.declared.over.Over.{Over}
use Rattle.bandwidth.specs.declared.over.Over.TheVariants as overs
use Rattle.bandwidth.specs.Calls.{call_of, without_call}
use Rattle.bandwidth.specs.Use.{zones_touched, is_interzone, total_of, interzone_of, remote_of}

-- a sum, its limit if there is one, and what is named if the sum is above it
pub record Try : Type 0 where
  pub sum : ℕ
  pub limit : Option ℕ
  pub over : Over

abbrev pub is_above : ℕ → Option ℕ → Bool
is_above sum None = false
is_above sum (Some limit) = nat_lt limit sum

abbrev pub fails : Try → Bool
fails t = is_above t.sum t.limit

-- one kind of sum for each zone that the call touches; a zone that is not local has no limit
abbrev pub tries_of_kind : List Command → LimitKind → (List ℕ → ℕ) → OpenCall → List Try
tries_of_kind commands kind sum call =
    map (λ zone. record {
      sum = sum zone;
      limit = limit_of commands kind zone;
      over = overs.Zone kind zone;
    }) (zones_touched call)

-- the sum of all calls marked as remote
abbrev pub remote_try : List Command → List OpenCall → OpenCall → Try
remote_try commands others call = record {
  sum = remote_of others + call.units;
  limit = remote_limit_of commands;
  over = overs.Remote;
}

-- the sums of a call beside the others, in the order in which they are tried
abbrev pub tries_of : List Command → List OpenCall → OpenCall → List Try
tries_of commands others call =
    tries_of_kind commands Session (λ zone. call.units) call
    ++ tries_of_kind commands Total (λ zone. total_of others zone + call.units) call
    ++ (if is_interzone call
    then tries_of_kind commands Interzone (λ zone. interzone_of others zone + call.units) call
    else [])
    ++ (if call.remote then remote_try commands others call ∷ [] else [])

-- whether a call is open with at least this bandwidth
abbrev pub is_no_raise : Option OpenCall → ℕ → Bool
is_no_raise None units = false
is_no_raise (Some held) units = nat_le units held.units

-- the first sum that would be above its limit; none if the call fits. A call of the number that is
-- open is not counted beside it, and asking for no more than that call has always fits
unfoldable pub over_of : List Command → List OpenCall → OpenCall → Option Over
over_of commands calls call =
    if is_no_raise (call_of calls call.number) call.units then None
    else option_map (λ t. t.over)
    (find fails (tries_of commands (without_call calls call.number) call))
