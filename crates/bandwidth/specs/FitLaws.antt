-- What fits stays within: after a call that fits is opened, or raised, no sum in which it counts is
-- above its limit.
use Rattle.std.specs.Prelude.{◌≡◌, ◌≤◌, ◌<◌, ◌+◌, ℕ, true, false, List, Some, None}
use Rattle.gk_commands.specs.declared.commands.Command.{Command}
use Rattle.gk_commands.specs.declared.commands.LimitKind.TheVariants.{Session, Total, Interzone}
use Rattle.compiler.specs.Limit.{limit_of, remote_limit_of}
use Rattle.bandwidth.specs.declared.open_call.OpenCall.{OpenCall}
use Rattle.bandwidth.specs.declared.over.Over.{Over}
use Rattle.bandwidth.specs.declared.over.Over.TheVariants as overs
use Rattle.bandwidth.specs.Calls.{AreInOrder, call_of, is_open, with_call, without_call, with_changed}
use Rattle.bandwidth.specs.Use.{touches, is_interzone, total_of, interzone_of, remote_of}
use Rattle.bandwidth.specs.Fits.{is_no_raise, over_of}

-- no sum in which the call counts is above its limit, if it has one
pub record SumsAreWithin (commands : List Command) (calls : List OpenCall) (call : OpenCall)
    : Type 0 where
  pub session : (zone : List ℕ) (limit : ℕ) → touches zone call ≡ true
      → limit_of commands Session zone ≡ Some limit → call.units ≤ limit
  pub total : (zone : List ℕ) (limit : ℕ) → touches zone call ≡ true
      → limit_of commands Total zone ≡ Some limit → total_of calls zone ≤ limit
  pub interzone : (zone : List ℕ) (limit : ℕ) → touches zone call ≡ true
      → is_interzone call ≡ true
      → limit_of commands Interzone zone ≡ Some limit → interzone_of calls zone ≤ limit
  pub remotely : (limit : ℕ) → call.remote ≡ true → remote_limit_of commands ≡ Some limit
      → remote_of calls ≤ limit

-- a new call that fits is opened
abbrev pub OpeningStaysWithin : Type 0
OpeningStaysWithin =
    (commands : List Command) (calls : List OpenCall) (call : OpenCall)
    → over_of commands calls call ≡ None → is_open calls call.number ≡ false
    → SumsAreWithin commands (with_call calls call) call

-- a call gets more bandwidth with which it fits
abbrev pub RaiseStaysWithin : Type 0
RaiseStaysWithin =
    (commands : List Command) (calls : List OpenCall) (number units : ℕ) (held : OpenCall)
    → call_of calls number ≡ Some held → held.units < units
    → over_of commands calls (record held { units = units }) ≡ None → AreInOrder calls
    → SumsAreWithin commands (with_changed calls number units) (record held { units = units })

-- and it was within before
abbrev pub RaiseWasWithin : Type 0
RaiseWasWithin =
    (commands : List Command) (calls : List OpenCall) (number units : ℕ) (held : OpenCall)
    → call_of calls number ≡ Some held → held.units < units
    → over_of commands calls (record held { units = units }) ≡ None → AreInOrder calls
    → SumsAreWithin commands calls held

-- the sum that is named is one in which the call counts, and with the call beside the others it is
-- above its limit
pub data IsAbove (commands : List Command) (others : List OpenCall) (call : OpenCall)
    : Over → Type 0 where
  OfSession : (zone : List ℕ) (limit : ℕ) → touches zone call ≡ true
      → limit_of commands Session zone ≡ Some limit → limit < call.units
      → IsAbove commands others call (overs.Zone Session zone)
  OfTotal : (zone : List ℕ) (limit : ℕ) → touches zone call ≡ true
      → limit_of commands Total zone ≡ Some limit → limit < total_of others zone + call.units
      → IsAbove commands others call (overs.Zone Total zone)
  OfInterzone : (zone : List ℕ) (limit : ℕ) → touches zone call ≡ true → is_interzone call ≡ true
      → limit_of commands Interzone zone ≡ Some limit
      → limit < interzone_of others zone + call.units
      → IsAbove commands others call (overs.Zone Interzone zone)
  OfRemote : (limit : ℕ) → call.remote ≡ true → remote_limit_of commands ≡ Some limit
      → limit < remote_of others + call.units → IsAbove commands others call overs.Remote

-- a call that does not fit asks for more than the open call of its number has, if there is one, and
-- what is named is above its limit
abbrev pub RefusalNamesASum : Type 0
RefusalNamesASum =
    (commands : List Command) (calls : List OpenCall) (call : OpenCall) (over : Over)
    → over_of commands calls call ≡ Some over
    → (is_no_raise (call_of calls call.number) call.units ≡ false)
    × IsAbove commands (without_call calls call.number) call over
