-- What open calls keep: the sums of their calls, and no more calls than there may be.
use Rattle.std.specs.Prelude.{◌≤◌, ℕ, List, length, Option, Some, None, Result, Ok, Err, if◌then◌else◌}
use Rattle.bandwidth.specs.declared.open_call.OpenCall.{OpenCall}
use Rattle.bandwidth.specs.declared.faults.CallsFault.{CallsFault}
use Rattle.bandwidth.specs.declared.faults.CallsFault.TheVariants as faults
use Rattle.bandwidth.specs.Calls.{has_owner, call_of}
use Rattle.bandwidth.specs.Sums.{Counts, Uses, AreSumsOf}

pub record AreKept (calls : List OpenCall) (most : ℕ) (owners : Counts) (zones : Uses)
    (remote : ℕ) : Type 0 where
  pub summed : AreSumsOf owners zones remote calls
  pub within : length calls ≤ most

-- the call that was found, if it belongs to this ID
abbrev pub if_owned : List ℕ → Option OpenCall → Result OpenCall CallsFault
if_owned id None = Err faults.NoCall
if_owned id (Some held) = if has_owner id held then Ok held else Err faults.NotYours

abbrev pub owned_in : List OpenCall → ℕ → List ℕ → Result OpenCall CallsFault
owned_in calls number id = if_owned id (call_of calls number)
