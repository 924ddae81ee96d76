-- A list of open calls in order of number: which call has a number, who owns a call, and what
-- opening, changing and closing a call leaves.
use Rattle.std.specs.Prelude.{◌≡◌, ◌≤◌, ◌<◌, ℕ, ◌==◌, nat_lt, nat_le, Bool, not, List, ◌∷◌, ◌++◌, length, map, filter, find, slice_get, Option, Some, None, Result, Ok, Err, bytes_eq, if◌then◌else◌}
use Rattle.std.specs.List.{list_any}
use Rattle.bandwidth.specs.declared.open_call.OpenCall.{OpenCall}
use Rattle.bandwidth.specs.declared.faults.CallsFault.{CallsFault}
use Rattle.bandwidth.specs.declared.faults.CallsFault.TheVariants as faults

-- ---- who is found
-- whether the call has this number
abbrev pub has_call_number : ℕ → OpenCall → Bool
has_call_number number call = call.number == number

-- the call with this number
abbrev pub call_of : List OpenCall → ℕ → Option OpenCall
call_of calls number = find (has_call_number number) calls

-- a call with this number is open
abbrev pub is_open : List OpenCall → ℕ → Bool
is_open calls number = list_any (has_call_number number) calls

-- whether the endpoint with this ID owns the call
abbrev pub has_owner : List ℕ → OpenCall → Bool
has_owner id call = bytes_eq call.owner id

-- the endpoint with this ID owns a call
abbrev pub owns : List OpenCall → List ℕ → Bool
owns calls id = list_any (has_owner id) calls

-- ---- what changes
-- with a new call, in order of number
abbrev pub with_call : List OpenCall → OpenCall → List OpenCall
with_call calls call =
    filter (λ c. nat_lt c.number call.number) calls
    ++ call ∷ filter (λ c. nat_lt call.number c.number) calls

-- without the call of this number
abbrev pub without_call : List OpenCall → ℕ → List OpenCall
without_call calls number = filter (λ c. not (has_call_number number c)) calls

-- a call of this number with this bandwidth, and another as it is
abbrev pub with_units : ℕ → ℕ → OpenCall → OpenCall
with_units number units call =
    if has_call_number number call then record call { units = units } else call

abbrev pub with_changed : List OpenCall → ℕ → ℕ → List OpenCall
with_changed calls number units = map (with_units number units) calls

-- ---- open calls
-- the calls, and how many there may be
pub record OpenCallsParts : Type 0 where
  pub calls : List OpenCall
  pub most : ℕ

-- the calls after opening one more
abbrev pub opened_in : OpenCallsParts → OpenCall → Result OpenCallsParts CallsFault
opened_in c call =
    if is_open c.calls call.number then Err faults.CallOpen
    else (if nat_le c.most (length c.calls) then Err faults.Full
    else Ok (record c { calls = with_call c.calls call }))

-- these calls, if the call that was found belongs to this ID
abbrev pub unless_refused : OpenCallsParts → List ℕ → List OpenCall → Option OpenCall
    → Result OpenCallsParts CallsFault
unless_refused c id calls None = Err faults.NoCall
unless_refused c id calls (Some held) =
    if has_owner id held then Ok (record c { calls = calls }) else Err faults.NotYours

-- the calls after the owner gave one another bandwidth
abbrev pub changed_in : OpenCallsParts → ℕ → List ℕ → ℕ → Result OpenCallsParts CallsFault
changed_in c number id units =
    unless_refused c id (with_changed c.calls number units) (call_of c.calls number)

-- the calls after the owner closed one
abbrev pub closed_in : OpenCallsParts → ℕ → List ℕ → Result OpenCallsParts CallsFault
closed_in c number id =
    unless_refused c id (without_call c.calls number) (call_of c.calls number)

-- ---- what open calls always keep
-- the calls are in order of number, so that no two share one
abbrev pub AreInOrder : List OpenCall → Type 0
AreInOrder calls =
    (i j : ℕ) (c d : OpenCall) → i < j
    → slice_get calls i ≡ Some c → slice_get calls j ≡ Some d → c.number < d.number

pub record AreOpenCalls (c : OpenCallsParts) : Type 0 where
  pub ordered : AreInOrder c.calls
  pub within : length c.calls ≤ c.most
