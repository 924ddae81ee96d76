-- Maps by name, in which an entry without calls may go.
use Rattle.std.specs.Prelude.{Bool, Option, Some, None, if◌then◌else◌}

-- what was found under a name, if it has calls
abbrev pub that_has_calls : {V : Type 0} → (V → Bool) → Option V → Option V
that_has_calls has_calls None = None
that_has_calls has_calls (Some value) = if has_calls value then Some value else None
