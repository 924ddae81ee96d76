-- The limits of a run.
use Rattle.std.specs.Prelude.{ℕ, Bool, ◌&&◌, nat_le}
use Rattle.gk_terms.specs.declared.limits.TheConstants.{MOST_ENDPOINTS, MOST_CALLS, MOST_RECORDS, MOST_RELOADS}
use Rattle.rulings.specs.declared.limits.Limits.{Limits}

-- from 1 to the stated limit
abbrev pub is_limit : ℕ → ℕ → Bool
is_limit most n = nat_le 1 n && nat_le n most

-- each limit is in its range
abbrev pub are_limits : Limits → Bool
are_limits l =
    is_limit MOST_ENDPOINTS l.endpoints && is_limit MOST_CALLS l.calls
    && is_limit MOST_RECORDS l.records && is_limit MOST_RELOADS l.reloads
