-- What came of a server.
use Rattle.std.specs.Prelude.{◌≡◌, ℕ, List, length}
use Rattle.rulings.specs.State.{State}
use Rattle.rulings.specs.declared.limits.Limits.{Limits}
use Rattle.entry_bytes.specs.Entry.{PlainEntry}
use Rattle.live_desk.specs.Seats.{IsLawful}
use Rattle.seat_sessions.specs.declared.serving.Served.{Served}

-- so many sessions, which recorded as many events as some lawful history has
abbrev pub IsServed : State → ℕ → Served → Type 0
IsServed opening sessions served =
    (served.sessions ≡ sessions)
    × ((history : List PlainEntry) × IsLawful opening history × (length history ≡ served.records))

-- the limits that a server runs under
abbrev pub stated_limits : Limits
stated_limits =
    record { endpoints = 10000; calls = 50000; records = 1000000; reloads = 4096 }
