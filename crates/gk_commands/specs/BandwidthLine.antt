-- What a line that begins with `bandwidth` says, by the words after that. Sizes are in kbit/s.
use Rattle.std.specs.Prelude.{ℕ, List, [], ◌∷◌, Result, Err, codes, bytes_eq, if◌then◌else◌}
use Rattle.gk_terms.specs.Name.{name_of}
use Rattle.gk_terms.specs.Number.{number_of}
use Rattle.gk_commands.specs.declared.faults.FaultKind.{FaultKind}
use Rattle.gk_commands.specs.declared.faults.FaultKind.TheVariants.{UnknownCommand, Unsupported, Missing, BadName, BadNumber, Extra}
use Rattle.gk_commands.specs.declared.numbers.TheConstants.{MOST_KBPS, MOST_SESSION_KBPS}
use Rattle.gk_commands.specs.declared.commands.Command.{Command}
use Rattle.gk_commands.specs.declared.commands.Command.TheVariants.{BandwidthDefault, BandwidthZone, BandwidthRemote}
use Rattle.gk_commands.specs.declared.commands.LimitKind.{LimitKind}
use Rattle.gk_commands.specs.declared.commands.LimitKind.TheVariants.{Session, Total, Interzone}
use Rattle.gk_terms.specs.Fields.{◌>>=◌, field, nothing_more}

-- the greatest size of a limit of this kind
abbrev pub most_of : LimitKind → ℕ
most_of Session = MOST_SESSION_KBPS
most_of Total = MOST_KBPS
most_of Interzone = MOST_KBPS

-- ---- bandwidth total|interzone|session default SIZE,
-- ---- bandwidth total|interzone|session zone NAME SIZE
abbrev pub default_limit_at : LimitKind → List (List ℕ) → Result Command FaultKind
default_limit_at kind words = do
  size ← field Missing (number_of 1 (most_of kind)) BadNumber words
  nothing_more Extra (BandwidthDefault kind size.0) size.1

abbrev pub zone_limit_at : LimitKind → List (List ℕ) → Result Command FaultKind
zone_limit_at kind words = do
  zone ← field Missing name_of BadName words
  size ← field Missing (number_of 1 (most_of kind)) BadNumber zone.1
  nothing_more Extra (BandwidthZone kind zone.0 size.0) size.1

abbrev pub limit_at : LimitKind → List (List ℕ) → Result Command FaultKind
limit_at kind [] = Err Missing
limit_at kind (word ∷ words) =
    if bytes_eq word (codes "default") then default_limit_at kind words
    else (if bytes_eq word (codes "zone") then zone_limit_at kind words else Err UnknownCommand)

-- ---- bandwidth remote SIZE
abbrev pub remote_limit_at : List (List ℕ) → Result Command FaultKind
remote_limit_at words = do
  size ← field Missing (number_of 1 MOST_KBPS) BadNumber words
  nothing_more Extra (BandwidthRemote size.0) size.1

-- ---- bandwidth
abbrev pub bandwidth_at : List (List ℕ) → Result Command FaultKind
bandwidth_at [] = Err Missing
bandwidth_at (word ∷ words) =
    if bytes_eq word (codes "total") then limit_at Total words
    else (if bytes_eq word (codes "interzone") then limit_at Interzone words
    else (if bytes_eq word (codes "session") then limit_at Session words
    else (if bytes_eq word (codes "remote") then remote_limit_at words
    else (if bytes_eq word (codes "check-destination") then Err Unsupported
    else Err UnknownCommand))))
