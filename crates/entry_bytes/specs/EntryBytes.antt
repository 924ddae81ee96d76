-- An entry as bytes: what it tells beside its event, and then the event.
use Rattle.std.specs.Prelude.{ℕ, List, ◌++◌, Option, Some}
use Rattle.rulings.specs.Events.{PlainEvent}
use Rattle.entry_bytes.specs.Entry.{PlainEntry, entry_told}
use Rattle.entry_bytes.specs.EventBytes.{event_bytes, event_in}
use Rattle.field_bytes.specs.Fields.{◌>>=◌}
use Rattle.entry_bytes.specs.VerdictBytes.{verdict_bytes, verdict_in}
use Rattle.entry_bytes.specs.declared.verdicts.Verdict.{Verdict}

abbrev pub entry_bytes : PlainEvent → Verdict → List ℕ
entry_bytes event v = verdict_bytes v ++ event_bytes event

-- the entry whose verdict was read, with these bytes left
abbrev pub entry_after : Option (Verdict × List ℕ) → Option PlainEntry
entry_after read = do
  v ← read
  event ← event_in v.1
  Some (entry_told event v.0)

abbrev pub entry_in : List ℕ → Option PlainEntry
entry_in bytes = entry_after (verdict_in bytes)
