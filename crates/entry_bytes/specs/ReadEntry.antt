-- An entry as it is read.
use Rattle.entry_bytes.specs.Entry.{PlainEntry, entry_told}
use Rattle.entry_bytes.specs.ReadEvent.{event_read}
use Rattle.entry_bytes.specs.declared.entry_reading.ReadEntry.{ReadEntry}

-- its values
abbrev pub entry_read : ReadEntry → PlainEntry
entry_read e = entry_told (event_read e.event) e.verdict
