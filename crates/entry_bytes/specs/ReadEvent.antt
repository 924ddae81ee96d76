-- An event, and an entry, as they are read.
use Rattle.std.specs.Prelude.{⊤}
use Rattle.entry_bytes.specs.EndpointTexts.{IsWhole}
use Rattle.rulings.specs.Events.{PlainEvent, Registering, Unregistering, Admitting, Answering, Changing, Releasing, Reloading}
use Rattle.entry_bytes.specs.declared.read_events.ReadEvent.{ReadEvent}
use Rattle.entry_bytes.specs.declared.read_events.ReadEvent.TheVariants as read

-- the values of an event that was read
abbrev pub event_read : ReadEvent → PlainEvent
event_read (read.Register endpoint) = Registering endpoint
event_read (read.Unregister id) = Unregistering id
event_read (read.Admit id call digits units) = Admitting id call digits units
event_read (read.Incoming id call units) = Answering id call units
event_read (read.Change id call units) = Changing id call units
event_read (read.Release id call) = Releasing id call

-- its endpoint is as every endpoint is, if it has one
abbrev pub HasRightEndpoint : PlainEvent → Type 0
HasRightEndpoint (Registering endpoint) = IsWhole endpoint
HasRightEndpoint (Unregistering id) = ⊤
HasRightEndpoint (Admitting id call digits units) = ⊤
HasRightEndpoint (Answering id call units) = ⊤
HasRightEndpoint (Changing id call units) = ⊤
HasRightEndpoint (Releasing id call) = ⊤
HasRightEndpoint (Reloading commands) = ⊤
