-- Events as plain values: what a core is asked, and what an entry and a receipt name of it.
use Rattle.std.specs.Prelude.{ℕ, List, Option, Some, None}
use Rattle.std.specs.Arc.{arc_value}
use Rattle.gk_commands.specs.declared.commands.Command.{Command}
use Rattle.registry.specs.Endpoint.{EndpointParts}
use Rattle.rulings.specs.declared.events.Event.{Event}
use Rattle.rulings.specs.declared.events.Event.TheVariants as events
use Rattle.rulings.specs.declared.events.LentEvent.{LentEvent}
use Rattle.rulings.specs.declared.events.LentEvent.TheVariants as lent
use Rattle.rulings.specs.declared.events.EventKind.{EventKind}
use Rattle.rulings.specs.declared.events.EventKind.TheVariants.{Registration, Unregistration, Admission, Incoming, BandwidthChange, Release, Reload}

-- an event by its values alone
pub data PlainEvent : Type 0 where
  -- an endpoint asks to be registered, in the zone that it names
  Registering : EndpointParts → PlainEvent
  -- the endpoint of this ID asks to be unregistered
  Unregistering : (id : List ℕ) → PlainEvent
  -- it asks to be admitted to a call to these digits, with this bandwidth
  Admitting : (id : List ℕ) (call : ℕ) (digits : List ℕ) (units : ℕ) → PlainEvent
  -- it asks to answer the call, with this bandwidth
  Answering : (id : List ℕ) (call units : ℕ) → PlainEvent
  -- it asks for another bandwidth for the call
  Changing : (id : List ℕ) (call units : ℕ) → PlainEvent
  -- it asks to be released from the call
  Releasing : (id : List ℕ) (call : ℕ) → PlainEvent
  -- another configuration is put in force, whole: these are its commands
  Reloading : (commands : List Command) → PlainEvent

-- the values of an event
abbrev pub plain : Event → PlainEvent
plain (events.Register endpoint) = Registering endpoint
plain (events.Unregister id) = Unregistering id
plain (events.Admit id call digits units) = Admitting id call digits units
plain (events.Incoming id call units) = Answering id call units
plain (events.Change id call units) = Changing id call units
plain (events.Release id call) = Releasing id call
plain (events.Reload tables) = Reloading (arc_value tables).commands

-- the same of an event that is lent
abbrev pub event_meant : LentEvent → PlainEvent
event_meant (lent.Register endpoint) = Registering endpoint.now
event_meant (lent.Unregister id) = Unregistering id.now
event_meant (lent.Admit id call digits units) = Admitting id.now call digits.now units
event_meant (lent.Incoming id call units) = Answering id.now call units
event_meant (lent.Change id call units) = Changing id.now call units
event_meant (lent.Release id call) = Releasing id.now call
event_meant (lent.Reload tables) = Reloading tables.now.commands

abbrev pub kind_of : PlainEvent → EventKind
kind_of (Registering endpoint) = Registration
kind_of (Unregistering id) = Unregistration
kind_of (Admitting id call digits units) = Admission
kind_of (Answering id call units) = Incoming
kind_of (Changing id call units) = BandwidthChange
kind_of (Releasing id call) = Release
kind_of (Reloading commands) = Reload

-- the ID of the endpoint that asks; an operator has none
abbrev pub id_of : PlainEvent → Option (List ℕ)
id_of (Registering endpoint) = Some endpoint.id
id_of (Unregistering id) = Some id
id_of (Admitting id call digits units) = Some id
id_of (Answering id call units) = Some id
id_of (Changing id call units) = Some id
id_of (Releasing id call) = Some id
id_of (Reloading commands) = None

-- the number of the call that it is about
abbrev pub call_number_of : PlainEvent → Option ℕ
call_number_of (Registering endpoint) = None
call_number_of (Unregistering id) = None
call_number_of (Admitting id call digits units) = Some call
call_number_of (Answering id call units) = Some call
call_number_of (Changing id call units) = Some call
call_number_of (Releasing id call) = Some call
call_number_of (Reloading commands) = None

-- the endpoint that asks to be registered
abbrev pub endpoint_asking : PlainEvent → Option EndpointParts
endpoint_asking (Registering endpoint) = Some endpoint
endpoint_asking (Unregistering id) = None
endpoint_asking (Admitting id call digits units) = None
endpoint_asking (Answering id call units) = None
endpoint_asking (Changing id call units) = None
endpoint_asking (Releasing id call) = None
endpoint_asking (Reloading commands) = None

-- the commands that an event puts in force
abbrev pub put_in_force : PlainEvent → Option (List Command)
put_in_force (Registering endpoint) = None
put_in_force (Unregistering id) = None
put_in_force (Admitting id call digits units) = None
put_in_force (Answering id call units) = None
put_in_force (Changing id call units) = None
put_in_force (Releasing id call) = None
put_in_force (Reloading commands) = Some commands
