-- What a request asks for, and the sequence number that the reply repeats.
use Rattle.std.specs.Prelude.{ℕ, List, Option, Some, None}
use Rattle.gk_terms.specs.Text.{lines_of}
use Rattle.rulings.specs.Events.{PlainEvent, Registering, Unregistering, Admitting, Answering, Changing, Releasing}
use Rattle.gk_protocol.specs.declared.requests.Request.{Request}
use Rattle.gk_protocol.specs.declared.requests.Request.TheVariants.{Register, Unregister, Admit, Incoming, Change, Release, Reload, Try}

pub data Demand : Type 0 where
  -- an event
  AnEvent : PlainEvent → Demand
  -- a reload to what these lines say
  AReload : (lines : List (List ℕ)) → Demand
  -- a trial of what these lines say, by so many workers
  ATrial : (workers : ℕ) → (lines : List (List ℕ)) → Demand

abbrev pub demand_of : Request → Demand
demand_of (Register sequence endpoint) = AnEvent (Registering endpoint)
demand_of (Unregister sequence id) = AnEvent (Unregistering id)
demand_of (Admit sequence id call digits units) = AnEvent (Admitting id call digits units)
demand_of (Incoming sequence id call units) = AnEvent (Answering id call units)
demand_of (Change sequence id call units) = AnEvent (Changing id call units)
demand_of (Release sequence id call) = AnEvent (Releasing id call)
demand_of (Reload sequence lines) = AReload (lines_of lines)
demand_of (Try sequence workers lines) = ATrial workers (lines_of lines)

abbrev pub sequence_of : Request → ℕ
sequence_of (Register sequence endpoint) = sequence
sequence_of (Unregister sequence id) = sequence
sequence_of (Admit sequence id call digits units) = sequence
sequence_of (Incoming sequence id call units) = sequence
sequence_of (Change sequence id call units) = sequence
sequence_of (Release sequence id call) = sequence
sequence_of (Reload sequence lines) = sequence
sequence_of (Try sequence workers lines) = sequence

-- the event that is asked for; a reload is one by what its lines say
abbrev pub event_in : Demand → Option PlainEvent
event_in (AnEvent event) = Some event
event_in (AReload lines) = None
event_in (ATrial workers lines) = None

abbrev pub asked_event : Request → Option PlainEvent
asked_event request = event_in (demand_of request)
