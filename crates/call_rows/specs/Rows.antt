-- The rows of a record: what its entries say of calls.
use Rattle.std.specs.Prelude.{ℕ, Bool, true, false, List, Option, Some, None, filter_map, not, ◌&&◌, ◌||◌, ◌==◌}
use Rattle.registry.specs.Endpoint.{EndpointParts}
use Rattle.rulings.specs.declared.routes.Destination.{Destination}
use Rattle.rulings.specs.declared.routes.Destination.TheVariants.{Gateway, Terminal, Zone}
use Rattle.rulings.specs.declared.routes.Route.{Route}
use Rattle.rulings.specs.declared.routes.Route.TheVariants.{To, Refused}
use Rattle.call_rows.specs.declared.rows.AdmittedCall.{AdmittedCall}
use Rattle.call_rows.specs.declared.rows.AnsweredCall.{AnsweredCall}
use Rattle.call_rows.specs.declared.rows.AskedCall.{AskedCall}
use Rattle.call_rows.specs.declared.rows.NumberedAdmission.{NumberedAdmission}
use Rattle.call_rows.specs.declared.rows.CallEvent.{CallEvent}
use Rattle.call_rows.specs.declared.rows.CallEvent.TheVariants.{Admitted, Answered, Changed, Released}

-- a row: the number of its entry in the record, and what it says
pub record RowParts : Type 0 where
  pub number : ℕ
  pub event : CallEvent

-- ---- what the type of a row keeps
-- it has a destination
abbrev pub leads_somewhere : Route → Bool
leads_somewhere (To destination) = true
leads_somewhere (Refused refusal) = false

-- a destination which is a gateway or a terminal
abbrev pub is_an_endpoint : Destination → Bool
is_an_endpoint (Gateway id address) = true
is_an_endpoint (Terminal id address) = true
is_an_endpoint (Zone name address) = false

abbrev pub leads_to_an_endpoint : Route → Bool
leads_to_an_endpoint (To destination) = is_an_endpoint destination
leads_to_an_endpoint (Refused refusal) = false

-- calls are numbered from 1, a granted admission has a destination, and an answer has an endpoint
abbrev pub is_of_a_call : CallEvent → Bool
is_of_a_call (Admitted a) = not (a.call == 0) && (not a.granted || leads_somewhere a.route)
is_of_a_call (Answered a) = not (a.call == 0) && leads_to_an_endpoint a.route
is_of_a_call (Changed call units) = not (call == 0)
is_of_a_call (Released call) = not (call == 0)

-- entries are numbered from 1
abbrev pub is_row : RowParts → Bool
is_row row = not (row.number == 0) && is_of_a_call row.event

-- ---- what an admission asked, be it for a call that was dialled or for the answer to one
abbrev pub asked_call : AdmittedCall → AskedCall
asked_call a = record {
  call = a.call;
  zone = a.zone;
  digits = Some a.digits;
  units = a.units;
  granted = a.granted;
  route = a.route;
}

abbrev pub asked_answer : AnsweredCall → AskedCall
asked_answer a = record {
  call = a.call;
  zone = a.zone;
  digits = None;
  units = a.units;
  granted = a.granted;
  route = a.route;
}

-- the event that says it: an answer, if nothing was dialled
abbrev pub said_with : AskedCall → Option (List ℕ) → CallEvent
said_with a None = Answered (record {
  call = a.call;
  zone = a.zone;
  units = a.units;
  granted = a.granted;
  route = a.route;
})
said_with a (Some digits) = Admitted (record {
  call = a.call;
  zone = a.zone;
  digits = digits;
  units = a.units;
  granted = a.granted;
  route = a.route;
})

abbrev pub said_by : AskedCall → CallEvent
said_by a = said_with a a.digits

-- ---- the admissions among rows
-- the admission of an event, with the number of its entry
abbrev pub numbered : ℕ → AskedCall → NumberedAdmission
numbered number a = record { number = number; asked = a }

abbrev pub admission_by : ℕ → CallEvent → Option NumberedAdmission
admission_by number (Admitted a) = Some (numbered number (asked_call a))
admission_by number (Answered a) = Some (numbered number (asked_answer a))
admission_by number (Changed call units) = None
admission_by number (Released call) = None

abbrev pub admission_in : RowParts → Option NumberedAdmission
admission_in row = admission_by row.number row.event

-- the admissions of rows, in their order
abbrev pub admissions_of : List RowParts → List NumberedAdmission
admissions_of rows = filter_map admission_in rows

-- ---- a snapshot
-- the rows of a record, and the endpoints that were registered after it
pub record SnapshotParts : Type 0 where
  pub rows : List RowParts
  pub endpoints : List EndpointParts
