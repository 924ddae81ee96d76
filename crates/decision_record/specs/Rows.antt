-- The rows of a record: what its entries say of calls, as another configuration is tried on them.
use Rattle.std.specs.Prelude.{ℕ, ◌+◌, Bool, true, false, List, [], ◌∷◌, Option, Some, None, if◌then◌else◌}
use Rattle.std.specs.Option.{option_and_then}
use Rattle.std.specs.List.{cons_option}
use Rattle.call_rows.specs.declared.rows.CallEvent.{CallEvent}
use Rattle.call_rows.specs.declared.rows.CallEvent.TheVariants as rows
use Rattle.call_rows.specs.Rows.{RowParts, is_row}
use Rattle.rulings.specs.declared.replies.AdmitRefusal.{AdmitRefusal}
use Rattle.rulings.specs.declared.replies.AdmitRefusal.TheVariants as admit
use Rattle.rulings.specs.declared.replies.Reply.{Reply}
use Rattle.rulings.specs.declared.replies.Reply.TheVariants as replies
use Rattle.rulings.specs.declared.routes.Route.{Route}
use Rattle.rulings.specs.State.{State}
use Rattle.rulings.specs.Events.{PlainEvent, Registering, Unregistering, Admitting, Answering, Changing, Releasing, Reloading}
use Rattle.rulings.specs.Step.{is_granted, step}
use Rattle.entry_bytes.specs.Entry.{PlainEntry}
use Rattle.entry_bytes.specs.declared.verdict_kinds.VerdictKind.{VerdictKind}
use Rattle.entry_bytes.specs.declared.verdict_kinds.VerdictKind.TheVariants as kind

-- ---- admissions
-- whether a routed admission was granted: one that was refused for its route or for a limit was
-- not; nothing of an admission that was refused for another cause
abbrev pub routed_refusal : AdmitRefusal → Option Bool
routed_refusal admit.CallerNotRegistered = None
routed_refusal admit.CallOpen = None
routed_refusal (admit.NoRoute refusal) = Some false
routed_refusal (admit.OverLimit over) = Some false
routed_refusal admit.CallsFull = None
routed_refusal admit.RecordFull = None
routed_refusal admit.NoMemory = None

abbrev pub routed_verdict : Reply → Option Bool
routed_verdict (replies.Registered id zone) = None
routed_verdict (replies.RegisterRefused id reason) = None
routed_verdict (replies.Unregistered id) = None
routed_verdict (replies.UnregisterRefused id reason) = None
routed_verdict (replies.Admitted call destination units) = Some true
routed_verdict (replies.AdmitRefused call reason) = routed_refusal reason
routed_verdict (replies.Changed call units) = None
routed_verdict (replies.ChangeRefused call reason) = None
routed_verdict (replies.Released call) = None
routed_verdict (replies.ReleaseRefused call reason) = None
routed_verdict (replies.Reloaded version) = None
routed_verdict (replies.ReloadRefused reason) = None

-- what was asked and what came of it, with the zone of the caller and the route that the entry has
abbrev pub routed_event
    : (call : ℕ) (digits : List ℕ) (units : ℕ)
    → Option Bool → (source : Option (List ℕ)) → Option Route → Option CallEvent
routed_event call digits units None source route = None
routed_event call digits units (Some granted) None route = None
routed_event call digits units (Some granted) (Some source) None = None
routed_event call digits units (Some granted) (Some source) (Some route) =
    Some (rows.Admitted (record {
      call = call;
      zone = source;
      digits = digits;
      units = units;
      granted = granted;
      route = route;
    }))

-- ---- answers
-- whether an answer to a call that was not open was granted: one that was refused for a limit was
-- not; nothing of an answer that was refused for another cause, or that opened no call
abbrev pub answered_refusal : AdmitRefusal → Option Bool
answered_refusal admit.CallerNotRegistered = None
answered_refusal admit.CallOpen = None
answered_refusal (admit.NoRoute refusal) = None
answered_refusal (admit.OverLimit over) = Some false
answered_refusal admit.CallsFull = None
answered_refusal admit.RecordFull = None
answered_refusal admit.NoMemory = None

abbrev pub answered_verdict : Reply → (opened : Bool) → Option Bool
answered_verdict (replies.Registered id zone) opened = None
answered_verdict (replies.RegisterRefused id reason) opened = None
answered_verdict (replies.Unregistered id) opened = None
answered_verdict (replies.UnregisterRefused id reason) opened = None
answered_verdict (replies.Admitted call destination units) opened =
    if opened then Some true else None
answered_verdict (replies.AdmitRefused call reason) opened = answered_refusal reason
answered_verdict (replies.Changed call units) opened = None
answered_verdict (replies.ChangeRefused call reason) opened = None
answered_verdict (replies.Released call) opened = None
answered_verdict (replies.ReleaseRefused call reason) opened = None
answered_verdict (replies.Reloaded version) opened = None
answered_verdict (replies.ReloadRefused reason) opened = None

-- what was asked and what came of it, with the zone of the endpoint and the route that the entry
-- has
abbrev pub answered_event
    : (call units : ℕ) → Option Bool → (target : Option (List ℕ)) → Option Route → Option CallEvent
answered_event call units None target route = None
answered_event call units (Some granted) None route = None
answered_event call units (Some granted) (Some target) None = None
answered_event call units (Some granted) (Some target) (Some route) =
    Some (rows.Answered (record {
      call = call;
      zone = target;
      units = units;
      granted = granted;
      route = route;
    }))

-- ---- entries
-- this, if the reply is a grant
abbrev pub if_granted : Reply → CallEvent → Option CallEvent
if_granted replied event = if is_granted replied then Some event else None

-- what is said of a call by an event, its reply, the zone and the route beside them, and whether it
-- opened a call: that an admission was routed, that an answer opened a call or was refused for a
-- limit, that a bandwidth change was granted, or that a call was released
abbrev pub event_said
    : PlainEvent → Reply → Option (List ℕ) → Option Route → (opened : Bool) → Option CallEvent
event_said (Registering endpoint) replied place route opened = None
event_said (Unregistering id) replied place route opened = None
event_said (Admitting id call digits units) replied place route opened =
    routed_event call digits units (routed_verdict replied) place route
event_said (Answering id call units) replied place route opened =
    answered_event call units (answered_verdict replied opened) place route
event_said (Changing id call units) replied place route opened =
    if_granted replied (rows.Changed call units)
event_said (Releasing id call) replied place route opened = if_granted replied (rows.Released call)
event_said (Reloading commands) replied place route opened = None

-- the same by an entry
abbrev pub call_event : PlainEntry → Option CallEvent
call_event e = event_said e.event e.reply e.zone e.route e.opened

-- a row, if it is one
abbrev pub if_row : RowParts → Option RowParts
if_row row = if is_row row then Some row else None

-- the row of this number
abbrev pub row_of : ℕ → CallEvent → Option RowParts
row_of number event = if_row (record { number = number; event = event })

-- the row of an entry of this number, if it says something of a call; a call of number 0 has none,
-- and no request can have that number. A grant always leads to a destination, as a row of one has
-- to.
abbrev pub entry_row : ℕ → PlainEntry → Option RowParts
entry_row number e = option_and_then (row_of number) (call_event e)

-- whether no entry whose verdict is of this kind has a row: one of what was refused for another
-- cause than its route or a limit
abbrev pub is_rowless : VerdictKind → Bool
is_rowless kind.Registered = false
is_rowless kind.RegisterRefused = true
is_rowless kind.Unregistered = false
is_rowless kind.UnregisterRefused = true
is_rowless kind.Admitted = false
is_rowless kind.Answering = false
is_rowless kind.Repeated = false
is_rowless kind.CallerNotRegistered = true
is_rowless kind.CallOpen = true
is_rowless kind.NoRoute = false
is_rowless kind.OverLimit = false
is_rowless kind.Changed = false
is_rowless kind.ChangeRefused = true
is_rowless kind.Released = false
is_rowless kind.ReleaseRefused = true
is_rowless kind.Reloaded = false

-- ---- rows
-- the row of an entry that was recorded in this state
abbrev pub row_in : State → ℕ → PlainEntry → Option RowParts
row_in s number e = entry_row number e

-- the rows of entries that were recorded from this state on, if the first has this number
abbrev pub rows_from : State → ℕ → List PlainEntry → List RowParts
rows_from s number [] = []
rows_from s number (e ∷ es) =
    cons_option (row_in s number e) (rows_from (step s e.event).state (number + 1) es)

-- the rows of a record, whose first entry has number 1
abbrev pub rows_of : State → List PlainEntry → List RowParts
rows_of opening entries = rows_from opening 1 entries
