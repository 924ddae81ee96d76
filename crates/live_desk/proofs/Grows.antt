-- Steps of a core whose reservation is not shown, and the generations before and after them.
use Rattle.std.proofs.Common.{◌≡◌, ◌+◌, ◌-◌, arith, slice_get, length-append, true, List, [], ◌∷◌, ◌++◌, length, Option, Some, None, Result, Ok, Err, refl, sym, ap, subst, ◌∙◌}
use Rattle.std.proofs.lemmas.List.{append-nil}
use Rattle.std.specs.List.{cons_option}
use Rattle.std.specs.Prelude.{IfOk, IfErr, OnErr, MatchResult, if◌then◌else◌}
use Rattle.std.proofs.Common.{false, true≢false, inl}
use Rattle.rulings.specs.Lacks.{no_memory_reply_of}
use Rattle.rulings.specs.Step.{step}
use Rattle.rulings.specs.declared.replies.ReloadRefusal.TheVariants.{NoMemory}
use Rattle.publisher.proofs.Prefixes.{get_last}
use Rattle.rulings.specs.declared.replies.Reply.TheVariants.{Reloaded, ReloadRefused}
use Rattle.rulings.specs.declared.replies.ReloadRefusal.{ReloadRefusal}
use Rattle.gk_commands.specs.declared.commands.Command.{Command}
use Rattle.rulings.specs.Events.{PlainEvent, Registering, Unregistering, Admitting, Answering, Changing, Releasing, Reloading, put_in_force}
use Rattle.std.proofs.lemmas.Option.{none-some}
use Rattle.rulings.specs.declared.replies.Reply.{Reply}
use Rattle.decision_record.specs.declared.entries.Receipt.{Receipt}
use Rattle.entry_bytes.specs.Entry.{PlainEntry}
use Rattle.decision_record.specs.History.{CoreParts, generations, state_of, Steps, IsUnrecorded}
use Rattle.admission.proofs.VersionLemmas.{generations_more}
use Rattle.admission.specs.Answering.{answered, reply_kept}
use Rattle.call_rows.specs.Rows.{SnapshotParts}
use Rattle.decision_record.specs.Rows.{rows_of}
use Rattle.rulings.specs.State.{State}
use Rattle.live_desk.specs.Seats.{Asked, IsFound, IsLawful, IsReloadAnswer, IsReloadOf, SeatParts, unreserved, IsPut, IsReceiptOf, IsSnapshotFor, LastStands, Looks}
use Rattle.live_desk.specs.Seats as seats
use Rattle.live_desk.proofs.Counts.{number_within}
use Rattle.admission.proofs.StepLemmas.{step_reply}
use Rattle.std.proofs.Common.{ℕ, ◌<◌, ◌≤◌, ◌↔◌, Bool}
use Rattle.std.specs.Prelude.{IfSome}

pub same_state : (core : CoreParts) → state_of (unreserved core) ≡ state_of core
unfolding state_of
same_state core = refl

-- a step of a core is one of what is shown of it
pub steps_shown : (old new : CoreParts) (event : PlainEvent)
    (result : Result (Reply × Receipt) Reply) → Steps old event result new
    → Steps (unreserved old) event result (unreserved new)
unfolding state_of
steps_shown old new event (Ok answer) h = record {
  recorded = h.recorded;
  reply_is = h.reply_is;
  receipt_is = h.receipt_is;
  new_is = ap unreserved h.new_is;
}
steps_shown old new event (Err reply) h = record {
  reply_is = h.reply_is;
  unchanged = ap unreserved h.unchanged;
}

-- an event that puts nothing in force leaves the generations
pub stays : (old new : CoreParts) (event : PlainEvent) (result : Result (Reply × Receipt) Reply)
    → put_in_force event ≡ None → Steps old event result new
    → generations new ≡ generations old
stays old new event (Ok answer) none h =
    ap generations h.new_is ∙ generations_more old event
    ∙ ap (λ put. generations old ++ cons_option put []) none ∙ append-nil (generations old)
stays old new event (Err reply) none h = ap generations h.unchanged

-- a reload that was recorded has put its commands in force
pub put_as : (old new : List (List Command)) (commands : List Command)
    (result : Result (Reply × Receipt) Reply)
    → MatchResult result (λ _. new ≡ old ++ commands ∷ []) (λ _. new ≡ old)
    → IfOk result (λ answer. answer.0 ≡ Reloaded (length new))
    → IfErr result (λ reply. (reason : ReloadRefusal) × (reply ≡ ReloadRefused reason))
    → IsPut (Reloading commands) result new
put_as old new commands (Ok answer) grown version refused =
    let long : length new ≡ length old + 1 =
    ap length grown ∙ length-append old (commands ∷ []) in
    let place : length new - 1 ≡ length old = omega (arith, long) in (
      length new,
      version,
      omega (arith, long),
      ap (λ xs. slice_get xs (length new - 1)) grown
          ∙ get_last old commands (length new - 1) place,
    )
put_as old new commands (Err reply) same version refused = refused

-- that what was answered puts the event's commands in force is said of no event that has none
pub puts_nothing : (event : PlainEvent) (result : Result (Reply × Receipt) Reply)
    (list : List (List Command)) → put_in_force event ≡ None → IsPut event result list
puts_nothing (Registering endpoint) result list none = tt
puts_nothing (Unregistering id) result list none = tt
puts_nothing (Admitting id call digits units) result list none = tt
puts_nothing (Answering id call units) result list none = tt
puts_nothing (Changing id call units) result list none = tt
puts_nothing (Releasing id call) result list none = tt
puts_nothing (Reloading commands) result list none = absurd (none-some commands (sym none))

pub as_reload : (commands : List Command) (result : Result (Reply × Receipt) Reply)
    (list : List (List Command)) → IsPut (Reloading commands) result list → IsReloadAnswer result
as_reload commands (Ok answer) list put = (put.0, put.1)
as_reload commands (Err reply) list put = put

-- a reload that was replied with a version tells it
pub told_as : (opening : State) (before : SeatParts) (commands : List Command) (reply : Reply)
    (receipt : Receipt) (version : ℕ) (after : SeatParts) → reply ≡ Reloaded version
    → Asked opening before (Reloading commands) (Ok (reply, receipt)) after
    → IsReloadOf opening before commands (Ok (version, receipt)) after
told_as opening before commands reply receipt version after is h =
    inl (subst (λ r. Asked opening before (Reloading commands) (Ok (r, receipt)) after) is h)

-- one that was refused tells the reason
pub refused_as : (opening : State) (before : SeatParts) (commands : List Command) (reply : Reply)
    (reason : ReloadRefusal) (after : SeatParts) → reply ≡ ReloadRefused reason
    → Asked opening before (Reloading commands) (Err reply) after
    → IsReloadOf opening before commands (Err reason) after
refused_as opening before commands reply reason after is h =
    inl (subst (λ r. Asked opening before (Reloading commands) (Err r) after) is h)

-- the receipt names what was asked, and the reply
pub named : (old new : CoreParts) (event : PlainEvent) (result : Result (Reply × Receipt) Reply)
    → Steps old event result new → IfOk result (λ a. IsReceiptOf event a.0 a.1)
named old new event (Ok answer) h = (
  ap (λ (r : Receipt). r.kind) h.receipt_is,
  ap (λ (r : Receipt). r.id) h.receipt_is,
  ap (λ (r : Receipt). r.call) h.receipt_is,
  ap (λ (r : Receipt). r.reply) h.receipt_is
      ∙ sym (h.reply_is ∙ step_reply (state_of old) event h.recorded),
)
named old new event (Err reply) h = tt

-- its number is that of the new entry
pub numbered : (old new : CoreParts) (event : PlainEvent) (result : Result (Reply × Receipt) Reply)
    → Steps old event result new → IfOk result (λ a. a.1.number ≡ length old.entries + 1)
numbered old new event (Ok answer) h = ap (λ (r : Receipt). r.number) h.receipt_is
numbered old new event (Err reply) h = tt

-- the same of an answer by the number of its entry
pub numbered_by : (old new : CoreParts) (event : PlainEvent) (reply : Reply) (number : Option ℕ)
    → Steps old event (answered event reply number) new
    → IfSome number (λ n. n ≡ length old.entries + 1)
numbered_by old new event reply (Some number) h = ap (λ (r : Receipt). r.number) h.receipt_is
numbered_by old new event reply None h = tt

-- the reply is the one that was kept
pub answered_as : (opening : State) (old : SeatParts) (event : PlainEvent) (kept : Option Reply)
    (reply : Reply) (number : Option ℕ) (new : SeatParts) → kept ≡ Some reply
    → Asked opening old event (answered event (reply_kept kept) number) new
    → Asked opening old event (answered event reply number) new
answered_as opening old event kept reply number new is h =
    subst (λ r. Asked opening old event (answered event r number) new) (ap reply_kept is) h

-- what stands in a record has a lower number than the next entry
pub below : (entries : List PlainEntry) (last : Option Receipt) (number : ℕ)
    → LastStands entries last → number ≡ length entries + 1
    → IfSome last (λ l. l.number < number)
below entries None number stands is = tt
below entries (Some receipt) number stands is =
    let within = number_within entries receipt.number stands.0 stands.1 in
    omega (arith, within.1, is)

pub rising : (entries : List PlainEntry) (last : Option Receipt) (result : Result (Reply ×
    Receipt) Reply)
    → LastStands entries last → IfOk result (λ a. a.1.number ≡ length entries + 1)
    → IfOk result (λ a. IfSome last (λ l. l.number < a.1.number))
rising entries last (Ok answer) stands is = below entries last answer.1.number stands is
rising entries last (Err reply) stands is = tt

pub rising_by : (entries : List PlainEntry) (last : Option Receipt) (number : Option ℕ)
    → LastStands entries last → IfSome number (λ n. n ≡ length entries + 1)
    → IfSome number (λ n. IfSome last (λ l. l.number < n))
rising_by entries last (Some number) stands is = below entries last number stands is
rising_by entries last None stands is = tt

-- ---- a reload, whose place is reserved before it is published
pub unrecorded_shown : (old new : CoreParts) (event : PlainEvent) (reply : Reply)
    → IsUnrecorded old event reply new
    → IsUnrecorded (unreserved old) event reply (unreserved new)
unfolding state_of
unrecorded_shown old new event reply h = record {
  reply_is = h.reply_is;
  unchanged = ap unreserved h.unchanged;
}

-- memory ran out after the place was reserved
pub lacks_memory : (old new : CoreParts) (commands : List Command)
    → new ≡ record old { reserved = true }
    → (step (state_of old) (Reloading commands)).recorded ≡ true
    → IsUnrecorded (unreserved old) (Reloading commands) (ReloadRefused NoMemory)
    (unreserved new)
unfolding state_of
lacks_memory old new commands same recorded = record {
  reply_is = ap (λ b. if b then no_memory_reply_of (Reloading commands)
      else Some (step (state_of old) (Reloading commands)).reply) recorded;
  unchanged = ap unreserved same;
}

-- the publisher and the core have grown by the same commands
pub grown_alike : (before kept after : CoreParts) (commands : List Command)
    (result : Result (Reply × Receipt) Reply) (old new : List (List Command))
    → old ≡ generations before → kept ≡ record before { reserved = true }
    → (step (state_of before) (Reloading commands)).recorded ≡ true
    → (kept.reserved ≡ true
    → OnErr result ((step (state_of kept) (Reloading commands)).recorded ≡ false))
    → MatchResult result (λ _. generations after ≡ generations kept ++ commands ∷ [])
    (λ _. generations after ≡ generations kept)
    → new ≡ old ++ commands ∷ [] → new ≡ generations after
unfolding state_of
grown_alike before kept after commands (Ok answer) old new is same recorded taken grown put =
    put ∙ ap (λ gs. gs ++ commands ∷ []) (is ∙ sym (ap generations same)) ∙ sym grown
grown_alike before kept after commands (Err reply) old new is same recorded taken grown put =
    absurd (true≢false (sym recorded
    ∙ sym (ap (λ (c : CoreParts). (step (state_of c) (Reloading commands)).recorded) same)
    ∙ taken (ap (λ (c : CoreParts). c.reserved) same)))

-- ---- snapshots
-- a seat that looked for its last receipt in what stands under the lock
pub looked : (opening : State) (before after : SeatParts) (entries : List PlainEntry)
    → IsLawful opening entries → before.share ≤ length entries
    → (after.astray ≡ false ↔ IsFound entries before)
    → after ≡ record before { astray = after.astray } → Looks opening before after
looked opening before after entries lawful long found same = record {
  history = entries;
  lawful = lawful;
  long = long;
  found = found;
  same = same;
}

-- a snapshot of a core as it was after a lawful history, for a seat that looked for its last
-- receipt there
pub snapshot_for : {E : Type 0} (opening : State) (before after : SeatParts)
    (entries : List PlainEntry) (past : CoreParts) (result : Result SnapshotParts E)
    → IsLawful opening entries → before.share ≤ length entries
    → (after.astray ≡ false ↔ IsFound entries before)
    → after ≡ record before { astray = after.astray }
    → unreserved past ≡ seats.held opening entries
    → IfOk result (λ snapshot. snapshot ≡ record {
      rows = rows_of past.opening past.entries;
      endpoints = (state_of past).endpoints;
    }) → IfOk result (IsSnapshotFor opening before after)
unfolding state_of
snapshot_for opening before after entries past (Ok snapshot) lawful long found looks same is = (
  record { history = entries; lawful = lawful; long = long; found = found; same = looks },
  is
      ∙ ap (λ (c : CoreParts). record {
        rows = rows_of c.opening c.entries;
        endpoints = (state_of c).endpoints;
      }) same,
)
snapshot_for opening before after entries past (Err error) lawful long found looks same is = tt

-- ---- under the lock
is_held : (core : CoreParts) (opening : State) → core.opening ≡ opening → core.reserved ≡ false
    → core ≡ seats.held opening core.entries
is_held core opening same free =
    ap (λ (s : State). record { opening = s; entries = core.entries; reserved = core.reserved })
    same
    ∙ ap (λ b. record { opening = opening; entries = core.entries; reserved = b }) free

stays_held : (old new : CoreParts) (opening : State) (event : PlainEvent)
    (answer : Result (Reply × Receipt) Reply) → old.opening ≡ opening → old.reserved ≡ false
    → Steps old event answer new → new ≡ seats.held opening new.entries
stays_held old new opening event (Ok both) same free h =
    is_held new opening (ap (λ (c : CoreParts). c.opening) h.new_is ∙ same)
    (ap (λ (c : CoreParts). c.reserved) h.new_is)
stays_held old new opening event (Err reply) same free h =
    is_held new opening (ap (λ (c : CoreParts). c.opening) h.unchanged ∙ same)
    (ap (λ (c : CoreParts). c.reserved) h.unchanged ∙ free)

-- what is answered under the lock is an answer of some lawful history
pub asked_by : (opening : State) (live new : CoreParts) (entries : List PlainEntry)
    (before after : SeatParts) (astray : Bool) (event : PlainEvent)
    (answer : Result (Reply × Receipt) Reply) → live.opening ≡ opening → live.reserved ≡ false
    → live.entries ≡ entries → IsLawful opening entries → before.share ≤ length entries
    → (astray ≡ false ↔ IsFound entries before) → astray ≡ after.astray
    → Steps live event answer new → (after.lost ≡ false → after.seen ≡ generations new)
    → Asked opening before event answer after
asked_by opening live new entries before after astray event answer same free is lawful long found
    stays steps seen =
    let old_held : live ≡ seats.held opening entries =
    is_held live opening same free ∙ ap (λ es. seats.held opening es) is in
    let new_held = stays_held live new opening event answer same free steps in record {
      history = entries;
      next = new.entries;
      lawful = lawful;
      long = long;
      found = subst (λ (b : Bool). b ≡ false ↔ IsFound entries before) stays found;
      answers = subst (λ (c : CoreParts). Steps c event answer (seats.held opening new.entries))
          old_held (subst (λ (c : CoreParts). Steps live event answer c) new_held steps);
      seen = λ kept. seen kept ∙ ap generations new_held;
    }

-- a plan made before changes nothing that was asked, nor does a receipt that is kept afterwards
pub asked_kept : (opening : State) (before asking : SeatParts) (event : PlainEvent)
    (replied answer : Result (Reply × Receipt) Reply) (after kept : SeatParts)
    (last : Option Receipt) → asking.share ≡ before.share → asking.last ≡ before.last
    → asking.astray ≡ before.astray → replied ≡ answer → kept ≡ record after { last = last }
    → Asked opening asking event replied after → Asked opening before event answer kept
asked_kept opening before asking event replied answer after kept last share before_last astray is
    same asked =
    subst (Asked opening before event answer) (sym same)
    (record {
      history = asked.history;
      next = asked.next;
      lawful = asked.lawful;
      long = subst (λ (n : ℕ). n ≤ length asked.history) share asked.long;
      found = subst (λ (l : Option Receipt).
          after.astray ≡ false ↔ (before.astray ≡ false) × LastStands asked.history l) before_last
          (subst (λ (b : Bool).
          after.astray ≡ false ↔ (b ≡ false) × LastStands asked.history asking.last) astray
          asked.found);
      answers = subst (λ (a : Result (Reply × Receipt) Reply).
          Steps (seats.held opening asked.history) event a (seats.held opening asked.next)) is
          asked.answers;
      seen = asked.seen;
    })

-- a step under the lock, of what is shown of it
pub step_held : (opening : State) (live new : CoreParts) (entries after : List PlainEntry)
    (event : PlainEvent) (answer : Result (Reply × Receipt) Reply) → live.opening ≡ opening
    → live.reserved ≡ false → live.entries ≡ entries → new.entries ≡ after
    → Steps live event answer new
    → Steps (seats.held opening entries) event answer (seats.held opening after)
step_held opening live new entries after event answer same free is later steps =
    let old_held : live ≡ seats.held opening entries =
    is_held live opening same free ∙ ap (λ es. seats.held opening es) is in
    let new_held : new ≡ seats.held opening after =
    stays_held live new opening event answer same free steps
    ∙ ap (λ es. seats.held opening es) later in
    subst (λ (c : CoreParts). Steps c event answer (seats.held opening after)) old_held
    (subst (λ (c : CoreParts). Steps live event answer c) new_held steps)
