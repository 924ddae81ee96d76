-- What follows if it is known that bytes mean an entry.
use Rattle.std.proofs.Common.{◌≡◌, ℕ, List, Option, Some, None, refl, subst}
use Rattle.std.specs.Prelude.{IfSome, IsSome}
use Rattle.rulings.specs.Events.{PlainEvent}
use Rattle.field_bytes.specs.Fields.{◌>>=◌, name_in}
use Rattle.entry_bytes.proofs.KnownLemmas.{first}
use Rattle.entry_bytes.proofs.ReadLemmas.{right_event}
use Rattle.entry_bytes.specs.Brief.{MeansEvent}
use Rattle.entry_bytes.specs.Entry.{PlainEntry, entry_told}
use Rattle.entry_bytes.specs.EntryBytes.{entry_after}
use Rattle.entry_bytes.specs.EventBytes.{event_in}
use Rattle.entry_bytes.specs.ReadEvent.{HasRightEndpoint}
use Rattle.entry_bytes.specs.VerdictBytes.{registered_in}
use Rattle.entry_bytes.specs.declared.verdicts.Verdict.{Verdict}
use Rattle.entry_bytes.specs.declared.verdicts.Verdict.TheVariants as verdict
use Rattle.decision_record.specs.Items.{MeansEntry}

-- its verdict is read
pub verdict_known : (read : Option (Verdict × List ℕ)) → MeansEntry (entry_after read)
    → IsSome read
verdict_known None known = absurd known
verdict_known (Some v) known = refl

pub zone_known : (bytes : List ℕ) → MeansEntry (entry_after (registered_in bytes))
    → IsSome (name_in bytes)
zone_known bytes known =
    first (name_in bytes) (λ zone. Some (verdict.Registered zone.0, zone.1))
    (verdict_known (registered_in bytes) known)

-- and so is its event
pub event_known : (v : Verdict) (bytes : List ℕ) → MeansEntry (entry_after (Some (v, bytes)))
    → MeansEvent (event_in bytes)
event_known v bytes known = by (event_in bytes) known
  where
    by : (read : Option PlainEvent) → MeansEntry (read >>= λ event. Some (entry_told event v))
        → MeansEvent read
    by None known = known
    by (Some event) known = right_event v (Some event) known

pub event_after : (read : Option (Verdict × List ℕ)) (v : Verdict) (bytes : List ℕ)
    → MeansEntry (entry_after read) → read ≡ Some (v, bytes) → MeansEvent (event_in bytes)
event_after read v bytes known is =
    event_known v bytes (subst (λ r. MeansEntry (entry_after r)) is known)

pub right_if_any : (o : Option PlainEntry) → MeansEntry o
    → IfSome o (λ e. HasRightEndpoint e.event)
right_if_any None known = tt
right_if_any (Some e) known = known
