-- No row of a record is refused.
use Rattle.std.proofs.Common.{◌≡◌, ◌≤◌, ◌<◌, ℕ, ◌-◌, ◌==◌, Bool, true, false, cond, List, length, Some, None, refl, sym, ap, ◌∙◌, arith}
use Rattle.std.specs.Prelude.{slice_get}
use Rattle.std.specs.Option.{option_and_then}
use Rattle.std.proofs.lemmas.Option.{none-some, slice_get_within}
use Rattle.rulings.specs.State.{opening_of}
use Rattle.entry_bytes.specs.Entry.{PlainEntry}
use Rattle.decision_record.specs.History.{entry_of_number, replay}
use Rattle.decision_record.specs.Rows.{entry_row}
use Rattle.admission.specs.RowLaws.{RowsAreNeverRefused}
use Rattle.admission.proofs.HistoryLaws.{records_are_sound}
use Rattle.admission.proofs.RowHistoryLemmas.{bounded, none_is_refused}

-- where the entry of a number stands
record HasPlace (entries : List PlainEntry) (number : ℕ) : Type 0 where
  some : 1 ≤ number
  within : number - 1 < length entries

has_place : (entries : List PlainEntry) (number : ℕ) (e : PlainEntry)
    → entry_of_number entries number ≡ Some e → HasPlace entries number
has_place entries number e there = by (number == 0) refl there
  where
    by : (t : Bool) → (number == 0) ≡ t → cond t None (slice_get entries (number - 1)) ≡ Some e
        → HasPlace entries number
    by true first there = absurd (none-some e there)
    by false first there = record {
      some = grind (arith, first);
      within = slice_get_within entries (number - 1) e there;
    }

pub rows_are_never_refused : RowsAreNeverRefused
rows_are_never_refused commands limits entries number e row good legal there is_row =
    let opening = opening_of commands limits in
    let place = has_place entries number e there in
    let sound = records_are_sound commands limits entries legal in
    let few = bounded opening (replay opening entries) entries
    (record {
      version = (replay opening entries).version;
      endpoints = (replay opening entries).endpoints;
      calls = (replay opening entries).calls;
      records = (replay opening entries).records;
      limits = (replay opening entries).limits;
    }) limits refl sound refl (sym sound.limits_are) good in
    none_is_refused opening entries few.none_open legal few.few_calls few.few (number - 1) number
    (omega (arith, place.some)) place.within row
    (sym (ap (option_and_then (entry_row number)) there ∙ is_row))
