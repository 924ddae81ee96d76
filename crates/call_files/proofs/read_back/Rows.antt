-- What was written of rows says the same rows.
use Rattle.std.proofs.Common.{◌≡◌, Bool, true, false, List, [], ◌∷◌, ◌++◌, map, Some, None, Ok, refl, sym, ap, ◌∙◌, append-nil, append_assoc}
use Rattle.std.specs.Prelude.{if◌then◌else◌, Option}
use Rattle.std.specs.List.{All}
use Rattle.std.proofs.lemmas.List.Elements.{All-head, All-tail}
use Rattle.csv.specs.Records.{field_at}
use Rattle.call_rows.specs.Pushing.{MayFollow, push_fault}
use Rattle.call_rows.specs.Rows.{RowParts}
use Rattle.call_rows.specs.declared.snapshots.PushFault.{PushFault}
use Rattle.call_rows.specs.declared.snapshots.PushFault.TheVariants as faults
use Rattle.call_files.specs.Calls.{refused, row_unless, said, with_fields, with_record}
use Rattle.call_files.specs.ReadBack.{CallsReadBack, IsRow}
use Rattle.call_files.specs.Rows.{fields_said, header, row_in}
use Rattle.call_files.specs.declared.faults.CallsFaultKind.TheVariants as kinds
use Rattle.call_files.proofs.read_back.Fields.{row_in_back}
use Rattle.call_files.proofs.read_back.Records.{records_back}

-- there is room for a row that is not refused
room_from : (b : Bool) (other : Option PushFault)
    → (if b then Some faults.TooMany else other) ≡ None → b ≡ false
room_from true other h = absurd (let impossible : ⊥ = cc in impossible)
room_from false other h = refl

record_back : (before : List RowParts) (row : RowParts) → IsRow row → push_fault before row ≡ None
    → with_record before (fields_said row) ≡ Ok (before ++ row ∷ [])
record_back before row sound free =
    ap (λ b. if b then refused before kinds.TooMany
    else with_fields before (row_in (fields_said row))) (room_from _ _ free)
    ∙ ap (with_fields before) (row_in_back row sound)
    ∙ ap (λ o. row_unless o before row) free

said_back : (before rows : List RowParts) → All IsRow rows → MayFollow before rows
    → said (Ok before) (map fields_said rows) ≡ Ok (before ++ rows)
said_back before [] sound free = ap Ok (sym (append-nil before))
said_back before (row ∷ rows) sound (first, others) =
    ap (λ r. said r (map fields_said rows))
    (record_back before row (All-head IsRow row rows sound) first)
    ∙ said_back (before ++ row ∷ []) rows (All-tail IsRow row rows sound) others
    ∙ ap Ok (append_assoc before (row ∷ []) rows)

pub calls_back : CallsReadBack
unfolding field_at
calls_back rows sound free =
    (header, map fields_said rows, records_back rows, refl, said_back [] rows sound free)
