use Rattle.std.proofs.Common.{◌≤◌, ◌++◌, ◌∷◌, [], ◌∙◌, ◌+◌, refl, sym, ap, subst, inl, inr}
use Rattle.csv.specs.Records.{fields_of}
use Rattle.call_files.specs.Calls.{LacksMemory}
use Rattle.call_files.proofs.ReadLemmas.{lacks_next, read_end, read_more, said_more}
use Rattle.call_files.proofs.reading.rows_under.Goals as goal

pub loop-rows-preserved : goal.loop-rows-preserved
loop-rows-preserved c =
    let inv = c.loop-rows.invariant in
    let fields = fields_of c.next_record.new.fields in
    let read = rw c.in-Ok-true.field-0-test at (c.in-Ok-true.ensures inv.0) in
    let longer = ap (λ n. n + 1) inv.1 ∙ sym c.in_default.ensures.longer in (
      read.1 refl,
      longer,
      subst (λ n. n ≤ 1000000) (sym longer) c.in_default.ensures.few,
      c.in_default.ensures.endpoints ∙ inv.3,
      λ text names past.
          let (records, has, says) = inv.4 text names past in (
            records ++ fields ∷ [],
            read_more text (names ∷ records) c.loop-rows.reader c.next_record.new.reader fields
                inv.0 has read.0,
            said_more _ records fields c.loop-rows.snapshot.rows says ∙ c.in_default.ensures.says,
          ),
    )

pub returns-in-Ok-false : goal.returns-in-Ok-false
returns-in-Ok-false c text names past head =
    let inv = c.loop-rows.invariant in
    let read = rw c.in-Ok-false.field-0-test at (c.in-Ok-false.ensures inv.0) in
    let (records, has, says) = inv.4 text names past in
    let (rest, left, begins) = has in
    let ended = read_end c.loop-rows.reader c.next_record.new.reader
    (fields_of c.next_record.new.fields) rest inv.0 left read.0 in
    ((names, records, (c.loop-rows.reader.state, rest, begins, ended), head, says), inv.3)

pub returns-in-Err-add_record : goal.returns-in-Err-add_record
returns-in-Err-add_record c text names past head =
    let inv = c.loop-rows.invariant in
    let fields = fields_of c.next_record.new.fields in
    let read = rw c.in-Ok-true.field-0-test at (c.in-Ok-true.ensures inv.0) in
    let (records, has, says) = inv.4 text names past in
    let (rest, left, begins) = read_more text (names ∷ records) c.loop-rows.reader
    c.next_record.new.reader fields inv.0 has read.0 in
    let lacks = lacks_next text names records c.loop-rows.snapshot.rows c.loop-rows.reader has
    head says in
    elim c.in-Err-add_record.ensures.says [
      | inl told ↦ inr (inr (
        names,
        records ++ fields ∷ [],
        (c.next_record.new.reader.state, rest, begins),
        head,
        said_more _ records fields c.loop-rows.snapshot.rows says ∙ told,
      ))
      | inr lacking ↦ inl (
        ap (λ fault. fault.kind) lacking.0,
        subst (LacksMemory text) (sym (ap (λ fault. fault.row) lacking.0)) lacks,
      )
    ]

pub returns-in-Err : goal.returns-in-Err
returns-in-Err c text names past head =
    let inv = c.loop-rows.invariant in
    let (records, has, says) = inv.4 text names past in
    let lacks = lacks_next text names records c.loop-rows.snapshot.rows c.loop-rows.reader has
    head says in
    let row = ap (λ fault. fault.row) c.fault_at.ensures ∙ ap (λ n. n + 1) inv.1 in
    inl (
      ap (λ fault. fault.kind) c.fault_at.ensures,
      subst (LacksMemory text) (sym row) lacks,
    )
