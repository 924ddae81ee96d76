use Rattle.std.proofs.Common.{◌≡◌, [], rules, subst, inl, inr}
use Rattle.std.specs.Prelude.{None}
use Rattle.csv.specs.Machine.{next_record}
use Rattle.csv.specs.Reading.{default_config, strip_bom}
use Rattle.csv.specs.declared.parser.State.TheVariants as st
use Rattle.csv.specs.Records.{fields_of}
use Rattle.call_files.proofs.ReadLemmas.{none_at_all, read_end, read_first}
use Rattle.call_files.proofs.reading.read_calls.Goals as goal

pub returns-in-Ok-false : goal.returns-in-Ok-false
returns-in-Ok-false c =
    let opened = c.reader_of-reader.ensures in
    let text = strip_bom c.args.text.now in
    let read = rw c.in-Ok-false.field-0-test at (c.in-Ok-false.ensures opened.reading) in
    let ended = read_end c.reader_of-reader.result c.next_record.new.reader
    (fields_of c.next_record.new.fields) text opened.reading opened.left read.0 in
    let nothing = subst (λ s. next_record default_config s [] [] text ≡ None) opened.start ended in
    inr (inl (
      c.fault_at.ensures,
      inl (st.StartRecord, text, none_at_all c.args.text.now, nothing),
    ))

pub returns-then-not-is_header : goal.returns-then-not-is_header
returns-then-not-is_header c =
    let opened = c.reader_of-reader.ensures in
    let fields = fields_of c.next_record.new.fields in
    let read = rw c.in-Ok-true.field-0-test at (c.in-Ok-true.ensures opened.reading) in
    let (rest, left, begins) = read_first c.args.text.now c.reader_of-reader.result
    c.next_record.new.reader fields opened.reading opened.left opened.start read.0 in
    inr (inl (
      c.fault_at-then-not-is_header.ensures,
      inr (fields, (c.next_record.new.reader.state, rest, begins), search rules),
    ))

pub returns : goal.returns
returns c =
    let opened = c.reader_of-reader.ensures in
    let fields = fields_of c.next_record.new.fields in
    let read = rw c.in-Ok-true.field-0-test at (c.in-Ok-true.ensures opened.reading) in
    let past = read_first c.args.text.now c.reader_of-reader.result c.next_record.new.reader fields
    opened.reading opened.left opened.start read.0 in
    c.rows_under.ensures c.args.text.now fields past (search rules)
