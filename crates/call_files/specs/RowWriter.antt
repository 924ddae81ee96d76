-- Rows of comma-separated fields that wait for a writer.
use Rattle.std.specs.Prelude.{◌≡◌, ◌++◌, ℕ, Bool, true, false, List}
use Rattle.std.specs.Global.{Vec}
use Rattle.csv.specs.Writing.{default_writer, fields_written, has_written, writer_pending, writer_setup, writer_under}
use Rattle.csv.specs.declared.writer.Writer.{Writer}
use Rattle.call_files.specs.declared.row_writer.WriteRowsFault.{WriteRowsFault}
use Rattle.call_files.specs.declared.row_writer.WriteRowsFault.TheVariants.{WriteFault, NoMemory}

-- whether the writer failed
abbrev pub is_write_fault : WriteRowsFault → Bool
is_write_fault WriteFault = true
is_write_fault NoMemory = false

-- the text that was written and is not sent
abbrev pub waiting : Writer (Vec ℕ) → List ℕ
waiting w = (writer_under w).items ++ writer_pending w

-- a writer as csv makes it by default, which has written whole rows
abbrev pub IsBetweenRows : {W : Type 0} → Writer W → Type 0
IsBetweenRows w =
    (writer_setup w ≡ default_writer) × (fields_written w ≡ 0) × (has_written w ≡ false)
