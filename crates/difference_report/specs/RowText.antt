-- Rows of comma-separated fields that are made in memory.
use Rattle.std.specs.Prelude.{◌≡◌, ◌++◌, ℕ, false, List}
use Rattle.std.specs.Global.{Vec}
use Rattle.csv.specs.Writing.{default_writer, fields_written, has_written, writer_pending, writer_setup, writer_under}
use Rattle.csv.specs.declared.writer.Writer.{Writer}

-- the text that was written
abbrev pub written : Writer (Vec ℕ) → List ℕ
written w = (writer_under w).items ++ writer_pending w

-- a writer as csv makes it by default, which has written whole rows
abbrev pub IsBetweenRows : {W : Type 0} → Writer W → Type 0
IsBetweenRows w =
    (writer_setup w ≡ default_writer) × (fields_written w ≡ 0) × (has_written w ≡ false)
