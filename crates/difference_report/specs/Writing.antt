-- A report as it is written.
use Rattle.std.specs.Prelude.{◌≡◌, ℕ, Bool, true, false, List, Option, Result, Ok, Err}
use Rattle.std.specs.Io.KnownBytes.{Appends}
use Rattle.std.specs.Map.{keys_of}
use Rattle.gk_lines.specs.Streams.{AppendsFront}
use Rattle.gk_commands.specs.declared.commands.Command.{Command}
use Rattle.plan_difference.specs.Difference.{AreClasses, IsDifference}
use Rattle.plan_difference.specs.Entries.{Entries, AreChanged, AreSampled, HaveDigits}
use Rattle.plan_difference.specs.Order.{AreGrouped}
use Rattle.difference_report.specs.declared.wanted.Form.{Form}
use Rattle.difference_report.specs.declared.wanted.Form.TheVariants as forms
use Rattle.difference_report.specs.declared.wanted.Listing.{Listing}
use Rattle.difference_report.specs.declared.wanted.Listing.TheVariants as listings
use Rattle.difference_report.specs.declared.writing.ReportFault.{ReportFault}
use Rattle.difference_report.specs.declared.writing.ReportFault.TheVariants.{NoMemory, WriteFault}
use Rattle.difference_report.specs.ReportText.{report_text, is_different}
use Rattle.difference_report.specs.Rows.{rows_text}

-- which sets are listed: those that have changed; or all, of which those are the part, in the same
-- order
abbrev pub AreListed : (old new : List Command) → Listing → (listed changed : Entries) → Type 0
AreListed old new listings.Changed listed changed = listed ≡ changed
AreListed old new listings.All listed changed =
    AreClasses old new (keys_of listed) × HaveDigits old new listed
    × AreChanged old new listed changed

-- these sets as they are written
abbrev pub text_in : Form → (old new : List Command) → (listed changed : Entries) → List ℕ
text_in forms.Lines old new listed changed = report_text old new listed changed
text_in forms.Rows old new listed changed = rows_text old new listed changed

-- the text says the sets that are to be listed, each with the plans of some of its digits, and
-- which of them have changed: those of all digits that are planned otherwise. The sets of one group
-- stand together. And it is told whether the configurations differ
pub record IsReport (old new : List Command) (listing : Listing) (form : Form) (differs : Bool)
    (text : List ℕ) : Type 0 where
  pub changed : Entries
  pub difference : IsDifference old new (keys_of changed)
  pub samples : AreSampled old new changed
  pub listed : Entries
  pub lists : AreListed old new listing listed changed
  pub grouped : AreGrouped (keys_of listed)
  pub says : text ≡ text_in form old new listed changed
  pub decides : differs ≡ is_different old new changed

-- whether it is the writer's fault
abbrev pub is_write_fault : ReportFault → Bool
is_write_fault NoMemory = false
is_write_fault WriteFault = true

-- the text of a report was written, or a front of it; or nothing, if memory ran out
abbrev pub Writes : Option (List ℕ) → Option (List ℕ) → (Bool → List ℕ → Type 0)
    → Result Bool ReportFault → Type 0
Writes old new Is (Ok differs) = (text : List ℕ) × Is differs text × Appends old new text
Writes old new Is (Err NoMemory) = new ≡ old
Writes old new Is (Err WriteFault) =
    (differs : Bool) × (text : List ℕ) × Is differs text × AppendsFront old new text
