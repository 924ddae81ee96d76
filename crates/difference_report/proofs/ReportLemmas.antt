-- A report of sets.
use Rattle.std.proofs.Common.{◌≡◌, ℕ, Bool, List}
use Rattle.std.specs.Prelude.{Result, Ok, Err, IfOk}
use Rattle.std.specs.Map.{keys_of}
use Rattle.gk_commands.specs.declared.commands.Command.{Command}
use Rattle.plan_difference.specs.Difference.{IsDifference}
use Rattle.plan_difference.specs.Entries.{Entries, AreSampled}
use Rattle.plan_difference.specs.Order.{AreGrouped}
use Rattle.difference_report.specs.declared.wanted.Form.{Form}
use Rattle.difference_report.specs.declared.wanted.Listing.{Listing}
use Rattle.difference_report.specs.ReportText.{is_different}
use Rattle.difference_report.specs.Writing.{AreListed, IsReport, text_in}

pub is_report : {R F : Type 0} (text : R → List ℕ) (differs : R → Bool) (old new : List Command)
    (listing : Listing) (form : Form) (listed changed : Entries)
    → IsDifference old new (keys_of changed) → AreSampled old new changed
    → AreListed old new listing listed changed → AreGrouped (keys_of listed)
    → (result : Result R F) → IfOk result (λ r. text r ≡ text_in form old new listed changed)
    → IfOk result (λ r. differs r ≡ is_different old new changed)
    → IfOk result (λ r. IsReport old new listing form (differs r) (text r))
is_report text differs old new listing form listed changed difference samples lists grouped (Ok r)
    says decides = record {
      changed = changed;
      difference = difference;
      samples = samples;
      listed = listed;
      lists = lists;
      grouped = grouped;
      says = says;
      decides = decides;
    }
is_report text differs old new listing form listed changed difference samples lists grouped (Err f)
    says decides = tt
