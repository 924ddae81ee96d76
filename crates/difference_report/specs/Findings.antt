-- What is written of two configurations.
use Rattle.std.specs.Prelude.{◌≡◌, ℕ, List, sum}
use Rattle.std.specs.Map.{keys_of}
use Rattle.gk_commands.specs.declared.commands.Command.{Command}
use Rattle.plan_difference.specs.Entries.{Entries}
use Rattle.plan_difference.specs.Order.{AreGrouped}
use Rattle.difference_counts.specs.Counted.{numbers_in}
use Rattle.difference_report.specs.Headings.{shared_prefixes}

-- both configurations, the sets that are listed, and those that have changed
pub record FoundParts : Type 0 where
  pub old : List Command
  pub new : List Command
  pub listed : Entries
  pub changed : Entries

-- these are the technology prefixes of their joint group, the numbers of the sets that are listed,
-- of which those of one group stand together, and the one of all digits of those that have changed
pub record IsFound (parts : FoundParts) (shared : List (List ℕ)) (counts : List ℕ) (total : ℕ)
    : Type 0 where
  pub prefixes : shared ≡ shared_prefixes parts.old parts.new
  pub grouped : AreGrouped (keys_of parts.listed)
  pub numbers : counts ≡ numbers_in parts.old parts.new parts.listed
  pub together : total ≡ sum (numbers_in parts.old parts.new parts.changed)
