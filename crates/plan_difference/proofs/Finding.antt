-- What is found of technology prefixes.
use Rattle.std.proofs.Common.{◌≡◌, ℕ, ◌≤◌, true, List, length, arith}
use Rattle.std.specs.Prelude.{Option, Some, None}
use Rattle.gk_commands.specs.declared.commands.Command.{Command}
use Rattle.compiler.specs.Technology.{technology_of, prefixes_of, begins_with, found_length}
use Rattle.compiler.specs.TablesIndex.{is_among}
use Rattle.compiler.proofs.TechnologyLemmas.{begins_within}
use Rattle.compiler.proofs.LearnedLemmas.{is_longest, is_none}

-- what is found is no longer than the text
pub found_within : (commands : List Command) (digits : List ℕ) (technology : Option (List ℕ))
    → technology_of commands digits ≡ technology → found_length technology ≤ length digits
found_within commands digits None e = omega arith
found_within commands digits (Some prefix) e =
    begins_within digits prefix (is_longest (prefixes_of commands) digits prefix e).begins

-- what is declared, and begins the text, is no longer than what is found
pub declared_within : (commands : List Command) (digits : List ℕ) (technology : Option (List ℕ))
    → technology_of commands digits ≡ technology
    → (prefix : List ℕ) → is_among (prefixes_of commands) prefix ≡ true
    → begins_with digits prefix ≡ true → length prefix ≤ found_length technology
declared_within commands digits None e prefix there begins =
    absurd (is_none (prefixes_of commands) digits e prefix there begins)
declared_within commands digits (Some found) e prefix there begins =
    (is_longest (prefixes_of commands) digits found e).longest prefix there begins
