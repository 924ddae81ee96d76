-- What is said of a configuration that is checked.
use Rattle.std.specs.Prelude.{ℕ, Bool, true, false, List, [], ◌∷◌, ◌++◌, length, codes, decimal, if◌then◌else◌}
use Rattle.gk_lines.specs.LineReader.{is_failure}
use Rattle.gk_terms.specs.Text.{line_text}
use Rattle.gk_commands.specs.Configuration.{Configuration}
use Rattle.gk_commands.specs.Printing.{text_of}
use Rattle.configuration_reader.specs.declared.configuration.ConfigurationFault.{ConfigurationFault}
use Rattle.configuration_reader.specs.declared.configuration.ConfigurationFault.TheVariants.{Line, Read}
use Rattle.configuration_reader.specs.declared.check.CheckFault.{CheckFault}
use Rattle.configuration_reader.specs.declared.check.CheckFault.TheVariants as check

-- how many commands, and how many lines passed over, as words
abbrev pub summary_words : ℕ → ℕ → List (List ℕ)
summary_words count passed =
    decimal count ∷ codes "commands," ∷ decimal passed ∷ codes "passed" ∷ codes "over" ∷ []

-- the line that is printed last
abbrev pub summary_text : Configuration → List ℕ
summary_text c = line_text (summary_words (length c.commands) c.passed)

-- the canonical lines if they are asked for, and then the summary
abbrev pub report_text : Bool → Configuration → List ℕ
report_text prints c = (if prints then text_of c.commands else []) ++ summary_text c

-- ---- faults
-- a fault of the configuration, as one of its check
abbrev pub check_fault_of : ConfigurationFault → CheckFault
check_fault_of (Line fault) = check.Config fault
check_fault_of (Read fault) = check.ReadFault fault

-- whether a check ended at its reader
abbrev pub is_check_read_fault : CheckFault → Bool
is_check_read_fault (check.ReadFault fault) = is_failure fault
is_check_read_fault (check.Config fault) = false
is_check_read_fault check.WriteFault = false

-- whether it ended at its writer
abbrev pub is_check_write_fault : CheckFault → Bool
is_check_write_fault (check.ReadFault fault) = false
is_check_write_fault (check.Config fault) = false
is_check_write_fault check.WriteFault = true
