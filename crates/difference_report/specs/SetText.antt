-- How a set is written.
use Rattle.std.specs.Prelude.{ℕ, ◌-◌, false, List, length, codes, if◌then◌else◌}
use Rattle.gk_terms.specs.Text.{is_empty}
use Rattle.digit_patterns.specs.PatternParts.{PatternParts}
use Rattle.digit_patterns.specs.Pattern.{pattern_text}
use Rattle.gk_commands.specs.declared.commands.Command.{Command}
use Rattle.plan_difference.specs.Entries.{Entry}
use Rattle.difference_report.specs.Lengths.{has_others, length_after}
use Rattle.difference_report.specs.Shape.{shape_of}

-- a pattern of just so many characters
abbrev pub exact : PatternParts → ℕ → PatternParts
exact pattern count = record {
  literals = pattern.literals;
  dots = count - length pattern.literals;
  star = false;
}

-- a pattern's text, or that there is no character
abbrev pub or_nothing : List ℕ → List ℕ
or_nothing text = if is_empty text then codes "(nothing)" else text

-- the pattern of the set; if all its digits have the length of these, that of just this length
unfoldable pub set_text : (old new : List Command) → Entry → List ℕ
set_text old new entry =
    if has_others old new entry then pattern_text (shape_of entry.0)
    else or_nothing (pattern_text (exact (shape_of entry.0) (length_after old entry)))
