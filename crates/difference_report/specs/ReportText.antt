-- The lines of `gkd diff`: the sets in their groups, the default technologies if they differ, and
-- how many sets have changed, and how many digits.
use Rattle.std.specs.Prelude.{ℕ, ◌==◌, Bool, false, ◌&&◌, ◌||◌, not, List, [], ◌∷◌, ◌++◌, length, fold, sum, Option, Some, None, codes, decimal, bytes_eq, if◌then◌else◌}
use Rattle.std.specs.Option.{option_eq}
use Rattle.gk_commands.specs.declared.commands.Command.{Command}
use Rattle.compiler.specs.Technology.{default_technology_of}
use Rattle.plan_difference.specs.declared.number_sets.Group.{Group}
use Rattle.plan_difference.specs.Entries.{Entry, Entries, group_of}
use Rattle.difference_counts.specs.Counted.{number_in, numbers_in}
use Rattle.difference_report.specs.CountWords.{numbers_words}
use Rattle.difference_report.specs.Headings.{heading}
use Rattle.difference_report.specs.PlanWords.{set_line}
use Rattle.difference_report.specs.SetText.{set_text}
use Rattle.difference_report.specs.Shape.{greater}

-- ---- blocks of lines
-- whether two groups are the same
abbrev pub same_group : Group → Group → Bool
same_group group other =
    option_eq bytes_eq group.old other.old && option_eq bytes_eq group.new other.new

-- a width, or that of a set if it is greater and the set is of the group
abbrev pub wider : (old new : List Command) → Group → ℕ → Entry → ℕ
wider old new group width entry =
    if same_group (group_of entry.0) group then greater width (length (set_text old new entry))
    else width

-- the width of the widest set of a group
abbrev pub width_of : (old new : List Command) → Entries → Group → ℕ
width_of old new entries group = fold (wider old new group) 0 entries

-- whether a group goes on after a set of this one, if there is one
abbrev pub goes_on : Option Group → Group → Bool
goes_on None group = false
goes_on (Some before) group = same_group before group

-- the heading, if another group begins
abbrev pub heading_if : (old new : List Command) → Entries → Option Group → Group → List ℕ
heading_if old new entries before group =
    if goes_on before group then [] else heading old new entries group

-- the lines of a set that has so many digits, after one of such a group
abbrev pub entry_text : (old new : List Command) → (listed changed : Entries) → Option Group → ℕ
    → Entry → List ℕ
entry_text old new listed changed before number entry =
    heading_if old new listed before (group_of entry.0)
    ++ set_line old new changed (width_of old new listed (group_of entry.0)) number entry

-- the text and the group of its last set, and one more set
abbrev pub with_entry : (old new : List Command) → (listed changed : Entries)
    → List ℕ × Option Group → Entry → List ℕ × Option Group
with_entry old new listed changed so_far entry = (
  so_far.0 ++ entry_text old new listed changed so_far.1 (number_in old new entry.0) entry,
  Some (group_of entry.0),
)

-- the lines of the sets that are listed
abbrev pub sets_text : (old new : List Command) → (listed changed : Entries) → List ℕ
sets_text old new listed changed =
    (fold (with_entry old new listed changed) ([], None) listed).0

-- ---- the last lines
abbrev pub technology_text : Option (List ℕ) → List ℕ
technology_text None = codes "none"
technology_text (Some prefix) = prefix

-- whether the default technologies are the same
abbrev pub same_default : (old new : List Command) → Bool
same_default old new =
    option_eq bytes_eq (default_technology_of old) (default_technology_of new)

abbrev pub technology_change : Option (List ℕ) → Option (List ℕ) → List ℕ
technology_change old new =
    technology_text old ++ codes " -> " ++ technology_text new ++ 10 ∷ []

abbrev pub default_change : Option (List ℕ) → Option (List ℕ) → List ℕ
default_change old new = codes "default technology: " ++ technology_change old new

abbrev pub default_line : (old new : List Command) → List ℕ
default_line old new =
    if same_default old new then []
    else default_change (default_technology_of old) (default_technology_of new)

-- how many sets there are, and how many digits they have together
abbrev pub count_line : (count numbers : ℕ) → List ℕ
count_line count numbers =
    decimal count ++ (if count == 1 then codes " set, " else codes " sets, ")
    ++ numbers_words numbers ++ 10 ∷ []

-- ---- the whole
-- the sets that are listed, of which some have changed, and how many these and their digits are
abbrev pub report_text : (old new : List Command) → (listed changed : Entries) → List ℕ
report_text old new listed changed =
    sets_text old new listed changed ++ default_line old new
    ++ count_line (length changed) (sum (numbers_in old new changed))

-- whether a set has changed, or the default technology has
abbrev pub is_different : (old new : List Command) → (changed : Entries) → Bool
is_different old new changed = not (length changed == 0) || not (same_default old new)
