-- How long the digits of a set are.
use Rattle.std.specs.Prelude.{ℕ, zero, suc, ◌-◌, ◌==◌, Bool, false, ◌&&◌, ◌||◌, not, List, [], ◌++◌, length, Option, Some, None, option_map, if◌then◌else◌}
use Rattle.std.specs.List.{list_any}
use Rattle.std.specs.Option.{option_eq}
use Rattle.gk_terms.specs.Dialled.{is_dialled}
use Rattle.gk_terms.specs.Text.{is_empty}
use Rattle.digit_patterns.specs.PatternParts.{PatternParts}
use Rattle.digit_patterns.specs.Pattern.{same_pattern}
use Rattle.gk_commands.specs.declared.commands.Command.{Command}
use Rattle.compiler.specs.Rows.{ZoneRow, row_for}
use Rattle.compiler.specs.Technology.{technology_of}
use Rattle.plan_difference.specs.declared.number_sets.NumberSet.{NumberSet}
use Rattle.plan_difference.specs.Entries.{Entry, group_of, same_set}
use Rattle.plan_difference.specs.Sets.{set_of}
use Rattle.plan_difference.specs.Walk.{STARS, starred, text_of}
use Rattle.difference_report.specs.Groups.{is_own}
use Rattle.difference_report.specs.Headings.{shared_prefixes}
use Rattle.difference_report.specs.Shape.{shape_of}

-- the technology prefix before what a set of the joint group is of; a set of another group is of
-- all the digits
abbrev pub front_of : List Command → Entry → List ℕ
front_of old entry =
    if is_own (group_of entry.0) then [] else text_of (technology_of old entry.1)

-- how many of the digits come after it
abbrev pub length_after : List Command → Entry → ℕ
length_after old entry = length entry.1 - length (front_of old entry)

-- ---- other digits
-- whether other digits are of the set too, and of another length after their own technology prefix
abbrev pub is_other : (old new : List Command) → Entry → List ℕ → Bool
is_other old new entry digits =
    same_set (set_of old new digits) entry.0
    && not (length_after old (entry.0, digits) == length_after old entry)

-- whether a text is such digits
unfoldable pub is_other_text : (old new : List Command) → Entry → List ℕ → Bool
is_other_text old new entry text = is_dialled text && is_other old new entry text

-- whether the literals of the set are such digits, after a front and with so many stars after them
abbrev pub is_other_with : (old new : List Command) → Entry → List ℕ → ℕ → Bool
is_other_with old new entry front count =
    is_other_text old new entry (starred (front ++ (shape_of entry.0).literals) count)

-- ---- fronts and counts
-- whether a number below this one passes
abbrev pub any_below : (ℕ → Bool) → ℕ → Bool
any_below test zero = false
any_below test (suc count) = any_below test count || test count

-- whether they are, with some number of stars
unfoldable pub has_others_after : (old new : List Command) → Entry → List ℕ → Bool
has_others_after old new entry front = any_below (is_other_with old new entry front) STARS

-- ---- the joint group
-- the zone prefix for what follows a technology prefix, or for all the digits
abbrev pub rest_row : List Command → List ℕ → Option PatternParts
rest_row commands rest = option_map (λ (row : ZoneRow). row.0) (row_for commands rest)

-- whether the zone prefixes of a set are those for it
abbrev pub has_rows : (old new : List Command) → NumberSet → List ℕ → Bool
has_rows old new set rest =
    option_eq same_pattern (rest_row old rest) set.old_row
    && option_eq same_pattern (rest_row new rest) set.new_row

-- whether a text may follow a technology prefix
abbrev pub is_rest : List ℕ → Bool
is_rest text = is_empty text || is_dialled text

-- whether digits of a set may go on with a text after their technology prefix, and have another
-- length than this after it. That is the same for each technology prefix of the joint group
abbrev pub is_other_rest : (old new : List Command) → NumberSet → ℕ → List ℕ → Bool
is_other_rest old new set known text =
    not (length text == known) && (is_rest text && has_rows old new set text)

-- so with the literals of the set and so many stars
unfoldable pub may_follow : (old new : List Command) → NumberSet → ℕ → ℕ → Bool
may_follow old new set known count =
    is_other_rest old new set known (starred (shape_of set).literals count)

-- a number that was found, or else this one if it passes
abbrev pub or_this : Option ℕ → Bool → ℕ → Option ℕ
or_this (Some found) passes count = Some found
or_this None passes count = if passes then Some count else None

-- the least number below this one that passes
abbrev pub least_below : (ℕ → Bool) → ℕ → Option ℕ
least_below test zero = None
least_below test (suc count) = or_this (least_below test count) (test count) count

-- the least number of stars with which they may
unfoldable pub other_count : (old new : List Command) → Entry → Option ℕ
other_count old new entry =
    least_below (may_follow old new entry.0 (length_after old entry)) STARS

-- whether digits with so many stars are of the set: after the technology prefix of these digits,
-- none, or another one of the joint group
abbrev pub has_others_with : (old new : List Command) → Entry → Option ℕ → Bool
has_others_with old new entry None = false
has_others_with old new entry (Some count) =
    is_other_with old new entry (text_of (technology_of old entry.1)) count
    || (has_others_after old new entry []
    || list_any (λ front. is_other_with old new entry front count) (shared_prefixes old new))

-- ---- any group
-- whether digits of another length are of the set too. There are none if one of both zone prefixes
-- has no star: those that it matches have one length. Else, of a length of which the set has digits
-- after a technology prefix, it has the literals with stars after that prefix too, since a longer
-- beginning is matched by more patterns. In the joint group the least number of stars that gives
-- another length serves for each prefix, since it gives the shortest digits
unfoldable pub has_others : (old new : List Command) → Entry → Bool
has_others old new entry =
    (shape_of entry.0).star
    && (if is_own (group_of entry.0) then has_others_after old new entry []
    else has_others_with old new entry (other_count old new entry))
