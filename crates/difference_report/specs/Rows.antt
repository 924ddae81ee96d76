-- The rows of `gkd diff --csv`: a header, and one for each set.
use Rattle.std.specs.Prelude.{ℕ, Bool, true, false, ◌&&◌, List, [], ◌∷◌, ◌++◌, fold, Option, Some, None, codes, decimal, if◌then◌else◌}
use Rattle.csv.specs.Writing.{default_writer, row_text}
use Rattle.gk_terms.specs.Address.{AddressParts, address_text}
use Rattle.digit_patterns.specs.PatternParts.{PatternParts}
use Rattle.digit_patterns.specs.Pattern.{pattern_text}
use Rattle.gk_commands.specs.declared.commands.Command.{Command}
use Rattle.compiler.specs.Plan.{plan_of}
use Rattle.plan_difference.specs.declared.destinations.Destination.{Destination}
use Rattle.plan_difference.specs.declared.number_sets.Group.{Group}
use Rattle.plan_difference.specs.declared.number_sets.NumberSet.{NumberSet}
use Rattle.plan_difference.specs.Destination.{destination_of}
use Rattle.plan_difference.specs.Entries.{Entry, Entries, group_of, has_set}
use Rattle.plan_difference.specs.Walk.{text_of, longer_of}
use Rattle.difference_counts.specs.Counted.{number_in}
use Rattle.difference_report.specs.Groups.{is_own}
use Rattle.difference_report.specs.Headings.{shared_prefixes}
use Rattle.difference_report.specs.PlanWords.{has_same_words}
use Rattle.difference_report.specs.SetText.{set_text}

abbrev pub header : List (List ℕ)
header =
    codes "technologies" ∷ codes "set" ∷ codes "change"
    ∷ codes "old_row" ∷ codes "old_kind" ∷ codes "old_zone" ∷ codes "old_address"
    ∷ codes "old_technology"
    ∷ codes "new_row" ∷ codes "new_kind" ∷ codes "new_zone" ∷ codes "new_address"
    ∷ codes "new_technology"
    ∷ codes "gateways" ∷ codes "numbers" ∷ []

-- ---- the technology prefixes of a group
-- a dash for none, and then those of the joint group, each after a space
abbrev pub joint_technologies : List (List ℕ) → List ℕ
joint_technologies prefixes = fold (λ list prefix. list ++ 32 ∷ prefix) (codes "-") prefixes

-- those of the joint group; of another one its own, with which the digits begin
abbrev pub technologies_field : List ℕ → Group → List ℕ
technologies_field joint group =
    if is_own group then text_of (longer_of group.old group.new) else joint

-- ---- a plan
-- the zone prefix that decides
abbrev pub row_field : Option PatternParts → List ℕ
row_field None = []
row_field (Some pattern) = pattern_text pattern

-- a local zone, a remote one, which has an address, the caller's, or nowhere
abbrev pub kind_field : Option (List ℕ) → Option AddressParts → Bool → List ℕ
kind_field (Some zone) None refused = codes "local"
kind_field (Some zone) (Some address) refused = codes "remote"
kind_field None address false = codes "caller"
kind_field None address true = codes "refused"

abbrev pub address_field : Option AddressParts → List ℕ
address_field None = []
address_field (Some address) = address_text address

-- the technology prefix, in a group of its own: in the joint one it is that of the digits
abbrev pub technology_field : Bool → Option (List ℕ) → List ℕ
technology_field own technology = if own then text_of technology else []

-- a plan and the zone prefix that decides
abbrev pub plan_fields : Bool → Option PatternParts → Destination → List (List ℕ)
plan_fields own row place =
    row_field row ∷ kind_field place.zone place.address place.refused ∷ text_of place.zone
    ∷ address_field place.address ∷ technology_field own place.technology ∷ []

-- ---- a set
abbrev pub change_field : Bool → List ℕ
change_field true = codes "yes"
change_field false = codes "no"

-- whether the plans differ in the priorities of gateways alone
abbrev pub gateways_field : Bool → List ℕ
gateways_field true = codes "other"
gateways_field false = codes "same"

-- the fields of a set: whether it has changed, where its digits go, and how many they are
abbrev pub set_fields : List ℕ → List ℕ → Bool → NumberSet → Destination → Destination → ℕ
    → List (List ℕ)
set_fields joint shown has_changed set old new number =
    technologies_field joint (group_of set) ∷ shown ∷ change_field has_changed
    ∷ plan_fields (is_own (group_of set)) set.old_row old
    ++ plan_fields (is_own (group_of set)) set.new_row new
    ++ gateways_field (has_changed && has_same_words (is_own (group_of set)) old new)
    ∷ decimal number ∷ []

abbrev pub set_row : (old new : List Command) → List ℕ → (changed : Entries) → ℕ → Entry
    → List ℕ
set_row old new joint changed number entry =
    row_text default_writer (set_fields joint (set_text old new entry)
    (has_set changed entry.0) entry.0
    (destination_of (plan_of old entry.1)) (destination_of (plan_of new entry.1)) number)

-- ---- the whole
abbrev pub with_row : (old new : List Command) → List ℕ → (changed : Entries) → List ℕ → Entry
    → List ℕ
with_row old new joint changed text entry =
    text ++ set_row old new joint changed (number_in old new entry.0) entry

abbrev pub rows_text : (old new : List Command) → (listed changed : Entries) → List ℕ
rows_text old new listed changed =
    fold (with_row old new (joint_technologies (shared_prefixes old new)) changed)
    (row_text default_writer header) listed
