-- How the plans of a set are written.
use Rattle.std.specs.Prelude.{ℕ, ◌-◌, Bool, true, false, ◌&&◌, List, [], ◌∷◌, ◌++◌, length, replicate, Option, Some, None, codes, bytes_eq, if◌then◌else◌}
use Rattle.std.specs.Option.{option_eq}
use Rattle.gk_terms.specs.Address.{AddressParts, address_text}
use Rattle.digit_patterns.specs.PatternParts.{PatternParts}
use Rattle.digit_patterns.specs.Pattern.{pattern_text}
use Rattle.gk_commands.specs.declared.commands.Command.{Command}
use Rattle.compiler.specs.Plan.{plan_of}
use Rattle.plan_difference.specs.declared.destinations.Destination.{Destination}
use Rattle.plan_difference.specs.declared.number_sets.NumberSet.{NumberSet}
use Rattle.plan_difference.specs.Destination.{destination_of}
use Rattle.plan_difference.specs.Entries.{Entry, Entries, group_of, has_set}
use Rattle.difference_report.specs.CountWords.{count_words}
use Rattle.difference_report.specs.Groups.{is_own}
use Rattle.difference_report.specs.SetText.{set_text}
use Rattle.difference_report.specs.Shape.{whole}

-- the address of another gatekeeper
abbrev pub address_words : Option AddressParts → List ℕ
address_words None = []
address_words (Some address) = 32 ∷ address_text address

-- the zone; without one, the caller's, or that the digits are refused
abbrev pub place_words : Option (List ℕ) → Option AddressParts → Bool → List ℕ
place_words (Some zone) address refused = zone ++ address_words address
place_words None address true = codes "refused"
place_words None address false = codes "caller's zone"

-- the technology prefix, which is said in a group of its own alone
abbrev pub technology_words : Bool → Option (List ℕ) → List ℕ
technology_words false technology = []
technology_words true None = []
technology_words true (Some prefix) = codes " technology " ++ prefix

abbrev pub plan_words : Bool → Destination → List ℕ
plan_words own destination =
    place_words destination.zone destination.address destination.refused
    ++ technology_words own destination.technology

-- the zone prefix that decides, if it is not the set itself, which is written like this
abbrev pub row_words : List ℕ → Option (List ℕ) → Option PatternParts → List ℕ
row_words shown technology None = []
row_words shown technology (Some pattern) =
    if bytes_eq (pattern_text (whole technology (Some pattern))) shown then []
    else (codes " (" ++ pattern_text pattern ++ codes ")")

-- a plan and the zone prefix
abbrev pub side_words : Bool → List ℕ → Destination → Option (List ℕ) → Option PatternParts
    → List ℕ
side_words own shown destination technology row =
    plan_words own destination ++ row_words shown technology row

-- whether both plans have the same zone, address and technology prefix
abbrev pub has_same_words : Bool → Destination → Destination → Bool
has_same_words own old new =
    option_eq bytes_eq old.zone new.zone && bytes_eq (plan_words own old) (plan_words own new)

-- what is said if they have
abbrev pub gateway_words : Bool → Destination → Destination → List ℕ
gateway_words own old new =
    if has_same_words own old new then codes ", other gateway priorities" else []

-- both plans of a set, which is written like this
abbrev pub change_words : List ℕ → NumberSet → Destination → Destination → List ℕ
change_words shown set old new =
    side_words (is_own (group_of set)) shown old set.old_technology set.old_row
    ++ codes " -> "
    ++ side_words (is_own (group_of set)) shown new set.new_technology set.new_row
    ++ gateway_words (is_own (group_of set)) old new

-- what is said of a set: both plans if it has changed, and else the one
abbrev pub said_words : Bool → List ℕ → NumberSet → Destination → Destination → List ℕ
said_words true shown set old new = change_words shown set old new
said_words false shown set old new = codes "= " ++ plan_words (is_own (group_of set)) old

-- a text, filled up with spaces
abbrev pub filled : ℕ → List ℕ → List ℕ
filled width text = text ++ replicate (width - length text) 32

-- how many digits a set has
abbrev pub number_words : ℕ → List ℕ
number_words number = codes "  [" ++ count_words number ++ codes "]"

-- the line of a set that has so many digits, with the plans of the digits beside it; the sets of its
-- group are that wide
abbrev pub set_line : (old new : List Command) → (changed : Entries) → (width number : ℕ) → Entry
    → List ℕ
set_line old new changed width number entry =
    codes "  " ++ filled width (set_text old new entry) ++ codes "  "
    ++ said_words (has_set changed entry.0) (set_text old new entry) entry.0
    (destination_of (plan_of old entry.1)) (destination_of (plan_of new entry.1))
    ++ number_words number ++ 10 ∷ []
