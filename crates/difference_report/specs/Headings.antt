-- The headings of groups.
use Rattle.std.specs.Prelude.{ℕ, Bool, ◌&&◌, not, List, [], ◌∷◌, ◌++◌, fold, Option, Some, None, codes, bytes_eq, if◌then◌else◌}
use Rattle.std.specs.List.{list_any}
use Rattle.std.specs.Option.{option_eq}
use Rattle.gk_terms.specs.Text.{is_empty}
use Rattle.gk_commands.specs.declared.commands.Command.{Command}
use Rattle.compiler.specs.Technology.{prefix_in, technology_of}
use Rattle.plan_difference.specs.declared.number_sets.Group.{Group}
use Rattle.plan_difference.specs.Entries.{Entry, Entries, group_of}
use Rattle.plan_difference.specs.Sets.{hops_off}
use Rattle.plan_difference.specs.Walk.{text_of, longer_of}
use Rattle.difference_report.specs.Groups.{is_own}

-- ---- a group of its own
-- a technology prefix that is found, and whether it hops off
abbrev pub found_text : List Command → Option (List ℕ) → List ℕ
found_text commands None = codes "none"
found_text commands (Some prefix) =
    prefix ++ (if hops_off commands (Some prefix) then codes " hop-off" else [])

abbrev pub own_heading : (old new : List Command) → Group → List ℕ
own_heading old new group =
    codes "from " ++ text_of (longer_of group.old group.new) ++ codes " ("
    ++ found_text old group.old ++ codes " -> " ++ found_text new group.new ++ codes "):"
    ++ 10 ∷ []

-- ---- the joint group
-- whether a configuration declares a technology prefix, and it does not hop off
abbrev pub takes_off : List Command → List ℕ → Bool
takes_off commands prefix =
    option_eq bytes_eq (technology_of commands prefix) (Some prefix)
    && not (hops_off commands (Some prefix))

abbrev pub is_shared : (old new : List Command) → List ℕ → Bool
is_shared old new prefix = takes_off old prefix && takes_off new prefix

-- whether a prefix is to be added to those before it
abbrev pub is_next : (old new : List Command) → List (List ℕ) → List ℕ → Bool
is_next old new list prefix =
    not (list_any (bytes_eq prefix) list) && is_shared old new prefix

-- prefixes, and one more
abbrev pub with_shared : (old new : List Command) → List (List ℕ) → Option (List ℕ)
    → List (List ℕ)
with_shared old new list None = list
with_shared old new list (Some prefix) =
    if is_next old new list prefix then list ++ prefix ∷ [] else list

-- the prefixes that both configurations declare, and that hop off in neither, each once, in the
-- order in which the old one declares them
abbrev pub shared_prefixes : (old new : List Command) → List (List ℕ)
shared_prefixes old new =
    fold (λ list command. with_shared old new list (prefix_in command)) [] old

-- a list before its next item
abbrev pub begun : List ℕ → List ℕ
begun list = if is_empty list then list else (list ++ codes ", ")

abbrev pub with_prefix : List ℕ → List ℕ → List ℕ
with_prefix list prefix = begun list ++ prefix

abbrev pub prefixes_text : List (List ℕ) → List ℕ
prefixes_text prefixes = fold with_prefix [] prefixes

-- the heading with a list of prefixes; none if that is empty and no other group follows
abbrev pub heading_with : List ℕ → Bool → List ℕ
heading_with list follows =
    if is_empty list then (if follows then codes "no technology prefix:" ++ 10 ∷ [] else [])
    else (codes "no technology prefix, or after " ++ list ++ codes ":" ++ 10 ∷ [])

abbrev pub is_own_entry : Entry → Bool
is_own_entry entry = is_own (group_of entry.0)

abbrev pub joint_heading : (old new : List Command) → Entries → List ℕ
joint_heading old new entries =
    heading_with (prefixes_text (shared_prefixes old new)) (list_any is_own_entry entries)

-- ---- any group
abbrev pub heading : (old new : List Command) → Entries → Group → List ℕ
heading old new entries group =
    if is_own group then own_heading old new group else joint_heading old new entries
