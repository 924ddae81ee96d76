-- Fields in whose place Cisco's command may have words that this project leaves out, and fields
-- that are names.
use Rattle.std.specs.Prelude.{ℕ, Bool, List, [], ◌∷◌, Option, Some, None, Result, Ok, Err, bytes_eq, if◌then◌else◌}
use Rattle.std.specs.List.{list_any}
use Rattle.std.specs.Option.{ok_or}
use Rattle.gk_terms.specs.Name.{name_of}
use Rattle.gk_terms.specs.Fields.{◌>>=◌, field_by}
use Rattle.gk_commands.specs.declared.faults.FaultKind.{FaultKind}
use Rattle.gk_commands.specs.declared.faults.FaultKind.TheVariants.{Unsupported, Missing, Extra, BadName}

-- ---- left-out words
-- whether the word is among these
abbrev pub is_one_of : List (List ℕ) → List ℕ → Bool
is_one_of words word = list_any (bytes_eq word) words

-- a word in its place: a left-out word is Unsupported, and one that cannot be read is its field's
-- own kind
abbrev pub value_but : {A : Type 0} → List (List ℕ) → (List ℕ → Option A) → FaultKind → List ℕ
    → Result A FaultKind
value_but left_out read kind word =
    if is_one_of left_out word then Err Unsupported else ok_or (read word) kind

-- the first word as a field, with the words after it
abbrev pub field_but : {A : Type 0} → List (List ℕ) → (List ℕ → Option A) → FaultKind
    → List (List ℕ) → Result (A × List (List ℕ)) FaultKind
field_but left_out read kind words = field_by Missing (value_but left_out read kind) words

-- a value, if no word comes after the last field: a left-out word is Unsupported, another word is
-- Extra
abbrev pub nothing_more_but : {A : Type 0} → List (List ℕ) → A → List (List ℕ) → Result A FaultKind
nothing_more_but left_out x [] = Ok x
nothing_more_but left_out x (word ∷ words) =
    if is_one_of left_out word then Err Unsupported else Err Extra

-- ---- names
-- with one more name before these
abbrev pub with_name : List ℕ → List (List ℕ) → Result (List (List ℕ)) FaultKind
with_name name names = Ok (name ∷ names)

-- each word as a name
abbrev pub names_in : List (List ℕ) → Result (List (List ℕ)) FaultKind
names_in [] = Ok []
names_in (word ∷ words) = ok_or (name_of word) BadName >>= λ name. names_in words >>= with_name name

-- each word as a name; at least one is needed
abbrev pub some_names_in : List (List ℕ) → Result (List (List ℕ)) FaultKind
some_names_in [] = Err Missing
some_names_in (word ∷ words) = names_in (word ∷ words)

-- ---- a word that was taken before the reader of its field
-- the words with that word before them; none if the line ended there
abbrev pub with_next : Option (List ℕ) → List (List ℕ) → List (List ℕ)
with_next None words = []
with_next (Some word) words = word ∷ words
