-- Where digits leave the ways to longer technology prefixes.
use Rattle.std.specs.Prelude.{◌≡◌, ℕ, zero, suc, ◌+◌, ◌-◌, ◌<◌, ◌==◌, ◌&&◌, Bool, true, false, cond, List, [], ◌∷◌, ◌++◌, length, drop, get_or, slice_index, Option, None}
use Rattle.std.specs.List.{All, list_all, starts_with, sum_by}
use Rattle.gk_terms.specs.Dialled.{is_dialled_byte}
use Rattle.digit_patterns.specs.PatternParts.{PatternParts}
use Rattle.gk_commands.specs.declared.commands.Command.{Command}
use Rattle.difference_counts.specs.Ahead.{HasPatternsOn}
use Rattle.difference_counts.specs.Numbers.{character_at}
use Rattle.difference_counts.specs.Places.{has_at}
use Rattle.difference_counts.specs.Walk.{all_shorter, below, over_ends}

-- a front of dialled characters, how many of them its technology prefix has, and of each character
-- whether digits leave with it
abbrev pub Branching : Type 0
Branching = List ℕ × (ℕ × List Bool)

-- what is after the technology prefix
abbrev pub rest_in : Branching → List ℕ
rest_in branch = drop branch.1.0 branch.0

-- whether digits leave with the character of this number
abbrev pub has_flag : ℕ → Branching → Bool
has_flag number branch = get_or branch.1.1 number false

-- how many characters may follow the technology prefix
abbrev pub room_of : Branching → ℕ
room_of branch = 32 - branch.1.0

-- whether this many may
abbrev pub has_room : ℕ → Branching → Bool
has_room room branch = room_of branch == room

-- whether so many characters are after the technology prefix, and digits leave with the character
-- of this number
abbrev pub leaves_at : ℕ → ℕ → Branching → Bool
leaves_at place number branch = (length (rest_in branch) == place) && has_flag number branch

-- whether what is after the technology prefix has a character at a place
abbrev pub branch_has_at : ℕ → ℕ → Branching → Bool
branch_has_at place character branch = has_at place character (rest_in branch)

-- the sum over the characters with which digits leave; 0 if no character may follow
abbrev pub over_flags : List Bool → ℕ → (ℕ → ℕ → ℕ) → ℕ
over_flags flags zero f = 0
over_flags flags (suc less) f = over_ends flags (λ number. f number less)

-- the same for a branch, if what is after its technology prefix may be dialled
abbrev pub over_branch : (List ℕ → ℕ → ℕ → ℕ) → Branching → ℕ
over_branch f branch =
    cond (list_all is_dialled_byte (rest_in branch))
    (over_flags branch.1.1 (room_of branch - length (rest_in branch)) (f (rest_in branch))) 0

-- how many digits that leave have their set at a place
unfoldable pub branched : (List ℕ → Option ℕ) → ℕ → Branching → ℕ
branched place_of place branch =
    over_branch (λ rest number less. below place_of (rest ++ character_at number ∷ []) less place)
    branch

-- how many digits leave
unfoldable pub weight_of : Branching → ℕ
weight_of branch = over_branch (λ rest number less. all_shorter (less + 1)) branch

-- so for several branches
abbrev pub all_branched : (List ℕ → Option ℕ) → List Branching → ℕ → ℕ
all_branched place_of branches place = sum_by (branched place_of place) branches

abbrev pub weight : List Branching → ℕ
weight branches = sum_by weight_of branches

-- each number, with what was put off, has grown by so much
abbrev pub GrewWith : (List ℕ → Option ℕ) → (before : List ℕ) → List Branching
    → (after : List ℕ) → List Branching → (ℕ → ℕ) → Type 0
GrewWith place_of before branches after more_branches more =
    (place : ℕ) → place < length before
    → slice_index after place + all_branched place_of more_branches place
    ≡ slice_index before place + all_branched place_of branches place + more place

-- ---- on from a rest
-- a branch goes on from a rest after which so many characters may follow
pub record IsOn (rest : List ℕ) (most : ℕ) (branch : Branching) : Type 0 where
  pub begins : starts_with ◌==◌ (rest_in branch) rest ≡ true
  pub room : room_of branch ≡ length rest + most

-- these do, and all patterns of both configurations that do are among these
pub record AreOn (old new : List Command) (rest : List ℕ) (most : ℕ) (patterns : List PatternParts)
    (branches : List Branching) : Type 0 where
  pub old_patterns : HasPatternsOn old rest None patterns
  pub new_patterns : HasPatternsOn new rest None patterns
  pub branches_on : All (IsOn rest most) branches
