-- What is gathered from two configurations before digits are tried, and what is settled after.
use Rattle.std.specs.Prelude.{◌≡◌, ℕ, true, List, [], slice_get, Option, Some, None, cond, ◌==◌, false, Bool, Contains, option_map}
use Rattle.std.specs.List.{list_all, filter_map}
use Rattle.digit_patterns.specs.PatternParts.{PatternParts}
use Rattle.gk_commands.specs.declared.commands.Command.{Command}
use Rattle.compiler.specs.Rows.{ZoneRow, rows_of, row_of}
use Rattle.compiler.specs.Technology.{prefixes_of, technology_of}
use Rattle.plan_difference.specs.declared.number_sets.Group.{Group}
use Rattle.plan_difference.specs.Entries.{Entries}
use Rattle.plan_difference.specs.Sets.{is_joint}
use Rattle.plan_difference.specs.Walk.{Heads, SettlesStem, SettlesPatterns, SettlesHead}

-- the joint group
abbrev pub joint : Group
joint = record { old = None; new = None }

-- a list has an element
pub record Has {X : Type 0} (xs : List X) (x : X) : Type 0 where
  pub place : ℕ
  pub stands : slice_get xs place ≡ Some x

-- whether the group of a technology prefix is the joint one
abbrev pub is_joint_head : (old new : List Command) → Option (List ℕ) → Bool
is_joint_head old new None = true
is_joint_head old new (Some prefix) =
    is_joint old new (technology_of old prefix) (technology_of new prefix)

-- any character but the star
abbrev pub is_no_star : ℕ → Bool
is_no_star b = cond (b == 42) false true

abbrev pub has_no_star : List ℕ → Bool
has_no_star text = list_all is_no_star text

-- all that the one list has the other has too
abbrev pub KeepsAll : {X : Type 0} → List X → List X → Type 0
KeepsAll {X} before after = (x : X) → Contains before x → Contains after x

-- the pattern of a command, if it is a `zone prefix`
abbrev pub pattern_in : Command → Option PatternParts
pattern_in command = option_map (λ row. row.0) (row_of command)

-- the patterns of all `zone prefix` lines
abbrev pub patterns_of : List Command → List PatternParts
patterns_of commands = filter_map pattern_in commands

-- the patterns of the rows of a configuration are among these
abbrev pub HasPatterns : List PatternParts → List Command → Type 0
HasPatterns patterns commands =
    (place : ℕ) (row : ZoneRow) → slice_get (rows_of commands) place ≡ Some row
    → Has patterns row.0

-- the technology prefixes of a configuration are among these
abbrev pub HasPrefixes : Heads → List Command → Type 0
HasPrefixes heads commands =
    (place : ℕ) (prefix : List ℕ) → slice_get (prefixes_of commands) place ≡ Some prefix
    → Has heads (Some prefix)

-- the literals of each of these are without a star
abbrev pub AreLiteral : List PatternParts → Type 0
AreLiteral patterns =
    (place : ℕ) (pattern : PatternParts) → slice_get patterns place ≡ Some pattern
    → has_no_star pattern.literals ≡ true

-- each of these technology prefixes is without a star
abbrev pub AreClean : Heads → Type 0
AreClean heads =
    (place : ℕ) (prefix : List ℕ) → slice_get heads place ≡ Some (Some prefix)
    → has_no_star prefix ≡ true

-- the patterns and the technology prefixes of both configurations
pub record AreGathered (old new : List Command) (heads : Heads) (patterns : List PatternParts)
    : Type 0 where
  pub none : Has heads None
  pub old_prefixes : HasPrefixes heads old
  pub new_prefixes : HasPrefixes heads new
  pub old_patterns : HasPatterns patterns old
  pub new_patterns : HasPatterns patterns new
  pub literal : AreLiteral patterns
  pub clean : AreClean heads

-- all digits that are to be tried are; of the joint group after its own technology prefixes
pub record IsSettled (old new : List Command) (entries : Entries) (heads joint_heads : Heads)
    (patterns : List PatternParts) : Type 0 where
  pub alone : SettlesStem old new entries joint_heads joint []
  pub joint_patterns : SettlesPatterns old new entries joint_heads joint [] patterns
  pub each_head : (place : ℕ) (head : Option (List ℕ)) → slice_get heads place ≡ Some head
      → SettlesHead old new entries patterns head
