-- What a line that begins with `gw-type-prefix` says, by the words after that.
use Rattle.std.specs.Prelude.{ℕ, Bool, true, false, List, [], ◌∷◌, Result, Ok, Err, codes, bytes_eq, if◌then◌else◌}
use Rattle.std.specs.Option.{ok_or}
use Rattle.gk_terms.specs.Name.{name_of}
use Rattle.gk_terms.specs.TechPrefix.{tech_prefix_of}
use Rattle.gk_terms.specs.Fields.{◌>>=◌, field}
use Rattle.gk_commands.specs.declared.faults.FaultKind.{FaultKind}
use Rattle.gk_commands.specs.declared.faults.FaultKind.TheVariants.{Unsupported, Missing, Extra, BadName, BadPattern}
use Rattle.gk_commands.specs.declared.commands.Command.{Command}
use Rattle.gk_commands.specs.declared.commands.Command.TheVariants.{GwTypePrefix}
use Rattle.gk_commands.specs.Fields.{is_one_of}
use Rattle.gk_commands.specs.ZoneLine.{hunt_words}

-- ---- the words that are never a further name
-- the value for this word: the first for `hopoff`, the second for `seq` and `blast`, the third for
-- `default-technology`, the fourth for `gw`, which is not supported, and the last for any other
abbrev pub by_option_word : {A : Type 0} → List ℕ → A → A → A → A → A → A
by_option_word word hopoff hunt technology gw other =
    if bytes_eq word (codes "hopoff") then hopoff
    else (if is_one_of hunt_words word then hunt
    else (if bytes_eq word (codes "default-technology") then technology
    else (if bytes_eq word (codes "gw") then gw else other)))

-- whether the word is not read as a further name: it is an option, or `gw`
abbrev pub is_option_word : List ℕ → Bool
is_option_word word = by_option_word word true true true true false

-- ---- gw-type-prefix PREFIX [hopoff NAME ...] [seq|blast] [default-technology],
-- ---- the options in any order
-- the names of all hopoffs, and whether `default-technology` was given
pub record TechnologyOptions : Type 0 where
  pub hopoffs : List (List ℕ)
  pub is_default : Bool

abbrev pub no_options : TechnologyOptions
no_options = record { hopoffs = []; is_default = false }

-- `default-technology`, in front of other options
abbrev pub with_default : Result TechnologyOptions FaultKind → Result TechnologyOptions FaultKind
with_default rest = do
  options ← rest
  Ok (record options { is_default = true })

-- the word as a name of a hopoff, in front of other options
abbrev pub with_hopoff : List ℕ → Result TechnologyOptions FaultKind
    → Result TechnologyOptions FaultKind
with_hopoff word rest = do
  name ← ok_or (name_of word) BadName
  options ← rest
  Ok (record options { hopoffs = name ∷ options.hopoffs })

abbrev mutual
  -- the options; `further` says whether a word that is not an option is one more name of the hopoff
  -- before it
  pub options_at : Bool → List (List ℕ) → Result TechnologyOptions FaultKind
  options_at further [] = Ok no_options
  options_at further (word ∷ words) =
      by_option_word word (hopoff_at words) (options_at false words)
      (with_default (options_at false words)) (Err Unsupported)
      (if further then with_hopoff word (options_at true words) else Err Extra)

  -- the options after the word `hopoff`: the next word is a name, whatever it is
  pub hopoff_at : List (List ℕ) → Result TechnologyOptions FaultKind
  hopoff_at [] = Err Missing
  hopoff_at (word ∷ words) = with_hopoff word (options_at true words)

abbrev pub gw_type_prefix_at : List (List ℕ) → Result Command FaultKind
gw_type_prefix_at words = do
  prefix ← field Missing tech_prefix_of BadPattern words
  options ← options_at false prefix.1
  Ok (GwTypePrefix prefix.0 options.hopoffs options.is_default)
