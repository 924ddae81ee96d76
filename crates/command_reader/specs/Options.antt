-- How src/technology_lines reads the options of a `gw-type-prefix` line, one word after another.
-- Only the contracts of its private functions need this: what the options mean is in
-- specs/TechnologyLine.
use Rattle.std.specs.Prelude.{◌≡◌, ◌||◌, ℕ, Bool, true, false, List, [], ◌∷◌, ◌++◌, Option, Some, None, Result, Ok, Err, IsErr, MatchResult}
use Rattle.std.specs.Option.{ok_or}
use Rattle.gk_terms.specs.Name.{name_of}
use Rattle.gk_terms.specs.Fields.{◌>>=◌}
use Rattle.gk_commands.specs.declared.faults.FaultKind.{FaultKind}
use Rattle.gk_commands.specs.declared.faults.FaultKind.TheVariants.{Unsupported, Extra, BadName}
use Rattle.command_reader.specs.declared.technology_lines.TechnologyOption.{TechnologyOption}
use Rattle.command_reader.specs.declared.technology_lines.TechnologyOption.TheVariants.{Hopoff, HopoffName, Hunt, DefaultTechnology}
use Rattle.command_reader.specs.declared.technology_lines.Expected.{Expected}
use Rattle.command_reader.specs.declared.technology_lines.Expected.TheVariants.{AnOption, AName, OptionOrName}
use Rattle.command_reader.specs.declared.technology_lines.OpenOptions.{OpenOptions}
use Rattle.gk_commands.specs.TechnologyLine.{TechnologyOptions, by_option_word}
use Rattle.command_reader.specs.Memory.{HoldsNames}

-- ---- one word
-- the word as the name of a hopoff
abbrev pub hopoff_name_of : List ℕ → Result TechnologyOption FaultKind
hopoff_name_of word = ok_or (name_of word) BadName >>= λ name. Ok (HopoffName name)

-- the option that a word is, if it is one
abbrev pub option_of : List ℕ → Result (Option TechnologyOption) FaultKind
option_of word =
    by_option_word word (Ok (Some Hopoff)) (Ok (Some Hunt)) (Ok (Some DefaultTechnology))
    (Err Unsupported) (Ok None)

-- an option, or what the word is if it is not one
abbrev pub option_or : Result TechnologyOption FaultKind → Option TechnologyOption
    → Result TechnologyOption FaultKind
option_or other (Some option) = Ok option
option_or other None = other

-- a word, by what may come next: right after `hopoff` it is a name, whatever it is
abbrev pub option_at : Expected → List ℕ → Result TechnologyOption FaultKind
option_at AName word = hopoff_name_of word
option_at AnOption word = option_of word >>= option_or (Err Extra)
option_at OptionOrName word = option_of word >>= option_or (hopoff_name_of word)

-- what may come after it
abbrev pub expected_after : TechnologyOption → Expected
expected_after Hopoff = AName
expected_after (HopoffName name) = OptionOrName
expected_after Hunt = AnOption
expected_after DefaultTechnology = AnOption

-- ---- the options so far
-- the names that an option adds
abbrev pub names_of : TechnologyOption → List (List ℕ)
names_of Hopoff = []
names_of (HopoffName name) = name ∷ []
names_of Hunt = []
names_of DefaultTechnology = []

abbrev pub is_default_option : TechnologyOption → Bool
is_default_option Hopoff = false
is_default_option (HopoffName name) = false
is_default_option Hunt = false
is_default_option DefaultTechnology = true

-- after holds what before does, and the option
pub record AddsOption
    (before : OpenOptions) (option : TechnologyOption) (after : OpenOptions)
    : Type 0 where
  pub expected : after.expected ≡ expected_after option
  pub hopoffs : MatchResult before.hopoffs
      (λ front. HoldsNames after.hopoffs (front ++ names_of option))
      (λ _. IsErr after.hopoffs)
  pub is_default : after.is_default ≡ (is_default_option option || before.is_default)

-- both parts of the options
abbrev pub hopoffs_and_default : Result TechnologyOptions FaultKind
    → Result (List (List ℕ) × Bool) FaultKind
hopoffs_and_default right = right >>= λ options. Ok (options.hopoffs, options.is_default)
