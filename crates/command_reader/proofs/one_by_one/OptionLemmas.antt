-- Options that are read one word after another.
use Rattle.std.proofs.Common.{◌≡◌, ℕ, Bool, true, false, cond, List, [], ◌∷◌, ◌++◌, append_assoc, Some, None, refl, sym, ap, subst, ◌∙◌, inl, inr}
use Rattle.std.specs.Prelude.{◌||◌, Result, Ok, Err, codes, bytes_eq}
use Rattle.std.specs.Option.{ok_or}
use Rattle.gk_terms.specs.Name.{name_of}
use Rattle.gk_terms.specs.TechPrefix.{tech_prefix_of}
use Rattle.gk_terms.specs.Fields.{◌>>=◌, field}
use Rattle.gk_commands.specs.declared.faults.FaultKind.{FaultKind}
use Rattle.gk_commands.specs.declared.faults.FaultKind.TheVariants.{Unsupported, Missing, Extra, BadName, BadPattern}
use Rattle.command_reader.specs.declared.technology_lines.TechnologyOption.{TechnologyOption}
use Rattle.command_reader.specs.declared.technology_lines.TechnologyOption.TheVariants.{Hopoff, HopoffName, Hunt, DefaultTechnology}
use Rattle.command_reader.specs.declared.technology_lines.Expected.{Expected}
use Rattle.command_reader.specs.declared.technology_lines.Expected.TheVariants.{AnOption, AName, OptionOrName}
use Rattle.command_reader.specs.declared.technology_lines.OpenOptions.{OpenOptions}
use Rattle.gk_commands.specs.declared.commands.Command.{Command}
use Rattle.gk_commands.specs.declared.commands.Command.TheVariants.{GwTypePrefix}
use Rattle.gk_commands.specs.Fields.{is_one_of}
use Rattle.gk_commands.specs.ZoneLine.{hunt_words}
use Rattle.gk_commands.specs.TechnologyLine.{TechnologyOptions, with_default, with_hopoff, options_at, hopoff_at, gw_type_prefix_at}
use Rattle.command_reader.specs.Options.{hopoff_name_of, option_or, option_at, expected_after, names_of, is_default_option, AddsOption, hopoffs_and_default}
use Rattle.command_reader.specs.Memory.{MayRefuse, Any, DeclaresNone, HoldsNames}
use Rattle.command_reader.proofs.one_by_one.HeldLemmas.{held_more}

-- ---- one word, by what may come next
-- what the words that are left mean, if this is what may come next
abbrev pub said_from : Expected → List (List ℕ) → Result TechnologyOptions FaultKind
said_from AnOption words = options_at false words
said_from AName words = hopoff_at words
said_from OptionOrName words = options_at true words

-- an option, together with what the words after it mean
abbrev option_before : TechnologyOption → Result TechnologyOptions FaultKind
    → Result TechnologyOptions FaultKind
option_before option rest = rest >>= λ more. Ok (record {
  hopoffs = names_of option ++ more.hopoffs;
  is_default = is_default_option option || more.is_default;
})

-- an option that adds nothing leaves what the words after it mean as it is
nothing_added : (rest : Result TechnologyOptions FaultKind)
    → rest ≡ (rest >>= λ more. Ok (record {
      hopoffs = more.hopoffs;
      is_default = more.is_default;
    }))
nothing_added (Ok more) = refl
nothing_added (Err kind) = refl

-- what an option means together with the words after it, or the fault found in place of the option
abbrev option_then : List (List ℕ) → Result TechnologyOption FaultKind
    → Result TechnologyOptions FaultKind
option_then words option =
    option >>= λ (o : TechnologyOption). option_before o (said_from (expected_after o) words)

-- a name of a hopoff, together with the words after it
name_first : (word : List ℕ) (words : List (List ℕ))
    → with_hopoff word (options_at true words) ≡ option_then words (hopoff_name_of word)
name_first word words = by (ok_or (name_of word) BadName)
  where
    by : (name : Result (List ℕ) FaultKind)
        → (name >>= λ n. option_before (HopoffName n) (options_at true words))
        ≡ option_then words (name >>= λ n. Ok (HopoffName n))
    by (Ok name) = refl
    by (Err kind) = refl

-- Four tests of a word choose what it means together with the words after it. The same tests choose
-- the option that it is, and that option and the words after it mean the same. For a word that
-- passes none of the tests, `last` is what it means, and `other` is what it is read as.
choice_first : (hopoff hunt technology gw : Bool) (words : List (List ℕ))
    (other : Result TechnologyOption FaultKind) (last : Result TechnologyOptions FaultKind)
    → last ≡ option_then words other
    → cond hopoff (hopoff_at words) (cond hunt (options_at false words)
    (cond technology (with_default (options_at false words)) (cond gw (Err Unsupported) last)))
    ≡ option_then words (cond hopoff (Ok (Some Hopoff)) (cond hunt (Ok (Some Hunt))
    (cond technology (Ok (Some DefaultTechnology)) (cond gw (Err Unsupported) (Ok None))))
    >>= option_or other)
choice_first true hunt technology gw words other last h = nothing_added (hopoff_at words)
choice_first false true technology gw words other last h = nothing_added (options_at false words)
choice_first false false true gw words other last h = refl
choice_first false false false true words other last h = refl
choice_first false false false false words other last h = h

-- the words that are left mean the same as what their first word is read as, and then the words
-- after it
word_first : (expected : Expected) (word : List ℕ) (words : List (List ℕ))
    → said_from expected (word ∷ words) ≡ option_then words (option_at expected word)
word_first AName word words = name_first word words
word_first AnOption word words =
    choice_first (bytes_eq word (codes "hopoff")) (is_one_of hunt_words word)
    (bytes_eq word (codes "default-technology")) (bytes_eq word (codes "gw")) words (Err Extra)
    (Err Extra) refl
word_first OptionOrName word words =
    choice_first (bytes_eq word (codes "hopoff")) (is_one_of hunt_words word)
    (bytes_eq word (codes "default-technology")) (bytes_eq word (codes "gw")) words
    (hopoff_name_of word) (with_hopoff word (options_at true words)) (name_first word words)

-- ---- all words
-- options after these names, and after `default-technology` or not
abbrev pub joined : List (List ℕ) → Bool → Result TechnologyOptions FaultKind → Result
    (List (List ℕ) × Bool) FaultKind
joined front is_default rest = rest >>= λ more. Ok (
  front ++ more.hopoffs,
  is_default ||
      more.is_default,
)

or_moved : (a b c : Bool) → (a || (b || c)) ≡ ((b || a) || c)
or_moved true true c = refl
or_moved true false c = refl
or_moved false true c = refl
or_moved false false c = refl

-- an option may be counted among those before it
joined_option : (option : TechnologyOption) (front : List (List ℕ)) (is_default : Bool)
    (rest : Result TechnologyOptions FaultKind)
    → joined front is_default (option_before option rest) ≡ joined (front ++ names_of option)
    (is_default_option option || is_default) rest
joined_option option front is_default (Err kind) = refl
joined_option option front is_default (Ok more) =
    let default_after : Bool = is_default_option option || more.is_default in
    ap (λ (names : List (List ℕ)). Ok (names, is_default || default_after))
    (sym (append_assoc front (names_of option) more.hopoffs))
    ∙ ap (λ (d : Bool). Ok ((front ++ names_of option) ++ more.hopoffs, d))
    (or_moved is_default (is_default_option option) more.is_default)

-- the words before those that are left are options, and they are held
pub record AreOptions (all left : List (List ℕ)) (held : OpenOptions) : Type 0 where
  pub front : List (List ℕ)
  pub same : hopoffs_and_default (options_at false all) ≡ joined front held.is_default
      (said_from held.expected left)
  pub holds : HoldsNames held.hopoffs front

joined_nothing : (right : Result TechnologyOptions FaultKind) → hopoffs_and_default right ≡ joined
    [] false right
joined_nothing (Ok options) = refl
joined_nothing (Err kind) = refl

-- before the first word
pub none_held : (words : List (List ℕ)) (held : OpenOptions) → held.expected ≡ AnOption →
    held.is_default ≡ false → HoldsNames held.hopoffs [] → AreOptions words words held
none_held words held expected is_default holds = record {
  front = [];
  same = joined_nothing (options_at false words)
      ∙ ap (λ d. joined [] d (options_at false words)) (sym is_default)
      ∙ ap (λ (e : Expected). joined [] held.is_default (said_from e words)) (sym expected);
  holds = holds;
}

abbrev step : List (List ℕ) → List (List ℕ) → Bool → Result TechnologyOption FaultKind → Result
    (List (List ℕ) × Bool) FaultKind
step left front is_default option = joined front is_default (option_then left option)

-- with one more word that has no fault
pub more_options : (all left : List (List ℕ)) (word : List ℕ) (before after : OpenOptions)
    (option : TechnologyOption)
    → AreOptions all (word ∷ left) before → option_at before.expected word ≡ Ok option
    → AddsOption before option after → AreOptions all left after
more_options all left word before after option o h a =
    let front = o.front ++ names_of option in
    record {
      front = front;
      same = o.same
          ∙ ap (joined o.front before.is_default) (word_first before.expected word left)
          ∙ ap (step left o.front before.is_default) h
          ∙ joined_option option o.front before.is_default (said_from (expected_after option) left)
          ∙ ap (λ d. joined front d (said_from (expected_after option) left)) (sym a.is_default)
          ∙ ap (λ (e : Expected). joined front after.is_default (said_from e left))
          (sym a.expected);
      holds = held_more before.hopoffs after.hopoffs o.front (names_of option) a.hopoffs o.holds;
    }

-- the fault of a word is that of the options
pub bad_option : (all left : List (List ℕ)) (word : List ℕ) (before : OpenOptions)
    (kind : FaultKind)
    → AreOptions all (word ∷ left) before → option_at before.expected word ≡ Err kind →
    hopoffs_and_default (options_at false all) ≡ Err kind
bad_option all left word before kind o h =
    o.same
    ∙ ap (joined o.front before.is_default) (word_first before.expected word left)
    ∙ ap (step left o.front before.is_default) h

abbrev with_options : List ℕ → TechnologyOptions → Result Command FaultKind
with_options prefix options = Ok (GwTypePrefix prefix options.hopoffs options.is_default)

by_options : (right : Result TechnologyOptions FaultKind) (prefix : List ℕ) (kind : FaultKind) →
    MayRefuse Any (hopoffs_and_default right) kind → MayRefuse DeclaresNone
    (right >>= with_options prefix) kind
by_options (Ok options) prefix kind (inl fault) = let impossible : ⊥ = cc in absurd impossible
by_options (Ok options) prefix kind (inr lacks) =
    inr (record {
      named = lacks.named;
      said = GwTypePrefix prefix options.hopoffs
          options.is_default;
      free = refl;
      holds = refl;
    })
by_options (Err own) prefix kind (inl fault) = inl (cc)
by_options (Err own) prefix kind (inr lacks) = let impossible : ⊥ = cc lacks.free in absurd
    impossible

-- a line is refused for its options
pub refused_options : (words left : List (List ℕ)) (prefix : List ℕ) (kind : FaultKind) → field
    Missing tech_prefix_of BadPattern words ≡ Ok (prefix, left)
    → MayRefuse Any (hopoffs_and_default (options_at false left)) kind → MayRefuse DeclaresNone
    (gw_type_prefix_at words) kind
refused_options words left prefix kind h refused =
    subst (λ (right : Result Command FaultKind). MayRefuse DeclaresNone right kind)
    (sym (ap (λ (r : Result (List ℕ × List (List ℕ)) FaultKind). r >>= λ p. options_at false p.1
    >>= with_options p.0) h))
    (by_options (options_at false left) prefix kind refused)
