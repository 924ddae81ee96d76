-- The canonical options of a `gw-type-prefix` line are read as the same options.
use Rattle.std.proofs.Common.{◌≡◌, ℕ, Bool, true, false, cond, List, [], ◌∷◌, ◌++◌, Ok, refl, ap, ◌∙◌, append_assoc}
use Rattle.std.specs.Prelude.{Option, Result, codes, bytes_eq, flat_map}
use Rattle.std.specs.Option.{ok_or}
use Rattle.std.proofs.lemmas.Bool.{and_from}
use Rattle.std.proofs.lemmas.List.Folds.{list_all-append}
use Rattle.gk_terms.specs.Fields.{◌>>=◌}
use Rattle.gk_commands.specs.declared.faults.FaultKind.{FaultKind}
use Rattle.gk_commands.specs.declared.faults.FaultKind.TheVariants.{BadName}
use Rattle.gk_commands.specs.Fields.{is_one_of}
use Rattle.gk_commands.specs.ZoneLine.{hunt_words}
use Rattle.gk_commands.specs.TechnologyLine.{TechnologyOptions, is_option_word, with_hopoff, options_at}
use Rattle.gk_commands.specs.Printing.{further_words, hopoff_words, default_words}
use Rattle.gk_commands.specs.Accepted.{is_word}
use Rattle.command_reader.proofs.read_back.Words.{AreWords}
use Rattle.command_reader.proofs.read_back.Fields.{IsNamed}
use Rattle.command_reader.proofs.read_back.Hopoffs.{AreNamed}

-- the last of five, if none of the tests before it holds
last_of : {X : Type 0} (a b c d : Bool) (p q r s t : X)
    → cond a true (cond b true (cond c true (cond d true false))) ≡ false
    → cond a p (cond b q (cond c r (cond d s t))) ≡ t
last_of true b c d p q r s t h = absurd (let impossible : ⊥ = cc in impossible)
last_of false true c d p q r s t h = absurd (let impossible : ⊥ = cc in impossible)
last_of false false true d p q r s t h = absurd (let impossible : ⊥ = cc in impossible)
last_of false false false true p q r s t h = absurd (let impossible : ⊥ = cc in impossible)
last_of false false false false p q r s t h = refl

-- a word that is not an option word is one more name
plain_name : (word : List ℕ) (words : List (List ℕ)) → is_option_word word ≡ false
    → options_at true (word ∷ words) ≡ with_hopoff word (options_at true words)
plain_name word words h =
    last_of (bytes_eq word (codes "hopoff")) (is_one_of hunt_words word)
    (bytes_eq word (codes "default-technology")) (bytes_eq word (codes "gw")) _ _ _ _ _ h

-- ---- the options, read again
abbrev options_of : List (List ℕ) → Bool → Result TechnologyOptions FaultKind
options_of names is_default = Ok (record { hopoffs = names; is_default = is_default })

-- a name that is read, in front of others
name_again : (name : List ℕ) (names : List (List ℕ)) (is_default : Bool)
    (rest : Result TechnologyOptions FaultKind) → IsNamed name → rest ≡ options_of names is_default
    → with_hopoff name rest ≡ options_of (name ∷ names) is_default
name_again name names is_default rest is h =
    ap (λ (r : Result TechnologyOptions FaultKind). with_hopoff name r) h
    ∙ ap (λ (o : Option (List ℕ)). ok_or o BadName >>= λ n. options_of (n ∷ names) is_default)
    is.spelled

-- one further name
further_name : (name : List ℕ) (names rest : List (List ℕ)) (is_default : Bool) → IsNamed name
    → options_at true rest ≡ options_of names is_default
    → options_at true (further_words name ++ rest) ≡ options_of (name ∷ names) is_default
further_name name names rest is_default is h = by (is_option_word name) refl
  where
    by : (b : Bool) → is_option_word name ≡ b
        → options_at true (cond b (codes "hopoff" ∷ name ∷ []) (name ∷ []) ++ rest)
        ≡ options_of (name ∷ names) is_default
    by true e = name_again name names is_default (options_at true rest) is h
    by false e =
        plain_name name rest e
        ∙ name_again name names is_default (options_at true rest) is h

-- all of them
further_names : (names : List (List ℕ)) (is_default : Bool) → AreNamed names
    → options_at true (flat_map further_words names ++ default_words is_default)
    ≡ options_of names is_default
further_names [] true are = refl
further_names [] false are = refl
further_names (name ∷ names) is_default are =
    let tail : List (List ℕ) = flat_map further_words names in
    ap (options_at true) (append_assoc (further_words name) tail (default_words is_default))
    ∙ further_name name names (tail ++ default_words is_default) is_default are.0
    (further_names names is_default are.1)

-- the canonical options are read again
pub options_again : (names : List (List ℕ)) (is_default : Bool) → AreNamed names
    → options_at false (hopoff_words names ++ default_words is_default)
    ≡ Ok (record { hopoffs = names; is_default = is_default })
options_again [] true are = refl
options_again [] false are = refl
options_again (name ∷ names) is_default are =
    name_again name names is_default
    (options_at true (flat_map further_words names ++ default_words is_default)) are.0
    (further_names names is_default are.1)

-- ---- words
further_solid : (names : List (List ℕ)) → AreNamed names → AreWords (flat_map further_words names)
further_solid [] are = refl
further_solid (name ∷ names) are =
    list_all-append is_word (further_words name) (flat_map further_words names) ∙ and_from _ _
    (by (is_option_word name)) (further_solid names are.1)
  where
    by : (b : Bool) → AreWords (cond b (codes "hopoff" ∷ name ∷ []) (name ∷ []))
    by true = and_from _ _ are.0.solid refl
    by false = and_from _ _ are.0.solid refl

hopoffs_solid : (names : List (List ℕ)) → AreNamed names → AreWords (hopoff_words names)
hopoffs_solid [] are = refl
hopoffs_solid (name ∷ names) are = and_from _ _ are.0.solid (further_solid names are.1)

default_solid : (is_default : Bool) → AreWords (default_words is_default)
default_solid true = refl
default_solid false = refl

pub options_solid : (names : List (List ℕ)) (is_default : Bool) → AreNamed names → AreWords
    (hopoff_words names ++ default_words is_default)
options_solid names is_default are =
    list_all-append is_word (hopoff_words names) (default_words is_default) ∙ and_from _ _
    (hopoffs_solid names are) (default_solid is_default)
