-- The options of a registration, read and added word by word.
use Rattle.std.proofs.Common.{◌≡◌, ℕ, ◌+◌, ◌≤◌, Bool, true, false, not, ◌||◌, ◌⊎◌, inl, inr, List, [], ◌∷◌, ◌++◌, length, refl, sym, ap, ◌∙◌, cond, length-append, append_assoc, arith}
use Rattle.std.specs.Prelude.{◌==◌, take, drop, Option, Some, None, Result, Ok, Err, option_map, codes, bytes_eq, filter, is_ok}
use Rattle.std.specs.List.{filter_map, list_any}
use Rattle.std.specs.Option.{ok_or}
use Rattle.std.specs.Cmp.Lexicographic.{same_text}
use Rattle.std.proofs.lemmas.List.{append-nil}
use Rattle.std.proofs.lemmas.List.Folds.{list_any-append}
use Rattle.std.proofs.Math.Seq.{append_snoc}
use Rattle.gk_terms.specs.Fields.{◌>>=◌}
use Rattle.gk_terms.specs.Dialled.{dialled_of}
use Rattle.gk_terms.specs.TechPrefix.{tech_prefix_of}
use Rattle.gk_terms.specs.declared.limits.TheConstants.{MOST_ALIASES, MOST_TECHNOLOGIES}
use Rattle.registry.specs.Endpoint.{EndpointParts}
use Rattle.gk_protocol.specs.declared.request_faults.RequestFault.{RequestFault}
use Rattle.gk_protocol.specs.declared.request_faults.RequestFault.TheVariants.{BadOption, BadDigits}
use Rattle.gk_protocol.specs.declared.registrations.OptionsLeft.{OptionsLeft}
use Rattle.gk_protocol.specs.declared.registrations.RegistrationOption.{RegistrationOption}
use Rattle.gk_protocol.specs.declared.registrations.RegistrationOption.TheVariants.{Alias, Technology}
use Rattle.gk_protocol.specs.Registrations.{option_if_left, registration_option_of, registration_options_at, left_after, all_options, each_once, alias_given, technology_given, with_options_at, begins_with_option}
use Rattle.gk_protocol.specs.RegistrationOptions.{IsBare, HasFrontOf, HasRoomFor, with_text, with_registration_option}

-- ---- texts, each once
-- whether a text is none of these
abbrev is_new : List (List ℕ) → List ℕ → Bool
is_new texts text = not (list_any (bytes_eq text) texts)

abbrev differs : List ℕ → List ℕ → Bool
differs text later = not (bytes_eq later text)

-- further texts, added one after another
abbrev with_texts : List (List ℕ) → List (List ℕ) → List (List ℕ)
with_texts texts [] = texts
with_texts texts (text ∷ more) = with_texts (with_text texts text) more

-- what is new beside one more text
news_after : (texts : List (List ℕ)) (text : List ℕ) (others : List (List ℕ))
    → filter (is_new texts) (filter (differs text) others)
    ≡ filter (is_new (texts ++ text ∷ [])) others
news_after texts text [] = refl
news_after texts text (other ∷ others) =
    by (bytes_eq other text) (list_any (bytes_eq other) texts) refl (news_after texts text others)
    ∙ ap (λ b. cond (not b) (other ∷ filter (is_new (texts ++ text ∷ [])) others)
    (filter (is_new (texts ++ text ∷ [])) others))
    (sym (list_any-append (bytes_eq other) texts (text ∷ [])))
  where
    by : (same known : Bool) → list_any (bytes_eq other) texts ≡ known
        → filter (is_new texts) (filter (differs text) others)
        ≡ filter (is_new (texts ++ text ∷ [])) others
        → filter (is_new texts) (cond (not same) (other ∷ filter (differs text) others)
        (filter (differs text) others))
        ≡ cond (not (known || (same || false)))
        (other ∷ filter (is_new (texts ++ text ∷ [])) others)
        (filter (is_new (texts ++ text ∷ [])) others)
    by true true is rest = rest
    by true false is rest = rest
    by false true is rest =
        ap (λ b. cond (not b) (other ∷ filter (is_new texts) (filter (differs text) others))
        (filter (is_new texts) (filter (differs text) others))) is ∙ rest
    by false false is rest =
        ap (λ b. cond (not b) (other ∷ filter (is_new texts) (filter (differs text) others))
        (filter (is_new texts) (filter (differs text) others))) is ∙ ap (λ l. other ∷ l) rest

-- what is new differs from each text that was there
news_differ : (texts : List (List ℕ)) (text : List ℕ) (others : List (List ℕ))
    → list_any (bytes_eq text) texts ≡ true
    → filter (is_new texts) (filter (differs text) others) ≡ filter (is_new texts) others
news_differ texts text [] known = refl
news_differ texts text (other ∷ others) known =
    by (bytes_eq other text) refl (news_differ texts text others known)
  where
    by : (same : Bool) → bytes_eq other text ≡ same
        → filter (is_new texts) (filter (differs text) others) ≡ filter (is_new texts) others
        → filter (is_new texts) (cond (not same) (other ∷ filter (differs text) others)
        (filter (differs text) others))
        ≡ cond (is_new texts other) (other ∷ filter (is_new texts) others)
        (filter (is_new texts) others)
    by true is rest =
        rest
        ∙ ap (λ b. cond (not b) (other ∷ filter (is_new texts) others)
        (filter (is_new texts) others))
        (sym (ap (λ t. list_any (bytes_eq t) texts) (same_text other text (sym is)) ∙ known))
    by false is rest = ap (λ l. cond (is_new texts other) (other ∷ l) l) rest

-- of further texts those are added that are new, each once
news : (texts more : List (List ℕ))
    → with_texts texts more ≡ texts ++ filter (is_new texts) (each_once more)
news texts [] = sym (append-nil texts)
news texts (text ∷ more) = by (list_any (bytes_eq text) texts) refl (λ t. news t more)
  where
    by : (known : Bool) → list_any (bytes_eq text) texts ≡ known
        → ((t : List (List ℕ)) → with_texts t more ≡ t ++ filter (is_new t) (each_once more))
        → with_texts (cond known texts (texts ++ text ∷ [])) more
        ≡ texts ++ cond (is_new texts text)
        (text ∷ filter (is_new texts) (filter (differs text) (each_once more)))
        (filter (is_new texts) (filter (differs text) (each_once more)))
    by true is rest =
        rest texts ∙ ap (λ l. texts ++ l) (sym (news_differ texts text (each_once more) is))
        ∙ ap (λ b. texts ++ cond (not b)
        (text ∷ filter (is_new texts) (filter (differs text) (each_once more)))
        (filter (is_new texts) (filter (differs text) (each_once more)))) (sym is)
    by false is rest =
        rest (texts ++ text ∷ [])
        ∙ append_snoc texts text (filter (is_new (texts ++ text ∷ [])) (each_once more))
        ∙ ap (λ l. texts ++ text ∷ l) (sym (news_after texts text (each_once more)))
        ∙ ap (λ b. texts ++ cond (not b)
        (text ∷ filter (is_new texts) (filter (differs text) (each_once more)))
        (filter (is_new texts) (filter (differs text) (each_once more)))) (sym is)

-- all texts are new if there are none
all_new : (texts : List (List ℕ)) → filter (is_new []) texts ≡ texts
all_new [] = refl
all_new (text ∷ texts) = ap (λ l. text ∷ l) (all_new texts)

once : (texts : List (List ℕ)) → with_texts [] texts ≡ each_once texts
once texts = news [] texts ∙ all_new (each_once texts)

-- ---- options
-- the endpoint with these options, added one after another
abbrev with_registration_options : EndpointParts → List RegistrationOption → EndpointParts
with_registration_options endpoint [] = endpoint
with_registration_options endpoint (option ∷ options) =
    with_registration_options (with_registration_option endpoint option) options

-- the aliases and the technology prefixes of such an endpoint
parts_of : (endpoint : EndpointParts) (options : List RegistrationOption)
    → with_registration_options endpoint options
    ≡ record endpoint {
      aliases = with_texts endpoint.aliases (filter_map alias_given options);
      technologies = with_texts endpoint.technologies (filter_map technology_given options);
    }
parts_of endpoint [] = refl
parts_of endpoint (Alias digits ∷ options) =
    parts_of (with_registration_option endpoint (Alias digits)) options
parts_of endpoint (Technology prefix ∷ options) =
    parts_of (with_registration_option endpoint (Technology prefix)) options

-- each once, if the endpoint had none
parts_once : (bare : EndpointParts) (options : List RegistrationOption) → IsBare bare
    → with_registration_options bare options
    ≡ record bare {
      aliases = each_once (filter_map alias_given options);
      technologies = each_once (filter_map technology_given options);
    }
parts_once bare options is =
    let aliases = ap (λ t. with_texts t (filter_map alias_given options)) is.aliases
    ∙ once (filter_map alias_given options) in
    let technologies = ap (λ t. with_texts t (filter_map technology_given options)) is.technologies
    ∙ once (filter_map technology_given options) in
    parts_of bare options
    ∙ ap (λ (t : List (List ℕ)). record bare {
      aliases = t;
      technologies = with_texts bare.technologies (filter_map technology_given options);
    }) aliases
    ∙ ap (λ (t : List (List ℕ)). record bare {
      aliases = each_once (filter_map alias_given options);
      technologies = t;
    }) technologies

-- ---- words
-- the endpoint with the options of these words added, or the first fault
abbrev added_at : OptionsLeft → EndpointParts → List (List ℕ)
    → Result EndpointParts RequestFault
added_at left endpoint words =
    registration_options_at left words
    >>= (λ options. Ok (with_registration_options endpoint options))

-- all words of a registration
all_added : (bare : EndpointParts) (words : List (List ℕ)) → IsBare bare
    → added_at all_options bare words ≡ with_options_at bare words
all_added bare words is = by (registration_options_at all_options words)
  where
    by : (options : Result (List RegistrationOption) RequestFault)
        → (options >>= (λ o. Ok (with_registration_options bare o)))
        ≡ (options >>= (λ o. Ok (record bare {
          aliases = each_once (filter_map alias_given o);
          technologies = each_once (filter_map technology_given o);
        })))
    by (Ok options) = ap (λ e. Ok e) (parts_once bare options is)
    by (Err fault) = refl

-- one word, which is an option
one_added : (left : OptionsLeft) (endpoint : EndpointParts) (word : List ℕ)
    (words : List (List ℕ)) (option : RegistrationOption)
    → registration_option_of left word ≡ Ok option
    → added_at left endpoint (word ∷ words)
    ≡ added_at (left_after left option) (with_registration_option endpoint option) words
one_added left endpoint word words option is =
    ap (λ (r : Result RegistrationOption RequestFault). (r >>= (λ o.
    registration_options_at (left_after left o) words >>= (λ os. Ok (o ∷ os))))
    >>= (λ os. Ok (with_registration_options endpoint os))) is
    ∙ by (registration_options_at (left_after left option) words)
  where
    by : (options : Result (List RegistrationOption) RequestFault)
        → ((options >>= (λ os. Ok (option ∷ os)))
        >>= (λ os. Ok (with_registration_options endpoint os)))
        ≡ (options >>= (λ os. Ok (with_registration_options
        (with_registration_option endpoint option) os)))
    by (Ok options) = refl
    by (Err fault) = refl

-- ---- so far
-- the words before the rest gave the options that were added, whatever follows; so these and those
-- to come give what all options give. The ID stays, there is room for those that may still stand,
-- and the first could be read or is still to come
pub record AreAddedSoFar
    (bare : EndpointParts) (words : List (List ℕ)) (left : OptionsLeft) (endpoint : EndpointParts)
    (rest : List (List ℕ))
    : Type 0 where
  pub front : List (List ℕ)
  pub split : words ≡ front ++ rest
  pub goes_on : (more : List (List ℕ))
      → added_at left endpoint more ≡ with_options_at bare (front ++ more)
  pub same : added_at left endpoint rest ≡ with_options_at bare words
  pub id : endpoint.id ≡ bare.id
  pub aliases : length endpoint.aliases + left.aliases ≤ MOST_ALIASES
  pub technologies : length endpoint.technologies + left.technologies ≤ MOST_TECHNOLOGIES
  pub begun : (begins_with_option words ≡ true) ⊎ ((rest ≡ words) × (left ≡ all_options))

-- before the first word
pub none_read : (bare : EndpointParts) (words : List (List ℕ)) → IsBare bare
    → AreAddedSoFar bare words all_options bare words
none_read bare words is = record {
  front = [];
  split = refl;
  goes_on = λ more. all_added bare more is;
  same = all_added bare words is;
  id = refl;
  aliases = rw (is.aliases) (omega arith);
  technologies = rw (is.technologies) (omega arith);
  begun = inr (refl, refl);
}

-- how many of an option's kind may stand
abbrev left_for : OptionsLeft → RegistrationOption → ℕ
left_for left (Alias digits) = left.aliases
left_for left (Technology prefix) = left.technologies

-- an option is counted, and is the one that its text gives
counted : (left : ℕ) (given : Option RegistrationOption) (option : RegistrationOption)
    → option_if_left left given ≡ Ok option → (1 ≤ left) × (given ≡ Some option)
counted left given option is = by (left == 0) refl given is
  where
    by : (none : Bool) → (left == 0) ≡ none → (o : Option RegistrationOption)
        → cond none (Err BadOption) (ok_or o BadDigits) ≡ Ok option
        → (1 ≤ left) × (o ≡ Some option)
    by true e o h = let impossible : ⊥ = cc in absurd impossible
    by false e None h = let impossible : ⊥ = cc in absurd impossible
    by false e (Some x) h = (grind arith, cc)

-- an option is one of those that may stand
some_left : (left : OptionsLeft) (word : List ℕ) (option : RegistrationOption)
    → registration_option_of left word ≡ Ok option → 1 ≤ left_for left option
some_left left word option is =
    by (bytes_eq (take 5 word) (codes "e164=")) (bytes_eq (take 5 word) (codes "tech="))
    (dialled_of (drop 5 word)) (tech_prefix_of (drop 5 word)) option is
  where
    by : (alias technology : Bool) (digits prefix : Option (List ℕ)) (o : RegistrationOption)
        → cond alias (option_if_left left.aliases (option_map Alias digits))
        (cond technology (option_if_left left.technologies (option_map Technology prefix))
        (Err BadOption)) ≡ Ok o → 1 ≤ left_for left o
    by true technology digits prefix (Alias x) h = (counted left.aliases _ _ h).0
    by true technology None prefix (Technology x) h =
        let e = (counted left.aliases None _ h).1 in
        let impossible : ⊥ = cc in absurd impossible
    by true technology (Some digits) prefix (Technology x) h =
        let e = (counted left.aliases (Some (Alias digits)) _ h).1 in
        let impossible : ⊥ = cc in absurd impossible
    by false true digits prefix (Technology x) h = (counted left.technologies _ _ h).0
    by false true digits None (Alias x) h =
        let e = (counted left.technologies None _ h).1 in
        let impossible : ⊥ = cc in absurd impossible
    by false true digits (Some prefix) (Alias x) h =
        let e = (counted left.technologies (Some (Technology prefix)) _ h).1 in
        let impossible : ⊥ = cc in absurd impossible
    by false false digits prefix o h = let impossible : ⊥ = cc in absurd impossible

-- so there is room for it
pub room_for : (bare : EndpointParts) (words : List (List ℕ)) (left : OptionsLeft)
    (endpoint : EndpointParts) (rest : List (List ℕ)) (word : List ℕ)
    (option : RegistrationOption) → AreAddedSoFar bare words left endpoint rest
    → registration_option_of left word ≡ Ok option → HasRoomFor endpoint option
room_for bare words left endpoint rest word (Alias digits) u is =
    omega (arith, u.aliases, some_left left word (Alias digits) is)
room_for bare words left endpoint rest word (Technology prefix) u is =
    omega (arith, u.technologies, some_left left word (Technology prefix) is)

-- one more text at most
one_text : (texts : List (List ℕ)) (text : List ℕ)
    → length (with_text texts text) ≤ length texts + 1
one_text texts text = by (list_any (bytes_eq text) texts)
  where
    by : (known : Bool) → length (cond known texts (texts ++ text ∷ [])) ≤ length texts + 1
    by true = omega arith
    by false = omega (arith, length-append texts (text ∷ []))

-- the first of the words could be read if a later one could
first_read : (words : List (List ℕ)) (left : OptionsLeft) (rest further : List (List ℕ))
    (word : List ℕ) (option : RegistrationOption)
    → (begins_with_option words ≡ true) ⊎ ((rest ≡ words) × (left ≡ all_options))
    → rest ≡ word ∷ further → registration_option_of left word ≡ Ok option
    → begins_with_option words ≡ true
first_read words left rest further word option (inl begun) split is = begun
first_read words left rest further word option (inr first) split is =
    ap begins_with_option (sym first.0 ∙ split)
    ∙ ap (λ l. is_ok (registration_option_of l word)) (sym first.1) ∙ ap is_ok is

-- one word more
pub one_read : (bare : EndpointParts) (words : List (List ℕ)) (left : OptionsLeft)
    (endpoint : EndpointParts) (rest further : List (List ℕ)) (word : List ℕ)
    (option : RegistrationOption) → AreAddedSoFar bare words left endpoint rest
    → rest ≡ word ∷ further → registration_option_of left word ≡ Ok option
    → AreAddedSoFar bare words (left_after left option) (with_registration_option endpoint option)
    further
one_read bare words left endpoint rest further word option u split is =
    record {
      front = u.front ++ word ∷ [];
      split =
          u.split ∙ ap (λ t. u.front ++ t) split
          ∙ sym (append_assoc u.front (word ∷ []) further);
      goes_on = λ more.
          sym (one_added left endpoint word more option is) ∙ u.goes_on (word ∷ more)
          ∙ ap (with_options_at bare) (sym (append_assoc u.front (word ∷ []) more));
      same =
          sym (one_added left endpoint word further option is)
          ∙ ap (added_at left endpoint) (sym split) ∙ u.same;
      id = id option ∙ u.id;
      aliases = aliases option is;
      technologies = technologies option is;
      begun = inl (first_read words left rest further word option u.begun split is);
    }
  where
    id : (o : RegistrationOption) → (with_registration_option endpoint o).id ≡ endpoint.id
    id (Alias digits) = refl
    id (Technology prefix) = refl

    aliases : (o : RegistrationOption) → registration_option_of left word ≡ Ok o
        → length (with_registration_option endpoint o).aliases + (left_after left o).aliases
        ≤ MOST_ALIASES
    aliases (Alias digits) is =
        omega (
          arith,
          u.aliases,
          one_text endpoint.aliases digits,
          some_left left word (Alias digits) is,
        )
    aliases (Technology prefix) is = u.aliases

    technologies : (o : RegistrationOption) → registration_option_of left word ≡ Ok o
        → length (with_registration_option endpoint o).technologies
        + (left_after left o).technologies ≤ MOST_TECHNOLOGIES
    technologies (Alias digits) is = u.technologies
    technologies (Technology prefix) is =
        omega (
          arith,
          u.technologies,
          one_text endpoint.technologies prefix,
          some_left left word (Technology prefix) is,
        )

-- reading stopped at the next word
pub stopped_at : (bare : EndpointParts) (words : List (List ℕ)) (left : OptionsLeft)
    (endpoint : EndpointParts) (rest further : List (List ℕ)) (word : List ℕ)
    → AreAddedSoFar bare words left endpoint rest → rest ≡ word ∷ further
    → HasFrontOf bare words endpoint
stopped_at bare words left endpoint rest further word u split = record {
  front = u.front;
  word = word;
  rest = further;
  split = u.split ∙ ap (λ t. u.front ++ t) split;
  added =
      ap (with_options_at bare) (sym (append-nil u.front)) ∙ sym (u.goes_on []);
}
