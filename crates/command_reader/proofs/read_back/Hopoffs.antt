-- The options of a `gw-type-prefix` line that was read: their canonical words are no longer.
use Rattle.std.proofs.Common.{◌≡◌, ℕ, ◌+◌, ◌≤◌, Bool, true, false, cond, List, [], ◌∷◌, ◌++◌, length, Ok, Err, sym, ap, subst, ◌∙◌, arith}
use Rattle.std.specs.Prelude.{Result, codes, bytes_eq, flat_map}
use Rattle.std.specs.Option.{ok_or}
use Rattle.gk_terms.specs.Name.{name_of}
use Rattle.gk_commands.specs.declared.faults.FaultKind.{FaultKind}
use Rattle.gk_commands.specs.declared.faults.FaultKind.TheVariants.{BadName, Extra}
use Rattle.gk_commands.specs.Fields.{is_one_of}
use Rattle.gk_commands.specs.ZoneLine.{hunt_words}
use Rattle.gk_commands.specs.TechnologyLine.{TechnologyOptions, is_option_word, no_options, with_hopoff, options_at, hopoff_at}
use Rattle.gk_commands.specs.Printing.{further_words, hopoff_words, default_words}
use Rattle.command_reader.proofs.read_back.Fields.{bound, chosen, same_word, ok_or-some, name_read, IsNamed}
use Rattle.command_reader.proofs.read_back.Lengths.{cost, cost-append}

-- ---- names
abbrev pub AreNamed : List (List ℕ) → Type 0
AreNamed [] = Unit {0}
AreNamed (name ∷ names) = IsNamed name × AreNamed names

-- what a further name of a hopoff costs
cost_further : (word : List ℕ) → cost (further_words word) ≤ 8 + length word
cost_further word = by (is_option_word word)
  where
    by : (b : Bool) → cost (cond b (codes "hopoff" ∷ word ∷ []) (word ∷ [])) ≤ 8 + length word
    by true = omega arith
    by false = omega arith

further_plain : (word : List ℕ) → is_option_word word ≡ false → further_words word ≡ word ∷ []
further_plain word h = ap (λ b. cond b (codes "hopoff" ∷ word ∷ []) (word ∷ [])) h

-- as further names, names take no more than with the word `hopoff` before them
fewer_words : (names : List (List ℕ)) → cost (flat_map further_words names) ≤ cost
    (hopoff_words names)
fewer_words [] = omega arith
fewer_words (name ∷ names) = omega (
  arith,
  cost-append (further_words name)
      (flat_map further_words names),
  cost_further name,
)

-- a word for which no test of an option holds is not an option word
not_option : (word : List ℕ) → bytes_eq word (codes "hopoff") ≡ false
    → is_one_of hunt_words word ≡ false → bytes_eq word (codes "default-technology") ≡ false
    → bytes_eq word (codes "gw") ≡ false → is_option_word word ≡ false
not_option word e f g h =
    let hunt : Bool = is_one_of hunt_words word in
    let technology : Bool = bytes_eq word (codes "default-technology") in
    let gw : Bool = bytes_eq word (codes "gw") in
    ap (λ b. cond b true (cond hunt true (cond technology true (cond gw true false)))) e
    ∙ ap (λ b. cond b true (cond technology true (cond gw true false))) f
    ∙ ap (λ b. cond b true (cond gw true false)) g
    ∙ ap (λ b. cond b true false) h

-- ---- what was read
-- a name in front of other options
record IsNamedFirst
    (word : List ℕ) (rest : Result TechnologyOptions FaultKind) (options : TechnologyOptions)
    : Type 0 where
  others : TechnologyOptions
  read : rest ≡ Ok others
  is : IsNamed word
  whole : record others { hopoffs = word ∷ others.hopoffs } ≡ options

named_first : (word : List ℕ) (rest : Result TechnologyOptions FaultKind)
    (options : TechnologyOptions) → with_hopoff word rest ≡ Ok options
    → IsNamedFirst word rest options
named_first word rest options h =
    let n = bound (ok_or (name_of word) BadName) _ options h in
    let name = name_read word n.value (ok_or-some (name_of word) BadName n.value n.read) in
    let r = bound rest _ options n.next in
    let now : TechnologyOptions = record r.value { hopoffs = n.value ∷ r.value.hopoffs } in
    let same : now ≡ options = cc (r.next) in
    record {
      others = r.value;
      read = r.read;
      is = subst IsNamed name.same name.is;
      whole =
          ap (λ (w : List ℕ). record r.value { hopoffs = w ∷ r.value.hopoffs }) (sym name.same)
          ∙ same;
    }

-- ---- no longer than the words read
-- the canonical words of names, by whether the first of them is a further name
abbrev names_from : Bool → List (List ℕ) → List (List ℕ)
names_from true names = flat_map further_words names
names_from false names = hopoff_words names

-- options that were read from words of this cost: names, whose canonical words take no more
record AreWithin (further : Bool) (most : ℕ) (options : TechnologyOptions) : Type 0 where
  names : AreNamed options.hopoffs
  fits : cost (names_from further options.hopoffs) + cost (default_words options.is_default) ≤ most

none_within : (further : Bool) (options : TechnologyOptions) → no_options ≡ options
    → AreWithin further 0 options
none_within true options h = subst (AreWithin true 0) h (record { names = tt; fits = omega arith })
none_within false options h =
    subst (AreWithin false 0) h (record { names = tt; fits = omega arith })

-- If options fit into `least` bytes with the word `hopoff` before their first name, they fit into
-- `most` bytes with or without that word, as long as `most` is not less than `least`.
either_within : (further : Bool) (least most : ℕ) (options : TechnologyOptions)
    → AreWithin false least options → least ≤ most → AreWithin further most options
either_within true least most options w h =
    record { names = w.names; fits = omega (arith, w.fits, h, fewer_words options.hopoffs) }
either_within false least most options w h =
    record { names = w.names; fits = omega (arith, w.fits, h) }

-- the name right after `hopoff`, and the options after it
hopoff_name_within : (word : List ℕ) (words : List (List ℕ)) (options : TechnologyOptions)
    (n : IsNamedFirst word (options_at true words) options)
    → AreWithin true (cost words) n.others → AreWithin false (7 + cost (word ∷ words)) options
hopoff_name_within word words options n w =
    subst (AreWithin false (7 + cost (word ∷ words))) n.whole
    (record { names = (n.is, w.names); fits = omega (arith, w.fits) })

-- a further name, and the options after it
further_name_within : (word : List ℕ) (words : List (List ℕ)) (options : TechnologyOptions)
    (n : IsNamedFirst word (options_at true words) options) → is_option_word word ≡ false
    → AreWithin true (cost words) n.others → AreWithin true (cost (word ∷ words)) options
further_name_within word words options n plain w =
    let alone : cost (further_words word) ≡ cost (word ∷ []) = ap cost (further_plain word plain) in
    let both = cost-append (further_words word) (flat_map further_words n.others.hopoffs) in
    subst (AreWithin true (cost (word ∷ words))) n.whole
    (record { names = (n.is, w.names); fits = omega (arith, w.fits, alone, both) })

-- `default-technology`, of 18 bytes
default_within : (words : List (List ℕ)) (rest options : TechnologyOptions)
    → record rest { is_default = true } ≡ options → AreWithin false (cost words) rest
    → AreWithin false (19 + cost words) options
default_within words rest options h w =
    subst (AreWithin false (19 + cost words)) h
    (record { names = w.names; fits = omega (arith, w.fits) })

-- a word that is not an option word, and the options after it
last_within : (further : Bool) (word : List ℕ) (words : List (List ℕ)) (options : TechnologyOptions)
    → is_option_word word ≡ false
    → ((rest : TechnologyOptions) → options_at true words ≡ Ok rest
    → AreWithin true (cost words) rest)
    → cond further (with_hopoff word (options_at true words)) (Err Extra) ≡ Ok options
    → AreWithin further (cost (word ∷ words)) options
last_within true word words options plain within h =
    let n = named_first word (options_at true words) options h in
    further_name_within word words options n plain (within n.others n.read)
last_within false word words options plain within h =
    absurd (let impossible : ⊥ = cc in impossible)

mutual
  -- the options that words say: their canonical words take no more bytes than the words
  options_within : (further : Bool) (words : List (List ℕ)) (options : TechnologyOptions)
      → options_at further words ≡ Ok options → AreWithin further (cost words) options
  options_within further [] options h = none_within further options cc
  options_within further (word ∷ words) options h =
      let most : ℕ = cost (word ∷ words) in
      chosen (bytes_eq word (codes "hopoff")) _ _ (Ok options) h
      (λ is f. either_within further (7 + cost words) most options
      (hopoff_within words options f)
      (omega (arith, ap length (same_word word (codes "hopoff") is))))
      (λ not_hopoff i. chosen (is_one_of hunt_words word) _ _ (Ok options) i
      (λ _ f. either_within further (cost words) most options
      (options_within false words options f) (omega arith))
      (λ not_hunt j. chosen (bytes_eq word (codes "default-technology")) _ _ (Ok options) j
      (λ is f.
      let r = bound (options_at false words) _ options f in
      either_within further (19 + cost words) most options
      (default_within words r.value options (cc (r.next))
      (options_within false words r.value r.read))
      (omega (arith, ap length (same_word word (codes "default-technology") is))))
      (λ not_default k. chosen (bytes_eq word (codes "gw")) _ _ (Ok options) k
      (λ _ f. absurd (let impossible : ⊥ = cc in impossible))
      (λ not_gw l. last_within further word words options
      (not_option word not_hopoff not_hunt not_default not_gw)
      (λ rest g. options_within true words rest g) l))))

  -- the options after the word `hopoff`: with that word before their first name they take no more
  -- bytes than the words after it, and 7 for `hopoff` itself
  hopoff_within : (words : List (List ℕ)) (options : TechnologyOptions)
      → hopoff_at words ≡ Ok options → AreWithin false (7 + cost words) options
  hopoff_within [] options h = absurd (let impossible : ⊥ = cc in impossible)
  hopoff_within (word ∷ words) options h =
      let n = named_first word (options_at true words) options h in
      hopoff_name_within word words options n (options_within true words n.others n.read)

-- the options of a line: names, whose canonical words take no more than the words read
pub record OptionsFit (words : List (List ℕ)) (options : TechnologyOptions) : Type 0 where
  pub names : AreNamed options.hopoffs
  pub fits : cost (hopoff_words options.hopoffs ++ default_words options.is_default) ≤ cost words

pub options_read : (words : List (List ℕ)) (options : TechnologyOptions)
    → options_at false words ≡ Ok options → OptionsFit words options
options_read words options h =
    let w = options_within false words options h in
    record {
      names = w.names;
      fits = omega (
        arith,
        w.fits,
        cost-append
            (hopoff_words options.hopoffs) (default_words options.is_default),
      );
    }
