-- The tables with one more command.
use Rattle.std.proofs.Common.{◌≡◌, ℕ, ◌||◌, ◌+◌, ◌<◌, Bool, true, false, cond, List, [], ◌∷◌, ◌++◌, length, take, map, fold, get_or, refl, sym, ap, ◌∙◌, append-nil, append_assoc}
use Rattle.std.specs.Prelude.{Option, Some, None, option_and_then, is_some, bytes_eq}
use Rattle.std.specs.Option.{option_or}
use Rattle.std.specs.List.{filter_map, list_any}
use Rattle.std.specs.Map.{keys_of}
use Rattle.std.proofs.lemmas.List.{map-append, take_more}
use Rattle.std.proofs.lemmas.List.Elements.{filter_map-append}
use Rattle.std.proofs.lemmas.List.Sums.{fold-append, fold_push}
use Rattle.std.proofs.lemmas.List.Folds.{list_any-append}
use Rattle.digit_patterns.specs.PatternParts.{PatternParts}
use Rattle.digit_patterns.specs.Pattern.{same_pattern}
use Rattle.digit_patterns.specs.Duplicate.{has_pattern}
use Rattle.gk_commands.specs.declared.commands.Command.{Command}
use Rattle.gk_commands.specs.declared.commands.Command.TheVariants.{ZoneLocal, ZoneRemote, ZonePrefix, GwTypePrefix, RejectUnknownPrefix, BandwidthDefault, BandwidthZone, BandwidthRemote}
use Rattle.std.specs.Cmp.Lexicographic.{same_text}
use Rattle.gk_terms.specs.TechPrefix.{is_tech_prefix}
use Rattle.compiler.specs.Last.{last_in}
use Rattle.compiler.specs.Rows.{ZoneRow, row_of, rows_of, zone_for, zones_for, with_row, first_rows_of}
use Rattle.compiler.specs.Technology.{prefix_in, prefixes_of, hopoffs_in, hopoffs_of}
use Rattle.compiler.specs.Zones.{number_in}
use Rattle.compiler.specs.TablesIndex.{Zones, better_in, best_after, best_number, hopoffs_named, Technologies, technology_at, hopoff_at, is_among, AreTechnologies, NumberedRow, zone_at_pattern, with_pattern, AreRows}

-- the items before a place, with the item there
pub take_with : {X : Type 0} (xs : List X) (place : ℕ) (x : X)
    → x ≡ get_or xs place x → place < length xs
    → take (place + 1) xs ≡ take place xs ++ x ∷ []
take_with xs place x h within =
    take_more xs place x within ∙ ap (λ l. take place xs ++ l ∷ []) (sym h)

-- what an option adds to a list
abbrev pub one_or_none : {X : Type 0} → Option X → List X
one_or_none None = []
one_or_none (Some x) = x ∷ []

-- what is read of one more item
pub filter_map-more : {X Y : Type 0} (f : X → Option Y) (xs : List X) (x : X)
    → filter_map f (xs ++ x ∷ []) ≡ filter_map f xs ++ one_or_none (f x)
filter_map-more f xs x = filter_map-append f xs (x ∷ [])
    ∙ ap (λ l. filter_map f xs ++ l) (by (f x) refl)
  where
    by : (o : Option _) → f x ≡ o → filter_map f (x ∷ []) ≡ one_or_none o
    by None e = rw e refl
    by (Some y) e = rw e refl

-- the last of one more
pub last_in-more : {X Y : Type 0} (f : X → Option Y) (xs : List X) (x : X)
    → last_in (filter_map f (xs ++ x ∷ [])) ≡ option_or (f x) (last_in (filter_map f xs))
last_in-more {X} {Y} f xs x = ap last_in (filter_map-more f xs x) ∙ by (f x)
  where
    by : (o : Option Y) → last_in (filter_map f xs ++ one_or_none o)
        ≡ option_or o (last_in (filter_map f xs))
    by None = ap last_in (append-nil (filter_map f xs))
    by (Some y) = fold_push _ None (filter_map f xs) y

-- the best of more names
pub best_number-append : (zones : Zones) (names more : List (List ℕ))
    → best_number zones (names ++ more) ≡ best_after zones (best_number zones names) more
best_number-append zones names more =
    ap (fold (better_in zones) None) (map-append (number_in zones) names more)
    ∙ fold-append (better_in zones) None (map (number_in zones) names) (map (number_in zones) more)

-- ---- rows
-- a pattern whose zones are one more
pub zones_for-more : (commands : List Command) (command : Command) (row : ZoneRow)
    (pattern : PatternParts)
    → row_of command ≡ Some row
    → zones_for (commands ++ command ∷ []) pattern
    ≡ zones_for commands pattern ++ one_or_none (zone_for pattern row)
zones_for-more commands command row pattern h =
    ap (filter_map (zone_for pattern))
    (filter_map-more row_of commands command ∙ ap (λ o. rows_of commands ++ one_or_none o) h)
    ∙ filter_map-more (zone_for pattern) (rows_of commands) row

-- a command without a row changes none
pub rows_of-same : (commands : List Command) (command : Command) → row_of command ≡ None
    → rows_of (commands ++ command ∷ []) ≡ rows_of commands
rows_of-same commands command h =
    filter_map-more row_of commands command ∙ ap (λ o. rows_of commands ++ one_or_none o) h
    ∙ append-nil (rows_of commands)

pub rows_same : (zones : Zones) (commands : List Command) (command : Command)
    (rows : List NumberedRow)
    → AreRows zones commands rows → row_of command ≡ None
    → AreRows zones (commands ++ command ∷ []) rows
rows_same zones commands command rows h none = record {
  patterns = h.patterns
      ∙ ap (λ all. keys_of (first_rows_of all)) (sym (rows_of-same commands command none));
  picked = λ pattern. h.picked pattern
      ∙ ap (λ all. best_number zones (filter_map (zone_for pattern) all))
      (sym (rows_of-same commands command none));
}

has_pattern-keys : (pattern : PatternParts) (rows : List ZoneRow)
    → has_pattern pattern rows ≡ list_any (λ other. same_pattern other pattern) (keys_of rows)
has_pattern-keys pattern [] = refl
has_pattern-keys pattern (row ∷ rows) =
    ap (λ t. same_pattern row.0 pattern || t) (has_pattern-keys pattern rows)

-- the patterns with that of one more row
keys-with_row : (rows : List ZoneRow) (row : ZoneRow)
    → keys_of (with_row rows row) ≡ with_pattern (keys_of rows) row.0
keys-with_row rows row =
    by (has_pattern row.0 rows)
    ∙ ap (λ t. cond t (keys_of rows) (keys_of rows ++ row.0 ∷ [])) (has_pattern-keys row.0 rows)
  where
    by : (t : Bool) → keys_of (cond t rows (rows ++ row ∷ []))
        ≡ cond t (keys_of rows) (keys_of rows ++ row.0 ∷ [])
    by true = refl
    by false = map-append (λ r. r.0) rows (row ∷ [])

pub patterns-more : (commands : List Command) (command : Command) (row : ZoneRow)
    → row_of command ≡ Some row
    → keys_of (first_rows_of (rows_of (commands ++ command ∷ [])))
    ≡ with_pattern (keys_of (first_rows_of (rows_of commands))) row.0
patterns-more commands command row h =
    ap (λ all. keys_of (first_rows_of all))
    (filter_map-more row_of commands command ∙ ap (λ o. rows_of commands ++ one_or_none o) h)
    ∙ ap keys_of (fold_push with_row [] (rows_of commands) row)
    ∙ keys-with_row (first_rows_of (rows_of commands)) row

-- the map with the row of one more command
pub rows_more : (zones : Zones) (commands : List Command) (command : Command) (row : ZoneRow)
    (old new : List NumberedRow)
    → AreRows zones commands old → row_of command ≡ Some row
    → ((other : PatternParts) → zone_at_pattern new other ≡ cond (same_pattern row.0 other)
    (better_in zones (zone_at_pattern old row.0) (number_in zones row.1))
    (zone_at_pattern old other))
    → keys_of new ≡ with_pattern (keys_of old) row.0
    → ((p q : PatternParts) → same_pattern p q ≡ true → p ≡ q)
    → AreRows zones (commands ++ command ∷ []) new
rows_more zones commands command row old new h there picks keys same = record {
  patterns = keys ∙ ap (λ ks. with_pattern ks row.0) h.patterns
      ∙ sym (patterns-more commands command row there);
  picked = λ pattern. picks pattern ∙ by pattern (same_pattern row.0 pattern) refl
      ∙ sym (best_number-append zones (zones_for commands pattern)
      (one_or_none (zone_for pattern row)))
      ∙ ap (best_number zones) (sym (zones_for-more commands command row pattern there));
}
  where
    by : (pattern : PatternParts) (t : Bool) → same_pattern row.0 pattern ≡ t
        → cond t (better_in zones (zone_at_pattern old row.0) (number_in zones row.1))
        (zone_at_pattern old pattern)
        ≡ best_after zones (best_number zones (zones_for commands pattern))
        (one_or_none (zone_for pattern row))
    by pattern true e =
        ap (λ best. better_in zones best (number_in zones row.1))
        (ap (zone_at_pattern old) (same row.0 pattern e) ∙ h.picked pattern)
        ∙ ap (λ t. best_after zones (best_number zones (zones_for commands pattern))
        (one_or_none (cond t (Some row.1) None))) (sym e)
    by pattern false e =
        h.picked pattern
        ∙ ap (λ t. best_after zones (best_number zones (zones_for commands pattern))
        (one_or_none (cond t (Some row.1) None))) (sym e)

-- ---- technology prefixes
pub hopoffs_of-more : (commands : List Command) (command : Command) (prefix : List ℕ)
    → hopoffs_of (commands ++ command ∷ []) prefix
    ≡ hopoffs_of commands prefix ++ hopoffs_in prefix command
hopoffs_of-more [] command prefix = append-nil (hopoffs_in prefix command)
hopoffs_of-more (other ∷ commands) command prefix =
    ap (λ l. hopoffs_in prefix other ++ l) (hopoffs_of-more commands command prefix)
    ∙ sym (append_assoc (hopoffs_in prefix other) (hopoffs_of commands prefix)
    (hopoffs_in prefix command))

hopoffs_without : (command : Command) (prefix : List ℕ) → prefix_in command ≡ None
    → hopoffs_in prefix command ≡ []
hopoffs_without (ZoneLocal name domain address) prefix h = refl
hopoffs_without (ZoneRemote name domain address cost priority) prefix h = refl
hopoffs_without (ZonePrefix zone pattern gateways) prefix h = refl
hopoffs_without (GwTypePrefix declared hopoffs is_default) prefix h = cc
hopoffs_without RejectUnknownPrefix prefix h = refl
hopoffs_without (BandwidthDefault kind size) prefix h = refl
hopoffs_without (BandwidthZone kind zone size) prefix h = refl
hopoffs_without (BandwidthRemote size) prefix h = refl

hopoffs_with : (command : Command) (declared prefix : List ℕ) → prefix_in command ≡ Some declared
    → hopoffs_in prefix command ≡ cond (bytes_eq declared prefix) (hopoffs_named command) []
hopoffs_with (ZoneLocal name domain address) declared prefix h = cc
hopoffs_with (ZoneRemote name domain address cost priority) declared prefix h = cc
hopoffs_with (ZonePrefix zone pattern gateways) declared prefix h = cc
hopoffs_with (GwTypePrefix said hopoffs is_default) declared prefix h =
    let e : said ≡ declared = cc in ap (λ text. cond (bytes_eq text prefix) hopoffs []) e
hopoffs_with RejectUnknownPrefix declared prefix h = cc
hopoffs_with (BandwidthDefault kind size) declared prefix h = cc
hopoffs_with (BandwidthZone kind zone size) declared prefix h = cc
hopoffs_with (BandwidthRemote size) declared prefix h = cc

pub technologies_same : (zones : Zones) (commands : List Command) (command : Command)
    (technologies : Technologies)
    → AreTechnologies zones commands technologies → prefix_in command ≡ None
    → AreTechnologies zones (commands ++ command ∷ []) technologies
technologies_same zones commands command technologies h none = record {
  declared = λ prefix. h.declared prefix
      ∙ ap (λ all. is_among all prefix) (sym (append-nil (prefixes_of commands))
      ∙ ap (λ o. prefixes_of commands ++ one_or_none o) (sym none)
      ∙ sym (filter_map-more prefix_in commands command));
  picked = λ prefix. h.picked prefix
      ∙ ap (best_number zones) (sym (append-nil (hopoffs_of commands prefix))
      ∙ ap (λ l. hopoffs_of commands prefix ++ l) (sym (hopoffs_without command prefix none))
      ∙ sym (hopoffs_of-more commands command prefix));
  texts = h.texts;
}

-- the map with the prefix of one more command
pub technologies_more : (zones : Zones) (commands : List Command) (command : Command)
    (declared : List ℕ) (old new : Technologies)
    → AreTechnologies zones commands old → prefix_in command ≡ Some declared
    → ((other : List ℕ) → technology_at new other ≡ cond (bytes_eq declared other)
    (Some (best_after zones (hopoff_at old declared) (hopoffs_named command)))
    (technology_at old other))
    → is_tech_prefix declared ≡ true
    → AreTechnologies zones (commands ++ command ∷ []) new
technologies_more zones commands command declared old new h there adds text = record {
  declared = λ prefix. ap is_some (adds prefix)
      ∙ by_declared prefix (bytes_eq declared prefix)
      ∙ sym (ap (λ all. is_among all prefix) (filter_map-more prefix_in commands command
      ∙ ap (λ o. prefixes_of commands ++ one_or_none o) there)
      ∙ list_any-append (λ one. bytes_eq one prefix) (prefixes_of commands) (declared ∷ []));
  picked = λ prefix. ap (option_and_then (λ hopoff. hopoff)) (adds prefix)
      ∙ by_picked prefix (bytes_eq declared prefix) refl
      ∙ sym (ap (best_number zones) (hopoffs_of-more commands command prefix
      ∙ ap (λ l. hopoffs_of commands prefix ++ l) (hopoffs_with command declared prefix there))
      ∙ best_number-append zones (hopoffs_of commands prefix)
      (cond (bytes_eq declared prefix) (hopoffs_named command) []));
  texts = λ prefix some. by_text prefix (bytes_eq declared prefix) refl
      (ap is_some (sym (adds prefix)) ∙ some);
}
  where
    by_declared : (prefix : List ℕ) (t : Bool)
        → is_some (cond t (Some (best_after zones (hopoff_at old declared) (hopoffs_named command)))
        (technology_at old prefix))
        ≡ (is_among (prefixes_of commands) prefix || (t || false))
    by_declared prefix true = sym (or_true (is_among (prefixes_of commands) prefix))
      where
        or_true : (b : Bool) → (b || true) ≡ true
        or_true true = refl
        or_true false = refl
    by_declared prefix false = h.declared prefix
        ∙ sym (or_false (is_among (prefixes_of commands) prefix))
      where
        or_false : (b : Bool) → (b || false) ≡ b
        or_false true = refl
        or_false false = refl

    by_picked : (prefix : List ℕ) (t : Bool) → bytes_eq declared prefix ≡ t
        → option_and_then (λ hopoff. hopoff)
        (cond t (Some (best_after zones (hopoff_at old declared) (hopoffs_named command)))
        (technology_at old prefix))
        ≡ best_after zones (best_number zones (hopoffs_of commands prefix))
        (cond t (hopoffs_named command) [])
    by_picked prefix true e =
        ap (λ best. best_after zones best (hopoffs_named command))
        (ap (hopoff_at old) (same_text declared prefix (sym e)) ∙ h.picked prefix)
    by_picked prefix false e = h.picked prefix

    by_text : (prefix : List ℕ) (t : Bool) → bytes_eq declared prefix ≡ t
        → is_some (cond t (Some (best_after zones (hopoff_at old declared) (hopoffs_named command)))
        (technology_at old prefix)) ≡ true
        → is_tech_prefix prefix ≡ true
    by_text prefix true e some = ap is_tech_prefix (sym (same_text declared prefix (sym e))) ∙ text
    by_text prefix false e some = h.texts prefix some
