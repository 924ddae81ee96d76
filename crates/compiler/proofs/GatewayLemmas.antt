-- Gateways and their priorities.
use Rattle.std.proofs.Common.{◌≡◌, ℕ, suc, ◌==◌, nat_lt, ◌||◌, ◌&&◌, ◌<◌, Bool, true, false, cond, List, [], ◌∷◌, ◌++◌, length, slice_get, get_or, refl, sym, ap, ◌∙◌, arith, true≢false, eq-eqb, eqb-true}
use Rattle.std.specs.Prelude.{Option, Some, None, option_map, bytes_eq, find, position}
use Rattle.std.specs.Option.{option_or, option_map_or}
use Rattle.std.specs.List.{All, IsDistinct, filter_map, list_any, position_or_len}
use Rattle.std.specs.Map.{keys_of}
use Rattle.std.specs.Cmp.Lexicographic.{same_text}
use Rattle.std.proofs.lemmas.Bool.Decides.{nat_tests}
use Rattle.std.proofs.lemmas.Cmp.{nat_list_eq_equiv}
use Rattle.std.proofs.lemmas.List.Folds.{list_any-append, find_at}
use Rattle.std.proofs.lemmas.List.Sums.{fails_before_first}
use Rattle.std.proofs.lemmas.List.Quantifiers.{position-Some}
use Rattle.std.proofs.lemmas.Map.Keys.{apart_from_distinct}
use Rattle.std.proofs.lemmas.Option.{slice_get-map, get_or_from_slice_get, slice_get_within}
use Rattle.gk_terms.proofs.ChoiceLemmas.{find_passes}
use Rattle.digit_patterns.specs.PatternParts.{PatternParts}
use Rattle.digit_patterns.specs.Pattern.{same_pattern}
use Rattle.gk_commands.specs.declared.commands.Command.{Command}
use Rattle.gk_commands.specs.declared.commands.Command.TheVariants.{ZoneLocal, ZoneRemote, ZonePrefix, GwTypePrefix, RejectUnknownPrefix, BandwidthDefault, BandwidthZone, BandwidthRemote}
use Rattle.gk_commands.specs.Zones.{zones_of, is_declared, named_by}
use Rattle.compiler.specs.Last.{last_in}
use Rattle.compiler.specs.Priority.{priority_among, priority_in, named_priority_of}
use Rattle.compiler.specs.Rows.{ZoneRow}
use Rattle.compiler.specs.Zones.{number_in}
use Rattle.compiler.specs.TablesIndex.{Zones, NumberedRow, is_about, numbered_priority_in, numbered_priority_of, Priorities, kept_priority, ArePriorities}
use Rattle.compiler.proofs.FirstRows.{same_pattern-same}
use Rattle.compiler.proofs.RowLemmas.{same_pattern-itself}
use Rattle.compiler.proofs.StepLemmas.{last_in-more}

-- the priority of one more name
pub one_more_name : (gateway : List ℕ) (names : List (List ℕ)) (name : List ℕ) (priority : ℕ)
    (before old : Option ℕ)
    → before ≡ cond (list_any (bytes_eq gateway) names) (Some priority) old
    → cond (bytes_eq name gateway) (Some priority) before
    ≡ cond (list_any (bytes_eq gateway) (names ++ name ∷ [])) (Some priority) old
one_more_name gateway names name priority before old h =
    ap (cond (bytes_eq name gateway) (Some priority)) h
    ∙ by (bytes_eq name gateway) (list_any (bytes_eq gateway) names)
    ∙ ap (λ t. cond (list_any (bytes_eq gateway) names || (t || false)) (Some priority) old)
    (nat_list_eq_equiv.symm name gateway)
    ∙ ap (λ t. cond t (Some priority) old)
    (sym (list_any-append (bytes_eq gateway) names (name ∷ [])))
  where
    by : (s t : Bool) → cond s (Some priority) (cond t (Some priority) old)
        ≡ cond (t || (s || false)) (Some priority) old
    by true true = refl
    by true false = refl
    by false true = refl
    by false false = refl

-- ---- the row that a command is about
-- rows of one pattern stand at one place
same_place : (rows : List NumberedRow) → IsDistinct same_pattern (keys_of rows)
    → (i j : ℕ) (a b : NumberedRow) → slice_get rows i ≡ Some a → slice_get rows j ≡ Some b
    → a.0 ≡ b.0 → i ≡ j
same_place rows distinct i j a b at_i at_j same =
    by (nat_lt i j) (nat_lt j i) refl refl
  where
    key_at : (k : ℕ) (row : NumberedRow) → slice_get rows k ≡ Some row → slice_get (keys_of rows) k
        ≡ Some row.0
    key_at k row at = slice_get-map (λ r. r.0) rows k ∙ ap (option_map (λ r. r.0)) at

    apart : (k l : ℕ) (x y : NumberedRow) → slice_get rows k ≡ Some x → slice_get rows l ≡ Some y
        → x.0 ≡ y.0 → k < l → ⊥
    apart k l x y at_k at_l e below =
        let differ = apart_from_distinct same_pattern (keys_of rows) k l x.0 distinct below
        (slice_get_within (keys_of rows) l y.0 (key_at l y at_l)) in
        true≢false (sym (same_pattern-itself x.0)
        ∙ ap (same_pattern x.0) e
        ∙ ap (λ p. same_pattern p y.0)
        (sym (get_or_from_slice_get (keys_of rows) k x.0 x.0 (key_at k x at_k)))
        ∙ ap (same_pattern (get_or (keys_of rows) k x.0))
        (sym (get_or_from_slice_get (keys_of rows) l y.0 x.0 (key_at l y at_l)))
        ∙ differ)

    by : (s t : Bool) → nat_lt i j ≡ s → nat_lt j i ≡ t → i ≡ j
    by true t e f = let below : i < j =
        grind (arith, nat_tests) in absurd (apart i j a b at_i at_j same below)
    by false true e f = let below : j < i =
        grind (arith, nat_tests) in absurd (apart j i b a at_j at_i (sym same) below)
    by false false e f = grind (arith, nat_tests)

and_false : (t : Bool) → (t && false) ≡ false
and_false true = refl
and_false false = refl

-- no row has the pattern
pub about_none : (zones : Zones) (rows : List NumberedRow) (said : ZoneRow)
    → position (same_pattern said.0) (keys_of rows) ≡ None
    → (place : ℕ) (row : NumberedRow) → slice_get rows place ≡ Some row
    → is_about zones row (Some said) ≡ false
about_none zones rows said none place row at = by (same_pattern said.0 row.0) refl
  where
    by : (t : Bool) → same_pattern said.0 row.0 ≡ t → is_about zones row (Some said) ≡ false
    by false e = ap (λ t. (number_in zones said.1 == row.1) && t) e
        ∙ and_false (number_in zones said.1 == row.1)
    by true e =
        let there : slice_get (keys_of rows) place ≡ Some row.0 =
        slice_get-map (λ r. r.0) rows place ∙ ap (option_map (λ r. r.0)) at in
        absurd (impossible (nat_lt (position_or_len (same_pattern said.0) (keys_of rows))
        (length (keys_of rows))) refl
        (get_or_from_slice_get (keys_of rows) place row.0 row.0 there)
        (slice_get_within (keys_of rows) place row.0 there) none)
      where
        impossible : (t : Bool)
            → nat_lt (position_or_len (same_pattern said.0) (keys_of rows)) (length (keys_of rows))
            ≡ t
            → get_or (keys_of rows) place row.0 ≡ row.0 → place < length (keys_of rows)
            → cond t (Some (position_or_len (same_pattern said.0) (keys_of rows))) None ≡ None → ⊥
        impossible true f g within h = cc
        impossible false f g within h =
            let fails = fails_before_first (same_pattern said.0) (keys_of rows) place row.0
            (grind (arith, nat_tests)) in
            true≢false (sym e ∙ ap (same_pattern said.0) (sym g) ∙ fails)

-- a row has the pattern, and its zone is the same one or not
pub about_some : (zones : Zones) (rows : List NumberedRow) (said : ZoneRow) (found : ℕ)
    (pattern : PatternParts) (number : ℕ) (same : Bool)
    → IsDistinct same_pattern (keys_of rows)
    → position (same_pattern said.0) (keys_of rows) ≡ Some found
    → slice_get rows found ≡ Some (pattern, number)
    → (number_in zones said.1 == number) ≡ same
    → (place : ℕ) (row : NumberedRow) → slice_get rows place ≡ Some row
    → is_about zones row (Some said) ≡ (same && (found == place))
about_some zones rows said found pattern number same distinct first at test place row there =
    by (same_pattern said.0 row.0) refl
  where
    passes : same_pattern said.0 pattern ≡ true
    passes =
        ap (same_pattern said.0) (sym (get_or_from_slice_get (keys_of rows) found pattern pattern
        (slice_get-map (λ r. r.0) rows found ∙ ap (option_map (λ r. r.0)) at)))
        ∙ (position-Some (same_pattern said.0) (keys_of rows) found pattern first).1

    by : (t : Bool) → same_pattern said.0 row.0 ≡ t
        → is_about zones row (Some said) ≡ (same && (found == place))
    by true e =
        let one : found ≡ place =
        same_place rows distinct found place (pattern, number) row at there
        (sym (same_pattern-same said.0 pattern passes) ∙ same_pattern-same said.0 row.0 e) in
        let numbers : number ≡ row.1 =
        ap (λ (o : Option NumberedRow). option_map_or (λ r. r.1) o number)
        (sym at ∙ ap (slice_get rows) one ∙ there) in
        ap (λ t. (number_in zones said.1 == row.1) && t) e
        ∙ ap (λ n. (number_in zones said.1 == n) && true) (sym numbers)
        ∙ ap (λ t. t && true) test
        ∙ ap (λ t. same && t) (sym (eq-eqb found place one))
    by false e =
        ap (λ t. (number_in zones said.1 == row.1) && t) e
        ∙ and_false (number_in zones said.1 == row.1)
        ∙ sym (ap (λ t. same && t) (other (found == place) refl) ∙ and_false same)
      where
        other : (t : Bool) → (found == place) ≡ t → (found == place) ≡ false
        other false f = f
        other true f =
            let one : found ≡ place = eqb-true found place f in
            let patterns : pattern ≡ row.0 =
            ap (λ (o : Option NumberedRow). option_map_or (λ r. r.0) o pattern)
            (sym at ∙ ap (slice_get rows) one ∙ there) in
            absurd (true≢false (sym passes ∙ ap (same_pattern said.0) patterns ∙ e))

-- ---- by names
-- tests that agree at each item read the same
filter_map-agreeing : {X Y : Type 0} (f g : X → Option Y) (xs : List X) → All (λ x. f x ≡ g x) xs
    → filter_map f xs ≡ filter_map g xs
filter_map-agreeing f g [] h = refl
filter_map-agreeing f g (x ∷ xs) h =
    let here : f x ≡ g x = h 0 x (omega arith) in
    let rest = filter_map-agreeing f g xs (λ k d within. h (suc k) d (omega arith)) in
    rw (here, rest) refl

some_from_any : {X : Type 0} (p : X → Bool) (xs : List X) → list_any p xs ≡ true
    → (x : X) × (find p xs ≡ Some x)
some_from_any {X} p [] h = absurd (true≢false (sym h))
some_from_any {X} p (x ∷ xs) h = by (p x) refl (some_from_any p xs) h
  where
    by : (t : Bool) → p x ≡ t → (list_any p xs ≡ true → (y : X) × (find p xs ≡ Some y))
        → (t || list_any p xs) ≡ true → (y : X) × (cond t (Some x) (find p xs) ≡ Some y)
    by true e rest g = (x, refl)
    by false e rest g = rest g

-- a declared zone has a number of its own
same_number : (commands : List Command) (zone other : List ℕ) → is_declared commands zone ≡ true
    → (number_in (zones_of commands) zone == number_in (zones_of commands) other)
    ≡ bytes_eq zone other
same_number commands zone other declared = by (bytes_eq zone other) refl
  where
    by : (t : Bool) → bytes_eq zone other ≡ t
        → (number_in (zones_of commands) zone == number_in (zones_of commands) other) ≡ t
    by true e =
        eq-eqb (number_in (zones_of commands) zone) (number_in (zones_of commands) other)
        (ap (number_in (zones_of commands)) (same_text zone other (sym e)))
    by false e = differ (number_in (zones_of commands) zone == number_in
        (zones_of commands) other) refl
      where
        differ : (t : Bool) →
            (number_in (zones_of commands) zone == number_in (zones_of commands) other) ≡ t
            → (number_in (zones_of commands) zone == number_in (zones_of commands) other) ≡ false
        differ false f = f
        differ true f =
            let one : number_in (zones_of commands) zone ≡ number_in (zones_of commands) other =
            eqb-true _ _ f in
            let found = some_from_any (λ z. bytes_eq zone z.0) (zones_of commands) declared in
            let mine : zone ≡ found.0.0 = same_text zone found.0.0
            (sym (find_passes (λ z. bytes_eq zone z.0) (zones_of commands) found.0 found.1)) in
            let its : find (λ z. bytes_eq other z.0) (zones_of commands) ≡ Some found.0 =
            find_at (λ z. bytes_eq other z.0) (zones_of commands)
            ∙ ap (slice_get (zones_of commands)) (sym one)
            ∙ sym (find_at (λ z. bytes_eq zone z.0) (zones_of commands)) ∙ found.1 in
            let theirs : other ≡ found.0.0 = same_text other found.0.0
            (sym (find_passes (λ z. bytes_eq other z.0) (zones_of commands) found.0 its)) in
            absurd (true≢false (sym (nat_list_eq_equiv.refl zone)
            ∙ ap (bytes_eq zone) (mine ∙ sym theirs) ∙ e))

same_priority : (commands : List Command) (row : ZoneRow) (gateway : List ℕ) (command : Command)
    → All (λ name. is_declared commands name ≡ true) (named_by command)
    → numbered_priority_in (zones_of commands)
    (row.0, number_in (zones_of commands) row.1) gateway command
    ≡ priority_in row gateway command
same_priority commands row gateway (ZoneLocal name domain address) h = refl
same_priority commands row gateway (ZoneRemote name domain address cost priority) h = refl
same_priority commands row gateway (ZonePrefix zone pattern gateways) h =
    ap (λ t. cond (t && same_pattern pattern row.0) (priority_among gateway gateways) None)
    (same_number commands zone row.1 (h 0 zone (omega arith)))
same_priority commands row gateway (GwTypePrefix prefix hopoffs is_default) h = refl
same_priority commands row gateway RejectUnknownPrefix h = refl
same_priority commands row gateway (BandwidthDefault kind size) h = refl
same_priority commands row gateway (BandwidthZone kind zone size) h = refl
same_priority commands row gateway (BandwidthRemote size) h = refl

-- what commands say by numbers is what they say by names
pub numbered_is_named : (commands : List Command) (row : ZoneRow) (gateway : List ℕ)
    → All (λ command. All (λ name. is_declared commands name ≡ true) (named_by command)) commands
    → numbered_priority_of (zones_of commands) commands
    (row.0, number_in (zones_of commands) row.1) gateway
    ≡ named_priority_of commands row gateway
numbered_is_named commands row gateway h =
    ap last_in (filter_map-agreeing _ (priority_in row gateway) commands
    (λ k d within. same_priority commands row gateway (get_or commands k d) (h k d within)))

-- ---- one more command
pub priorities_more : {S : Type 0} (zones : Zones) (commands : List Command) (command : Command)
    (rows : List NumberedRow) (old new : Priorities S)
    → ArePriorities zones commands rows old
    → ((place : ℕ) (row : NumberedRow) → slice_get rows place ≡ Some row → (gateway : List ℕ)
    → kept_priority new place gateway
    ≡ option_or (numbered_priority_in zones row gateway command) (kept_priority old place gateway))
    → ArePriorities zones (commands ++ command ∷ []) rows new
priorities_more zones commands command rows old new h adds place row at gateway =
    adds place row at gateway
    ∙ ap (option_or (numbered_priority_in zones row gateway command)) (h place row at gateway)
    ∙ sym (last_in-more (numbered_priority_in zones row gateway) commands command)
