-- What a configuration finds for digits, it finds for their front filled up with stars, if the
-- technology prefix and the literals of the zone prefix that it finds are in that front.
use Rattle.std.proofs.Common.{◌≡◌, ℕ, zero, suc, ◌||◌, ◌+◌, ◌-◌, ◌≤◌, ◌⊎◌, inl, inr, Bool, true, false, cond, List, [], ◌∷◌, ◌++◌, length, length-append, length-drop, append-nil, drop, get_or, slice_get, refl, sym, ap, subst, ◌∙◌, arith, true≢false}
use Rattle.std.specs.Prelude.{Option, Some, None, option_map, option_and_then, replicate, unwrap_or, bytes_eq}
use Rattle.std.specs.List.{cons_option, filter_map}
use Rattle.std.proofs.lemmas.Bool.{and_parts, and_from}
use Rattle.std.proofs.lemmas.List.{length-replicate}
use Rattle.std.proofs.lemmas.Option.{slice_get-get_or}
use Rattle.std.proofs.lemmas.Slice.Eq.{bytes_eq-Decides}
use Rattle.gk_terms.proofs.ChoiceLemmas.{first_unbeaten-none}
use Rattle.digit_patterns.specs.PatternParts.{PatternParts}
use Rattle.digit_patterns.specs.Pattern.{matches, Matches, Outranks, has_count, same_pattern}
use Rattle.digit_patterns.specs.Table.{best_of}
use Rattle.digit_patterns.proofs.RankLaws.{best_of-none, best_of-IsBest, rank_orders}
use Rattle.gk_commands.specs.declared.commands.Command.{Command}
use Rattle.compiler.specs.Pick.{picked, is_picked_before}
use Rattle.compiler.specs.Rows.{ZoneRow, rows_of, row_for, row_of_pattern, zone_for, zones_for}
use Rattle.compiler.specs.Technology.{technology_of, prefixes_of, found_length}
use Rattle.compiler.specs.TablesIndex.{is_among}
use Rattle.compiler.proofs.PickLemmas.{pick_is_order}
use Rattle.compiler.proofs.RowLemmas.{same_pattern-itself}
use Rattle.compiler.proofs.TechnologyLemmas.{begins_within}
use Rattle.plan_difference.specs.Gathered.{has_no_star}
use Rattle.plan_difference.specs.Sets.{hops_off, row_after, pattern_used}
use Rattle.plan_difference.specs.Walk.{starred}
use Rattle.plan_difference.proofs.Beginnings.{begins, same_begins}
use Rattle.plan_difference.proofs.Finding.{declared_within}
use Rattle.plan_difference.proofs.Lookups.{PrefixesStay, FindsSame, same_technology_found, drop_front}
use Rattle.difference_counts.specs.Ahead.{AreLiteral}

-- ---- the best row of another text, which fewer rows match, but the best one of the first does
module _ {V : Type 0} (rows : List (PatternParts × V)) (text other : List ℕ)
    (fewer : (place : ℕ) (row : PatternParts × V) → slice_get rows place ≡ Some row
    → Matches row.0 other → Matches row.0 text)
    (stays : (row : PatternParts × V) → best_of rows text ≡ Some row → Matches row.0 other) where
  abbrev pattern_in : Option (PatternParts × V) → Option PatternParts
  pattern_in row = option_map (λ r. r.0) row

  one_best : (a b : PatternParts × V) → best_of rows text ≡ Some a → best_of rows other ≡ Some b
      → a.0 ≡ b.0
  one_best a b e f =
      let x = best_of-IsBest rows text a e in
      let y = best_of-IsBest rows other b f in
      by (subst (λ row. Matches row.0 other → (row.0 ≡ b.0) ⊎ Outranks b.0 row.0) x.row.2
      (y.longest x.row.0 a x.row.1) (stays a e))
      (subst (λ row. Matches row.0 text → (row.0 ≡ a.0) ⊎ Outranks a.0 row.0) y.row.2
      (x.longest y.row.0 b y.row.1) (fewer y.row.0 b
      (slice_get-get_or rows y.row.0 b y.row.1 ∙ ap (λ row. Some row) y.row.2) y.matching))
    where
      by : (a.0 ≡ b.0) ⊎ Outranks b.0 a.0 → (b.0 ≡ a.0) ⊎ Outranks a.0 b.0 → a.0 ≡ b.0
      by (inl same) h = same
      by (inr above) (inl same) = sym same
      by (inr above) (inr below) =
          absurd (rank_orders.irreflexive b.0 (rank_orders.transitive b.0 a.0 b.0 above below))

  pub same_best_pattern : pattern_in (best_of rows other) ≡ pattern_in (best_of rows text)
  same_best_pattern =
      by (best_of rows text) (best_of rows other) refl refl
    where
      core : (a b : Option (PatternParts × V)) → best_of rows text ≡ a → best_of rows other ≡ b
          → pattern_in b ≡ pattern_in a
      core None None e f = refl
      core None (Some b) e f =
          let y = best_of-IsBest rows other b f in
          let none : matches (get_or rows y.row.0 b).0 text ≡ false =
          best_of-none rows text e y.row.0 b y.row.1 in
          let some : matches b.0 text ≡ true = fewer y.row.0 b
          (slice_get-get_or rows y.row.0 b y.row.1 ∙ ap (λ row. Some row) y.row.2) y.matching in
          absurd (true≢false (sym some ∙ ap (λ row. matches row.0 text) (sym y.row.2) ∙ none))
      core (Some a) None e f =
          let x = best_of-IsBest rows text a e in
          let none : matches (get_or rows x.row.0 a).0 other ≡ false =
          best_of-none rows other f x.row.0 a x.row.1 in
          let some : matches a.0 other ≡ true = stays a e in
          absurd (true≢false (sym some ∙ ap (λ row. matches row.0 other) (sym x.row.2) ∙ none))
      core (Some a) (Some b) e f = ap (λ p. Some p) (sym (one_best a b e f))

      by : (a b : Option (PatternParts × V)) → best_of rows text ≡ a → best_of rows other ≡ b
          → pattern_in (best_of rows other) ≡ pattern_in (best_of rows text)
      by a b e f = ap pattern_in f ∙ core a b e f ∙ ap pattern_in (sym e)

-- ---- the zone prefix of the row is that of the best one
zones_there : (rows : List ZoneRow) (place : ℕ) (row : ZoneRow) → slice_get rows place ≡ Some row
    → filter_map (zone_for row.0) rows ≡ [] → ⊥
zones_there [] place row at none = let bad : ⊥ = cc in bad
zones_there (first ∷ rows) zero row at none =
    let same : first.0 ≡ row.0 = ap (λ o. (unwrap_or o first).0) at in
    let is : zone_for row.0 first ≡ Some first.1 =
    ap (λ t. cond t (Some first.1) None)
    (ap (λ p. same_pattern p row.0) same ∙ same_pattern-itself row.0) in
    let some : first.1 ∷ filter_map (zone_for row.0) rows ≡ [] =
    ap (λ o. cons_option o (filter_map (zone_for row.0) rows)) (sym is) ∙ none in
    let bad : ⊥ = cc in bad
zones_there (first ∷ rows) (suc place) row at none =
    zones_there rows place row at (later (zone_for row.0 first) none)
  where
    later : (o : Option (List ℕ)) → cons_option o (filter_map (zone_for row.0) rows) ≡ []
        → filter_map (zone_for row.0) rows ≡ []
    later None h = h
    later (Some zone) h = absurd (let bad : ⊥ = cc in bad)

pub pattern_for : (commands : List Command) (digits : List ℕ)
    → option_map (λ (row : ZoneRow). row.0) (row_for commands digits)
    ≡ option_map (λ (row : ZoneRow). row.0) (best_of (rows_of commands) digits)
pattern_for commands digits = by (best_of (rows_of commands) digits) refl
  where
    by_zone : (pattern : PatternParts) (o : Option (List ℕ)) → (o ≡ None → ⊥)
        → option_map (λ (row : ZoneRow). row.0)
        (option_map {U = ZoneRow} (λ zone. (pattern, zone)) o) ≡ Some pattern
    by_zone pattern None h = absurd (h refl)
    by_zone pattern (Some zone) h = refl

    by : (o : Option ZoneRow) → best_of (rows_of commands) digits ≡ o
        → option_map (λ (row : ZoneRow). row.0)
        (option_and_then (λ best. row_of_pattern commands best.0) o)
        ≡ option_map (λ (row : ZoneRow). row.0) o
    by None e = refl
    by (Some best) e =
        let found = best_of-IsBest (rows_of commands) digits best e in
        by_zone best.0 (picked commands (zones_for commands best.0))
        (λ none. zones_there (rows_of commands) found.row.0 best
        (slice_get-get_or (rows_of commands) found.row.0 best found.row.1
        ∙ ap (λ row. Some row) found.row.2)
        (first_unbeaten-none (is_picked_before commands) (pick_is_order commands)
        (zones_for commands best.0) none))

-- ---- a front with stars after it
-- literals that begin it are in the front
in_front : (l u : List ℕ) (count : ℕ) → has_no_star l ≡ true → begins (starred u count) l ≡ true
    → length l ≤ length u
in_front l u count clean h =
    let short : begins (u ++ []) l ≡ true → length l ≤ length u =
    (λ b. subst (λ t. length l ≤ length t) (append-nil u) (begins_within (u ++ []) l b)) in
    short (same_begins l u [] count clean short ∙ h)

pub same_size : (u z : List ℕ) → length (starred u (length z)) ≡ length (u ++ z)
same_size u z =
    length-append u (replicate (length z) 42)
    ∙ ap (λ n. length u + n) (length-replicate {A = ℕ} (length z) 42) ∙ sym (length-append u z)

module _ (commands : List Command) (literal : AreLiteral commands) where
  -- of a text without a technology prefix
  module _ (u z : List ℕ)
      (fits : (pattern : PatternParts)
      → option_map (λ (row : ZoneRow). row.0) (row_for commands (u ++ z)) ≡ Some pattern
      → length pattern.literals ≤ length u) where
    abbrev filled : List ℕ
    filled = starred u (length z)

    fewer : (place : ℕ) (row : ZoneRow) → slice_get (rows_of commands) place ≡ Some row
        → Matches row.0 filled → Matches row.0 (u ++ z)
    fewer place row at h =
        let parts = and_parts (begins filled row.0.literals)
        (has_count row.0 (length filled)) h in
        let clean = literal.rows place row at in
        let short = in_front row.0.literals u (length z) clean parts.0 in
        and_from (begins (u ++ z) row.0.literals) (has_count row.0 (length (u ++ z)))
        (same_begins row.0.literals u z (length z) clean (λ b. short) ∙ parts.0)
        (ap (has_count row.0) (sym (same_size u z)) ∙ parts.1)

    stays : (row : ZoneRow) → best_of (rows_of commands) (u ++ z) ≡ Some row
        → Matches row.0 filled
    stays row e =
        let found = best_of-IsBest (rows_of commands) (u ++ z) row e in
        let parts = and_parts (begins (u ++ z) row.0.literals)
        (has_count row.0 (length (u ++ z))) found.matching in
        let clean = literal.rows found.row.0 row
        (slice_get-get_or (rows_of commands) found.row.0 row found.row.1
        ∙ ap (λ r. Some r) found.row.2) in
        let short = fits row.0 (pattern_for commands (u ++ z)
        ∙ ap (option_map (λ (r : ZoneRow). r.0)) e) in
        and_from (begins filled row.0.literals) (has_count row.0 (length filled))
        (sym (same_begins row.0.literals u z (length z) clean (λ b. short)) ∙ parts.0)
        (ap (has_count row.0) (same_size u z) ∙ parts.1)

    same_rest : option_map (λ (row : ZoneRow). row.0) (row_for commands filled)
        ≡ option_map (λ (row : ZoneRow). row.0) (row_for commands (u ++ z))
    same_rest =
        pattern_for commands filled
        ∙ same_best_pattern (rows_of commands) (u ++ z) filled fewer stays
        ∙ sym (pattern_for commands (u ++ z))

  -- of digits
  module _ (u z : List ℕ) where
    abbrev found : Option (List ℕ)
    found = technology_of commands (u ++ z)

    module _ (within : found_length found ≤ length u) where
      prefixes_stay : PrefixesStay (prefixes_of commands) u z
      prefixes_stay = record {
        stay = λ place prefix at. (
          literal.prefixes place prefix at,
          λ b. let short = declared_within commands (u ++ z) found refl prefix
              (among_at (prefixes_of commands) place prefix at) b in omega (arith, short, within),
        );
      }
        where
          among_at : (xs : List (List ℕ)) (place : ℕ) (x : List ℕ)
              → slice_get xs place ≡ Some x → is_among xs x ≡ true
          among_at [] place x e = absurd (let bad : ⊥ = cc in bad)
          among_at (y ∷ ys) zero x e =
              ap (λ t. t || is_among ys x)
              ((bytes_eq-Decides y x).1 (ap (λ o. unwrap_or o y) e))
          among_at (y ∷ ys) (suc place) x e =
              or_later (bytes_eq y x) (is_among ys x) (among_at ys place x e)
            where
              or_later : (a b : Bool) → b ≡ true → (a || b) ≡ true
              or_later true b h = refl
              or_later false b h = h

      -- with any number of stars
      pub found_after : (count : ℕ) → technology_of commands (starred u count) ≡ found
      found_after count = sym (same_technology_found commands u z count prefixes_stay)

    module _ (within : found_length found ≤ length u)
        (fits : (pattern : PatternParts) → pattern_used commands (u ++ z) ≡ Some pattern
        → found_length found + length pattern.literals ≤ length u) where
      same_found : technology_of commands (starred u (length z)) ≡ found
      same_found = found_after within (length z)

      pub finds_it : FindsSame commands u z
      finds_it = record {
        technology = same_found;
        pattern = ap (option_map (λ (row : ZoneRow). row.0))
            (ap (λ x. row_after commands x (starred u (length z))) same_found)
            ∙ by (hops_off commands found) refl;
      }
        where
          by : (hops : Bool) → hops_off commands found ≡ hops
              → option_map (λ (row : ZoneRow). row.0)
              (cond hops None (row_for commands (drop (found_length found) (starred u (length z)))))
              ≡ option_map (λ (row : ZoneRow). row.0)
              (cond hops None (row_for commands (drop (found_length found) (u ++ z))))
          by true e = refl
          by false e =
              ap (λ t. option_map (λ (row : ZoneRow). row.0) (row_for commands t))
              (drop_front (found_length found) u (replicate (length z) 42) within)
              ∙ same_rest (drop (found_length found) u) z short
              ∙ ap (λ t. option_map (λ (row : ZoneRow). row.0) (row_for commands t))
              (sym (drop_front (found_length found) u z within))
            where
              short : (pattern : PatternParts)
                  → option_map (λ (row : ZoneRow). row.0)
                  (row_for commands (drop (found_length found) u ++ z))
                  ≡ Some pattern
                  → length pattern.literals ≤ length (drop (found_length found) u)
              short pattern h =
                  let used : pattern_used commands (u ++ z) ≡ Some pattern =
                  ap (λ hops. option_map (λ (row : ZoneRow). row.0)
                  (cond hops None (row_for commands (drop (found_length found) (u ++ z))))) e
                  ∙ ap (λ t. option_map (λ (row : ZoneRow). row.0) (row_for commands t))
                  (drop_front (found_length found) u z within) ∙ h in
                  let low = fits pattern used in
                  let size = length-drop (found_length found) u in
                  omega (arith, low, size)
