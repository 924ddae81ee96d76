-- What a configuration finds for texts that go on from a front with a character.
use Rattle.std.proofs.Common.{◌≡◌, ℕ, zero, suc, ◌-◌, ◌≤◌, ◌||◌, ◌==◌, ◌⊎◌, inl, inr, Bool, true, false, cond, List, [], ◌∷◌, ◌++◌, length, length-drop, drop, filter, slice_get, append-nil, refl, sym, ap, subst, ◌∙◌, true≢false}
use Rattle.std.specs.Prelude.{Option, Some, None, Result, Ok, Err, IfOk, unwrap_or, option_map}
use Rattle.std.specs.List.{list_any, starts_with}
use Rattle.digit_patterns.specs.PatternParts.{PatternParts}
use Rattle.gk_commands.specs.declared.commands.Command.{Command}
use Rattle.compiler.specs.Rows.{ZoneRow, rows_of, row_for}
use Rattle.compiler.specs.Technology.{technology_of, prefixes_of, found_length}
use Rattle.plan_difference.specs.Gathered.{Has}
use Rattle.plan_difference.specs.Sets.{hops_off, row_after, pattern_used, set_of, set_by, is_joint}
use Rattle.plan_difference.specs.Walk.{starred}
use Rattle.plan_difference.proofs.Lookups.{PrefixesStay, LiteralsStay, RowsStay, FindsSame, finds_same, same_technology_found, drop_front}
use Rattle.plan_difference.proofs.Finding.{found_within}
use Rattle.difference_counts.specs.Ahead.{pattern_has_at, HasPrefixesOn, HasPatternsOn, IsAhead, IsAt, AreLiteral}
use Rattle.difference_counts.specs.Places.{has_at}
use Rattle.difference_counts.proofs.TextLemmas.{GoesOn, short_or_on, goes_on_from}

-- ---- results
pub ok_then : {X E : Type 0} (result : Result X E) (P Q : X → Type 0)
    → ((x : X) → P x → Q x) → IfOk result P → IfOk result Q
ok_then (Ok x) P Q h holds = h x holds
ok_then (Err fault) P Q h holds = tt

-- ---- lists
none_there : {X : Type 0} (test : X → Bool) (xs : List X) (place : ℕ) (x : X)
    → slice_get xs place ≡ Some x → list_any test xs ≡ false → test x ≡ true → ⊥
none_there test [] place x at none passes = let bad : ⊥ = cc in bad
none_there test (y ∷ ys) zero x at none passes =
    first (test y) (list_any test ys) none (ap (λ o. test (unwrap_or o y)) at ∙ passes)
  where
    first : (a b : Bool) → (a || b) ≡ false → a ≡ true → ⊥
    first true b e f = true≢false e
    first false b e f = true≢false (sym f)
none_there test (y ∷ ys) (suc place) x at none passes =
    none_there test ys place x at (second (test y) (list_any test ys) none) passes
  where
    second : (a b : Bool) → (a || b) ≡ false → b ≡ false
    second true b e = absurd (true≢false e)
    second false b e = e

pub kept : {X : Type 0} (test : X → Bool) (xs : List X) (place : ℕ) (x : X)
    → slice_get xs place ≡ Some x → test x ≡ true → Has (filter test xs) x
kept test [] place x at passes = absurd (let bad : ⊥ = cc in bad)
kept {X} test (y ∷ ys) zero x at passes =
    subst (λ t. Has (cond t (y ∷ filter test ys) (filter test ys)) x)
    (sym (ap (λ o. test (unwrap_or o y)) at ∙ passes)) (record { place = 0; stands = at })
kept {X} test (y ∷ ys) (suc place) x at passes = by (test y) (kept test ys place x at passes)
  where
    by : (t : Bool) → Has (filter test ys) x
        → Has (cond t (y ∷ filter test ys) (filter test ys)) x
    by true there = record { place = suc there.place; stands = there.stands }
    by false there = there

-- ---- nothing goes on with a character
-- no literals that begin a text go past it
module _ (commands : List Command) (text : List ℕ) (patterns : List PatternParts)
    (literal : AreLiteral commands)
    (on : (place : ℕ) (row : ZoneRow) → slice_get (rows_of commands) place ≡ Some row
    → starts_with ◌==◌ row.0.literals text ≡ true → Has patterns row.0)
    (character : ℕ)
    (no_pattern : list_any (pattern_has_at (length text) character) patterns ≡ false)
    (rest : List ℕ) where
  pub literals_end : LiteralsStay (rows_of commands) text (character ∷ rest)
  literals_end = record {
    stay = λ place row at. (
      literal.rows place row at,
      λ b. by place row at (short_or_on text rest row.0.literals character b),
    );
  }
    where
      by : (place : ℕ) (row : ZoneRow) → slice_get (rows_of commands) place ≡ Some row
          → (length row.0.literals ≤ length text) ⊎ GoesOn text row.0.literals character
          → length row.0.literals ≤ length text
      by place row at (inl short) = short
      by place row at (inr more) =
          let there = on place row at more.begins in
          absurd (none_there (pattern_has_at (length text) character) patterns there.place
          row.0 there.stands no_pattern more.next)

module _ (commands : List Command) (front : List ℕ) (technology : Option (List ℕ))
    (prefixes : List (List ℕ)) (literal : AreLiteral commands)
    (at_front : IsAt commands front technology prefixes) (character : ℕ)
    (no_prefix : list_any (has_at (length front) character) prefixes ≡ false)
    (rest : List ℕ) where
  prefixes_stay : PrefixesStay (prefixes_of commands) front (character ∷ rest)
  prefixes_stay = record {
    stay = λ place prefix at. (
      literal.prefixes place prefix at,
      λ b. by place prefix at (short_or_on front rest prefix
          character b),
    );
  }
    where
      by : (place : ℕ) (prefix : List ℕ) → slice_get (prefixes_of commands) place ≡ Some prefix
          → (length prefix ≤ length front) ⊎ GoesOn front prefix character
          → length prefix ≤ length front
      by place prefix at (inl short) = short
      by place prefix at (inr on) =
          let there = at_front.ahead.prefixes_on place prefix at on.begins in
          absurd (none_there (has_at (length front) character) prefixes there.place prefix
          there.stands no_prefix on.next)

  pub found_is : technology_of commands (front ++ character ∷ rest) ≡ technology
  found_is =
      same_technology_found commands front (character ∷ rest) 0 prefixes_stay
      ∙ ap (technology_of commands) (append-nil front) ∙ sym at_front.known

  -- the zone prefix goes by what is after the technology prefix
  pub pattern_after : hops_off commands technology ≡ false
      → pattern_used commands (front ++ character ∷ rest)
      ≡ option_map (λ row. row.0)
      (row_for commands (drop (found_length technology) front ++ character ∷ rest))
  pattern_after stays =
      ap (option_map (λ row. row.0))
      (ap (λ t. row_after commands t (front ++ character ∷ rest)) found_is
      ∙ ap (λ hops. cond hops None
      (row_for commands (drop (found_length technology) (front ++ character ∷ rest)))) stays
      ∙ ap (row_for commands)
      (drop_front (found_length technology) front (character ∷ rest) at_front.ahead.within))

  module _ (patterns : List PatternParts) (on : HasPatternsOn commands front technology patterns)
      (no_pattern : list_any (pattern_has_at (length front - found_length technology) character)
      patterns ≡ false) where
    literals_stay : hops_off commands technology ≡ false
        → LiteralsStay (rows_of commands) (drop (found_length technology) front)
        (character ∷ rest)
    literals_stay stays =
        literals_end commands (drop (found_length technology) front) patterns literal (on stays)
        character
        (ap (λ n. list_any (pattern_has_at n character) patterns)
        (length-drop (found_length technology) front) ∙ no_pattern) rest

    rows_stay : RowsStay commands front (character ∷ rest)
    rows_stay = record {
      within = subst (λ t. found_length t ≤ length front) (sym found_is) at_front.ahead.within;
      rows = subst (λ t. hops_off commands t ≡ false
          → LiteralsStay (rows_of commands) (drop (found_length t) front) (character ∷ rest))
          (sym found_is) literals_stay;
    }

    pub finds : FindsSame commands front (character ∷ rest)
    finds = finds_same commands front (character ∷ rest) prefixes_stay rows_stay

-- both configurations find the same, so the set is the same
pub same_set_of : (old new : List Command) (front : List ℕ) (character : ℕ) (rest : List ℕ)
    → FindsSame old front (character ∷ rest) → FindsSame new front (character ∷ rest)
    → set_of old new (front ++ character ∷ rest)
    ≡ set_of old new (starred front (suc (length rest)))
same_set_of old new front character rest f g =
    λ i. set_by (is_joint old new (sym f.technology i) (sym g.technology i))
    (sym f.technology i) (sym g.technology i) (sym f.pattern i) (sym g.pattern i)

-- ---- what goes on with a character
module _ (commands : List Command) (front : List ℕ) (technology : Option (List ℕ))
    (prefixes : List (List ℕ)) (ahead : IsAhead commands front technology prefixes)
    (character : ℕ) where
  pub prefixes_next : HasPrefixesOn commands (front ++ character ∷ [])
      (filter (has_at (length front) character) prefixes)
  prefixes_next place prefix at begins =
      let on = goes_on_from front prefix character begins in
      let there = ahead.prefixes_on place prefix at on.begins in
      kept (has_at (length front) character) prefixes there.place prefix there.stands on.next

-- with the same technology prefix
module _ (commands : List Command) (front : List ℕ) (technology : Option (List ℕ))
    (patterns : List PatternParts) (within : found_length technology ≤ length front)
    (on : HasPatternsOn commands front technology patterns) (character : ℕ) where
  abbrev taken_off : ℕ
  taken_off = found_length technology

  pub patterns_next : (found : Option (List ℕ)) → found ≡ technology
      → HasPatternsOn commands (front ++ character ∷ []) found
      (filter (pattern_has_at (length front - found_length technology) character) patterns)
  patterns_next found e =
      subst (λ t. HasPatternsOn commands (front ++ character ∷ []) t
      (filter (pattern_has_at (length front - taken_off) character) patterns)) (sym e)
      (λ stays place row at begins. by place row at
      (goes_on_from (drop taken_off front) row.0.literals character
      (ap (starts_with ◌==◌ row.0.literals)
      (sym (drop_front taken_off front (character ∷ []) within)) ∙ begins))
      stays)
    where
      by : (place : ℕ) (row : ZoneRow) → slice_get (rows_of commands) place ≡ Some row
          → GoesOn (drop taken_off front) row.0.literals character
          → hops_off commands technology ≡ false
          → Has (filter (pattern_has_at (length front - taken_off) character) patterns) row.0
      by place row at more stays =
          let there = on stays place row at more.begins in
          kept (pattern_has_at (length front - taken_off) character) patterns there.place row.0
          there.stands
          (ap (λ n. has_at n character row.0.literals) (sym (length-drop taken_off front)) ∙
          more.next)

-- with another one all patterns that begin with what is after it are ahead
pub patterns_from : (commands : List Command) (text : List ℕ) (found : Option (List ℕ))
    (patterns : List PatternParts) → HasPatternsOn commands [] None patterns
    → HasPatternsOn commands text found
    (filter (λ pattern. starts_with ◌==◌ pattern.literals (drop (found_length found) text))
    patterns)
patterns_from commands text found patterns whole stays place row at begins =
    let there = whole refl place row at refl in
    kept (λ pattern. starts_with ◌==◌ pattern.literals (drop (found_length found) text)) patterns
    there.place row.0 there.stands begins

-- and if that hops off, none need be
pub patterns_none : (commands : List Command) (front : List ℕ) (found : Option (List ℕ))
    → hops_off commands found ≡ true → HasPatternsOn commands front found []
patterns_none commands front found hops stays =
    absurd (true≢false (sym hops ∙ stays))

-- ---- one more character
pub found_next : (commands : List Command) (text : List ℕ) (found : Option (List ℕ))
    → found ≡ technology_of commands text → found_length found ≤ length text
found_next commands text found e = found_within commands text found (sym e)

pub at_next : (commands : List Command) (front : List ℕ) (technology : Option (List ℕ))
    (prefixes : List (List ℕ)) → IsAhead commands front technology prefixes → (character : ℕ)
    → (text : List ℕ) → text ≡ front ++ character ∷ []
    → (found : Option (List ℕ)) → found ≡ technology_of commands text
    → (kept_prefixes : List (List ℕ))
    → kept_prefixes ≡ filter (has_at (length front) character) prefixes
    → IsAt commands text found kept_prefixes
at_next commands front technology prefixes ahead character text e found known kept_prefixes f =
    record {
      ahead = record {
        within = found_next commands text found known;
        prefixes_on = subst (λ t. HasPrefixesOn commands t kept_prefixes) (sym e)
            (subst (HasPrefixesOn commands (front ++ character ∷ [])) (sym f)
            (prefixes_next commands front technology prefixes ahead character));
      };
      known = known;
    }
