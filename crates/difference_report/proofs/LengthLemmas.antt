-- Whether a set has digits of another length.
use Rattle.std.proofs.Common.{◌≡◌, ℕ, ◌==◌, ◌&&◌, ◌||◌, not, ◌+◌, ◌-◌, ◌<◌, ◌≤◌, Bool, true, false, cond, nat_lt, nat_le, List, [], ◌∷◌, ◌++◌, length, length-append, length-drop, drop, take-append-drop, append-nil, fold, refl, sym, ap, subst, ◌∙◌, arith, tests, true≢false}
use Rattle.std.specs.Prelude.{Option, Some, None, option_map, is_some, unwrap_or, bytes_eq}
use Rattle.std.specs.List.{list_all, list_any, cons_option}
use Rattle.std.specs.Option.{option_eq}
use Rattle.std.proofs.lemmas.Bool.{and_parts, and_from}
use Rattle.std.proofs.lemmas.Bool.Decides.{nat_tests}
use Rattle.std.proofs.lemmas.Slice.Eq.{bytes_eq-Decides}
use Rattle.gk_terms.specs.declared.limits.TheConstants.{MOST_DIALLED}
use Rattle.gk_terms.specs.Dialled.{IsDialled, is_dialled_byte}
use Rattle.digit_patterns.specs.PatternParts.{PatternParts, least_count}
use Rattle.digit_patterns.specs.Pattern.{Matches, has_count}
use Rattle.digit_patterns.specs.Table.{best_of}
use Rattle.digit_patterns.proofs.RankLaws.{best_of-IsBest}
use Rattle.gk_commands.specs.declared.commands.Command.{Command}
use Rattle.compiler.specs.Rows.{ZoneRow, rows_of, row_for}
use Rattle.compiler.specs.Technology.{technology_of, prefixes_of, prefix_in, found_length}
use Rattle.compiler.specs.TablesIndex.{is_among}
use Rattle.compiler.proofs.TechnologyLemmas.{begins_is, begins_within}
use Rattle.compiler.proofs.LearnedLemmas.{IsLongestOf, is_longest, longest_from}
use Rattle.plan_difference.specs.declared.number_sets.NumberSet.{NumberSet}
use Rattle.plan_difference.specs.Entries.{group_of}
use Rattle.plan_difference.specs.Sets.{hopoff_of, hops_off, is_joint, pattern_used, row_after, set_by, set_of}
use Rattle.plan_difference.specs.Walk.{starred, text_of}
use Rattle.plan_difference.proofs.Beginnings.{begins}
use Rattle.plan_difference.proofs.Finding.{found_within}
use Rattle.plan_difference.proofs.Lookups.{FindsSame}
use Rattle.plan_difference.proofs.Plans.{AreJoint, are_joint, none_is_joint}
use Rattle.difference_counts.specs.Ahead.{AreLiteral}
use Rattle.difference_report.specs.Groups.{is_own}
use Rattle.difference_report.specs.Headings.{is_next, is_shared, shared_prefixes, takes_off, with_shared}
use Rattle.difference_report.specs.Lengths.{front_of, length_after, rest_row}
use Rattle.difference_report.specs.Shape.{longer, shape_of, whole}
use Rattle.difference_report.proofs.DialledLemmas.{all_stars}
use Rattle.difference_report.proofs.RestLemmas.{finds_it, found_after, pattern_for, same_size}

-- ---- beginnings
begins_itself : (front rest : List ℕ) → begins (front ++ rest) front ≡ true
begins_itself [] rest = refl
begins_itself (c ∷ front) rest = (λ i. same c i && begins_itself front rest i)
  where
    same : (n : ℕ) → (n == n) ≡ true
    same n = search (arith, tests)

parts_of : (text front : List ℕ) → begins text front ≡ true
    → text ≡ front ++ drop (length front) text
parts_of text front h =
    sym (take-append-drop (length front) text)
    ∙ ap (λ t. t ++ drop (length front) text) (sym (begins_is text front h))

begins_both : (front rest more : List ℕ) → begins rest more ≡ true
    → begins (front ++ rest) (front ++ more) ≡ true
begins_both [] rest more h = h
begins_both (c ∷ front) rest more h = (λ i. same c i && begins_both front rest more h i)
  where
    same : (n : ℕ) → (n == n) ≡ true
    same n = search (arith, tests)

-- ---- what one configuration finds for digits
-- the literals of the zone prefix after the technology prefix
abbrev found_literals : List Command → List ℕ → List ℕ
found_literals commands digits =
    (whole (technology_of commands digits) (pattern_used commands digits)).literals

module _ (commands : List Command) (digits : List ℕ) where
  abbrev found : Option (List ℕ)
  found = technology_of commands digits

  abbrev after : List ℕ
  after = drop (found_length found) digits

  -- the zone prefix matches what comes after the technology prefix
  pub used_matches : (pattern : PatternParts) → pattern_used commands digits ≡ Some pattern
      → Matches pattern after
  used_matches pattern h = by (hops_off commands found) h
    where
      one : (o : Option ZoneRow) → option_map (λ (row : ZoneRow). row.0) o ≡ Some pattern
          → ((row : ZoneRow) → o ≡ Some row → Matches row.0 after) → Matches pattern after
      one None e f = absurd (let bad : ⊥ = cc in bad)
      one (Some row) e f =
          let same : row.0 ≡ pattern = ap (λ o. unwrap_or o row.0) e in
          subst (λ p. Matches p after) same (f row refl)

      by : (hops : Bool)
          → option_map (λ (row : ZoneRow). row.0) (cond hops None (row_for commands after))
          ≡ Some pattern → Matches pattern after
      by true e = absurd (let bad : ⊥ = cc in bad)
      by false e =
          one (best_of (rows_of commands) after) (sym (pattern_for commands after) ∙ e)
          (λ row f. (best_of-IsBest (rows_of commands) after row f).matching)

  text_length : (technology : Option (List ℕ))
      → length (text_of technology) ≡ found_length technology
  text_length None = refl
  text_length (Some prefix) = refl

  begins_found : (technology : Option (List ℕ)) → found ≡ technology
      → begins digits (text_of technology) ≡ true
  begins_found None e = refl
  begins_found (Some prefix) e = (is_longest (prefixes_of commands) digits prefix e).begins

  found_parts : digits ≡ text_of found ++ after
  found_parts =
      parts_of digits (text_of found) (begins_found found refl)
      ∙ ap (λ n. text_of found ++ drop n digits) (text_length found)

  -- the digits begin with the literals of both
  pub begins_literals : begins digits (found_literals commands digits) ≡ true
  begins_literals = by (pattern_used commands digits) refl
    where
      by : (o : Option PatternParts) → pattern_used commands digits ≡ o
          → begins digits (whole found o).literals ≡ true
      by None e = begins_found found refl
      by (Some pattern) e =
          ap (λ t. begins t (text_of found ++ pattern.literals)) found_parts
          ∙ begins_both (text_of found) after pattern.literals
          (and_parts (begins after pattern.literals) (has_count pattern (length after))
          (used_matches pattern e)).0

  literal_length : (o : Option PatternParts) → found_length found ≤ length (whole found o).literals
  literal_length None = let e = text_length found in omega (arith, e)
  literal_length (Some pattern) =
      let e = text_length found in
      let f = length-append (text_of found) pattern.literals in
      omega (arith, e, f)

  within_literals : (u : List ℕ) → length (found_literals commands digits) ≤ length u
      → found_length found ≤ length u
  within_literals u long =
      let low = literal_length (pattern_used commands digits) in omega (arith, low, long)

  -- the technology prefix is found for a front that they are in, with any number of stars after it
  pub finds_after : AreLiteral commands → (u z : List ℕ) → digits ≡ u ++ z
      → length (found_literals commands digits) ≤ length u → (count : ℕ)
      → technology_of commands (starred u count) ≡ found
  finds_after literal u z parts long count =
      found_after commands literal u z
      (subst (λ x. found_length (technology_of commands x) ≤ length u) parts
      (within_literals u long)) count
      ∙ ap (technology_of commands) (sym parts)

  -- they are found for the front of digits that they are in, filled up with stars
  pub finds_filled : AreLiteral commands → (u z : List ℕ) → digits ≡ u ++ z
      → length (found_literals commands digits) ≤ length u → FindsSame commands u z
  finds_filled literal u z parts long =
      finds_it commands literal u z
      (subst (λ x. found_length (technology_of commands x) ≤ length u) parts
      (within_literals u long))
      (subst (λ x. (pattern : PatternParts) → pattern_used commands x ≡ Some pattern
      → found_length (technology_of commands x) + length pattern.literals ≤ length u) parts fits)
    where
      fits : (pattern : PatternParts) → pattern_used commands digits ≡ Some pattern
          → found_length found + length pattern.literals ≤ length u
      fits pattern e =
          let f : length (found_literals commands digits)
          ≡ length (text_of found) + length pattern.literals =
          ap (λ o. length (whole found o).literals) e
          ∙ length-append (text_of found) pattern.literals in
          let g = text_length found in
          omega (arith, long, f, g)

  -- without a star it has one length after the technology prefix
  pub one_length : (pattern : PatternParts) → pattern_used commands digits ≡ Some pattern
      → pattern.star ≡ false → length digits - found_length found ≡ least_count pattern
  one_length pattern e plain =
      sym (length-drop (found_length found) digits)
      ∙ by pattern.star plain (and_parts (begins after pattern.literals)
      (has_count pattern (length after)) (used_matches pattern e)).1
    where
      by : (star : Bool) → star ≡ false
          → cond star (nat_le (least_count pattern) (length after))
          (length after == least_count pattern) ≡ true
          → length after ≡ least_count pattern
      by true f h = absurd (true≢false f)
      by false f h = grind (arith, nat_tests)

-- ---- what follows a technology prefix
pub stars_after : (front stem : List ℕ) (count : ℕ)
    → starred (front ++ stem) count ≡ front ++ starred stem count
stars_after [] stem count = refl
stars_after (c ∷ front) stem count = ap (λ t. c ∷ t) (stars_after front stem count)

drop_prefix : (technology : Option (List ℕ)) (rest : List ℕ)
    → drop (found_length technology) (text_of technology ++ rest) ≡ rest
drop_prefix None rest = refl
drop_prefix (Some prefix) rest = drop_it prefix
  where
    drop_it : (front : List ℕ) → drop (length front) (front ++ rest) ≡ rest
    drop_it [] = refl
    drop_it (c ∷ front) = drop_it front

-- the zone prefix is looked up for it alone
module _ (commands : List Command) (technology : Option (List ℕ)) (stem : List ℕ) (count : ℕ) where
  abbrev prefixed : List ℕ
  prefixed = starred (text_of technology ++ stem) count

  used_after : technology_of commands prefixed ≡ technology → hopoff_of commands technology ≡ None
      → pattern_used commands prefixed ≡ rest_row commands (starred stem count)
  used_after is stays =
      ap (λ t. option_map (λ (row : ZoneRow). row.0) (row_after commands t prefixed)) is
      ∙ ap (λ zone. option_map (λ (row : ZoneRow). row.0)
      (cond (is_some zone) None (row_for commands (drop (found_length technology) prefixed)))) stays
      ∙ ap (rest_row commands)
      (ap (drop (found_length technology)) (stars_after (text_of technology) stem count)
      ∙ drop_prefix technology (starred stem count))

-- ---- digits that are filled up
all_front : (u z : List ℕ) → list_all is_dialled_byte (u ++ z) ≡ true
    → list_all is_dialled_byte (starred u (length z)) ≡ true
all_front [] z h = all_stars (length z)
all_front (c ∷ u) z h =
    let both = and_parts (is_dialled_byte c) (list_all is_dialled_byte (u ++ z)) h in
    and_from (is_dialled_byte c) (list_all is_dialled_byte (starred u (length z)))
    both.0 (all_front u z both.1)

filled_dialled : (u z : List ℕ) → IsDialled (u ++ z) → IsDialled (starred u (length z))
filled_dialled u z h =
    by (nat_le 1 (length (u ++ z))) (nat_le (length (u ++ z)) MOST_DIALLED)
    (list_all is_dialled_byte (u ++ z)) (list_all is_dialled_byte (starred u (length z)))
    (ap (nat_le 1) (same_size u z)) (ap (λ n. nat_le n MOST_DIALLED) (same_size u z))
    (all_front u z) h
  where
    by : (low high all stars : Bool) → {l m : Bool} → l ≡ low → m ≡ high
        → (all ≡ true → stars ≡ true) → (low && high && all) ≡ true
        → (l && m && stars) ≡ true
    by true true true stars e f g h = (λ i. e i && f i && g refl i)
    by true true false stars e f g h = absurd (true≢false (sym h))
    by true false all stars e f g h = absurd (true≢false (sym h))
    by false high all stars e f g h = absurd (true≢false (sym h))

-- ---- what both find for digits
joined : (technology : Option (List ℕ)) (row : Option PatternParts)
    → text_of technology ++ (whole None row).literals ≡ (whole technology row).literals
joined technology None = append-nil (text_of technology)
joined technology (Some pattern) = refl

-- a front with the longer of two texts, if it is a beginning with either
record IsLead (x front l m : List ℕ) : Type 0 where
  pub first : length (front ++ l) ≤ length (front ++ longer l m)
  pub second : length (front ++ m) ≤ length (front ++ longer l m)
  pub starts : begins x (front ++ longer l m) ≡ true

is_lead : (x front l m : List ℕ) → begins x (front ++ l) ≡ true → begins x (front ++ m) ≡ true
    → IsLead x front l m
is_lead x front l m h g = by (nat_lt (length l) (length m)) refl
  where
    size : (t : List ℕ) → length (front ++ t) ≡ length front + length t
    size t = length-append front t

    by : (t : Bool) → nat_lt (length l) (length m) ≡ t → IsLead x front l m
    by true e =
        let long : longer l m ≡ m = ap (λ t. cond t m l) e in
        let s = size l in
        let r = size m in
        let low : length l < length m = grind (arith, nat_tests) in
        record {
          first = subst (λ t. length (front ++ l) ≤ length (front ++ t)) (sym long)
              (omega (arith, s, r, low));
          second = subst (λ t. length (front ++ m) ≤ length (front ++ t)) (sym long) (omega arith);
          starts = ap (λ t. begins x (front ++ t)) long ∙ g;
        }
    by false e =
        let long : longer l m ≡ l = ap (λ t. cond t m l) e in
        let s = size l in
        let r = size m in
        let low : length m ≤ length l = grind (arith, nat_tests) in
        record {
          first = subst (λ t. length (front ++ l) ≤ length (front ++ t)) (sym long) (omega arith);
          second = subst (λ t. length (front ++ m) ≤ length (front ++ t)) (sym long)
              (omega (arith, s, r, low));
          starts = ap (λ t. begins x (front ++ t)) long ∙ h;
        }

module _ (old new : List Command) (x : List ℕ) where
  abbrev a : Option (List ℕ)
  a = technology_of old x

  abbrev b : Option (List ℕ)
  b = technology_of new x

  abbrev p : Option PatternParts
  p = pattern_used old x

  abbrev q : Option PatternParts
  q = pattern_used new x

  abbrev pub set_if : Bool → NumberSet
  set_if joint = set_by joint a b p q

  abbrev pub lead : Bool → List ℕ
  lead joint = cond joint (text_of a) []

  -- a set of another group names a technology prefix
  pub own_is : is_joint old new a b ≡ false → is_own (group_of (set_if false)) ≡ true
  own_is e = is_one a b e
    where
      is_one : (s t : Option (List ℕ)) → is_joint old new s t ≡ false
          → (is_some s || is_some t) ≡ true
      is_one None None f = absurd (true≢false (sym (none_is_joint old new) ∙ f))
      is_one None (Some t) f = refl
      is_one (Some s) t f = refl

  pub front_is : (joint : Bool) → is_joint old new a b ≡ joint
      → front_of old (set_if joint, x) ≡ lead joint
  front_is true e = refl
  front_is false e = ap (λ own. cond own [] (text_of a)) (own_is e)

  -- the literals of the set, after the front, are a beginning
  old_literals : (joint : Bool)
      → lead joint ++ (whole (set_if joint).old_technology (set_if joint).old_row).literals
      ≡ found_literals old x
  old_literals true = joined a p
  old_literals false = refl

  new_literals : (joint : Bool) → is_joint old new a b ≡ joint
      → lead joint ++ (whole (set_if joint).new_technology (set_if joint).new_row).literals
      ≡ found_literals new x
  new_literals true e =
      joined a q ∙ ap (λ t. (whole t q).literals) (are_joint old new a b e).same
  new_literals false e = refl

  abbrev old_part : Bool → List ℕ
  old_part joint = (whole (set_if joint).old_technology (set_if joint).old_row).literals

  abbrev new_part : Bool → List ℕ
  new_part joint = (whole (set_if joint).new_technology (set_if joint).new_row).literals

  lead_is : (joint : Bool) → is_joint old new a b ≡ joint
      → IsLead x (lead joint) (old_part joint) (new_part joint)
  lead_is joint e =
      is_lead x (lead joint) (old_part joint) (new_part joint)
      (ap (begins x) (old_literals joint) ∙ begins_literals old x)
      (ap (begins x) (new_literals joint e) ∙ begins_literals new x)

  -- filled up with stars they are digits of the set of the same length
  abbrev u : Bool → List ℕ
  u joint = lead joint ++ (shape_of (set_if joint)).literals

  abbrev pub z : Bool → List ℕ
  z joint = drop (length (u joint)) x

  abbrev pub filled : Bool → List ℕ
  filled joint = starred (u joint) (length (z joint))

  parts : (joint : Bool) → is_joint old new a b ≡ joint → x ≡ u joint ++ z joint
  parts joint e = parts_of x (u joint) (lead_is joint e).starts

  finds_old : AreLiteral old → (joint : Bool) → is_joint old new a b ≡ joint
      → FindsSame old (u joint) (z joint)
  finds_old literal joint e =
      finds_filled old x literal (u joint) (z joint) (parts joint e)
      (subst (λ t. length t ≤ length (u joint)) (old_literals joint) (lead_is joint e).first)

  finds_new : AreLiteral new → (joint : Bool) → is_joint old new a b ≡ joint
      → FindsSame new (u joint) (z joint)
  finds_new literal joint e =
      finds_filled new x literal (u joint) (z joint) (parts joint e)
      (subst (λ t. length t ≤ length (u joint)) (new_literals joint e) (lead_is joint e).second)

  pub record IsFilled (joint : Bool) : Type 0 where
    pub technology : technology_of old (filled joint) ≡ a
    pub set : set_of old new (filled joint) ≡ set_of old new x
    pub size : length (filled joint) ≡ length x
    pub shorter : length (z joint) ≤ length x
    pub dialled : IsDialled x → IsDialled (filled joint)

  pub is_filled : AreLiteral old → AreLiteral new → (joint : Bool)
      → is_joint old new a b ≡ joint → IsFilled joint
  is_filled old_literal new_literal joint e =
      let f = finds_old old_literal joint e in
      let g = finds_new new_literal joint e in
      let cut = length-drop (length (u joint)) x in
      let same : set_of old new (filled joint) ≡ set_of old new (u joint ++ z joint) =
      λ i. set_by (is_joint old new (f.technology i) (g.technology i))
      (f.technology i) (g.technology i) (f.pattern i) (g.pattern i) in
      record {
        technology = f.technology ∙ ap (technology_of old) (sym (parts joint e));
        set = same ∙ ap (set_of old new) (sym (parts joint e));
        size = same_size (u joint) (z joint) ∙ ap length (sym (parts joint e));
        shorter = omega (arith, cut);
        dialled = λ h. filled_dialled (u joint) (z joint) (subst IsDialled (parts joint e) h);
      }

  -- ---- of the joint group: what follows the technology prefix
  abbrev pub stem : List ℕ
  stem = (shape_of (set_if true)).literals

  pub sizes : (count : ℕ)
      → length (starred (u true) count) ≡ length (text_of a) + length (starred stem count)
  sizes count =
      ap length (stars_after (text_of a) stem count)
      ∙ length-append (text_of a) (starred stem count)

  module _ (old_literal : AreLiteral old) (new_literal : AreLiteral new)
      (e : is_joint old new a b ≡ true) where
    both : AreJoint old new a b
    both = are_joint old new a b e

    pub old_after : (count : ℕ) → technology_of old (starred (u true) count) ≡ a
    old_after =
        finds_after old x old_literal (u true) (z true) (parts true e)
        (subst (λ t. length t ≤ length (u true)) (old_literals true) (lead_is true e).first)

    new_after : (count : ℕ) → technology_of new (starred (u true) count) ≡ b
    new_after =
        finds_after new x new_literal (u true) (z true) (parts true e)
        (subst (λ t. length t ≤ length (u true)) (new_literals true e) (lead_is true e).second)

    old_rest : (count : ℕ)
        → pattern_used old (starred (u true) count) ≡ rest_row old (starred stem count)
    old_rest count = used_after old a stem count (old_after count) both.old_stays

    new_rest : (count : ℕ)
        → pattern_used new (starred (u true) count) ≡ rest_row new (starred stem count)
    new_rest count =
        used_after new a stem count (new_after count ∙ sym both.same)
        (ap (hopoff_of new) both.same ∙ both.new_stays)

    -- it is looked up as in these digits
    pub rest_rows : (rest_row old (starred stem (length (z true))) ≡ p)
        × (rest_row new (starred stem (length (z true))) ≡ q)
    rest_rows = (
      sym (old_rest (length (z true))) ∙ (finds_old old_literal true e).pattern
          ∙ ap (pattern_used old) (sym (parts true e)),
      sym (new_rest (length (z true))) ∙ (finds_new new_literal true e).pattern
          ∙ ap (pattern_used new) (sym (parts true e)),
    )

    -- with another number of stars they are digits of the set if it is looked up alike
    pub set_after : (count : ℕ) → rest_row old (starred stem count) ≡ p
        → rest_row new (starred stem count) ≡ q
        → set_of old new (starred (u true) count) ≡ set_if true
    set_after count f g =
        let s = old_after count in
        let t = new_after count in
        let h = old_rest count ∙ f in
        let k = new_rest count ∙ g in
        let same : set_of old new (starred (u true) count) ≡ set_if (is_joint old new a b) =
        λ i. set_by (is_joint old new (s i) (t i)) (s i) (t i) (h i) (k i) in
        same ∙ ap set_if e

-- ---- one length without a star
-- how many characters digits have at least after the technology prefix of the joint group
abbrev old_least : NumberSet → ℕ
old_least set = least_count (whole set.old_technology set.old_row)

abbrev new_least : NumberSet → ℕ
new_least set = least_count (whole set.new_technology set.new_row)

none_less : (n : ℕ) → n - 0 ≡ n
none_less n = omega arith

plain_of : (technology other : Option (List ℕ)) (row : Option PatternParts)
    → (whole technology row).star ≡ false → (whole other row).star ≡ false
plain_of technology other None h = h
plain_of technology other (Some pattern) h = h

module _ (old new : List Command) (x : List ℕ) where
  -- a row without a star says how many
  one_by : (commands : List Command) (pattern : PatternParts)
      → pattern_used commands x ≡ Some pattern → pattern.star ≡ false
      → length x ≡ least_count (whole (technology_of commands x) (Some pattern))
  one_by commands pattern e plain =
      let f = one_length commands x pattern e plain in
      let g = found_within commands x (technology_of commands x) refl in
      let h = length-append (text_of (technology_of commands x)) pattern.literals in
      let k = text_length commands x (technology_of commands x) in
      omega (arith, f, g, h, k)

  old_one : (joint : Bool) → is_joint old new (a old new x) (b old new x) ≡ joint
      → (row : Option PatternParts) → pattern_used old x ≡ row
      → (whole (a old new x) row).star ≡ false
      → length_after old (set_if old new x joint, x) ≡ old_least (set_if old new x joint)
  old_one joint e None f plain = absurd (true≢false plain)
  old_one true e (Some pattern) f plain =
      let k = text_length old x (technology_of old x) in
      let one = one_length old x pattern f plain in
      (let is : length x - length (text_of (technology_of old x)) ≡ least_count pattern =
      omega (arith, k, one) in is)
      ∙ ap (λ row. least_count (whole None row)) (sym f)
  old_one false e (Some pattern) f plain =
      ap (λ front. length x - length front) (front_is old new x false e)
      ∙ none_less (length x) ∙ one_by old pattern f plain
      ∙ ap (λ row. least_count (whole (technology_of old x) row)) (sym f)

  new_one : (joint : Bool) → is_joint old new (a old new x) (b old new x) ≡ joint
      → (row : Option PatternParts) → pattern_used new x ≡ row
      → (whole (b old new x) row).star ≡ false
      → length_after old (set_if old new x joint, x) ≡ new_least (set_if old new x joint)
  new_one joint e None f plain = absurd (true≢false plain)
  new_one true e (Some pattern) f plain =
      let k = text_length new x (technology_of new x) in
      let one = one_length new x pattern f plain in
      ap (λ t. length x - length (text_of t))
      (are_joint old new (technology_of old x) (technology_of new x) e).same
      ∙ (let is : length x - length (text_of (technology_of new x)) ≡ least_count pattern =
      omega (arith, k, one) in is)
      ∙ ap (λ row. least_count (whole None row)) (sym f)
  new_one false e (Some pattern) f plain =
      ap (λ front. length x - length front) (front_is old new x false e)
      ∙ none_less (length x) ∙ one_by new pattern f plain
      ∙ ap (λ row. least_count (whole (technology_of new x) row)) (sym f)

  -- so what a set without a star says of its digits
  old_told : (set : NumberSet) → set_of old new x ≡ set
      → (whole set.old_technology set.old_row).star ≡ false
      → length_after old (set, x) ≡ old_least set
  old_told set e plain =
      subst (λ (s : NumberSet). (whole s.old_technology s.old_row).star ≡ false
      → length_after old (s, x) ≡ old_least s) e
      (λ h. old_one (is_joint old new (a old new x) (b old new x)) refl
      (pattern_used old x) refl
      (plain_in (is_joint old new (a old new x) (b old new x)) h)) plain
    where
      plain_in : (joint : Bool)
          → (whole (set_if old new x joint).old_technology (set_if old new x joint).old_row).star
          ≡ false
          → (whole (a old new x) (pattern_used old x)).star ≡ false
      plain_in true h = plain_of None (a old new x) (pattern_used old x) h
      plain_in false h = h

  new_told : (set : NumberSet) → set_of old new x ≡ set
      → (whole set.new_technology set.new_row).star ≡ false
      → length_after old (set, x) ≡ new_least set
  new_told set e plain =
      subst (λ (s : NumberSet). (whole s.new_technology s.new_row).star ≡ false
      → length_after old (s, x) ≡ new_least s) e
      (λ h. new_one (is_joint old new (a old new x) (b old new x)) refl
      (pattern_used new x) refl
      (plain_in (is_joint old new (a old new x) (b old new x)) h)) plain
    where
      plain_in : (joint : Bool)
          → (whole (set_if old new x joint).new_technology (set_if old new x joint).new_row).star
          ≡ false
          → (whole (b old new x) (pattern_used new x)).star ≡ false
      plain_in true h = plain_of None (b old new x) (pattern_used new x) h
      plain_in false h = h

-- digits of one set have one length if it has no star
pub alike_without_star : (old new : List Command) (set : NumberSet) (x y : List ℕ)
    → set_of old new x ≡ set → set_of old new y ≡ set → (shape_of set).star ≡ false
    → length_after old (set, x) ≡ length_after old (set, y)
alike_without_star old new set x y e f plain =
    by (whole set.old_technology set.old_row).star refl
    (whole set.new_technology set.new_row).star refl plain
  where
    by : (s : Bool) → (whole set.old_technology set.old_row).star ≡ s
        → (t : Bool) → (whole set.new_technology set.new_row).star ≡ t → (s && t) ≡ false
        → length_after old (set, x) ≡ length_after old (set, y)
    by false g t h k = old_told old new x set e g ∙ sym (old_told old new y set f g)
    by true g false h k = new_told old new x set e h ∙ sym (new_told old new y set f h)
    by true g true h k = absurd (true≢false k)

-- ---- the technology prefixes of the joint group
later : (c d : Bool) → d ≡ true → (c || d) ≡ true
later true d h = refl
later false d h = h

among_last : (list : List (List ℕ)) (prefix : List ℕ)
    → list_any (bytes_eq prefix) (list ++ prefix ∷ []) ≡ true
among_last [] prefix =
    ap (λ t. t || false) ((bytes_eq-Decides prefix prefix).1 refl)
among_last (one ∷ list) prefix =
    later (bytes_eq prefix one) (list_any (bytes_eq prefix) (list ++ prefix ∷ []))
    (among_last list prefix)

among_more : (list more : List (List ℕ)) (prefix : List ℕ)
    → list_any (bytes_eq prefix) list ≡ true → list_any (bytes_eq prefix) (list ++ more) ≡ true
among_more [] more prefix h = absurd (true≢false (sym h))
among_more (one ∷ list) more prefix h =
    by (bytes_eq prefix one) h (among_more list more prefix)
  where
    by : (t : Bool) → (t || list_any (bytes_eq prefix) list) ≡ true
        → (list_any (bytes_eq prefix) list ≡ true
        → list_any (bytes_eq prefix) (list ++ more) ≡ true)
        → (t || list_any (bytes_eq prefix) (list ++ more)) ≡ true
    by true g rest = refl
    by false g rest = rest g

module _ (old new : List Command) (prefix : List ℕ) where
  abbrev is_there : List (List ℕ) → Bool
  is_there list = list_any (bytes_eq prefix) list

  stays_there : (list : List (List ℕ)) (next : Option (List ℕ)) → is_there list ≡ true
      → is_there (with_shared old new list next) ≡ true
  stays_there list None h = h
  stays_there list (Some other) h = by (is_next old new list other)
    where
      by : (t : Bool) → is_there (cond t (list ++ other ∷ []) list) ≡ true
      by true = among_more list (other ∷ []) prefix h
      by false = h

  abbrev all_shared : List (List ℕ) → List Command → List (List ℕ)
  all_shared list commands =
      fold (λ so_far command. with_shared old new so_far (prefix_in command)) list commands

  stay_there : (commands : List Command) (list : List (List ℕ)) → is_there list ≡ true
      → is_there (all_shared list commands) ≡ true
  stay_there [] list h = h
  stay_there (command ∷ commands) list h =
      stay_there commands (with_shared old new list (prefix_in command))
      (stays_there list (prefix_in command) h)

  comes_there : (list : List (List ℕ)) (other : List ℕ) → other ≡ prefix
      → is_shared old new prefix ≡ true
      → is_there (with_shared old new list (Some other)) ≡ true
  comes_there list other e shared =
      subst (λ t. is_there (with_shared old new list (Some t)) ≡ true) (sym e)
      (by (is_there list) refl)
    where
      by : (t : Bool) → is_there list ≡ t
          → is_there (with_shared old new list (Some prefix)) ≡ true
      by true f = stays_there list (Some prefix) f
      by false f =
          let next : is_next old new list prefix ≡ true = λ i. not (f i) && shared i in
          ap (λ t. is_there (cond t (list ++ prefix ∷ []) list)) next ∙ among_last list prefix

  abbrev ends_there : List (List ℕ) → Command → List Command → Bool
  ends_there list command commands =
      is_there (all_shared (with_shared old new list (prefix_in command)) commands)

  come_there : (commands : List Command) (list : List (List ℕ))
      → is_among (prefixes_of commands) prefix ≡ true → is_shared old new prefix ≡ true
      → is_there (all_shared list commands) ≡ true
  come_there [] list there shared = absurd (true≢false (sym there))
  come_there (command ∷ commands) list there shared =
      by (prefix_in command) refl there
      (λ h. come_there commands (with_shared old new list (prefix_in command)) h shared)
    where
      one : (other : List ℕ) → prefix_in command ≡ Some other → (t : Bool)
          → bytes_eq other prefix ≡ t
          → (t || is_among (prefixes_of commands) prefix) ≡ true
          → (is_among (prefixes_of commands) prefix ≡ true
          → ends_there list command commands ≡ true)
          → ends_there list command commands ≡ true
      one other e true f h rest =
          stay_there commands (with_shared old new list (prefix_in command))
          (ap (λ o. is_there (with_shared old new list o)) e
          ∙ comes_there list other ((bytes_eq-Decides other prefix).0 f) shared)
      one other e false f h rest = rest h

      by : (o : Option (List ℕ)) → prefix_in command ≡ o
          → is_among (cons_option o (prefixes_of commands)) prefix ≡ true
          → (is_among (prefixes_of commands) prefix ≡ true
          → ends_there list command commands ≡ true)
          → ends_there list command commands ≡ true
      by None e h rest = rest h
      by (Some other) e h rest = one other e (bytes_eq other prefix) refl h rest

  any_there : (test : List ℕ → Bool) (list : List (List ℕ)) → is_there list ≡ true
      → test prefix ≡ true → list_any test list ≡ true
  any_there test [] h passes = absurd (true≢false (sym h))
  any_there test (one ∷ list) h passes =
      by (bytes_eq prefix one) refl h (λ g. any_there test list g passes)
    where
      by : (t : Bool) → bytes_eq prefix one ≡ t → (t || is_there list) ≡ true
          → (is_there list ≡ true → list_any test list ≡ true)
          → (test one || list_any test list) ≡ true
      by true e g rest =
          ap (λ t. t || list_any test list)
          (ap test (sym ((bytes_eq-Decides prefix one).0 e)) ∙ passes)
      by false e g rest = later (test one) (list_any test list) (rest g)

-- the technology prefix that both find, and that hops off in neither, is one of them
takes_it_off : (commands : List Command) (x prefix : List ℕ)
    → technology_of commands x ≡ Some prefix → hopoff_of commands (Some prefix) ≡ None
    → takes_off commands prefix ≡ true
takes_it_off commands x prefix e stays =
    and_from (option_eq bytes_eq (technology_of commands prefix) (Some prefix))
    (not (hops_off commands (Some prefix)))
    (ap (λ o. option_eq bytes_eq o (Some prefix)) found_itself
    ∙ (bytes_eq-Decides prefix prefix).1 refl)
    (ap (λ o. not (is_some o)) stays)
  where
    is : IsLongestOf (prefixes_of commands) x prefix
    is = is_longest (prefixes_of commands) x prefix e

    found_itself : technology_of commands prefix ≡ Some prefix
    found_itself = longest_from (prefixes_of commands) prefix prefix (record {
      listed = is.listed;
      begins = ap (λ t. begins t prefix) (sym (append-nil prefix)) ∙ begins_itself prefix [];
      longest = λ other there h. begins_within prefix other h;
    })

pub any_shared : (old new : List Command) (x prefix : List ℕ) (test : List ℕ → Bool)
    → technology_of old x ≡ Some prefix
    → is_joint old new (technology_of old x) (technology_of new x) ≡ true
    → test prefix ≡ true → list_any test (shared_prefixes old new) ≡ true
any_shared old new x prefix test e joint passes =
    any_there old new prefix test (shared_prefixes old new)
    (come_there old new prefix old []
    (is_longest (prefixes_of old) x prefix e).listed
    (and_from (takes_off old prefix) (takes_off new prefix)
    (takes_it_off old x prefix e (ap (hopoff_of old) (sym e) ∙ both.old_stays))
    (takes_it_off new x prefix (sym both.same ∙ e)
    (ap (hopoff_of new) (sym e ∙ both.same) ∙ both.new_stays)))) passes
  where
    both : AreJoint old new (technology_of old x) (technology_of new x)
    both = are_joint old new (technology_of old x) (technology_of new x) joint
