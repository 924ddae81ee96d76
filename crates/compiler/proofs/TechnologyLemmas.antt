-- The longest technology prefix: by trying lengths, and as it is defined.
use Rattle.std.proofs.Common.{◌≡◌, ℕ, zero, suc, ◌||◌, ◌&&◌, ◌+◌, ◌<◌, ◌≤◌, Bool, true, false, cond, nat_lt, nat_le, List, [], ◌∷◌, length, take, filter, slice_get, refl, sym, ap, subst, ◌∙◌, arith, true≢false}
use Rattle.std.specs.Prelude.{min, Option, Some, None, option_map, is_some, bytes_eq}
use Rattle.std.specs.Option.{option_map_or}
use Rattle.std.specs.List.{list_all, prefix_len}
use Rattle.std.specs.Cmp.Lexicographic.{same_text}
use Rattle.std.proofs.lemmas.Bool.Decides.{nat_tests}
use Rattle.std.proofs.lemmas.Cmp.{nat_list_eq_equiv}
use Rattle.std.proofs.lemmas.List.{length-take}
use Rattle.std.proofs.lemmas.List.Folds.{Any-from_list_any}
use Rattle.gk_terms.specs.Choice.{first_unbeaten}
use Rattle.gk_terms.specs.TechPrefix.{is_technology_byte, is_tech_prefix}
use Rattle.gk_terms.proofs.ChoiceLemmas.{first_unbeaten-IsFirstUnbeaten, first_unbeaten-none, IsRankOrder-by}
use Rattle.gk_commands.specs.declared.commands.Command.{Command}
use Rattle.compiler.specs.Technology.{prefixes_of, begins_with, is_longer, technology_of}
use Rattle.compiler.specs.TablesIndex.{Zones, Technologies, technology_at, is_among, AreTechnologies, AreWithin, IsFoundTechnology, IsLongest}

-- ---- texts that may be prefixes
pub front_passes : (p : ℕ → Bool) (count : ℕ) (text : List ℕ) → count ≤ prefix_len p text
    → list_all p (take count text) ≡ true
front_passes p zero text h = refl
front_passes p (suc count) [] h = refl
front_passes p (suc count) (x ∷ text) h = by (p x) h (front_passes p count text)
  where
    by : (t : Bool) → suc count ≤ cond t (1 + prefix_len p text) 0
        → (count ≤ prefix_len p text → list_all p (take count text) ≡ true)
        → (t && list_all p (take count text)) ≡ true
    by true f rest = rest (omega arith)
    by false f rest = absurd (omega arith)

past_front : (p : ℕ → Bool) (count : ℕ) (text : List ℕ) → prefix_len p text < count
    → count ≤ length text → list_all p (take count text) ≡ false
past_front p zero text h within = absurd (omega arith)
past_front p (suc count) [] h within = absurd (omega arith)
past_front p (suc count) (x ∷ text) h within = by (p x) h (past_front p count text)
  where
    by : (t : Bool) → cond t (1 + prefix_len p text) 0 < suc count
        → (prefix_len p text < count → count ≤ length text → list_all p (take count text) ≡ false)
        → (t && list_all p (take count text)) ≡ false
    by true f rest = rest (omega arith) (omega arith)
    by false f rest = refl

pub length_take : (count : ℕ) (text : List ℕ) → count ≤ length text
    → length (take count text) ≡ count
length_take zero text h = refl
length_take (suc count) [] h = absurd (omega arith)
length_take (suc count) (x ∷ text) h =
    let rest : count ≤ length text = omega arith in ap suc (length_take count text rest)

-- the longest beginning of the text that may be a prefix has this length
pub record IsMost (text : List ℕ) (most : ℕ) : Type 0 where
  pub front : most ≤ prefix_len is_technology_byte text
  pub few : most ≤ 11
  pub whole : prefix_len is_technology_byte text ≤ length text
  pub least : (count : ℕ) → count ≤ prefix_len is_technology_byte text → count ≤ 11 → count ≤ most

pub most_is : (text : List ℕ) (counted most : ℕ) → counted ≡ prefix_len is_technology_byte text
    → counted ≤ length text → most ≡ min counted 11 → IsMost text most
most_is text counted most e within f = record {
  front = omega (arith, e, f);
  few = omega (arith, f);
  whole = omega (arith, e, within);
  least = λ count a b. omega (arith, e, f);
}

module _ (text : List ℕ) (most : ℕ) (h : IsMost text most) where
  -- up to this length a beginning of the text may be a prefix
  pub may_be_prefix : (count : ℕ) → 1 ≤ count → count ≤ most → is_tech_prefix (take count text)
      ≡ true
  may_be_prefix count some within =
      let fits : count ≤ length text = omega (arith, h.front, h.whole) in
      let size = length_take count text fits in
      let all = front_passes is_technology_byte count text (omega (arith, h.front)) in
      let short : count ≤ 11 = omega (arith, h.few) in
      by (length (take count text))
      (list_all is_technology_byte (take count text)) size all some short
    where
      by : (n : ℕ) (t : Bool) → n ≡ count → t ≡ true → 1 ≤ count → count ≤ 11
          → (nat_le 1 n && nat_le n 11 && t) ≡ true
      by n t e f low high = grind (arith, nat_tests)

  -- a longer one may not
  pub may_not_be_prefix : (count : ℕ) → most < count → count ≤ length text
      → is_tech_prefix (take count text) ≡ false
  may_not_be_prefix count past within =
      by (nat_le count 11) refl
    where
      size : length (take count text) ≡ count
      size = length_take count text within

      too_long : (n : ℕ) (t : Bool) → n ≡ count → 11 < count → (nat_le 1 n && nat_le n 11 && t)
          ≡ false
      too_long n t e f = grind (arith, nat_tests)

      wrong : (a b t : Bool) → t ≡ false → (a && b && t) ≡ false
      wrong true true t e = e
      wrong true false t e = refl
      wrong false b t e = refl

      by : (t : Bool) → nat_le count 11 ≡ t → is_tech_prefix (take count text) ≡ false
      by true e =
          let short : count ≤ 11 = grind (arith, nat_tests) in
          let not_front : prefix_len is_technology_byte text < count =
          not_below (h.least count) short in
          wrong (nat_le 1 (length (take count text))) (nat_le (length (take count text)) 11)
          (list_all is_technology_byte (take count text))
          (past_front is_technology_byte count text not_front within)
        where
          not_below : (count ≤ prefix_len is_technology_byte text → count ≤ 11 → count ≤ most)
              → count ≤ 11 → prefix_len is_technology_byte text < count
          not_below f short = cases (nat_le count (prefix_len is_technology_byte text)) refl
            where
              cases : (t : Bool) → nat_le count (prefix_len is_technology_byte text) ≡ t
                  → prefix_len is_technology_byte text < count
              cases true g =
                  let le : count ≤ prefix_len is_technology_byte text = grind (arith, nat_tests) in
                  let le2 : count ≤ most = f le short in absurd (omega arith)
              cases false g = grind (arith, nat_tests)
      by false e =
          let long : 11 < count = grind (arith, nat_tests) in
          too_long (length (take count text))
          (list_all is_technology_byte (take count text)) size long

-- nothing is kept for a text that is no prefix
pub not_kept : (technologies : Technologies) (text : List ℕ)
    → ((prefix : List ℕ) → is_some (technology_at technologies prefix) ≡ true
    → is_tech_prefix prefix ≡ true)
    → is_tech_prefix text ≡ false → technology_at technologies text ≡ None
not_kept technologies text texts h = by (technology_at technologies text) refl
  where
    by : (o : Option (Option ℕ)) → technology_at technologies text ≡ o
        → technology_at technologies text ≡ None
    by None e = e
    by (Some hopoff) e = absurd (true≢false (sym (texts text (ap is_some e)) ∙ h))

module _ (technologies : Technologies) (text : List ℕ) (most : ℕ) (h : IsMost text most)
    (texts : (prefix : List ℕ) → is_some (technology_at technologies prefix) ≡ true
    → is_tech_prefix prefix ≡ true) where
  -- nothing is kept for a longer beginning
  past_most : (count : ℕ) → most < count → count ≤ length text
      → technology_at technologies (take count text) ≡ None
  past_most count past within =
      not_kept technologies (take count text) texts
      (may_not_be_prefix text most h count past within)

  up_to : (count : ℕ) → count ≤ length text
      → (count ≤ most → technology_at technologies (take count text) ≡ None)
      → technology_at technologies (take count text) ≡ None
  up_to count within tried = by (nat_le count most) refl
    where
      by : (t : Bool) → nat_le count most ≡ t → technology_at technologies (take count text) ≡ None
      by true e = tried (grind (arith, nat_tests))
      by false e = past_most count (grind (arith, nat_tests)) within

  pub found_none : ((count : ℕ) → 1 ≤ count → count ≤ most
      → technology_at technologies (take count text) ≡ None)
      → IsLongest technologies text None
  found_none tried zero within = not_kept technologies [] texts refl
  found_none tried (suc count) within =
      let some : 1 ≤ suc count = omega arith in
      up_to (suc count) within (λ below. tried (suc count) some below)

  pub found_longest : (count : ℕ) (found : List ℕ) (hopoff : Option ℕ)
      → 1 ≤ count → count ≤ most
      → option_map {U = List ℕ × Option ℕ} (λ o. (take count text, o))
      (technology_at technologies (take count text)) ≡ Some (found, hopoff)
      → ((longer : ℕ) → count < longer → longer ≤ most
      → technology_at technologies (take longer text) ≡ None)
      → IsFoundTechnology technologies text found hopoff
  found_longest count found hopoff some within here tried =
      by (technology_at technologies (take count text)) refl here
    where
      fits : count ≤ length text
      fits = omega (arith, h.front, h.whole)

      by : (o : Option (Option ℕ)) → technology_at technologies (take count text) ≡ o
          → option_map {U = List ℕ × Option ℕ} (λ hop. (take count text, hop)) o
          ≡ Some (found, hopoff)
          → IsFoundTechnology technologies text found hopoff
      by None e g = cc
      by (Some hop) e g =
          let text_is : take count text ≡ found =
          ap (λ (o : Option (List ℕ × Option ℕ)). option_map_or (λ pair. pair.0) o found) g in
          let hop_is : hop ≡ hopoff =
          ap (λ (o : Option (List ℕ × Option ℕ)). option_map_or (λ pair. pair.1) o hopoff) g in
          let size : length found ≡ count = ap length (sym text_is) ∙ length_take count text fits in
          record {
            within = omega (arith, fits);
            begins = sym text_is ∙ ap (λ n. take n text) (sym size);
            kept = ap (technology_at technologies) (sym text_is) ∙ e ∙ ap (λ o. Some o) hop_is;
            longest = λ longer past all. up_to longer all
                (λ below. tried longer (omega arith) below);
          }

-- ---- how long a prefix is
pub within_more : (old new : Technologies) (prefix : List ℕ) (hopoff : Option ℕ)
    (longest longer : ℕ)
    → AreWithin longest old
    → ((other : List ℕ) → technology_at new other
    ≡ cond (bytes_eq prefix other) (Some hopoff) (technology_at old other))
    → longest ≤ longer → length prefix ≤ longer → AreWithin longer new
within_more old new prefix hopoff longest longer within changed more fits other there =
    by (bytes_eq prefix other) refl
  where
    by : (same : Bool) → bytes_eq prefix other ≡ same → length other ≤ longer
    by true e = subst (λ text. length text ≤ longer) (same_text prefix other (sym e)) fits
    by false e =
        let before : is_some (technology_at old other) ≡ true =
        ap is_some (sym (changed other
        ∙ ap (λ t. cond t (Some hopoff) (technology_at old other)) e)) ∙ there in
        let short = within other before in
        omega (arith, short, more)

-- ---- the longest of the declared prefixes
-- what a filter keeps passes, and is among all
pub in_filter : (f : List ℕ → Bool) (xs : List (List ℕ)) (place : ℕ) (q : List ℕ)
    → slice_get (filter f xs) place ≡ Some q → (f q ≡ true) × (is_among xs q ≡ true)
in_filter f [] place q h = cc
in_filter f (x ∷ xs) place q h = by (f x) refl place (in_filter f xs) h
  where
    later : (t b : Bool) → b ≡ true → (t || b) ≡ true
    later true b e = refl
    later false b e = e

    by : (t : Bool) → f x ≡ t → (at : ℕ)
        → ((k : ℕ) (r : List ℕ) → slice_get (filter f xs) k ≡ Some r → (f r ≡ true)
        × (is_among xs r ≡ true))
        → slice_get (cond t (x ∷ filter f xs) (filter f xs)) at ≡ Some q
        → (f q ≡ true) × (is_among (x ∷ xs) q ≡ true)
    by true e zero rest g =
        let same : x ≡ q = cc in (
          ap f (sym same) ∙ e,
          ap (λ t. t || is_among xs q)
              (ap (bytes_eq x) (sym same) ∙ nat_list_eq_equiv.refl x),
        )
    by true e (suc at) rest g =
        let r = rest at q g in (r.0, later (bytes_eq x q) (is_among xs q) r.1)
    by false e at rest g =
        let r = rest at q g in (r.0, later (bytes_eq x q) (is_among xs q) r.1)

-- what passes and is among all is among those that a filter keeps
pub filter_keeps : (f : List ℕ → Bool) (xs : List (List ℕ)) (q : List ℕ)
    → is_among xs q ≡ true → f q ≡ true → is_among (filter f xs) q ≡ true
filter_keeps f [] q h pass = h
filter_keeps f (x ∷ xs) q h pass =
    by (f x) refl (bytes_eq x q) refl (λ g. filter_keeps f xs q g pass) h
  where
    later : (t b : Bool) → b ≡ true → (t || b) ≡ true
    later true b e = refl
    later false b e = e

    by : (t : Bool) → f x ≡ t → (s : Bool) → bytes_eq x q ≡ s
        → (is_among xs q ≡ true → is_among (filter f xs) q ≡ true)
        → (s || is_among xs q) ≡ true
        → is_among (cond t (x ∷ filter f xs) (filter f xs)) q ≡ true
    by true e true i rest g = ap (λ t. t || is_among (filter f xs) q) i
    by true e false i rest g = later (bytes_eq x q) (is_among (filter f xs) q) (rest g)
    by false e true i rest g =
        absurd (true≢false (sym pass ∙ ap f (sym (same_text x q (sym i))) ∙ e))
    by false e false i rest g = rest g

-- digits begin with what they begin with
pub begins_from : (digits prefix : List ℕ) → prefix ≡ take (length prefix) digits
    → begins_with digits prefix ≡ true
begins_from digits prefix h = ap (bytes_eq prefix) (sym h) ∙ nat_list_eq_equiv.refl prefix

pub begins_is : (digits prefix : List ℕ) → begins_with digits prefix ≡ true
    → prefix ≡ take (length prefix) digits
begins_is digits prefix h = same_text prefix (take (length prefix) digits) (sym h)

pub begins_within : (digits prefix : List ℕ) → begins_with digits prefix ≡ true
    → length prefix ≤ length digits
begins_within digits prefix h =
    let e : length prefix ≡ min (length prefix) (length digits) =
    ap length (begins_is digits prefix h) ∙ length-take (length prefix) digits in
    omega (arith, e)

module _ (zones : Zones) (commands : List Command) (technologies : Technologies)
    (kept : AreTechnologies zones commands technologies) (digits : List ℕ) where
  abbrev beginnings : List (List ℕ)
  beginnings = filter (begins_with digits) (prefixes_of commands)

  -- a declared beginning is kept
  kept_beginning : (place : ℕ) (q : List ℕ) → slice_get beginnings place ≡ Some q
      → is_some (technology_at technologies (take (length q) digits)) ≡ true
  kept_beginning place q h =
      let r = in_filter (begins_with digits) (prefixes_of commands) place q h in
      ap (λ t. is_some (technology_at technologies t)) (sym (begins_is digits q r.0))
      ∙ kept.declared q ∙ r.1

  not_none : (text : List ℕ) → is_some (technology_at technologies text) ≡ true
      → technology_at technologies text ≡ None → ⊥
  not_none text h none = true≢false (sym h ∙ ap is_some none)

  pub longest_none : IsLongest technologies digits None → technology_of commands digits ≡ None
  longest_none h = by (first_unbeaten is_longer beginnings) refl
    where
      by : (o : Option (List ℕ)) → first_unbeaten is_longer beginnings ≡ o
          → first_unbeaten is_longer beginnings ≡ None
      by None e = e
      by (Some q) e =
          let first = first_unbeaten-IsFirstUnbeaten is_longer beginnings q e in
          let r = in_filter (begins_with digits)
          (prefixes_of commands) first.place q first.stands in
          absurd (not_none (take (length q) digits) (kept_beginning first.place q first.stands)
          (h (length q) (begins_within digits q r.0)))

  pub longest_some : (found : List ℕ) (hopoff : Option ℕ) → IsFoundTechnology technologies digits
      found hopoff
      → technology_of commands digits ≡ Some found
  longest_some found hopoff h = by (first_unbeaten is_longer beginnings) refl
    where
      there : is_among beginnings found ≡ true
      there =
          filter_keeps (begins_with digits) (prefixes_of commands) found
          (sym (kept.declared found) ∙ ap is_some h.kept) (begins_from digits found h.begins)

      by : (o : Option (List ℕ)) → first_unbeaten is_longer beginnings ≡ o
          → first_unbeaten is_longer beginnings ≡ Some found
      by None e =
          let empty = first_unbeaten-none is_longer (IsRankOrder-by length) beginnings e in
          absurd (true≢false (sym there ∙ ap (λ xs. is_among xs found) empty))
      by (Some q) e =
          let first = first_unbeaten-IsFirstUnbeaten is_longer beginnings q e in
          let r = in_filter (begins_with digits)
          (prefixes_of commands) first.place q first.stands in
          let other = Any-from_list_any (λ one. bytes_eq one found) beginnings there in
          let same : other.1 ≡ found = same_text other.1 found (sym other.4) in
          let unbeaten : is_longer other.1 q ≡ false =
          ap (λ x. is_longer x q) (sym other.3) ∙ first.unbeaten other.0 other.1 other.2 in
          let low : nat_lt (length q) (length found) ≡ false =
          ap (λ x. is_longer x q) (sym same) ∙ unbeaten in
          cases (nat_lt (length found) (length q)) refl low
        where
          cases : (t : Bool) → nat_lt (length found) (length q) ≡ t
              → nat_lt (length q) (length found) ≡ false
              → first_unbeaten is_longer beginnings ≡ Some found
          cases true f low =
              let first = first_unbeaten-IsFirstUnbeaten is_longer beginnings q e in
              let r = in_filter (begins_with digits)
              (prefixes_of commands) first.place q first.stands in
              let longer : length found < length q = grind (arith, nat_tests) in
              absurd (not_none (take (length q) digits) (kept_beginning first.place q first.stands)
              (h.longest (length q) longer (begins_within digits q r.0)))
          cases false f low =
              let first = first_unbeaten-IsFirstUnbeaten is_longer beginnings q e in
              let r = in_filter (begins_with digits)
              (prefixes_of commands) first.place q first.stands in
              let size : length q ≡ length found = grind (arith, nat_tests) in
              e ∙ ap (λ text. Some text)
              (begins_is digits q r.0 ∙ ap (λ n. take n digits) size ∙ sym h.begins)
