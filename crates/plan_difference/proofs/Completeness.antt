-- The set of all dialled digits is found.
use Rattle.std.proofs.Common.{◌≡◌, ℕ, zero, suc, ◌==◌, ◌&&◌, ◌||◌, ◌+◌, ◌<◌, ◌≤◌, ◌⊎◌, inl, inr, Bool, true, false, cond, nat_lt, nat_le, List, [], ◌∷◌, ◌++◌, length, length-append, drop, tests, take-append-drop, append_assoc, append-nil, slice_get, refl, sym, ap, subst, ◌∙◌, arith, true≢false}
use Rattle.std.specs.Prelude.{Option, Some, None, option_map, is_some, replicate, bytes_eq, unwrap_or}
use Rattle.std.specs.List.{list_all, starts_with, filter}
use Rattle.std.specs.Cmp.Lexicographic.{same_text}
use Rattle.std.proofs.lemmas.Bool.{and_parts, eqb-true}
use Rattle.std.proofs.lemmas.Bool.Decides.{nat_tests}
use Rattle.std.proofs.lemmas.Slice.Eq.{bytes_eq-Decides}
use Rattle.std.proofs.lemmas.List.{length-replicate}
use Rattle.std.proofs.lemmas.List.Folds.{list_any-append}
use Rattle.gk_terms.specs.Dialled.{IsDialled, is_dialled_byte}
use Rattle.digit_patterns.specs.PatternParts.{PatternParts}
use Rattle.gk_commands.specs.declared.commands.Command.{Command}
use Rattle.compiler.specs.Rows.{ZoneRow, rows_of, row_for}
use Rattle.compiler.specs.Technology.{technology_of, prefixes_of, longest_beginning, found_length}
use Rattle.compiler.specs.TablesIndex.{is_among}
use Rattle.compiler.proofs.TechnologyLemmas.{begins_is}
use Rattle.compiler.proofs.LearnedLemmas.{is_longest, is_none}
use Rattle.plan_difference.specs.declared.number_sets.NumberSet.{NumberSet}
use Rattle.plan_difference.specs.declared.number_sets.Group.{Group}
use Rattle.plan_difference.specs.Entries.{Entries, IsIn, IsEntered, group_of, group_by}
use Rattle.plan_difference.specs.Sets.{set_of, set_by, is_joint, hops_off, hopoff_of, row_after, pattern_used}
use Rattle.plan_difference.specs.Walk.{starred, text_of, longer_of, Heads, IsPick, Settles, SettlesGroup}
use Rattle.plan_difference.specs.Gathered.{AreGathered, IsSettled, Has, HasPrefixes, HasPatterns, AreLiteral, AreClean, joint, is_joint_head}
use Rattle.plan_difference.proofs.Beginnings.{begins}
use Rattle.plan_difference.proofs.Finding.{declared_within}
use Rattle.plan_difference.proofs.Lookups.{PrefixesStay, LiteralsStay, FindsSame, finds_same, same_technology_found, drop_front}
use Rattle.plan_difference.proofs.Plans.{are_joint}

-- ---- lists
either : (a b : Bool) {P : Type 0} → (a || b) ≡ true → (a ≡ true → P) → (b ≡ true → P) → P
either true b h one two = one refl
either false b h one two = two h

or_later : (a b : Bool) → b ≡ true → (a || b) ≡ true
or_later true b h = refl
or_later false b h = h

pub among_at : (xs : List (List ℕ)) (place : ℕ) (x : List ℕ) → slice_get xs place ≡ Some x
    → is_among xs x ≡ true
among_at [] place x e = absurd (let bad : ⊥ = cc in bad)
among_at (y ∷ ys) zero x e =
    ap (λ t. t || is_among ys x) ((bytes_eq-Decides y x).1 (ap (λ o. unwrap_or o y) e))
among_at (y ∷ ys) (suc place) x e = or_later (bytes_eq y x) (is_among ys x) (among_at ys place x e)

-- ---- what is left of literals after a front
abbrev keys_after : List ℕ → List PatternParts → List (List ℕ)
keys_after front [] = []
keys_after front (pattern ∷ patterns) =
    cond (begins pattern.literals front)
    (drop (length front) pattern.literals ∷ keys_after front patterns) (keys_after front patterns)

begins_parts : (text front : List ℕ) → begins text front ≡ true
    → text ≡ front ++ drop (length front) text
begins_parts text front h =
    sym (take-append-drop (length front) text)
    ∙ ap (λ t. t ++ drop (length front) text) (sym (begins_is text front h))

begins_from_parts : (front rest : List ℕ) → begins (front ++ rest) front ≡ true
begins_from_parts [] rest = refl
begins_from_parts (c ∷ front) rest =
    (λ i. same c i && begins_from_parts front rest i)
  where
    same : (n : ℕ) → (n == n) ≡ true
    same n = search (arith, tests)

drop_all : (front rest : List ℕ) → drop (length front) (front ++ rest) ≡ rest
drop_all [] rest = refl
drop_all (c ∷ front) rest = drop_all front rest

record Key (patterns : List PatternParts) (front key : List ℕ) : Type 0 where
  pub place : ℕ
  pub pattern : PatternParts
  pub stands : slice_get patterns place ≡ Some pattern
  pub parts : pattern.literals ≡ front ++ key

key_from : (front : List ℕ) (patterns : List PatternParts) (key : List ℕ)
    → is_among (keys_after front patterns) key ≡ true → Key patterns front key
key_from front [] key h = absurd (true≢false (sym h))
key_from front (pattern ∷ patterns) key h =
    by (begins pattern.literals front) refl h (key_from front patterns key)
  where
    later : Key patterns front key → Key (pattern ∷ patterns) front key
    later k =
        record { place = suc k.place; pattern = k.pattern; stands = k.stands; parts = k.parts }

    by : (t : Bool) → begins pattern.literals front ≡ t
        → is_among (cond t (drop (length front) pattern.literals ∷ keys_after front patterns)
        (keys_after front patterns)) key ≡ true
        → (is_among (keys_after front patterns) key ≡ true → Key patterns front key)
        → Key (pattern ∷ patterns) front key
    by true e g rest =
        either (bytes_eq (drop (length front) pattern.literals) key)
        (is_among (keys_after front patterns) key) g
        (λ s. record {
          place = 0;
          pattern = pattern;
          stands = refl;
          parts = begins_parts pattern.literals front e
              ∙ ap (λ t. front ++ t) (same_text (drop (length front) pattern.literals) key (sym s));
        })
        (λ s. later (rest s))
    by false e g rest = later (rest g)

key_to : (front : List ℕ) (patterns : List PatternParts) (key : List ℕ) (place : ℕ)
    (pattern : PatternParts) → slice_get patterns place ≡ Some pattern
    → pattern.literals ≡ front ++ key → is_among (keys_after front patterns) key ≡ true
key_to front [] key place pattern at parts = absurd (let bad : ⊥ = cc in bad)
key_to front (first ∷ patterns) key zero pattern at parts =
    let p : first.literals ≡ front ++ key =
    ap (λ o. (unwrap_or o first).literals) at ∙ parts in
    ap (λ t. is_among (cond t (drop (length front) first.literals ∷ keys_after front patterns)
    (keys_after front patterns)) key)
    (ap (λ l. begins l front) p ∙ begins_from_parts front key)
    ∙ ap (λ t. t || is_among (keys_after front patterns) key)
    ((bytes_eq-Decides (drop (length front) first.literals) key).1
    (ap (drop (length front)) p ∙ drop_all front key))
key_to front (first ∷ patterns) key (suc place) pattern at parts =
    by (begins first.literals front) (key_to front patterns key place pattern at parts)
  where
    by : (t : Bool) → is_among (keys_after front patterns) key ≡ true
        → is_among (cond t (drop (length front) first.literals ∷ keys_after front patterns)
        (keys_after front patterns)) key ≡ true
    by true h =
        or_later (bytes_eq (drop (length front) first.literals) key)
        (is_among (keys_after front patterns) key) h
    by false h = h

-- ---- the longest of some keys with which a text begins
record Stem (keys : List (List ℕ)) (rest : List ℕ) : Type 0 where
  pub stem : List ℕ
  pub z : List ℕ
  pub parts : rest ≡ stem ++ z
  pub listed : (stem ≡ []) ⊎ (is_among keys stem ≡ true)
  pub longest : (key : List ℕ) → is_among keys key ≡ true → begins rest key ≡ true
      → length key ≤ length stem

stem_of : (keys : List (List ℕ)) (rest : List ℕ) → Stem keys rest
stem_of keys rest = by (longest_beginning keys rest) refl
  where
    by : (o : Option (List ℕ)) → longest_beginning keys rest ≡ o → Stem keys rest
    by None e = record {
      stem = [];
      z = rest;
      parts = refl;
      listed = inl refl;
      longest = λ key there b. absurd (is_none keys rest e key there b);
    }
    by (Some stem) e =
        let l = is_longest keys rest stem e in
        record {
          stem = stem;
          z = drop (length stem) rest;
          parts = begins_parts rest stem l.begins;
          listed = inr l.listed;
          longest = l.longest;
        }

-- what begins a text is in its front, or goes on from there
record GoesOn (front rest l : List ℕ) : Type 0 where
  pub more : List ℕ
  pub parts : l ≡ front ++ more
  pub begins_rest : begins rest more ≡ true

front_or_more : (front rest l : List ℕ) → begins (front ++ rest) l ≡ true
    → (length l ≤ length front) ⊎ GoesOn front rest l
front_or_more [] rest l h = inr (record { more = l; parts = refl; begins_rest = h })
front_or_more (c ∷ front) rest [] h = inl (omega arith)
front_or_more (c ∷ front) rest (x ∷ l) h =
    by (x == c) refl h (front_or_more front rest l)
  where
    step : (x ≡ c) → (length l ≤ length front) ⊎ GoesOn front rest l
        → (suc (length l) ≤ suc (length front)) ⊎ GoesOn (c ∷ front) rest (x ∷ l)
    step e (inl short) = inl (omega (arith, short))
    step e (inr more) = inr (record {
      more = more.more;
      parts = λ i. e i ∷ more.parts i;
      begins_rest = more.begins_rest;
    })

    by : (t : Bool) → (x == c) ≡ t → (t && begins (front ++ rest) l) ≡ true
        → (begins (front ++ rest) l ≡ true → (length l ≤ length front) ⊎ GoesOn front rest l)
        → (suc (length l) ≤ suc (length front)) ⊎ GoesOn (c ∷ front) rest (x ∷ l)
    by true e g rest' = step (eqb-true x c e) (rest' g)
    by false e g rest' = absurd (true≢false (sym g))

-- ---- dialled digits
pub all_front : (p : ℕ → Bool) (u z : List ℕ) → list_all p (u ++ z) ≡ true → list_all p u ≡ true
all_front p [] z h = refl
all_front p (c ∷ u) z h =
    let a = and_parts (p c) (list_all p (u ++ z)) h in
    λ i. a.0 i && all_front p u z a.1 i

pub all_starred : (p : ℕ → Bool) (u : List ℕ) (count : ℕ) → p 42 ≡ true → list_all p u ≡ true
    → list_all p (starred u count) ≡ true
all_starred p [] count star h = stars count
  where
    stars : (n : ℕ) → list_all p (replicate n 42) ≡ true
    stars zero = refl
    stars (suc n) = λ i. star i && stars n i
all_starred p (c ∷ u) count star h =
    let a = and_parts (p c) (list_all p u) h in
    λ i. a.0 i && all_starred p u count star a.1 i

length_starred : (u z : List ℕ) → length (starred u (length z)) ≡ length (u ++ z)
length_starred u z =
    length-append u (replicate (length z) 42)
    ∙ ap (λ n. length u + n) (length-replicate {A = ℕ} (length z) 42)
    ∙ sym (length-append u z)

dialled_starred : (u z : List ℕ) → IsDialled (u ++ z) → IsDialled (starred u (length z))
dialled_starred u z h =
    let a = and_parts (nat_le 1 (length (u ++ z)) && nat_le (length (u ++ z)) 32)
    (list_all is_dialled_byte (u ++ z)) h in
    let s = length_starred u z in
    λ i. (ap (λ n. nat_le 1 n && nat_le n 32) s ∙ a.0) i
    && all_starred is_dialled_byte u (length z) refl (all_front is_dialled_byte u z a.1) i

few_stars : (u z : List ℕ) → IsDialled (u ++ z) → length z < 33
few_stars u z h =
    let a = and_parts (nat_le 1 (length (u ++ z)) && nat_le (length (u ++ z)) 32)
    (list_all is_dialled_byte (u ++ z)) h in
    by (length (u ++ z)) (length u) (length z) a.0 (length-append u z)
  where
    by : (n m k : ℕ) → (nat_le 1 n && nat_le n 32) ≡ true → n ≡ m + k → k < 33
    by n m k e f = grind (arith, nat_tests)

-- ---- one configuration
-- what is found begins the text
found_begins : (commands : List Command) (digits : List ℕ) (technology : Option (List ℕ))
    → technology_of commands digits ≡ technology
    → digits ≡ text_of technology ++ drop (found_length technology) digits
found_begins commands digits None e = refl
found_begins commands digits (Some prefix) e =
    begins_parts digits prefix (is_longest (prefixes_of commands) digits prefix e).begins

-- no declared prefix that begins the text is longer than this front
prefixes_stay : (commands : List Command) (heads : Heads) → HasPrefixes heads commands
    → AreClean heads → (u z : List ℕ)
    → found_length (technology_of commands (u ++ z)) ≤ length u
    → PrefixesStay (prefixes_of commands) u z
prefixes_stay commands heads there clean u z within = record {
  stay = λ place prefix at.
      let h = there place prefix at in (
        clean h.place prefix h.stands,
        λ b. let low = declared_within commands (u ++ z) (technology_of commands (u ++ z)) refl
            prefix (among_at (prefixes_of commands) place prefix at) b in
            omega (arith, low, within),
      );
}

-- the literals that begin what is left of the text are in its front too
literals_stay : (commands : List Command) (patterns : List PatternParts)
    → HasPatterns patterns commands → AreLiteral patterns
    → (front stem z : List ℕ)
    → ((key : List ℕ) → is_among (keys_after front patterns) key ≡ true
    → begins (stem ++ z) key ≡ true → length key ≤ length stem)
    → LiteralsStay (rows_of commands) (front ++ stem) z
literals_stay commands patterns there literal front stem z longest = record {
  stay = λ place row at.
      let h = there place row at in (
        literal h.place row.0 h.stands,
        λ b. by row h
            (front_or_more front (stem ++ z) row.0.literals
            (ap (λ t. begins t row.0.literals) (sym (append_assoc front stem z)) ∙ b)),
      );
}
  where
    size : length (front ++ stem) ≡ length front + length stem
    size = length-append front stem

    by : (row : ZoneRow) → Has patterns row.0
        → (length row.0.literals ≤ length front) ⊎ GoesOn front (stem ++ z) row.0.literals
        → length row.0.literals ≤ length (front ++ stem)
    by row h (inl short) = omega (arith, short, size)
    by row h (inr more) =
        let key = key_to front patterns more.more h.place row.0 h.stands more.parts in
        let low = longest more.more key more.begins_rest in
        let long : length row.0.literals ≡ length front + length more.more =
        ap length more.parts ∙ length-append front more.more in
        omega (arith, low, long, size)

-- ---- the joint group
-- the set of joint digits with this stem and so many stars
abbrev joint_set : (old new : List Command) → List ℕ → ℕ → NumberSet
joint_set old new stem stars = record {
  old_technology = None;
  new_technology = None;
  old_row = option_map (λ row. row.0) (row_for old (starred stem stars));
  new_row = option_map (λ row. row.0) (row_for new (starred stem stars));
}

longer_of_same : (technology : Option (List ℕ)) → longer_of technology technology ≡ technology
longer_of_same None = refl
longer_of_same (Some prefix) = by (nat_lt (length prefix) (length prefix))
  where
    by : (l : Bool) → cond l (Some prefix) (Some prefix) ≡ Some prefix
    by true = refl
    by false = refl

module _ (old new : List Command) where
  -- a group that names no technology prefix is the joint one
  is_joint_by : (s t : Option (List ℕ)) (p q : Option PatternParts) (j : Bool)
      → is_joint old new s t ≡ j → group_of (set_by j s t p q) ≡ joint
      → is_joint old new s t ≡ true
  is_joint_by s t p q true e f = e
  is_joint_by s t p q false e f =
      ap (λ g. is_joint old new g.old g.new) f

  module _ (head : Option (List ℕ)) (stem : List ℕ) (stars : ℕ) where
    rest_of_head : drop (found_length head) (starred (text_of head ++ stem) stars)
        ≡ starred stem stars
    rest_of_head =
        ap (drop (found_length head)) (append_assoc (text_of head) stem (replicate stars 42))
        ∙ by head
      where
        by : (h : Option (List ℕ))
            → drop (found_length h) (text_of h ++ starred stem stars) ≡ starred stem stars
        by None = refl
        by (Some prefix) = drop_all prefix (starred stem stars)

    stays_row : (commands : List Command) (digits : List ℕ) (technology : Option (List ℕ))
        → technology ≡ head → hopoff_of commands technology ≡ None
        → digits ≡ starred (text_of head ++ stem) stars
        → row_after commands technology digits ≡ row_for commands (starred stem stars)
    stays_row commands digits technology e h spelled =
        ap (λ hop. cond (is_some hop) None
        (row_for commands (drop (found_length technology) digits))) h
        ∙ ap (row_for commands)
        ((λ i. drop (found_length (e i)) (spelled i)) ∙ rest_of_head)

  joint_pick : (heads : Heads) (stem : List ℕ) (stars : ℕ) (digits : List ℕ)
      → IsPick old new heads joint stem stars digits
      → set_of old new digits ≡ joint_set old new stem stars
  joint_pick heads stem stars digits pick =
      let s = technology_of old digits in
      let t = technology_of new digits in
      let j = is_joint_by s t (pattern_used old digits) (pattern_used new digits)
      (is_joint old new s t) refl pick.grouped in
      let k = are_joint old new s t j in
      let first : s ≡ pick.head =
      sym (longer_of_same s) ∙ ap (longer_of s) k.same ∙ pick.longest in
      let second : t ≡ pick.head = sym k.same ∙ first in
      let p = stays_row pick.head stem stars old digits s first k.old_stays pick.spelled in
      let q = stays_row pick.head stem stars new digits t second k.new_stays pick.spelled in
      ap (λ c. set_by c s t (pattern_used old digits) (pattern_used new digits)) j
      ∙ (λ i. set_by true s t (option_map (λ row. row.0) (p i)) (option_map (λ row. row.0) (q i)))

-- ---- a group of its own
own_pick : (old new : List Command) (head : Option (List ℕ)) (group : Group) (stem : List ℕ)
    (stars : ℕ) (digits : List ℕ) → IsPick old new (head ∷ []) group stem stars digits
    → digits ≡ starred (text_of head ++ stem) stars
own_pick old new head group stem stars digits pick =
    pick.spelled ∙ ap (λ h. starred (text_of h ++ stem) stars)
    (by pick.place pick.stands)
  where
    by : (place : ℕ) → slice_get (head ∷ []) place ≡ Some pick.head → pick.head ≡ head
    by zero e = sym (ap (λ o. unwrap_or o head) e)
    by (suc place) e = absurd (let bad : ⊥ = cc in bad)

-- a joint set names no technology prefix, and another one those that are found
pub group_is : (j : Bool) (s t : Option (List ℕ)) (p q : Option PatternParts)
    → group_of (set_by j s t p q) ≡ group_by j s t
group_is true s t p q = refl
group_is false s t p q = refl

-- a technology prefix that is listed and passes is among those that pass
pub has_kept : {X : Type 0} (test : X → Bool) (xs : List X) (place : ℕ) (x : X)
    → slice_get xs place ≡ Some x → test x ≡ true → Has (filter test xs) x
has_kept test [] place x at h = absurd (let bad : ⊥ = cc in bad)
has_kept {X} test (y ∷ ys) zero x at h =
    subst (λ t. Has (cond t (y ∷ filter test ys) (filter test ys)) x)
    (sym (ap (λ o. test (unwrap_or o y)) at ∙ h)) (record { place = 0; stands = at })
has_kept {X} test (y ∷ ys) (suc place) x at h = by (test y) (has_kept test ys place x at h)
  where
    by : (t : Bool) → Has (filter test ys) x
        → Has (cond t (y ∷ filter test ys) (filter test ys)) x
    by true there = record { place = suc there.place; stands = there.stands }
    by false there = there

-- ---- both configurations
module _ (old new : List Command) (heads : Heads) (patterns : List PatternParts)
    (gathered : AreGathered old new heads patterns) (entries : Entries) (joint_heads : Heads)
    (kept : joint_heads ≡ filter (is_joint_head old new) heads)
    (settled : IsSettled old new entries heads joint_heads patterns)
    (x : List ℕ) (dialled : IsDialled x) where
  abbrev a : Option (List ℕ)
  a = technology_of old x

  abbrev b : Option (List ℕ)
  b = technology_of new x

  abbrev t : Option (List ℕ)
  t = longer_of a b

  abbrev keys_of_file : Bool → Option (List ℕ) → List (List ℕ)
  keys_of_file hops technology =
      cond hops [] (keys_after (drop (found_length technology) (text_of t)) patterns)

  abbrev keys : List (List ℕ)
  keys = keys_of_file (hops_off old a) a ++ keys_of_file (hops_off new b) b

  -- the longer prefix, with the length of the longer one
  record Longer (technology : Option (List ℕ)) : Type 0 where
    pub old_within : found_length a ≤ length (text_of technology)
    pub new_within : found_length b ≤ length (text_of technology)
    pub parts : x ≡ text_of technology ++ drop (found_length technology) x

  length_text : (technology : Option (List ℕ))
      → length (text_of technology) ≡ found_length technology
  length_text None = refl
  length_text (Some prefix) = refl

  longer : Longer t
  longer = by a b refl refl
    where
      by_length : (p q : List ℕ) → a ≡ Some p → b ≡ Some q
          → (l : Bool) → nat_lt (length p) (length q) ≡ l → Longer (cond l (Some q) (Some p))
      by_length p q e f true g =
          let m : found_length a ≡ length p = ap found_length e in
          let n : found_length b ≡ length q = ap found_length f in
          record {
            old_within = grind (arith, nat_tests);
            new_within = omega (arith, n);
            parts = found_begins new x (Some q) f;
          }
      by_length p q e f false g =
          let m : found_length a ≡ length p = ap found_length e in
          let n : found_length b ≡ length q = ap found_length f in
          record {
            old_within = omega (arith, m);
            new_within = grind (arith, nat_tests);
            parts = found_begins old x (Some p) e;
          }

      by : (p q : Option (List ℕ)) → a ≡ p → b ≡ q → Longer (longer_of p q)
      by None q e f =
          let m : found_length a ≡ 0 = ap found_length e in
          let n : found_length b ≡ found_length q = ap found_length f in
          let size = length_text q in
          record {
            old_within = omega (arith, m);
            new_within = omega (arith, n, size);
            parts = found_begins new x q f;
          }
      by (Some p) None e f =
          let m : found_length a ≡ length p = ap found_length e in
          let n : found_length b ≡ 0 = ap found_length f in
          record {
            old_within = omega (arith, m);
            new_within = omega (arith, n);
            parts = found_begins old x (Some p) e;
          }
      by (Some p) (Some q) e f =
          by_length p q e f (nat_lt (length p) (length q)) refl

  -- the longer prefix alone is found to have the same technology prefixes
  module _ (prefix : List ℕ) (longest : t ≡ Some prefix) where
    prefix_parts : x ≡ prefix ++ drop (length prefix) x
    prefix_parts = subst (λ h. x ≡ text_of h ++ drop (found_length h) x) longest longer.parts

    alone_same : (commands : List Command) → HasPrefixes heads commands
        → found_length (technology_of commands x) ≤ length (text_of t)
        → technology_of commands prefix ≡ technology_of commands x
    alone_same commands prefixes within =
        ap (technology_of commands) (sym (append-nil prefix))
        ∙ sym (same_technology_found commands prefix (drop (length prefix) x) 0
        (prefixes_stay commands heads prefixes gathered.clean prefix (drop (length prefix) x)
        (subst (λ y. found_length (technology_of commands y) ≤ length prefix) prefix_parts
        (subst (λ h. found_length (technology_of commands x) ≤ length (text_of h)) longest
        within))))
        ∙ ap (technology_of commands) (sym prefix_parts)

    old_alone : technology_of old prefix ≡ a
    old_alone = alone_same old gathered.old_prefixes longer.old_within

    new_alone : technology_of new prefix ≡ b
    new_alone = alone_same new gathered.new_prefixes longer.new_within

  abbrev rest : List ℕ
  rest = drop (found_length t) x

  module _ (chosen : Stem keys rest) where
    abbrev stem : List ℕ
    stem = chosen.stem

    abbrev z : List ℕ
    z = chosen.z

    abbrev u : List ℕ
    u = text_of t ++ stem

    split_x : x ≡ u ++ z
    split_x =
        longer.parts ∙ ap (λ r. text_of t ++ r) chosen.parts
        ∙ sym (append_assoc (text_of t) stem z)

    abbrev d : List ℕ
    d = starred u (length z)

    file_same : (commands : List Command) (technology : Option (List ℕ))
        → technology_of commands (u ++ z) ≡ technology
        → found_length technology ≤ length (text_of t)
        → HasPrefixes heads commands → HasPatterns patterns commands
        → (hops_off commands technology ≡ false → (key : List ℕ)
        → is_among (keys_after (drop (found_length technology) (text_of t)) patterns) key ≡ true
        → is_among keys key ≡ true)
        → FindsSame commands u z
    file_same commands technology e within prefixes rows listed =
        finds_same commands u z (prefixes_stay commands heads prefixes gathered.clean u z in_front)
        (record {
          within = in_front;
          rows = subst (λ s. hops_off commands s ≡ false
              → LiteralsStay (rows_of commands) (drop (found_length s) u) z) (sym e)
              (λ stays. subst (λ f. LiteralsStay (rows_of commands) f z)
              (sym (drop_front (found_length technology) (text_of t) stem within))
              (literals_stay commands patterns rows gathered.literal
              (drop (found_length technology) (text_of t)) stem z
              (λ key there begins. chosen.longest key (listed stays key there)
              (ap (λ r. starts_with ◌==◌ r key) chosen.parts ∙ begins))));
        })
      where
        size : length u ≡ length (text_of t) + length stem
        size = length-append (text_of t) stem

        in_front : found_length (technology_of commands (u ++ z)) ≤ length u
        in_front =
            subst (λ s. found_length s ≤ length u) (sym e)
            (let low : found_length technology ≤ length u = omega (arith, within, size) in low)

    among_first : (hops : Bool) → hops_off old a ≡ hops → hops ≡ false → (key : List ℕ)
        → is_among (keys_after (drop (found_length a) (text_of t)) patterns) key ≡ true
        → is_among keys key ≡ true
    among_first hops e f key there =
        list_any-append (λ one. bytes_eq one key) (keys_of_file (hops_off old a) a)
        (keys_of_file (hops_off new b) b)
        ∙ ap (λ s. is_among (keys_of_file s a) key
        || is_among (keys_of_file (hops_off new b) b) key) (e ∙ f)
        ∙ ap (λ s. s || is_among (keys_of_file (hops_off new b) b) key) there

    among_second : (hops : Bool) → hops_off new b ≡ hops → hops ≡ false → (key : List ℕ)
        → is_among (keys_after (drop (found_length b) (text_of t)) patterns) key ≡ true
        → is_among keys key ≡ true
    among_second hops e f key there =
        list_any-append (λ one. bytes_eq one key) (keys_of_file (hops_off old a) a)
        (keys_of_file (hops_off new b) b)
        ∙ or_later (is_among (keys_of_file (hops_off old a) a) key)
        (is_among (keys_of_file (hops_off new b) b) key)
        (ap (λ s. is_among (keys_of_file s b) key) (e ∙ f) ∙ there)

    old_same : FindsSame old u z
    old_same =
        file_same old a (ap (technology_of old) (sym split_x)) longer.old_within
        gathered.old_prefixes gathered.old_patterns (among_first (hops_off old a) refl)

    new_same : FindsSame new u z
    new_same =
        file_same new b (ap (technology_of new) (sym split_x)) longer.new_within
        gathered.new_prefixes gathered.new_patterns (among_second (hops_off new b) refl)

    old_found : technology_of old d ≡ a
    old_found = old_same.technology ∙ ap (technology_of old) (sym split_x)

    new_found : technology_of new d ≡ b
    new_found = new_same.technology ∙ ap (technology_of new) (sym split_x)

    -- the digits that are tried are of the same set
    same_set_of : set_of old new d ≡ set_of old new x
    same_set_of =
        λ i. set_by (is_joint old new (old_found i) (new_found i)) (old_found i) (new_found i)
        ((old_same.pattern ∙ ap (pattern_used old) (sym split_x)) i)
        ((new_same.pattern ∙ ap (pattern_used new) (sym split_x)) i)

    d_dialled : IsDialled d
    d_dialled = dialled_starred u z (subst IsDialled split_x dialled)

    few : length z < 33
    few = few_stars u z (subst IsDialled split_x dialled)

    pick_of : (these : Heads) → Has these t
        → IsPick old new these (group_of (set_of old new x)) stem (length z) d
    pick_of these there = record {
      place = there.place;
      head = t;
      stands = there.stands;
      spelled = refl;
      dialled = d_dialled;
      grouped = ap group_of same_set_of;
      longest = λ i. longer_of (old_found i) (new_found i);
    }

    -- digits of the same set that were entered
    in_by : (digits : List ℕ) → set_of old new digits ≡ set_of old new d
        → IsEntered old new entries digits → IsEntered old new entries x
    in_by digits same there = subst (IsIn entries) (same ∙ same_set_of) there

    -- a key is left of some literals after one front or the other
    key_of : is_among keys stem ≡ true → {P : Type 0}
        → (hops_off old a ≡ false
        → Key patterns (drop (found_length a) (text_of t)) stem → P)
        → (hops_off new b ≡ false
        → Key patterns (drop (found_length b) (text_of t)) stem → P) → P
    key_of there {P} one two =
        either (is_among (keys_of_file (hops_off old a) a) stem)
        (is_among (keys_of_file (hops_off new b) b) stem)
        (sym (list_any-append (λ key. bytes_eq key stem) (keys_of_file (hops_off old a) a)
        (keys_of_file (hops_off new b) b)) ∙ there)
        (by (hops_off old a) refl a one) (by (hops_off new b) refl b two)
      where
        by : (hops : Bool) {other : Bool} → other ≡ hops → (technology : Option (List ℕ))
            → (other ≡ false → Key patterns (drop (found_length technology) (text_of t)) stem → P)
            → is_among (keys_of_file hops technology) stem ≡ true → P
        by true e technology f g = absurd (true≢false (sym g))
        by false e technology f g =
            f e (key_from (drop (found_length technology) (text_of t)) patterns stem g)

    -- those of the joint group
    module _ (e : is_joint old new a b ≡ true) where
      joint_group : group_of (set_of old new x) ≡ joint
      joint_group =
          group_is (is_joint old new a b) a b (pattern_used old x) (pattern_used new x)
          ∙ ap (λ j. group_by j a b) e

      joint_head : t ≡ a
      joint_head =
          ap (longer_of a) (sym (are_joint old new a b e).same) ∙ longer_of_same a

      no_front : (technology : Option (List ℕ)) → technology ≡ a
          → drop (found_length technology) (text_of t) ≡ []
      no_front technology f =
          (λ i. drop (found_length (f i)) (text_of (joint_head i))) ∙ by a
        where
          by : (h : Option (List ℕ)) → drop (found_length h) (text_of h) ≡ []
          by None = refl
          by (Some prefix) =
              ap (drop (length prefix)) (sym (append-nil prefix)) ∙ drop_all prefix []

      joint_by_key : (front : List ℕ) → front ≡ [] → Key patterns front stem
          → Settles old new entries joint_heads joint stem (length z)
      joint_by_key front f key =
          settled.joint_patterns key.place key.pattern key.stands stem
          (key.parts ∙ ap (λ w. w ++ stem) f) (length z) few

      joint_settles : (chosen.stem ≡ []) ⊎ (is_among keys chosen.stem ≡ true)
          → Settles old new entries joint_heads joint stem (length z)
      joint_settles (inl none) =
          subst (λ w. Settles old new entries joint_heads joint w (length z)) (sym none)
          (settled.alone (length z) few)
      joint_settles (inr there) =
          key_of there (λ stays key. joint_by_key _ (no_front a refl) key)
          (λ stays key. joint_by_key _ (no_front b (sym (are_joint old new a b e).same)) key)

      joint_in : Has joint_heads t → IsEntered old new entries x
      joint_in there =
          let pick : IsPick old new joint_heads joint stem (length z) d =
          subst (λ g. IsPick old new joint_heads g stem (length z) d) joint_group
          (pick_of joint_heads there) in
          let p = joint_settles chosen.listed d pick in
          in_by p.digits
          (joint_pick old new joint_heads stem (length z) p.digits p.pick
          ∙ sym (joint_pick old new joint_heads stem (length z) d pick)) p.entered

    -- those of a group of their own
    module _ (e : is_joint old new a b ≡ false) (prefix : List ℕ) (longest : t ≡ Some prefix)
        (there : Has heads (Some prefix)) where
      abbrev own : Group
      own = record { old = a; new = b }

      own_group : group_of (set_of old new x) ≡ own
      own_group =
          group_is (is_joint old new a b) a b (pattern_used old x) (pattern_used new x)
          ∙ ap (λ j. group_by j a b) e

      settles_group : SettlesGroup old new entries patterns prefix a b
      settles_group =
          let f = old_alone prefix longest in
          let g = new_alone prefix longest in
          subst (λ s. SettlesGroup old new entries patterns prefix s b) f
          (subst (λ s. SettlesGroup old new entries patterns prefix (technology_of old prefix) s) g
          (settled.each_head there.place (Some prefix) there.stands
          ((λ i. is_joint old new (f i) (g i)) ∙ e)))

      own_settles : (chosen.stem ≡ []) ⊎ (is_among keys chosen.stem ≡ true)
          → Settles old new entries (Some prefix ∷ []) own stem (length z)
      own_settles (inl none) =
          subst (λ w. Settles old new entries (Some prefix ∷ []) own w (length z)) (sym none)
          (settles_group.alone (length z) few)
      own_settles (inr among) =
          key_of among
          (λ stays key. settles_group.by_old stays key.place key.pattern key.stands stem
          (key.parts ∙ ap (λ h. drop (found_length a) (text_of h) ++ stem) longest) (length z) few)
          (λ stays key. settles_group.by_new stays key.place key.pattern key.stands stem
          (key.parts ∙ ap (λ h. drop (found_length b) (text_of h) ++ stem) longest) (length z) few)

      own_in : IsEntered old new entries x
      own_in =
          let one : IsPick old new (t ∷ []) (group_of (set_of old new x)) stem (length z) d =
          pick_of (t ∷ []) (record { place = 0; stands = refl }) in
          let pick : IsPick old new (Some prefix ∷ []) own stem (length z) d =
          subst (λ h. IsPick old new (h ∷ []) own stem (length z) d) longest
          (subst (λ g. IsPick old new (t ∷ []) g stem (length z) d) own_group one) in
          let p = own_settles chosen.listed d pick in
          in_by p.digits
          (ap (set_of old new) (own_pick old new (Some prefix) own stem (length z) p.digits p.pick
          ∙ sym (own_pick old new (Some prefix) own stem (length z) d pick))) p.entered

  -- a prefix that is found is gathered
  found_there : (commands : List Command) → HasPrefixes heads commands
      → (technology : Option (List ℕ)) → technology_of commands x ≡ technology
      → Has heads technology
  found_there commands there None e = gathered.none
  found_there commands there (Some prefix) e =
      by (prefixes_of commands) there (is_longest (prefixes_of commands) x prefix e).listed
    where
      by : (xs : List (List ℕ))
          → ((place : ℕ) (p : List ℕ) → slice_get xs place ≡ Some p → Has heads (Some p))
          → is_among xs prefix ≡ true → Has heads (Some prefix)
      by [] f g = absurd (true≢false (sym g))
      by (y ∷ ys) f g =
          either (bytes_eq y prefix) (is_among ys prefix) g
          (λ e. subst (λ p. Has heads (Some p)) (same_text y prefix (sym e)) (f 0 y refl))
          (λ e. by ys (λ place p at. f (suc place) p at) e)

  head_there : Has heads t
  head_there = by a b refl refl
    where
      by : (p q : Option (List ℕ)) → a ≡ p → b ≡ q → Has heads (longer_of p q)
      by None q e f = found_there new gathered.new_prefixes q f
      by (Some p) None e f = found_there old gathered.old_prefixes (Some p) e
      by (Some p) (Some q) e f = one (nat_lt (length p) (length q))
        where
          one : (l : Bool) → Has heads (cond l (Some q) (Some p))
          one true = found_there new gathered.new_prefixes (Some q) f
          one false = found_there old gathered.old_prefixes (Some p) e

  -- a group of its own has a technology prefix
  none_in_both : t ≡ None → is_joint old new a b ≡ true
  none_in_both e = by a b refl e
    where
      by : (p q : Option (List ℕ)) → is_joint old new p q ≡ is_joint old new a b
          → longer_of p q ≡ None → is_joint old new a b ≡ true
      by None None f g = sym f
      by None (Some prefix) f g = absurd (let bad : ⊥ = cc in bad)
      by (Some prefix) None f g = absurd (let bad : ⊥ = cc in bad)
      by (Some prefix) (Some other) f g =
          absurd (some_both (nat_lt (length prefix) (length other)) g)
        where
          some_both : (l : Bool) → cond l (Some other) (Some prefix) ≡ None → ⊥
          some_both true g = let bad : ⊥ = cc in bad
          some_both false g = let bad : ⊥ = cc in bad

  -- one of the joint group is listed among its own
  joint_there : is_joint old new a b ≡ true → Has joint_heads t
  joint_there e =
      let there = head_there in
      subst (λ these. Has these t) (sym kept)
      (has_kept (is_joint_head old new) heads there.place t there.stands (own t refl))
    where
      own : (h : Option (List ℕ)) → t ≡ h → is_joint_head old new h ≡ true
      own None f = refl
      own (Some prefix) f =
          (λ i. is_joint old new (old_alone prefix f i) (new_alone prefix f i)) ∙ e

  pub in_entries : IsEntered old new entries x
  in_entries = by (is_joint old new a b) refl t refl
    where
      by : (j : Bool) → is_joint old new a b ≡ j → (h : Option (List ℕ)) → t ≡ h
          → IsEntered old new entries x
      by true e h f = joint_in (stem_of keys rest) e (joint_there e)
      by false e None f = absurd (true≢false (sym (none_in_both f) ∙ e))
      by false e (Some prefix) f =
          own_in (stem_of keys rest) e prefix f (subst (Has heads) f head_there)
