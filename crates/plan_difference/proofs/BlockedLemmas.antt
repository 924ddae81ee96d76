-- What is blocked, and what is free.
use Rattle.std.proofs.Common.{◌≡◌, ℕ, suc, ◌==◌, ◌&&◌, ◌+◌, ◌-◌, ◌<◌, ◌≤◌, Bool, true, false, cond, nat_lt, nat_le, List, [], ◌∷◌, ◌++◌, length, length-append, take, drop, take-append-drop, append_assoc, append-nil, refl, sym, ap, subst, ◌∙◌, arith}
use Rattle.std.specs.Prelude.{Option, Some, None, unwrap_or}
use Rattle.std.specs.Bool.{then_some}
use Rattle.std.specs.List.{list_all}
use Rattle.std.proofs.lemmas.Bool.{and_parts}
use Rattle.std.proofs.lemmas.Bool.Decides.{nat_tests}
use Rattle.std.proofs.lemmas.List.{length-take-le, take_all}
use Rattle.std.proofs.Math.Seq.{take-length}
use Rattle.gk_terms.specs.Choice.{first_unbeaten}
use Rattle.gk_terms.specs.Dialled.{IsDialled, is_dialled, is_dialled_byte, dialled_of}
use Rattle.gk_commands.specs.declared.commands.Command.{Command}
use Rattle.compiler.specs.Technology.{technology_of, prefixes_of, begins_with, is_longer, found_length}
use Rattle.plan_difference.specs.Blocked.{Blocked, longest_of}
use Rattle.plan_difference.specs.Walk.{text_of, longer_of, starred}
use Rattle.plan_difference.proofs.Beginnings.{begins, same_filter}
use Rattle.plan_difference.proofs.Completeness.{among_at, all_front}
use Rattle.plan_difference.proofs.Finding.{found_within, declared_within}

-- ---- what is found in a text is found in its front, if it is no longer than that
front_begins : (l u z : List ℕ) → (begins (u ++ z) l ≡ true → length l ≤ length u)
    → begins (u ++ z) l ≡ begins u l
front_begins [] u z short = refl
front_begins (c ∷ l) [] z short = by (begins z (c ∷ l)) refl
  where
    by : (t : Bool) → begins z (c ∷ l) ≡ t → begins z (c ∷ l) ≡ false
    by true e = let long : suc (length l) ≤ 0 = short e in absurd (omega (arith, long))
    by false e = e
front_begins (c ∷ l) (x ∷ u) z short = by (c == x) refl (front_begins l u z)
  where
    by : (t : Bool) → (c == x) ≡ t
        → ((begins (u ++ z) l ≡ true → length l ≤ length u) → begins (u ++ z) l ≡ begins u l)
        → (t && begins (u ++ z) l) ≡ (t && begins u l)
    by true e rest =
        rest (λ g. let long : suc (length l) ≤ suc (length u) =
        short (ap (λ t. t && begins (u ++ z) l) e ∙ g) in omega (arith, long))
    by false e rest = refl

pub found_in_front : (commands : List Command) (u z : List ℕ)
    → found_length (technology_of commands (u ++ z)) ≤ length u
    → technology_of commands (u ++ z) ≡ technology_of commands u
found_in_front commands u z within =
    ap (first_unbeaten is_longer)
    (same_filter (begins_with (u ++ z)) (begins_with u) (prefixes_of commands)
    (λ place prefix at. front_begins prefix u z
    (λ b. let low = declared_within commands (u ++ z) (technology_of commands (u ++ z)) refl
    prefix (among_at (prefixes_of commands) place prefix at) b in
    omega (arith, low, within))))

-- neither is longer than the longer one
pub record BothWithin (s t longer : Option (List ℕ)) : Type 0 where
  pub first : found_length s ≤ found_length longer
  pub second : found_length t ≤ found_length longer

pub both_within : (s t : Option (List ℕ)) → BothWithin s t (longer_of s t)
both_within None t = record { first = omega arith; second = omega arith }
both_within (Some p) None = record { first = omega arith; second = omega arith }
both_within (Some p) (Some q) = by (nat_lt (length p) (length q)) refl
  where
    by : (l : Bool) → nat_lt (length p) (length q) ≡ l
        → BothWithin (Some p) (Some q) (cond l (Some q) (Some p))
    by true e = record { first = grind (arith, nat_tests); second = omega arith }
    by false e = record { first = omega arith; second = grind (arith, nat_tests) }

pub size_of : (head : Option (List ℕ)) → length (text_of head) ≡ found_length head
size_of None = refl
size_of (Some prefix) = refl

module _ (old new : List Command) where
  pub longest_in_front : (u z : List ℕ) (head : Option (List ℕ))
      → longest_of old new (u ++ z) ≡ head → found_length head ≤ length u
      → longest_of old new u ≡ head
  longest_in_front u z head e within =
      let s = technology_of old (u ++ z) in
      let t = technology_of new (u ++ z) in
      let both = subst (BothWithin s t) e (both_within s t) in
      let low = both.first in
      let low' = both.second in
      let p : found_length s ≤ length u = omega (arith, low, within) in
      let q : found_length t ≤ length u = omega (arith, low', within) in
      let first = found_in_front old u z p in
      let second = found_in_front new u z q in
      (λ i. longer_of (sym first i) (sym second i)) ∙ e

  -- what is found is no longer than the text
  pub longest_within : (digits : List ℕ) (found : Option (List ℕ))
      → longest_of old new digits ≡ found → found_length found ≤ length digits
  longest_within digits found e =
      subst (λ f. found_length f ≤ length digits) e
      (by (technology_of old digits) (technology_of new digits)
      (found_within old digits (technology_of old digits) refl)
      (found_within new digits (technology_of new digits) refl))
    where
      by : (s t : Option (List ℕ)) → found_length s ≤ length digits
          → found_length t ≤ length digits → found_length (longer_of s t) ≤ length digits
      by None t p q = q
      by (Some s) None p q = p
      by (Some s) (Some t) p q = one (nat_lt (length s) (length t))
        where
          one : (l : Bool) → found_length (cond l (Some t) (Some s)) ≤ length digits
          one true = q
          one false = p

  module _ (head : Option (List ℕ)) where
    pub blocked_more : (front more : List ℕ) → Blocked old new front head
        → Blocked old new (front ++ more) head
    blocked_more front more h rest dialled e =
        let same : text_of head ++ ((front ++ more) ++ rest)
        ≡ text_of head ++ (front ++ (more ++ rest)) =
        ap (λ t. text_of head ++ t) (append_assoc front more rest) in
        h (more ++ rest) (subst IsDialled same dialled)
        (ap (longest_of old new) (sym same) ∙ e)

    -- another one is found with this front
    pub not_longest : (front : List ℕ)
        → (longest_of old new (text_of head ++ front) ≡ head → ⊥) → Blocked old new front head
    not_longest front differ rest dialled e =
        let size : length (text_of head ++ front) ≡ length (text_of head) + length front =
        length-append (text_of head) front in
        let own = size_of head in
        differ (longest_in_front (text_of head ++ front) rest head
        (ap (longest_of old new) (append_assoc (text_of head) front rest) ∙ e)
        (let low : found_length head ≤ length (text_of head ++ front) = omega (arith, size, own)
        in low))

    -- a longer one is found, which ends so many characters after this one
    module _ (stem : List ℕ) (found : Option (List ℕ)) (level : ℕ)
        (e : longest_of old new (text_of head ++ stem) ≡ found)
        (longer : found_length found ≡ found_length head + level) (some : 0 < level) where
      abbrev u : List ℕ
      u = text_of head ++ take level stem

      within : level ≤ length stem
      within =
          let low = longest_within (text_of head ++ stem) found e in
          let size : length (text_of head ++ stem) ≡ length (text_of head) + length stem =
          length-append (text_of head) stem in
          let own = size_of head in
          omega (arith, low, size, own, longer)

      parts : u ++ drop level stem ≡ text_of head ++ stem
      parts =
          append_assoc (text_of head) (take level stem) (drop level stem)
          ∙ ap (λ t. text_of head ++ t) (take-append-drop level stem)

      size_u : found_length found ≤ length u
      size_u =
          let size : length u ≡ length (text_of head) + length (take level stem) =
          length-append (text_of head) (take level stem) in
          let own = size_of head in
          let some_of = length-take-le level stem within in
          omega (arith, size, own, longer, some_of)

      found_first : longest_of old new u ≡ found
      found_first =
          longest_in_front u (drop level stem) found (ap (longest_of old new) parts ∙ e) size_u

      differs : longest_of old new u ≡ head → ⊥
      differs same =
          let equal : found_length found ≡ found_length head =
          ap found_length (sym found_first ∙ same) in
          let bad : ⊥ = omega (arith, equal, longer, some) in bad

      pub longer_found : (level ≤ length stem) × Blocked old new (take level stem) head
      longer_found = (within, not_longest (take level stem) differs)

    -- so many characters are taken by a longer one, or all of the stem if the other one is not
    -- longer
    pub level_found : (stem : List ℕ) (found : Option (List ℕ)) (level : ℕ)
        → longest_of old new (text_of head ++ stem) ≡ found → (found ≡ head → ⊥)
        → level ≡ cond (nat_lt (found_length head) (found_length found))
        (found_length found - found_length head) (length stem)
        → (level ≤ length stem) × Blocked old new (take level stem) head
    level_found stem found level e differ is =
        by (nat_lt (found_length head) (found_length found)) refl is
      where
        by : (l : Bool) → nat_lt (found_length head) (found_length found) ≡ l
            → level ≡ cond l (found_length found - found_length head) (length stem)
            → (level ≤ length stem) × Blocked old new (take level stem) head
        by true less f =
            let low : found_length head < found_length found = grind (arith, nat_tests) in
            longer_found stem found level e
            (let longer : found_length found ≡ found_length head + level = omega (arith, low, f)
            in longer)
            (let some : 0 < level = omega (arith, low, f) in some)
        by false less f =
            let whole : take level stem ≡ stem =
            take_all level stem (let all : length stem ≤ level = omega (arith, f) in all) in (
              let within : level ≤ length stem = omega (arith, f) in within,
              subst (λ front. Blocked old new front head) (sym whole)
                  (not_longest stem (λ same. differ (sym e ∙ same))),
            )

    -- digits that are too long, or that cannot be dialled, are none
    dialled_front : (u z : List ℕ) → IsDialled (u ++ z) → 0 < length u → IsDialled u
    dialled_front u z dialled some =
        let a = and_parts (nat_le 1 (length (u ++ z)) && nat_le (length (u ++ z)) 32)
        (list_all is_dialled_byte (u ++ z)) dialled in
        λ i. bounds (length (u ++ z)) (length u) (length z) a.0 (length-append u z) some i
        && all_front is_dialled_byte u z a.1 i
      where
        bounds : (n m k : ℕ) → (nat_le 1 n && nat_le n 32) ≡ true → n ≡ m + k → 0 < m
            → (nat_le 1 m && nat_le m 32) ≡ true
        bounds n m k e f some = grind (arith, nat_tests)

    pub not_dialled : (stem : List ℕ) → 0 < length stem
        → dialled_of (starred (text_of head ++ stem) 0) ≡ None
        → (length stem ≤ length stem) × Blocked old new (take (length stem) stem) head
    not_dialled stem some none =
        (omega arith, subst (λ front. Blocked old new front head) (sym (take-length stem)) blocked)
      where
        blocked : Blocked old new stem head
        blocked rest dialled e =
            let u = text_of head ++ stem in
            let size : length u ≡ length (text_of head) + length stem =
            length-append (text_of head) stem in
            let front : IsDialled u =
            dialled_front u rest
            (subst IsDialled (sym (append_assoc (text_of head) stem rest)) dialled)
            (let long : 0 < length u = omega (arith, size, some) in long) in
            let there : dialled_of u ≡ Some u = ap (λ t. then_some t u) front in
            let bad_one : None ≡ Some u =
            sym none ∙ ap dialled_of (append-nil u) ∙ there in
            let bad : ⊥ = cc in bad

    pub too_long_together : (stem : List ℕ) → 33 ≤ found_length head + length stem
        → Blocked old new stem head
    too_long_together stem long rest dialled e =
        let text = text_of head ++ (stem ++ rest) in
        let a = and_parts (nat_le 1 (length text) && nat_le (length text) 32)
        (list_all is_dialled_byte text) dialled in
        let size : length text ≡ length (text_of head) + length (stem ++ rest) =
        length-append (text_of head) (stem ++ rest) in
        let more : length (stem ++ rest) ≡ length stem + length rest = length-append stem rest in
        let own = size_of head in
        by (length text) a.0
        (let all : 33 ≤ length text = omega (arith, size, more, own, long) in all)
      where
        by : (n : ℕ) → (nat_le 1 n && nat_le n 32) ≡ true → 33 ≤ n → ⊥
        by n e h = let bad : ⊥ = grind (arith, nat_tests) in bad

    pub is_too_long : (stem : List ℕ) → nat_le (found_length head + length stem + 0) 32 ≡ false
        → 33 ≤ found_length head + length stem
    is_too_long stem e = by (found_length head) (length stem) e
      where
        by : (n m : ℕ) → nat_le (n + m + 0) 32 ≡ false → 33 ≤ n + m
        by n m e = grind (arith, nat_tests)

-- the text of dialled digits is the one that was read
pub dialled_is : (text digits : List ℕ) → Some digits ≡ dialled_of (starred text 0) → digits ≡ text
dialled_is text digits e = by (is_dialled (starred text 0)) e ∙ append-nil text
  where
    by : (t : Bool) → Some digits ≡ then_some t (starred text 0) → digits ≡ starred text 0
    by true f = ap (λ o. unwrap_or o digits) f
    by false f = absurd (let bad : ⊥ = cc in bad)

-- what both configurations find for a text
pub found_is : (old new : List Command) (digits text : List ℕ) (s t found : Option (List ℕ))
    → digits ≡ text → s ≡ technology_of old digits → t ≡ technology_of new digits
    → found ≡ longer_of s t → longest_of old new text ≡ found
found_is old new digits text s t found same e f g =
    sym (g ∙ (λ i. longer_of (e i) (f i)) ∙ ap (longest_of old new) same)
