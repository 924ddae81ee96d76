-- One technology prefix of the joint group is enough for a stem: the shortest that is not blocked.
use Rattle.std.proofs.Common.{◌≡◌, ℕ, zero, suc, ◌+◌, ◌&&◌, ◌<◌, ◌≤◌, ◌⊎◌, inl, inr, Bool, true, false, cond, nat_lt, nat_le, List, [], ◌∷◌, ◌++◌, length, length-append, append_assoc, append-nil, get_or, slice_get, refl, sym, ap, subst, ◌∙◌, arith}
use Rattle.std.specs.Prelude.{Option, Some, None, option_map, unwrap_or, replicate, Result, Ok, Err, OnOk}
use Rattle.std.specs.List.{list_all}
use Rattle.std.proofs.lemmas.Bool.{and_parts}
use Rattle.std.proofs.lemmas.Bool.Decides.{nat_tests}
use Rattle.std.proofs.lemmas.List.{length-replicate}
use Rattle.gk_terms.specs.Dialled.{IsDialled, is_dialled_byte}
use Rattle.digit_patterns.specs.PatternParts.{PatternParts}
use Rattle.gk_commands.specs.declared.commands.Command.{Command}
use Rattle.compiler.specs.Technology.{technology_of, found_length}
use Rattle.compiler.proofs.TechnologyLemmas.{begins_within}
use Rattle.plan_difference.specs.Blocked.{longest_of, Blocked, IsFree, IsStarless, IsChosen, AreChosen, AreJoint, literals_at}
use Rattle.plan_difference.specs.Entries.{Entries, group_by}
use Rattle.plan_difference.specs.Gathered.{joint, is_joint_head, has_no_star}
use Rattle.plan_difference.specs.Order.{Adds, IsOf}
use Rattle.plan_difference.specs.Sets.{is_joint, pattern_used}
use Rattle.plan_difference.specs.Walk.{Heads, starred, text_of, longer_of, IsPick, IsPicked, SettlesStem, SettlesPattern}
use Rattle.plan_difference.proofs.BlockedLemmas.{both_within, BothWithin, found_in_front, size_of, too_long_together}
use Rattle.plan_difference.proofs.Completeness.{all_starred, group_is}
use Rattle.plan_difference.proofs.Lookups.{same_technology_found}
use Rattle.plan_difference.proofs.OrderLemmas.{adds_wider}

-- ---- what is found
-- stars after a text change nothing
starred_same : (commands : List Command) → IsStarless commands → (u : List ℕ) (count : ℕ)
    → technology_of commands (starred u count) ≡ technology_of commands u
starred_same commands clean u count =
    sym (ap (technology_of commands) (sym (append-nil u))
    ∙ same_technology_found commands u [] count (record {
      stay = λ place prefix at. (
        clean place prefix at,
        λ b. let low = begins_within (u ++ []) prefix b in
            let size : length (u ++ []) ≡ length u = ap length (append-nil u) in
            omega (arith, low, size),
      );
    }))

none_both : (s t : Option (List ℕ)) → longer_of s t ≡ None → (s ≡ None) × (t ≡ None)
none_both None t e = (refl, e)
none_both (Some p) None e = absurd (let bad : ⊥ = cc in bad)
none_both (Some p) (Some q) e = absurd (by (nat_lt (length p) (length q)) e)
  where
    by : (l : Bool) → cond l (Some q) (Some p) ≡ None → ⊥
    by true f = let bad : ⊥ = cc in bad
    by false f = let bad : ⊥ = cc in bad

-- digits whose longest prefix is of the joint group are of it
joint_found : (old new : List Command) (head : Option (List ℕ)) (rest : List ℕ)
    → is_joint_head old new head ≡ true → longest_of old new (text_of head ++ rest) ≡ head
    → is_joint old new (technology_of old (text_of head ++ rest))
    (technology_of new (text_of head ++ rest)) ≡ true
joint_found old new None rest j e =
    let none = none_both (technology_of old rest) (technology_of new rest) e in
    λ i. is_joint old new (none.0 i) (none.1 i)
joint_found old new (Some prefix) rest j e =
    let s = technology_of old (prefix ++ rest) in
    let t = technology_of new (prefix ++ rest) in
    let both = subst (BothWithin s t) e (both_within s t) in
    (λ i. is_joint old new (found_in_front old prefix rest both.first i)
    (found_in_front new prefix rest both.second i)) ∙ j

-- ---- digits with stars
dialled_more : (u : List ℕ) (stars : ℕ) → IsDialled u → length u + stars ≤ 32
    → IsDialled (starred u stars)
dialled_more u stars dialled few =
    let a = and_parts (nat_le 1 (length u) && nat_le (length u) 32) (list_all is_dialled_byte u)
    dialled in
    λ i. bounds (length (starred u stars)) (length u) stars a.0
    (length-append u (replicate stars 42)
    ∙ ap (λ n. length u + n) (length-replicate {A = ℕ} stars 42)) few i
    && all_starred is_dialled_byte u stars refl a.1 i
  where
    bounds : (n m k : ℕ) → (nat_le 1 m && nat_le m 32) ≡ true → n ≡ m + k → m + k ≤ 32
        → (nat_le 1 n && nat_le n 32) ≡ true
    bounds n m k e f low = grind (arith, nat_tests)

dialled_within : (text : List ℕ) → IsDialled text → length text ≤ 32
dialled_within text dialled =
    let a = and_parts (nat_le 1 (length text) && nat_le (length text) 32)
    (list_all is_dialled_byte text) dialled in
    by (length text) a.0
  where
    by : (n : ℕ) → (nat_le 1 n && nat_le n 32) ≡ true → n ≤ 32
    by n e = grind (arith, nat_tests)

starred_size : (head : Option (List ℕ)) (stem : List ℕ) (stars : ℕ)
    → length (starred (text_of head ++ stem) stars)
    ≡ found_length head + length stem + stars
starred_size head stem stars =
    length-append (text_of head ++ stem) (replicate stars 42)
    ∙ (λ i. (length-append (text_of head) stem ∙ ap (λ n. n + length stem) (size_of head)) i
    + length-replicate {A = ℕ} stars 42 i)

-- ---- one stem
module _ (old new : List Command) (heads : Heads) (stem : List ℕ) where
  blocked_no_pick : (head : Option (List ℕ)) → Blocked old new stem head → (stars : ℕ)
      (digits : List ℕ) → digits ≡ starred (text_of head ++ stem) stars → IsDialled digits
      → longest_of old new digits ≡ head → ⊥
  blocked_no_pick head blocked stars digits spelled dialled longest =
      let same : digits ≡ text_of head ++ (stem ++ replicate stars 42) =
      spelled ∙ append_assoc (text_of head) stem (replicate stars 42) in
      blocked (replicate stars 42) (subst IsDialled same dialled)
      (ap (longest_of old new) (sym same) ∙ longest)

  -- none is left
  pub blocked_settles : (entries : Entries)
      → ((place : ℕ) (head : Option (List ℕ)) → slice_get heads place ≡ Some head
      → Blocked old new stem head) → SettlesStem old new entries heads joint stem
  blocked_settles entries all stars low digits pick =
      absurd (blocked_no_pick pick.head (all pick.place pick.head pick.stands) stars digits
      pick.spelled pick.dialled pick.longest)

  module _ (each : AreJoint old new heads) (place : ℕ) (head : Option (List ℕ))
      (at : slice_get heads place ≡ Some head) (free : IsFree old new stem head) where
    abbrev u : List ℕ
    u = text_of head ++ stem

    -- another one makes such digits, so this one does
    free_pick : (stars : ℕ) (other : Option (List ℕ)) (digits : List ℕ)
        → digits ≡ starred (text_of other ++ stem) stars → IsDialled digits
        → found_length head ≤ found_length other
        → IsPick old new (head ∷ []) joint stem stars (starred u stars)
    free_pick stars other digits spelled dialled longer =
        let s = technology_of old (starred u stars) in
        let t = technology_of new (starred u stars) in
        let first = starred_same old each.old_starless u stars in
        let second = starred_same new each.new_starless u stars in
        let within = dialled_within digits dialled in
        let size : length digits ≡ found_length other + length stem + stars =
        ap length spelled ∙ starred_size other stem stars in
        let own : length u ≡ length (text_of head) + length stem =
        length-append (text_of head) stem in
        let text = size_of head in
        let few : length u + stars ≤ 32 = omega (arith, within, size, own, text, longer) in
        record {
          place = 0;
          head = head;
          stands = refl;
          spelled = refl;
          dialled = dialled_more u stars free.dialled few;
          grouped = group_is (is_joint old new s t) s t (pattern_used old (starred u stars))
              (pattern_used new (starred u stars))
              ∙ ap (λ j. group_by j s t)
              ((λ i. is_joint old new (first i) (second i))
              ∙ joint_found old new head stem (each.each place head at) free.longest);
          longest = (λ i. longer_of (first i) (second i)) ∙ free.longest;
        }

    only : (k : ℕ) (h : Option (List ℕ)) → slice_get (head ∷ []) k ≡ Some h → head ≡ h
    only zero h e = ap (λ o. unwrap_or o head) e
    only (suc k) h e = absurd (let bad : ⊥ = cc in bad)

    in_heads : (entries : Entries) (stars : ℕ)
        → IsPicked old new entries (head ∷ []) joint stem stars
        → IsPicked old new entries heads joint stem stars
    in_heads entries stars p = record {
      digits = p.digits;
      pick = record {
        place = place;
        head = p.pick.head;
        stands = at ∙ ap (λ h. Some h) (only p.pick.place p.pick.head p.pick.stands);
        spelled = p.pick.spelled;
        dialled = p.pick.dialled;
        grouped = p.pick.grouped;
        longest = p.pick.longest;
      };
      entered = p.entered;
    }

    free_settles : (entries : Entries)
        → ((k : ℕ) (other : Option (List ℕ)) → slice_get heads k ≡ Some other
        → Blocked old new stem other ⊎ (found_length head ≤ found_length other))
        → SettlesStem old new entries (head ∷ []) joint stem
        → SettlesStem old new entries heads joint stem
    free_settles entries others settles stars low digits pick =
        by (others pick.place pick.head pick.stands)
      where
        by : Blocked old new stem pick.head ⊎ (found_length head ≤ found_length pick.head)
            → IsPicked old new entries heads joint stem stars
        by (inl blocked) =
            absurd (blocked_no_pick pick.head blocked stars digits pick.spelled pick.dialled
            pick.longest)
        by (inr longer) =
            in_heads entries stars (settles stars low (starred u stars)
            (free_pick stars pick.head digits pick.spelled pick.dialled longer))

  -- ---- by the one that is chosen
  settled_with_one : (entries : Entries) (head : Option (List ℕ))
      → IsChosen old new heads stem 33 (Some head)
      → SettlesStem old new entries (head ∷ []) joint stem → AreJoint old new heads
      → SettlesStem old new entries heads joint stem
  settled_with_one entries head (there, inl free, shorter) settles each =
      free_settles each there.place head there.stands free entries
      (λ k other at. by k other at (nat_lt (found_length other) (found_length head)) refl) settles
    where
      by : (k : ℕ) (other : Option (List ℕ)) → slice_get heads k ≡ Some other
          → (t : Bool) → nat_lt (found_length other) (found_length head) ≡ t
          → Blocked old new stem other ⊎ (found_length head ≤ found_length other)
      by k other at true e =
          inl (shorter k other at
          (let less : found_length other < found_length head = grind (arith, nat_tests) in less))
      by k other at false e =
          inr (let more : found_length head ≤ found_length other = grind (arith, nat_tests) in more)
  settled_with_one entries head (there, inr long, shorter) settles each =
      blocked_settles entries
      (λ k other at. by k other at (nat_lt (found_length other) (found_length head)) refl)
    where
      by : (k : ℕ) (other : Option (List ℕ)) → slice_get heads k ≡ Some other
          → (t : Bool) → nat_lt (found_length other) (found_length head) ≡ t
          → Blocked old new stem other
      by k other at true e =
          shorter k other at
          (let less : found_length other < found_length head = grind (arith, nat_tests) in less)
      by k other at false e =
          let longer : found_length head ≤ found_length other = grind (arith, nat_tests) in
          too_long_together old new other stem
          (let more : 33 ≤ found_length other + length stem = omega (arith, long, longer) in more)

  pub settled_by_chosen : (entries : Entries) (head : Option (List ℕ))
      (chosen : Option (Option (List ℕ))) → chosen ≡ Some head
      → IsChosen old new heads stem 33 chosen → {T F : Type 0} (result : Result T F)
      → OnOk result (SettlesStem old new entries (head ∷ []) joint stem)
      → OnOk result (AreJoint old new heads → SettlesStem old new entries heads joint stem)
  settled_by_chosen entries head chosen e is (Ok done) settles = λ each.
      settled_with_one entries head (subst (IsChosen old new heads stem 33) e is) settles each
  settled_by_chosen entries head chosen e is (Err fault) settles = tt

  -- none is left
  pub settled_without_one : (entries : Entries) (chosen : Option (Option (List ℕ)))
      → chosen ≡ None → IsChosen old new heads stem 33 chosen
      → SettlesStem old new entries heads joint stem
  settled_without_one entries chosen e is =
      blocked_settles entries
      (λ k other at. by k other at (nat_lt (found_length other) 33) refl)
    where
      all : IsChosen old new heads stem 33 None
      all = subst (IsChosen old new heads stem 33) e is

      by : (k : ℕ) (other : Option (List ℕ)) → slice_get heads k ≡ Some other
          → (t : Bool) → nat_lt (found_length other) 33 ≡ t → Blocked old new stem other
      by k other at true f =
          all k other at
          (let less : found_length other < 33 = grind (arith, nat_tests) in less)
      by k other at false f =
          let long : 33 ≤ found_length other = grind (arith, nat_tests) in
          too_long_together old new other stem
          (let more : 33 ≤ found_length other + length stem = omega (arith, long) in more)

-- the sets that one technology prefix adds are of the joint group
pub joint_adds : (head : Option (List ℕ)) (heads : Heads) (before after : Entries)
    {T F : Type 0} (result : Result T F)
    → OnOk result (Adds (IsOf joint (head ∷ [])) before after)
    → OnOk result (Adds (IsOf joint heads) before after)
joint_adds head heads before after result h =
    adds_wider (IsOf joint (head ∷ [])) (IsOf joint heads) before after
    (λ group is. (is.0, inl refl)) result h

-- in any case so, without a premise
pub settles_anyway : (A B : Type 0) {T F : Type 0} (result : Result T F) → OnOk result B
    → OnOk result (A → B)
settles_anyway A B (Ok done) h = λ _. h
settles_anyway A B (Err fault) h = tt

-- ---- patterns
-- the literals of the pattern that stands at a place
literals_there : (patterns : List PatternParts) (place : ℕ) (pattern : PatternParts)
    → slice_get patterns place ≡ Some pattern → literals_at patterns place ≡ pattern.literals
literals_there patterns place pattern at =
    ap (λ o. unwrap_or (option_map (λ (p : PatternParts). p.literals) o) []) at

pub pattern_settled : (old new : List Command) (entries : Entries) (heads : Heads)
    (patterns : List PatternParts) (place : ℕ) (text : List ℕ)
    → text ≡ literals_at patterns place
    → (AreJoint old new heads → SettlesStem old new entries heads joint text)
    → (pattern : PatternParts) → slice_get patterns place ≡ Some pattern
    → AreJoint old new heads → SettlesPattern old new entries heads joint [] pattern
pattern_settled old new entries heads patterns place text spelled h pattern at each stem parts =
    subst (SettlesStem old new entries heads joint)
    (spelled ∙ literals_there patterns place pattern at ∙ parts) (h each)

pub pattern_literal : (patterns : List PatternParts) (place : ℕ) (text : List ℕ)
    → text ≡ literals_at patterns place → has_no_star text ≡ true
    → (pattern : PatternParts) → slice_get patterns place ≡ Some pattern
    → has_no_star pattern.literals ≡ true
pattern_literal patterns place text spelled h pattern at =
    ap has_no_star (sym (spelled ∙ literals_there patterns place pattern at)) ∙ h

-- what is chosen for the literals as they are read
pub chosen_by_text : (old new : List Command) (heads : Heads) (patterns : List PatternParts)
    (chosen : List (Option (Option (List ℕ)))) (place : ℕ) (text : List ℕ)
    (found : Option (Option (List ℕ))) → text ≡ literals_at patterns place
    → found ≡ get_or chosen place None → AreChosen old new heads patterns 33 chosen
    → 0 < length text → IsChosen old new heads text 33 found
chosen_by_text old new heads patterns chosen place text found spelled is h some =
    subst (λ x. IsChosen old new heads text 33 x) (sym is)
    (subst (λ x. IsChosen old new heads x 33 (get_or chosen place None)) (sym spelled)
    (h place (subst (λ x. 0 < length x) spelled some)))
