-- The sets of one group stand together.
use Rattle.std.proofs.Common.{◌≡◌, ℕ, zero, suc, ◌+◌, ◌<◌, ◌≤◌, ◌⊎◌, inl, inr, Bool, true, false, cond, nat_lt, List, [], ◌∷◌, ◌++◌, length, length-append, append_assoc, append-nil, slice_get, refl, sym, ap, subst, ◌∙◌, arith, true≢false}
use Rattle.std.specs.Prelude.{Option, Some, None, unwrap_or, Result, Ok, Err, OnOk}
use Rattle.std.specs.Map.{keys_of}
use Rattle.std.proofs.lemmas.Bool.Decides.{nat_tests}
use Rattle.digit_patterns.specs.PatternParts.{PatternParts}
use Rattle.gk_commands.specs.declared.commands.Command.{Command}
use Rattle.compiler.specs.Technology.{technology_of}
use Rattle.plan_difference.specs.declared.number_sets.NumberSet.{NumberSet}
use Rattle.plan_difference.specs.declared.number_sets.Group.{Group}
use Rattle.plan_difference.specs.Difference.{StandsAt}
use Rattle.plan_difference.specs.Entries.{Entry, Entries, EntryAt, NotedBy, group_of, group_by}
use Rattle.plan_difference.specs.Gathered.{Has, joint}
use Rattle.plan_difference.specs.Order.{AreGrouped, Adds, IsOf, IsGroupOf, IsGroupOfHead, IsGroupAt, AreInOrder, AddsInOrder, IsEachOnce}
use Rattle.plan_difference.specs.Sets.{set_of, set_by, is_joint, pattern_used}
use Rattle.plan_difference.specs.Walk.{Heads, longer_of, IsPick}
use Rattle.plan_difference.proofs.Completeness.{group_is}
use Rattle.plan_difference.proofs.Theorem.{entry_stands}
use Rattle.plan_difference.proofs.WalkLemmas.{stands_within}

-- ---- two lists after each other
-- where an entry stands in the second
record Stands (first second : Entries) (place : ℕ) (entry : Entry) : Type 0 where
  pub rest : ℕ
  pub at : place ≡ length first + rest
  pub stands : slice_get second rest ≡ Some entry

in_either : (first second : Entries) (place : ℕ) (entry : Entry)
    → slice_get (first ++ second) place ≡ Some entry
    → (slice_get first place ≡ Some entry) ⊎ Stands first second place entry
in_either [] second place entry e = inr (record { rest = place; at = omega arith; stands = e })
in_either (x ∷ first) second zero entry e = inl e
in_either (x ∷ first) second (suc place) entry e = by (in_either first second place entry e)
  where
    by : (slice_get first place ≡ Some entry) ⊎ Stands first second place entry
        → (slice_get (x ∷ first) (suc place) ≡ Some entry)
        ⊎ Stands (x ∷ first) second (suc place) entry
    by (inl f) = inl f
    by (inr s) =
        let at = s.at in
        inr (record { rest = s.rest; at = omega (arith, at); stands = s.stands })

-- ---- entries are added
module _ (IsOne : Group → Type 0) where
  pub adds_nothing : (entries : Entries) → Adds IsOne entries entries
  adds_nothing entries = record {
    more = [];
    parts = sym (append-nil entries);
    each = λ place set digits e. absurd (none place set digits e);
  }
    where
      none : (place : ℕ) (set : NumberSet) (digits : List ℕ) → EntryAt [] place set digits → ⊥
      none place set digits e = let bad : ⊥ = cc in bad

  pub adds_then : (before between after : Entries) → Adds IsOne before between
      → Adds IsOne between after → Adds IsOne before after
  adds_then before between after one two = record {
    more = one.more ++ two.more;
    parts = two.parts ∙ ap (λ l. l ++ two.more) one.parts ∙ append_assoc before one.more two.more;
    each = λ place set digits e. by set digits (in_either one.more two.more place (set, digits) e);
  }
    where
      by : {place : ℕ} (set : NumberSet) (digits : List ℕ)
          → (slice_get one.more place ≡ Some (set, digits))
          ⊎ Stands one.more two.more place (set, digits) → IsOne (group_of set)
      by {place} set digits (inl f) = one.each place set digits f
      by {place} set digits (inr s) = two.each s.rest set digits s.stands

  pub adds_noted : (before after : Entries) (set : NumberSet) (digits : List ℕ)
      → NotedBy before after set digits → IsOne (group_of set) → Adds IsOne before after
  adds_noted before after set digits (inl p) is =
      subst (Adds IsOne before) (sym p.0) (adds_nothing before)
  adds_noted before after set digits (inr p) is = record {
    more = (set, digits) ∷ [];
    parts = p.0;
    each = λ place one text e. by place one text e;
  }
    where
      by : (place : ℕ) (one : NumberSet) (text : List ℕ)
          → EntryAt ((set, digits) ∷ []) place one text → IsOne (group_of one)
      by zero one text e =
          subst (λ s. IsOne (group_of s)) (ap (λ o. (unwrap_or {T = Entry} o (one, text)).0) e) is
      by (suc place) one text e = absurd (let bad : ⊥ = cc in bad)

  -- a second step that may fail
  pub adds_both : (before between after : Entries) {T F : Type 0} (result : Result T F)
      → OnOk result (Adds IsOne between after) → Adds IsOne before between
      → OnOk result (Adds IsOne before after)
  adds_both before between after (Ok done) two one = adds_then before between after one two
  adds_both before between after (Err fault) two one = tt

pub adds_wider : (IsOne IsOther : Group → Type 0) (before after : Entries)
    → ((group : Group) → IsOne group → IsOther group) → {T F : Type 0} (result : Result T F)
    → OnOk result (Adds IsOne before after) → OnOk result (Adds IsOther before after)
adds_wider IsOne IsOther before after wider (Ok done) h = record {
  more = h.more;
  parts = h.parts;
  each = λ place set digits e. wider (group_of set) (h.each place set digits e);
}
adds_wider IsOne IsOther before after wider (Err fault) h = tt

-- ---- digits that are tried
module _ (old new : List Command) (heads : Heads) (group : Group) (stem : List ℕ) (stars : ℕ)
    (digits : List ℕ) (pick : IsPick old new heads group stem stars digits) where
  abbrev s : Option (List ℕ)
  s = technology_of old digits

  abbrev t : Option (List ℕ)
  t = technology_of new digits

  is_of : IsOf group heads (group_of (set_of old new digits))
  is_of = (pick.grouped, by (is_joint old new s t) refl)
    where
      by : (j : Bool) → is_joint old new s t ≡ j
          → (group ≡ joint) ⊎ Has heads (longer_of group.old group.new)
      by true e =
          inl (sym pick.grouped
          ∙ group_is (is_joint old new s t) s t (pattern_used old digits) (pattern_used new digits)
          ∙ ap (λ j. group_by j s t) e)
      by false e =
          let same : group ≡ record { old = s; new = t } =
          sym pick.grouped
          ∙ group_is (is_joint old new s t) s t (pattern_used old digits) (pattern_used new digits)
          ∙ ap (λ j. group_by j s t) e in
          inr (record {
            place = pick.place;
            stands = pick.stands
                ∙ ap (λ h. Some h) (sym pick.longest ∙ ap (λ g. longer_of g.old g.new) (sym same));
          })

  pub picked_adds : (before after : Entries) {T F : Type 0} (result : Result T F)
      → OnOk result (NotedBy before after (set_of old new digits) digits)
      → OnOk result (Adds (IsOf group heads) before after)
  picked_adds before after (Ok done) noted =
      adds_noted (IsOf group heads) before after (set_of old new digits) digits noted is_of
  picked_adds before after (Err fault) noted = tt

-- ---- the group of a technology prefix
-- neither hops off without one
joint_is_joint : (old new : List Command) → is_joint old new joint.old joint.new ≡ true
joint_is_joint old new = refl

module _ (old new : List Command) (prefix : List ℕ) (p q : Option (List ℕ))
    (e : p ≡ technology_of old prefix) (f : q ≡ technology_of new prefix)
    (apart : is_joint old new p q ≡ false) where
  abbrev own : Group
  own = record { old = p; new = q }

  only : (place : ℕ) (head : Option (List ℕ)) → slice_get (Some prefix ∷ []) place ≡ Some head
      → head ≡ Some prefix
  only zero head g = sym (ap (λ o. unwrap_or o head) g)
  only (suc place) head g = absurd (let bad : ⊥ = cc in bad)

  own_longest : (own ≡ joint) ⊎ Has (Some prefix ∷ []) (longer_of p q)
      → longer_of p q ≡ Some prefix
  own_longest (inl same) =
      absurd (true≢false (sym (joint_is_joint old new)
      ∙ ap (λ g. is_joint old new g.old g.new) (sym same) ∙ apart))
  own_longest (inr there) = only there.place (longer_of p q) there.stands

  own_group : (other : Group) → IsOf own (Some prefix ∷ []) other → IsGroupOf old new prefix other
  own_group other is = (
    is.0 ∙ (λ i. record { old = e i; new = f i }),
    ap (λ g. longer_of g.old g.new) is.0 ∙ own_longest is.1,
  )

  pub own_adds : (before after : Entries) {T F : Type 0} (result : Result T F)
      → OnOk result (Adds (IsOf own (Some prefix ∷ [])) before after)
      → OnOk result (Adds (IsGroupOf old new prefix) before after)
  own_adds before after result h =
      adds_wider (IsOf own (Some prefix ∷ [])) (IsGroupOf old new prefix) before after own_group
      result h

-- ---- one technology prefix after another
module _ (old new : List Command) (heads : Heads) where
  pub none_in_order : (entries : Entries) → AddsInOrder old new heads 0 entries entries
  none_in_order entries = record {
    more = [];
    parts = sym (append-nil entries);
    ordered = record {
      head_place = λ place. 0;
      below = λ place low. absurd (omega (arith, low));
      rising = λ place later order low. absurd (omega (arith, low));
      each = λ place set digits e. absurd (none place set digits e);
    };
  }
    where
      none : (place : ℕ) (set : NumberSet) (digits : List ℕ) → EntryAt [] place set digits → ⊥
      none place set digits e = let bad : ⊥ = cc in bad

  module _ (bound : ℕ) (head : Option (List ℕ)) (at : slice_get heads bound ≡ Some head)
      (so_far more : Entries) (h : AreInOrder old new heads bound so_far)
      (each : (place : ℕ) (set : NumberSet) (digits : List ℕ) → EntryAt more place set digits
      → IsGroupOfHead old new head (group_of set)) where
    abbrev next_place : ℕ → ℕ
    next_place place = cond (nat_lt place (length so_far)) (h.head_place place) bound

    before_is : (place : ℕ) → place < length so_far → next_place place ≡ h.head_place place
    before_is place low =
        ap (λ t. cond t (h.head_place place) bound)
        (let less : nat_lt place (length so_far) ≡ true = grind (arith, nat_tests) in less)

    after_is : (place : ℕ) → length so_far ≤ place → next_place place ≡ bound
    after_is place low =
        ap (λ t. cond t (h.head_place place) bound)
        (let more : nat_lt place (length so_far) ≡ false = grind (arith, nat_tests) in more)

    -- a place is in the one part or in the other
    split_at : (place : ℕ) → (place < length so_far) ⊎ (length so_far ≤ place)
    split_at place = by (nat_lt place (length so_far)) refl
      where
        by : (t : Bool) → nat_lt place (length so_far) ≡ t
            → (place < length so_far) ⊎ (length so_far ≤ place)
        by true e = inl (let low : place < length so_far = grind (arith, nat_tests) in low)
        by false e = inr (let low : length so_far ≤ place = grind (arith, nat_tests) in low)

    at_most : (place : ℕ) → next_place place ≤ bound
    at_most place = by (split_at place)
      where
        by : (place < length so_far) ⊎ (length so_far ≤ place) → next_place place ≤ bound
        by (inl low) =
            let is = before_is place low in
            let less = h.below place low in
            omega (arith, is, less)
        by (inr low) = let is = after_is place low in omega (arith, is)

    rises : (place later : ℕ) → place ≤ later → next_place place ≤ next_place later
    rises place later order = by (split_at later)
      where
        by : (later < length so_far) ⊎ (length so_far ≤ later)
            → next_place place ≤ next_place later
        by (inl low) =
            let first : place < length so_far = omega (arith, order, low) in
            let is = before_is place first in
            let other = before_is later low in
            let up = h.rising place later order low in
            omega (arith, is, other, up)
        by (inr low) =
            let other = after_is later low in
            let most = at_most place in
            omega (arith, other, most)

    place_of : (place : ℕ) (set : NumberSet) (digits : List ℕ)
        → EntryAt (so_far ++ more) place set digits
        → IsGroupAt old new heads (next_place place) (group_of set)
    place_of place set digits e = by (in_either so_far more place (set, digits) e)
      where
        by : (slice_get so_far place ≡ Some (set, digits)) ⊎ Stands so_far more place (set, digits)
            → IsGroupAt old new heads (next_place place) (group_of set)
        by (inl f) =
            let low = stands_within so_far place (set, digits) f in
            subst (λ n. IsGroupAt old new heads n (group_of set)) (sym (before_is place low))
            (h.each place set digits f)
        by (inr s) =
            let start = s.at in
            let low : length so_far ≤ place = omega (arith, start) in
            subst (λ n. IsGroupAt old new heads n (group_of set)) (sym (after_is place low))
            (record {
              head = head;
              stands = at;
              is = each s.rest set digits s.stands;
            })

    more_in_order : AreInOrder old new heads (bound + 1) (so_far ++ more)
    more_in_order = record {
      head_place = next_place;
      below = λ place low. let most = at_most place in omega (arith, most);
      rising = λ place later order low. rises place later order;
      each = place_of;
    }

  pub one_more_head : (bound : ℕ) (head : Option (List ℕ)) → slice_get heads bound ≡ Some head
      → (before between after : Entries) → AddsInOrder old new heads bound before between
      → Adds (IsGroupOfHead old new head) between after
      → AddsInOrder old new heads (bound + 1) before after
  one_more_head bound head at before between after one two = record {
    more = one.more ++ two.more;
    parts = two.parts ∙ ap (λ l. l ++ two.more) one.parts ∙ append_assoc before one.more two.more;
    ordered = more_in_order bound head at one.more two.more one.ordered two.each;
  }

-- ---- the whole
module _ (old new : List Command) (heads : Heads) (once : IsEachOnce heads) (bound : ℕ)
    (joint_heads : Heads) (first between after : Entries) (start : first ≡ [])
    (one : Adds (IsOf joint joint_heads) first between)
    (two : AddsInOrder old new heads bound between after) where
  abbrev entries : Entries
  entries = one.more ++ two.more

  -- a set of the one part or of the other
  record InJoint (place : ℕ) (set : NumberSet) : Type 0 where
    pub low : place < length one.more
    pub is : group_of set ≡ joint

  record InOwn (place : ℕ) (set : NumberSet) : Type 0 where
    pub rest : ℕ
    pub at : place ≡ length one.more + rest
    pub within : rest < length two.more
    pub group : IsGroupAt old new heads (two.ordered.head_place rest) (group_of set)

  of_part : (place : ℕ) (set : NumberSet) → StandsAt (keys_of entries) place set
      → InJoint place set ⊎ InOwn place set
  of_part place set stands =
      let there = entry_stands entries place set stands in
      by there.digits (in_either one.more two.more place (set, there.digits) there.stands)
    where
      by : (digits : List ℕ) → (slice_get one.more place ≡ Some (set, digits))
          ⊎ Stands one.more two.more place (set, digits) → InJoint place set ⊎ InOwn place set
      by digits (inl f) = inl (record {
        low = stands_within one.more place (set, digits) f;
        is = (one.each place set digits f).0;
      })
      by digits (inr s) = inr (record {
        rest = s.rest;
        at = s.at;
        within = stands_within two.more s.rest (set, digits) s.stands;
        group = two.ordered.each s.rest set digits s.stands;
      })

  -- a group of its own has a technology prefix
  prefix_of : (place : ℕ) (group : Group) → (at : IsGroupAt old new heads place group)
      → longer_of group.old group.new ≡ at.head
  prefix_of place group at = by at.head at.is
    where
      by : (head : Option (List ℕ)) → IsGroupOfHead old new head group
          → longer_of group.old group.new ≡ head
      by None is = absurd is
      by (Some prefix) is = is.1

  not_joint : (place : ℕ) (group : Group) → IsGroupAt old new heads place group → group ≡ joint
      → ⊥
  not_joint place group at same = by at.head at.is
    where
      by : (head : Option (List ℕ)) → IsGroupOfHead old new head group → ⊥
      by None is = is
      by (Some prefix) is =
          let none : None ≡ Some prefix = sym (ap (λ g. longer_of g.old g.new) same) ∙ is.1 in
          let bad : ⊥ = cc in bad

  -- groups of one place are one
  same_place : (place : ℕ) (group other : Group) → IsGroupAt old new heads place group
      → IsGroupAt old new heads place other → group ≡ other
  same_place place group other at there =
      by at.head at.is there.head there.is
      (ap (λ o. unwrap_or o at.head) (sym at.stands ∙ there.stands))
    where
      by : (head : Option (List ℕ)) → IsGroupOfHead old new head group
          → (head' : Option (List ℕ)) → IsGroupOfHead old new head' other → head ≡ head'
          → group ≡ other
      by None is head' is' e = absurd is
      by (Some prefix) is None is' e = absurd is'
      by (Some prefix) is (Some prefix') is' e =
          let same : prefix ≡ prefix' = ap (λ o. unwrap_or o prefix) e in
          is.0
          ∙ (λ i. record { old = technology_of old (same i); new = technology_of new (same i) })
          ∙ sym is'.0

  -- and one group has one place
  one_place : (place other : ℕ) (group : Group) → IsGroupAt old new heads place group
      → IsGroupAt old new heads other group → place ≡ other
  one_place place other group at there =
      once place other at.head at.stands
      (there.stands ∙ ap (λ h. Some h) (sym (prefix_of other group there)
      ∙ prefix_of place group at))

  joint_before : (place later : ℕ) (set other : NumberSet) → InJoint place set ⊎ InOwn place set
      → InJoint later other ⊎ InOwn later other → place ≤ later → group_of other ≡ joint
      → group_of set ≡ joint
  joint_before place later set other (inl p) q order same = p.is
  joint_before place later set other (inr p) (inl q) order same =
      let at = p.at in
      let low = q.low in
      absurd (omega (arith, order, at, low))
  joint_before place later set other (inr p) (inr q) order same =
      absurd (not_joint (two.ordered.head_place q.rest) (group_of other) q.group same)

  stand_together : (x y z : ℕ) (a b c : NumberSet) → InJoint x a ⊎ InOwn x a
      → InJoint y b ⊎ InOwn y b → InJoint z c ⊎ InOwn z c → x ≤ y → y ≤ z
      → group_of a ≡ group_of c → group_of b ≡ group_of a
  stand_together x y z a b c (inl p) q r xy yz same =
      joint_before y z b c q r yz (sym same ∙ p.is) ∙ sym p.is
  stand_together x y z a b c (inr p) (inl q) r xy yz same =
      let at = p.at in
      let low = q.low in
      absurd (omega (arith, xy, at, low))
  stand_together x y z a b c (inr p) (inr q) (inl r) xy yz same =
      let at = q.at in
      let low = r.low in
      absurd (omega (arith, yz, at, low))
  stand_together x y z a b c (inr p) (inr q) (inr r) xy yz same =
      let i = p.at in
      let j = q.at in
      let k = r.at in
      let ends = one_place (two.ordered.head_place p.rest) (two.ordered.head_place r.rest)
      (group_of a) p.group
      (subst (IsGroupAt old new heads (two.ordered.head_place r.rest)) (sym same) r.group) in
      let up = two.ordered.rising p.rest q.rest (omega (arith, xy, i, j)) q.within in
      let up' = two.ordered.rising q.rest r.rest (omega (arith, yz, j, k)) r.within in
      let equal : two.ordered.head_place q.rest ≡ two.ordered.head_place p.rest =
      omega (arith, ends, up, up') in
      same_place (two.ordered.head_place p.rest) (group_of b) (group_of a)
      (subst (λ n. IsGroupAt old new heads n (group_of b)) equal q.group) p.group

  grouped : AreGrouped (keys_of entries)
  grouped = record {
    together = λ x y z a b c at_x at_y at_z xy yz same.
        stand_together x y z a b c (of_part x a at_x) (of_part y b at_y) (of_part z c at_z) xy yz
        same;
    joint_first = λ place later set other at there order same.
        joint_before place later set other (of_part place set at) (of_part later other there) order
        same;
  }

  pub all_grouped : AreGrouped (keys_of after)
  all_grouped =
      subst (λ es. AreGrouped (keys_of es))
      (sym (two.parts ∙ ap (λ es. es ++ two.more) (one.parts ∙ ap (λ es. es ++ one.more) start)))
      grouped
