-- What is settled stays so while more sets are found.
use Rattle.std.proofs.Common.{◌≡◌, ℕ, zero, suc, ◌+◌, ◌<◌, ◌≤◌, Bool, true, false, ◌&&◌, nat_le, nat_lt, nat_eq, List, [], ◌∷◌, ◌++◌, length, take, drop, slice_get, refl, sym, ap, subst, ◌∙◌, arith, true≢false}
use Rattle.std.specs.Prelude.{Option, Some, None, unwrap_or, Result, Ok, Err, OnOk}
use Rattle.std.specs.Bool.{then_some}
use Rattle.std.specs.Cmp.Lexicographic.{pointwise}
use Rattle.std.proofs.lemmas.Bool.Decides.{nat_tests}
use Rattle.gk_terms.specs.Dialled.{IsDialled, is_dialled, dialled_of}
use Rattle.digit_patterns.specs.PatternParts.{PatternParts}
use Rattle.gk_commands.specs.declared.commands.Command.{Command}
use Rattle.compiler.specs.Technology.{technology_of, found_length}
use Rattle.plan_difference.specs.declared.number_sets.Group.{Group}
use Rattle.plan_difference.specs.Entries.{Entries, Grows, IsEntered, group_of}
use Rattle.plan_difference.specs.Sets.{set_of, hops_off, is_joint}
use Rattle.plan_difference.specs.Walk.{Heads, starred, text_of, longer_of, IsPick, Settles, SettlesStem, SettlesPattern, SettlesPatterns, SettlesGroup, SettlesHead}
use Rattle.plan_difference.proofs.EntryLemmas.{grows_then}
use Rattle.plan_difference.proofs.TextLemmas.{too_long}

-- what holds of each number below one, and of it
pub below_more : (P : ℕ → Type 0) (n : ℕ) → ((k : ℕ) → k < n → P k) → P n
    → (k : ℕ) → k < n + 1 → P k
below_more P n h last k below = by (nat_lt k n) refl
  where
    by : (t : Bool) → nat_lt k n ≡ t → P k
    by true e = h k (grind (arith, nat_tests))
    by false e = subst P (let same : n ≡ k = grind (arith, nat_tests) in same) last

module _ (old new : List Command) (before after : Entries) (grows : Grows old new before after)
  where
    entered_on : (digits : List ℕ) → IsEntered old new before digits
        → IsEntered old new after digits
    entered_on digits there = grows.kept (set_of old new digits) there

    pub settles_on : (heads : Heads) (group : Group) (stem : List ℕ) (stars : ℕ)
        → Settles old new before heads group stem stars
        → Settles old new after heads group stem stars
    settles_on heads group stem stars h digits pick =
        let p = h digits pick in
        record {
          digits = p.digits;
          pick = p.pick;
          entered = entered_on p.digits p.entered;
        }

    pub stem_on : (heads : Heads) (group : Group) (stem : List ℕ)
        → SettlesStem old new before heads group stem → SettlesStem old new after heads group stem
    stem_on heads group stem h stars below = settles_on heads group stem stars (h stars below)

    pub pattern_on : (heads : Heads) (group : Group) (front : List ℕ) (pattern : PatternParts)
        → SettlesPattern old new before heads group front pattern
        → SettlesPattern old new after heads group front pattern
    pattern_on heads group front pattern h stem parts = stem_on heads group stem (h stem parts)

    pub patterns_on : (heads : Heads) (group : Group) (front : List ℕ)
        (patterns : List PatternParts) → SettlesPatterns old new before heads group front patterns
        → SettlesPatterns old new after heads group front patterns
    patterns_on heads group front patterns h place pattern at =
        pattern_on heads group front pattern (h place pattern at)

    pub head_on : (patterns : List PatternParts) (head : Option (List ℕ))
        → SettlesHead old new before patterns head → SettlesHead old new after patterns head
    head_on patterns None h = tt
    head_on patterns (Some prefix) h = λ apart.
        let g = h apart in
        record {
          alone = stem_on _ _ _ g.alone;
          by_old = λ stays. patterns_on _ _ _ _ (g.by_old stays);
          by_new = λ stays. patterns_on _ _ _ _ (g.by_new stays);
        }

-- what stands at a place is within the list
pub stands_within : {X : Type 0} (xs : List X) (place : ℕ) (x : X) → slice_get xs place ≡ Some x
    → place < length xs
stands_within [] place x e = absurd (let bad : ⊥ = cc in bad)
stands_within (y ∷ ys) zero x e = omega arith
stands_within (y ∷ ys) (suc place) x e =
    let low = stands_within ys place x e in omega (arith, low)

-- what holds of the one at a place, and of each before it
pub places_more : {X : Type 0} (xs : List X) (P : X → Type 0) (place : ℕ) (x : X)
    → slice_get xs place ≡ Some x → P x
    → ((k : ℕ) → k < place → (y : X) → slice_get xs k ≡ Some y → P y)
    → (k : ℕ) → k < place + 1 → (y : X) → slice_get xs k ≡ Some y → P y
places_more xs P place x at here before =
    below_more (λ k. (y : _) → slice_get xs k ≡ Some y → P y) place before
    (λ y there. subst P (ap (λ o. unwrap_or o x) (sym at ∙ there)) here)

-- ---- what is left of the literals of a pattern
fronts : (front stem : List ℕ) → pointwise nat_eq (take (length front) (front ++ stem)) front ≡ true
fronts [] stem = refl
fronts (c ∷ front) stem = λ i. itself c i && fronts front stem i
  where
    itself : (n : ℕ) → nat_eq n n ≡ true
    itself n = grind (arith, nat_tests)

dropped : (front stem : List ℕ) → drop (length front) (front ++ stem) ≡ stem
dropped [] stem = refl
dropped (c ∷ front) stem = dropped front stem

module _ (old new : List Command) (after : Entries) (heads : Heads) (group : Group)
    (front : List ℕ) (pattern : PatternParts) where
  pub pattern_by_stem : (stem : List ℕ) → stem ≡ drop (length front) pattern.literals
      → {T F : Type 0} (result : Result T F)
      → OnOk result (SettlesStem old new after heads group stem)
      → OnOk result (SettlesPattern old new after heads group front pattern)
  pattern_by_stem stem e (Ok done) h = λ other parts.
      subst (SettlesStem old new after heads group)
      (e ∙ ap (drop (length front)) parts ∙ dropped front other) h
  pattern_by_stem stem e (Err fault) h = tt

  pub pattern_without : pointwise nat_eq (take (length front) pattern.literals) front ≡ false
      → SettlesPattern old new after heads group front pattern
  pattern_without e stem parts =
      absurd (true≢false (sym (fronts front stem)
      ∙ ap (λ l. pointwise nat_eq (take (length front) l) front) (sym parts) ∙ e))

-- ---- one number of stars
module _ (old new : List Command) (after : Entries) (heads : Heads) (group : Group)
    (stem : List ℕ) (stars : ℕ) where
  pub settled_by : (digits : List ℕ) → IsPick old new heads group stem stars digits
      → {T F : Type 0} (result : Result T F) → OnOk result (IsEntered old new after digits)
      → OnOk result (Settles old new after heads group stem stars)
  settled_by digits pick (Ok done) h =
      λ _ _. record { digits = digits; pick = pick; entered = h }
  settled_by digits pick (Err fault) h = tt

  pub settled_without : ((digits : List ℕ) → ¬ IsPick old new heads group stem stars digits)
      → Settles old new after heads group stem stars
  settled_without none digits pick = absurd (none digits pick)

-- ---- one head after another
-- a head makes no such digits
abbrev pub NotAt : (old new : List Command) → Group → List ℕ → ℕ → Option (List ℕ) → Type 0
NotAt old new group stem stars head =
    (digits : List ℕ) → IsDialled digits → digits ≡ starred (text_of head ++ stem) stars
    → group_of (set_of old new digits) ≡ group
    → longer_of (technology_of old digits) (technology_of new digits) ≡ head → ⊥

-- nor do those before a place
abbrev pub NotBefore : (old new : List Command) → Heads → Group → List ℕ → ℕ → ℕ → Type 0
NotBefore old new heads group stem stars bound =
    (place : ℕ) → place < bound → (head : Option (List ℕ)) → slice_get heads place ≡ Some head
    → NotAt old new group stem stars head

module _ (old new : List Command) (heads : Heads) (group : Group) (stem : List ℕ) (stars : ℕ) where
  pub not_more : (place : ℕ) (head : Option (List ℕ)) → slice_get heads place ≡ Some head
      → NotAt old new group stem stars head → NotBefore old new heads group stem stars place
      → NotBefore old new heads group stem stars (place + 1)
  not_more place head at here before =
      below_more (λ k. (other : Option (List ℕ)) → slice_get heads k ≡ Some other
      → NotAt old new group stem stars other) place before
      (λ other there. subst (NotAt old new group stem stars)
      (ap (λ o. unwrap_or o head) (sym at ∙ there)) here)

  pub not_dialled : (head : Option (List ℕ))
      → dialled_of (starred (text_of head ++ stem) stars) ≡ None
      → NotAt old new group stem stars head
  not_dialled head e digits dialled spelled grouped longest =
      let text = starred (text_of head ++ stem) stars in
      let p : dialled_of text ≡ Some text =
      ap (λ t. then_some t text) (subst (λ d. is_dialled d ≡ true) spelled dialled) in
      let bad : ⊥ = cc in bad

  pub not_picked : (head : Option (List ℕ)) (text : List ℕ)
      → dialled_of (starred (text_of head ++ stem) stars) ≡ Some text
      → ((group_of (set_of old new text) ≡ group)
      × (longer_of (technology_of old text) (technology_of new text) ≡ head) → ⊥)
      → NotAt old new group stem stars head
  not_picked head text e none digits dialled spelled grouped longest =
      let same : digits ≡ text = spelled ∙ sym (dialled_is text e) in
      none (subst (λ d. (group_of (set_of old new d) ≡ group)
      × (longer_of (technology_of old d) (technology_of new d) ≡ head)) same (grouped, longest))
    where
      dialled_is : (text : List ℕ) → dialled_of (starred (text_of head ++ stem) stars) ≡ Some text
          → text ≡ starred (text_of head ++ stem) stars
      dialled_is text e = by (is_dialled (starred (text_of head ++ stem) stars)) e
        where
          by : (t : Bool) → then_some t (starred (text_of head ++ stem) stars) ≡ Some text
              → text ≡ starred (text_of head ++ stem) stars
          by true f = sym (ap (λ o. unwrap_or o text) f)
          by false f = absurd (let bad : ⊥ = cc in bad)

  pub is_pick_of : (place : ℕ) (head : Option (List ℕ)) (text : List ℕ)
      → slice_get heads place ≡ Some head
      → dialled_of (starred (text_of head ++ stem) stars) ≡ Some text
      → (group_of (set_of old new text) ≡ group)
      × (longer_of (technology_of old text) (technology_of new text) ≡ head)
      → IsPick old new heads group stem stars text
  is_pick_of place head text at e told =
      by (is_dialled (starred (text_of head ++ stem) stars)) refl e
    where
      by : (t : Bool) → is_dialled (starred (text_of head ++ stem) stars) ≡ t
          → then_some t (starred (text_of head ++ stem) stars) ≡ Some text
          → IsPick old new heads group stem stars text
      by true d f =
          let same : starred (text_of head ++ stem) stars ≡ text = ap (λ o. unwrap_or o text) f in
          record {
            place = place;
            head = head;
            stands = at;
            spelled = sym same;
            dialled = subst (λ t. is_dialled t ≡ true) same d;
            grouped = told.0;
            longest = told.1;
          }
      by false d f = absurd (let bad : ⊥ = cc in bad)

  pub no_room : nat_le (0 + length stem + stars) 32 ≡ false → (digits : List ℕ)
      → ¬ IsPick old new heads group stem stars digits
  no_room e digits pick =
      not_dialled pick.head (too_long (text_of pick.head) stem stars
      (longer (length (text_of pick.head)) e)) digits pick.dialled
      pick.spelled pick.grouped pick.longest
    where
      longer : (head : ℕ) → nat_le (0 + length stem + stars) 32 ≡ false
          → nat_le (head + length stem + stars) 32 ≡ false
      longer head f = grind (arith, nat_tests)

  pub no_pick : (bound : ℕ) → length heads ≤ bound → NotBefore old new heads group stem stars bound
      → (digits : List ℕ) → ¬ IsPick old new heads group stem stars digits
  no_pick bound whole none digits pick =
      none pick.place (let low = within heads pick.place pick.head pick.stands in
      omega (arith, low, whole)) pick.head pick.stands digits pick.dialled pick.spelled
      pick.grouped pick.longest
    where
      within : (xs : Heads) (place : ℕ) (x : Option (List ℕ)) → slice_get xs place ≡ Some x
          → place < length xs
      within [] place x e = absurd (let bad : ⊥ = cc in bad)
      within (y ∷ ys) zero x e = omega arith
      within (y ∷ ys) (suc place) x e = let low = within ys place x e in omega (arith, low)

-- ---- one step after another, of which the second may fail
module _ (old new : List Command) (before between after : Entries) {T F : Type 0}
    (result : Result T F) (second : OnOk result (Grows old new between after)) where
  pub grows_both : Grows old new before between → OnOk result (Grows old new before after)
  grows_both first = by result second
    where
      by : (r : Result T F) → OnOk r (Grows old new between after)
          → OnOk r (Grows old new before after)
      by (Ok done) h = grows_then old new before between after first h
      by (Err fault) h = tt

  pub stem_kept : (heads : Heads) (group : Group) (stem : List ℕ)
      → SettlesStem old new between heads group stem
      → OnOk result (SettlesStem old new after heads group stem)
  stem_kept heads group stem settles = by result second
    where
      by : (r : Result T F) → OnOk r (Grows old new between after)
          → OnOk r (SettlesStem old new after heads group stem)
      by (Ok done) h = stem_on old new between after h heads group stem settles
      by (Err fault) h = tt

-- the whole of a group
pub group_settled : (old new : List Command) (first second third : Entries)
    (patterns : List PatternParts) (prefix : List ℕ) (group : Group)
    → Grows old new first second → {T F : Type 0} (result : Result T F)
    → OnOk result (Grows old new second third)
    → SettlesStem old new first (Some prefix ∷ []) group []
    → (hops_off old group.old ≡ false → SettlesPatterns old new second (Some prefix ∷ []) group
    (drop (found_length group.old) prefix) patterns)
    → OnOk result (hops_off new group.new ≡ false
    → SettlesPatterns old new third (Some prefix ∷ []) group
    (drop (found_length group.new) prefix) patterns)
    → OnOk result (SettlesGroup old new third patterns prefix group.old group.new)
group_settled old new first second third patterns prefix group one (Ok done) two alone by_old
    by_new = record {
      alone = stem_on old new first third (grows_then old new first second third one two) _ _ _
          alone;
      by_old = λ stays. patterns_on old new second third two _ _ _ _ (by_old stays);
      by_new = by_new;
    }
group_settled old new first second third patterns prefix group one (Err fault) two alone by_old
    by_new = tt

-- of a technology prefix whose group is not the joint one
pub head_settled : (old new : List Command) (after : Entries) (patterns : List PatternParts)
    (prefix : List ℕ) (s t : Option (List ℕ)) → s ≡ technology_of old prefix
    → t ≡ technology_of new prefix → {T F : Type 0} (result : Result T F)
    → OnOk result (SettlesGroup old new after patterns prefix s t)
    → OnOk result (SettlesHead old new after patterns (Some prefix))
head_settled old new after patterns prefix s t e f (Ok done) h = λ _.
    subst (λ x. SettlesGroup old new after patterns prefix x (technology_of new prefix)) e
    (subst (λ x. SettlesGroup old new after patterns prefix s x) f h)
head_settled old new after patterns prefix s t e f (Err fault) h = tt

-- the joint group is settled elsewhere
pub head_joint : (old new : List Command) (after : Entries) (patterns : List PatternParts)
    (prefix : List ℕ) (s t : Option (List ℕ)) → s ≡ technology_of old prefix
    → t ≡ technology_of new prefix → is_joint old new s t ≡ true
    → SettlesHead old new after patterns (Some prefix)
head_joint old new after patterns prefix s t e f j apart =
    absurd (true≢false (sym j ∙ (λ i. is_joint old new (e i) (f i)) ∙ apart))

-- the part of one configuration, by what is left of the prefix
pub side_settled : (old new : List Command) (after : Entries) (heads : Heads) (group : Group)
    (patterns : List PatternParts) (front other : List ℕ) → front ≡ other → (A : Type 0)
    → {T F : Type 0} (result : Result T F)
    → OnOk result (SettlesPatterns old new after heads group front patterns)
    → OnOk result (A → SettlesPatterns old new after heads group other patterns)
side_settled old new after heads group patterns front other e A (Ok done) h = λ _.
    subst (λ f. SettlesPatterns old new after heads group f patterns) e h
side_settled old new after heads group patterns front other e A (Err fault) h = tt
