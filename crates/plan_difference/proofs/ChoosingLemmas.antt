-- Which technology prefix is chosen for a pattern.
use Rattle.std.proofs.Common.{◌≡◌, ◌≢◌, ℕ, zero, suc, ◌==◌, ◌&&◌, ◌+◌, ◌<◌, ◌≤◌, Bool, true, false, cond, nat_le, List, [], ◌∷◌, length, filter, get_or, slice_get, refl, sym, ap, subst, ◌∙◌, arith, true≢false}
use Rattle.std.specs.Prelude.{Option, Some, None, unwrap_or, is_some, replicate}
use Rattle.std.specs.Char.{is_ascii_digit}
use Rattle.std.specs.List.{list_all}
use Rattle.std.proofs.lemmas.Bool.{eqb-true}
use Rattle.std.proofs.lemmas.Bool.Decides.{nat_tests}
use Rattle.digit_patterns.specs.PatternParts.{PatternParts, IsPattern}
use Rattle.gk_commands.specs.declared.commands.Command.{Command}
use Rattle.compiler.specs.Technology.{found_length}
use Rattle.plan_difference.specs.Blocked.{Blocked, BlockedBelow, IsFound, IsTried, IsChosen, AreChosen, has_length, literals_at}
use Rattle.plan_difference.specs.Gathered.{Has}
use Rattle.plan_difference.specs.Walk.{Heads}
use Rattle.plan_difference.proofs.Completeness.{has_kept}
use Rattle.plan_difference.proofs.WalkLemmas.{stands_within}

-- ---- patterns
pub pattern_is_short : (pattern : PatternParts) → IsPattern pattern → length pattern.literals ≤ 32
pattern_is_short pattern h =
    by (list_all is_ascii_digit pattern.literals) (length pattern.literals) pattern.dots
    (cond pattern.star 1 0) h
  where
    by : (t : Bool) (n dots star : ℕ)
        → (t && nat_le 1 (n + dots + star) && nat_le (n + dots + star) 32) ≡ true → n ≤ 32
    by true n dots star e = grind (arith, nat_tests)
    by false n dots star e = absurd (let bad : ⊥ = grind (arith, nat_tests) in bad)

-- where there are literals, there is a pattern
pub literals_within : (patterns : List PatternParts) (place : ℕ)
    → 0 < length (literals_at patterns place) → place < length patterns
literals_within [] place some =
    absurd (let bad : ⊥ = omega (arith, some) in bad)
literals_within (pattern ∷ patterns) zero some = omega arith
literals_within (pattern ∷ patterns) (suc place) some =
    let low = literals_within patterns place some in omega (arith, low)

-- ---- filters
pub filter_passes : {X : Type 0} (test : X → Bool) (xs : List X) (place : ℕ) (x : X)
    → slice_get (filter test xs) place ≡ Some x → test x ≡ true
filter_passes test [] place x at = absurd (let bad : ⊥ = cc in bad)
filter_passes {X} test (y ∷ ys) place x at =
    by (test y) refl place at (filter_passes test ys)
  where
    by : (t : Bool) → test y ≡ t → (place : ℕ)
        → slice_get (cond t (y ∷ filter test ys) (filter test ys)) place ≡ Some x
        → ((place : ℕ) (x : X) → slice_get (filter test ys) place ≡ Some x → test x ≡ true)
        → test x ≡ true
    by true e zero f rest = ap test (sym (ap (λ o. unwrap_or o y) f)) ∙ e
    by true e (suc k) f rest = rest k x f
    by false e k f rest = rest k x f

filter_has : {X : Type 0} (test : X → Bool) (xs : List X) (place : ℕ) (x : X)
    → slice_get (filter test xs) place ≡ Some x → Has xs x
filter_has test [] place x at = absurd (let bad : ⊥ = cc in bad)
filter_has {X} test (y ∷ ys) place x at = by (test y) place at (filter_has test ys)
  where
    later : Has ys x → Has (y ∷ ys) x
    later h = record { place = suc h.place; stands = h.stands }

    by : (t : Bool) → (place : ℕ)
        → slice_get (cond t (y ∷ filter test ys) (filter test ys)) place ≡ Some x
        → ((place : ℕ) (x : X) → slice_get (filter test ys) place ≡ Some x → Has ys x)
        → Has (y ∷ ys) x
    by true zero f rest = record { place = 0; stands = f }
    by true (suc k) f rest = later (rest k x f)
    by false k f rest = later (rest k x f)

-- ---- one pattern
module _ (old new : List Command) (heads : Heads) (stem : List ℕ) where
  pub tried_before : (before : Option (Option (List ℕ))) → is_some before ≡ true
      → IsTried old new heads stem before before
  tried_before None e = absurd (true≢false (sym e))
  tried_before (Some head) e = refl

  pub tried_now : (before after : Option (Option (List ℕ))) → is_some before ≡ false
      → IsFound old new heads stem after → IsTried old new heads stem before after
  tried_now None after e h = h
  tried_now (Some head) after e h = absurd (true≢false e)

  -- among none, none is found
  pub tried_among_none : (length heads == 0) ≡ true → (before : Option (Option (List ℕ)))
      → IsTried old new heads stem before before
  tried_among_none e None = λ place head at.
      let within = stands_within heads place head at in
      let empty = eqb-true (length heads) 0 e in
      absurd (omega (arith, within, empty))
  tried_among_none e (Some head) = refl

  -- of the next length
  module _ (size : ℕ) where
    abbrev those : Heads
    those = filter (has_length size) heads

    below_next : BlockedBelow old new heads stem size → IsFound old new those stem None
        → BlockedBelow old new heads stem (size + 1)
    below_next h found place head at low = by (found_length head == size) refl
      where
        by : (t : Bool) → (found_length head == size) ≡ t → Blocked old new stem head
        by true e =
            let there = has_kept (has_length size) heads place head at e in
            found there.place head there.stands
        by false e =
            h place head at
            (let less : found_length head < size = grind (arith, nat_tests) in less)

    pub chosen_next : (before after : Option (Option (List ℕ)))
        → IsChosen old new heads stem size before → IsTried old new those stem before after
        → IsChosen old new heads stem (size + 1) after
    chosen_next None None h tried = below_next h tried
    chosen_next None (Some head) h tried =
        let there = tried.0 in
        let same = eqb-true (found_length head) size
        (filter_passes (has_length size) heads there.place head there.stands) in (
          filter_has (has_length size) heads there.place head there.stands,
          tried.1,
          subst (BlockedBelow old new heads stem) (sym same) h,
        )
    chosen_next (Some head) after h tried =
        subst (IsChosen old new heads stem (size + 1)) (sym tried) h

-- ---- all patterns
abbrev nothing : Option (Option (List ℕ))
nothing = None

nones_at : (count place : ℕ) → get_or (replicate count nothing) place nothing ≡ nothing
nones_at zero zero = refl
nones_at zero (suc place) = refl
nones_at (suc count) zero = refl
nones_at (suc count) (suc place) = nones_at count place

pub chosen_first : (old new : List Command) (heads : Heads) (patterns : List PatternParts)
    (count : ℕ) (chosen : List (Option (Option (List ℕ)))) → chosen ≡ replicate count None
    → AreChosen old new heads patterns 0 chosen
chosen_first old new heads patterns count chosen e place some =
    subst (IsChosen old new heads (literals_at patterns place) 0)
    (sym (ap (λ l. get_or l place None) e ∙ nones_at count place))
    (λ k head at low. absurd (omega (arith, low)))
