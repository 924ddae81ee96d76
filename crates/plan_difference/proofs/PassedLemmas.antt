-- What is passed for a stem, and what of it stays for the next one.
use Rattle.std.proofs.Common.{◌≡◌, ◌≢◌, ℕ, zero, suc, ◌==◌, ◌||◌, ◌+◌, ◌<◌, ◌≤◌, ◌⊎◌, inl, inr, Bool, true, false, cond, List, [], ◌∷◌, ◌++◌, length, take, drop, take-append-drop, set, get_or, slice_get, refl, sym, ap, subst, ◌∙◌, arith, tests, true≢false}
use Rattle.std.specs.Prelude.{Option, Some, None, replicate, IfSome, MatchOption}
use Rattle.std.specs.List.{SwappedAt}
use Rattle.std.specs.List.Sorted.{IsPermutation}
use Rattle.std.proofs.lemmas.Bool.{eqb-true}
use Rattle.std.proofs.lemmas.List.{take_all, get_or-set_same, get_or-set_other}
use Rattle.std.proofs.lemmas.List.Sorted.{Contains-permutation, IsPermutation-sym}
use Rattle.std.proofs.lemmas.Option.{get_or_from_slice_get, slice_get-get_or}
use Rattle.gk_commands.specs.declared.commands.Command.{Command}
use Rattle.plan_difference.specs.Blocked.{Blocked, BlockedBefore, ArePassed, AreKept, AreRaised, AreRising, IsFound, IsFreeOrLong, IsTried, IsKept, IsRaised, one_more}
use Rattle.plan_difference.specs.Walk.{Heads}
use Rattle.plan_difference.proofs.BlockedLemmas.{blocked_more}
use Rattle.plan_difference.proofs.GatherLemmas.{contains_from, has_from}
use Rattle.plan_difference.proofs.WalkLemmas.{stands_within}

-- ---- numbers
same_or_other : (n m : ℕ) → (n ≡ m) ⊎ (n ≢ m)
same_or_other n m = by (n == m) refl
  where
    itself : (k : ℕ) → (k == k) ≡ true
    itself k = search (arith, tests)

    by : (t : Bool) → (n == m) ≡ t → (n ≡ m) ⊎ (n ≢ m)
    by true e = inl (eqb-true n m e)
    by false e =
        inr (λ same. true≢false (sym (subst (λ k. (n == k) ≡ true) same (itself n)) ∙ e))

-- one more, or none
one_more_here : (place other : ℕ) → one_more place other place ≡ place + 1
one_more_here place other = by (place == place) (place == other) (itself place)
  where
    itself : (k : ℕ) → (k == k) ≡ true
    itself k = search (arith, tests)

    by : (s t : Bool) → s ≡ true → cond (s || t) (place + 1) place ≡ place + 1
    by true t e = refl
    by false t e = absurd (true≢false (sym e))

one_more_least : (place other first : ℕ) → first ≤ one_more place other first
one_more_least place other first = by (first == place || first == other)
  where
    by : (t : Bool) → first ≤ cond t (first + 1) first
    by true = omega arith
    by false = omega arith

one_more_most : (place other first : ℕ) → one_more place other first ≤ first + 1
one_more_most place other first = by (first == place || first == other)
  where
    by : (t : Bool) → cond t (first + 1) first ≤ first + 1
    by true = omega arith
    by false = omega arith

one_more_rises : (place other first later : ℕ) → first ≤ later
    → one_more place other first ≤ one_more place other later
one_more_rises place other first later up = by (same_or_other first later)
  where
    by : (first ≡ later) ⊎ (first ≢ later)
        → one_more place other first ≤ one_more place other later
    by (inl same) =
        subst (λ n. one_more place other first ≤ one_more place other n) same (omega arith)
    by (inr apart) =
        let most = one_more_most place other first in
        let least_of = one_more_least place other later in
        omega (arith, most, least_of, up, apart)

-- what is below it, and neither of the two places, was below before
not_one_more : (place other first k : ℕ) → k ≢ place → k ≢ other
    → k < one_more place other first → k < first
not_one_more place other first k apart apart' below =
    by (first == place) (first == other) refl refl below
  where
    by : (s t : Bool) → (first == place) ≡ s → (first == other) ≡ t
        → k < cond (s || t) (first + 1) first → k < first
    by false false e f low = low
    by true t e f low =
        let same = eqb-true first place e in omega (arith, low, same, apart)
    by false true e f low =
        let same = eqb-true first other f in omega (arith, low, same, apart')

-- ---- fronts
shorter : (n m : ℕ) (l : List ℕ) → n ≤ m → take n (take m l) ≡ take n l
shorter zero m l h = refl
shorter (suc n) zero l h = absurd (omega (arith, h))
shorter (suc n) (suc m) [] h = refl
shorter (suc n) (suc m) (x ∷ l) h = ap (λ t. x ∷ t) (shorter n m l (omega (arith, h)))

take_from : (least most : ℕ) (xs : List ℕ) → least ≤ most
    → take most xs ≡ take least xs ++ drop least (take most xs)
take_from least most xs low =
    sym (take-append-drop least (take most xs))
    ∙ ap (λ t. t ++ drop least (take most xs)) (shorter least most xs low)

take_less : (least most : ℕ) (xs ys : List ℕ) → least ≤ most → take most xs ≡ take most ys
    → take least xs ≡ take least ys
take_less least most xs ys low same =
    sym (shorter least most xs low) ∙ ap (take least) same ∙ shorter least most ys low

-- one character more is the same
pub take_next : (n : ℕ) (xs ys : List ℕ) → take n xs ≡ take n ys
    → slice_get xs n ≡ slice_get ys n → take (n + 1) xs ≡ take (n + 1) ys
take_next n xs ys same next =
    ap (λ m. take m xs) one ∙ step n xs
    ∙ (λ i. same i ++ those (next i)) ∙ sym (ap (λ m. take m ys) one ∙ step n ys)
  where
    one : n + 1 ≡ suc n
    one = omega arith

    those : Option ℕ → List ℕ
    those None = []
    those (Some x) = x ∷ []

    step : (k : ℕ) (l : List ℕ) → take (suc k) l ≡ take k l ++ those (slice_get l k)
    step zero [] = refl
    step zero (x ∷ l) = refl
    step (suc k) [] = refl
    step (suc k) (x ∷ l) = ap (λ t. x ∷ t) (step k l)

module _ (old new : List Command) where
  blocked_on : (stem : List ℕ) (least most : ℕ) (head : Option (List ℕ)) → least ≤ most
      → Blocked old new (take least stem) head → Blocked old new (take most stem) head
  blocked_on stem least most head low h =
      subst (λ front. Blocked old new front head) (sym (take_from least most stem low))
      (blocked_more old new head (take least stem) (drop least (take most stem)) h)

  module _ (heads : Heads) (before after : List ℕ) (stem : List ℕ) where
    -- of the next stem
    pub passed_kept : (common : ℕ) (next : List ℕ) → common ≤ 32
        → take common stem ≡ take common next
        → AreKept common before after
        → ArePassed old new heads before stem → ArePassed old new heads after next
    passed_kept common next few same kept h level low place below head at =
        by (kept level low)
      where
        by : IsKept common before after level → Blocked old new (take level next) head
        by (inl p) =
            subst (λ front. Blocked old new front head)
            (take_less level common stem next p.0 same)
            (h level low place (subst (λ n. place < n) p.1 below) head at)
        by (inr p) =
            let less = p.0 in
            blocked_on next common level head
            (let most : common ≤ level = omega (arith, less) in most)
            (subst (λ front. Blocked old new front head) same
            (h common (let some : common < 33 = omega (arith, few) in some) place
            (subst (λ n. place < n) p.1 below) head at))

  -- one more is passed, in the place of another one
  module _ (heads moved : Heads) (before after : List ℕ) (stem : List ℕ) (least place : ℕ)
      (rising : AreRising before) (first : place ≡ get_or before 32 0) (few : least ≤ 32)
      (within : place < length heads) (size : length moved ≡ length heads)
      (raised : AreRaised least place (get_or before least 0) before after)
      (swapped : SwappedAt heads moved (get_or before least 0) place)
      (here : IfSome (slice_get heads place) (Blocked old new (take least stem)))
      (passed : ArePassed old new heads before stem) where
    abbrev other : ℕ
    other = get_or before least 0

    no_later : other ≤ place
    no_later =
        let low : other ≤ get_or before 32 0 = rising least 32 few (omega arith) in
        omega (arith, low, first)

    -- the one that is passed
    blocked_here : (x : Option (List ℕ)) → get_or heads place x ≡ x
        → Blocked old new (take least stem) x
    blocked_here x e =
        subst (λ o. IfSome o (Blocked old new (take least stem)))
        (slice_get-get_or heads place x within ∙ ap (λ y. Some y) e) here

    -- the one that is passed already at a place
    passed_at : (level : ℕ) → level < 33 → (k : ℕ) → k < get_or before level 0
        → k < length heads → (x : Option (List ℕ)) → get_or heads k x ≡ x
        → Blocked old new (take level stem) x
    passed_at level low k below inside x e =
        passed level low k below x (slice_get-get_or heads k x inside ∙ ap (λ y. Some y) e)

    -- those of as many characters, before and after
    no_more : (level : ℕ) → level < 33 → get_or before level 0 ≤ place
    no_more level low =
        let last : get_or before level 0 ≤ get_or before 32 0 =
        rising level 32 (let most : level ≤ 32 = omega (arith, low) in most) (omega arith) in
        omega (arith, last, first)

    at_other : (level : ℕ) → level < 33 → other < get_or after level 0
        → (x : Option (List ℕ)) → get_or heads place x ≡ x → Blocked old new (take level stem) x
    at_other level low below x e = by (raised level low)
      where
        by : IsRaised least place other before after level → Blocked old new (take level stem) x
        by (inl p) =
            let less = p.0 in
            let same = p.1 in
            let up : get_or before level 0 ≤ other =
            rising level least (let most : level ≤ least = omega (arith, less) in most)
            (let all : least < 33 = omega (arith, few) in all) in
            absurd (omega (arith, below, same, up))
        by (inr p) = blocked_on stem least level x p.0 (blocked_here x e)

    at_here : (level : ℕ) → level < 33 → other ≢ place → place < get_or after level 0
        → (x : Option (List ℕ)) → get_or heads other x ≡ x → Blocked old new (take level stem) x
    at_here level low apart below x e = by (raised level low)
      where
        last : get_or before level 0 ≤ place
        last = no_more level low

        less : other < place
        less = let order = no_later in omega (arith, order, apart)

        by : IsRaised least place other before after level → Blocked old new (take level stem) x
        by (inl p) =
            let same = p.1 in
            let most = last in
            absurd (omega (arith, below, same, most))
        by (inr p) = inside (same_or_other (get_or before level 0) place)
          where
            inside : (get_or before level 0 ≡ place) ⊎ (get_or before level 0 ≢ place)
                → Blocked old new (take level stem) x
            inside (inl same) =
                passed_at level low other
                (let order = less in
                let down : other < get_or before level 0 = omega (arith, order, same) in down)
                (let order = less in
                let all : other < length heads = omega (arith, order, within) in all) x e
            inside (inr differs) =
                let most = last in
                let up = one_more_most place other (get_or before level 0) in
                let is = p.1 in
                absurd (omega (arith, below, is, up, most, differs))

    at_rest : (level : ℕ) → level < 33 → (k : ℕ) → k ≢ other → k ≢ place
        → k < get_or after level 0 → k < length heads → (x : Option (List ℕ))
        → get_or heads k x ≡ x → Blocked old new (take level stem) x
    at_rest level low k apart apart' below inside x e =
        passed_at level low k (by (raised level low)) inside x e
      where
        by : IsRaised least place other before after level → k < get_or before level 0
        by (inl p) = let same = p.1 in omega (arith, below, same)
        by (inr p) =
            not_one_more place other (get_or before level 0) k apart' apart
            (subst (λ n. k < n) p.1 below)

    pub passed_moved : ArePassed old new moved after stem
    passed_moved level low k below x at =
        by (same_or_other k other) (same_or_other k place)
      where
        value : get_or moved k x ≡ x
        value = get_or_from_slice_get moved k x x at

        inside : k < length heads
        inside = let all = stands_within moved k x at in omega (arith, all, size)

        by : (k ≡ other) ⊎ (k ≢ other) → (k ≡ place) ⊎ (k ≢ place)
            → Blocked old new (take level stem) x
        by (inl same) b =
            at_other level low (subst (λ n. n < get_or after level 0) same below) x
            (sym (swapped.0 x) ∙ ap (λ n. get_or moved n x) (sym same) ∙ value)
        by (inr apart) (inl same) =
            at_here level low (λ e. apart (same ∙ sym e))
            (subst (λ n. n < get_or after level 0) same below) x
            (sym (swapped.1 x) ∙ ap (λ n. get_or moved n x) (sym same) ∙ value)
        by (inr apart) (inr apart') =
            at_rest level low k apart apart' below inside x
            (sym (swapped.2 k x apart apart') ∙ value)

    pub rising_moved : AreRising after
    rising_moved level later order low =
        by (raised level (let less : level < 33 = omega (arith, order, low) in less))
        (raised later low)
      where
        up : get_or before level 0 ≤ get_or before later 0
        up = rising level later order low

        by : IsRaised least place other before after level
            → IsRaised least place other before after later
            → get_or after level 0 ≤ get_or after later 0
        by (inl p) (inl q) =
            let same = p.1 in
            let same' = q.1 in
            let rises = up in
            omega (arith, same, same', rises)
        by (inl p) (inr q) =
            let same = p.1 in
            let is = q.1 in
            let least_of = one_more_least place other (get_or before later 0) in
            let rises = up in
            omega (arith, same, is, least_of, rises)
        by (inr p) (inl q) =
            let more = p.0 in
            let less = q.0 in
            absurd (omega (arith, more, less, order))
        by (inr p) (inr q) =
            let is = p.1 in
            let is' = q.1 in
            let both = one_more_rises place other (get_or before level 0) (get_or before later 0) up
            in
            omega (arith, is, is', both)

    pub first_moved : place + 1 ≡ get_or after 32 0
    first_moved = by (raised 32 (omega arith))
      where
        by : IsRaised least place other before after 32 → place + 1 ≡ get_or after 32 0
        by (inl p) = let less = p.0 in absurd (omega (arith, less, few))
        by (inr p) =
            let is = p.1 in
            let more : one_more place other (get_or before 32 0) ≡ place + 1 =
            ap (one_more place other) (sym first) ∙ one_more_here place other in
            omega (arith, is, more)

  -- what is passed for all of a stem
  pub passed_all : (heads : Heads) (firsts stem : List ℕ) → length stem ≤ 32
      → ArePassed old new heads firsts stem
      → BlockedBefore old new heads stem (get_or firsts 32 0)
  passed_all heads firsts stem few h place below head at =
      subst (λ front. Blocked old new front head) (take_all 32 stem few)
      (h 32 (omega arith) place below head at)

-- nothing is passed at first
pub none_passed : (old new : List Command) (heads : Heads) (firsts stem : List ℕ)
    → ((level : ℕ) → get_or firsts level 0 ≡ 0) → ArePassed old new heads firsts stem
none_passed old new heads firsts stem zeros level low place below head at =
    let none = zeros level in absurd (let bad : ⊥ = omega (arith, none, below) in bad)

-- ---- the tables
-- those below a bound are raised, and the others as they were
pub record AreRaisedBelow (least place other : ℕ) (before now : List ℕ) (bound : ℕ) : Type 0 where
  pub below : (level : ℕ) → level < bound → IsRaised least place other before now level
  pub rest : (level : ℕ) → bound ≤ level → get_or now level 0 ≡ get_or before level 0

pub raised_first : (least place other : ℕ) (firsts : List ℕ)
    → AreRaisedBelow least place other firsts firsts least
raised_first least place _ firsts = record {
  below = λ level less. inl (less, refl);
  rest = λ level low. refl;
}

pub raised_next : (least place other : ℕ) (before now : List ℕ) (at : ℕ) → least ≤ at
    → at < length now → AreRaisedBelow least place other before now at → (after : List ℕ)
    → after ≡ set now at (one_more place other (get_or now at 0))
    → AreRaisedBelow least place other before after (at + 1)
raised_next least place other before now at low within h after is =
    subst (λ l. AreRaisedBelow least place other before l (at + 1)) (sym is) (record {
      below = λ level less. by level less (same_or_other level at);
      rest = λ level more.
          get_or-set_other now at level value 0
          (λ same. let bad : ⊥ = omega (arith, more, same) in bad)
          ∙ h.rest level (let up : at ≤ level = omega (arith, more) in up);
    })
  where
    value : ℕ
    value = one_more place other (get_or now at 0)

    by : (level : ℕ) → level < at + 1 → (level ≡ at) ⊎ (level ≢ at)
        → IsRaised least place other before
        (set now at (one_more place other (get_or now at 0))) level
    by level less (inl same) =
        inr (
          subst (λ n. least ≤ n) (sym same) low,
          ap (λ n. get_or (set now at (one_more place other (get_or now at 0))) n 0) same
              ∙ get_or-set_same now at (one_more place other (get_or now at 0)) 0 within
              ∙ ap (one_more place other)
              (h.rest at (omega arith) ∙ ap (λ n. get_or before n 0) (sym same)),
        )
    by level less (inr apart) =
        on (h.below level (let down : level < at = omega (arith, less, apart) in down))
      where
        stays : get_or (set now at (one_more place other (get_or now at 0))) level 0
            ≡ get_or now level 0
        stays = get_or-set_other now at level (one_more place other (get_or now at 0)) 0 apart

        on : IsRaised least place other before now level
            → IsRaised least place other before
            (set now at (one_more place other (get_or now at 0))) level
        on (inl p) = inl (p.0, stays ∙ p.1)
        on (inr p) = inr (p.0, stays ∙ p.1)

-- what is kept rises too
pub rising_kept : (common : ℕ) (before after : List ℕ) → common ≤ 32 → AreKept common before after
    → AreRising before → AreRising after
rising_kept common before after few kept rising level later order low =
    by (kept level (let less : level < 33 = omega (arith, order, low) in less)) (kept later low)
  where
    by : IsKept common before after level → IsKept common before after later
        → get_or after level 0 ≤ get_or after later 0
    by (inl p) (inl q) =
        let same = p.1 in
        let same' = q.1 in
        let up = rising level later order low in
        omega (arith, same, same', up)
    by (inl p) (inr q) =
        let same = p.1 in
        let same' = q.1 in
        let up = rising level common p.0 (let all : common < 33 = omega (arith, few) in all) in
        omega (arith, same, same', up)
    by (inr p) (inl q) =
        let more = p.0 in
        let less = q.0 in
        absurd (omega (arith, more, less, order))
    by (inr p) (inr q) =
        let same = p.1 in
        let same' = q.1 in
        omega (arith, same, same')

-- those below a bound
abbrev pub AreKeptBelow : ℕ → List ℕ → List ℕ → ℕ → Type 0
AreKeptBelow common before now bound =
    (level : ℕ) → level < bound → IsKept common before now level

pub kept_first : (common : ℕ) (firsts : List ℕ) → AreKeptBelow common firsts firsts (common + 1)
kept_first common firsts level low =
    inl (let least : level ≤ common = omega (arith, low) in least, refl)

pub kept_next : (common : ℕ) (before now : List ℕ) (at : ℕ) → common < at → at < length now
    → AreKeptBelow common before now at → (after : List ℕ)
    → after ≡ set now at (get_or now common 0) → AreKeptBelow common before after (at + 1)
kept_next common before now at low within h after is level below =
    subst (λ l. IsKept common before l level) (sym is) (by (same_or_other level at))
  where
    value : ℕ
    value = get_or now common 0

    own : IsKept common before now common → value ≡ get_or before common 0
    own (inl p) = p.1
    own (inr p) = p.1

    by : (level ≡ at) ⊎ (level ≢ at)
        → IsKept common before (set now at (get_or now common 0)) level
    by (inl same) =
        inr (
          subst (λ n. common < n) (sym same) low,
          ap (λ n. get_or (set now at (get_or now common 0)) n 0) same
              ∙ get_or-set_same now at (get_or now common 0) 0 within ∙ own (h common low),
        )
    by (inr other) =
        on (h level (let less : level < at = omega (arith, below, other) in less))
      where
        stays : get_or (set now at (get_or now common 0)) level 0 ≡ get_or now level 0
        stays = get_or-set_other now at level (get_or now common 0) 0 other

        on : IsKept common before now level
            → IsKept common before (set now at (get_or now common 0)) level
        on (inl p) = inl (p.0, stays ∙ p.1)
        on (inr p) = inr (p.0, stays ∙ p.1)

-- of the technology prefix that stands at a place
pub at_place : (P : Option (List ℕ) → Type 0) (Low : ℕ → Type 0)
    (Q : ℕ → Option (List ℕ) → Type 0) (o : Option (Option (List ℕ)))
    (head : Option (List ℕ)) → o ≡ Some head → (result : Option ℕ)
    → MatchOption result (P head) (λ level. Low level × Q level head)
    → MatchOption result (IfSome o P) (λ level. Low level × IfSome o (Q level))
at_place P Low Q o head e result h =
    subst (λ x. MatchOption result (IfSome x P) (λ level. Low level × IfSome x (Q level))) (sym e) h

pub zeros : (count level : ℕ) → ◌≡◌ {A = ℕ} (get_or (replicate count 0) level 0) 0
zeros zero zero = refl
zeros zero (suc level) = refl
zeros (suc count) zero = refl
zeros (suc count) (suc level) = zeros count level

-- ---- what is found
-- of the same technology prefixes in another order
pub found_of_moved : (old new : List Command) (heads moved : Heads) (stem : List ℕ)
    (found : Option (Option (List ℕ))) → IsPermutation heads moved
    → IsFound old new moved stem found → IsFound old new heads stem found
found_of_moved old new heads moved stem None p h = λ place head at.
    let there = has_from moved head
    (Contains-permutation heads moved head p (contains_from heads place head at)) in
    h there.place head there.stands
found_of_moved old new heads moved stem (Some head) p h = (
  has_from heads head (Contains-permutation moved heads head
      (IsPermutation-sym heads moved p) (contains_from moved h.0.place head h.0.stands)),
  h.1,
)

-- by the place of the first that is not passed
pub found_at : (old new : List Command) (heads : Heads) (stem : List ℕ) (place : ℕ)
    → place < length heads → (found : Option (Option (List ℕ))) → found ≡ slice_get heads place
    → IfSome (slice_get heads place) (IsFreeOrLong old new stem)
    → IsFound old new heads stem found
found_at old new heads stem place within None e h =
    let some = slice_get-get_or heads place None within in
    let bad_one : None ≡ Some (get_or heads place None) = e ∙ some in
    absurd (let bad : ⊥ = cc in bad)
found_at old new heads stem place within (Some head) e h = (
  record { place = place; stands = sym e },
  subst (λ o. IfSome o (IsFreeOrLong old new stem)) (sym e) h,
)

-- all are passed
pub found_none : (old new : List Command) (heads : Heads) (firsts stem : List ℕ)
    → length stem ≤ 32 → ArePassed old new heads firsts stem → length heads ≤ get_or firsts 32 0
    → IsFound old new heads stem None
found_none old new heads firsts stem few passed all place head at =
    let within = stands_within heads place head at in
    passed_all old new heads firsts stem few passed place
    (let below : place < get_or firsts 32 0 = omega (arith, within, all) in below) head at

-- so, if none was found before
pub tried_of_moved : (old new : List Command) (heads moved : Heads) (stem : List ℕ)
    (before after : Option (Option (List ℕ))) → IsPermutation heads moved
    → IsTried old new moved stem before after → IsTried old new heads stem before after
tried_of_moved old new heads moved stem None after p h =
    found_of_moved old new heads moved stem after p h
tried_of_moved old new heads moved stem (Some head) after p h = h

pub rising_zeros : (count : ℕ) → AreRising (replicate count 0)
rising_zeros count level later order low =
    let one = zeros count level in
    let two = zeros count later in
    omega (arith, one, two)
