-- What is counted on the ways to technology prefixes, with what is put off.
use Rattle.std.proofs.Common.{◌≡◌, ℕ, zero, suc, ◌+◌, ◌-◌, ◌*◌, ◌^◌, ◌<◌, ◌≤◌, Bool, true, false, cond, List, [], ◌∷◌, ◌++◌, length, length-drop, drop, get_or, refl, sym, ap, ◌∙◌, arith}
use Rattle.std.specs.Prelude.{Option}
use Rattle.std.specs.List.{list_all}
use Rattle.std.proofs.lemmas.Bool.{and_parts}
use Rattle.std.proofs.lemmas.List.Sums.{sum_by_push}
use Rattle.std.proofs.Math.Nat.{mul-le-mul_right}
use Rattle.gk_terms.specs.Dialled.{is_dialled_byte}
use Rattle.gk_commands.specs.declared.commands.Command.{Command}
use Rattle.plan_difference.specs.declared.number_sets.NumberSet.{NumberSet}
use Rattle.difference_counts.specs.Branches.{Branching, rest_in, room_of, over_flags, over_branch, branched, all_branched, weight, weight_of}
use Rattle.difference_counts.specs.Numbers.{character_at, one_if, sum_to}
use Rattle.difference_counts.specs.Places.{is_just}
use Rattle.difference_counts.specs.Walk.{all_shorter, alike_below, below, left_at, over_ends, place_of, rest_place}
use Rattle.difference_counts.proofs.SumLemmas.{sum_to_times, sum_to_same}
use Rattle.difference_counts.proofs.WalkLemmas.{IsCounted, off, below_more}

-- a number with what is put off
abbrev pub held : (List ℕ → Option ℕ) → List ℕ → List Branching → ℕ → ℕ
held rest_of numbers branches place = get_or numbers place 0 + all_branched rest_of branches place

-- ---- one branch more
-- of a front after whose technology prefix so many characters may be dialled
module _ (f : List ℕ → ℕ → ℕ → ℕ) (branch : Branching) (front : List ℕ) (taken : ℕ)
    (ends : List Bool) (is_front : branch.0 ≡ front) (is_taken : branch.1.0 ≡ taken)
    (is_ends : branch.1.1 ≡ ends) (most less : ℕ) (size : length front + most ≡ 32)
    (within : taken ≤ length front) (e : most ≡ suc less)
    (dialled : list_all is_dialled_byte (drop taken front) ≡ true)
    (long : length (drop taken front) ≡ length front - taken) where
  pub one_more : over_branch f branch
      ≡ over_ends ends (λ number. f (drop taken front) number less)
  one_more =
      let left : room_of branch - length (rest_in branch) ≡ suc less =
      (λ i. 32 - is_taken i - length (drop (is_taken i) (is_front i)))
      ∙ (let w : 32 - taken - length (drop taken front) ≡ suc less =
      omega (arith, size, within, e, long) in w) in
      (λ i. cond (list_all is_dialled_byte (drop (is_taken i) (is_front i)))
      (over_flags (is_ends i) (left i) (f (drop (is_taken i) (is_front i)))) 0)
      ∙ ap (λ t. cond t (over_flags ends (suc less) (f (drop taken front))) 0) dialled

-- so for what is put off
pub branch_counted : (rest_of : List ℕ → Option ℕ) (place : ℕ) (branch : Branching)
    → branched rest_of place branch
    ≡ over_branch (λ rest number less. below rest_of (rest ++ character_at number ∷ []) less place)
    branch
unfolding branched
branch_counted rest_of place branch = refl

pub branch_weight : (branch : Branching)
    → weight_of branch ≡ over_branch (λ rest number less. all_shorter (less + 1)) branch
unfolding weight_of
branch_weight branch = refl

-- as many as there are characters
pub times_over : (ends : List Bool) (k : ℕ)
    → over_ends ends (λ number. 1) * k ≡ over_ends ends (λ number. k)
unfolding over_ends
times_over ends k =
    swap (sum_to 12 (λ n. cond (get_or ends n false) 1 0)) k
    ∙ sym (sum_to_times 12 k (λ n. cond (get_or ends n false) 1 0))
    ∙ sum_to_same 12 (λ n. k * cond (get_or ends n false) 1 0)
    (λ n. cond (get_or ends n false) k 0)
    (λ n low. one (get_or ends n false))
  where
    swap : (a b : ℕ) → a * b ≡ b * a
    swap a b = omega arith

    one : (t : Bool) → k * cond t 1 0 ≡ cond t k 0
    one true = omega arith
    one false = omega arith

-- ---- the whole of a front
module _ (rest_of place_of : List ℕ → Option ℕ) (front : List ℕ) (most less : ℕ)
    (e : most ≡ suc less) (f : most - 1 ≡ less) (ends : List Bool) (all : ℕ)
    (left : ℕ → ℕ → ℕ) where
  abbrev pub parts : ℕ → ℕ → ℕ
  parts n place = below place_of (front ++ character_at n ∷ []) (most - 1) place

  pub whole_front : (start before now after : ℕ → ℕ) (index count least most_now : ℕ) → index ≡ 12
      → ((place : ℕ) → place < count
      → before place ≡ start place + 1 * one_if (is_just place (place_of front)))
      → IsCounted ends all parts left index count before now least most_now
      → ((place : ℕ) → place < count
      → after place ≡ now place + over_ends ends (λ n. left n place))
      → (place : ℕ) → place < count
      → after place ≡ start place + below place_of front most place
  unfolding over_ends
  whole_front start before now after index count least most_now is first counted last place h =
      let a = first place h in
      let b : now place + sum_to 12 (off ends all parts left (λ n. left n place))
      ≡ before place + sum_to 12 (λ n. parts n place) =
      (λ i. now place + sum_to (sym is i) (off ends all parts left (λ n. left n place)))
      ∙ counted.so_far place h
      ∙ (λ i. before place + sum_to (is i) (λ n. parts n place)) in
      let d = last place h in
      let whole : below place_of front most place
      ≡ one_if (is_just place (place_of front)) + sum_to 12 (λ n. parts n place) =
      below_more place_of front place most (most - 1)
      (let w : most ≡ suc (most - 1) = omega (arith, e) in w) in
      omega (arith, a, b, d, whole)

-- ---- room
-- for one more character
pub room_next : (all index put_off least before now : ℕ) → index < 12 → least ≤ before + 1
    → now + put_off ≤ least + index * all → before + (1 + 12 * all) < 2 ^ 127
    → now + all < 2 ^ 127
room_next all index put_off least before now within first bounded room =
    let low : index * all ≤ 11 * all =
    mul-le-mul_right all (let e : index ≤ 11 = omega (arith, within) in e) in
    omega (arith, low, first, bounded, room)

-- and for what is put off
pub room_last : (all index put_off least before now : ℕ) → index ≤ 12 → least ≤ before + 1
    → now + put_off ≤ least + index * all → now + put_off ≤ before + (1 + 12 * all)
room_last all index put_off least before now within first bounded =
    let low : index * all ≤ 12 * all = mul-le-mul_right all within in
    omega (arith, low, first, bounded)

-- ---- one branch is put off
all_drop : {X : Type 0} (test : X → Bool) (count : ℕ) (xs : List X) → list_all test xs ≡ true
    → list_all test (drop count xs) ≡ true
all_drop test zero xs h = h
all_drop test (suc count) [] h = refl
all_drop test (suc count) (x ∷ xs) h = all_drop test count xs (and_parts (test x) (list_all test xs) h).1

module _ (branches : List Branching) (branch : Branching) (front : List ℕ) (taken : ℕ)
    (ends : List Bool) (is_front : branch.0 ≡ front) (is_taken : branch.1.0 ≡ taken)
    (is_ends : branch.1.1 ≡ ends) (most : ℕ) (some : 1 ≤ most) (size : length front + most ≡ 32)
    (within : taken ≤ length front) (dialled : list_all is_dialled_byte front ≡ true) where
  over_it : (f : List ℕ → ℕ → ℕ → ℕ) → over_branch f branch
      ≡ over_ends ends (λ number. f (drop taken front) number (most - 1))
  over_it f =
      one_more f branch front taken ends is_front is_taken is_ends most (most - 1) size within
      (let w : most ≡ suc (most - 1) = omega (arith, some) in w)
      (all_drop is_dialled_byte taken front dialled) (length-drop taken front)

  pub put_off : (old new : List Command) (sets : List NumberSet) (joint : Bool) → joint ≡ true
      → (place : ℕ)
      → all_branched (rest_place old new sets) (branches ++ branch ∷ []) place
      ≡ all_branched (rest_place old new sets) branches place
      + over_ends ends (λ number. left_at old new sets joint taken front most number place)
  unfolding branched
  put_off old new sets joint e place =
      let more = sum_by_push (branched (rest_place old new sets) place) branches branch in
      let one = over_it (λ rest number less.
      below (rest_place old new sets) (rest ++ character_at number ∷ []) less place) in
      let same : over_ends ends (λ number. left_at old new sets joint taken front most number place)
      ≡ over_ends ends (λ number. left_at old new sets true taken front most number place) =
      ap (λ j. over_ends ends (λ number. left_at old new sets j taken front most number place)) e in
      omega (arith, more, one, same)

  pub put_off_weight : weight (branches ++ branch ∷ [])
      ≡ weight branches + over_ends ends (λ number. all_shorter most)
  unfolding weight_of
  put_off_weight =
      let more = sum_by_push weight_of branches branch in
      let one = over_it (λ rest number less. all_shorter (less + 1)) in
      let same : over_ends ends (λ number. all_shorter (most - 1 + 1))
      ≡ over_ends ends (λ number. all_shorter most) =
      ap (λ n. over_ends ends (λ number. all_shorter n))
      (let w : most - 1 + 1 ≡ most = omega (arith, some) in w) in
      omega (arith, more, one, same)

-- or counted by its length
pub noted : (old new : List Command) (sets : List NumberSet) (ends : List Bool) (taken : ℕ)
    (front : List ℕ) (most times : ℕ) → times ≡ over_ends ends (λ number. 1) → (joint : Bool)
    → joint ≡ false → (place : ℕ)
    → times * alike_below (place_of old new sets) front most place
    ≡ over_ends ends (λ number. left_at old new sets joint taken front most number place)
noted old new sets ends taken front most times e joint f place =
    ap (λ n. n * alike_below (place_of old new sets) front most place) e
    ∙ times_over ends (alike_below (place_of old new sets) front most place)
    ∙ ap (λ j. over_ends ends (λ number. left_at old new sets j taken front most number place))
    (sym f)
