-- Numbers of the texts that go on from a front.
use Rattle.std.proofs.Common.{◌≡◌, ℕ, zero, suc, ◌+◌, ◌-◌, ◌*◌, ◌^◌, ◌<◌, ◌≤◌, Bool, true, false, cond, List, [], ◌∷◌, ◌++◌, length, take, get_or, append_assoc, append-nil, refl, sym, ap, ◌∙◌, arith}
use Rattle.std.specs.List.{sum_by}
use Rattle.std.specs.Prelude.{Option}
use Rattle.std.proofs.lemmas.List.{take_all}
use Rattle.std.proofs.lemmas.List.Sums.{sum_by_more}
use Rattle.std.proofs.Math.Nat.{add-zero, mul-le-mul_left, pow-le-pow_right}
use Rattle.plan_difference.specs.Walk.{starred}
use Rattle.difference_counts.specs.Numbers.{CHARACTERS, character_at, one_if, sum_to, up_to}
use Rattle.difference_counts.specs.Places.{is_just}
use Rattle.difference_counts.specs.Walk.{GrewBy, shorter, all_shorter, below, alike_below, first_below}
use Rattle.difference_counts.proofs.NumberLemmas.{only_length, shorter_first}
use Rattle.difference_counts.proofs.SumLemmas.{sum_to_none, sum_to_more, over_characters}

-- ---- how many there are at all
pub all_shorter_none : all_shorter 0 ≡ 0
unfolding all_shorter shorter
all_shorter_none = refl

pub all_shorter_more : (count : ℕ) → all_shorter (count + 1) ≡ all_shorter count + 12 ^ count
unfolding all_shorter shorter
all_shorter_more count =
    ap (λ n. shorter n (λ length. true)) (one count) ∙ omega arith
  where
    one : (n : ℕ) → n + 1 ≡ suc n
    one n = omega arith

pub all_shorter_first : (count : ℕ) → all_shorter (count + 1) ≡ 1 + 12 * all_shorter count
unfolding all_shorter
all_shorter_first count =
    ap (λ n. shorter n (λ length. true)) (one count) ∙ shorter_first count (λ length. true)
  where
    one : (n : ℕ) → n + 1 ≡ suc n
    one n = omega arith

-- ---- the texts that go on from a front
module _ (place_of : List ℕ → Option ℕ) (front : List ℕ) (place : ℕ) where
  -- the front alone
  pub below_none : (most : ℕ) → most ≡ 0
      → below place_of front most place ≡ one_if (is_just place (place_of front))
  unfolding below up_to
  below_none most e =
      ap (λ n. up_to n (λ rest. is_just place (place_of (front ++ rest)))) e
      ∙ ap (λ text. one_if (is_just place (place_of text))) (append-nil front)

  -- the front, and what goes on from it with each character
  pub below_more : (most less : ℕ) → most ≡ suc less
      → below place_of front most place
      ≡ one_if (is_just place (place_of front))
      + sum_to 12 (λ n. below place_of (front ++ character_at n ∷ []) less place)
  unfolding below up_to
  below_more most less e =
      ap (λ n. up_to n (λ rest. is_just place (place_of (front ++ rest)))) e
      ∙ (λ i. one_if (is_just place (place_of (append-nil front i)))
      + sum_by (λ c. up_to less (λ rest. is_just place
      (place_of (sym (append_assoc front (c ∷ []) rest) i)))) CHARACTERS)
      ∙ ap (λ n. one_if (is_just place (place_of front)) + n)
      (over_characters (λ c. up_to less (λ rest. is_just place
      (place_of ((front ++ c ∷ []) ++ rest)))))

  -- with a character after which only the length matters
  pub below_alike : (character less most : ℕ) → most ≡ suc less
      → ((rest : List ℕ) → place_of (front ++ character ∷ rest)
      ≡ place_of (starred front (suc (length rest))))
      → below place_of (front ++ character ∷ []) less place
      ≡ alike_below place_of front most place
  unfolding below alike_below
  below_alike character less most e same =
      only_length less
      (λ rest. is_just place (place_of ((front ++ character ∷ []) ++ rest)))
      (λ count. is_just place (place_of (starred front (suc count))))
      (λ rest. ap (is_just place) (ap place_of
      (append_assoc front (character ∷ []) rest) ∙ same rest))
      ∙ ap (λ n. shorter n
      (λ count. is_just place (place_of (starred front (suc count))))) (sym e)

-- ---- what has room
pub all_shorter_grows : (few more : ℕ) → all_shorter few ≤ all_shorter (few + more)
all_shorter_grows few zero =
    let same : all_shorter few ≡ all_shorter (few + 0) = ap all_shorter (sym (add-zero few)) in
    omega (arith, same)
all_shorter_grows few (suc more) =
    let before = all_shorter_grows few more in
    let next : all_shorter (few + suc more) ≡ all_shorter (few + more) + 12 ^ (few + more) =
    ap all_shorter (one few more) ∙ all_shorter_more (few + more) in
    omega (arith, before, next)
  where
    one : (n m : ℕ) → n + suc m ≡ n + m + 1
    one n m = omega arith

pub all_shorter_within : (few most : ℕ) → few < most
    → all_shorter few + 12 ^ few ≤ all_shorter most
all_shorter_within few most h =
    let grows = all_shorter_grows (few + 1) (most - (few + 1)) in
    let whole : all_shorter ((few + 1) + (most - (few + 1))) ≡ all_shorter most =
    ap all_shorter (let e : (few + 1) + (most - (few + 1)) ≡ most = omega (arith, h) in e) in
    let next = all_shorter_more few in
    omega (arith, grows, whole, next)

pub power_within : (count : ℕ) → count < 32 → 12 ^ count ≤ 12 ^ 31
power_within count h = pow-le-pow_right (omega arith) (let e : count ≤ 31 = omega (arith, h) in e)

-- so many of each length
pub room_alike : (alike few most before total : ℕ) → few < most
    → total ≤ before + alike * all_shorter few
    → before + alike * all_shorter most < 2 ^ 127 → total + alike * 12 ^ few < 2 ^ 127
room_alike alike few most before total h bounded room =
    let more = mul-le-mul_left alike (all_shorter_within few most h) in
    omega (arith, more, bounded, room)

pub bounded_alike : (alike few before between after : ℕ)
    → between ≤ before + alike * all_shorter few → after ≤ between + alike * 12 ^ few
    → after ≤ before + alike * all_shorter (few + 1)
bounded_alike alike few before between after h g =
    let more : alike * all_shorter (few + 1) ≡ alike * (all_shorter few + 12 ^ few) =
    ap (λ n. alike * n) (all_shorter_more few) in
    omega (arith, more, h, g)

module _ (place_of : List ℕ → Option ℕ) (front : List ℕ) (place : ℕ) where
  pub alike_none : alike_below place_of front 0 place ≡ 0
  unfolding alike_below shorter
  alike_none = refl

  pub alike_more : (count : ℕ)
      → alike_below place_of front (count + 1) place
      ≡ alike_below place_of front count place
      + 12 ^ count * one_if (is_just place (place_of (starred front (count + 1))))
  unfolding alike_below shorter
  alike_more count =
      ap (λ n. shorter n
      (λ count. is_just place (place_of (starred front (suc count))))) (one count)
      ∙ ap (λ n. shorter count
      (λ count. is_just place (place_of (starred front (suc count))))
      + 12 ^ count * one_if (is_just place (place_of (starred front n))))
      (sym (one count))
    where
      one : (n : ℕ) → n + 1 ≡ suc n
      one n = omega arith

-- one more length
pub grew_alike : (place_of : List ℕ → Option ℕ) (front : List ℕ)
    (alike count : ℕ) (before between after : List ℕ) → length between ≡ length before
    → GrewBy before between (λ place. alike * alike_below place_of front count place)
    → GrewBy between after (λ place. alike * 12 ^ count
    * one_if (is_just place (place_of (starred front (count + 1)))))
    → GrewBy before after (λ place. alike * alike_below place_of front (count + 1) place)
grew_alike place_of front alike count before between after size h g place within =
    let first = h place within in
    let second = g place (let e : place < length between = omega (arith, size, within) in e) in
    let more : alike * alike_below place_of front (count + 1) place
    ≡ alike * (alike_below place_of front count place
    + 12 ^ count
    * one_if (is_just place (place_of (starred front (count + 1))))) =
    ap (λ n. alike * n) (alike_more place_of front place count) in
    omega (arith, first, second, more)

-- nothing was counted yet
pub grew_none : (place_of : List ℕ → Option ℕ) (front : List ℕ) (alike : ℕ)
    (numbers : List ℕ)
    → GrewBy numbers numbers (λ place. alike * alike_below place_of front 0 place)
grew_none place_of front alike numbers place h =
    let none : alike * alike_below place_of front 0 place ≡ alike * 0 =
    ap (λ n. alike * n) (alike_none place_of front place) in
    omega (arith, none)

-- ---- character by character
-- what was counted after so many characters, and what of it is put off: of those that end
module _ (ends : List Bool) (all : ℕ) (parts left : ℕ → ℕ → ℕ) where
  abbrev pub off : (ℕ → ℕ) → ℕ → ℕ
  off f n = cond (get_or ends n false) (f n) 0

  pub record IsCounted (index count : ℕ) (before now : ℕ → ℕ) (least most : ℕ) : Type 0 where
    pub so_far : (place : ℕ) → place < count
        → now place + sum_to index (off (λ n. left n place))
        ≡ before place + sum_to index (λ n. parts n place)
    pub bounded : most + sum_to index (off (λ n. all)) ≤ least + index * all

  pub counted_none : (count : ℕ) (before : ℕ → ℕ) (least : ℕ)
      → IsCounted 0 count before before least least
  counted_none count before least = record {
    so_far = λ place h.
        let a = sum_to_none (off (λ n. left n place)) in
        let b = sum_to_none (λ n. parts n place) in
        omega (arith, a, b);
    bounded =
        let a = sum_to_none (off (λ n. all)) in
        omega (arith, a);
  }

  module _ (index count : ℕ) (before now : ℕ → ℕ) (least most : ℕ)
      (counted : IsCounted index count before now least most) where
    -- the texts that go on with the character were counted
    pub counted_on : get_or ends index false ≡ false → (after : ℕ → ℕ) (total : ℕ)
        → ((place : ℕ) → place < count → after place ≡ now place + parts index place)
        → total ≤ most + all → IsCounted (index + 1) count before after least total
    counted_on e after total grew bounded = record {
      so_far = λ place h.
          let first = counted.so_far place h in
          let second = grew place h in
          let a = sum_to_more index (off (λ n. left n place)) in
          let b = sum_to_more index (λ n. parts n place) in
          let none : off (λ n. left n place) index ≡ 0 = ap (λ t. cond t (left index place) 0) e in
          omega (arith, first, second, a, b, none);
      bounded =
          let first = counted.bounded in
          let a = sum_to_more index (off (λ n. all)) in
          let none : off (λ n. all) index ≡ 0 = ap (λ t. cond t all 0) e in
          omega (arith, first, bounded, a, none);
    }

    -- they are put off
    pub counted_off : get_or ends index false ≡ true
        → ((place : ℕ) → parts index place ≡ left index place)
        → IsCounted (index + 1) count before now least most
    counted_off e same = record {
      so_far = λ place h.
          let first = counted.so_far place h in
          let a = sum_to_more index (off (λ n. left n place)) in
          let b = sum_to_more index (λ n. parts n place) in
          let one : off (λ n. left n place) index ≡ left index place =
          ap (λ t. cond t (left index place) 0) e in
          let two = same place in
          omega (arith, first, a, b, one, two);
      bounded =
          let first = counted.bounded in
          let a = sum_to_more index (off (λ n. all)) in
          let one : off (λ n. all) index ≡ all = ap (λ t. cond t all 0) e in
          omega (arith, first, a, one);
    }

-- ---- the first characters
module _ (place_of : List ℕ → Option ℕ) where
  abbrev pub firsts : ℕ → ℕ → ℕ
  firsts index place =
      sum_by (λ c. below place_of (c ∷ []) 31 place) (take index CHARACTERS)

  pub first_more : (index place character : ℕ) → character ≡ get_or CHARACTERS index 0
      → index < 12
      → firsts (index + 1) place
      ≡ firsts index place + below place_of (character ∷ []) 31 place
  first_more index place character is within =
      sum_by_more (λ c. below place_of (c ∷ []) 31 place) CHARACTERS index 0 within
      ∙ ap (λ c. sum_by (λ c. below place_of (c ∷ []) 31 place) (take index CHARACTERS)
      + below place_of (c ∷ []) 31 place) (sym is)

  pub first_all : (index place : ℕ) → 12 ≤ index
      → firsts index place ≡ first_below place_of place
  unfolding first_below
  first_all index place all =
      ap (λ xs. sum_by (λ c. below place_of (c ∷ []) 31 place) xs)
      (take_all index CHARACTERS all)
