-- Where digits leave the ways to longer technology prefixes, by the character that follows.
use Rattle.std.proofs.Common.{◌≡◌, ℕ, zero, suc, ◌+◌, ◌-◌, ◌*◌, ◌<◌, ◌≤◌, ◌==◌, ◌&&◌, ◌||◌, Bool, true, false, cond, List, [], ◌∷◌, ◌++◌, length, length-append, filter, slice_get, refl, sym, ap, ◌∙◌, arith, true≢false}
use Rattle.std.specs.Prelude.{Some, None, count_by}
use Rattle.std.specs.List.{All, list_all, list_any, sum_by}
use Rattle.std.proofs.lemmas.Bool.{and_parts, eqb-true, eqb-false, eq-eqb, ne_eqb}
use Rattle.std.proofs.lemmas.List.Sums.{sum_by-cons}
use Rattle.gk_terms.specs.Dialled.{is_dialled_byte}
use Rattle.difference_counts.specs.Branches.{Branching, rest_in, room_of, has_flag, has_room, leaves_at, branch_has_at, over_flags, over_branch, IsOn}
use Rattle.difference_counts.specs.Numbers.{character_at, sum_to}
use Rattle.difference_counts.specs.Places.{is_just}
use Rattle.difference_counts.specs.Walk.{over_ends}
use Rattle.difference_counts.proofs.SumLemmas.{sum_to_same, sum_to_both, sum_to_zeros, sum_to_one, one_character}
use Rattle.difference_counts.proofs.TextLemmas.{begins, begins_on}

-- ---- texts
begins_long : (text front : List ℕ) → begins text front ≡ true → length front ≤ length text
begins_long text [] h = omega arith
begins_long [] (y ∷ front) h = absurd (true≢false (sym h))
begins_long (x ∷ text) (y ∷ front) h =
    let more = begins_long text front (and_parts (y == x) (begins text front) h).1 in
    omega (arith, more)

begins_whole : (text front : List ℕ) → begins text front ≡ true → length text ≡ length front
    → text ≡ front
begins_whole [] [] h e = refl
begins_whole (x ∷ text) [] h e = absurd (omega (arith, e))
begins_whole [] (y ∷ front) h e = absurd (omega (arith, e))
begins_whole (x ∷ text) (y ∷ front) h e =
    let parts = and_parts (y == x) (begins text front) h in
    let more = begins_whole text front parts.1
    (let w : length text ≡ length front = omega (arith, e) in w) in
    let same : x ≡ y = sym (eqb-true y x parts.0) in
    λ i. same i ∷ more i

past : (text : List ℕ) (place : ℕ) → length text ≤ place → slice_get text place ≡ None
past [] place h = refl
past (x ∷ text) zero h = absurd (omega (arith, h))
past (x ∷ text) (suc place) h = past text place (let w : length text ≤ place = omega (arith, h) in w)

record HasByte (text : List ℕ) (place : ℕ) : Type 0 where
  pub byte : ℕ
  pub stands : slice_get text place ≡ Some byte
  pub dialled : is_dialled_byte byte ≡ true

byte_at : (text : List ℕ) (place : ℕ) → place < length text
    → list_all is_dialled_byte text ≡ true → HasByte text place
byte_at [] place h e = absurd (omega (arith, h))
byte_at (x ∷ text) zero h e = record {
  byte = x;
  stands = refl;
  dialled = (and_parts (is_dialled_byte x) (list_all is_dialled_byte text) e).0;
}
byte_at (x ∷ text) (suc place) h e =
    let there = byte_at text place (let w : place < length text = omega (arith, h) in w)
    (and_parts (is_dialled_byte x) (list_all is_dialled_byte text) e).1 in
    record { byte = there.byte; stands = there.stands; dialled = there.dialled }

-- ---- all of a list
first_of : {X : Type 0} (P : X → Type 0) (x : X) (xs : List X) → All P (x ∷ xs) → P x
first_of P x xs h = h 0 x (omega arith)

rest_of_all : {X : Type 0} (P : X → Type 0) (x : X) (xs : List X) → All P (x ∷ xs) → All P xs
rest_of_all P x xs h k d low = h (suc k) d (omega (arith, low))

all_none : {X : Type 0} (P : X → Type 0) → All P []
all_none P k d low = absurd (omega (arith, low))

all_first : {X : Type 0} (P : X → Type 0) (x : X) (xs : List X) → P x → All P xs
    → All P (x ∷ xs)
all_first P x xs first others zero d low = first
all_first P x xs first others (suc k) d low = others k d (omega (arith, low))

-- ---- one branch
module _ (f : List ℕ → ℕ → ℕ → ℕ) (rest : List ℕ) (dialled : list_all is_dialled_byte rest ≡ true)
    (less : ℕ) where
  abbrev here : Branching → ℕ → ℕ
  here branch n = cond (leaves_at (length rest) n branch) (f rest n less) 0

  abbrev on : Branching → ℕ → ℕ
  on branch n =
      cond (branch_has_at (length rest) (character_at n) branch) (over_branch f branch) 0

  module _ (branch : Branching) (is_on : IsOn rest (suc less) branch) where
    ends_here : length (rest_in branch) ≡ length rest
        → over_branch f branch ≡ sum_to 12 (λ n. here branch n + on branch n)
    unfolding over_ends
    ends_here e =
        let same : rest_in branch ≡ rest = begins_whole (rest_in branch) rest is_on.begins e in
        let left : room_of branch - length (rest_in branch) ≡ suc less =
        (let room = is_on.room in
        let w : room_of branch - length (rest_in branch) ≡ suc less = omega (arith, room, e) in w) in
        let none : (n : ℕ) → branch_has_at (length rest) (character_at n) branch ≡ false =
        λ n. ap (is_just (character_at n)) (past (rest_in branch) (length rest)
        (let w : length (rest_in branch) ≤ length rest = omega (arith, e) in w)) in
        let whole : over_branch f branch
        ≡ sum_to 12 (λ n. cond (has_flag n branch) (f rest n less) 0) =
        (λ i. cond (list_all is_dialled_byte (same i))
        (over_flags branch.1.1 (left i) (f (same i))) 0)
        ∙ ap (λ t. cond t (over_flags branch.1.1 (suc less) (f rest)) 0) dialled in
        whole
        ∙ sum_to_same 12 (λ n. cond (has_flag n branch) (f rest n less) 0)
        (λ n. here branch n + on branch n)
        (λ n low. one n (has_flag n branch) (length (rest_in branch) == length rest)
        (branch_has_at (length rest) (character_at n) branch)
        (eq-eqb (length (rest_in branch)) (length rest) e) (none n))
      where
        one : (n : ℕ) (flag same has : Bool) → same ≡ true → has ≡ false
            → cond flag (f rest n less) 0
            ≡ cond (same && flag) (f rest n less) 0 + cond has (over_branch f branch) 0
        one n flag same has e g =
            let a : cond (same && flag) (f rest n less) 0 ≡ cond flag (f rest n less) 0 =
            ap (λ t. cond (t && flag) (f rest n less) 0) e in
            let b : cond has (over_branch f branch) 0 ≡ 0 =
            ap (λ t. cond t (over_branch f branch) 0) g in
            omega (arith, a, b)

    goes_on : (length (rest_in branch) ≡ length rest → ⊥)
        → over_branch f branch ≡ sum_to 12 (λ n. here branch n + on branch n)
    goes_on other =
        let long = begins_long (rest_in branch) rest is_on.begins in
        let none : (length (rest_in branch) == length rest) ≡ false =
        ne_eqb (length (rest_in branch)) (length rest) other in
        by (list_all is_dialled_byte (rest_in branch)) refl
        (let w : length rest < length (rest_in branch) = omega (arith, long, other) in w)
        ∙ sum_to_same 12 (on branch) (λ n. here branch n + on branch n)
        (λ n low. one n (length (rest_in branch) == length rest) none)
      where
        one : (n : ℕ) (same : Bool) → same ≡ false
            → on branch n ≡ cond (same && has_flag n branch) (f rest n less) 0 + on branch n
        one n same e =
            let a : cond (same && has_flag n branch) (f rest n less) 0 ≡ 0 =
            ap (λ t. cond (t && has_flag n branch) (f rest n less) 0) e in
            omega (arith, a)

        nothing : (t : Bool) (v : ℕ) → v ≡ 0 → cond t v 0 ≡ 0
        nothing true v e = e
        nothing false v e = refl

        by : (t : Bool) → list_all is_dialled_byte (rest_in branch) ≡ t
            → length rest < length (rest_in branch)
            → over_branch f branch ≡ sum_to 12 (on branch)
        by true e low =
            let there = byte_at (rest_in branch) (length rest) low e in
            sym (one_character (over_branch f branch) (rest_in branch) (length rest) there.byte
            there.stands there.dialled)
        by false e low =
            let whole : over_branch f branch ≡ 0 =
            ap (λ t. cond t (over_flags branch.1.1 (room_of branch - length (rest_in branch))
            (f (rest_in branch))) 0) e in
            whole
            ∙ sym (sum_to_zeros 12)
            ∙ sum_to_same 12 (λ n. 0) (on branch)
            (λ n w. sym (nothing (branch_has_at (length rest) (character_at n) branch)
            (over_branch f branch) whole))

    one_branch : over_branch f branch ≡ sum_to 12 (λ n. here branch n + on branch n)
    one_branch = by (length (rest_in branch) == length rest) refl
      where
        by : (t : Bool) → (length (rest_in branch) == length rest) ≡ t
            → over_branch f branch ≡ sum_to 12 (λ n. here branch n + on branch n)
        by true e = ends_here (eqb-true (length (rest_in branch)) (length rest) e)
        by false e = goes_on (eqb-false (length (rest_in branch)) (length rest) e)

  -- ---- several branches
  zero_times : (v : ℕ) → 0 * v + 0 ≡ 0
  zero_times v = omega arith

  abbrev pub here_in : List Branching → ℕ → ℕ
  here_in branches n = count_by (leaves_at (length rest) n) branches * f rest n less

  abbrev pub on_in : List Branching → ℕ → ℕ
  on_in branches n =
      sum_by (over_branch f)
      (filter (branch_has_at (length rest) (character_at n)) branches)

  pub by_character : (branches : List Branching) → All (IsOn rest (suc less)) branches
      → sum_by (over_branch f) branches ≡ sum_to 12 (λ n. here_in branches n + on_in branches n)
  by_character [] h =
      sym (sum_to_same 12 (λ n. here_in [] n + on_in [] n) (λ n. 0)
      (λ n low. zero_times (f rest n less)) ∙ sum_to_zeros 12)
  by_character (branch ∷ branches) h =
      sum_by-cons (over_branch f) branch branches
      ∙ (λ i. one_branch branch (first_of (IsOn rest (suc less)) branch branches h) i
      + by_character branches (rest_of_all (IsOn rest (suc less)) branch branches h) i)
      ∙ sym (sum_to_both 12 (λ n. here branch n + on branch n)
      (λ n. here_in branches n + on_in branches n))
      ∙ sum_to_same 12
      (λ n. here branch n + on branch n + (here_in branches n + on_in branches n))
      (λ n. here_in (branch ∷ branches) n + on_in (branch ∷ branches) n)
      (λ n low. both n (leaves_at (length rest) n branch)
      (branch_has_at (length rest) (character_at n) branch) refl refl)
    where
      both : (n : ℕ) (l t : Bool) → leaves_at (length rest) n branch ≡ l
          → branch_has_at (length rest) (character_at n) branch ≡ t
          → here branch n + on branch n + (here_in branches n + on_in branches n)
          ≡ here_in (branch ∷ branches) n + on_in (branch ∷ branches) n
      both n l t e g =
          let a = sum_by-cons (λ x. cond (leaves_at (length rest) n x) 1 0) branch branches in
          let b : here_in (branch ∷ branches) n
          ≡ (cond (leaves_at (length rest) n branch) 1 0
          + count_by (leaves_at (length rest) n) branches) * f rest n less =
          ap (λ k. k * f rest n less) a in
          let d : cond (leaves_at (length rest) n branch) 1 0 * f rest n less
          ≡ here branch n = unit (leaves_at (length rest) n branch) (f rest n less) in
          let k = kept (branch_has_at (length rest) (character_at n) branch)
          (filter (branch_has_at (length rest) (character_at n)) branches) in
          omega (arith, b, d, k)
        where
          unit : (t : Bool) (v : ℕ) → cond t 1 0 * v ≡ cond t v 0
          unit true v = omega arith
          unit false v = omega arith

          kept : (t : Bool) (others : List Branching)
              → sum_by (over_branch f) (cond t (branch ∷ others) others)
              ≡ cond t (over_branch f branch) 0 + sum_by (over_branch f) others
          kept true others = sum_by-cons (over_branch f) branch others
          kept false others = omega arith

-- ---- by how many characters may follow the technology prefix
module _ (f : Branching → ℕ) where
  pub by_room : (branches : List Branching)
      → sum_to 33 (λ room. sum_by f (filter (has_room room) branches)) ≡ sum_by f branches
  by_room [] = sum_to_zeros 33
  by_room (branch ∷ branches) =
      sum_to_same 33 (λ room. sum_by f (filter (has_room room) (branch ∷ branches)))
      (λ room. cond (room_of branch == room) (f branch) 0
      + sum_by f (filter (has_room room) branches))
      (λ room low. kept (room_of branch == room) (filter (has_room room) branches))
      ∙ sum_to_both 33 (λ room. cond (room_of branch == room) (f branch) 0)
      (λ room. sum_by f (filter (has_room room) branches))
      ∙ (λ i. sum_to_one (room_of branch) (f branch) 33
      (let w : room_of branch < 33 = omega arith in w) i + by_room branches i)
      ∙ sym (sum_by-cons f branch branches)
    where
      kept : (t : Bool) (others : List Branching)
          → sum_by f (cond t (branch ∷ others) others)
          ≡ cond t (f branch) 0 + sum_by f others
      kept true others = sum_by-cons f branch others
      kept false others = omega arith

-- ---- where branches go on
pub on_room : (room : ℕ) (branches : List Branching)
    → All (IsOn [] room) (filter (has_room room) branches)
on_room room [] = all_none (IsOn [] room)
on_room room (branch ∷ branches) = by (has_room room branch) refl (on_room room branches)
  where
    by : (t : Bool) → has_room room branch ≡ t
        → All (IsOn [] room) (filter (has_room room) branches)
        → All (IsOn [] room) (cond t (branch ∷ filter (has_room room) branches)
        (filter (has_room room) branches))
    by true e others =
        all_first (IsOn [] room) branch (filter (has_room room) branches)
        (record {
          begins = refl;
          room = eqb-true (room_of branch) room e ∙ (let w : room ≡ 0 + room = omega arith in w);
        })
        others
    by false e others = others

pub on_next : (rest : List ℕ) (most less character : ℕ) → most ≡ suc less
    → (branches : List Branching) → All (IsOn rest most) branches
    → All (IsOn (rest ++ character ∷ []) less)
    (filter (branch_has_at (length rest) character) branches)
on_next rest most less character size [] h = all_none (IsOn (rest ++ character ∷ []) less)
on_next rest most less character size (branch ∷ branches) h =
    by (branch_has_at (length rest) character branch) refl
    (on_next rest most less character size branches
    (rest_of_all (IsOn rest most) branch branches h))
  where
    by : (t : Bool) → branch_has_at (length rest) character branch ≡ t
        → All (IsOn (rest ++ character ∷ []) less)
        (filter (branch_has_at (length rest) character) branches)
        → All (IsOn (rest ++ character ∷ []) less)
        (cond t (branch ∷ filter (branch_has_at (length rest) character) branches)
        (filter (branch_has_at (length rest) character) branches))
    by true e others =
        let first = first_of (IsOn rest most) branch branches h in
        all_first (IsOn (rest ++ character ∷ []) less) branch
        (filter (branch_has_at (length rest) character) branches)
        (record {
          begins = begins_on rest (rest_in branch) character first.begins e;
          room =
              let room = first.room in
              let long = length-append rest (character ∷ []) in
              omega (arith, room, size, long);
        })
        others
    by false e others = others

-- none goes on with a character
pub none_on : (rest : List ℕ) (character : ℕ) (f : Branching → ℕ) (branches : List Branching)
    → list_any (branch_has_at (length rest) character) branches ≡ false
    → sum_by f (filter (branch_has_at (length rest) character) branches) ≡ 0
none_on rest character f [] e = refl
none_on rest character f (branch ∷ branches) e =
    by (branch_has_at (length rest) character branch)
    (list_any (branch_has_at (length rest) character) branches) e
    (none_on rest character f branches)
  where
    by : (t u : Bool) → (t || u) ≡ false
        → (u ≡ false
        → sum_by f (filter (branch_has_at (length rest) character) branches) ≡ 0)
        → sum_by f (cond t (branch ∷ filter (branch_has_at (length rest) character) branches)
        (filter (branch_has_at (length rest) character) branches)) ≡ 0
    by true u e h = absurd (true≢false e)
    by false u e h = h e

-- past the last character no branch leaves anything
pub none_left : (f : List ℕ → ℕ → ℕ → ℕ) (rest : List ℕ) (branches : List Branching)
    → All (IsOn rest 0) branches → sum_by (over_branch f) branches ≡ 0
none_left f rest [] h = refl
none_left f rest (branch ∷ branches) h =
    let first = first_of (IsOn rest 0) branch branches h in
    let room = first.room in
    let long = begins_long (rest_in branch) rest first.begins in
    let left : room_of branch - length (rest_in branch) ≡ 0 = omega (arith, room, long) in
    let whole : over_branch f branch ≡ 0 =
    ap (λ n. cond (list_all is_dialled_byte (rest_in branch))
    (over_flags branch.1.1 n (f (rest_in branch))) 0) left
    ∙ same (list_all is_dialled_byte (rest_in branch)) in
    let cons = sum_by-cons (over_branch f) branch branches in
    let more = none_left f rest branches (rest_of_all (IsOn rest 0) branch branches h) in
    omega (arith, whole, cons, more)
  where
    same : (t : Bool) → ◌≡◌ {A = ℕ} (cond t 0 0) 0
    same true = refl
    same false = refl

-- there are none
pub no_branch : (f : Branching → ℕ) (branches : List Branching) → (length branches == 0) ≡ true
    → sum_by f branches ≡ 0
no_branch f [] e = refl
no_branch f (branch ∷ branches) e =
    absurd (let same : suc (length branches) ≡ 0 = eqb-true (suc (length branches)) 0 e in
    omega (arith, same))
