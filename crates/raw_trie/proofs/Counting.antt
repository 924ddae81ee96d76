-- How many nodes the rows take.
use Rattle.std.proofs.Common.{◌≡◌, ℕ, ◌+◌, ◌*◌, ◌/◌, ◌<◌, ◌≤◌, inl, Bool, true, false, cond, ◌||◌, List, [], ◌∷◌, ◌++◌, length, get_or, fold, take, replicate, refl, sym, ap, ◌∙◌, subst, arith, None}
use Rattle.std.specs.List.{list_any, flat_map, IsDistinct, AllByRecursion}
use Rattle.std.specs.Str.{bytes_eq}
use Rattle.std.specs.Cmp.Lexicographic.{nat_list_eq_equiv}
use Rattle.std.proofs.lemmas.Bool.{false_from_ne_true}
use Rattle.std.proofs.lemmas.Grind.{flat_map-append}
use Rattle.std.proofs.lemmas.List.{append-nil, map-append, length_push, get_or-replicate, drop_all}
use Rattle.std.proofs.lemmas.List.Folds.{list_any-append}
use Rattle.std.proofs.lemmas.List.Sums.{fold-append}
use Rattle.std.proofs.lemmas.Map.Made.{length-from_keys}
use Rattle.std.proofs.lemmas.Slice.Eq.{bytes_eq-Decides}
use Rattle.digit_patterns.specs.Duplicate.{duplicate_from}
use Rattle.digit_patterns.proofs.Duplicates.{duplicate_after}
use Rattle.raw_trie.specs.Nodes.{path_of, beginnings, all_beginnings, node_count, patterns_of}
use Rattle.raw_trie.specs.Trie.{Row, At, Tells, IsTrie, end_at, with_path, with_beginnings, paths_of}

-- the paths of one row more
pub paths_of-push : (rows : List Row) (row : Row)
    → paths_of (rows ++ row ∷ []) ≡ with_beginnings (paths_of rows) (path_of row.0)
paths_of-push rows row =
    ap (λ ps. fold with_path [] ([] ∷ flat_map (λ p. beginnings (path_of p)) ps))
    (map-append (λ (r : Row). r.0) rows (row ∷ []))
    ∙ ap (λ bs. fold with_path [] ([] ∷ bs))
    (flat_map-append (λ p. beginnings (path_of p)) (patterns_of rows) (row.0 ∷ [])
    ∙ ap (λ b. flat_map (λ p. beginnings (path_of p)) (patterns_of rows) ++ b)
    (append-nil (beginnings (path_of row.0))))
    ∙ fold-append with_path [] (all_beginnings (patterns_of rows)) (beginnings (path_of row.0))

-- what there is when a path is added
member_with : (paths : List (List ℕ)) (path q : List ℕ)
    → list_any (bytes_eq q) (with_path paths path)
    ≡ (list_any (bytes_eq q) paths || bytes_eq q path)
member_with paths path q = by (list_any (bytes_eq path) paths) refl
  where
    absorbed : (t : Bool) → bytes_eq q path ≡ t → list_any (bytes_eq path) paths ≡ true
        → list_any (bytes_eq q) paths ≡ (list_any (bytes_eq q) paths || t)
    absorbed true e there =
        let same : q ≡ path = (bytes_eq-Decides q path).0 e in
        let too : list_any (bytes_eq q) paths ≡ true =
        ap (λ p. list_any (bytes_eq p) paths) same ∙ there in
        too ∙ ap (λ b. b || true) (sym too)
    absorbed false e there = sym (or_false (list_any (bytes_eq q) paths))
      where
        or_false : (b : Bool) → (b || false) ≡ b
        or_false true = refl
        or_false false = refl

    or_nothing : (b : Bool) → (b || false) ≡ b
    or_nothing true = refl
    or_nothing false = refl

    by : (t : Bool) → list_any (bytes_eq path) paths ≡ t
        → list_any (bytes_eq q) (cond t paths (paths ++ path ∷ []))
        ≡ (list_any (bytes_eq q) paths || bytes_eq q path)
    by true e = absorbed (bytes_eq q path) refl e
    by false e =
        list_any-append (bytes_eq q) paths (path ∷ [])
        ∙ ap (λ b. list_any (bytes_eq q) paths || b) (or_nothing (bytes_eq q path))

or_assoc : (a b c : Bool) → ((a || b) || c) ≡ (a || (b || c))
or_assoc true b c = refl
or_assoc false b c = refl

-- what there is when paths are added
pub members : (texts paths : List (List ℕ)) (q : List ℕ)
    → list_any (bytes_eq q) (fold with_path paths texts)
    ≡ (list_any (bytes_eq q) paths || list_any (bytes_eq q) texts)
members [] paths q = sym (or_nothing (list_any (bytes_eq q) paths))
  where
    or_nothing : (b : Bool) → (b || false) ≡ b
    or_nothing true = refl
    or_nothing false = refl
members (t ∷ ts) paths q =
    members ts (with_path paths t) q
    ∙ ap (λ b. b || list_any (bytes_eq q) ts) (member_with paths t q)
    ∙ or_assoc (list_any (bytes_eq q) paths) (bytes_eq q t) (list_any (bytes_eq q) ts)

-- paths stay different
flipped : (p q : List ℕ) → bytes_eq p q ≡ false → bytes_eq q p ≡ false
flipped p q e =
    false_from_ne_true (bytes_eq q p)
    (λ f. let g : bytes_eq p q ≡ true = (bytes_eq-Decides p q).1
    (sym ((bytes_eq-Decides q p).0 f)) in let h : true ≡ false = sym g ∙ e in cc)

all_push : (p x : List ℕ) (xs : List (List ℕ)) → AllByRecursion (λ y. bytes_eq p y ≡ false) xs
    → bytes_eq p x ≡ false → AllByRecursion (λ y. bytes_eq p y ≡ false) (xs ++ x ∷ [])
all_push p x [] all e = (e, tt)
all_push p x (y ∷ ys) all e = (all.0, all_push p x ys all.1 e)

distinct_push : (xs : List (List ℕ)) (x : List ℕ) → IsDistinct bytes_eq xs
    → list_any (bytes_eq x) xs ≡ false → IsDistinct bytes_eq (xs ++ x ∷ [])
unfolding IsDistinct
distinct_push [] x h e = (tt, tt)
distinct_push (y ∷ ys) x h e =
    let parts = or_both (bytes_eq x y) (list_any (bytes_eq x) ys) e in
    (all_push y x ys h.0 (flipped x y parts.0), distinct_push ys x h.1 parts.1)
  where
    or_both : (a b : Bool) → (a || b) ≡ false → (a ≡ false) × (b ≡ false)
    or_both true b f = absurd (let g : true ≡ false = f in cc)
    or_both false b f = (refl, f)

distinct_with : (paths : List (List ℕ)) (path : List ℕ) → IsDistinct bytes_eq paths
    → IsDistinct bytes_eq (with_path paths path)
distinct_with paths path h = by (list_any (bytes_eq path) paths) refl
  where
    by : (t : Bool) → list_any (bytes_eq path) paths ≡ t
        → IsDistinct bytes_eq (cond t paths (paths ++ path ∷ []))
    by true e = h
    by false e = distinct_push paths path h e

distinct_all : (texts paths : List (List ℕ)) → IsDistinct bytes_eq paths
    → IsDistinct bytes_eq (fold with_path paths texts)
distinct_all [] paths h = h
distinct_all (t ∷ ts) paths h = distinct_all ts (with_path paths t) (distinct_with paths t h)

-- as many nodes as different beginnings
pub length-paths_of : (rows : List Row) → length (paths_of rows) ≡ node_count (patterns_of rows)
unfolding IsDistinct
length-paths_of rows =
    length-from_keys {eq = bytes_eq} nat_list_eq_equiv (paths_of rows)
    (all_beginnings (patterns_of rows)) (distinct_all (all_beginnings (patterns_of rows)) [] tt)
    (λ q. members (all_beginnings (patterns_of rows)) [] q)

pub node_count_of : (rows : List Row) (words : List ℕ) → IsTrie rows (paths_of rows) words
    → length words / 15 ≡ node_count (patterns_of rows)
node_count_of rows words trie = by (length (paths_of rows)) trie.sized ∙ length-paths_of rows
  where
    by : (n : ℕ) → length words ≡ 15 * n → length words / 15 ≡ n
    by n e = omega arith

-- all rows were seen
pub duplicate_after-all : (rows : List Row) (n : ℕ) → length rows ≤ n
    → duplicate_after rows n ≡ None
duplicate_after-all rows n h = ap (duplicate_from n (take n rows)) (drop_all n rows h)

-- the trie of no row is the root alone
pub empty_trie : IsTrie [] ([] ∷ []) (replicate 15 0)
empty_trie = record {
  sized = refl;
  root = (omega arith, refl);
  apart = λ m n p a b. omega (arith, a.0, b.0);
  closed = λ n p c at. absurd (no_child n p c at);
  links = λ n s below low. inl (
    get_or-replicate 15 (15 * n + s) 0 0 (omega arith),
    λ m at. no_child m _ _ at,
  );
  ends = λ n star below. told n star below;
  held = λ row in'. absurd (omega (arith, in'.1));
  patterns = λ row in'. absurd (omega (arith, in'.1));
}
  where
    no_child : (n : ℕ) (p : List ℕ) (c : ℕ) → At ([] ∷ []) n (p ++ c ∷ []) → ⊥
    no_child n p c at =
        let first : n ≡ 0 = omega (arith, at.0) in
        let none : [] ≡ p ++ c ∷ [] = ap (λ k. get_or ([] ∷ []) k []) (sym first) ∙ at.1 in
        let count : 0 ≡ length p + 1 = ap length none ∙ length_push p c in
        absurd (omega arith)

    none_tells : (p : List ℕ) (star : Bool) → Tells [] p star None
    none_tells p star row in' ends = absurd (omega (arith, in'.1))

    told : (n : ℕ) (star : Bool) → n < 1
        → Tells [] (get_or ([] ∷ []) n []) star (end_at (replicate 15 0) n star)
    told n star below = by star n (omega arith)
      where
        by : (s : Bool) (m : ℕ) → m ≡ 0
            → Tells [] (get_or ([] ∷ []) m []) s (end_at (replicate 15 0) m s)
        by s m e =
            subst (λ k. Tells [] (get_or ([] ∷ []) k []) s (end_at (replicate 15 0) k s)) (sym e)
            (at_root s)
          where
            at_root : (s : Bool) → Tells [] [] s (end_at (replicate 15 0) 0 s)
            at_root true = none_tells [] true
            at_root false = none_tells [] false
