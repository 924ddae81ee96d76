-- A walk looks at all the nodes that count, and at no other.
use Rattle.std.proofs.Common.{◌≡◌, ℕ, zero, suc, ◌+◌, ◌-◌, ◌*◌, ◌/◌, ◌<◌, ◌≤◌, Bool, true, false, cond, ◌⊎◌, inl, inr, List, [], ◌∷◌, ◌++◌, length, get_or, take, drop, replicate, refl, sym, ap, ◌∙◌, subst, arith, Option, Some, None, is_some}
use Rattle.std.specs.Prelude.{IfSome, sum_by, count_by}
use Rattle.std.specs.Char.{is_ascii_digit}
use Rattle.std.specs.List.{list_all, prefix_len, range_with_len}
use Rattle.std.specs.Str.{bytes_eq}
use Rattle.std.proofs.lemmas.Bool.{cases_lt, and_parts, false_from_ne_true}
use Rattle.std.proofs.lemmas.List.{append-nil, append_assoc, get_or_default, replicate-append-replicate, take-append-drop, take-take, take_more}
use Rattle.std.proofs.lemmas.List.Folds.{list_any_at, Any-from_list_any}
use Rattle.std.proofs.lemmas.List.FromFn.{length-range_with_len}
use Rattle.std.proofs.lemmas.List.Sums.{sum_by-cons, count_by-le-length, prefix_len-le-length, prefix_len_passes}
use Rattle.std.proofs.lemmas.Slice.Eq.{bytes_eq-Decides}
use Rattle.digit_patterns.specs.Table.{best_hit}
use Rattle.digit_patterns.specs.declared.tables.Hit.{Hit}
use Rattle.raw_trie.specs.Nodes.{all_beginnings, patterns_of}
use Rattle.raw_trie.specs.Trie.{Row, At, LeadsTo, IsTrie, paths_of}
use Rattle.raw_trie.specs.Found.{with_hit}
use Rattle.raw_trie.specs.Looks.{has_node, digit_nodes, dot_nodes, dot_nodes_between, least_literals, looks_of}
use Rattle.raw_trie.specs.Walk.{AreNodes, LeadsOn, LinkAt, most_looks}
use Rattle.raw_trie.proofs.Counting.{members}
use Rattle.raw_trie.proofs.Insertion.{digit_range}
use Rattle.raw_trie.proofs.Search.{front_at}
use Rattle.raw_trie.proofs.Steps.{digit_there, sum_to, looks_up}

-- ---- counts and sums over numbers
-- of numbers in a row the first ones alone pass
count_first : (p : ℕ → Bool) (a m n : ℕ) → m ≤ n
    → ((k : ℕ) → a ≤ k → k < a + m → p k ≡ true)
    → ((k : ℕ) → a + m ≤ k → k < a + n → p k ≡ false) → count_by p (range_with_len a n) ≡ m
count_first p a zero zero within passes fails = refl
count_first p a zero (suc n) within passes fails =
    sum_by-cons (λ x. cond (p x) 1 0) a (range_with_len (a + 1) n)
    ∙ ap (λ t. cond t 1 0 + count_by p (range_with_len (a + 1) n))
    (fails a (omega arith) (omega arith))
    ∙ ap (λ c. 0 + c) (count_first p (a + 1) zero n (omega arith)
    (λ k low high. absurd (omega (arith, low, high)))
    (λ k low high. fails k (omega (arith, low)) (omega (arith, high))))
count_first p a (suc m) zero within passes fails = absurd (omega arith)
count_first p a (suc m) (suc n) within passes fails =
    sum_by-cons (λ x. cond (p x) 1 0) a (range_with_len (a + 1) n)
    ∙ ap (λ t. cond t 1 0 + count_by p (range_with_len (a + 1) n))
    (passes a (omega arith) (omega arith))
    ∙ ap (λ c. 1 + c) (count_first p (a + 1) m n (omega arith)
    (λ k low high. passes k (omega (arith, low)) (omega (arith, high)))
    (λ k low high. fails k (omega (arith, low)) (omega (arith, high))))
    ∙ one_more
  where
    one_more : 1 + m ≡ suc m
    one_more = omega arith

-- the further terms of a sum are nothing
sum_stops : (f : ℕ → ℕ) (a m n : ℕ) → m ≤ n
    → ((k : ℕ) → a + m ≤ k → k < a + n → f k ≡ 0)
    → sum_by f (range_with_len a n) ≡ sum_by f (range_with_len a m)
sum_stops f a zero zero within none = refl
sum_stops f a zero (suc n) within none =
    sum_by-cons f a (range_with_len (a + 1) n)
    ∙ ap (λ c. c + sum_by f (range_with_len (a + 1) n)) (none a (omega arith) (omega arith))
    ∙ ap (λ c. 0 + c) (sum_stops f (a + 1) zero n (omega arith)
    (λ k low high. none k (omega (arith, low)) (omega (arith, high))))
sum_stops f a (suc m) zero within none = absurd (omega arith)
sum_stops f a (suc m) (suc n) within none =
    sum_by-cons f a (range_with_len (a + 1) n)
    ∙ ap (λ c. f a + c) (sum_stops f (a + 1) m n (omega arith)
    (λ k low high. none k (omega (arith, low)) (omega (arith, high))))
    ∙ sym (sum_by-cons f a (range_with_len (a + 1) m))

-- ---- nodes
has_node-at : (rows : List Row) (node : ℕ) (path : List ℕ) → At (paths_of rows) node path
    → has_node rows path ≡ true
has_node-at rows node path at =
    sym (members (all_beginnings (patterns_of rows)) [] path)
    ∙ list_any_at (bytes_eq path) (paths_of rows) node [] at.0
    ((bytes_eq-Decides path (get_or (paths_of rows) node [])).1 (sym at.1))

has_node-none : (rows : List Row) (path : List ℕ)
    → ((node : ℕ) → At (paths_of rows) node path → ⊥) → has_node rows path ≡ false
has_node-none rows path none =
    false_from_ne_true (has_node rows path)
    (λ has. let any = Any-from_list_any (bytes_eq path) (paths_of rows)
    (members (all_beginnings (patterns_of rows)) [] path ∙ has) in
    none any.0 (
      any.2,
      get_or_default (paths_of rows) any.0 [] any.1 any.2 ∙ any.3
          ∙ sym ((bytes_eq-Decides path any.1).0 any.4),
    ))

-- where no link leads on, nothing that begins with one digit more has a node
no_digit_more : (rows : List Row) (text : List ℕ) (k : ℕ) → k < length text
    → is_ascii_digit (get_or text k 0) ≡ true → LinkAt rows text k 0
    → (node : ℕ) → At (paths_of rows) node (take (k + 1) text) → ⊥
no_digit_more rows text k early digit link node at =
    no_link (subst (λ o. LeadsOn rows (take k text) o 0)
    (digit_there text k early ∙ ap (λ t. cond t (Some (get_or text k 0 - 48)) None) digit) link)
  where
    character : get_or text k 0 ≡ get_or text k 0 - 48 + 48
    character = let range = digit_range (get_or text k 0) digit in omega arith

    no_link : LeadsTo (paths_of rows) (take k text ++ (get_or text k 0 - 48 + 48) ∷ []) 0 → ⊥
    no_link (inl none) =
        none.1 node (
          at.0,
          at.1 ∙ take_more text k 0 early
              ∙ ap (λ c. take k text ++ c ∷ []) character,
        )
    no_link (inr leads) = absurd (omega (arith, leads.0))

module _ (rows : List Row) (words text : List ℕ) (trie : IsTrie rows (paths_of rows) words)
    (deepest : ℕ) (last : LinkAt rows text deepest 0) where
  -- as little has what begins with further digits
  none_deeper : (k : ℕ) → deepest < k → k ≤ prefix_len is_ascii_digit text
      → (after : List ℕ) → has_node rows (take k text ++ after) ≡ false
  none_deeper k deeper digits after = has_node-none rows (take k text ++ after) none
    where
      early : deepest < length text
      early = omega (arith, deeper, digits, prefix_len-le-length is_ascii_digit text)

      split : take k text ++ after
          ≡ take (deepest + 1) text ++ (drop (deepest + 1) (take k text) ++ after)
      split =
          ap (λ t. t ++ after) (sym (take-append-drop (deepest + 1) (take k text))
          ∙ ap (λ t. t ++ drop (deepest + 1) (take k text))
          (take-take (deepest + 1) k text (omega (arith, deeper))))
          ∙ append_assoc (take (deepest + 1) text) (drop (deepest + 1) (take k text)) after

      none : (node : ℕ) → At (paths_of rows) node (take k text ++ after) → ⊥
      none node at =
          let front =
          front_at rows (paths_of rows) words trie (drop (deepest + 1) (take k text) ++ after)
          (take (deepest + 1) text) node (at.0, at.1 ∙ split) in
          no_digit_more rows text deepest early
          (prefix_len_passes is_ascii_digit text deepest 0 (omega (arith, deeper, digits))) last
          front.0 front.1

  -- the nodes that a walk meets on its way down
  digit_nodes-walked : (nodes : List ℕ) → deepest ≤ prefix_len is_ascii_digit text
      → AreNodes rows text nodes deepest → digit_nodes rows text ≡ deepest + 1
  digit_nodes-walked nodes digits kept =
      count_first (λ literals. has_node rows (take literals text)) 0 (deepest + 1)
      (prefix_len is_ascii_digit text + 1) (omega (arith, digits))
      (λ k low high. has_node-at rows _ (take k text) (kept k (omega (arith, high))))
      (λ k low high. ap (has_node rows) (sym (append-nil (take k text)))
      ∙ none_deeper k (omega (arith, low)) (omega (arith, high)) [])

  -- those of dots that it meets on its way up
  between-walked : (least : ℕ) → deepest ≤ prefix_len is_ascii_digit text
      → dot_nodes_between rows text least (prefix_len is_ascii_digit text + 1)
      ≡ dot_nodes_between rows text least (deepest + 1)
  between-walked least digits =
      sum_stops (dot_nodes rows text) least (deepest + 1 - least)
      (prefix_len is_ascii_digit text + 1 - least) (omega (arith, digits))
      (λ k low high. count_first
      (λ dots. has_node rows (take k text ++ replicate dots 46)) 1 0 (length text - k)
      (omega arith) (λ j one none. absurd (omega (arith, one, none)))
      (λ j one within. none_deeper k (omega (arith, low)) (omega (arith, low, high))
      (replicate j 46)))

-- digits in front are counted
prefix_reaches : (p : ℕ → Bool) (xs : List ℕ) (k : ℕ) → k ≤ length xs
    → list_all p (take k xs) ≡ true → k ≤ prefix_len p xs
prefix_reaches p [] k within all = within
prefix_reaches p (x ∷ xs) zero within all = omega arith
prefix_reaches p (x ∷ xs) (suc k) within all =
    let parts = and_parts (p x) (list_all p (take k xs)) all in
    let rest = prefix_reaches p xs k (omega arith) parts.1 in
    let here : prefix_len p (x ∷ xs) ≡ 1 + prefix_len p xs =
    ap (λ t. cond t (1 + prefix_len p xs) 0) parts.0 in
    omega (arith, here, rest)

-- what a walk has looked at in the end
pub looks_walked : (rows : List Row) (words text nodes : List ℕ) (deepest : ℕ) (best : Option Hit)
    → IsTrie rows (paths_of rows) words → deepest ≤ length text
    → list_all is_ascii_digit (take deepest text) ≡ true → AreNodes rows text nodes deepest
    → LinkAt rows text deepest 0 → best ≡ best_hit rows text
    → deepest + 1 + dot_nodes_between rows text (least_literals best) (deepest + 1)
    ≡ looks_of rows text
looks_walked rows words text nodes deepest best trie within digits kept last same =
    let reached = prefix_reaches is_ascii_digit text deepest within digits in
    ap (λ n. n + dot_nodes_between rows text (least_literals best) (deepest + 1))
    (sym (digit_nodes-walked rows words text trie deepest last nodes reached kept))
    ∙ ap (λ n. digit_nodes rows text + n)
    (sym (between-walked rows words text trie deepest last (least_literals best) reached))
    ∙ ap (λ h. digit_nodes rows text + dot_nodes_between rows text (least_literals h)
    (prefix_len is_ascii_digit text + 1)) same

-- ---- the dots after some literals
-- as many as lead to a node
pub dot_nodes-walked : (rows : List Row) (words text : List ℕ) (k j node : ℕ)
    → IsTrie rows (paths_of rows) words → k + j ≤ length text
    → At (paths_of rows) node (take k text ++ replicate j 46)
    → (k + j ≡ length text)
    ⊎ ((m : ℕ) → At (paths_of rows) m (take k text ++ replicate (j + 1) 46) → ⊥)
    → dot_nodes rows text k ≡ j
dot_nodes-walked rows words text k j node trie inside at end =
    count_first (λ dots. has_node rows (take k text ++ replicate dots 46)) 1 j (length text - k)
    (omega (arith, inside)) (λ i low high. shorter i (omega (arith, high)))
    (λ i low high. longer i (omega (arith, low)) (omega (arith, high)) end)
  where
    -- fewer dots stand in front of more
    split : (few more : ℕ) → few ≤ more → take k text ++ replicate more 46
        ≡ (take k text ++ replicate few 46) ++ replicate (more - few) 46
    split few more h =
        ap (λ n. take k text ++ replicate n 46) (omega (arith, h))
        ∙ ap (λ r. take k text ++ r) (sym (replicate-append-replicate few (more - few) 46))
        ∙ sym (append_assoc (take k text) (replicate few 46) (replicate (more - few) 46))

    shorter : (i : ℕ) → i ≤ j → has_node rows (take k text ++ replicate i 46) ≡ true
    shorter i few =
        let front =
        front_at rows (paths_of rows) words trie (replicate (j - i) 46)
        (take k text ++ replicate i 46) node (at.0, at.1 ∙ split i j few) in
        has_node-at rows front.0 (take k text ++ replicate i 46) front.1

    longer : (i : ℕ) → j + 1 ≤ i → i < 1 + (length text - k) → (k + j ≡ length text)
        ⊎ ((m : ℕ) → At (paths_of rows) m (take k text ++ replicate (j + 1) 46) → ⊥)
        → has_node rows (take k text ++ replicate i 46) ≡ false
    longer i more within (inl full) = absurd (omega (arith, more, within, full))
    longer i more within (inr none) =
        has_node-none rows (take k text ++ replicate i 46)
        (λ m there. let front =
        front_at rows (paths_of rows) words trie (replicate (i - (j + 1)) 46)
        (take k text ++ replicate (j + 1) 46) m (there.0, there.1 ∙ split (j + 1) i more) in
        none front.0 front.1)

-- ---- the way up
between_none : (rows : List Row) (text : List ℕ) (end : ℕ)
    → dot_nodes_between rows text end end ≡ 0
between_none rows text end = ap (λ n. sum_by (dot_nodes rows text) (range_with_len end n)) none
  where
    none : end - end ≡ 0
    none = omega arith

between_up : (rows : List Row) (text : List ℕ) (depth end : ℕ) → 0 < depth → depth ≤ end
    → dot_nodes_between rows text (depth - 1) end
    ≡ dot_nodes rows text (depth - 1) + dot_nodes_between rows text depth end
between_up rows text depth end some within =
    ap (λ n. sum_by (dot_nodes rows text) (range_with_len (depth - 1) n)) count
    ∙ sum_by-cons (dot_nodes rows text) (depth - 1) (range_with_len (depth - 1 + 1) (end - depth))
    ∙ ap (λ n. dot_nodes rows text (depth - 1)
    + sum_by (dot_nodes rows text) (range_with_len n (end - depth))) same
  where
    count : end - (depth - 1) ≡ suc (end - depth)
    count = omega (arith, some, within)

    same : depth - 1 + 1 ≡ depth
    same = omega (arith, some)

-- a walk up begins with those of the way down
pub counted_first : (rows : List Row) (text : List ℕ) (end looks : ℕ) → looks ≡ end
    → looks ≡ end + dot_nodes_between rows text end end
counted_first rows text end looks same =
    by (dot_nodes_between rows text end end) (between_none rows text end)
  where
    by : (n : ℕ) → n ≡ 0 → looks ≡ end + n
    by n e = omega (arith, e, same)

-- and adds those of the dots of each node
pub counted_next : (rows : List Row) (text : List ℕ) (depth end looks more : ℕ) → 0 < depth
    → depth ≤ end → looks ≡ end + dot_nodes_between rows text depth end
    → more ≡ looks + dot_nodes rows text (depth - 1)
    → more ≡ end + dot_nodes_between rows text (depth - 1) end
counted_next rows text depth end looks more some within before here =
    by (dot_nodes_between rows text depth end) (dot_nodes rows text (depth - 1))
    (dot_nodes_between rows text (depth - 1) end) before here
    (between_up rows text depth end some within)
  where
    by : (a b c : ℕ) → looks ≡ end + a → more ≡ looks + b → c ≡ b + a → more ≡ end + c
    by a b c e f g = omega (arith, e, f, g)

-- ---- the most that a walk looks at
-- terms of at most what is left, and one more for each
sum_left : (f : ℕ → ℕ) (n a m : ℕ) → ((k : ℕ) → f k ≤ n - k) → a + m ≤ n + 1
    → sum_by f (range_with_len a m) + m ≤ sum_to (n + 1 - a)
sum_left f n a zero few within = omega arith
sum_left f n a (suc m) few within =
    by (sum_by f (range_with_len a (suc m))) (f a) (sum_by f (range_with_len (a + 1) m))
    (sum_to (n + 1 - a)) (sum_to (n + 1 - (a + 1)))
    (sum_by-cons f a (range_with_len (a + 1) m)) (few a)
    (sum_left f n (a + 1) m few (omega (arith, within))) (looks_up n a (omega (arith, within)))
  where
    by : (s b r t u : ℕ) → s ≡ b + r → b ≤ n - a → r + m ≤ u → t ≡ u + (n - a + 1)
        → s + suc m ≤ t
    by s b r t u e g h i = omega (arith, e, g, h, i)

-- none before the first one is more
below_all : (n a : ℕ) → a ≤ n + 1 → a + sum_to (n + 1 - a) ≤ sum_to (n + 1)
below_all n zero within = by (sum_to (n + 1 - 0)) (ap sum_to none_less)
  where
    none_less : n + 1 - 0 ≡ n + 1
    none_less = omega arith

    by : (t : ℕ) → t ≡ sum_to (n + 1) → 0 + t ≤ sum_to (n + 1)
    by t e = omega (arith, e)
below_all n (suc a) within =
    by (sum_to (n + 1 - a)) (sum_to (n + 1 - (a + 1))) (sum_to (n + 1 - suc a))
    (looks_up n a (omega (arith, within))) (ap (λ k. sum_to (n + 1 - k)) one_more)
    (below_all n a (omega (arith, within)))
  where
    one_more : a + 1 ≡ suc a
    one_more = omega arith

    by : (t u v : ℕ) → t ≡ u + (n - a + 1) → u ≡ v → a + t ≤ sum_to (n + 1)
        → suc a + v ≤ sum_to (n + 1)
    by t u v e f h = omega (arith, e, f, h)

-- so those that come before them fit beside them
triangle : (f : ℕ → ℕ) (n first least end : ℕ) → ((k : ℕ) → f k ≤ n - k) → end ≤ n + 1
    → first ≤ end → first + sum_by f (range_with_len least (end - least)) ≤ sum_to (n + 1)
triangle f n first least end few within early = by (cases_lt end least)
  where
    some : (s t u : ℕ) → s + (end - least) ≤ t → least + t ≤ u → least ≤ end → first + s ≤ u
    some s t u e g h = omega (arith, e, g, h, early)

    none : (s t u : ℕ) → s ≡ 0 → n + 1 + t ≤ u → first + s ≤ u
    none s t u e g = omega (arith, e, g, early, within)

    by : (end < least) ⊎ (least ≤ end)
        → first + sum_by f (range_with_len least (end - least)) ≤ sum_to (n + 1)
    by (inl past) =
        let no_term : end - least ≡ 0 = omega (arith, past) in
        none (sum_by f (range_with_len least (end - least))) (sum_to (n + 1 - (n + 1)))
        (sum_to (n + 1)) (ap (λ m. sum_by f (range_with_len least m)) no_term)
        (below_all n (n + 1) (omega arith))
    by (inr before) =
        some (sum_by f (range_with_len least (end - least))) (sum_to (n + 1 - least))
        (sum_to (n + 1))
        (sum_left f n least (end - least) few (omega (arith, before, within)))
        (below_all n least (omega (arith, before, within))) before

-- for so many characters
pub looks_of-most : (rows : List Row) (text : List ℕ)
    → looks_of rows text ≤ most_looks (length text)
looks_of-most rows text =
    subst (λ n. looks_of rows text ≤ (length text + 1) * n / 2) two
    (triangle (dot_nodes rows text) (length text) (digit_nodes rows text)
    (least_literals (best_hit rows text)) (prefix_len is_ascii_digit text + 1) dots
    (omega (arith, prefix_len-le-length is_ascii_digit text)) digits)
  where
    two : length text + 1 + 1 ≡ length text + 2
    two = omega arith

    digits : digit_nodes rows text ≤ prefix_len is_ascii_digit text + 1
    digits =
        subst (λ n. digit_nodes rows text ≤ n)
        (length-range_with_len 0 (prefix_len is_ascii_digit text + 1))
        (count_by-le-length (λ literals. has_node rows (take literals text))
        (range_with_len 0 (prefix_len is_ascii_digit text + 1)))

    dots : (k : ℕ) → dot_nodes rows text k ≤ length text - k
    dots k =
        subst (λ n. dot_nodes rows text k ≤ n) (length-range_with_len 1 (length text - k))
        (count_by-le-length (λ j. has_node rows (take k text ++ replicate j 46))
        (range_with_len 1 (length text - k)))

-- ---- the literals of a hit
pub with_hit-literals : (end : Option ℕ) (literals dots : ℕ) (star : Bool) (best : Option Hit)
    → IfSome best (λ hit. hit.literals ≡ literals)
    → IfSome (with_hit end literals dots star best) (λ hit. hit.literals ≡ literals)
with_hit-literals None literals dots star best same = same
with_hit-literals (Some value) literals dots star best same = refl

pub least_literals-some : (best : Option Hit) (n : ℕ) → is_some best ≡ true
    → IfSome best (λ hit. hit.literals ≡ n) → least_literals best ≡ n
least_literals-some None n some same = absurd (let f : false ≡ true = some in cc)
least_literals-some (Some hit) n some same = same
