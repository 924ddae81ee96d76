-- The steps of a walk from one literal to the next.
use Rattle.std.proofs.Common.{◌≡◌, ℕ, zero, suc, ◌+◌, ◌-◌, ◌*◌, ◌/◌, ◌<◌, ◌≤◌, ◌≢◌, ◌&&◌, Bool, true, false, cond, ◌⊎◌, inl, inr, List, [], ◌∷◌, ◌++◌, length, get_or, take, drop, fold, replicate, refl, sym, ap, ◌∙◌, subst, arith, Option, Some, None, slice_get, slice_index, slice_set}
use Rattle.std.specs.Char.{is_ascii_digit}
use Rattle.std.specs.List.{Contains, list_all, list_any}
use Rattle.std.specs.Option.{option_and_then}
use Rattle.std.specs.Str.{bytes_eq}
use Rattle.std.proofs.lemmas.Bool.{cases_lt, and_parts, and_from}
use Rattle.std.proofs.lemmas.List.{take-append-drop, take-take, take_more, append_assoc, get_or-take, get_or-set_same, get_or-set_other}
use Rattle.std.proofs.lemmas.List.Folds.{list_all-append, list_all_more}
use Rattle.std.proofs.lemmas.Option.{slice_get-get_or, slice_get_past}
use Rattle.digit_patterns.specs.Pattern.{Matches}
use Rattle.raw_trie.specs.Nodes.{path_of, all_beginnings, patterns_of}
use Rattle.raw_trie.specs.Trie.{Row, At, LeadsTo, IsTrie, with_path, paths_of}
use Rattle.raw_trie.specs.Found.{score_of}
use Rattle.raw_trie.specs.Walk.{AreNodes, LeadsOn, LinkAt, digit_of}
use Rattle.raw_trie.proofs.Paths.{At-left}
use Rattle.raw_trie.proofs.Same.{digits_of}
use Rattle.raw_trie.proofs.Insertion.{is_digit_at, digit_range}
use Rattle.raw_trie.proofs.Scores.{Counts, counts_of, plain_of, literals_in_front}
use Rattle.raw_trie.proofs.Search.{front_at}

-- the root is the node of the empty path
pub root_of : (rows : List Row) → At (paths_of rows) 0 []
root_of rows = stays (all_rest rows) ([] ∷ []) (omega arith, refl)
  where
    all_rest : List Row → List (List ℕ)
    all_rest r = drop 1 (all_beginnings (patterns_of r))

    one : (paths : List (List ℕ)) (path : List ℕ) → At paths 0 [] → At (with_path paths path) 0 []
    one paths path at = by (list_any (bytes_eq path) paths)
      where
        by : (t : Bool) → At (cond t paths (paths ++ path ∷ [])) 0 []
        by true = at
        by false = At-left paths path 0 [] at

    stays : (texts paths : List (List ℕ)) → At paths 0 [] → At (fold with_path paths texts) 0 []
    stays [] paths at = at
    stays (t ∷ ts) paths at = stays ts (with_path paths t) (one paths t at)

-- the digit at a place of the text
pub digit_there : (text : List ℕ) (k : ℕ) → k < length text
    → option_and_then digit_of (slice_get text k) ≡ digit_of (get_or text k 0)
digit_there text k within = ap (option_and_then digit_of) (slice_get-get_or text k 0 within)

-- one character more was walked
pub record Goes (rows : List Row) (text : List ℕ) (k next : ℕ) : Type 0 where
  pub early : k < length text
  pub at : At (paths_of rows) next (take (k + 1) text)
  pub digit : is_ascii_digit (get_or text k 0) ≡ true

pub goes_on : (rows : List Row) (text : List ℕ) (k next : ℕ) (digit : Option ℕ)
    → digit ≡ option_and_then digit_of (slice_get text k) → LeadsOn rows (take k text) digit next
    → next ≢ 0 → Goes rows text k next
goes_on rows text k next None is leads some = absurd (some leads)
goes_on rows text k next (Some d) is leads some = by_place (cases_lt k (length text))
  where
    by_place : (k < length text) ⊎ (length text ≤ k) → Goes rows text k next
    by_place (inr past) =
        absurd (let f : Some d ≡ None = is
        ∙ ap (option_and_then digit_of) (slice_get_past text k past) in cc)
    by_place (inl early) =
        by_digit (is_ascii_digit (get_or text k 0)) refl (is ∙ digit_there text k early) leads
      where
        by_digit : (t : Bool) → is_ascii_digit (get_or text k 0) ≡ t
            → Some d ≡ digit_of (get_or text k 0)
            → LeadsTo (paths_of rows) (take k text ++ (d + 48) ∷ []) next → Goes rows text k next
        by_digit false e f g =
            absurd (let h : Some d ≡ None = f
            ∙ ap (λ t. cond t (Some (get_or text k 0 - 48)) None) e in cc)
        by_digit true e f (inl none) = absurd (some none.0)
        by_digit true e f (inr there) =
            let number : d ≡ get_or text k 0 - 48 =
            (let h : Some d ≡ Some (get_or text k 0 - 48) = f
            ∙ ap (λ t. cond t (Some (get_or text k 0 - 48)) None) e in cc) in
            let range = digit_range (get_or text k 0) e in
            let character : d + 48 ≡ get_or text k 0 = omega arith in
            record {
              early = early;
              at = subst (At (paths_of rows) next)
                  (ap (λ c. take k text ++ c ∷ []) character ∙ sym (take_more text k 0 early))
                  there.1;
              digit = e;
            }

-- the same, where the link is that of the text's next character
pub goes_down : (rows : List Row) (text : List ℕ) (k next : ℕ) → LinkAt rows text k next
    → next ≢ 0 → Goes rows text k next
goes_down rows text k next link some =
    goes_on rows text k next (option_and_then digit_of (slice_get text k)) refl link some

pub digits_more : (text : List ℕ) (k : ℕ) → k < length text
    → list_all is_ascii_digit (take k text) ≡ true → is_ascii_digit (get_or text k 0) ≡ true
    → list_all is_ascii_digit (take (k + 1) text) ≡ true
digits_more text k early all digit =
    list_all_more is_ascii_digit text k 0 early ∙ and_from _ _ all digit

pub digits_before : (text : List ℕ) (n k : ℕ) → k ≤ n
    → list_all is_ascii_digit (take n text) ≡ true → list_all is_ascii_digit (take k text) ≡ true
digits_before text n k within all =
    let both : (list_all is_ascii_digit (take k (take n text))
    && list_all is_ascii_digit (drop k (take n text))) ≡ true =
    sym (list_all-append is_ascii_digit (take k (take n text)) (drop k (take n text)))
    ∙ ap (list_all is_ascii_digit) (take-append-drop k (take n text)) ∙ all in
    ap (list_all is_ascii_digit) (sym (take-take k n text within)) ∙ (and_parts _ _ both).0

-- no matching row has more literals than were walked
pub no_more_literals : (rows : List Row) (words text : List ℕ) (k next : ℕ) (digit : Option ℕ)
    → IsTrie rows (paths_of rows) words → digit ≡ option_and_then digit_of (slice_get text k)
    → LeadsOn rows (take k text) digit next → next ≡ 0
    → (row : Row) → Contains rows row → Matches row.0 text → score_of row.0 < 66 * (k + 1)
no_more_literals rows words text k next digit trie is leads stop row in' match =
    by (cases_lt (score_of row.0) (66 * (k + 1)))
  where
    c : Counts row.0 (length text)
    c = counts_of row.0 text (trie.patterns row in') match

    count : ℕ
    count = length row.0.literals

    by : (score_of row.0 < 66 * (k + 1)) ⊎ (66 * (k + 1) ≤ score_of row.0)
        → score_of row.0 < 66 * (k + 1)
    by (inl less) = less
    by (inr more) = absurd (clash digit is leads)
      where
        longer : k < length row.0.literals
        longer = omega (arith, more, c.few, c.one)

        fits : length row.0.literals ≤ length text
        fits = by_star (plain_of row.0) refl
          where
            by_star : (s : ℕ) → plain_of row.0 ≡ s → length row.0.literals ≤ length text
            by_star zero e = omega (arith, c.within e)
            by_star (suc zero) e = omega (arith, c.whole e)
            by_star (suc (suc s)) e = absurd (omega (arith, c.one, e))

        early : k < length text
        early = omega (arith, longer, fits)

        literals : row.0.literals ≡ take (length row.0.literals) text
        literals = literals_in_front row.0 text match

        same_character : get_or row.0.literals k 0 ≡ get_or text k 0
        same_character = ap (λ l. get_or l k 0) literals
            ∙ get_or-take (length row.0.literals) text k 0 longer

        is_digit : is_ascii_digit (get_or text k 0) ≡ true
        is_digit = sym (ap is_ascii_digit same_character)
            ∙ is_digit_at row.0.literals k (digits_of row.0 (trie.patterns row in')) longer

        front : take (k + 1) row.0.literals ≡ take k text ++ get_or text k 0 ∷ []
        front = ap (take (k + 1)) literals
            ∙ take-take (k + 1) (length row.0.literals) text (omega (arith, longer))
            ∙ take_more text k 0 early

        spelled : path_of row.0 ≡ (take k text ++ get_or text k 0 ∷ []) ++ (drop (k + 1)
            row.0.literals ++ replicate row.0.dots 46)
        spelled =
            ap (λ l. l ++ replicate row.0.dots 46)
            (sym (take-append-drop (k + 1) row.0.literals)
            ∙ ap (λ l. l ++ drop (k + 1) row.0.literals) front)
            ∙ append_assoc (take k text ++ get_or text k 0 ∷ []) (drop (k + 1) row.0.literals)
            (replicate row.0.dots 46)

        there : (m : ℕ) × At (paths_of rows) m (take k text ++ get_or text k 0 ∷ [])
        there =
            let held = trie.held row in' in
            front_at rows (paths_of rows) words trie
            (drop (k + 1) row.0.literals ++ replicate row.0.dots 46)
            (take k text ++ get_or text k 0 ∷ []) held.0 (held.1.0, held.1.1 ∙ spelled)

        number : option_and_then digit_of (slice_get text k) ≡ Some (get_or text k 0 - 48)
        number = digit_there text k early
            ∙ ap (λ t. cond t (Some (get_or text k 0 - 48)) None) is_digit

        character : get_or text k 0 - 48 + 48 ≡ get_or text k 0
        character = let range = digit_range (get_or text k 0) is_digit in omega arith

        clash : (o : Option ℕ) → o ≡ option_and_then digit_of (slice_get text k)
            → LeadsOn rows (take k text) o next → ⊥
        clash None e l = let f : None ≡ Some (get_or text k 0 - 48) = e ∙ number in cc
        clash (Some d) e l =
            let same : d ≡ get_or text k 0 - 48 =
            (let f : Some d ≡ Some (get_or text k 0 - 48) = e ∙ number in cc) in
            no_link (subst (λ x. LeadsTo (paths_of rows) (take k text ++ x ∷ []) next)
            (ap (λ x. x + 48) same ∙ character) l)
          where
            no_link : LeadsTo (paths_of rows) (take k text ++ get_or text k 0 ∷ []) next → ⊥
            no_link (inl none) = none.1 there.0 there.1
            no_link (inr leads) = absurd (omega (arith, leads.0, stop))

-- one node more is kept
pub nodes_more : (rows : List Row) (text nodes : List ℕ) (k node : ℕ) → k + 1 < length nodes
    → AreNodes rows text nodes k → At (paths_of rows) node (take (k + 1) text)
    → AreNodes rows text (slice_set nodes (k + 1) node) (k + 1)
nodes_more rows text nodes k node room kept at i within = by (cases_lt i (k + 1))
  where
    by : (i < k + 1) ⊎ (k + 1 ≤ i)
        → At (paths_of rows) (slice_index (slice_set nodes (k + 1) node) i) (take i text)
    by (inl less) =
        subst (λ n. At (paths_of rows) n (take i text))
        (sym (get_or-set_other nodes (k + 1) i node 0 (λ e. omega (arith, less, e))))
        (kept i (omega (arith, less)))
    by (inr more) =
        let same : k + 1 ≡ i = omega (arith, more, within) in
        subst (λ j. At (paths_of rows) (slice_index (slice_set nodes (k + 1) node) j) (take j text))
        same (subst (λ n. At (paths_of rows) n (take (k + 1) text))
        (sym (get_or-set_same nodes (k + 1) node 0 room)) at)

-- 1 + 2 + .. + n
abbrev pub sum_to : ℕ → ℕ
sum_to n = n * (n + 1) / 2

sum_to-suc : (n : ℕ) → sum_to (n + 1) ≡ sum_to n + (n + 1)
sum_to-suc n = omega arith

-- a node and its dots take one number off the sum
pub looks_up : (n depth : ℕ) → depth ≤ n
    → sum_to (n + 1 - depth) ≡ sum_to (n + 1 - (depth + 1)) + (n - depth + 1)
looks_up n depth within = by (n + 1 - depth) (n + 1 - (depth + 1)) (omega (arith, within))
    ∙ omega (arith, within)
  where
    by : (m l : ℕ) → m ≡ l + 1 → sum_to m ≡ sum_to l + (l + 1)
    by m l e = ap sum_to e ∙ sum_to-suc l

-- so the looks stay within what is left of it
pub counted_up : (n depth looks more : ℕ) → 0 < depth → depth ≤ n + 1
    → looks ≤ depth + sum_to (n + 1 - depth) → more ≤ looks + (n - (depth - 1))
    → more ≤ depth - 1 + sum_to (n + 1 - (depth - 1))
counted_up n depth looks more some within counted here =
    by (sum_to (n + 1 - (depth - 1))) (sum_to (n + 1 - depth))
    (looks_up n (depth - 1) (omega (arith, within))
    ∙ ap (λ l. sum_to (n + 1 - l) + (n - (depth - 1) + 1)) (omega (arith, some))) counted
  where
    by : (a b : ℕ) → a ≡ b + (n - (depth - 1) + 1) → looks ≤ depth + b → more ≤ depth - 1 + a
    by a b e h = omega (arith, e, h, some, within, here)
