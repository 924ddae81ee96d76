-- A trie with one more node.
use Rattle.std.proofs.Common.{◌≡◌, ℕ, ◌+◌, ◌*◌, ◌<◌, ◌≤◌, ◌≢◌, eqb, Bool, true, false, cond, ◌⊎◌, inl, inr, List, [], ◌∷◌, ◌++◌, length, get_or, set, replicate, refl, sym, ap, ◌∙◌, subst, arith, Option, Some, None}
use Rattle.std.specs.List.{Contains}
use Rattle.std.proofs.lemmas.Bool.{cases_lt, cases_eq}
use Rattle.std.proofs.lemmas.List.{get_or_append_left, get_or-append_right, get_or-replicate, get_or-set_same, get_or-set_other, length_push, length-append, length-set, same_from_push}
use Rattle.raw_trie.specs.Nodes.{path_of}
use Rattle.raw_trie.specs.Trie.{Row, At, LeadsTo, EndsAt, Tells, IsTrie, Reaches, Links, link_character_of, link_at, end_in, end_at, with_path}
use Rattle.raw_trie.proofs.Paths.{At-left, At-new, At-cases, with_path-there, with_path-new, same_symbol}

-- an end whose two words are as they were is as it was
pub end_in-same : (old new : List ℕ) (place : ℕ) → get_or new place 0 ≡ get_or old place 0
    → get_or new (place + 1) 0 ≡ get_or old (place + 1) 0 → end_in new place ≡ end_in old place
end_in-same old new place flag value =
    ap (λ f. cond (eqb f 0) None (Some (get_or new (place + 1) 0))) flag
    ∙ ap (λ v. cond (eqb (get_or old place 0) 0) None (Some v)) value

-- an end tells the same of the same rows
pub Tells-at : (rows : List Row) (p q : List ℕ) (star : Bool) (a b : Option ℕ) → p ≡ q → a ≡ b
    → Tells rows p star a → Tells rows q star b
Tells-at rows p q star a b e f h =
    subst (λ o. Tells rows q star o) f (subst (λ r. Tells rows r star a) e h)

pub LeadsTo-at : (paths : List (List ℕ)) (p q : List ℕ) (a b : ℕ) → p ≡ q → a ≡ b
    → LeadsTo paths p a → LeadsTo paths q b
LeadsTo-at paths p q a b e f h =
    subst (λ l. LeadsTo paths q l) f (subst (λ r. LeadsTo paths r a) e h)

-- no path is its own child
longer : (p : List ℕ) (c : ℕ) → p ≡ p ++ c ∷ [] → ⊥
longer p c e =
    let f : length p ≡ length p + 1 = ap length e ∙ length_push p c in absurd (omega arith)

module _ (rows : List Row) (paths : List (List ℕ)) (old : List ℕ) (trie : IsTrie rows paths old)
    (node symbol : ℕ) (within : node < length paths) (small : symbol < 11) where
  abbrev path : List ℕ
  path = get_or paths node [] ++ link_character_of symbol ∷ []

  abbrev place : ℕ
  place = 15 * node + symbol

  -- the words with a new node
  abbrev wider : List ℕ
  wider = old ++ replicate 15 0

  abbrev new : List ℕ
  new = set wider place (length paths)

  abbrev more : List (List ℕ)
  more = paths ++ path ∷ []

  length-wider : length wider ≡ 15 * length paths + 15
  length-wider = length-append old (replicate 15 0) ∙ ap (λ n. n + 15) trie.sized

  -- the words of the new node
  word-new : (k : ℕ) → k < 15 → get_or new (15 * length paths + k) 0 ≡ 0
  word-new k below =
      get_or-set_other wider place (15 * length paths + k) (length paths) 0
      (λ e. absurd (omega arith))
      ∙ get_or-append_right old (replicate 15 0) (15 * length paths) (15 * length paths + k) 0
      trie.sized (omega arith)
      ∙ ap (λ i. get_or (replicate 15 0) i 0) (omega arith)
      ∙ get_or-replicate 15 k 0 0 below

  -- the other words
  word-old : (i : ℕ) → i < 15 * length paths → i ≢ place → get_or new i 0 ≡ get_or old i 0
  word-old i below apart =
      get_or-set_other wider place i (length paths) 0 apart
      ∙ get_or_append_left old (replicate 15 0) 0 i (omega (arith, trie.sized))

  word-link : get_or new place 0 ≡ length paths
  word-link = get_or-set_same wider place (length paths) 0 (omega (arith, length-wider))

  module _ (absent : (m : ℕ) → At paths m path → ⊥) where
    new_path : get_or more (length paths) [] ≡ path
    new_path = (At-new paths path).1

    old_path : (n : ℕ) → n < length paths → get_or more n [] ≡ get_or paths n []
    old_path n below = get_or_append_left paths (path ∷ []) [] n below

    one_apart : (m n : ℕ) (p : List ℕ) → At paths m p ⊎ ((m ≡ length paths) × (path ≡ p))
        → At paths n p ⊎ ((n ≡ length paths) × (path ≡ p)) → m ≡ n
    one_apart m n p (inl a) (inl b) = trie.apart m n p a b
    one_apart m n p (inl a) (inr b) = absurd (absent m (a.0, a.1 ∙ sym b.1))
    one_apart m n p (inr a) (inl b) = absurd (absent n (b.0, b.1 ∙ sym a.1))
    one_apart m n p (inr a) (inr b) = a.0 ∙ sym b.0

    parent : (n : ℕ) (p : List ℕ) (c : ℕ)
        → At paths n (p ++ c ∷ []) ⊎ ((n ≡ length paths) × (path ≡ p ++ c ∷ []))
        → (m : ℕ) × At more m p
    parent n p c (inl a) = let up = trie.closed n p c a in (up.0, At-left paths path up.0 p up.1)
    parent n p c (inr a) = (
      node,
      At-left paths path node p
          (within, (same_from_push (get_or paths node []) p (link_character_of symbol) c a.1).0),
    )

    -- a link of the new node
    no_child : (s : ℕ) (n : ℕ) → At paths n (path ++ link_character_of s ∷ [])
        ⊎ ((n ≡ length paths) × (path ≡ path ++ link_character_of s ∷ [])) → ⊥
    no_child s n (inl a) = let up = trie.closed n path (link_character_of s) a in absent up.0 up.1
    no_child s n (inr a) = longer path (link_character_of s) a.1

    leads_new : (s : ℕ) → s < 11 → LeadsTo more (path ++ link_character_of s ∷ []) 0
    leads_new s below =
        inl (
          refl,
          λ n at. no_child s n (At-cases paths path n (path ++ link_character_of s ∷ [])
              at),
        )

    -- another link of an old node
    leads_old : (n s link : ℕ) → n < length paths → s < 11 → 15 * n + s ≢ place
        → LeadsTo paths (get_or paths n [] ++ link_character_of s ∷ []) link
        → LeadsTo more (get_or paths n [] ++ link_character_of s ∷ []) link
    leads_old n s link below low other (inr there) =
        inr (
          there.0,
          At-left paths path link (get_or paths n [] ++ link_character_of s ∷ [])
              there.1,
        )
    leads_old n s link below low other (inl none) =
        inl (
          none.0,
          λ m at. by m (At-cases paths path m (get_or paths n [] ++ link_character_of s ∷ [])
              at),
        )
      where
        by : (m : ℕ) → At paths m (get_or paths n [] ++ link_character_of s ∷ [])
            ⊎ ((m ≡ length paths) × (path ≡ get_or paths n [] ++ link_character_of s ∷ [])) → ⊥
        by m (inl a) = none.1 m a
        by m (inr a) =
            let both =
            same_from_push (get_or paths node []) (get_or paths n []) (link_character_of symbol)
            (link_character_of s) a.1 in
            let same : node ≡ n =
            trie.apart node n (get_or paths n []) (within, both.0) (below, refl) in
            let alike : symbol ≡ s = same_symbol symbol s small low both.1 in
            other (omega arith)

    links : (n s : ℕ) → n < length more → s < 11
        → LeadsTo more (get_or more n [] ++ link_character_of s ∷ []) (link_at new n s)
    links n s below low = by (cases_lt n (length paths)) (cases_eq (15 * n + s) place)
      where
        by : (n < length paths) ⊎ (length paths ≤ n)
            → (15 * n + s ≡ place) ⊎ (15 * n + s ≡ place → ⊥)
            → LeadsTo more (get_or more n [] ++ link_character_of s ∷ []) (link_at new n s)
        by (inr past) e =
            let last : length paths ≡ n = omega (arith, length_push paths path) in
            LeadsTo-at more (path ++ link_character_of s ∷ []) (get_or more n [] ++
            link_character_of s ∷ [])
            0 (link_at new n s) (ap (λ p. p ++ link_character_of s ∷ [])
            (sym new_path ∙ ap (λ k. get_or more k []) last))
            (sym (word-new s (omega arith)) ∙ ap (λ k. get_or new (15 * k + s) 0) last)
            (leads_new s low)
        by (inl early) (inr other) =
            LeadsTo-at more (get_or paths n [] ++ link_character_of s ∷ [])
            (get_or more n [] ++ link_character_of s ∷ []) (link_at old n s) (link_at new n s)
            (ap (λ p. p ++ link_character_of s ∷ []) (sym (old_path n early)))
            (sym (word-old (15 * n + s) (omega arith) other))
            (leads_old n s (link_at old n s) early low other (trie.links n s early low))
        by (inl early) (inl same) =
            let one : n ≡ node = omega arith in let two : s ≡ symbol = omega arith in
            let here : path ≡ get_or more n [] ++ link_character_of s ∷ [] =
            ap (λ k. get_or paths k [] ++ link_character_of symbol ∷ []) (sym one)
            ∙ ap (λ p. p ++ link_character_of symbol ∷ []) (sym (old_path n early))
            ∙ ap (λ k. get_or more n [] ++ link_character_of k ∷ []) (sym two) in
            LeadsTo-at more path (get_or more n [] ++ link_character_of s ∷ []) (length paths)
            (link_at new n s) here (sym word-link ∙ ap (λ k. get_or new k 0) (sym same))
            (inr (omega (arith, trie.root.0), At-new paths path))

    no_row : (star : Bool) (row : Row) → Contains rows row → EndsAt path star row → ⊥
    no_row star row in' ends =
        let there = trie.held row in' in absent there.0 (there.1.0, there.1.1 ∙ ends.0)

    two_words : (k : ℕ) → (k ≡ 11) ⊎ (k ≡ 13) → (n : ℕ) → n < length paths
        → end_in new (15 * n + k) ≡ end_in old (15 * n + k)
    two_words k which n below =
        end_in-same old new (15 * n + k) (word-old (15 * n + k) (by which).0 (by which).1)
        (word-old (15 * n + k + 1) (by which).2 (by which).3)
      where
        by : (k ≡ 11) ⊎ (k ≡ 13) → (15 * n + k < 15 * length paths) × (15 * n + k ≢ place)
            × (15 * n + k + 1 < 15 * length paths) × (15 * n + k + 1 ≢ place)
        by (inl e) =
            (omega arith, λ f. absurd (omega arith), omega arith, λ f. absurd (omega arith))
        by (inr e) =
            (omega arith, λ f. absurd (omega arith), omega arith, λ f. absurd (omega arith))

    same_end : (star : Bool) (n : ℕ) → n < length paths → end_at new n star ≡ end_at old n star
    same_end true n below = two_words 13 (inr refl) n below
    same_end false n below = two_words 11 (inl refl) n below

    new_end : (star : Bool) → end_at new (length paths) star ≡ None
    new_end true =
        ap (λ f. cond (eqb f 0) None (Some (get_or new (15 * length paths + 13 + 1) 0)))
        (word-new 13 (omega arith))
    new_end false =
        ap (λ f. cond (eqb f 0) None (Some (get_or new (15 * length paths + 11 + 1) 0)))
        (word-new 11 (omega arith))

    ends : (n : ℕ) (star : Bool) → n < length more
        → Tells rows (get_or more n []) star (end_at new n star)
    ends n star below = by (cases_lt n (length paths))
      where
        by : (n < length paths) ⊎ (length paths ≤ n)
            → Tells rows (get_or more n []) star (end_at new n star)
        by (inl early) =
            Tells-at rows (get_or paths n []) (get_or more n []) star (end_at old n star)
            (end_at new n star) (sym (old_path n early)) (sym (same_end star n early))
            (trie.ends n star early)
        by (inr past) =
            let last : length paths ≡ n = omega (arith, length_push paths path) in
            Tells-at rows path (get_or more n []) star None (end_at new n star)
            (sym new_path ∙ ap (λ k. get_or more k []) last)
            (sym (new_end star) ∙ ap (λ k. end_at new k star) last) (no_row star)

    grown : IsTrie rows more new
    grown = record {
      sized = length-set wider place (length paths) ∙ length-wider
          ∙ omega (arith, length_push paths path);
      root = At-left paths path 0 [] trie.root;
      apart = λ m n p a b. one_apart m n p (At-cases paths path m p a) (At-cases paths path n p b);
      closed = λ n p c at. parent n p c (At-cases paths path n (p ++ c ∷ []) at);
      links = links;
      ends = ends;
      held = λ row in'. let there = trie.held row in' in
          (there.0, At-left paths path there.0 (path_of row.0) there.1);
      patterns = trie.patterns;
    }

    grown_to : Reaches rows (with_path paths path) new (length paths) path
    grown_to = subst (λ ps. Reaches rows ps new (length paths) path)
        (sym (with_path-new paths path absent)) (grown, At-new paths path)

  -- the link led to a node
  there_already : At paths (get_or old place 0) path
      → Reaches rows (with_path paths path) old (get_or old place 0) path
  there_already at =
      subst (λ ps. Reaches rows ps old (get_or old place 0) path)
      (sym (with_path-there paths (get_or old place 0) path at)) (trie, at)

  -- the link leads to a node now, whatever it was
  pub linked : (words : List ℕ) (child : ℕ) → Links old place words child
      → Reaches rows (with_path paths path) words child path
  linked words child (inl there) = by (trie.links node symbol within small)
    where
      by : LeadsTo paths path (link_at old node symbol)
          → Reaches rows (with_path paths path) words child path
      by (inl none) = absurd (omega (arith, none.0, there.0))
      by (inr leads) =
          subst (λ n. Reaches rows (with_path paths path) words n path) (sym there.1)
          (subst (λ w. Reaches rows (with_path paths path) w (get_or old place 0) path)
          (sym there.2) (there_already leads.1))
  linked words child (inr made) = by (trie.links node symbol within small)
    where
      number : child ≡ length paths
      number = made.1 ∙ omega (arith, trie.sized)

      words_are : words ≡ new
      words_are = made.2 ∙ ap (set wider place) number

      by : LeadsTo paths path (link_at old node symbol)
          → Reaches rows (with_path paths path) words child path
      by (inl none) =
          subst (λ n. Reaches rows (with_path paths path) words n path) (sym number)
          (subst (λ w. Reaches rows (with_path paths path) w (length paths) path) (sym words_are)
          (grown_to none.1))
      by (inr leads) = absurd (omega (arith, made.0, leads.0))
