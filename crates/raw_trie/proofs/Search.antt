-- A walk meets the patterns that may match in the order of their ranks.
use Rattle.std.proofs.Common.{◌≡◌, ℕ, ◌+◌, ◌-◌, ◌*◌, ◌<◌, ◌≤◌, ◌≢◌, eqb, Bool, true, false, cond, ◌⊎◌, inl, inr, List, [], ◌∷◌, ◌++◌, length, take, replicate, refl, sym, ap, ◌∙◌, subst, arith, Option, Some, None}
use Rattle.std.specs.Char.{is_ascii_digit}
use Rattle.std.specs.List.{Contains, list_all, starts_with}
use Rattle.std.proofs.lemmas.Bool.{and_from, le-leb, eq-eqb, cases_lt}
use Rattle.std.proofs.lemmas.List.{length-take-le, append_assoc, append-nil, replicate_more, replicate-append-replicate}
use Rattle.std.proofs.lemmas.Slice.Eq.{bytes_eq-Decides}
use Rattle.digit_patterns.specs.PatternParts.{PatternParts}
use Rattle.digit_patterns.specs.Pattern.{Matches}
use Rattle.digit_patterns.specs.declared.tables.Hit.{Hit}
use Rattle.raw_trie.specs.Nodes.{path_of}
use Rattle.raw_trie.specs.Trie.{Row, At, LeadsTo, EndsAt, Tells, IsTrie, paths_of, link_at, end_at}
use Rattle.raw_trie.specs.Found.{score_of, IsFound, with_hit}
use Rattle.raw_trie.specs.Walk.{Shows}
use Rattle.raw_trie.specs.declared.walk.Seen.{Seen}
use Rattle.raw_trie.proofs.Same.{made, same_front, digits_of}
use Rattle.raw_trie.proofs.Scores.{Counts, counts_of, plain_of, literals_in_front, same_counts, too_long, not_plain, more_dots, widen, take_over}

-- the fronts of a node's path have nodes
pub front_at : (rows : List Row) (paths : List (List ℕ)) (words : List ℕ) → IsTrie rows paths words
    → (rest front : List ℕ) (node : ℕ) → At paths node (front ++ rest) → (m : ℕ) × At paths m front
front_at rows paths words trie [] front node at = (node, (at.0, at.1 ∙ append-nil front))
front_at rows paths words trie (c ∷ cs) front node at =
    let up =
    front_at rows paths words trie cs (front ++ c ∷ []) node
    (at.0, at.1 ∙ sym (append_assoc front (c ∷ []) cs)) in
    trie.closed up.0 front c up.1

module _ (rows : List Row) (text : List ℕ) (short : length text ≤ 32) (k j : ℕ)
    (inside : k + j ≤ length text) (digits : list_all is_ascii_digit (take k text) ≡ true)
    (seen : Seen) (shown : Shows rows (take k text ++ replicate j 46) seen) where
  abbrev path : List ℕ
  path = take k text ++ replicate j 46

  abbrev trie : IsTrie rows (paths_of rows) shown.words
  trie = shown.represents.trie

  -- the pattern that ends at the node
  abbrev pattern_at : Bool → PatternParts
  pattern_at star = record { literals = take k text; dots = j; star = star }

  literals_length : length (take k text) ≡ k
  literals_length = length-take-le k text (omega (arith, inside))

  is_pattern_at : (star : Bool) (row : Row) → Contains rows row → EndsAt path star row
      → row.0 ≡ pattern_at star
  is_pattern_at star row in' ends =
      let both =
      same_front row.0.literals (take k text) row.0.dots j (digits_of row.0 (trie.patterns row in'))
      digits ends.0 in
      made row.0 (pattern_at star) both.0 both.1 ends.1

  front_matches : starts_with eqb text (take k text) ≡ true
  front_matches = (bytes_eq-Decides (take k text) (take (length (take k text)) text)).1
      (ap (λ n. take n text) (sym literals_length))

  starred_matches : Matches (pattern_at true) text
  starred_matches = and_from _ _ front_matches
      (le-leb (length (take k text) + j) (length text) (omega (arith, inside, literals_length)))

  plain_matches : k + j ≡ length text → Matches (pattern_at false) text
  plain_matches full =
      and_from _ _ front_matches (eq-eqb (length text) (length (take k text) + j)
      (omega (arith, full, literals_length)))

  score_at : (star : Bool) → score_of (pattern_at star) ≡ 66 * k + 2 * j + cond star 0 1
  score_at star = ap (λ n. 66 * n + 2 * j + cond star 0 1) literals_length

  -- the end tells what the best is up to the pattern that ends there
  end_step : (star : Bool) (end : Option ℕ) (low a b : ℕ) (best : Option Hit)
      → a ≡ 66 * k + 2 * j + cond star 0 1 → Matches (pattern_at star) text
      → Tells rows path star end
      → ((row : Row) → Contains rows row → Matches row.0 text → score_of row.0 < b
      → (score_of row.0 < a) ⊎ (score_of row.0 ≡ a))
      → IsFound rows text low a best → IsFound rows text low b (with_hit end k j star best)
  end_step star None low a b best at match tells all found =
      widen rows text trie.patterns low a b best found
      (λ row in' matching below. by row in' matching (all row in' matching below))
    where
      by : (row : Row) → Contains rows row → Matches row.0 text
          → (score_of row.0 < a) ⊎ (score_of row.0 ≡ a) → score_of row.0 < a
      by row in' matching (inl less) = less
      by row in' matching (inr same) =
          let p = trie.patterns row in' in let c = counts_of row.0 text p matching in
          let counts =
          same_counts (length row.0.literals) k row.0.dots j (plain_of row.0) (cond star 0 1) c.few
          (omega (arith, short, inside)) c.one (at_most_one star) (same ∙ at) in
          let literals : row.0.literals ≡ take k text =
          literals_in_front row.0 text matching ∙ ap (λ n. take n text) counts.0 in
          absurd (tells row in' (
            ap (λ l. l ++ replicate row.0.dots 46) literals
                ∙ ap (λ n. take k text ++ replicate n 46) counts.1,
            same_star row.0.star star counts.2,
          ))
        where
          at_most_one : (s : Bool) → cond s 0 1 ≤ 1
          at_most_one true = omega arith
          at_most_one false = omega arith

          same_star : (s t : Bool) → ◌≡◌ {A = ℕ} (cond s 0 1) (cond t 0 1) → s ≡ t
          same_star true true e = refl
          same_star false false e = refl
          same_star true false e = absurd (omega arith)
          same_star false true e = absurd (omega arith)
  end_step star (Some value) low a b best at match tells all found =
      let row = tells.0 in
      let same = is_pattern_at star row tells.1 tells.2 in
      let matching : Matches row.0 text = subst (λ p. Matches p text) (sym same) match in
      let score : score_of row.0 ≡ a = ap score_of same ∙ score_at star ∙ sym at in
      let counted : length row.0.literals ≡ k =
      ap (λ (p : PatternParts). length p.literals) same ∙ literals_length in
      subst (λ h. IsFound rows text low b (Some h))
      (hit_is row.1 value (length row.0.literals) k row.0.dots j row.0.star star tells.3 counted
      (ap (λ (p : PatternParts). p.dots) same) (ap (λ (p : PatternParts). p.star) same))
      (take_over rows text trie.patterns low a b row tells.1 matching score all)
    where
      hit_from : ℕ → ℕ → ℕ → Bool → Hit
      hit_from v l d s = record { value = v; literals = l; dots = d; star = s }

      hit_is : (v w l m d e : ℕ) (s t : Bool) → v ≡ w → l ≡ m → d ≡ e → s ≡ t
          → hit_from v l d s ≡ hit_from w m e t
      hit_is v w l m d e s t a b c f =
          ap (λ x. hit_from x l d s) a ∙ ap (λ x. hit_from w x d s) b ∙ ap (λ x. hit_from w m x s) c
          ∙ ap (hit_from w m e) f

  ends_at : (star : Bool) → Tells rows path star (end_at shown.words shown.node star)
  ends_at star =
      subst (λ p. Tells rows p star (end_at shown.words shown.node star)) shown.at.1
      (trie.ends shown.node star shown.at.0)

  -- the pattern with the star
  pub starred_step : (low : ℕ) (best : Option Hit) → IsFound rows text low (66 * k + 2 * j) best
      → IsFound rows text low (66 * k + 2 * j + 1) (with_hit seen.starred k j true best)
  starred_step low best found =
      subst (λ e. IsFound rows text low (66 * k + 2 * j + 1) (with_hit e k j true best))
      (sym shown.starred)
      (end_step true (end_at shown.words shown.node true) low (66 * k + 2 * j) (66 * k + 2 * j + 1)
      best (omega arith) starred_matches (ends_at true)
      (λ row in' match below. up_to (score_of row.0) (66 * k + 2 * j) below) found)
    where
      up_to : (s a : ℕ) → s < a + 1 → (s < a) ⊎ (s ≡ a)
      up_to s a h = by (cases_lt s a)
        where
          by : (s < a) ⊎ (a ≤ s) → (s < a) ⊎ (s ≡ a)
          by (inl less) = inl less
          by (inr more) = inr (omega arith)

  -- the pattern without a star, which matches the whole text
  pub plain_step : k + j ≡ length text → (low : ℕ) (best : Option Hit)
      → IsFound rows text low (66 * k + 2 * j + 1) best
      → IsFound rows text low (66 * (k + 1)) (with_hit seen.plain k j false best)
  plain_step full low best found =
      subst (λ e. IsFound rows text low (66 * (k + 1)) (with_hit e k j false best))
      (sym shown.plain)
      (end_step false (end_at shown.words shown.node false) low (66 * k + 2 * j + 1) (66 * (k + 1))
      best (omega arith) (plain_matches full) (ends_at false) all found)
    where
      all : (row : Row) → Contains rows row → Matches row.0 text → score_of row.0 < 66 * (k + 1)
          → (score_of row.0 < 66 * k + 2 * j + 1) ⊎ (score_of row.0 ≡ 66 * k + 2 * j + 1)
      all row in' match below = by (cases_lt (score_of row.0) (66 * k + 2 * j + 2))
        where
          c : Counts row.0 (length text)
          c = counts_of row.0 text (trie.patterns row in') match

          by : (score_of row.0 < 66 * k + 2 * j + 2) ⊎ (66 * k + 2 * j + 2 ≤ score_of row.0)
              → (score_of row.0 < 66 * k + 2 * j + 1) ⊎ (score_of row.0 ≡ 66 * k + 2 * j + 1)
          by (inl less) = at_or_below (cases_lt (score_of row.0) (66 * k + 2 * j + 1))
            where
              at_or_below : (score_of row.0 < 66 * k + 2 * j + 1)
                  ⊎ (66 * k + 2 * j + 1 ≤ score_of row.0)
                  → (score_of row.0 < 66 * k + 2 * j + 1) ⊎ (score_of row.0 ≡ 66 * k + 2 * j + 1)
              at_or_below (inl below) = inl below
              at_or_below (inr above) = inr (omega arith)
          by (inr more) =
              absurd (too_long (length row.0.literals) row.0.dots (plain_of row.0) k j (length text)
              c.few c.one c.within c.whole full more below)

  -- no matching pattern without a star ends before the end of the text
  no_plain : k + j < length text → (row : Row) → Contains rows row → Matches row.0 text
      → score_of row.0 < 66 * k + 2 * j + 2 → score_of row.0 < 66 * k + 2 * j + 1
  no_plain early row in' match below =
      let c = counts_of row.0 text (trie.patterns row in') match in
      not_plain (length row.0.literals) row.0.dots (plain_of row.0) k j (length text) c.few c.one
      c.whole short early below

  -- the next dot
  pub next_step : k + j < length text → (low : ℕ) (best : Option Hit)
      → IsFound rows text low (66 * k + 2 * j + 1) best
      → IsFound rows text low (66 * k + 2 * (j + 1)) best
  next_step early low best found =
      widen rows text trie.patterns low (66 * k + 2 * j + 1) (66 * k + 2 * (j + 1)) best found
      (λ row in' match below. no_plain early row in' match (omega (arith, below)))

  -- where the dot's link leads
  dot_link : LeadsTo (paths_of rows) (path ++ 46 ∷ []) (link_at shown.words shown.node 10)
  dot_link = subst (λ p. LeadsTo (paths_of rows) (p ++ 46 ∷ []) (link_at shown.words shown.node 10))
      shown.at.1 (trie.links shown.node 10 shown.at.0 (omega arith))

  -- no row has more dots after these literals
  no_more_dots : seen.dot ≡ 0 → (row : Row) → Contains rows row → row.0.literals ≡ take k text
      → j < row.0.dots → ⊥
  no_more_dots stop row in' literals more =
      let held = trie.held row in' in
      let rest = row.0.dots - j - 1 in
      let dots : replicate row.0.dots 46 ≡ (replicate j 46 ++ 46 ∷ []) ++ replicate rest 46 =
      ap (λ n. replicate n 46) (omega (arith, more))
      ∙ sym (replicate-append-replicate (j + 1) rest 46)
      ∙ ap (λ r. r ++ replicate rest 46) (sym (replicate_more j 46)) in
      let spelled : path_of row.0 ≡ (path ++ 46 ∷ []) ++ replicate rest 46 =
      ap (λ l. l ++ replicate row.0.dots 46) literals ∙ ap (λ r. take k text ++ r) dots
      ∙ sym (append_assoc (take k text) (replicate j 46 ++ 46 ∷ []) (replicate rest 46))
      ∙ ap (λ r. r ++ replicate rest 46)
      (sym (append_assoc (take k text) (replicate j 46) (46 ∷ []))) in
      let front : (m : ℕ) × At (paths_of rows) m (path ++ 46 ∷ []) =
      front_at rows (paths_of rows) shown.words trie (replicate rest 46) (path ++ 46 ∷ []) held.0
      (held.1.0, held.1.1 ∙ spelled) in
      no_link front dot_link
    where
      no_link : (m : ℕ) × At (paths_of rows) m (path ++ 46 ∷ [])
          → LeadsTo (paths_of rows) (path ++ 46 ∷ []) (link_at shown.words shown.node 10) → ⊥
      no_link front (inl none) = none.1 front.0 front.1
      no_link front (inr leads) = absurd (omega (arith, leads.0, shown.dot, stop))

  -- there is no further dot
  pub stop_step : k + j < length text → seen.dot ≡ 0 → (low : ℕ) (best : Option Hit)
      → IsFound rows text low (66 * k + 2 * j + 1) best → IsFound rows text low (66 * (k + 1)) best
  stop_step early stop low best found =
      widen rows text trie.patterns low (66 * k + 2 * j + 1) (66 * (k + 1)) best found less
    where
      less : (row : Row) → Contains rows row → Matches row.0 text → score_of row.0 < 66 * (k + 1)
          → score_of row.0 < 66 * k + 2 * j + 1
      less row in' match below = by (cases_lt (score_of row.0) (66 * k + 2 * j + 2))
        where
          c : Counts row.0 (length text)
          c = counts_of row.0 text (trie.patterns row in') match

          by : (score_of row.0 < 66 * k + 2 * j + 2) ⊎ (66 * k + 2 * j + 2 ≤ score_of row.0)
              → score_of row.0 < 66 * k + 2 * j + 1
          by (inl near) = no_plain early row in' match near
          by (inr far) =
              let counts =
              more_dots (length row.0.literals) row.0.dots (plain_of row.0) k j c.few c.one far
              below in
              absurd (no_more_dots stop row in'
              (literals_in_front row.0 text match ∙ ap (λ n. take n text) counts.0) counts.1)

  longer : path ++ 46 ∷ [] ≡ take k text ++ replicate (j + 1) 46
  longer = append_assoc (take k text) (replicate j 46) (46 ∷ [])
      ∙ ap (λ r. take k text ++ r) (replicate_more j 46)

  -- if there is no link of the dot, there is no node of one more dot
  pub no_dot_on : seen.dot ≡ 0 → (node : ℕ)
      → At (paths_of rows) node (take k text ++ replicate (j + 1) 46) → ⊥
  no_dot_on stop node at = by dot_link
    where
      by : LeadsTo (paths_of rows) (path ++ 46 ∷ []) (link_at shown.words shown.node 10) → ⊥
      by (inl none) = none.1 node (at.0, at.1 ∙ sym longer)
      by (inr leads) = absurd (omega (arith, leads.0, shown.dot, stop))

  -- the dot's link leads to the node of one more dot
  pub dot_on : seen.dot ≢ 0 → At (paths_of rows) seen.dot (take k text ++ replicate (j + 1) 46)
  dot_on some = by dot_link
    where
      by : LeadsTo (paths_of rows) (path ++ 46 ∷ []) (link_at shown.words shown.node 10)
          → At (paths_of rows) seen.dot (take k text ++ replicate (j + 1) 46)
      by (inl none) = absurd (some (shown.dot ∙ none.0))
      by (inr leads) =
          subst (λ n. At (paths_of rows) n (take k text ++ replicate (j + 1) 46)) (sym shown.dot)
          (subst (At (paths_of rows) (link_at shown.words shown.node 10)) longer leads.1)
