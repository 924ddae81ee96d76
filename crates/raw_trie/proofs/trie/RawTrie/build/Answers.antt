use Rattle.std.proofs.Common.{◌≡◌, ℕ, ◌+◌, ◌<◌, ◌≤◌, arith, List, ◌++◌, [], ◌∷◌, Bool, true, false, take, length, get_or, Some, refl, sym, ap, ◌∙◌, subst}
use Rattle.std.proofs.lemmas.List.{take_more, take_all}
use Rattle.digit_patterns.specs.Duplicate.{has_pattern}
use Rattle.digit_patterns.proofs.Duplicates.{duplicate_after-new, duplicate_after-found}
use Rattle.raw_trie.specs.Nodes.{node_count, patterns_of}
use Rattle.raw_trie.specs.Trie.{Row, IsTrie, Added, AddsRow, paths_of}
use Rattle.raw_trie.proofs.Counting.{paths_of-push, node_count_of, duplicate_after-all, empty_trie}
use Rattle.raw_trie.proofs.NodeBound.{node_count-rows}
use Rattle.raw_trie.proofs.trie.RawTrie.build.Goals as goal

-- what was said of a row that was added, or not
added_as : (rows : List Row) (old new : List ℕ) (row : Row) (b t : Bool)
    → IsTrie rows (paths_of rows) old → AddsRow old new row b → b ≡ t
    → Added rows (paths_of rows) row new t
added_as rows old new row b t trie adds e =
    subst (Added rows (paths_of rows) row new) e (adds rows (paths_of rows) trie)

-- the trie of one row more
one_more : (rows : List Row) (place : ℕ) (row : Row) (words : List ℕ) → row ≡ get_or rows place row
    → place < length rows → Added (take place rows) (paths_of (take place rows)) row words true
    → IsTrie (take (place + 1) rows) (paths_of (take (place + 1) rows)) words
one_more rows place row words stands within added =
    let more : take (place + 1) rows ≡ take place rows ++ row ∷ [] =
    take_more rows place row within ∙ ap (λ r. take place rows ++ r ∷ []) (sym stands) in
    let here : IsTrie (take place rows ++ row ∷ []) (paths_of (take place rows ++ row ∷ [])) words =
    subst (λ ps. IsTrie (take place rows ++ row ∷ []) ps words)
    (sym (paths_of-push (take place rows) row)) added.0 in
    subst (λ rs. IsTrie rs (paths_of rs) words) (sym more) here

whole : (rows : List Row) (n : ℕ) (words : List ℕ) → length rows ≤ n
    → IsTrie (take n rows) (paths_of (take n rows)) words → IsTrie rows (paths_of rows) words
whole rows n words all trie = subst (λ rs. IsTrie rs (paths_of rs) words) (take_all n rows all) trie

pub loop-place-init : goal.loop-place-init
loop-place-init c = record {
  trie = subst (λ ws. IsTrie [] ([] ∷ []) ws) (sym c.in_ok-draft.ensures) empty_trie;
  searched = refl;
  meant = c.new-meaning.ensures;
}

pub returns-then-not-branch-clause-duplicate : goal.returns-then-not-branch-clause-duplicate
returns-then-not-branch-clause-duplicate c row e =
    let rows = c.args.rows.now in
    let place = c.loop-place.place in
    let here = c.index-rows-place.result in
    let seen : has_pattern here.0 (take place rows) ≡ true =
    added_as (take place rows) c.loop-place.draft.words.items c.add.new.self.words.items here
    c.in_ok-add.field-0 false c.loop-place.invariant.trie c.in_ok-add.ensures cc in
    let same : place ≡ row = cc in
    c.loop-place.invariant.searched
    ∙ duplicate_after-found rows place here c.index-rows-place.is c.loop-place-test.true seen
    ∙ ap Some same

pub loop-place-preserved : goal.loop-place-preserved
loop-place-preserved c =
    let rows = c.args.rows.now in
    let place = c.loop-place.place in
    let here = c.index-rows-place.result in
    let added =
    added_as (take place rows) c.loop-place.draft.words.items c.add.new.self.words.items here
    c.in_ok-add.field-0 true c.loop-place.invariant.trie c.in_ok-add.ensures cc in
    record {
      trie = one_more rows place here c.add.new.self.words.items c.index-rows-place.is
          c.loop-place-test.true added;
      searched = c.loop-place.invariant.searched
          ∙ duplicate_after-new rows place here c.index-rows-place.is c.loop-place-test.true
          added.1;
      meant = c.with-meaning.ensures ∙ ap (λ rs. rs ++ here ∷ []) c.loop-place.invariant.meant
          ∙ sym (take_more rows place here c.loop-place-test.true
          ∙ ap (λ r. take place rows ++ r ∷ []) (sym c.index-rows-place.is));
    }

pub returns-then-nodes-most-clause-too_many : goal.returns-then-nodes-most-clause-too_many
returns-then-nodes-most-clause-too_many c e =
    let rows = c.args.rows.now in let place = c.loop-place.place in
    let trie =
    whole rows place c.loop-place.draft.words.items c.loop-place-test.false
    c.loop-place.invariant.trie in
    let count : c.nodes.result ≡ node_count (patterns_of rows) =
    c.nodes.ensures ∙ node_count_of rows c.loop-place.draft.words.items trie in (
      c.loop-place.invariant.searched ∙ duplicate_after-all rows place c.loop-place-test.false,
      subst (λ n. c.args.most < n) count c.if-nodes-most.true,
    )

pub returns-then-nodes-most-clause-enough : goal.returns-then-nodes-most-clause-enough
returns-then-nodes-most-clause-enough c e =
    let rows = c.args.rows.now in
    let words = c.loop-place.draft.words.items in
    let trie = whole rows c.loop-place.place words c.loop-place-test.false
    c.loop-place.invariant.trie in
    omega (
      arith,
      c.if-nodes-most.true,
      c.nodes.ensures,
      node_count_of rows words trie,
      node_count-rows rows (paths_of rows) words trie,
    )

pub returns-clause-few : goal.returns-clause-few
returns-clause-few c e =
    let rows = c.args.rows.now in let place = c.loop-place.place in
    let trie =
    whole rows place c.loop-place.draft.words.items c.loop-place-test.false
    c.loop-place.invariant.trie in
    let count : c.nodes.result ≡ node_count (patterns_of rows) =
    c.nodes.ensures ∙ node_count_of rows c.loop-place.draft.words.items trie in
    subst (λ n. n ≤ c.args.most) count c.if-nodes-most.false
