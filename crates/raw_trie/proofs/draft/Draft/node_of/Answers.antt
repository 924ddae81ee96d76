use Rattle.std.proofs.Common.{◌≡◌, ℕ, ◌+◌, ◌-◌, ◌*◌, ◌<◌, List, [], ◌∷◌, ◌++◌, length, get_or, take, replicate, true, sym, ap, ◌∙◌, subst, arith}
use Rattle.std.specs.Char.{is_ascii_digit}
use Rattle.std.specs.List.{list_all}
use Rattle.std.proofs.lemmas.List.{append-nil, append_assoc, take_more, take_all, replicate_more}
use Rattle.raw_trie.specs.Trie.{Links, GrowsTo, IsSomeTrie, link_character_of}
use Rattle.raw_trie.proofs.Same.{digits_of}
use Rattle.raw_trie.proofs.Insertion.{within_words, grows_none, grows_more, character_of-digit, is_digit_at, digit_range}
use Rattle.raw_trie.proofs.draft.Draft.node_of.Goals as goal

-- a path to which a character was added, under another name
renamed : (old new : List ℕ) (node : ℕ) (p q : List ℕ) → p ≡ q → GrowsTo old new node p
    → GrowsTo old new node q
renamed old new node p q e h = subst (GrowsTo old new node) e h

-- the link of the next digit
digit_next : (old mid : List ℕ) (node : ℕ) (digits : List ℕ) (i : ℕ)
    → list_all is_ascii_digit digits ≡ true → i < length digits → IsSomeTrie old
    → GrowsTo old mid node (take i digits) → 15 * node + (get_or digits i 0 - 48) < length mid
digit_next old mid node digits i all within some grows =
    let bound = within_words old mid node (take i digits) some grows in
    let range = digit_range (get_or digits i 0) (is_digit_at digits i all within) in
    omega arith

digit_more : (old mid new : List ℕ) (node child : ℕ) (digits : List ℕ) (i : ℕ)
    → list_all is_ascii_digit digits ≡ true → i < length digits
    → GrowsTo old mid node (take i digits)
    → Links mid (15 * node + (get_or digits i 0 - 48)) new child
    → GrowsTo old new child (take (i + 1) digits)
digit_more old mid new node child digits i all within grows links =
    let digit = get_or digits i 0 in
    let range = digit_range digit (is_digit_at digits i all within) in
    let path : take i digits ++ link_character_of (digit - 48) ∷ [] ≡ take (i + 1) digits =
    ap (λ c. take i digits ++ c ∷ []) (character_of-digit digit range.0 range.1)
    ∙ sym (take_more digits i 0 within) in
    renamed old new child (take i digits ++ link_character_of (digit - 48) ∷ []) (take (i + 1)
    digits)
    path (grows_more old mid new node (digit - 48) child (take i digits) (omega arith) grows links)

dot_more : (old mid new : List ℕ) (node child : ℕ) (literals : List ℕ) (i : ℕ)
    → GrowsTo old mid node (literals ++ replicate i 46) → Links mid (15 * node + 10) new child
    → GrowsTo old new child (literals ++ replicate (i + 1) 46)
dot_more old mid new node child literals i grows links =
    renamed old new child ((literals ++ replicate i 46) ++ 46 ∷ [])
    (literals ++ replicate (i + 1) 46)
    (append_assoc literals (replicate i 46) (46 ∷ [])
    ∙ ap (λ r. literals ++ r) (replicate_more i 46))
    (grows_more old mid new node 10 child (literals ++ replicate i 46) (omega arith) grows links)

pub loop-digit-init : goal.loop-digit-init
loop-digit-init c = grows_none c.args.self.now.words.items

pub child-requires : goal.child-requires
child-requires c =
    let all =
    ap (list_all is_ascii_digit) c.literals-digit-items.ensures.literals
    ∙ digits_of c.args.pattern.now c.literals-digit-items.ensures.pattern in
    digit_next c.args.self.now.words.items c.loop-digit.self.words.items c.loop-digit.node
    c.literals-digit-items.result.now c.loop-digit.digit-index all c.loop-digit-test.true c.requires
    c.loop-digit.invariant

pub loop-digit-preserved : goal.loop-digit-preserved
loop-digit-preserved c =
    let all =
    ap (list_all is_ascii_digit) c.literals-digit-items.ensures.literals
    ∙ digits_of c.args.pattern.now c.literals-digit-items.ensures.pattern in
    digit_more c.args.self.now.words.items c.loop-digit.self.words.items
    c.child.new.self.words.items c.loop-digit.node c.in_ok-node.node
    c.literals-digit-items.result.now c.loop-digit.digit-index all c.loop-digit-test.true
    c.loop-digit.invariant c.in_ok-node.ensures

pub loop-dot-init : goal.loop-dot-init
loop-dot-init c =
    let whole : take c.loop-digit.digit-index c.literals-digit-items.result.now
    ≡ c.args.pattern.now.literals ++ [] =
    take_all c.loop-digit.digit-index c.literals-digit-items.result.now c.loop-digit-test.false
    ∙ c.literals-digit-items.ensures.literals ∙ sym (append-nil c.args.pattern.now.literals) in
    renamed c.args.self.now.words.items c.loop-digit.self.words.items c.loop-digit.node _
    (c.args.pattern.now.literals ++ []) whole c.loop-digit.invariant

pub child-requires-in-loop-dot : goal.child-requires-in-loop-dot
child-requires-in-loop-dot c =
    let bound =
    within_words c.args.self.now.words.items c.loop-dot.self.words.items c.loop-dot.node
    (c.args.pattern.now.literals ++ replicate c.loop-dot._dot 46) c.requires c.loop-dot.invariant in
    omega arith

pub loop-dot-preserved : goal.loop-dot-preserved
loop-dot-preserved c =
    dot_more c.args.self.now.words.items c.loop-dot.self.words.items
    c.child-in-loop-dot.new.self.words.items c.loop-dot.node c.in_ok-node-2.node
    c.args.pattern.now.literals c.loop-dot._dot c.loop-dot.invariant c.in_ok-node-2.ensures

pub returns : goal.returns
returns c =
    let dots : c.loop-dot._dot ≡ c.args.pattern.now.dots =
    omega (arith, c.dots-dot-end.ensures) in (
      c.literals-digit-items.ensures.pattern,
      renamed c.args.self.now.words.items c.loop-dot.self.words.items c.loop-dot.node
          (c.args.pattern.now.literals ++ replicate c.loop-dot._dot 46) _
          (ap (λ n. c.args.pattern.now.literals ++ replicate n 46) dots) c.loop-dot.invariant,
    )
