use Rattle.std.proofs.Common.{◌≡◌, ◌≢◌, ◌∙◌, ap, sym, subst, refl, arith, ℕ, List, ◌+◌, ◌-◌, ◌*◌, ◌<◌, ◌||◌, ◌∷◌, ◌++◌, [], true, false, cond, length, length-append, get_or, suc}
use Rattle.std.specs.Prelude.{Option, sum}
use Rattle.std.proofs.lemmas.Bool.{not-true}
use Rattle.compiler.specs.Technology.{found_length}
use Rattle.plan_difference.specs.Sets.{is_joint}
use Rattle.difference_counts.specs.Ahead.{has_next}
use Rattle.difference_counts.specs.Branches.{GrewWith, weight}
use Rattle.difference_counts.specs.Numbers.{character_at, one_if, sum_to}
use Rattle.difference_counts.specs.Places.{is_just}
use Rattle.difference_counts.specs.Walk.{all_shorter, below, left_at, over_ends, place_of, rest_place}
use Rattle.difference_counts.proofs.JointLemmas.{left_is}
use Rattle.difference_counts.proofs.VisitLemmas.{held, whole_front, room_next, room_last}
use Rattle.difference_counts.proofs.WalkLemmas.{all_shorter_first, below_none, IsCounted, counted_none, counted_on, counted_off}
use Rattle.difference_counts.proofs.walk.+visit.Goals as goal
use Rattle.difference_counts.proofs.walk.+visit.Goals.{then-not-ends-number+in_ok-next+in_ok-visit, else-not-ends-number}

pub note-requires : goal.note-requires
note-requires t c =
    let first = all_shorter_first c.args.most in
    let room = c.requires.room in
    omega (arith, first, room)

pub returns-then-most-eq0-clause-grew : goal.returns-then-most-eq0-clause-grew
returns-then-most-eq0-clause-grew t c = λ (place : ℕ) h.
    let places : List ℕ → Option ℕ = place_of c.args.walk.now.old.tables.now.commands
    c.args.walk.now.new.tables.now.commands c.args.walk.now.places.now in
    let grew : get_or c.note.new.numbers place 0
    ≡ get_or c.args.numbers.now place 0 + 1 * one_if (is_just place (places c.args.front.now)) =
    c.note.ensures.grew place h
    ∙ (λ i. get_or c.args.numbers.now place 0 + 1 * one_if (is_just place (c.place_by.ensures i)))
    in
    let whole = below_none places c.args.front.now place c.args.most c.if-most-eq0.true in
    omega (arith, grew, whole)

pub returns-then-most-eq0-clause-bounded : goal.returns-then-most-eq0-clause-bounded
returns-then-most-eq0-clause-bounded t c =
    let first = all_shorter_first c.args.most in
    let bounded = c.note.ensures.bounded in
    omega (arith, first, bounded)

pub loop-number-init : goal.loop-number-init
loop-number-init t c = counted_none _ _ _ _ _ _ _

pub visit-requires : goal.visit-requires
visit-requires t c =
    let some : c.args.most ≢ 0 = c.if-most-eq0.false in
    let measure = c.decreases in
    let size : length c.with_character-longer.result ≡ length c.args.front.now + 1 =
    ap length c.with_character-longer.ensures
    ∙ length-append c.as_bytes-text.result.now _
    ∙ ap (λ text. length text + 1) c.as_bytes-text.ensures.spells in
    let whole = c.requires.length in
    let first = all_shorter_first c.args.most in
    let room = c.requires.room in
    let noted = c.note.ensures.bounded in
    let next = room_next (all_shorter c.args.most) c.loop-number.number _
    (sum c.note.new.numbers + weight c.args.branches.now.items)
    (sum c.args.numbers.now + weight c.args.branches.now.items)
    (sum c.loop-number.numbers + weight c.loop-number.branches.items) c.loop-number-test.true
    (omega (arith, noted)) c.loop-number.invariant.bounded (omega (arith, first, room)) in
    let less : all_shorter (c.args.most - 1 + 1) ≡ all_shorter c.args.most =
    ap all_shorter (let e : c.args.most - 1 + 1 ≡ c.args.most = omega (arith, some) in e) in (
      omega (arith, some, measure),
      (
        omega (arith, some, size, whole),
        (
          omega (arith, next, less),
          (c.requires.old, (c.requires.new, c.in_ok-next.ensures)),
        ),
      ),
    )

pub loop-number-preserved : goal.loop-number-preserved
loop-number-preserved t c =
    let old = c.args.walk.now.old.tables.now.commands in
    let new = c.args.walk.now.new.tables.now.commands in
    let sets = c.args.walk.now.places.now in
    let rests : List ℕ → Option ℕ = rest_place old new sets in
    let front = c.args.front.now in
    let most = c.args.most in
    let number = c.loop-number.number in
    let ends = c.ends-ends.result in
    let ways = c.args.ways.now in
    let some : most ≢ 0 = c.if-most-eq0.false in
    let less : most - 1 + 1 ≡ most = omega (arith, some) in
    let next : most ≡ suc (most - 1) = omega (arith, some) in
    let spells = c.as_bytes-text.ensures.spells in
    let parts : ℕ → ℕ → ℕ = λ n place.
    below (place_of old new sets) (front ++ character_at n ∷ []) (most - 1) place in
    let left : ℕ → ℕ → ℕ = λ n place.
    left_at old new sets (is_joint old new ways.old.technology ways.new.technology)
    (found_length ways.old.technology) front most n place in
    let before : ℕ → ℕ = held rests c.note.new.numbers c.args.branches.now.items in
    let least = sum c.note.new.numbers + weight c.args.branches.now.items in
    let now : ℕ → ℕ = held rests c.loop-number.numbers c.loop-number.branches.items in
    let total = sum c.loop-number.numbers + weight c.loop-number.branches.items in
    let count = length c.note.new.numbers in
    let counts : ℕ → (ℕ → ℕ) → ℕ → Type 0 = λ index after sum_after.
    IsCounted ends (all_shorter most) parts left index count before after least sum_after in
    elim c.if-not-ends-number.branch [
      | then-not-ends-number+in_ok-next+in_ok-visit w ↦
          let longer : w.with_character-longer.result ≡ front ++ character_at number ∷ [] =
          w.with_character-longer.ensures ∙ ap (λ text. text ++ character_at number ∷ []) spells in
          let bounded = w.in_ok-visit.ensures.bounded in
          let same : all_shorter (most - 1 + 1) ≡ all_shorter most = ap all_shorter less in
          let size = c.loop-number.auto.numbers in
          let grew = subst (λ text. GrewWith rests c.loop-number.numbers
          c.loop-number.branches.items w.visit.new.numbers w.visit.new.branches.items
          (below (place_of old new sets) text (most - 1))) longer w.in_ok-visit.ensures.grew in
          subst (λ n. counts (number + 1) (held rests n c.if-not-ends-number.branches.items)
          (sum n + weight c.if-not-ends-number.branches.items)) (sym w.numbers-is)
          (subst (λ b. counts (number + 1) (held rests w.visit.new.numbers b.items)
          (sum w.visit.new.numbers + weight b.items)) (sym w.branches-is)
          (counted_on ends (all_shorter most) parts left number count before now least total
          c.loop-number.invariant w.if-not-ends-number.true
          (held rests w.visit.new.numbers w.visit.new.branches.items)
          (sum w.visit.new.numbers + weight w.visit.new.branches.items)
          (λ place h. grew place
          (let e : place < length c.loop-number.numbers = omega (arith, size, h) in e))
          (omega (arith, bounded, same))))
      | else-not-ends-number w ↦
          let flag : get_or ends number false ≡ true = w.if-not-ends-number.false in
          let ended : (has_next ways.old.technology ways.old.prefixes.items
          ways.old.patterns.items (length front) (character_at number)
          || has_next ways.new.technology ways.new.prefixes.items ways.new.patterns.items
          (length front) (character_at number)) ≡ false =
          (λ i. has_next ways.old.technology ways.old.prefixes.items ways.old.patterns.items
          (length (sym spells i)) (character_at number)
          || has_next ways.new.technology ways.new.prefixes.items ways.new.patterns.items
          (length (sym spells i)) (character_at number))
          ∙ not-true
          (has_next ways.old.technology ways.old.prefixes.items ways.old.patterns.items
          (length c.as_bytes-text.result.now) (character_at number)
          || has_next ways.new.technology ways.new.prefixes.items ways.new.patterns.items
          (length c.as_bytes-text.result.now) (character_at number))
          (sym (c.ends-ends.ensures.each number c.loop-number-test.true) ∙ flag) in
          subst (λ n. counts (number + 1) (held rests n c.if-not-ends-number.branches.items)
          (sum n + weight c.if-not-ends-number.branches.items)) (sym w.numbers-is)
          (subst (λ b. counts (number + 1) (held rests c.loop-number.numbers b.items)
          (sum c.loop-number.numbers + weight b.items)) (sym w.branches-is)
          (counted_off ends (all_shorter most) parts left number count before now least total
          c.loop-number.invariant flag
          (left_is old new sets front ways.old.technology ways.old.prefixes.items
          ways.old.patterns.items ways.new.technology ways.new.prefixes.items
          ways.new.patterns.items c.requires.at c.requires.old.literal c.requires.new.literal
          number most (most - 1) next refl ended
          (is_joint old new ways.old.technology ways.new.technology) refl)))
    ]

pub leave-requires-clause-room : goal.leave-requires-clause-room
unfolding over_ends
leave-requires-clause-room t c =
    let first = all_shorter_first c.args.most in
    let room = c.requires.room in
    let noted = c.note.ensures.bounded in
    let low = c.loop-number-test.false in
    let few = c.loop-number.auto.number-end in
    let all : 12 ≡ c.loop-number.number = omega (arith, low, few) in
    let off : over_ends c.ends-ends.result (λ number. all_shorter c.args.most)
    ≡ sum_to c.loop-number.number
    (λ number. cond (get_or c.ends-ends.result number false) (all_shorter c.args.most) 0) =
    ap (λ n. sum_to n
    (λ number. cond (get_or c.ends-ends.result number false) (all_shorter c.args.most) 0)) all in
    let last = room_last (all_shorter c.args.most) c.loop-number.number _
    (sum c.note.new.numbers + weight c.args.branches.now.items)
    (sum c.args.numbers.now + weight c.args.branches.now.items)
    (sum c.loop-number.numbers + weight c.loop-number.branches.items)
    (omega (arith, all)) (omega (arith, noted)) c.loop-number.invariant.bounded in
    omega (arith, first, room, last, off)

pub returns-clause-grew : goal.returns-clause-grew
returns-clause-grew t c = λ (place : ℕ) h.
    let old = c.args.walk.now.old.tables.now.commands in
    let new = c.args.walk.now.new.tables.now.commands in
    let sets = c.args.walk.now.places.now in
    let rests : List ℕ → Option ℕ = rest_place old new sets in
    let places : List ℕ → Option ℕ = place_of old new sets in
    let front = c.args.front.now in
    let most = c.args.most in
    let ways = c.args.ways.now in
    let some : most ≢ 0 = c.if-most-eq0.false in
    let next : most ≡ suc (most - 1) = omega (arith, some) in
    let left : ℕ → ℕ → ℕ = λ n place.
    left_at old new sets (is_joint old new ways.old.technology ways.new.technology)
    (found_length ways.old.technology) front most n place in
    let low = c.loop-number-test.false in
    let few = c.loop-number.auto.number-end in
    let all : c.loop-number.number ≡ 12 = omega (arith, low, few) in
    let noted = c.note.auto.numbers in
    let looped = c.loop-number.auto.numbers in
    whole_front rests places front most (most - 1) next refl c.ends-ends.result
    (all_shorter most) left (held rests c.args.numbers.now c.args.branches.now.items)
    (held rests c.note.new.numbers c.args.branches.now.items)
    (held rests c.loop-number.numbers c.loop-number.branches.items)
    (held rests c.leave.new.numbers c.leave.new.branches.items) c.loop-number.number
    (length c.note.new.numbers) _ _ all
    (λ place h.
    let grew : get_or c.note.new.numbers place 0
    ≡ get_or c.args.numbers.now place 0 + 1 * one_if (is_just place (places front)) =
    c.note.ensures.grew place
    (let w : place < length c.args.numbers.now = omega (arith, noted, h) in w)
    ∙ (λ i. get_or c.args.numbers.now place 0 + 1 * one_if (is_just place (c.place_by.ensures i)))
    in
    omega (arith, grew))
    c.loop-number.invariant
    (λ place h. c.in_ok-leave.ensures.grew place
    (let w : place < length c.loop-number.numbers = omega (arith, looped, h) in w))
    place (let w : place < length c.note.new.numbers = omega (arith, noted, h) in w)

pub returns-clause-bounded : goal.returns-clause-bounded
unfolding over_ends
returns-clause-bounded t c =
    let first = all_shorter_first c.args.most in
    let noted = c.note.ensures.bounded in
    let low = c.loop-number-test.false in
    let few = c.loop-number.auto.number-end in
    let all : 12 ≡ c.loop-number.number = omega (arith, low, few) in
    let off : over_ends c.ends-ends.result (λ number. all_shorter c.args.most)
    ≡ sum_to c.loop-number.number
    (λ number. cond (get_or c.ends-ends.result number false) (all_shorter c.args.most) 0) =
    ap (λ n. sum_to n
    (λ number. cond (get_or c.ends-ends.result number false) (all_shorter c.args.most) 0)) all in
    let last = room_last (all_shorter c.args.most) c.loop-number.number _
    (sum c.note.new.numbers + weight c.args.branches.now.items)
    (sum c.args.numbers.now + weight c.args.branches.now.items)
    (sum c.loop-number.numbers + weight c.loop-number.branches.items)
    (omega (arith, all)) (omega (arith, noted)) c.loop-number.invariant.bounded in
    let bounded = c.in_ok-leave.ensures.bounded in
    omega (arith, first, last, off, bounded)
