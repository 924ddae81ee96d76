use Rattle.std.proofs.Common.{◌≡◌, ◌≢◌, ◌∙◌, ap, sym, subst, arith, ℕ, List, ◌+◌, ◌-◌, ◌*◌, ◌^◌, ◌<◌, ◌||◌, ◌∷◌, ◌++◌, [], length, length-append, get_or, suc, filter}
use Rattle.std.specs.Prelude.{Option, count_by, sum}
use Rattle.std.specs.List.{list_any}
use Rattle.difference_counts.specs.Ahead.{pattern_has_at}
use Rattle.difference_counts.specs.Branches.{all_branched, branch_has_at, leaves_at, weight}
use Rattle.difference_counts.specs.Numbers.{character_at, one_if}
use Rattle.difference_counts.specs.Places.{is_just}
use Rattle.difference_counts.specs.Walk.{all_shorter, below, rest_place}
use Rattle.difference_counts.proofs.FrontLemmas.{all_dialled}
use Rattle.difference_counts.proofs.JointLemmas.{neither}
use Rattle.difference_counts.proofs.RestLemmas.{IsRestCounted, rest_none, rest_on, rest_alike, rest_whole, rest_last, rest_ends, next_on, room_next, room_end, some_shorter, times_at, onward}
use Rattle.difference_counts.proofs.rests.+visit_rest.Goals as goal
use Rattle.difference_counts.proofs.rests.+visit_rest.Goals.{then-is_ahead+in_ok-ahead+in_ok-on+in_ok-visit_rest, else-is_ahead}

pub note-requires : goal.note-requires
note-requires t c =
    let some = some_shorter c.args.most c.args.times in
    let room = c.requires.room in
    omega (arith, some, room)

pub returns-then-most-eq0-clause-grew : goal.returns-then-most-eq0-clause-grew
returns-then-most-eq0-clause-grew t c =
    rest_last (rest_place c.args.walk.now.old.tables.now.commands
    c.args.walk.now.new.tables.now.commands c.args.walk.now.places.now) c.args.rest.now
    c.args.most c.args.times c.if-most-eq0.true c.args.branches.now c.requires.on.branches_on
    c.args.numbers.now c.note.new.numbers
    (λ place h. c.note.ensures.grew place h
    ∙ (λ i. get_or c.args.numbers.now place 0
    + c.args.times * one_if (is_just place (c.place_by.ensures i))))

pub returns-then-most-eq0-clause-bounded : goal.returns-then-most-eq0-clause-bounded
returns-then-most-eq0-clause-bounded t c =
    let some = some_shorter c.args.most c.args.times in
    let bounded = c.note.ensures.bounded in
    omega (arith, some, bounded)

pub loop-number-init : goal.loop-number-init
loop-number-init t c = rest_none _ _ _ _ _ _ _

pub overflow_add-here : goal.overflow_add-here
overflow_add-here t c =
    let rest = c.args.rest.now in
    let most = c.args.most in
    let times = c.args.times in
    let branches = c.args.branches.now in
    let number = c.loop-number.number in
    let some : most ≢ 0 = c.if-most-eq0.false in
    let next : most ≡ suc (most - 1) = omega (arith, some) in
    let here : times + c.leaving_at.result ≡ times_at rest times branches number =
    ap (λ n. times + n) (c.leaving_at.ensures
    ∙ ap (λ text. count_by (leaves_at (length text) number) branches)
    c.as_bytes-text.ensures.spells) in
    let room : sum c.loop-number.numbers + c.loop-number.alike * all_shorter (most - 1 + 1)
    + (times_at rest times branches number * all_shorter (most - 1 + 1)
    + weight (onward rest branches number)) < 2 ^ 127 =
    room_next (rest_place c.args.walk.now.old.tables.now.commands
    c.args.walk.now.new.tables.now.commands c.args.walk.now.places.now) rest
    (all_dialled rest c.as_bytes-text.ensures.dialled) most (most - 1) times next branches
    c.requires.on.branches_on number c.loop-number.alike (sum c.args.numbers.now)
    c.note.new.numbers c.loop-number.numbers c.note.ensures.bounded c.loop-number.invariant
    c.loop-number-test.true c.requires.room in
    let few = some_shorter (most - 1) (times_at rest times branches number) in
    omega (arith, here, room, few)

pub overflow_add-alike : goal.overflow_add-alike
overflow_add-alike t c =
    let rest = c.args.rest.now in
    let most = c.args.most in
    let times = c.args.times in
    let branches = c.args.branches.now in
    let number = c.loop-number.number in
    let some : most ≢ 0 = c.if-most-eq0.false in
    let next : most ≡ suc (most - 1) = omega (arith, some) in
    let here : times + c.leaving_at.result ≡ times_at rest times branches number =
    ap (λ n. times + n) (c.leaving_at.ensures
    ∙ ap (λ text. count_by (leaves_at (length text) number) branches)
    c.as_bytes-text.ensures.spells) in
    let room : sum c.loop-number.numbers + c.loop-number.alike * all_shorter (most - 1 + 1)
    + (times_at rest times branches number * all_shorter (most - 1 + 1)
    + weight (onward rest branches number)) < 2 ^ 127 =
    room_next (rest_place c.args.walk.now.old.tables.now.commands
    c.args.walk.now.new.tables.now.commands c.args.walk.now.places.now) rest
    (all_dialled rest c.as_bytes-text.ensures.dialled) most (most - 1) times next branches
    c.requires.on.branches_on number c.loop-number.alike (sum c.args.numbers.now)
    c.note.new.numbers c.loop-number.numbers c.note.ensures.bounded c.loop-number.invariant
    c.loop-number-test.true c.requires.room in
    let few = some_shorter (most - 1) (times_at rest times branches number) in
    let others = some_shorter (most - 1) c.loop-number.alike in
    omega (arith, here, room, few, others)

pub visit_rest-requires : goal.visit_rest-requires
visit_rest-requires t c =
    let old = c.args.walk.now.old.tables.now.commands in
    let new = c.args.walk.now.new.tables.now.commands in
    let rest = c.args.rest.now in
    let most = c.args.most in
    let times = c.args.times in
    let branches = c.args.branches.now in
    let number = c.loop-number.number in
    let character = character_at number in
    let some : most ≢ 0 = c.if-most-eq0.false in
    let measure = c.decreases in
    let spells = c.as_bytes-text.ensures.spells in
    let next : most ≡ suc (most - 1) = omega (arith, some) in
    let size : length c.with_character-longer.result ≡ length rest + 1 =
    ap length c.with_character-longer.ensures
    ∙ length-append c.as_bytes-text.result.now _
    ∙ ap (λ text. length text + 1) spells in
    let whole = c.requires.length in
    let here : (times + c.leaving_at.result) * all_shorter (most - 1 + 1)
    ≡ times_at rest times branches number * all_shorter (most - 1 + 1) =
    ap (λ n. (times + n) * all_shorter (most - 1 + 1)) (c.leaving_at.ensures
    ∙ ap (λ text. count_by (leaves_at (length text) number) branches) spells) in
    let longer : c.with_character-longer.result ≡ rest ++ character ∷ [] =
    c.with_character-longer.ensures ∙ ap (λ text. text ++ character ∷ []) spells in
    let ahead : c.in_ok-ahead.ahead.items
    ≡ filter (pattern_has_at (length rest) character) c.args.patterns.now =
    c.in_ok-ahead.ensures
    ∙ ap (λ text. filter (pattern_has_at (length text) character) c.args.patterns.now) spells in
    let on : c.in_ok-on.on.items ≡ onward rest branches number =
    c.in_ok-on.ensures
    ∙ ap (λ text. filter (branch_has_at (length text) character) branches) spells in
    let on_weight : weight c.in_ok-on.on.items ≡ weight (onward rest branches number) =
    ap weight on in
    let deref = c.deref.ensures.value in
    let deref_weight : weight c.deref-then-is_ahead.result.now ≡ weight c.in_ok-on.on.items =
    ap weight c.deref-then-is_ahead.ensures.value in
    let room : sum c.loop-number.numbers + c.loop-number.alike * all_shorter (most - 1 + 1)
    + (times_at rest times branches number * all_shorter (most - 1 + 1)
    + weight (onward rest branches number)) < 2 ^ 127 =
    room_next (rest_place old new c.args.walk.now.places.now) rest
    (all_dialled rest c.as_bytes-text.ensures.dialled) most (most - 1) times next branches
    c.requires.on.branches_on number c.loop-number.alike (sum c.args.numbers.now)
    c.note.new.numbers c.loop-number.numbers c.note.ensures.bounded c.loop-number.invariant
    c.loop-number-test.true c.requires.room in (
      omega (arith, some, measure),
      (
        omega (arith, some, size, whole),
        (
          omega (arith, room, here, on_weight, deref_weight),
          (
            c.requires.old,
            (
              c.requires.new,
              next_on old new c.args.walk.now.places.now rest most (most - 1) next
                  c.args.patterns.now branches c.requires.on c.requires.old c.requires.new character
                  c.with_character-longer.result longer c.deref.result.now (deref ∙ ahead)
                  c.deref-then-is_ahead.result.now (c.deref-then-is_ahead.ensures.value ∙ on),
            ),
          ),
        ),
      ),
    )

pub loop-number-preserved : goal.loop-number-preserved
loop-number-preserved t c =
    let old = c.args.walk.now.old.tables.now.commands in
    let new = c.args.walk.now.new.tables.now.commands in
    let sets = c.args.walk.now.places.now in
    let rests : List ℕ → Option ℕ = rest_place old new sets in
    let rest = c.args.rest.now in
    let most = c.args.most in
    let times = c.args.times in
    let branches = c.args.branches.now in
    let number = c.loop-number.number in
    let alike = c.loop-number.alike in
    let before = c.note.new.numbers in
    let now = c.loop-number.numbers in
    let character = character_at number in
    let some : most ≢ 0 = c.if-most-eq0.false in
    let next : most ≡ suc (most - 1) = omega (arith, some) in
    let spells = c.as_bytes-text.ensures.spells in
    let here : times + c.leaving_at.result ≡ times_at rest times branches number =
    ap (λ n. times + n) (c.leaving_at.ensures
    ∙ ap (λ text. count_by (leaves_at (length text) number) branches) spells) in
    elim c.if-is_ahead.branch [
      | then-is_ahead+in_ok-ahead+in_ok-on+in_ok-visit_rest w ↦
          let longer : w.with_character-longer.result ≡ rest ++ character ∷ [] =
          w.with_character-longer.ensures ∙ ap (λ text. text ++ character ∷ []) spells in
          let on = w.deref-then-is_ahead.ensures.value ∙ w.in_ok-on.ensures
          ∙ ap (λ text. filter (branch_has_at (length text) character) branches) spells in
          let on_weight : weight w.deref-then-is_ahead.result.now ≡ weight (onward rest branches number) =
          ap weight on in
          let product : (times + c.leaving_at.result) * all_shorter (most - 1 + 1)
          ≡ times_at rest times branches number * all_shorter (most - 1 + 1) =
          ap (λ n. n * all_shorter (most - 1 + 1)) here in
          let bounded = w.in_ok-visit_rest.ensures.bounded in
          subst (λ a. IsRestCounted rests rest most (most - 1) times branches (number + 1) a before
          c.if-is_ahead.numbers) (sym w.alike-is)
          (subst (λ n. IsRestCounted rests rest most (most - 1) times branches (number + 1) alike
          before n) (sym w.numbers-is)
          (rest_on rests rest most (most - 1) times branches number alike before now
          c.loop-number.invariant w.visit_rest.new.numbers c.loop-number.auto.numbers
          (λ place h. w.in_ok-visit_rest.ensures.grew place h
          ∙ (λ i. get_or now place 0
          + (here i * below rests (longer i) (most - 1) place
          + all_branched rests (on i) place)))
          (omega (arith, bounded, product, on_weight))))
      | else-is_ahead w ↦
          let ends = neither
          (list_any (pattern_has_at (length rest) character) c.args.patterns.now)
          (list_any (branch_has_at (length rest) character) branches)
          ((λ i. list_any (pattern_has_at (length (sym spells i)) character) c.args.patterns.now
          || list_any (branch_has_at (length (sym spells i)) character) branches)
          ∙ sym c.is_ahead.ensures ∙ w.if-is_ahead.false) in
          subst (λ a. IsRestCounted rests rest most (most - 1) times branches (number + 1) a before
          c.if-is_ahead.numbers) (sym (w.alike-is ∙ ap (λ n. alike + n) here))
          (subst (λ n. IsRestCounted rests rest most (most - 1) times branches (number + 1)
          (alike + times_at rest times branches number) before n) (sym w.numbers-is)
          (rest_alike rests rest most (most - 1) times branches number alike before now
          c.loop-number.invariant ends.1
          (rest_ends old new sets rest most (most - 1) next c.args.patterns.now branches
          c.requires.on c.requires.old c.requires.new character ends.0)))
    ]

pub note_alike-requires-clause-room : goal.note_alike-requires-clause-room
note_alike-requires-clause-room t c =
    let rest = c.args.rest.now in
    let most = c.args.most in
    let some : most ≢ 0 = c.if-most-eq0.false in
    let next : most ≡ suc (most - 1) = omega (arith, some) in
    let low = c.loop-number-test.false in
    let few = c.loop-number.auto.number-end in
    let all : c.loop-number.number ≡ 12 = omega (arith, low, few) in
    let end = room_end (rest_place c.args.walk.now.old.tables.now.commands
    c.args.walk.now.new.tables.now.commands c.args.walk.now.places.now) rest
    (all_dialled rest c.as_bytes-text.ensures.dialled) most (most - 1) c.args.times next
    c.args.branches.now c.requires.on.branches_on c.loop-number.number c.loop-number.alike
    (sum c.args.numbers.now) c.note.new.numbers c.loop-number.numbers c.note.ensures.bounded
    c.loop-number.invariant all in
    let same : c.loop-number.alike * all_shorter (most - 1 + 1)
    ≡ c.loop-number.alike * all_shorter most =
    ap (λ n. c.loop-number.alike * all_shorter n)
    (let w : most - 1 + 1 ≡ most = omega (arith, some) in w) in
    let room = c.requires.room in
    omega (arith, end, same, room)

pub returns-clause-grew : goal.returns-clause-grew
returns-clause-grew t c =
    let rest = c.args.rest.now in
    let most = c.args.most in
    let some : most ≢ 0 = c.if-most-eq0.false in
    let next : most ≡ suc (most - 1) = omega (arith, some) in
    let low = c.loop-number-test.false in
    let few = c.loop-number.auto.number-end in
    let all : c.loop-number.number ≡ 12 = omega (arith, low, few) in
    rest_whole (rest_place c.args.walk.now.old.tables.now.commands
    c.args.walk.now.new.tables.now.commands c.args.walk.now.places.now) rest
    (all_dialled rest c.as_bytes-text.ensures.dialled) most (most - 1) c.args.times next
    c.args.branches.now c.requires.on.branches_on c.args.numbers.now c.note.new.numbers
    c.loop-number.numbers c.note_alike.new.numbers c.loop-number.number c.loop-number.alike all
    c.note.auto.numbers c.loop-number.auto.numbers
    (λ place h. c.note.ensures.grew place h
    ∙ (λ i. get_or c.args.numbers.now place 0
    + c.args.times * one_if (is_just place (c.place_by.ensures i))))
    c.loop-number.invariant c.note_alike.ensures.grew

pub returns-clause-bounded : goal.returns-clause-bounded
returns-clause-bounded t c =
    let rest = c.args.rest.now in
    let most = c.args.most in
    let some : most ≢ 0 = c.if-most-eq0.false in
    let next : most ≡ suc (most - 1) = omega (arith, some) in
    let low = c.loop-number-test.false in
    let few = c.loop-number.auto.number-end in
    let all : c.loop-number.number ≡ 12 = omega (arith, low, few) in
    let end = room_end (rest_place c.args.walk.now.old.tables.now.commands
    c.args.walk.now.new.tables.now.commands c.args.walk.now.places.now) rest
    (all_dialled rest c.as_bytes-text.ensures.dialled) most (most - 1) c.args.times next
    c.args.branches.now c.requires.on.branches_on c.loop-number.number c.loop-number.alike
    (sum c.args.numbers.now) c.note.new.numbers c.loop-number.numbers c.note.ensures.bounded
    c.loop-number.invariant all in
    let same : c.loop-number.alike * all_shorter (most - 1 + 1)
    ≡ c.loop-number.alike * all_shorter most =
    ap (λ n. c.loop-number.alike * all_shorter n)
    (let w : most - 1 + 1 ≡ most = omega (arith, some) in w) in
    let bounded = c.note_alike.ensures.bounded in
    omega (arith, end, same, bounded)
