use Rattle.std.proofs.Common.{◌+◌, refl, sym, ap, subst, arith}
use Rattle.std.proofs.lemmas.Result.{MatchResult-at_ok}
use Rattle.registry.specs.NumberedEndpoints.{IsNumberFor, IsPut, by_id}
use Rattle.registry.proofs.NumberLemmas.{less_than_next}
use Rattle.registry.proofs.NumberInsertion.{sound_reordered, sound_put, put_among, led_before}
use Rattle.registry.proofs.numbered_endpoints.NumberedEndpoints.insert.Goals as goal
use Rattle.registry.proofs.numbered_endpoints.NumberedEndpoints.insert.Goals.{then-number-self, else-number-self}

pub invariant_of-self-then-number-self : goal.invariant_of-self-then-number-self
invariant_of-self-then-number-self c =
    let number = c.args.number in
    let last = c.if-number-self.true in
    let fits = subst (λ r. IsNumberFor r c.args.held.id number) (sym c.self.view_is)
    c.requires.number in
    let set = c.in-Ok.ensures.updates.0 in
    let numbered = MatchResult-at_ok _ _ _ c.unwrap.ensures c.insert-numbered.ensures.updates in
    sound_put c.self.inside.endpoints.entries c.insert.new.self.entries
    c.self.inside.numbers.entries c.reserve.new.self.entries c.self.inside.next c.self.invariant
    c.reserve.ensures.entries.2 c.insert-numbered.new.self.entries c.args.held
    c.args.id.now
    number c.requires.own fits set numbered.0 c.insert.ensures.ordered
    (number + 1) (omega (arith, last)) (omega arith)

pub invariant_of-self-else-number-self : goal.invariant_of-self-else-number-self
invariant_of-self-else-number-self c =
    let number = c.args.number in
    let fits = subst (λ r. IsNumberFor r c.args.held.id number) (sym c.self.view_is)
    c.requires.number in
    let set = c.in-Ok.ensures.updates.0 in
    sound_put c.self.inside.endpoints.entries c.insert.new.self.entries
    c.self.inside.numbers.entries c.reserve.new.self.entries c.self.inside.next c.self.invariant
    c.reserve.ensures.entries.2 c.reserve.new.self.entries c.args.held
    c.args.held.id number refl fits set
    (led_before c.self.inside.endpoints.entries c.insert.new.self.entries
    c.self.inside.numbers.entries c.reserve.new.self.entries c.self.inside.next c.self.invariant
    c.reserve.ensures.entries.2 c.args.held.id number fits c.if-number-self.false)
    c.insert.ensures.ordered c.self.inside.next (omega arith)
    (less_than_next c.self.inside.endpoints.entries c.self.inside.numbers.entries
    c.self.inside.next c.self.invariant c.args.held.id number fits c.if-number-self.false)

pub invariant_of-self-in-Err : goal.invariant_of-self-in-Err
invariant_of-self-in-Err c =
    sound_reordered c.self.inside.endpoints.entries c.insert.new.self.entries
    c.self.inside.numbers.entries c.reserve.new.self.entries c.self.inside.next c.self.invariant
    c.reserve.ensures.entries.2 c.in-Err.ensures.err

pub returns-after-number-self-clause-ok : goal.returns-after-number-self-clause-ok
returns-after-number-self-clause-ok c =
    let number = c.args.number in
    let e = c.args.held in
    let fits = subst (λ r. IsNumberFor r c.args.held.id number) (sym c.self.view_is)
    c.requires.number in
    let set = c.in-Ok.ensures.updates.0 in
    let entered = c.in-Ok.ensures.entries in
    let old = ap (λ r. r.entries) c.self.view_is in
    elim c.if-number-self.branch [
      | then-number-self w ↦
          let numbered = MatchResult-at_ok _ _ _ w.unwrap.ensures
          w.insert-numbered.ensures.updates in
          let put = put_among c.self.inside.endpoints.entries c.insert.new.self.entries
          c.self.inside.numbers.entries c.reserve.new.self.entries c.self.inside.next
          c.self.invariant c.reserve.ensures.entries.2 w.insert-numbered.new.self.entries e
          c.args.id.now number c.requires.own fits set numbered.0 c.insert.ensures.ordered
          entered in
          subst (λ es. IsPut (by_id es) (by_id c.if-number-self.self.entries) e) old
          (subst (λ es. IsPut (by_id c.self.inside.endpoints.entries) (by_id es) e)
          (sym (ap (λ r. r.entries) w.self-is)) put)
      | else-number-self w ↦
          let put = put_among c.self.inside.endpoints.entries c.insert.new.self.entries
          c.self.inside.numbers.entries c.reserve.new.self.entries c.self.inside.next
          c.self.invariant c.reserve.ensures.entries.2 c.reserve.new.self.entries e e.id number
          refl fits set
          (led_before c.self.inside.endpoints.entries c.insert.new.self.entries
          c.self.inside.numbers.entries c.reserve.new.self.entries c.self.inside.next
          c.self.invariant c.reserve.ensures.entries.2 e.id number fits w.if-number-self.false)
          c.insert.ensures.ordered entered in
          subst (λ es. IsPut (by_id es) (by_id c.if-number-self.self.entries) e) old
          (subst (λ es. IsPut (by_id c.self.inside.endpoints.entries) (by_id es) e)
          (sym (ap (λ r. r.entries) w.self-is)) put)
    ]
