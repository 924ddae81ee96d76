use Rattle.byte_log.proofs.PlaceLemmas.{placed}
use Rattle.byte_log.proofs.place_list.PlaceList.push.Goals as goal

pub invariant_of-self : goal.invariant_of-self
invariant_of-self c =
    (placed c.self.inside.pieces c.push-at.new.self c.args.place c.push-at.result
    c.self.invariant c.push-at.ensures.put c.push-at.ensures.begun).list

pub returns : goal.returns
returns c =
    let more = placed c.self.inside.pieces c.push-at.new.self c.args.place c.push-at.result
    c.self.invariant c.push-at.ensures.put c.push-at.ensures.begun in
    rw (← c.self.view_is) (λ i. record { items = more.items i; room = more.room i })
