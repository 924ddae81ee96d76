use Rattle.std.proofs.Common.{length, ap, arith}
use Rattle.byte_log.specs.Pieces.{left_of}
use Rattle.byte_log.proofs.RoomLemmas.{is_spare, left_small, pushed}
use Rattle.byte_log.proofs.log.ByteLog.push.Goals as goal

pub push-place-requires-clause-spare : goal.push-place-requires-clause-spare
push-place-requires-clause-spare c = λ full.
    let room = ap (λ l. l.room) c.self.view_is in
    let enough = c.requires.room in
    let small = left_small c.self.inside.pieces.size c.self.inside.pieces.pieces in
    is_spare (left_of c.self.inside.pieces.size c.self.inside.pieces.pieces)
    (length c.args.item.now) c.self.inside.pieces.spare (omega arith) full
    (omega (arith, c.self.invariant.size))

pub push-place-requires-clause-long : goal.push-place-requires-clause-long
push-place-requires-clause-long c = λ long.
    let longest = ap (λ l. l.longest) c.self.view_is in
    let fits = c.requires.long (omega (arith, long, c.self.invariant.size)) in
    omega arith

pub invariant_of-self : goal.invariant_of-self
invariant_of-self c =
    let more = pushed c.self.inside.pieces c.push-place.new.self c.self.inside.places.items
    c.push-place.result c.args.item.now c.self.invariant c.push-place.ensures.put
    c.push-place.ensures.begun in
    rw c.push.ensures more.log

pub returns-clause-items : goal.returns-clause-items
returns-clause-items c =
    let more = pushed c.self.inside.pieces c.push-place.new.self c.self.inside.places.items
    c.push-place.result c.args.item.now c.self.invariant c.push-place.ensures.put
    c.push-place.ensures.begun in
    rw (c.push.ensures, ← c.self.view_is) more.items

pub returns-clause-room : goal.returns-clause-room
returns-clause-room c =
    let more = pushed c.self.inside.pieces c.push-place.new.self c.self.inside.places.items
    c.push-place.result c.args.item.now c.self.invariant c.push-place.ensures.put
    c.push-place.ensures.begun in
    let room = ap (λ l. l.room) c.self.view_is in
    let places = ap (λ l. l.room) c.push.ensures in
    omega (arith, more.room)
