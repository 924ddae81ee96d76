use Rattle.std.proofs.Common.{length, ap, arith}
use Rattle.byte_log.proofs.ItemLemmas.{items_counted}
use Rattle.byte_log.proofs.log.ByteLog.len.Goals as goal

pub returns-clause-value : goal.returns-clause-value
returns-clause-value c =
    let items = ap (λ l. length l.items) c.self.view_is in
    let counted = items_counted c.self.inside.pieces.pieces c.self.inside.places.items in
    omega (arith, c.len.ensures.value)

pub returns-clause-bounded : goal.returns-clause-bounded
returns-clause-bounded c =
    let room = ap (λ l. l.room) c.self.view_is in
    omega (arith, c.len.ensures.bounded)
