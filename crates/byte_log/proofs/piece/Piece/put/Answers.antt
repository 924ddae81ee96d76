use Rattle.std.proofs.Common.{◌-◌, ◌++◌, length, sym, ap, ◌∙◌, arith, length-append}
use Rattle.std.specs.Prelude.{vec_items, vec_len, vec_capacity}
use Rattle.std.specs.Arc.{arc_value}
use Rattle.byte_log.proofs.PieceLemmas.{is_written}
use Rattle.byte_log.proofs.piece.Piece.put.Goals as goal

pub extend-requires : goal.extend-requires
extend-requires g c =
    let now = is_written c.self.inside.is_closed (vec_items c.self.inside.written)
    (vec_items (arc_value c.self.inside.closed))
    (vec_capacity c.self.inside.written - vec_len c.self.inside.written) c.args.self.now
    c.self.view_is c.requires.some in
    let fits = c.requires.room in
    omega (arith, now.room, c.self.inside.written.ok.0, c.self.inside.written.ok.1)

pub returns-clause-items : goal.returns-clause-items
returns-clause-items g c =
    let now = is_written c.self.inside.is_closed (vec_items c.self.inside.written)
    (vec_items (arc_value c.self.inside.closed))
    (vec_capacity c.self.inside.written - vec_len c.self.inside.written) c.args.self.now
    c.self.view_is c.requires.some in
    let more = now.more (vec_items c.extend.new.items)
    (vec_capacity c.extend.new.items - vec_len c.extend.new.items) in
    ap (λ p. p.items) more
    ∙ c.extend.ensures.items
    ∙ ap (λ xs. xs ++ c.args.items.now) (sym now.items)

pub returns-clause-room : goal.returns-clause-room
returns-clause-room g c =
    let now = is_written c.self.inside.is_closed (vec_items c.self.inside.written)
    (vec_items (arc_value c.self.inside.closed))
    (vec_capacity c.self.inside.written - vec_len c.self.inside.written) c.args.self.now
    c.self.view_is c.requires.some in
    let more = now.more (vec_items c.extend.new.items)
    (vec_capacity c.extend.new.items - vec_len c.extend.new.items) in
    let room = ap (λ p. p.room) more in
    let long = ap length c.extend.ensures.items in
    let sum = length-append (vec_items c.self.inside.written) c.args.items.now in
    omega (
      arith,
      now.room,
      room,
      long,
      sum,
      c.extend.ensures.room,
      c.extend.new.items.ok.0,
      c.self.inside.written.ok.0,
    )
