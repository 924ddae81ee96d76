use Rattle.std.proofs.Common.{◌≡◌, List, length, sym, ◌∙◌, ap}
use Rattle.publisher.specs.declared.entries.Entry.{Entry}
use Rattle.publisher.specs.History.{MayFollow}
use Rattle.publisher.proofs.Adding.{adds_moves}
use Rattle.publisher.proofs.fronts.Front.add.Goals as goal

pub compare_exchange-found-requires : goal.compare_exchange-found-requires
compare_exchange-found-requires g c =
    let h = c.args.head.now.head_is in
    let offer = c.plain-offer.ensures in
    let pen = c.no_pen-pen.ensures in
    let again = c.again-seen.ensures in
    let log : c.again-seen.result.log ≡ c.args.self.now =
    ap (λ s. s.log) again ∙ c.self.view_is in
    let book : c.again-seen.result.book ≡ c.args.head.now.word.book =
    ap (λ s. s.book) again ∙ (c.self.invariant ∙ sym (ap (λ w. w.book) h)) in
    let entries : length c.again-seen.result.log ≡ c.self.inside.stem.entries =
    ap (λ s. length s.log) again ∙ sym c.self.inside.stem.counted in
    let may : MayFollow c.again-seen.result.log c.plain-offer.result.ask =
    rw (log, offer.1) c.requires.legal in (
      ap (λ w. w.tracked) h,
      book,
      pen.0 ∙ book,
      offer.0,
      rw (ap (λ w. w.key) h, pen.1)
          (adds_moves c.again-seen.result.log c.plain-offer.result.ask c.self.inside.stem.entries
          c.plain-offer.result.state entries may),
    )
