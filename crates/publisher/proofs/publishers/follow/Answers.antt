use Rattle.std.proofs.Common.{◌≡◌, ap}
use Rattle.publisher.specs.History.{shown_by}
use Rattle.publisher.specs.Publications.{list_of}
use Rattle.publisher.proofs.Rules.{follows}
use Rattle.publisher.proofs.publishers.follow.Goals as goal

pub publish_as-requires : goal.publish_as-requires
publish_as-requires g c next is =
    let shown = c.args.copies.desk.shown.value in
    let same = rw c.requires.none at is in
    let book_is : next.stem.seen.book ≡ shown.stem.seen.book = ap (λ t. t.0.book) same in
    let list_is : list_of next ≡ list_of shown = ap (λ t. shown_by t.0.log t.1) same in
    follows g.J.Imprint.book _ _ shown next c.requires.book book_is list_is
