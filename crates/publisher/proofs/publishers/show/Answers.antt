use Rattle.std.proofs.Common.{◌≡◌, ◌∙◌, List, ap, drop, sym, subst}
use Rattle.std.specs.Arc.{arc_value}
use mathlib.Core.List.{IsPrefix}
use Rattle.gk_commands.specs.declared.commands.Command.{Command}
use Rattle.publisher.specs.declared.publications.Publication.{Publication}
use Rattle.publisher.specs.History.{shown_by}
use Rattle.publisher.specs.Publications.{list_of}
use Rattle.publisher.proofs.Rules.{last_applied, turns}
use Rattle.publisher.proofs.publishers.show.Goals as goal

pub publish_as-copies-requires : goal.publish_as-copies-requires
publish_as-copies-requires g c next is =
    let asked = c.args.asked.1 in
    let before = c.append.new.self.desk.shown.value in
    let pending = drop c.args.copies.behind c.args.copies.log.items in
    let same = last_applied (λ (p : Publication). (p.stem.seen, (arc_value p.tables).commands)) _
    pending asked next (rw c.in-Ok.ensures.pending at is) in
    let list_is : list_of next ≡ list_of asked = ap (λ t. shown_by t.0.log t.1) same in
    let before_is : list_of before ≡ list_of c.args.copies.desk.shown.value =
    ap (λ d. list_of d.shown.value) c.in-Ok.ensures.desk in
    let later : IsPrefix (list_of before) (list_of next) =
    subst (λ (w : List (List Command)). IsPrefix w (list_of next)) (sym before_is)
    (subst (λ (w : List (List Command)). IsPrefix (list_of c.args.copies.desk.shown.value) w)
    (sym list_is) c.requires.later) in
    turns g.J.Imprint.book _ _ before next (ap (λ t. t.0.book) same ∙ c.requires.book) later
