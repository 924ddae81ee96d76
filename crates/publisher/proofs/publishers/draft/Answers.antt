use Rattle.std.proofs.Common.{◌≡◌, [], ◌∷◌, ap, sym, ◌∙◌}
use Rattle.std.specs.Arc.{arc_value}
use Rattle.publisher.specs.History.{draft_of, generations_in}
use Rattle.publisher.proofs.Histories.{generations_draft}
use Rattle.publisher.proofs.publishers.draft.Goals as goal

pub new-next-requires-clause-numbered : goal.new-next-requires-clause-numbered
new-next-requires-clause-numbered g c =
    let kept : generations_in c.stem.result.seen.log ≡ generations_in c.args.newest.now =
    ap generations_in (c.stem.ensures.log ∙ c.in-Some.ensures) ∙
    generations_draft c.args.newest.now c.of-about.result.value.commands in
    rw kept c.requires.version

pub returns-clause-kept : goal.returns-clause-kept
returns-clause-kept g c =
    ap generations_in c.in-Some.ensures ∙
    generations_draft c.args.newest.now c.of-about.result.value.commands

pub returns-clause-goes_on : goal.returns-clause-goes_on
returns-clause-goes_on g c =
    (draft_of c.of-about.result.value.commands ∷ [], sym c.in-Some.ensures)

pub returns-clause-list : goal.returns-clause-list
returns-clause-list g c =
    let kept : generations_in c.new-next.result.stem.seen.log ≡ generations_in c.args.newest.now =
    ap (λ s. generations_in s.log) c.new-next.ensures.seen ∙
    (ap generations_in (c.stem.ensures.log ∙ c.in-Some.ensures) ∙
    generations_draft c.args.newest.now c.of-about.result.value.commands) in
    let tables :
    (arc_value c.new-next.result.tables).commands ≡ (arc_value c.args.tables).commands =
    ap (λ t. t.commands) c.new-next.ensures.tables in
    rw (kept, tables)
