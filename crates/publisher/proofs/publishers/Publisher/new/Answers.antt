use Rattle.std.proofs.Common.{rules, [], ◌∙◌, ap, sym}
use Rattle.std.proofs.lemmas.List.{append-nil}
use Rattle.publisher.specs.History.{generations_in}
use Rattle.publisher.proofs.Rules.{opens}
use Rattle.publisher.proofs.publishers.Publisher.new.Goals as goal

pub new-requires-clause-rule : goal.new-requires-clause-rule
new-requires-clause-rule g c = opens g.J.Imprint.book c.in-Some.first c.in-Some.ensures.book

pub invariant_of-result : goal.invariant_of-result
invariant_of-result g c = (
  ap generations_in c.again-2.ensures,
  search rules,
  search rules,
  search rules,
  ([], append-nil c.in-Some-confirm.told ∙ sym c.again-2.ensures),
)
