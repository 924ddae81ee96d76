use Rattle.std.proofs.Common.{rules, [], ◌∷◌, length, ap, sym, ◌∙◌, arith, length-append}
use Rattle.std.proofs.lemmas.List.{append-nil}
use Rattle.publisher.specs.History.{generations_in}
use Rattle.publisher.proofs.Prefixes.{prefix_trans}
use Rattle.publisher.proofs.publishers.Publisher.publish.Goals as goal

pub invariant_of-self : goal.invariant_of-self
invariant_of-self g c =
    let before = c.self.invariant in (
      cc (c.in-Some.ensures.kept, before.0),
      search rules,
      search rules,
      search rules,
      prefix_trans c.self.inside.told c.self.inside.newest c.in-Some.drafted before.4
          c.in-Some.ensures.goes_on,
    )

pub invariant_of-self-2 : goal.invariant_of-self-2
invariant_of-self-2 g c =
    let before = c.self.invariant in
    let told = c.put_in_force-told.result in
    let one = length-append (generations_in c.in-Some.drafted) (c.of-about.result.value.commands ∷
    [])
    in (
      ap generations_in c.again.ensures,
      search rules,
      omega (
        arith,
        before.2,
        ap length before.0,
        ap length c.in-Some.ensures.kept,
        ap length c.put_in_force-told.ensures.list,
        one,
      ),
      search rules,
      ([], append-nil told ∙ sym c.again.ensures),
    )
