use Rattle.std.proofs.Common.{◌≡◌, ◌∙◌, sym, ap, subst, slice_get}
use Rattle.std.specs.Prelude.{IfSome, unwrap_or}
use Rattle.difference_counts.specs.Counted.{number_in}
use Rattle.difference_report.proofs.NumberLemmas.{number_at_place}
use Rattle.difference_report.proofs.numbers.number_at.Goals as goal

pub returns : goal.returns
returns c =
    let number = number_in c.args._old.now.commands c.args._new.now.commands in
    subst (λ n. IfSome (slice_get c.args._listed.now c.args.place) (λ entry. n ≡ number entry.0))
    (sym (c.unwrap_or.ensures ∙ ap (λ o. unwrap_or o 0) (c.get.ensures
    ∙ ap (λ l. slice_get l c.args.place) c.requires)))
    (number_at_place number c.args._listed.now c.args.place)
