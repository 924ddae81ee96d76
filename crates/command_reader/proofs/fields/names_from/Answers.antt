use Rattle.std.proofs.Common.{◌∷◌, [], sym}
use Rattle.command_reader.specs.Memory.{HoldsNames}
use Rattle.command_reader.proofs.one_by_one.NameLemmas.{first_name, more_names}
use Rattle.command_reader.proofs.fields.names_from.Goals as goal

pub loop-word-init : goal.loop-word-init
loop-word-init c =
    let held : HoldsNames c.with-names.result (c.in_ok-name.field-0 ∷ []) = rw c.new.ensures at
    c.with-names.ensures in
    rw c.into_iter-word-iterator.ensures.into_iter_gives
    (first_name _ _ _ _ (sym c.in_ok-name.ensures) held)

pub loop-word-preserved : goal.loop-word-preserved
loop-word-preserved c =
    more_names _ _ _ _ _ _ (rw c.in-Some.ensures.steps at c.loop-word.invariant)
    (sym c.in_ok-name-2.ensures) c.with_name-names.ensures
