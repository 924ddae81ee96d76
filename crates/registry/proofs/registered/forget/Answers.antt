use Rattle.std.proofs.Common.{None, cond, ap, ◌∙◌, arith}
use Rattle.std.specs.Prelude.{bytes_eq}
use Rattle.registry.specs.RegistryIndex.{number_of_alias}
use Rattle.registry.proofs.IndexChanges.{listed_more}
use Rattle.registry.proofs.registered.forget.Goals as goal

pub loop-alias-preserved : goal.loop-alias-preserved
loop-alias-preserved c =
    let next = c.alias-item.result in
    record {
      forgets = λ alias.
          c.remove.ensures.updates.0 alias
          ∙ ap (cond (bytes_eq next alias) None) (c.loop-alias.invariant.forgets alias)
          ∙ listed_more c.args.aliases.now c.loop-alias.alias-index next alias None
          (number_of_alias c.args.alias_numbers.now.entries alias) c.loop-alias-test.true
          c.alias-item.is;
      room = omega (arith, c.loop-alias.invariant.room, c.remove.ensures.spare);
    }
