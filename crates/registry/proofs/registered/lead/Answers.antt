use Rattle.std.proofs.Common.{Some, cond, ap, ◌∙◌, arith}
use Rattle.std.specs.Prelude.{bytes_eq}
use Rattle.std.proofs.lemmas.Result.{MatchResult-at_ok}
use Rattle.registry.specs.RegistryIndex.{number_of_alias}
use Rattle.registry.proofs.IndexChanges.{listed_more}
use Rattle.registry.proofs.registered.lead.Goals as goal

pub loop-alias-preserved : goal.loop-alias-preserved
loop-alias-preserved c =
    let next = c.alias-item.result in
    let updates = MatchResult-at_ok _ _ _ c.unwrap.ensures c.insert-inserted.ensures.updates in
    record {
      leads_to = λ alias.
          updates.0 alias
          ∙ ap (cond (bytes_eq next alias) (Some c.args.number))
          (c.loop-alias.invariant.leads_to alias)
          ∙ listed_more c.args.aliases.now c.loop-alias.alias-index next alias (Some c.args.number)
          (number_of_alias c.args.alias_numbers.now.entries alias) c.loop-alias-test.true
          c.alias-item.is;
      room = omega (arith, c.loop-alias.invariant.room, c.insert-inserted.ensures.spare);
    }
