use Rattle.std.proofs.Common.{sym, subst}
use Rattle.gk_terms.specs.Dialled.{is_dialled}
use Rattle.entry_bytes.specs.EndpointTexts.{sized}
use Rattle.field_bytes.specs.Adding.{Adds, HasRoom}
use Rattle.entry_bytes.proofs.EndpointLemmas.{room_for_one, one_added, one_more_passes}
use Rattle.entry_bytes.proofs.endpoint_adding.add_aliases.Goals as goal

pub add_text-requires-clause-room : goal.add_text-requires-clause-room
add_text-requires-clause-room c =
    subst (λ text. HasRoom c.loop-alias.bytes (sized text)) (sym c.as_bytes.ensures.spells)
    (room_for_one c.args.bytes.now c.loop-alias.bytes c.args.aliases.now c.loop-alias.alias-index
    c.alias-item.result c.loop-alias-test.true c.alias-item.is c.loop-alias.invariant.added
    c.requires.room)

pub loop-alias-preserved : goal.loop-alias-preserved
loop-alias-preserved c = record {
  added = one_added c.args.bytes.now c.loop-alias.bytes c.args.aliases.now c.loop-alias.alias-index
      c.alias-item.result c.loop-alias-test.true c.alias-item.is c.loop-alias.invariant.added
      c.add_text.new.bytes
      (subst (λ text. Adds c.loop-alias.bytes (sized text) c.add_text.new.bytes)
      c.as_bytes.ensures.spells c.add_text.ensures);
  kinds = one_more_passes is_dialled c.args.aliases.now c.loop-alias.alias-index c.alias-item.result
      c.loop-alias-test.true c.alias-item.is c.as_bytes.ensures.dialled
      c.loop-alias.invariant.kinds;
}
