use Rattle.std.proofs.Common.{sym, subst}
use Rattle.gk_terms.specs.TechPrefix.{is_tech_prefix}
use Rattle.entry_bytes.specs.EndpointTexts.{sized}
use Rattle.field_bytes.specs.Adding.{Adds, HasRoom}
use Rattle.entry_bytes.proofs.EndpointLemmas.{room_for_one, one_added, one_more_passes}
use Rattle.entry_bytes.proofs.endpoint_adding.add_technologies.Goals as goal

pub add_text-requires-clause-room : goal.add_text-requires-clause-room
add_text-requires-clause-room c =
    subst (λ text. HasRoom c.loop-prefix.bytes (sized text)) (sym c.as_bytes.ensures.spells)
    (room_for_one c.args.bytes.now c.loop-prefix.bytes c.args.prefixes.now
    c.loop-prefix.prefix-index c.prefix-item.result c.loop-prefix-test.true c.prefix-item.is
    c.loop-prefix.invariant.added c.requires.room)

pub loop-prefix-preserved : goal.loop-prefix-preserved
loop-prefix-preserved c = record {
  added = one_added c.args.bytes.now c.loop-prefix.bytes c.args.prefixes.now
      c.loop-prefix.prefix-index c.prefix-item.result c.loop-prefix-test.true c.prefix-item.is
      c.loop-prefix.invariant.added c.add_text.new.bytes
      (subst (λ text. Adds c.loop-prefix.bytes (sized text) c.add_text.new.bytes)
      c.as_bytes.ensures.spells c.add_text.ensures);
  kinds = one_more_passes is_tech_prefix c.args.prefixes.now c.loop-prefix.prefix-index
      c.prefix-item.result c.loop-prefix-test.true c.prefix-item.is c.as_bytes.ensures.prefix
      c.loop-prefix.invariant.kinds;
}
