use Rattle.std.proofs.Common.{◌-◌, ◌+◌, sym, ap, ◌∙◌, arith}
use Rattle.entry_bytes.specs.EndpointTexts.{after_texts}
use Rattle.entry_bytes.proofs.EndpointTextLemmas.{after_more, after_all}
use Rattle.entry_bytes.proofs.endpoint_texts.after_texts.Goals as goal

pub loop-place-preserved : goal.loop-place-preserved
loop-place-preserved c =
    let place = c.loop-place._place in
    ap (after_texts (c.args.count - (place + 1))) c.after_text-rest.ensures
    ∙ sym (after_more c.args.count place c.loop-place.rest.now c.loop-place-test.true)
    ∙ c.loop-place.invariant

pub returns : goal.returns
returns c =
    sym (after_all c.args.count c.loop-place._place c.loop-place.rest.now
    (omega (arith, c.loop-place-test.false)))
    ∙ c.loop-place.invariant
