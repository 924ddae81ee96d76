use Rattle.std.proofs.Common.{◌+◌, ◌++◌, [], ◌∷◌, refl, sym, ap, subst, ◌∙◌, arith}
use Rattle.std.specs.Prelude.{bytes_eq}
use Rattle.std.specs.List.{list_any}
use Rattle.gk_terms.specs.TechPrefix.{is_tech_prefix}
use Rattle.gk_terms.specs.declared.limits.TheConstants.{MOST_TECHNOLOGIES}
use Rattle.entry_bytes.proofs.EndpointTextLemmas.{AreRead, none_read, next_right, next_free, next_fits, one_read, all_read}
use Rattle.entry_bytes.proofs.GivenLemmas.{with_technologies, technologies_alone}
use Rattle.entry_bytes.proofs.endpoint_reading.give_first_technologies.Goals as goal

pub loop-place-init : goal.loop-place-init
loop-place-init c = record {
  read = none_read is_tech_prefix c.args.count c.args.bytes.now c.requires.right
      c.args.endpoint.now.technologies c.requires.none;
  alone = refl;
}

pub tech_prefix-requires : goal.tech_prefix-requires
tech_prefix-requires c =
    ap is_tech_prefix c.cut_text.ensures.first
    ∙ next_right is_tech_prefix c.args.count c.args.bytes.now c.loop-place.endpoint.technologies
    c.loop-place.rest.now c.loop-place._place c.loop-place.invariant.read c.loop-place-test.true

pub give_technology-requires-clause-free : goal.give_technology-requires-clause-free
give_technology-requires-clause-free c =
    ap (λ text. list_any (bytes_eq text) c.loop-place.endpoint.technologies)
    (c.tech_prefix.ensures ∙ c.cut_text.ensures.first)
    ∙ next_free is_tech_prefix c.args.count c.args.bytes.now c.loop-place.endpoint.technologies
    c.loop-place.rest.now c.loop-place._place c.loop-place.invariant.read c.loop-place-test.true
    c.requires.different

pub give_technology-requires-clause-room : goal.give_technology-requires-clause-room
give_technology-requires-clause-room c =
    next_fits is_tech_prefix c.args.count c.args.bytes.now c.loop-place.endpoint.technologies
    c.loop-place.rest.now c.loop-place._place c.loop-place.invariant.read MOST_TECHNOLOGIES
    c.loop-place-test.true c.requires.few

pub loop-place-preserved : goal.loop-place-preserved
loop-place-preserved c =
    let texts = c.loop-place.endpoint.technologies in
    let given = c.in_ok-give_technology.ensures in
    record {
      read = subst (λ rest. AreRead is_tech_prefix c.args.count c.args.bytes.now
          c.give_technology.new.endpoint.technologies rest (c.loop-place._place + 1))
          (sym c.cut_text.ensures.after)
          (one_read is_tech_prefix c.args.count c.args.bytes.now texts c.loop-place.rest.now
          c.loop-place._place c.loop-place.invariant.read c.loop-place-test.true
          c.give_technology.new.endpoint.technologies
          (ap (λ e. e.technologies) given
          ∙ ap (λ text. texts ++ text ∷ []) (c.tech_prefix.ensures ∙ c.cut_text.ensures.first)));
      alone = technologies_alone c.args.endpoint.now c.loop-place.endpoint
          c.give_technology.new.endpoint _ c.loop-place.invariant.alone given;
    }

pub returns : goal.returns
returns c =
    c.loop-place.invariant.alone
    ∙ ap (with_technologies c.args.endpoint.now)
    (all_read is_tech_prefix c.args.count c.args.bytes.now c.loop-place.endpoint.technologies
    c.loop-place.rest.now c.loop-place._place c.loop-place.invariant.read
    (omega (arith, c.loop-place-test.false)))
