use Rattle.std.proofs.Common.{◌+◌, ◌++◌, [], ◌∷◌, refl, sym, ap, subst, ◌∙◌, arith}
use Rattle.std.specs.Prelude.{bytes_eq}
use Rattle.std.specs.List.{list_any}
use Rattle.gk_terms.specs.Dialled.{is_dialled}
use Rattle.gk_terms.specs.declared.limits.TheConstants.{MOST_ALIASES}
use Rattle.entry_bytes.proofs.EndpointTextLemmas.{AreRead, none_read, next_right, next_free, next_fits, one_read, all_read}
use Rattle.entry_bytes.proofs.GivenLemmas.{with_aliases, aliases_alone}
use Rattle.entry_bytes.proofs.endpoint_reading.give_first_aliases.Goals as goal

pub loop-place-init : goal.loop-place-init
loop-place-init c = record {
  read = none_read is_dialled c.args.count c.args.bytes.now c.requires.right
      c.args.endpoint.now.aliases c.requires.none;
  alone = refl;
}

pub dialled-requires : goal.dialled-requires
dialled-requires c =
    ap is_dialled c.cut_text.ensures.first
    ∙ next_right is_dialled c.args.count c.args.bytes.now c.loop-place.endpoint.aliases
    c.loop-place.rest.now c.loop-place._place c.loop-place.invariant.read c.loop-place-test.true

pub give_alias-requires-clause-free : goal.give_alias-requires-clause-free
give_alias-requires-clause-free c =
    ap (λ text. list_any (bytes_eq text) c.loop-place.endpoint.aliases)
    (c.dialled.ensures ∙ c.cut_text.ensures.first)
    ∙ next_free is_dialled c.args.count c.args.bytes.now c.loop-place.endpoint.aliases
    c.loop-place.rest.now c.loop-place._place c.loop-place.invariant.read c.loop-place-test.true
    c.requires.different

pub give_alias-requires-clause-room : goal.give_alias-requires-clause-room
give_alias-requires-clause-room c =
    next_fits is_dialled c.args.count c.args.bytes.now c.loop-place.endpoint.aliases
    c.loop-place.rest.now c.loop-place._place c.loop-place.invariant.read MOST_ALIASES
    c.loop-place-test.true c.requires.few

pub loop-place-preserved : goal.loop-place-preserved
loop-place-preserved c =
    let texts = c.loop-place.endpoint.aliases in
    let given = c.in_ok-give_alias.ensures in
    record {
      read = subst (λ rest. AreRead is_dialled c.args.count c.args.bytes.now
          c.give_alias.new.endpoint.aliases rest (c.loop-place._place + 1))
          (sym c.cut_text.ensures.after)
          (one_read is_dialled c.args.count c.args.bytes.now texts c.loop-place.rest.now
          c.loop-place._place c.loop-place.invariant.read c.loop-place-test.true
          c.give_alias.new.endpoint.aliases
          (ap (λ e. e.aliases) given
          ∙ ap (λ text. texts ++ text ∷ []) (c.dialled.ensures ∙ c.cut_text.ensures.first)));
      alone = aliases_alone c.args.endpoint.now c.loop-place.endpoint c.give_alias.new.endpoint
          _ c.loop-place.invariant.alone given;
    }

pub returns : goal.returns
returns c =
    c.loop-place.invariant.alone
    ∙ ap (with_aliases c.args.endpoint.now)
    (all_read is_dialled c.args.count c.args.bytes.now c.loop-place.endpoint.aliases
    c.loop-place.rest.now c.loop-place._place c.loop-place.invariant.read
    (omega (arith, c.loop-place-test.false)))
