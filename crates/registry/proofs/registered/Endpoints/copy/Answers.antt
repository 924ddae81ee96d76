use Rattle.std.proofs.Common.{◌∷◌, sym, ap, subst, ◌∙◌}
use Rattle.registry.specs.Registration.{HaveDifferentIds, ShareNoAlias, with_endpoint}
use Rattle.registry.specs.NumberedEndpoints.{endpoints_of}
use Rattle.registry.proofs.SoundLemmas.{different_ids, no_shared_alias}
use Rattle.registry.proofs.CopyLemmas.{copy_free, copy_room, copy_more}
use Rattle.registry.proofs.registered.Endpoints.copy.Goals as goal

pub put_numbered-requires-clause-free : goal.put_numbered-requires-clause-free
put_numbered-requires-clause-free c =
    let of_all = ap endpoints_of c.self.view_is in
    let entries = c.self.inside.by_number.entries in
    let alias_numbers = c.self.inside.alias_numbers.entries in
    copy_free (endpoints_of c.args.self.now) (endpoints_of c.loop-held.copy)
    c.loop-held.held-iterator c.next.new.self c.endpoint-endpoint.result.now
    c.loop-held.copy.next c.loop-held.invariant
    (c.in-Some.ensures.steps ∙ ap (λ e. e ∷ c.next.new.self)
    (sym c.endpoint-endpoint.ensures))
    (subst HaveDifferentIds of_all (different_ids entries alias_numbers c.self.invariant.0))
    (subst ShareNoAlias of_all (no_shared_alias entries alias_numbers c.self.invariant.0))

pub put_numbered-requires-clause-room : goal.put_numbered-requires-clause-room
put_numbered-requires-clause-room c =
    let of_all = ap endpoints_of c.self.view_is in
    let entries = c.self.inside.by_number.entries in
    let alias_numbers = c.self.inside.alias_numbers.entries in
    copy_room (endpoints_of c.args.self.now) (endpoints_of c.loop-held.copy)
    c.loop-held.held-iterator c.next.new.self c.endpoint-endpoint.result.now
    c.loop-held.copy.next c.loop-held.invariant
    (c.in-Some.ensures.steps ∙ ap (λ e. e ∷ c.next.new.self)
    (sym c.endpoint-endpoint.ensures))
    (subst HaveDifferentIds of_all (different_ids entries alias_numbers c.self.invariant.0))
    (subst ShareNoAlias of_all (no_shared_alias entries alias_numbers c.self.invariant.0))
    c.requires.few

pub loop-held-preserved : goal.loop-held-preserved
loop-held-preserved c =
    let of_all = ap endpoints_of c.self.view_is in
    let entries = c.self.inside.by_number.entries in
    let alias_numbers = c.self.inside.alias_numbers.entries in
    let copied = endpoints_of c.loop-held.copy in
    copy_more (endpoints_of c.args.self.now) (endpoints_of c.loop-held.copy)
    c.loop-held.held-iterator c.next.new.self c.endpoint-endpoint.result.now
    c.loop-held.copy.next c.loop-held.invariant
    (c.in-Some.ensures.steps ∙ ap (λ e. e ∷ c.next.new.self)
    (sym c.endpoint-endpoint.ensures))
    (subst HaveDifferentIds of_all (different_ids entries alias_numbers c.self.invariant.0))
    (subst ShareNoAlias of_all (no_shared_alias entries alias_numbers c.self.invariant.0))
    (endpoints_of c.put_numbered.new.self) c.put_numbered.new.self.next
    (c.in_ok-put_numbered.ensures.ok
    ∙ ap (λ zone. with_endpoint copied (record c.endpoint-endpoint.result.now { zone = zone }))
    c.zone.ensures)
    c.put_numbered.ensures.next
