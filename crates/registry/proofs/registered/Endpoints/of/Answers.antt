use Rattle.std.proofs.Common.{◌+◌, drop, ap, ◌∙◌}
use Rattle.registry.specs.Registration.{with_endpoint}
use Rattle.registry.specs.NumberedEndpoints.{endpoints_of}
use Rattle.registry.proofs.CopyLemmas.{copy_free, copy_more, left_at}
use Rattle.registry.proofs.registered.Endpoints.of.Goals as goal

pub put_numbered-requires-clause-free : goal.put_numbered-requires-clause-free
put_numbered-requires-clause-free c =
    let all = c.args.endpoints.now in
    let place = c.loop-endpoint.endpoint-index in
    copy_free all (endpoints_of c.loop-endpoint.made) (drop place all) (drop (place + 1) all)
    c.endpoint-item.result c.loop-endpoint.made.next c.loop-endpoint.invariant
    (left_at all place c.endpoint-item.result c.loop-endpoint-test.true c.endpoint-item.is)
    c.requires.different c.requires.unshared

pub loop-endpoint-preserved : goal.loop-endpoint-preserved
loop-endpoint-preserved c =
    let all = c.args.endpoints.now in
    let place = c.loop-endpoint.endpoint-index in
    let made = endpoints_of c.loop-endpoint.made in
    let endpoint = c.endpoint-item.result in
    copy_more all made (drop place all) (drop (place + 1) all) endpoint
    c.loop-endpoint.made.next c.loop-endpoint.invariant
    (left_at all place endpoint c.loop-endpoint-test.true c.endpoint-item.is)
    c.requires.different c.requires.unshared
    (endpoints_of c.put_numbered.new.self) c.put_numbered.new.self.next
    (c.in_ok-put_numbered.ensures.ok
    ∙ ap (λ zone. with_endpoint made (record endpoint { zone = zone })) c.zone.ensures)
    c.put_numbered.ensures.next
