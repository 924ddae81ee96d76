use Rattle.std.proofs.Common.{ap, ◌∙◌}
use Rattle.std.proofs.lemmas.Iterator.Consumers.{nth_from_yields_List, YieldsList-from_rest}
use Rattle.registry.specs.NumberedEndpoints.{endpoints_of}
use Rattle.registry.proofs.CopyLemmas.{copied_map}
use Rattle.registry.proofs.registered.Endpoints.at.Goals as goal

pub returns : goal.returns
returns c =
    c.endpoint_in.ensures ∙ copied_map c.nth.result
    ∙ nth_from_yields_List c.nth.result c.nth.new.self c.args.place c.nth.ensures.ran
    (YieldsList-from_rest (endpoints_of c.args.self.now)
    (c.endpoints.ensures.value ∙ ap endpoints_of c.self.view_is))
