-- What an admission finds: the endpoint of an ID has that ID, and to whom a call is admitted is in
-- none of its sums.
use Rattle.std.proofs.Common.{◌≡◌, ℕ, List, refl}
use Rattle.std.specs.Prelude.{Bool, Option, Some, None}
use Rattle.std.proofs.lemmas.Slice.Eq.{bytes_eq-Decides}
use Rattle.gk_terms.proofs.ChoiceLemmas.{find_passes}
use Rattle.gk_commands.specs.declared.commands.Command.{Command}
use Rattle.bandwidth.specs.declared.open_call.OpenCall.{OpenCall}
use Rattle.bandwidth.specs.Fits.{over_of}
use Rattle.registry.specs.Endpoint.{EndpointParts}
use Rattle.registry.specs.Registration.{has_id, endpoint_of}

pub caller_has_id : (endpoints : List EndpointParts) (id : List ℕ) (caller : EndpointParts)
    → endpoint_of endpoints id ≡ Some caller → caller.id ≡ id
caller_has_id endpoints id caller found =
    (bytes_eq-Decides caller.id id).0 (find_passes (has_id id) endpoints caller found)

pub over_alike : (commands : List Command) (calls : List OpenCall) (number : ℕ) (units : ℕ)
    (remote : Bool) (owner : List ℕ) (source : Option (List ℕ)) (target : List ℕ)
    (answerer : Option (List ℕ))
    → over_of commands calls (record {
      number = number;
      units = units;
      remote = remote;
      owner = owner;
      source = source;
      target = target;
      answerer = answerer;
    }) ≡ over_of commands calls (record {
      number = number;
      units = units;
      remote = remote;
      owner = owner;
      source = source;
      target = target;
      answerer = None;
    })
unfolding over_of
over_alike commands calls number units remote owner source target answerer = refl
