-- Rulings and routes that lend what they name: what each means.
use Rattle.std.specs.Prelude.{◌≡◌, ℕ, true, List, Some, None, ⊤}
use Rattle.gk_commands.specs.declared.commands.Command.{Command}
use Rattle.compiler.specs.declared.plans.Plan.{Plan}
use Rattle.compiler.specs.Plan.{plan_of, target_of}
use Rattle.gk_terms.specs.Address.{AddressParts}
use Rattle.rulings.specs.declared.routes.Destination.{Destination}
use Rattle.rulings.specs.declared.routes.Destination.TheVariants as destinations
use Rattle.rulings.specs.declared.routes.Route.{Route}
use Rattle.rulings.specs.declared.routes.Route.TheVariants as routes
use Rattle.rulings.specs.declared.replies.AdmitRefusal.TheVariants as admit
use Rattle.rulings.specs.declared.replies.Reply.TheVariants as replies
use Rattle.rulings.specs.declared.rulings.Effect.TheVariants as effects
use Rattle.rulings.specs.Ruling.{Ruling}
use Rattle.rulings.specs.declared.lent_routes.DestinationKind.{DestinationKind}
use Rattle.rulings.specs.declared.lent_routes.DestinationKind.TheVariants as kind
use Rattle.rulings.specs.declared.lent_routes.LentRoute.{LentRoute}
use Rattle.rulings.specs.declared.lent_routes.LentRoute.TheVariants as route
use Rattle.rulings.specs.declared.lent_rulings.LentRuling.{LentRuling}
use Rattle.rulings.specs.declared.lent_rulings.LentRuling.TheVariants as ruling
use Rattle.rulings.specs.Events.{PlainEvent, Registering, Unregistering, Admitting, Answering, Changing, Releasing, Reloading}
use Rattle.rulings.specs.Ruling.{answerer_of, unrouted}

-- the plan is what the commands say of the digits, if the event is an admission
abbrev pub IsPlanOf : List Command → PlainEvent → Plan → Type 0
IsPlanOf commands (Registering e) plan = ⊤
IsPlanOf commands (Unregistering id) plan = ⊤
IsPlanOf commands (Admitting id call digits units) plan =
    target_of commands plan ≡ Some (plan_of commands digits)
IsPlanOf commands (Answering id call units) plan = ⊤
IsPlanOf commands (Changing id call units) plan = ⊤
IsPlanOf commands (Releasing id call) plan = ⊤
IsPlanOf commands (Reloading others) plan = ⊤

-- where a call leads
abbrev pub destination_meant : DestinationKind → (name : List ℕ) → AddressParts → Destination
destination_meant kind.Gateway name address = destinations.Gateway name address
destination_meant kind.Terminal name address = destinations.Terminal name address
destination_meant kind.Zone name address = destinations.Zone name address

-- where digits lead
abbrev pub route_meant : LentRoute → Route
route_meant (route.To kind name address) =
    routes.To (destination_meant kind name.now address)
route_meant (route.Refused refusal) = routes.Refused refusal

-- a ruling
abbrev pub ruling_meant : LentRuling → Ruling
ruling_meant (ruling.Registered id zone) =
    unrouted (replies.Registered id.now zone) (effects.Put zone)
ruling_meant (ruling.RegisterRefused id reason) =
    unrouted (replies.RegisterRefused id.now reason) effects.Nothing
ruling_meant (ruling.Unregistered id) =
    unrouted (replies.Unregistered id.now) (effects.Remove id.now)
ruling_meant (ruling.UnregisterRefused id reason) =
    unrouted (replies.UnregisterRefused id.now reason) effects.Nothing
ruling_meant (ruling.Admitted call owner source target remote units kind name address) = record {
  verdict = replies.Admitted call (destination_meant kind name.now address) units;
  zone = Some source.now;
  route = Some (routes.To (destination_meant kind name.now address));
  effect = effects.Open (record {
    number = call;
    owner = owner.now;
    source = Some source.now;
    target = target.now;
    remote = remote;
    units = units;
    answerer = answerer_of (destination_meant kind name.now address);
  });
}
ruling_meant (ruling.Answering call owner zone units kind address) = record {
  verdict = replies.Admitted call (destination_meant kind owner.now address) units;
  zone = Some zone.now;
  route = Some (routes.To (destination_meant kind owner.now address));
  effect = effects.Open (record {
    number = call;
    owner = owner.now;
    source = None;
    target = zone.now;
    remote = true;
    units = units;
    answerer = None;
  });
}
ruling_meant (ruling.Repeated call zone units kind name address) = record {
  verdict = replies.Admitted call (destination_meant kind name.now address) units;
  zone = Some zone.now;
  route = Some (routes.To (destination_meant kind name.now address));
  effect = effects.Nothing;
}
ruling_meant (ruling.CallerNotRegistered call) =
    unrouted (replies.AdmitRefused call admit.CallerNotRegistered) effects.Nothing
ruling_meant (ruling.CallOpen call source) = record {
  verdict = replies.AdmitRefused call admit.CallOpen;
  zone = Some source.now;
  route = None;
  effect = effects.Nothing;
}
ruling_meant (ruling.NoRoute call source refusal) = record {
  verdict = replies.AdmitRefused call (admit.NoRoute refusal);
  zone = Some source.now;
  route = Some (routes.Refused refusal);
  effect = effects.Nothing;
}
ruling_meant (ruling.OverLimit call source kind name address over) = record {
  verdict = replies.AdmitRefused call (admit.OverLimit over);
  zone = Some source.now;
  route = Some (routes.To (destination_meant kind name.now address));
  effect = effects.Nothing;
}
ruling_meant (ruling.Changed call id units) =
    unrouted (replies.Changed call units) (effects.Resize call id.now units)
ruling_meant (ruling.ChangeRefused call reason) =
    unrouted (replies.ChangeRefused call reason) effects.Nothing
ruling_meant (ruling.Released call id) =
    unrouted (replies.Released call) (effects.Close call id.now)
ruling_meant (ruling.ReleaseRefused call reason) =
    unrouted (replies.ReleaseRefused call reason) effects.Nothing
ruling_meant (ruling.Reloaded version) =
    unrouted (replies.Reloaded version) effects.PutInForce
