-- Routes as a report keeps them: what each says.
use Rattle.rulings.specs.declared.routes.Route.{Route}
use Rattle.rulings.specs.declared.routes.Route.TheVariants as routes
use Rattle.rulings.specs.Lent.{destination_meant}
use Rattle.trial_run.specs.declared.held_routes.Held.{Held}
use Rattle.trial_run.specs.declared.held_routes.Held.TheVariants as held

abbrev pub route_held : Held → Route
route_held (held.To kind address name) = routes.To (destination_meant kind name address)
route_held (held.Refused refusal) = routes.Refused refusal
