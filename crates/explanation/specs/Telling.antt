-- The text of an explanation: a line for each step that is taken, in the order of the flow.
use Rattle.std.specs.Prelude.{ℕ, Bool, true, false, not, List, [], ◌∷◌, ◌++◌, length, drop, Option, Some, None, codes, if◌then◌else◌}
use Rattle.std.specs.List.{list_any}
use Rattle.gk_commands.specs.declared.commands.Command.{Command}
use Rattle.compiler.specs.Plan.{rejects_unknown}
use Rattle.rulings.specs.declared.routes.Route.{Route}
use Rattle.rulings.specs.declared.routes.Route.TheVariants as routes
use Rattle.rulings.specs.Routes.{route_text}
use Rattle.explanation.specs.declared.steps.Explanation.{Explanation}
use Rattle.explanation.specs.declared.steps.Reached.{Reached}
use Rattle.explanation.specs.declared.steps.Reached.TheVariants as reached
use Rattle.explanation.specs.declared.steps.Search.{Search}
use Rattle.explanation.specs.declared.steps.Search.TheVariants as search
use Rattle.explanation.specs.declared.steps.Way.{Way}
use Rattle.explanation.specs.declared.steps.Way.TheVariants as ways
use Rattle.explanation.specs.Lists.{listed, declares, names_row, commands_that, default_line, kind_in, others_of, candidates_text, names_text, limits_text}

-- a step: its name and its value
abbrev pub step_line : List ℕ → List ℕ → List ℕ
step_line name value = name ++ codes ": " ++ value ++ 10 ∷ []

-- a step that is not said if there is nothing to say
abbrev pub step_if_any : List ℕ → List ℕ → List ℕ
step_if_any name [] = []
step_if_any name (b ∷ bs) = step_line name (b ∷ bs)

-- ---- the technology prefix
-- what a gateway may give if the endpoints are not known
abbrev pub or_learned : Bool → List ℕ → List ℕ
or_learned true words = []
or_learned false words = words

-- from where a technology prefix is known
abbrev pub source_of : List Command → List (List ℕ) → List ℕ → List ℕ
source_of commands givers prefix =
    if list_any (declares prefix) commands
    then codes ", declared by " ++ commands_that (declares prefix) commands
    else (codes ", learned from " ++ names_text givers)

abbrev pub technology_value : List Command → Bool → List (List ℕ) → Option (List ℕ) → List ℕ
technology_value commands known givers None =
    codes "none" ++ or_learned known (codes " declared (a gateway may give one)")
technology_value commands known givers (Some prefix) =
    prefix ++ source_of commands givers prefix
    ++ or_learned known (codes " (a gateway may give a longer one)")

-- ---- the zone
-- the digits by which a pattern is looked for, if a technology prefix was taken off
abbrev pub rest_line : List ℕ → Option (List ℕ) → List ℕ
rest_line digits None = []
rest_line digits (Some prefix) =
    step_line (codes "digits left") (listed (drop (length prefix) digits))

-- the zone by its name; empty if there is none
abbrev pub name_of : Reached → List ℕ
name_of reached.Nowhere = []
name_of (reached.Remote zone) = zone
name_of (reached.Local zone) = zone

-- the zones that were named for the same, and not picked
abbrev pub others_line : List Command → Option (List ℕ) → Way → List ℕ → List ℕ
others_line commands technology way picked =
    step_if_any (codes "not picked")
    (others_of commands technology way picked (kind_in commands picked))

-- what is done if no pattern matches
abbrev pub unmatched_value : Bool → List ℕ
unmatched_value true = codes "none, rejected by arq reject-unknown-prefix"
unmatched_value false = codes "none, so the zone is the caller's"

abbrev pub way_steps : List Command → List ℕ → Option (List ℕ) → List ℕ → Way → List ℕ
way_steps commands digits technology picked ways.HopOff = step_line (codes "hop-off zone") picked
way_steps commands digits technology picked (ways.Matched pattern) =
    rest_line digits technology
    ++ step_line (codes "pattern") (commands_that (names_row pattern picked) commands)
way_steps commands digits technology picked ways.Unmatched =
    rest_line digits technology
    ++ step_line (codes "pattern") (unmatched_value (rejects_unknown commands))

-- by what the zone is found, and which others were named
abbrev pub way_lines : List Command → List ℕ → Option (List ℕ) → List ℕ → Way → List ℕ
way_lines commands digits technology picked way =
    way_steps commands digits technology picked way
    ++ others_line commands technology way picked

abbrev pub zone_line : Reached → List ℕ
zone_line reached.Nowhere = []
zone_line (reached.Remote zone) = step_line (codes "zone") (zone ++ codes ", remote")
zone_line (reached.Local zone) = step_line (codes "zone") (zone ++ codes ", local")

-- ---- the endpoint
-- that no endpoint has the digits as an alias; or, if none is known, which one is looked for
abbrev pub no_alias_value : Explanation → List ℕ
no_alias_value e =
    if e.known then codes "no endpoint"
    else
    (codes "not known, an endpoint of " ++ name_of e.reached ++ codes " with the alias " ++ e.digits
    ++ codes " is looked for")

-- the gateways; or, if no endpoint is known, which ones are looked for
abbrev pub gateways_value : Explanation → List ℕ → List ℕ
gateways_value e prefix =
    if e.known then listed (candidates_text e.gateways.items)
    else
    (codes "not known, those of " ++ name_of e.reached ++ codes " with the technology prefix "
    ++ prefix ++ codes " are looked for")

abbrev pub search_lines : List Command → Explanation → Search → List ℕ
search_lines commands e search.Nobody = []
search_lines commands e (search.Technology prefix) =
    step_line (codes "gateways") (gateways_value e prefix)
search_lines commands e (search.Alias id) = step_line (codes "alias") id
search_lines commands e (search.Default prefix) =
    step_line (codes "alias") (no_alias_value e)
    ++ step_line (codes "default technology") (default_line commands)
    ++ step_line (codes "gateways") (gateways_value e prefix)
search_lines commands e search.NoDefault =
    step_line (codes "alias") (no_alias_value e)
    ++ step_line (codes "default technology") (codes "none")

-- ---- the route
-- that in a local zone an endpoint is looked for, before what comes of it if there is none
abbrev pub endpoint_asked : Reached → List ℕ
endpoint_asked reached.Nowhere = []
endpoint_asked (reached.Remote zone) = []
endpoint_asked (reached.Local zone) = codes "an endpoint of " ++ zone ++ codes ", else "

-- the route; or, if no endpoint is known, what it is by the configuration alone: a technology
-- prefix that a gateway gives may lead elsewhere, whatever zone is reached
abbrev pub route_value : Explanation → List ℕ
route_value e =
    if e.known then route_text e.route
    else
    (codes "by the configuration alone, " ++ endpoint_asked e.reached ++ route_text e.route)

-- ---- the limits
-- whether it is for an endpoint that is not known to decide, by the configuration alone
abbrev pub is_open : Bool → Reached → Bool
is_open known reached.Nowhere = false
is_open known (reached.Remote zone) = false
is_open known (reached.Local zone) = not known

-- whether there is a destination, or an endpoint that is not known may be one
abbrev pub may_be_held : Bool → Route → Bool
may_be_held is_open (routes.To destination) = true
may_be_held is_open (routes.Refused refusal) = is_open

abbrev pub limits_line : Explanation → List ℕ
limits_line e =
    if may_be_held (is_open e.known e.reached) e.route
    then step_line (codes "limits") (listed (limits_text e.limits.items))
    else []

-- ---- the whole
abbrev pub explanation_text : List Command → Explanation → List ℕ
explanation_text commands e =
    step_line (codes "caller") e.caller
    ++ step_line (codes "technology prefix")
    (technology_value commands e.known e.givers.items e.technology)
    ++ way_lines commands e.digits e.technology (name_of e.reached) e.way
    ++ zone_line e.reached
    ++ search_lines commands e e.search
    ++ step_line (codes "route") (route_value e)
    ++ limits_line e
