-- What a line that begins with `zone` says, by the words after that.
use Rattle.std.specs.Prelude.{ℕ, List, [], ◌∷◌, Option, Some, None, Result, Ok, Err, codes, bytes_eq, if◌then◌else◌}
use Rattle.gk_terms.specs.Name.{name_of}
use Rattle.gk_terms.specs.Number.{number_of}
use Rattle.gk_terms.specs.Address.{ip_of, port_of}
use Rattle.digit_patterns.specs.Pattern.{pattern_of}
use Rattle.gk_commands.specs.declared.faults.FaultKind.{FaultKind}
use Rattle.gk_commands.specs.declared.faults.FaultKind.TheVariants.{UnknownCommand, Unsupported, Missing, Extra, BadName, BadPattern, BadNumber, BadAddress}
use Rattle.gk_commands.specs.declared.numbers.TheConstants.{DEFAULT_RAS_PORT, DEFAULT_COST, DEFAULT_PRIORITY}
use Rattle.gk_commands.specs.declared.commands.Command.{Command}
use Rattle.gk_commands.specs.declared.commands.Command.TheVariants.{ZoneLocal, ZoneRemote, ZonePrefix}
use Rattle.gk_commands.specs.declared.commands.LocalAddress.{LocalAddress}
use Rattle.gk_commands.specs.declared.commands.GatewayPriority.{GatewayPriority}
use Rattle.gk_terms.specs.Fields.{◌>>=◌, with_rest, field}
use Rattle.gk_commands.specs.Fields.{is_one_of, value_but, field_but, nothing_more_but, some_names_in}

-- ---- zone local NAME DOMAIN [IP [PORT]]
-- words that Cisco's command has in place of IP, of PORT or after them, and this project leaves out
abbrev pub left_out_of_local : List (List ℕ)
left_out_of_local = codes "invia" ∷ codes "outvia" ∷ codes "enable-intrazone" ∷ []

abbrev pub local_port_at : List ℕ → List (List ℕ) → Result (Option LocalAddress) FaultKind
local_port_at ip [] = Ok (Some (record { ip = ip; port = None }))
local_port_at ip (word ∷ words) = do
  port ← value_but left_out_of_local port_of BadNumber word
  nothing_more_but left_out_of_local (Some (record { ip = ip; port = Some port })) words

abbrev pub local_address_at : List (List ℕ) → Result (Option LocalAddress) FaultKind
local_address_at [] = Ok None
local_address_at (word ∷ words) = do
  ip ← value_but left_out_of_local ip_of BadAddress word
  local_port_at ip words

abbrev pub zone_local_at : List (List ℕ) → Result Command FaultKind
zone_local_at words = do
  name ← field Missing name_of BadName words
  domain ← field Missing name_of BadName name.1
  address ← local_address_at domain.1
  Ok (ZoneLocal name.0 domain.0 address)

-- ---- zone remote NAME DOMAIN IP [PORT] [cost C [priority P]]
-- words that Cisco's command has anywhere after IP, and this project leaves out
abbrev pub left_out_of_remote : List (List ℕ)
left_out_of_remote = codes "foreign-domain" ∷ codes "invia" ∷ codes "outvia" ∷ []

-- a cost or a priority
abbrev pub cost_of : List ℕ → Option ℕ
cost_of word = number_of 1 100 word

-- the port, unless the next word begins the cost; with the words after it
abbrev pub remote_port_at : List (List ℕ) → Result (ℕ × List (List ℕ)) FaultKind
remote_port_at [] = Ok (DEFAULT_RAS_PORT, [])
remote_port_at (word ∷ words) =
    if bytes_eq word (codes "cost") then Ok (DEFAULT_RAS_PORT, word ∷ words)
    else (value_but left_out_of_remote port_of BadNumber word >>= with_rest words)

-- the priority after the cost, and the end of the line
abbrev pub remote_priority_at : List (List ℕ) → Result ℕ FaultKind
remote_priority_at [] = Ok DEFAULT_PRIORITY
remote_priority_at (word ∷ words) =
    if bytes_eq word (codes "priority")
    then (field_but left_out_of_remote cost_of BadNumber words
    >>= λ priority. nothing_more_but left_out_of_remote priority.0 priority.1)
    else nothing_more_but left_out_of_remote DEFAULT_PRIORITY (word ∷ words)

-- a cost, with the priority after it
abbrev pub with_priority : ℕ → List (List ℕ) → Result (ℕ × ℕ) FaultKind
with_priority cost words = do
  priority ← remote_priority_at words
  Ok (cost, priority)

-- cost and priority, and the end of the line
abbrev pub remote_cost_at : List (List ℕ) → Result (ℕ × ℕ) FaultKind
remote_cost_at [] = Ok (DEFAULT_COST, DEFAULT_PRIORITY)
remote_cost_at (word ∷ words) =
    if bytes_eq word (codes "cost")
    then (field_but left_out_of_remote cost_of BadNumber words
    >>= λ cost. with_priority cost.0 cost.1)
    else nothing_more_but left_out_of_remote (DEFAULT_COST, DEFAULT_PRIORITY) (word ∷ words)

abbrev pub zone_remote_at : List (List ℕ) → Result Command FaultKind
zone_remote_at words = do
  name ← field Missing name_of BadName words
  domain ← field Missing name_of BadName name.1
  ip ← field Missing ip_of BadAddress domain.1
  port ← remote_port_at ip.1
  costs ← remote_cost_at port.1
  Ok (ZoneRemote name.0 domain.0 (record { ip = ip.0; port = port.0 }) costs.0 costs.1)

-- ---- zone prefix NAME PATTERN [seq|blast] [gw-priority N GW [GW ...]]
-- how several gatekeepers are asked: one remote zone is answered here, so the words have no effect
abbrev pub hunt_words : List (List ℕ)
hunt_words = codes "seq" ∷ codes "blast" ∷ []

-- the words without one such word at their front
abbrev pub after_hunt_word : List (List ℕ) → List (List ℕ)
after_hunt_word [] = []
after_hunt_word (word ∷ words) = if is_one_of hunt_words word then words else word ∷ words

-- gateways with their priority
abbrev pub with_gateways : ℕ → List (List ℕ) → Result (Option GatewayPriority) FaultKind
with_gateways priority words = do
  gateways ← some_names_in words
  Ok (Some (record { priority = priority; gateways = gateways }))

-- the priority of gateways, and their names to the end of the line
abbrev pub gateways_at : List (List ℕ) → Result (Option GatewayPriority) FaultKind
gateways_at [] = Ok None
gateways_at (word ∷ words) =
    if bytes_eq word (codes "gw-priority")
    then (field Missing (number_of 0 10) BadNumber words
    >>= λ priority. with_gateways priority.0 priority.1)
    else Err Extra

abbrev pub zone_prefix_at : List (List ℕ) → Result Command FaultKind
zone_prefix_at words = do
  name ← field Missing name_of BadName words
  pattern ← field Missing pattern_of BadPattern name.1
  gateways ← gateways_at (after_hunt_word pattern.1)
  Ok (ZonePrefix name.0 pattern.0 gateways)

-- ---- zone
-- second words of Cisco's commands that are left out
abbrev pub left_out_of_zone : List (List ℕ)
left_out_of_zone = codes "subnet" ∷ codes "circuit-id" ∷ codes "cluster" ∷ []

abbrev pub zone_line_at : List (List ℕ) → Result Command FaultKind
zone_line_at [] = Err Missing
zone_line_at (word ∷ words) =
    if bytes_eq word (codes "local") then zone_local_at words
    else (if bytes_eq word (codes "remote") then zone_remote_at words
    else (if bytes_eq word (codes "prefix") then zone_prefix_at words
    else (if is_one_of left_out_of_zone word then Err Unsupported else Err UnknownCommand)))
