-- The numbers of a command whose canonical line says it are in their ranges.
use Rattle.std.proofs.Common.{◌≡◌, ℕ, List, [], ◌∷◌, Option, Some, None, Ok, IfSome, bytes_eq, codes, decimal, sym, ap, subst, ◌∙◌}
use Rattle.std.specs.Prelude.{◌&&◌, nat_le}
use Rattle.std.proofs.lemmas.Bool.{and_parts, leb-true}
use Rattle.gk_terms.specs.Name.{name_of}
use Rattle.gk_terms.specs.Number.{is_numeral, value_of, number_of}
use Rattle.gk_terms.specs.Address.{ip_of, port_of}
use Rattle.gk_terms.specs.Fields.{field}
use Rattle.digit_patterns.specs.Pattern.{pattern_of, pattern_text}
use Rattle.gk_commands.specs.declared.numbers.TheConstants.{MOST_KBPS}
use Rattle.gk_commands.specs.declared.faults.FaultKind.TheVariants.{BadName, BadNumber, BadAddress, BadPattern, Missing}
use Rattle.gk_commands.specs.declared.commands.Command.{Command}
use Rattle.gk_commands.specs.declared.commands.Command.TheVariants.{ZoneLocal, ZoneRemote, ZonePrefix, GwTypePrefix, RejectUnknownPrefix, BandwidthDefault, BandwidthZone, BandwidthRemote}
use Rattle.gk_commands.specs.declared.commands.LimitKind.{LimitKind}
use Rattle.gk_commands.specs.declared.commands.LimitKind.TheVariants.{Session, Total, Interzone}
use Rattle.gk_commands.specs.declared.commands.LocalAddress.{LocalAddress}
use Rattle.gk_commands.specs.declared.commands.GatewayPriority.{GatewayPriority}
use Rattle.gk_commands.specs.Fields.{value_but, some_names_in}
use Rattle.gk_commands.specs.ZoneLine.{left_out_of_local, local_port_at, local_address_at, zone_local_at, after_hunt_word, gateways_at, zone_prefix_at, zone_remote_at}
use Rattle.gk_commands.specs.BandwidthLine.{most_of, default_limit_at, zone_limit_at, remote_limit_at}
use Rattle.gk_commands.specs.Line.{command_at}
use Rattle.gk_commands.specs.Printing.{command_words, local_words, remote_words, gateway_words}
use Rattle.gk_commands.specs.Accepted.{PrintsBack, canonical_line, IsWithin, IsPort, IsSizeOf, HasNumbersInRange}
use Rattle.command_reader.proofs.read_back.Words.{words_back}
use Rattle.command_reader.proofs.read_back.Numbers.{then_some-parts}
use Rattle.command_reader.proofs.read_back.Fields.{bound, chosen, field_read, value_read, nothing_more_read}
use Rattle.command_reader.proofs.read_back.Command.{line_said}
use Rattle.command_reader.proofs.read_back.Line.{kept_some}
use Rattle.command_reader.proofs.read_back.RemoteZone.{remote_read}

-- what a text spells is within the bounds
number_within : (least most : ℕ) (text : List ℕ) (n : ℕ) → number_of least most text ≡ Some n
    → IsWithin least most n
number_within least most text n h =
    let m : ℕ = value_of text in
    let t = then_some-parts (is_numeral text && nat_le least m && nat_le m most) m n h in
    let p = and_parts (is_numeral text && nat_le least m) (nat_le m most) t.0 in
    let q = and_parts (is_numeral text) (nat_le least m) p.0 in
    subst (IsWithin least most) t.1 (leb-true least m q.1, leb-true m most p.1)

-- ---- zone local
abbrev AtPort : Option LocalAddress → Type 0
AtPort address = IfSome address (λ a. IfSome a.port IsPort)

local_port_within : (ip : List ℕ) (words : List (List ℕ)) (address : Option LocalAddress)
    → local_port_at ip words ≡ Ok address → AtPort address
local_port_within ip [] address h =
    let is : Some (record { ip = ip; port = None }) ≡ address = cc in
    subst AtPort is tt
local_port_within ip (word ∷ words) address h =
    let b = bound (value_but left_out_of_local port_of BadNumber word) _ address h in
    let v = value_read left_out_of_local port_of BadNumber word b.value b.read in
    let e = nothing_more_read left_out_of_local _ words address b.next in
    subst AtPort e.same (number_within 1 65535 word b.value v.spelled)

local_address_within : (words : List (List ℕ)) (address : Option LocalAddress)
    → local_address_at words ≡ Ok address → AtPort address
local_address_within [] address h = let is : None ≡ address = cc in subst AtPort is tt
local_address_within (word ∷ words) address h =
    let b = bound (value_but left_out_of_local ip_of BadAddress word) _ address h in
    local_port_within b.value words address b.next

zone_local_within : (words : List (List ℕ)) (command : Command) → zone_local_at words ≡ Ok command
    → HasNumbersInRange command
zone_local_within words command h =
    let n = bound (field Missing name_of BadName words) _ command h in
    let d = bound (field Missing name_of BadName n.value.1) _ command n.next in
    let a = bound (local_address_at d.value.1) _ command d.next in
    let is : ZoneLocal n.value.0 d.value.0 a.value ≡ command = cc (a.next) in
    subst HasNumbersInRange is (local_address_within d.value.1 a.value a.read)

-- ---- zone remote
zone_remote_within : (words : List (List ℕ)) (command : Command) → zone_remote_at words ≡ Ok command
    → HasNumbersInRange command
zone_remote_within words command h =
    let r = remote_read words command h in
    subst HasNumbersInRange r.is (
      number_within 1 65535 (decimal r.port) r.port r.at_port.number.taken.spelled,
      number_within 1 100 (decimal r.costs.0) r.costs.0 r.at_costs.first.taken.spelled,
      number_within 1 100 (decimal r.costs.1) r.costs.1 r.at_costs.second.taken.spelled,
    )

-- ---- zone prefix
abbrev AtPriority : Option GatewayPriority → Type 0
AtPriority gateways = IfSome gateways (λ g. IsWithin 0 10 g.priority)

gateways_within : (words : List (List ℕ)) (gateways : Option GatewayPriority)
    → gateways_at words ≡ Ok gateways → AtPriority gateways
gateways_within [] gateways h = let is : None ≡ gateways = cc in subst AtPriority is tt
gateways_within (word ∷ words) gateways h =
    chosen (bytes_eq word (codes "gw-priority")) _ _ (Ok gateways) h
    (λ _ f.
    let b = bound (field Missing (number_of 0 10) BadNumber words) _ gateways f in
    let n = field_read [] (number_of 0 10) BadNumber words b.value b.read in
    let g = bound (some_names_in b.value.1) _ gateways b.next in
    let is : Some (record { priority = b.value.0; gateways = g.value }) ≡ gateways = cc (g.next) in
    subst AtPriority is (number_within 0 10 n.word b.value.0 n.taken.spelled))
    (λ _ f. absurd (let no : ⊥ = cc in no))

zone_prefix_within : (words : List (List ℕ)) (command : Command) → zone_prefix_at words ≡ Ok command
    → HasNumbersInRange command
zone_prefix_within words command h =
    let n = bound (field Missing name_of BadName words) _ command h in
    let p = bound (field Missing pattern_of BadPattern n.value.1) _ command n.next in
    let g = bound (gateways_at (after_hunt_word p.value.1)) _ command p.next in
    let is : ZonePrefix n.value.0 p.value.0 g.value ≡ command = cc (g.next) in
    subst HasNumbersInRange is (gateways_within (after_hunt_word p.value.1) g.value g.read)

-- ---- bandwidth
size_within : (kind : LimitKind) (text : List ℕ) (size : ℕ)
    → number_of 1 (most_of kind) text ≡ Some size → IsSizeOf kind size
size_within Session text size h = number_within 1 5000 text size h
size_within Total text size h = number_within 1 10000000 text size h
size_within Interzone text size h = number_within 1 10000000 text size h

default_within : (kind : LimitKind) (words : List (List ℕ)) (command : Command)
    → default_limit_at kind words ≡ Ok command → HasNumbersInRange command
default_within kind words command h =
    let b = bound (field Missing (number_of 1 (most_of kind)) BadNumber words) _ command h in
    let f = field_read [] (number_of 1 (most_of kind)) BadNumber words b.value b.read in
    let e = nothing_more_read [] (BandwidthDefault kind b.value.0) b.value.1 command b.next in
    subst HasNumbersInRange e.same (size_within kind f.word b.value.0 f.taken.spelled)

of_zone_within : (kind : LimitKind) (words : List (List ℕ)) (command : Command)
    → zone_limit_at kind words ≡ Ok command → HasNumbersInRange command
of_zone_within kind words command h =
    let z = bound (field Missing name_of BadName words) _ command h in
    let most : ℕ = most_of kind in
    let b = bound (field Missing (number_of 1 most) BadNumber z.value.1) _ command z.next in
    let f = field_read [] (number_of 1 most) BadNumber z.value.1 b.value b.read in
    let said : Command = BandwidthZone kind z.value.0 b.value.0 in
    let e = nothing_more_read [] said b.value.1 command b.next in
    subst HasNumbersInRange e.same (size_within kind f.word b.value.0 f.taken.spelled)

remote_within : (words : List (List ℕ)) (command : Command) → remote_limit_at words ≡ Ok command
    → HasNumbersInRange command
remote_within words command h =
    let b = bound (field Missing (number_of 1 MOST_KBPS) BadNumber words) _ command h in
    let f = field_read [] (number_of 1 MOST_KBPS) BadNumber words b.value b.read in
    let e = nothing_more_read [] (BandwidthRemote b.value.0) b.value.1 command b.next in
    subst HasNumbersInRange e.same (number_within 1 10000000 f.word b.value.0 f.taken.spelled)

-- ---- a command
-- the canonical words of a command choose its own reader
words_within : (command : Command) → command_at (command_words command) ≡ Ok (Some command)
    → HasNumbersInRange command
words_within (ZoneLocal name domain address) h =
    zone_local_within (name ∷ domain ∷ local_words address) _ (kept_some _ _ h)
words_within (ZoneRemote name domain address cost priority) h =
    zone_remote_within (name ∷ domain ∷ remote_words address cost priority) _ (kept_some _ _ h)
words_within (ZonePrefix zone pattern gateways) h =
    zone_prefix_within (zone ∷ pattern_text pattern ∷ gateway_words gateways) _ (kept_some _ _ h)
words_within (GwTypePrefix prefix hopoffs is_default) h = tt
words_within RejectUnknownPrefix h = tt
words_within (BandwidthDefault Session size) h =
    default_within Session (decimal size ∷ []) _ (kept_some _ _ h)
words_within (BandwidthDefault Total size) h =
    default_within Total (decimal size ∷ []) _ (kept_some _ _ h)
words_within (BandwidthDefault Interzone size) h =
    default_within Interzone (decimal size ∷ []) _ (kept_some _ _ h)
words_within (BandwidthZone Session zone size) h =
    of_zone_within Session (zone ∷ decimal size ∷ []) _ (kept_some _ _ h)
words_within (BandwidthZone Total zone size) h =
    of_zone_within Total (zone ∷ decimal size ∷ []) _ (kept_some _ _ h)
words_within (BandwidthZone Interzone zone size) h =
    of_zone_within Interzone (zone ∷ decimal size ∷ []) _ (kept_some _ _ h)
words_within (BandwidthRemote size) h = remote_within (decimal size ∷ []) _ (kept_some _ _ h)

-- the numbers of a command that prints back are in their ranges
pub in_range : (command : Command) → PrintsBack command → HasNumbersInRange command
in_range command back =
    words_within command
    (ap command_at (sym (words_back (command_words command) back.words))
    ∙ (line_said (canonical_line command) command back.said).said)
