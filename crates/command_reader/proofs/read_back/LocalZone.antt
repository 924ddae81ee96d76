-- A `zone local` line that was read is a canonical line.
use Rattle.std.proofs.Common.{Result, ◌≡◌, ℕ, List, [], ◌∷◌, Some, None, Ok, refl, sym, ap, subst, ◌∙◌, arith}
use Rattle.std.specs.Prelude.{Option, codes}
use Rattle.std.proofs.lemmas.Bool.{and_from}
use Rattle.gk_terms.specs.Name.{name_of}
use Rattle.gk_terms.specs.Address.{ip_of, ip_text, port_of}
use Rattle.gk_commands.specs.declared.faults.FaultKind.{FaultKind}
use Rattle.gk_commands.specs.declared.faults.FaultKind.TheVariants.{BadName, BadNumber, BadAddress, Missing}
use Rattle.gk_commands.specs.declared.commands.Command.{Command}
use Rattle.gk_commands.specs.declared.commands.Command.TheVariants.{ZoneLocal}
use Rattle.gk_commands.specs.declared.commands.LocalAddress.{LocalAddress}
use Rattle.gk_terms.specs.Fields.{◌>>=◌, field}
use Rattle.gk_commands.specs.Fields.{value_but, nothing_more_but}
use Rattle.gk_commands.specs.ZoneLine.{left_out_of_local, local_port_at, local_address_at, zone_local_at}
use Rattle.gk_commands.specs.Printing.{command_words, local_words}
use Rattle.command_reader.proofs.read_back.Words.{AreWords}
use Rattle.command_reader.proofs.read_back.Numbers.{number_spelled}
use Rattle.command_reader.proofs.read_back.Address.{ip_spelled}
use Rattle.command_reader.proofs.read_back.Fields.{IsNamed, bound, field_read, value_read, nothing_more_read, name_read}
use Rattle.command_reader.proofs.read_back.Command.{IsSpelledBy}

-- the address of a local zone, as its words
record IsLocalAddress (words : List (List ℕ)) (address : Option LocalAddress) : Type 0 where
  same : local_words address ≡ words
  solid : AreWords words

-- the words after the address
record IsLocalPort (ip : List ℕ) (words : List (List ℕ)) (address : Option LocalAddress) : Type 0
  where
    same : local_words address ≡ ip_text ip ∷ words
    solid : AreWords words

local_port_spelled : (ip : List ℕ) (words : List (List ℕ)) (address : Option LocalAddress) →
    local_port_at ip words ≡ Ok address → IsLocalPort ip words address
local_port_spelled ip [] address h =
    let is : Some (record { ip = ip; port = None }) ≡ address = cc in
    record { same = ap local_words (sym is); solid = refl }
local_port_spelled ip (word ∷ words) address h =
    let b = bound (value_but left_out_of_local port_of BadNumber word)
    (λ port. nothing_more_but left_out_of_local (Some (record { ip = ip; port = Some port }))
    words) address h in
    let v = value_read left_out_of_local port_of BadNumber word b.value b.read in
    let e = nothing_more_read left_out_of_local (Some (record { ip = ip; port = Some b.value }))
    words address b.next in
    let n = number_spelled 1 65535 word b.value (omega arith) v.spelled in
    let whole : word ∷ words ≡ word ∷ [] = ap (λ rest. word ∷ rest) e.none in
    record {
      same = ap local_words (sym e.same) ∙ ap (λ w. ip_text ip ∷ w ∷ []) n.same ∙ ap
          (λ ws. ip_text ip ∷ ws) (sym whole);
      solid = subst AreWords (sym whole) (and_from _ _ n.word refl);
    }

local_address_spelled : (words : List (List ℕ)) (address : Option LocalAddress) → local_address_at
    words ≡ Ok address → IsLocalAddress words address
local_address_spelled [] address h =
    let is : None ≡ address = cc in
    record { same = ap local_words (sym is); solid = refl }
local_address_spelled (word ∷ words) address h =
    let b = bound (value_but left_out_of_local ip_of BadAddress word) (λ ip. local_port_at ip words)
    address h in
    let v = value_read left_out_of_local ip_of BadAddress word b.value b.read in
    let i = ip_spelled word b.value v.spelled in
    let p = local_port_spelled b.value words address b.next in
    record { same = p.same ∙ ap (λ w. w ∷ words) i.same; solid = and_from _ _ i.word p.solid }

-- the steps after each field
abbrev after_address : List ℕ → List ℕ → Option LocalAddress → Result Command FaultKind
after_address name domain address = Ok (ZoneLocal name domain address)

abbrev after_domain : List ℕ → List ℕ × List (List ℕ) → Result Command FaultKind
after_domain name domain = local_address_at domain.1 >>= after_address name domain.0

abbrev after_name : List ℕ × List (List ℕ) → Result Command FaultKind
after_name name = field Missing name_of BadName name.1 >>= after_domain name.0

-- what a `zone local` line says, by its fields
record IsLocal (words : List (List ℕ)) (command : Command) : Type 0 where
  name : List ℕ
  domain : List ℕ
  address : Option LocalAddress
  is : ZoneLocal name domain address ≡ command
  rest : List (List ℕ)
  whole : name ∷ domain ∷ rest ≡ words
  named : IsNamed name
  in_domain : IsNamed domain
  at_address : IsLocalAddress rest address

local_read : (words : List (List ℕ)) (command : Command) → zone_local_at words ≡ Ok command →
    IsLocal words command
local_read words command h =
    let n = bound (field Missing name_of BadName words) after_name command h in
    let f = field_read [] name_of BadName words n.value n.read in
    let name = name_read f.word n.value.0 f.taken.spelled in
    let d = bound (field Missing name_of BadName n.value.1) (after_domain n.value.0) command n.next
    in
    let g = field_read [] name_of BadName n.value.1 d.value d.read in
    let domain = name_read g.word d.value.0 g.taken.spelled in
    let a = bound (local_address_at d.value.1) (after_address n.value.0 d.value.0) command d.next in
    record {
      name = n.value.0;
      domain = d.value.0;
      address = a.value;
      is = cc (a.next);
      rest = d.value.1;
      whole = cc (name.same, domain.same, f.whole, g.whole);
      named = name.is;
      in_domain = domain.is;
      at_address = local_address_spelled d.value.1 a.value a.read;
    }

-- the words of a `zone local` line are its canonical words
pub zone_local_spelled : (words : List (List ℕ)) (command : Command) → zone_local_at words ≡ Ok
    command
    → IsSpelledBy (codes "zone" ∷ codes "local" ∷ words) command
zone_local_spelled words command h =
    let r = local_read words command h in
    record {
      same = ap command_words (sym r.is) ∙ ap (λ ws. codes "zone" ∷ codes "local" ∷ r.name ∷
          r.domain ∷ ws) r.at_address.same
          ∙ ap (λ ws. codes "zone" ∷ codes "local" ∷ ws) r.whole;
      solid = subst (λ ws. AreWords (codes "zone" ∷ codes "local" ∷ ws)) r.whole
          (and_from _ _ r.named.solid (and_from _ _ r.in_domain.solid r.at_address.solid));
    }
