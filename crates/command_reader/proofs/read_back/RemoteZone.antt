-- The canonical line of a `zone remote` line that was read says the same command.
use Rattle.std.proofs.Common.{◌≡◌, ℕ, ◌^◌, ◌≤◌, ◌<◌, true, false, cond, List, [], ◌∷◌, length, Result, Ok, refl, sym, ap, subst, ◌∙◌, arith}
use Rattle.std.specs.Prelude.{codes, decimal, bytes_eq}
use Rattle.std.specs.Fmt.{digits}
use Rattle.std.proofs.lemmas.Bool.{and_from}
use Rattle.std.proofs.lemmas.Fmt.{length-decimal-le}
use Rattle.gk_terms.specs.Name.{name_of}
use Rattle.gk_terms.specs.Number.{number_of}
use Rattle.gk_terms.specs.Address.{ip_of, ip_text, port_of}
use Rattle.gk_commands.specs.declared.numbers.TheConstants.{DEFAULT_RAS_PORT, DEFAULT_COST, DEFAULT_PRIORITY}
use Rattle.gk_commands.specs.declared.faults.FaultKind.{FaultKind}
use Rattle.gk_commands.specs.declared.faults.FaultKind.TheVariants.{BadName, BadNumber, BadAddress, Missing}
use Rattle.gk_commands.specs.declared.commands.Command.{Command}
use Rattle.gk_commands.specs.declared.commands.Command.TheVariants.{ZoneRemote}
use Rattle.gk_terms.specs.Fields.{◌>>=◌, field, with_rest}
use Rattle.gk_commands.specs.Fields.{field_but, value_but, nothing_more_but}
use Rattle.gk_commands.specs.ZoneLine.{left_out_of_remote, cost_of, remote_port_at, remote_priority_at, with_priority, remote_cost_at, zone_remote_at}
use Rattle.gk_commands.specs.Line.{kept_command_of, command_at}
use Rattle.gk_commands.specs.Printing.{command_words, remote_words}
use Rattle.gk_commands.specs.Accepted.{is_word}
use Rattle.command_reader.proofs.read_back.Words.{AreWords}
use Rattle.command_reader.proofs.read_back.Numbers.{number_spelled}
use Rattle.command_reader.proofs.read_back.Address.{IsOwnIp, ip_back}
use Rattle.command_reader.proofs.read_back.Fields.{bound, bind_at, chosen, field_read, field_again, value_read, value_again, nothing_more_read, name_read, IsRead, IsNamed}
use Rattle.command_reader.proofs.read_back.Lengths.{cost}
use Rattle.command_reader.proofs.read_back.Command.{IsSaidAgain}

-- ---- numbers
-- a number whose digits are read again in their place
pub record IsPrintedNumber (least most size n : ℕ) : Type 0 where
  pub taken : IsRead left_out_of_remote (number_of least most) (decimal n) n
  solid : is_word (decimal n) ≡ true
  short : length (decimal n) ≤ size

printed_number : (least most size : ℕ) (word : List ℕ) (n : ℕ) → most < 2 ^ 64 → most < 10 ^ size →
    0 < size
    → IsRead left_out_of_remote (number_of least most) word n → IsPrintedNumber least most size n
printed_number least most size word n small fits some r =
    let s = number_spelled least most word n small r.spelled in
    record {
      taken = subst (λ text. IsRead left_out_of_remote (number_of least most) text n) (sym s.same)
          r;
      solid = ap is_word s.same ∙ s.word;
      short = length-decimal-le size n some (omega (arith, s.within, fits))
          (omega (arith, s.within, small));
    }

-- those in place of what was not given
default_port : decimal 1719 ≡ codes "1719"
unfolding digits
default_port = refl

default_cost : decimal 50 ≡ codes "50"
unfolding digits
default_cost = refl

port_1719 : IsPrintedNumber 1 65535 5 1719
port_1719 = printed_number 1 65535 5 (codes "1719") 1719 (omega arith) (omega arith) (omega arith)
    (record { kept = refl; spelled = refl })

cost_50 : IsPrintedNumber 1 100 3 50
cost_50 = printed_number 1 100 3 (codes "50") 50 (omega arith) (omega arith) (omega arith)
    (record { kept = refl; spelled = refl })

-- ---- the port
-- a port that is read again, with the words after it
pub record IsPort (port : ℕ) : Type 0 where
  pub number : IsPrintedNumber 1 65535 5 port
  again : (words : List (List ℕ)) → remote_port_at (decimal port ∷ words) ≡ Ok (port, words)

port_again : (word : List ℕ) (port : ℕ) → bytes_eq word (codes "cost") ≡ false → IsRead
    left_out_of_remote port_of word port → IsPort port
port_again word port other r =
    let same = (number_spelled 1 65535 word port (omega arith) r.spelled).same in
    record {
      number = printed_number 1 65535 5 word port (omega arith) (omega arith) (omega arith) r;
      again = λ words. ap (λ w. remote_port_at (w ∷ words)) same
          ∙ ap (λ b. cond b (Ok (DEFAULT_RAS_PORT, word ∷ words))
          (value_but left_out_of_remote port_of BadNumber word >>= with_rest words)) other
          ∙ ap (λ v. v >>= with_rest words) (value_again left_out_of_remote port_of BadNumber word
          port r);
    }

port_default : IsPort 1719
port_default = port_again (codes "1719") 1719 refl (record { kept = refl; spelled = refl })

port_printed : (words : List (List ℕ)) (x : ℕ × List (List ℕ)) → remote_port_at words ≡ Ok x →
    IsPort x.0
port_printed [] x h =
    let is : (DEFAULT_RAS_PORT, []) ≡ x = cc in
    subst (λ (p : ℕ × List (List ℕ)). IsPort p.0) is port_default
port_printed (word ∷ words) x h =
    chosen (bytes_eq word (codes "cost")) _ _ (Ok x) h
    (λ _ f.
    let is : (DEFAULT_RAS_PORT, word ∷ words) ≡ x = cc in
    subst (λ (p : ℕ × List (List ℕ)). IsPort p.0) is port_default)
    (λ other f.
    let b = bound (value_but left_out_of_remote port_of BadNumber word) (with_rest words) x f in
    let is : (b.value, words) ≡ x = cc (b.next) in
    subst (λ (p : ℕ × List (List ℕ)). IsPort p.0) is
    (port_again word b.value other (value_read left_out_of_remote port_of BadNumber word b.value
    b.read)))

-- ---- cost and priority
cost_read : (words : List (List ℕ)) (x : ℕ × List (List ℕ)) → field_but left_out_of_remote cost_of
    BadNumber words ≡ Ok x → IsPrintedNumber 1 100 3 x.0
cost_read words x h =
    let f = field_read left_out_of_remote cost_of BadNumber words x h in
    printed_number 1 100 3 f.word x.0 (omega arith) (omega arith) (omega arith) f.taken

priority_printed : (words : List (List ℕ)) (priority : ℕ) → remote_priority_at words ≡ Ok priority →
    IsPrintedNumber 1 100 3 priority
priority_printed [] priority h = let is : DEFAULT_PRIORITY ≡ priority = cc in subst
    (λ n. IsPrintedNumber 1 100 3 n) is cost_50
priority_printed (word ∷ words) priority h =
    chosen (bytes_eq word (codes "priority")) _ _ (Ok priority) h
    (λ _ f.
    let b = bound (field_but left_out_of_remote cost_of BadNumber words)
    (λ priority. nothing_more_but left_out_of_remote priority.0 priority.1) priority f in
    subst (λ n. IsPrintedNumber 1 100 3 n) (nothing_more_read left_out_of_remote b.value.0 b.value.1
    priority b.next).same (cost_read words b.value b.read))
    (λ _ f. absurd (let no : ⊥ = cc ((nothing_more_read left_out_of_remote DEFAULT_PRIORITY
    (word ∷ words) priority f).none) in no))

-- cost and priority that are read again
pub record AreCosts (costs : ℕ × ℕ) : Type 0 where
  pub first : IsPrintedNumber 1 100 3 costs.0
  pub second : IsPrintedNumber 1 100 3 costs.1

costs_printed : (words : List (List ℕ)) (costs : ℕ × ℕ) → remote_cost_at words ≡ Ok costs → AreCosts
    costs
costs_printed [] costs h =
    let is : (DEFAULT_COST, DEFAULT_PRIORITY) ≡ costs = cc in
    subst AreCosts is (record { first = cost_50; second = cost_50 })
costs_printed (word ∷ words) costs h =
    chosen (bytes_eq word (codes "cost")) _ _ (Ok costs) h
    (λ _ f.
    let b = bound (field_but left_out_of_remote cost_of BadNumber words)
    (λ cost. with_priority cost.0 cost.1) costs f in
    let p = bound (remote_priority_at b.value.1) (λ priority. Ok (b.value.0, priority)) costs b.next
    in
    let is : (b.value.0, p.value) ≡ costs = cc (p.next) in
    subst AreCosts is (record {
      first = cost_read words b.value b.read;
      second = priority_printed
          b.value.1 p.value p.read;
    }))
    (λ _ f. absurd (let no : ⊥ = cc ((nothing_more_read left_out_of_remote
    (DEFAULT_COST, DEFAULT_PRIORITY) (word ∷ words) costs f).none) in no))

costs_again : (costs : ℕ × ℕ) → AreCosts costs
    → remote_cost_at (codes "cost" ∷ decimal costs.0 ∷ codes "priority" ∷ decimal costs.1 ∷ []) ≡ Ok
    costs
costs_again costs are =
    bind_at (field_but left_out_of_remote cost_of BadNumber
    (decimal costs.0 ∷ codes "priority" ∷ decimal costs.1 ∷ []))
    (λ cost. with_priority cost.0 cost.1) _
    (field_again left_out_of_remote cost_of BadNumber (decimal costs.0) _ costs.0 are.first.taken)
    ∙ ap (λ r. (r >>= (λ priority. nothing_more_but left_out_of_remote priority.0 priority.1)) >>= λ
    priority. Ok (costs.0, priority))
    (field_again left_out_of_remote cost_of BadNumber (decimal costs.1) [] costs.1 are.second.taken)

-- ---- the line
-- what a `zone remote` line says, by its fields
pub record IsRemote (command : Command) : Type 0 where
  pub name : List ℕ
  pub domain : List ℕ
  pub ip : List ℕ
  pub port : ℕ
  pub costs : ℕ × ℕ
  pub is : ZoneRemote name domain (record { ip = ip; port = port }) costs.0 costs.1 ≡ command
  named : IsNamed name
  in_domain : IsNamed domain
  address : IsOwnIp ip
  pub at_port : IsPort port
  pub at_costs : AreCosts costs

-- the steps after each field
abbrev after_costs : List ℕ → List ℕ → List ℕ → ℕ → ℕ × ℕ → Result Command FaultKind
after_costs name domain ip port costs = Ok (ZoneRemote name domain (record { ip = ip; port = port })
    costs.0 costs.1)

abbrev after_port : List ℕ → List ℕ → List ℕ → ℕ × List (List ℕ) → Result Command FaultKind
after_port name domain ip port = remote_cost_at port.1 >>= after_costs name domain ip port.0

abbrev after_ip : List ℕ → List ℕ → List ℕ × List (List ℕ) → Result Command FaultKind
after_ip name domain ip = remote_port_at ip.1 >>= after_port name domain ip.0

abbrev after_domain : List ℕ → List ℕ × List (List ℕ) → Result Command FaultKind
after_domain name domain = field Missing ip_of BadAddress domain.1 >>= after_ip name domain.0

abbrev after_name : List ℕ × List (List ℕ) → Result Command FaultKind
after_name name = field Missing name_of BadName name.1 >>= after_domain name.0

pub remote_read : (words : List (List ℕ)) (command : Command) → zone_remote_at words ≡ Ok command →
    IsRemote command
remote_read words command h =
    let n = bound (field Missing name_of BadName words) after_name command h in
    let f = field_read [] name_of BadName words n.value n.read in
    let d = bound (field Missing name_of BadName n.value.1) (after_domain n.value.0) command n.next
    in
    let g = field_read [] name_of BadName n.value.1 d.value d.read in
    let i = bound (field Missing ip_of BadAddress d.value.1) (after_ip n.value.0 d.value.0) command
    d.next in
    let e = field_read [] ip_of BadAddress d.value.1 i.value i.read in
    let p = bound (remote_port_at i.value.1) (after_port n.value.0 d.value.0 i.value.0) command
    i.next in
    let c = bound (remote_cost_at p.value.1) (after_costs n.value.0 d.value.0 i.value.0 p.value.0)
    command p.next in
    record {
      name = n.value.0;
      domain = d.value.0;
      ip = i.value.0;
      port = p.value.0;
      costs = c.value;
      is = cc (c.next);
      named = (name_read f.word n.value.0 f.taken.spelled).is;
      in_domain = (name_read g.word d.value.0 g.taken.spelled).is;
      address = ip_back e.word i.value.0 e.taken.spelled;
      at_port = port_printed i.value.1 p.value p.read;
      at_costs = costs_printed p.value.1 c.value c.read;
    }

-- the canonical words after `zone remote`
abbrev tail_of : List ℕ → List ℕ → List ℕ → ℕ → ℕ × ℕ → List (List ℕ)
tail_of name domain ip port costs = name ∷ domain ∷ remote_words (record { ip = ip; port = port })
    costs.0 costs.1

tail_again : (command : Command) (r : IsRemote command) → zone_remote_at
    (tail_of r.name r.domain r.ip r.port r.costs) ≡ Ok command
tail_again command r =
    let cost_words : List (List ℕ) = codes "cost" ∷ decimal r.costs.0 ∷ codes "priority" ∷ decimal
    r.costs.1 ∷ [] in
    let port_words : List (List ℕ) = decimal r.port ∷ cost_words in
    let ip_words : List (List ℕ) = ip_text r.ip ∷ port_words in
    bind_at (field Missing name_of BadName (r.name ∷ r.domain ∷ ip_words)) after_name
    (r.name, r.domain ∷ ip_words)
    (field_again [] name_of BadName r.name (r.domain ∷ ip_words) r.name
    (record { kept = refl; spelled = r.named.spelled }))
    ∙ bind_at (field Missing name_of BadName (r.domain ∷ ip_words)) (after_domain r.name)
    (r.domain, ip_words)
    (field_again [] name_of BadName r.domain ip_words r.domain
    (record { kept = refl; spelled = r.in_domain.spelled }))
    ∙ bind_at (field Missing ip_of BadAddress ip_words) (after_ip r.name r.domain)
    (r.ip, port_words)
    (field_again [] ip_of BadAddress (ip_text r.ip) port_words r.ip
    (record { kept = refl; spelled = r.address.spelled }))
    ∙ bind_at (remote_port_at port_words) (after_port r.name r.domain r.ip) (r.port, cost_words)
    (r.at_port.again cost_words)
    ∙ bind_at (remote_cost_at cost_words) (after_costs r.name r.domain r.ip r.port) r.costs
    (costs_again r.costs r.at_costs)
    ∙ ap (λ c. Ok c) r.is

whole_solid : (command : Command) (r : IsRemote command) → AreWords
    (codes "zone" ∷ codes "remote" ∷ tail_of r.name r.domain r.ip r.port r.costs)
whole_solid command r =
    and_from _ _ r.named.solid (and_from _ _ r.in_domain.solid
    (and_from _ _ r.address.solid (and_from _ _ r.at_port.number.solid
    (and_from _ _ r.at_costs.first.solid (and_from _ _ r.at_costs.second.solid refl)))))

whole_fits : (command : Command) (r : IsRemote command) → cost
    (codes "zone" ∷ codes "remote" ∷ tail_of r.name r.domain r.ip r.port r.costs) ≤ 513
whole_fits command r =
    omega (
      arith,
      r.named.short,
      r.in_domain.short,
      r.address.short,
      r.at_port.number.short,
      r.at_costs.first.short,
      r.at_costs.second.short,
    )

-- a `zone remote` line prints back
pub zone_remote_back : (words : List (List ℕ)) (command : Command) → zone_remote_at words ≡ Ok
    command → IsSaidAgain command
zone_remote_back words command h =
    let r = remote_read words command h in
    let whole : List (List ℕ) = codes "zone" ∷ codes "remote" ∷ tail_of r.name r.domain r.ip r.port
    r.costs in
    let same : whole ≡ command_words command = ap command_words r.is in
    record {
      said = ap command_at (sym same) ∙ ap kept_command_of (tail_again command r);
      solid = subst AreWords same (whole_solid command r);
      fits = subst (λ ws. cost ws ≤ 513) same (whole_fits command r);
    }
