-- What an entry tells beside its event reads back, whatever follows it.
use Rattle.std.proofs.Common.{◌≡◌, ℕ, List, ◌∷◌, ◌++◌, Option, Some, refl, ap, ◌∙◌, append_assoc}
use Rattle.bandwidth.specs.declared.over.Over.{Over}
use Rattle.gk_terms.specs.Address.{AddressParts}
use Rattle.gk_terms.specs.Name.{IsName}
use Rattle.rulings.specs.declared.lent_routes.DestinationKind.{DestinationKind}
use Rattle.rulings.specs.declared.replies.ChangeRefusal.{ChangeRefusal}
use Rattle.rulings.specs.declared.replies.RegisterRefusal.{RegisterRefusal}
use Rattle.rulings.specs.declared.replies.ReleaseRefusal.{ReleaseRefusal}
use Rattle.rulings.specs.declared.replies.UnregisterRefusal.{UnregisterRefusal}
use Rattle.rulings.specs.declared.routes.RouteRefusal.{RouteRefusal}
use Rattle.field_bytes.specs.Fields.{◌>>=◌, ReadsBack, IsAddress, address_bytes, address_in, byte_in, name_in, text_bytes}
use Rattle.field_bytes.proofs.FieldLaws.{address_back, name_back, number_back}
use Rattle.entry_bytes.specs.Codes.{destination_kind_code, destination_kind_of}
use Rattle.entry_bytes.specs.Refusals.{over_bytes, over_in}
use Rattle.entry_bytes.specs.VerdictBytes.{IsVerdict, led_bytes, place_bytes, verdict_at, verdict_bytes, verdict_in}
use Rattle.entry_bytes.specs.declared.verdicts.Verdict.{Verdict}
use Rattle.entry_bytes.specs.declared.verdicts.Verdict.TheVariants as verdict
use Rattle.entry_bytes.proofs.PartLaws.{change_refusal_back, destination_kinds, over_back, register_refusals, release_refusals, route_refusals, unregister_refusals}

-- ---- what is read, and then the next field
abbrev Read : Type 0
Read = Option (Verdict × List ℕ)

-- what an entry tells, with these bytes left
abbrev gave : Verdict → List ℕ → Read
gave v rest = Some (v, rest)

-- a name, and what is read after it
named_then : (next : List ℕ → List ℕ → Read) (name rest : List ℕ) → IsName name
    → (name_in (text_bytes name ++ rest) >>= λ n. next n.0 n.1) ≡ next name rest
named_then next name rest is =
    ap (λ (read : Option (List ℕ × List ℕ)). read >>= λ n. next n.0 n.1) (name_back name is rest)

-- ---- where a call leads, and what is read after it
abbrev Next : Type 0
Next = DestinationKind → List ℕ → AddressParts → List ℕ → Read

abbrev addressed_then : Next → DestinationKind → List ℕ → List ℕ → Read
addressed_then next k name bytes =
    address_in bytes >>= λ address. next k name address.0 address.1

abbrev named_place : Next → List ℕ → DestinationKind → Read
named_place next bytes k = name_in bytes >>= λ name. addressed_then next k name.0 name.1

abbrev place_then : Next → List ℕ → Read
place_then next bytes = do
  code ← byte_in bytes
  k ← destination_kind_of code.0
  name ← name_in code.1
  address ← address_in name.1
  next k name.0 address.0 address.1

place_back : (next : Next) (k : DestinationKind) (name : List ℕ) (a : AddressParts)
    (rest : List ℕ) → IsName name → IsAddress a
    → place_then next (place_bytes k name a ++ rest) ≡ next k name a rest
place_back next k name a rest is_name is_address =
    ap (λ (o : Option DestinationKind).
    o >>= named_place next ((text_bytes name ++ address_bytes a) ++ rest)) (destination_kinds k)
    ∙ ap (λ (bytes : List ℕ). named_place next bytes k)
    (append_assoc (text_bytes name) (address_bytes a) rest)
    ∙ named_then (addressed_then next k) name (address_bytes a ++ rest) is_name
    ∙ ap
    (λ (read : Option (AddressParts × List ℕ)).
    read >>= λ address. next k name address.0 address.1)
    (address_back a is_address rest)

-- the same after the zone that the call comes from
abbrev led_then : (List ℕ → Next) → List ℕ → Read
led_then next bytes = name_in bytes >>= λ zone. place_then (next zone.0) zone.1

led_back : (next : List ℕ → Next) (zone : List ℕ) (k : DestinationKind) (name : List ℕ)
    (a : AddressParts) (rest : List ℕ) → IsName zone → IsName name → IsAddress a
    → led_then next (led_bytes zone k name a ++ rest) ≡ next zone k name a rest
led_back next zone k name a rest is_zone is_name is_address =
    let place = place_bytes k name a in
    ap (led_then next) (append_assoc (text_bytes zone) place rest)
    ∙ named_then (λ z. place_then (next z)) zone (place ++ rest) is_zone
    ∙ place_back (next zone) k name a rest is_name is_address

-- the kind and the address of an endpoint that answers
abbrev answering_at : List ℕ → List ℕ → DestinationKind → Read
answering_at zone bytes k =
    address_in bytes >>= λ a. gave (verdict.Answering zone k a.0) a.1

abbrev answering_from : List ℕ → List ℕ → Read
answering_from zone bytes = do
  code ← byte_in bytes
  k ← destination_kind_of code.0
  address ← address_in code.1
  gave (verdict.Answering zone k address.0) address.1

-- a limit after where the call leads
abbrev over_from : List ℕ → Next
over_from zone k name a bytes =
    over_in bytes >>= λ o. gave (verdict.OverLimit zone k name a o.0) o.1

-- ---- what an entry tells
pub verdict_back : (v : Verdict) → IsVerdict v → ReadsBack verdict_in v (verdict_bytes v)
unfolding verdict_in verdict_at
verdict_back (verdict.Registered zone) is rest =
    named_then (λ z r. gave (verdict.Registered z) r) zone rest is
verdict_back (verdict.RegisterRefused reason) is rest =
    ap (λ (o : Option RegisterRefusal). o >>= λ r. gave (verdict.RegisterRefused r) rest)
    (register_refusals reason)
verdict_back verdict.Unregistered is rest = refl
verdict_back (verdict.UnregisterRefused reason) is rest =
    ap (λ (o : Option UnregisterRefusal). o >>= λ r. gave (verdict.UnregisterRefused r) rest)
    (unregister_refusals reason)
verdict_back (verdict.Admitted zone k name address) is rest =
    led_back (λ z d n a r. gave (verdict.Admitted z d n a) r) zone k name address rest
    is.0 is.1 is.2
verdict_back (verdict.Answering zone k address) is rest =
    let place : List ℕ = destination_kind_code k ∷ address_bytes address in
    ap (λ (bytes : List ℕ). name_in bytes >>= λ z. answering_from z.0 z.1)
    (append_assoc (text_bytes zone) place rest)
    ∙ named_then answering_from zone (place ++ rest) is.0
    ∙ ap (λ (o : Option DestinationKind). o >>= answering_at zone (address_bytes address ++ rest))
    (destination_kinds k)
    ∙ ap
    (λ (read : Option (AddressParts × List ℕ)).
    read >>= λ a. gave (verdict.Answering zone k a.0) a.1)
    (address_back address is.1 rest)
verdict_back (verdict.Repeated zone units k name address) is rest =
    let led = led_bytes zone k name address in
    ap
    (λ (read : Option (ℕ × List ℕ)). read >>= λ u.
    led_then (λ z d n a r. gave (verdict.Repeated z u.0 d n a) r) u.1)
    (number_back units is.1 (led ++ rest))
    ∙ led_back (λ z d n a r. gave (verdict.Repeated z units d n a) r) zone k name address rest
    is.0 is.2 is.3
verdict_back verdict.CallerNotRegistered is rest = refl
verdict_back (verdict.CallOpen zone) is rest =
    named_then (λ z r. gave (verdict.CallOpen z) r) zone rest is
verdict_back (verdict.NoRoute zone refusal) is rest =
    ap
    (λ (o : Option RouteRefusal). o >>= λ f.
    name_in (text_bytes zone ++ rest) >>= λ z. gave (verdict.NoRoute z.0 f) z.1)
    (route_refusals refusal)
    ∙ named_then (λ z r. gave (verdict.NoRoute z refusal) r) zone rest is
verdict_back (verdict.OverLimit zone k name address o) is rest =
    let led = led_bytes zone k name address in
    ap (led_then over_from) (append_assoc led (over_bytes o) rest)
    ∙ led_back over_from zone k name address (over_bytes o ++ rest) is.0 is.1 is.2
    ∙ ap
    (λ (read : Option (Over × List ℕ)).
    read >>= λ over. gave (verdict.OverLimit zone k name address over.0) over.1)
    (over_back o is.3 rest)
verdict_back verdict.Changed is rest = refl
verdict_back (verdict.ChangeRefused reason) is rest =
    ap
    (λ (read : Option (ChangeRefusal × List ℕ)).
    read >>= λ r. gave (verdict.ChangeRefused r.0) r.1)
    (change_refusal_back reason is rest)
verdict_back verdict.Released is rest = refl
verdict_back (verdict.ReleaseRefused reason) is rest =
    ap (λ (o : Option ReleaseRefusal). o >>= λ r. gave (verdict.ReleaseRefused r) rest)
    (release_refusals reason)
verdict_back (verdict.Reloaded version) is rest =
    ap
    (λ (read : Option (ℕ × List ℕ)). read >>= λ v. gave (verdict.Reloaded v.0) v.1)
    (number_back version is rest)
