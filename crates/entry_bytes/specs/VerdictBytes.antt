-- What an entry tells beside its event, as bytes: its kind in one byte, and what it names.
use Rattle.std.specs.Prelude.{ℕ, ◌<◌, ◌^◌, ◌==◌, List, [], ◌∷◌, ◌++◌, Option, Some, None, ⊤, if◌then◌else◌}
use Rattle.gk_terms.specs.Address.{AddressParts}
use Rattle.gk_terms.specs.Name.{IsName}
use Rattle.rulings.specs.declared.lent_routes.DestinationKind.{DestinationKind}
use Rattle.field_bytes.specs.Fields.{◌>>=◌, IsAddress, address_bytes, address_in, byte_in, name_in, number_bytes, number_in, text_bytes}
use Rattle.entry_bytes.specs.Codes.{destination_kind_code, destination_kind_of, register_refusal_code, register_refusal_of, release_refusal_code, release_refusal_of, route_refusal_code, route_refusal_of, unregister_refusal_code, unregister_refusal_of}
use Rattle.entry_bytes.specs.Refusals.{IsChangeRefusal, IsOver, change_refusal_bytes, change_refusal_in, over_bytes, over_in}
use Rattle.entry_bytes.specs.declared.verdict_kinds.VerdictKind.{VerdictKind}
use Rattle.entry_bytes.specs.declared.verdict_kinds.VerdictKind.TheVariants as kind
use Rattle.entry_bytes.specs.declared.verdicts.Verdict.{Verdict}
use Rattle.entry_bytes.specs.declared.verdicts.Verdict.TheVariants as verdict

-- ---- kinds
abbrev pub verdict_kind_code : VerdictKind → ℕ
verdict_kind_code kind.Registered = 0
verdict_kind_code kind.RegisterRefused = 1
verdict_kind_code kind.Unregistered = 2
verdict_kind_code kind.UnregisterRefused = 3
verdict_kind_code kind.Admitted = 4
verdict_kind_code kind.Answering = 5
verdict_kind_code kind.Repeated = 6
verdict_kind_code kind.CallerNotRegistered = 7
verdict_kind_code kind.CallOpen = 8
verdict_kind_code kind.NoRoute = 9
verdict_kind_code kind.OverLimit = 10
verdict_kind_code kind.Changed = 11
verdict_kind_code kind.ChangeRefused = 12
verdict_kind_code kind.Released = 13
verdict_kind_code kind.ReleaseRefused = 14
verdict_kind_code kind.Reloaded = 15

abbrev pub verdict_kind_of : ℕ → Option VerdictKind
verdict_kind_of code =
    if code == 0 then Some kind.Registered
    else if code == 1 then Some kind.RegisterRefused
    else if code == 2 then Some kind.Unregistered
    else if code == 3 then Some kind.UnregisterRefused
    else if code == 4 then Some kind.Admitted
    else if code == 5 then Some kind.Answering
    else if code == 6 then Some kind.Repeated
    else if code == 7 then Some kind.CallerNotRegistered
    else if code == 8 then Some kind.CallOpen
    else if code == 9 then Some kind.NoRoute
    else if code == 10 then Some kind.OverLimit
    else if code == 11 then Some kind.Changed
    else if code == 12 then Some kind.ChangeRefused
    else if code == 13 then Some kind.Released
    else if code == 14 then Some kind.ReleaseRefused
    else if code == 15 then Some kind.Reloaded
    else None

-- ---- bytes
-- where a call leads
abbrev pub place_bytes : DestinationKind → (name : List ℕ) → AddressParts → List ℕ
place_bytes k name address = destination_kind_code k ∷ text_bytes name ++ address_bytes address

-- from this zone
abbrev pub led_bytes : (zone : List ℕ) → DestinationKind → (name : List ℕ) → AddressParts → List ℕ
led_bytes zone k name address = text_bytes zone ++ place_bytes k name address

abbrev pub verdict_bytes : Verdict → List ℕ
verdict_bytes (verdict.Registered zone) = verdict_kind_code kind.Registered ∷ text_bytes zone
verdict_bytes (verdict.RegisterRefused reason) =
    verdict_kind_code kind.RegisterRefused ∷ register_refusal_code reason ∷ []
verdict_bytes verdict.Unregistered = verdict_kind_code kind.Unregistered ∷ []
verdict_bytes (verdict.UnregisterRefused reason) =
    verdict_kind_code kind.UnregisterRefused ∷ unregister_refusal_code reason ∷ []
verdict_bytes (verdict.Admitted zone k name address) =
    verdict_kind_code kind.Admitted ∷ led_bytes zone k name address
verdict_bytes (verdict.Answering zone k address) =
    (verdict_kind_code kind.Answering ∷ text_bytes zone)
    ++ (destination_kind_code k ∷ address_bytes address)
verdict_bytes (verdict.Repeated zone units k name address) =
    (verdict_kind_code kind.Repeated ∷ number_bytes units) ++ led_bytes zone k name address
verdict_bytes verdict.CallerNotRegistered = verdict_kind_code kind.CallerNotRegistered ∷ []
verdict_bytes (verdict.CallOpen zone) = verdict_kind_code kind.CallOpen ∷ text_bytes zone
verdict_bytes (verdict.NoRoute zone refusal) =
    verdict_kind_code kind.NoRoute ∷ route_refusal_code refusal ∷ text_bytes zone
verdict_bytes (verdict.OverLimit zone k name address over) =
    (verdict_kind_code kind.OverLimit ∷ led_bytes zone k name address) ++ over_bytes over
verdict_bytes verdict.Changed = verdict_kind_code kind.Changed ∷ []
verdict_bytes (verdict.ChangeRefused reason) =
    verdict_kind_code kind.ChangeRefused ∷ change_refusal_bytes reason
verdict_bytes verdict.Released = verdict_kind_code kind.Released ∷ []
verdict_bytes (verdict.ReleaseRefused reason) =
    verdict_kind_code kind.ReleaseRefused ∷ release_refusal_code reason ∷ []
verdict_bytes (verdict.Reloaded version) =
    verdict_kind_code kind.Reloaded ∷ number_bytes version

-- ---- reading
abbrev pub registered_in : List ℕ → Option (Verdict × List ℕ)
registered_in bytes = do
  zone ← name_in bytes
  Some (verdict.Registered zone.0, zone.1)

abbrev pub register_refused_in : List ℕ → Option (Verdict × List ℕ)
register_refused_in bytes = do
  code ← byte_in bytes
  reason ← register_refusal_of code.0
  Some (verdict.RegisterRefused reason, code.1)

abbrev pub unregister_refused_in : List ℕ → Option (Verdict × List ℕ)
unregister_refused_in bytes = do
  code ← byte_in bytes
  reason ← unregister_refusal_of code.0
  Some (verdict.UnregisterRefused reason, code.1)

abbrev pub admitted_in : List ℕ → Option (Verdict × List ℕ)
admitted_in bytes = do
  zone ← name_in bytes
  code ← byte_in zone.1
  k ← destination_kind_of code.0
  name ← name_in code.1
  address ← address_in name.1
  Some (verdict.Admitted zone.0 k name.0 address.0, address.1)

abbrev pub answering_in : List ℕ → Option (Verdict × List ℕ)
answering_in bytes = do
  zone ← name_in bytes
  code ← byte_in zone.1
  k ← destination_kind_of code.0
  address ← address_in code.1
  Some (verdict.Answering zone.0 k address.0, address.1)

abbrev pub repeated_in : List ℕ → Option (Verdict × List ℕ)
repeated_in bytes = do
  units ← number_in bytes
  zone ← name_in units.1
  code ← byte_in zone.1
  k ← destination_kind_of code.0
  name ← name_in code.1
  address ← address_in name.1
  Some (verdict.Repeated zone.0 units.0 k name.0 address.0, address.1)

abbrev pub call_open_in : List ℕ → Option (Verdict × List ℕ)
call_open_in bytes = do
  zone ← name_in bytes
  Some (verdict.CallOpen zone.0, zone.1)

abbrev pub no_route_from : List ℕ → Option (Verdict × List ℕ)
no_route_from bytes = do
  code ← byte_in bytes
  refusal ← route_refusal_of code.0
  zone ← name_in code.1
  Some (verdict.NoRoute zone.0 refusal, zone.1)

abbrev pub over_limit_in : List ℕ → Option (Verdict × List ℕ)
over_limit_in bytes = do
  zone ← name_in bytes
  code ← byte_in zone.1
  k ← destination_kind_of code.0
  name ← name_in code.1
  address ← address_in name.1
  over ← over_in address.1
  Some (verdict.OverLimit zone.0 k name.0 address.0 over.0, over.1)

abbrev pub change_refused_in : List ℕ → Option (Verdict × List ℕ)
change_refused_in bytes = do
  reason ← change_refusal_in bytes
  Some (verdict.ChangeRefused reason.0, reason.1)

abbrev pub release_refused_in : List ℕ → Option (Verdict × List ℕ)
release_refused_in bytes = do
  code ← byte_in bytes
  reason ← release_refusal_of code.0
  Some (verdict.ReleaseRefused reason, code.1)

abbrev pub reloaded_in : List ℕ → Option (Verdict × List ℕ)
reloaded_in bytes = do
  version ← number_in bytes
  Some (verdict.Reloaded version.0, version.1)

unfoldable pub verdict_at : VerdictKind → List ℕ → Option (Verdict × List ℕ)
verdict_at kind.Registered bytes = registered_in bytes
verdict_at kind.RegisterRefused bytes = register_refused_in bytes
verdict_at kind.Unregistered bytes = Some (verdict.Unregistered, bytes)
verdict_at kind.UnregisterRefused bytes = unregister_refused_in bytes
verdict_at kind.Admitted bytes = admitted_in bytes
verdict_at kind.Answering bytes = answering_in bytes
verdict_at kind.Repeated bytes = repeated_in bytes
verdict_at kind.CallerNotRegistered bytes = Some (verdict.CallerNotRegistered, bytes)
verdict_at kind.CallOpen bytes = call_open_in bytes
verdict_at kind.NoRoute bytes = no_route_from bytes
verdict_at kind.OverLimit bytes = over_limit_in bytes
verdict_at kind.Changed bytes = Some (verdict.Changed, bytes)
verdict_at kind.ChangeRefused bytes = change_refused_in bytes
verdict_at kind.Released bytes = Some (verdict.Released, bytes)
verdict_at kind.ReleaseRefused bytes = release_refused_in bytes
verdict_at kind.Reloaded bytes = reloaded_in bytes

unfoldable pub verdict_in : List ℕ → Option (Verdict × List ℕ)
verdict_in bytes = do
  code ← byte_in bytes
  k ← verdict_kind_of code.0
  verdict_at k code.1

-- ---- as every verdict is
abbrev pub IsVerdict : Verdict → Type 0
IsVerdict (verdict.Registered zone) = IsName zone
IsVerdict (verdict.RegisterRefused reason) = ⊤
IsVerdict verdict.Unregistered = ⊤
IsVerdict (verdict.UnregisterRefused reason) = ⊤
IsVerdict (verdict.Admitted zone k name address) = IsName zone × IsName name × IsAddress address
IsVerdict (verdict.Answering zone k address) = IsName zone × IsAddress address
IsVerdict (verdict.Repeated zone units k name address) =
    IsName zone × (units < 2 ^ 32) × IsName name × IsAddress address
IsVerdict verdict.CallerNotRegistered = ⊤
IsVerdict (verdict.CallOpen zone) = IsName zone
IsVerdict (verdict.NoRoute zone refusal) = IsName zone
IsVerdict (verdict.OverLimit zone k name address over) =
    IsName zone × IsName name × IsAddress address × IsOver over
IsVerdict verdict.Changed = ⊤
IsVerdict (verdict.ChangeRefused reason) = IsChangeRefusal reason
IsVerdict verdict.Released = ⊤
IsVerdict (verdict.ReleaseRefused reason) = ⊤
IsVerdict (verdict.Reloaded version) = version < 2 ^ 32
