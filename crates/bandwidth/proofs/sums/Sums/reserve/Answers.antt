use Rattle.std.proofs.Common.{◌≡◌, ◌<◌, ℕ, Bool, true, false, refl, sym, subst, arith}
use Rattle.std.specs.Prelude.{nat_lt, Option, Some, None, IfSome, OnOk, Ok, Err, Result, if◌then◌else◌}
use Rattle.std.proofs.lemmas.Bool.Decides.{nat_tests}
use Rattle.bandwidth.specs.declared.zone_uses.ZoneUse.{ZoneUse}
use Rattle.bandwidth.specs.Named.{that_has_calls}
use Rattle.bandwidth.specs.Sums.{use_found}
use Rattle.bandwidth.proofs.sums.Sums.reserve.Goals as goal

abbrev is_touched : ZoneUse → Bool
is_touched used = nat_lt 0 used.calls

-- what stays if the zones that no call touches go
touched : (found : Option ZoneUse)
    → IfSome (that_has_calls is_touched found) (λ used. 0 < used.calls)
touched None = tt
touched (Some used) = by (is_touched used) refl
  where
    by : (t : Bool) → is_touched used ≡ t
        → IfSome (if t then Some used else None) (λ used2. 0 < used2.calls)
    by true more = grind (arith, nat_tests, more)
    by false none = tt

-- they go if there is no room for two
left : (room : ℕ) (found : Option ZoneUse) → room < 2
    → IfSome (if nat_lt room 2 then that_has_calls is_touched found else found)
    (λ used. 0 < used.calls)
left room found few =
    let go : nat_lt room 2 ≡ true = grind (arith, nat_tests, few) in
    subst (λ b. IfSome (if b then that_has_calls is_touched found else found)
    (λ used. 0 < used.calls)) (sym go) (touched found)

if_ok : {A B : Type 0} (result : Result A B) (P : Type 0) → P → OnOk result P
if_ok (Ok value) P p = p
if_ok (Err fault) P p = tt

pub returns-clause-zones_left : goal.returns-clause-zones_left
returns-clause-zones_left c =
    if_ok c.reserve-2.result _ (λ few zone.
    subst (λ found. IfSome found (λ used. 0 < used.calls))
    (sym (c.reserve-2.ensures.entries zone))
    (left _ (use_found c.args.self.now.zones.entries zone) few))
