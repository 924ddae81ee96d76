use Rattle.std.proofs.Common.{◌≤◌, length, ap, sym, subst, arith}
use Rattle.bandwidth.specs.Sums.{AreSumsOf}
use Rattle.bandwidth.proofs.PassLemmas.{changing, may_pass, sums_pass, owner_known, zone_known}
use Rattle.bandwidth.proofs.OpenLemmas.{held_found, length_changed}
use Rattle.bandwidth.proofs.open_calls.OpenCalls.change.Goals as goal

pub pass-requires-clause-sums : goal.pass-requires-clause-sums
pass-requires-clause-sums c =
    let held = c.in-Ok.held.now in
    let within = c.self.invariant.within in
    let few : length c.self.inside.calls ≤ 4294967295 = omega (arith, within) in
    let units = c.value-units.type_inv in
    let its = c.value-units.ensures in
    let found = held_found _ _ c.in-Ok.held.now c.in-Ok.ensures in
    may_pass c.self.inside.calls _ held _
    (changing c.self.inside.calls c.args.number c.args.units held c.len-count.ensures.ordered
    found) _ _ _ c.self.invariant.summed
    c.len-count.ensures.ordered c.len-count.ensures.small few (omega (arith, units, its))

pub pass-requires-clause-owners_room : goal.pass-requires-clause-owners_room
pass-requires-clause-owners_room c none =
    let found = held_found _ _ c.in-Ok.held.now c.in-Ok.ensures in
    absurd (owner_known _ _ _ _ c.self.invariant.summed c.args.number c.in-Ok.held.now
    found none)

pub pass-requires-clause-zones_room : goal.pass-requires-clause-zones_room
pass-requires-clause-zones_room c zone touched none =
    let found = held_found _ _ c.in-Ok.held.now c.in-Ok.ensures in
    absurd (zone_known _ _ _ _ c.self.invariant.summed c.args.number c.in-Ok.held.now
    found zone touched none)

pub invariant_of-self : goal.invariant_of-self
invariant_of-self c =
    let held = c.in-Ok.held.now in
    let number = c.args.number in
    let found = held_found _ _ c.in-Ok.held.now c.in-Ok.ensures in
    let changed = ap length c.change.ensures in
    let size = length_changed c.self.inside.calls number c.args.units in
    let within = c.self.invariant.within in
    record {
      summed = subst (AreSumsOf _ _ _) (sym c.change.ensures)
          (sums_pass c.self.inside.calls _ held _
          (changing c.self.inside.calls number c.args.units held c.len-count.ensures.ordered
          found) _ _ _ c.self.invariant.summed _ _ _
          c.pass.ensures.owners c.pass.ensures.zones c.pass.ensures.remote);
      within = omega (arith, changed, size, within);
    }
