use Rattle.std.proofs.Common.{◌≡◌, ◌≤◌, Some, length, ap, sym, subst, ◌∙◌, arith}
use Rattle.bandwidth.specs.Calls.{call_of}
use Rattle.bandwidth.specs.OpenCalls.{AreKept}
use Rattle.bandwidth.specs.Sums.{AreSumsOf}
use Rattle.bandwidth.proofs.CallLemmas.{closed_if_none, without_none}
use Rattle.bandwidth.proofs.PassLemmas.{closing, may_pass, sums_pass, owner_known, zone_known}
use Rattle.bandwidth.proofs.OpenLemmas.{length_without}
use Rattle.bandwidth.proofs.open_calls.OpenCalls.take_out.Goals as goal
use Rattle.bandwidth.proofs.open_calls.OpenCalls.take_out.Goals.{After-call-closed}

-- the call that was taken out is the one that the list had
found : (c : After-call-closed)
    → call_of c.self.inside.calls c.args.number ≡ Some c.call-closed.result.now
found c = sym c.in-Some.ensures.taken ∙ ap Some (sym c.call-closed.ensures)

pub invariant_of-self : goal.invariant_of-self
invariant_of-self c =
    let calls = c.self.inside.calls in
    let number = c.args.number in
    let sums = c.self.inside.sums in
    let same = c.in_default.ensures.left
    ∙ without_none calls number (closed_if_none calls number (sym c.in_default.ensures.taken)) in
    subst (λ calls. AreKept calls c.self.inside.most sums.owners.entries sums.zones.entries
    sums.remote) (sym same) c.self.invariant

pub pass-requires-clause-sums : goal.pass-requires-clause-sums
pass-requires-clause-sums c =
    let held = c.call-closed.result.now in
    let within = c.self.invariant.within in
    let few : length c.self.inside.calls ≤ 4294967295 = omega (arith, within) in
    may_pass c.self.inside.calls _ held _
    (closing c.self.inside.calls c.args.number held c.len-count.ensures.ordered
    (found ((goal.at.pass-requires-clause-sums c).After-call-closed)))
    _ _ _ c.self.invariant.summed
    c.len-count.ensures.ordered c.len-count.ensures.small few (omega arith)

pub pass-requires-clause-owners_room : goal.pass-requires-clause-owners_room
pass-requires-clause-owners_room c none =
    absurd (owner_known _ _ _ _ c.self.invariant.summed c.args.number c.call-closed.result.now
    (found ((goal.at.pass-requires-clause-owners_room c).After-call-closed)) none)

pub pass-requires-clause-zones_room : goal.pass-requires-clause-zones_room
pass-requires-clause-zones_room c zone touched none =
    absurd (zone_known _ _ _ _ c.self.invariant.summed c.args.number c.call-closed.result.now
    (found ((goal.at.pass-requires-clause-zones_room c).After-call-closed)) zone touched none)

pub invariant_of-self-2 : goal.invariant_of-self-2
invariant_of-self-2 c =
    let held = c.call-closed.result.now in
    let number = c.args.number in
    let left = ap length c.in-Some.ensures.left in
    let size = length_without c.self.inside.calls number in
    let within = c.self.invariant.within in
    record {
      summed = subst (AreSumsOf _ _ _) (sym c.in-Some.ensures.left)
          (sums_pass c.self.inside.calls _ held _
          (closing c.self.inside.calls number held c.len-count.ensures.ordered
          (found ((goal.at.invariant_of-self-2 c).After-call-closed)))
          _ _ _ c.self.invariant.summed _ _ _
          c.pass.ensures.owners c.pass.ensures.zones c.pass.ensures.remote);
      within = omega (arith, left, size, within);
    }
