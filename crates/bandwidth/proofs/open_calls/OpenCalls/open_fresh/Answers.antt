use Rattle.std.proofs.Common.{◌≡◌, ◌≤◌, false, length, ap, sym, subst, ◌∙◌, arith}
use Rattle.bandwidth.specs.Calls.{is_open}
use Rattle.bandwidth.specs.Sums.{AreSumsOf}
use Rattle.bandwidth.proofs.PassLemmas.{bare, opening, may_pass, sums_pass, sums_same}
use Rattle.bandwidth.proofs.OpenLemmas.{length_with}
use Rattle.bandwidth.proofs.open_calls.OpenCalls.open_fresh.Goals as goal
use Rattle.bandwidth.proofs.open_calls.OpenCalls.open_fresh.Goals.{After-insert}

-- the call's number is no open call's
fresh : (c : After-insert) → is_open c.self.inside.calls c.args.call.now.number ≡ false
fresh c = ap (λ o. is_open o.calls c.args.call.now.number) c.self.view_is ∙ c.requires.fresh

-- the sums, after the room was made
summed : (c : After-insert)
    → AreSumsOf c.reserve.new.self.owners.entries c.reserve.new.self.zones.entries
    c.reserve.new.self.remote c.self.inside.calls
summed c =
    sums_same _ _ _ _ c.self.invariant.summed _ _ _ c.reserve.ensures.owners
    c.reserve.ensures.zones c.reserve.ensures.remote

-- a zone that no call touches has no sums
pub reserve-requires : goal.reserve-requires
reserve-requires c = bare _ _ _ _ c.self.invariant.summed

pub pass-requires-clause-sums : goal.pass-requires-clause-sums
pass-requires-clause-sums c =
    let i = (goal.at.pass-requires-clause-sums c).After-insert in
    let within = c.self.invariant.within in
    let few : length c.self.inside.calls ≤ 4294967295 = omega (arith, within) in
    let units = c.value-units.type_inv in
    let its = c.value-units.ensures in
    may_pass c.self.inside.calls _ c.args.call.now _
    (opening c.self.inside.calls c.args.call.now (fresh i)) _ _ _ (summed i)
    c.len-count.ensures.ordered c.len-count.ensures.small few (omega (arith, units, its))

pub invariant_of-self-2 : goal.invariant_of-self-2
invariant_of-self-2 c =
    let i = (goal.at.invariant_of-self-2 c).After-insert in
    let opened = c.in_ok-insert.ensures.ok in
    let more = length_with c.self.inside.calls c.args.call.now (fresh i) in
    let all = ap length opened in
    let room = c.requires.room in
    let old = ap (λ o. length o.calls) c.self.view_is in
    let most = ap (λ o. o.most) c.self.view_is in
    record {
      summed = subst (AreSumsOf _ _ _) (sym opened)
          (sums_pass c.self.inside.calls _ c.args.call.now _
          (opening c.self.inside.calls c.args.call.now (fresh i)) _ _ _ (summed i) _ _ _
          c.pass.ensures.owners c.pass.ensures.zones c.pass.ensures.remote);
      within = omega (arith, more, all, room, old, most);
    }
