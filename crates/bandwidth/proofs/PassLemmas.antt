-- A change of one call in the running sums: they stay those of the calls.
use Rattle.std.proofs.Common.{◌≡◌, ℕ, ◌+◌, ◌*◌, ◌^◌, ◌<◌, ◌≤◌, ◌&&◌, ◌||◌, Bool, true, false, cond, List, [], ◌∷◌, length, refl, sym, ap, subst, ◌∙◌, arith}
use Rattle.std.specs.Prelude.{nat_lt, Option, Some, None, filter, count_by, if◌then◌else◌}
use Rattle.std.specs.Option.{unwrap_or}
use Rattle.std.specs.List.{list_any, sum_by}
use Rattle.std.proofs.lemmas.List.Sums.{sum_by-cons, sum_by-le-sum_by, count_by-le-length}
use Rattle.std.proofs.lemmas.Bool.{cond-true, and_from, and_left, and_right}
use Rattle.std.proofs.lemmas.Bool.Decides.{nat_tests}
use Rattle.std.proofs.lemmas.Cmp.{nat_list_eq_equiv}
use Rattle.bandwidth.specs.declared.open_call.OpenCall.{OpenCall}
use Rattle.bandwidth.specs.declared.step.Step.{Step}
use Rattle.bandwidth.specs.declared.zone_uses.ZoneUse.{ZoneUse}
use Rattle.bandwidth.specs.Calls.{AreInOrder, has_owner, owns, call_of, is_open, with_call, without_call, with_changed}
use Rattle.bandwidth.specs.Use.{touches, is_interzone, units_of, total_of, interzone_of, remote_of}
use Rattle.bandwidth.specs.Sums.{Counts, Uses, count_owned, use_of, no_use, count_found, use_found, count_at, use_at, AreBare, AreSumsOf, once, units_if_open, count_after, sum_after, use_after, MayCount, MaySum, MayUse, MayPass, CountsPass, UsesPass, remote_after}
use Rattle.bandwidth.proofs.CallLemmas.{ascend, sum_with, sum_without, sum_changed, within_sum}
use Rattle.bandwidth.proofs.SumLemmas.{part, filtered, units_of_some, nothing_counted}

-- two sums of a zone are the same if each part is
same_use : (a b c d e f : ℕ) → a ≡ b → c ≡ d → e ≡ f
    → ◌≡◌ {A = ZoneUse} (record { calls = a; total = c; interzone = e })
    (record { calls = b; total = d; interzone = f })
same_use a b c d e f p q r =
    ap (λ n. zone_use n c e) p ∙ ap (λ n. zone_use b n e) q ∙ ap (zone_use b d) r
  where
    zone_use : ℕ → ℕ → ℕ → ZoneUse
    zone_use n total interzone = record { calls = n; total = total; interzone = interzone }

-- ---- what is counted
some_counted : (test : OpenCall → Bool) (calls : List OpenCall)
    → nat_lt 0 (count_by test calls) ≡ list_any test calls
some_counted test [] = refl
some_counted test (call ∷ calls) =
    ap (nat_lt 0) (sum_by-cons (λ c. cond (test c) 1 0) call calls)
    ∙ by (test call) (count_by test calls) (some_counted test calls)
  where
    by : (t : Bool) (count : ℕ) → nat_lt 0 count ≡ list_any test calls
        → nat_lt 0 (cond t 1 0 + count) ≡ (t || list_any test calls)
    by true count h = grind (arith, nat_tests)
    by false count h = let same : 0 + count ≡ count = omega arith in ap (nat_lt 0) same ∙ h

-- of a zone that no call touches both sums are 0
interzone_fewer : (calls : List OpenCall) (zone : List ℕ)
    → count_by (λ c. touches zone c && is_interzone c) calls ≤ count_by (touches zone) calls
interzone_fewer calls zone =
    sum_by-le-sum_by (λ c. cond (touches zone c && is_interzone c) 1 0)
    (λ c. cond (touches zone c) 1 0) calls (λ c. fewer (touches zone c) (is_interzone c))
  where
    fewer : (a b : Bool) → cond (a && b) 1 0 ≤ cond a 1 0
    fewer true true = omega arith
    fewer true false = omega arith
    fewer false b = omega arith

no_use_of : (calls : List OpenCall) (zone : List ℕ) → count_by (touches zone) calls ≡ 0
    → use_of calls zone ≡ no_use
no_use_of calls zone none =
    let few = interzone_fewer calls zone in
    let total = nothing_counted (touches zone) calls none in
    let interzone = nothing_counted (λ c. touches zone c && is_interzone c) calls
    (omega (arith, few, none)) in
    same_use (count_by (touches zone) calls) 0 (total_of calls zone) 0 (interzone_of calls zone) 0
    none total interzone

-- ---- what the views read
module _ (owners : Counts) (zones : Uses) (remote : ℕ) (calls : List OpenCall)
    (summed : AreSumsOf owners zones remote calls) where
  pub owner_at : (id : List ℕ) → nat_lt 0 (count_at owners id) ≡ owns calls id
  owner_at id = ap (nat_lt 0) (summed.owned id) ∙ some_counted (has_owner id) calls

  -- a zone that no call touches has no sums
  pub bare : AreBare zones
  bare zone none =
      summed.used zone ∙ no_use_of calls zone (sym (ap (λ u. u.calls) (summed.used zone)) ∙ none)

  -- the owner of an open call has an entry, and so has each zone that it touches
  module _ (number : ℕ) (held : OpenCall) (found : call_of calls number ≡ Some held) where
    pub owner_known : count_found owners held.owner ≡ None → ⊥
    owner_known none =
        let zero = sym (summed.owned held.owner) ∙ ap (λ found. unwrap_or found 0) none in
        let one = within_sum (λ c. cond (has_owner held.owner c) 1 0) number held calls found in
        let itself = cond-true {A = ℕ} (has_owner held.owner held) 1 0
        (nat_list_eq_equiv.refl held.owner) in
        omega (arith, zero, one, itself)

    pub zone_known : (zone : List ℕ) → touches zone held ≡ true → use_found zones zone ≡ None → ⊥
    zone_known zone touched none =
        let zero = ap (λ u. u.calls)
        (sym (summed.used zone) ∙ ap (λ found. unwrap_or found no_use) none) in
        let one = within_sum (λ c. cond (touches zone c) 1 0) number held calls found in
        let itself = cond-true {A = ℕ} (touches zone held) 1 0 touched in
        omega (arith, zero, one, itself)

  -- the same in maps that have the same of each name
  pub sums_same : (owners' : Counts) (zones' : Uses) (remote' : ℕ)
      → ((id : List ℕ) → count_at owners' id ≡ count_at owners id)
      → ((zone : List ℕ) → use_at zones' zone ≡ use_at zones zone)
      → remote' ≡ remote → AreSumsOf owners' zones' remote' calls
  sums_same owners' zones' remote' same_owners same_zones same_remote = record {
    owned = λ id. same_owners id ∙ summed.owned id;
    used = λ zone. same_zones zone ∙ summed.used zone;
    remotely = same_remote ∙ summed.remotely;
  }

-- ---- a change of one call
-- what a call counts with this bandwidth, if it is open
abbrev pub part_of : (OpenCall → ℕ) → OpenCall → Option ℕ → ℕ
part_of f call None = 0
part_of f call (Some units) = f (record call { units = units })

-- each sum over the calls goes from what the call counted to what it counts
pub record Passes (old new : List OpenCall) (call : OpenCall) (step : Step) : Type 0 where
  pub sums : (f : OpenCall → ℕ)
      → sum_by f new + part_of f call step.before ≡ sum_by f old + part_of f call step.after
  pub counted : (f : OpenCall → ℕ) → part_of f call step.before ≤ sum_by f old

pub opening : (calls : List OpenCall) (call : OpenCall) → is_open calls call.number ≡ false
    → Passes calls (with_call calls call) call (record { before = None; after = Some call.units })
opening calls call closed = record {
  sums = λ f. let more = sum_with f calls call closed in omega (arith, more);
  counted = λ f. omega arith;
}

pub closing : (calls : List OpenCall) (number : ℕ) (held : OpenCall) → AreInOrder calls
    → call_of calls number ≡ Some held
    → Passes calls (without_call calls number) held
    (record { before = Some held.units; after = None })
closing calls number held order found = record {
  sums = λ f. let less = sum_without f number held calls (ascend calls order) found in
      omega (arith, less);
  counted = λ f. within_sum f number held calls found;
}

pub changing : (calls : List OpenCall) (number units : ℕ) (held : OpenCall) → AreInOrder calls
    → call_of calls number ≡ Some held
    → Passes calls (with_changed calls number units) held
    (record { before = Some held.units; after = Some units })
changing calls number units held order found = record {
  sums = λ f. sum_changed f number held units calls (ascend calls order) found;
  counted = λ f. within_sum f number held calls found;
}

-- how much a call counts of which a test is known
once_if : (test : OpenCall → Bool) (call : OpenCall)
    → ((units : ℕ) → test (record call { units = units }) ≡ true)
    → (o : Option ℕ) → part_of (λ c. cond (test c) 1 0) call o ≡ once o
once_if test call passes None = refl
once_if test call passes (Some units) = ap (λ t. cond t 1 0) (passes units)

never_if : (test : OpenCall → Bool) (call : OpenCall)
    → ((units : ℕ) → test (record call { units = units }) ≡ false)
    → (o : Option ℕ) → part_of (λ c. cond (test c) 1 0) call o ≡ 0
never_if test call fails None = refl
never_if test call fails (Some units) = ap (λ t. cond t 1 0) (fails units)

units_if : (test : OpenCall → Bool) (call : OpenCall)
    → ((units : ℕ) → test (record call { units = units }) ≡ true)
    → (o : Option ℕ) → part_of (part test) call o ≡ units_if_open o
units_if test call passes None = refl
units_if test call passes (Some units) = ap (λ t. cond t units 0) (passes units)

none_if : (test : OpenCall → Bool) (call : OpenCall)
    → ((units : ℕ) → test (record call { units = units }) ≡ false)
    → (o : Option ℕ) → part_of (part test) call o ≡ 0
none_if test call fails None = refl
none_if test call fails (Some units) = ap (λ t. cond t units 0) (fails units)

module _ (old new : List OpenCall) (call : OpenCall) (step : Step)
    (passes : Passes old new call step) where
  module _ (test : OpenCall → Bool) where
    -- a count and a sum in which the call counts
    count_moves : ((units : ℕ) → test (record call { units = units }) ≡ true)
        → count_by test new ≡ count_after step (count_by test old)
    count_moves here =
        let sums = passes.sums (λ c. cond (test c) 1 0) in
        let counted = passes.counted (λ c. cond (test c) 1 0) in
        let before = once_if test call here step.before in
        let after = once_if test call here step.after in
        omega (arith, sums, counted, before, after)

    count_enough : ((units : ℕ) → test (record call { units = units }) ≡ true)
        → once step.before ≤ count_by test old
    count_enough here =
        let counted = passes.counted (λ c. cond (test c) 1 0) in
        let before = once_if test call here step.before in omega (arith, counted, before)

    sum_moves : ((units : ℕ) → test (record call { units = units }) ≡ true)
        → units_of (filter test new) ≡ sum_after step (units_of (filter test old))
    sum_moves here =
        let sums = passes.sums (part test) in
        let counted = passes.counted (part test) in
        let before = units_if test call here step.before in
        let after = units_if test call here step.after in
        let all = filtered test old in
        let left = filtered test new in omega (arith, sums, counted, before, after, all, left)

    sum_enough : ((units : ℕ) → test (record call { units = units }) ≡ true)
        → units_if_open step.before ≤ units_of (filter test old)
    sum_enough here =
        let counted = passes.counted (part test) in
        let before = units_if test call here step.before in
        let all = filtered test old in omega (arith, counted, before, all)

    -- and one in which it does not
    count_stays : ((units : ℕ) → test (record call { units = units }) ≡ false)
        → count_by test new ≡ count_by test old
    count_stays aside =
        let sums = passes.sums (λ c. cond (test c) 1 0) in
        let before = never_if test call aside step.before in
        let after = never_if test call aside step.after in omega (arith, sums, before, after)

    sum_stays : ((units : ℕ) → test (record call { units = units }) ≡ false)
        → units_of (filter test new) ≡ units_of (filter test old)
    sum_stays aside =
        let sums = passes.sums (part test) in
        let before = none_if test call aside step.before in
        let after = none_if test call aside step.after in
        let all = filtered test old in
        let left = filtered test new in omega (arith, sums, before, after, all, left)

  -- the sums of a zone
  use_moves : (zone : List ℕ)
      → use_of new zone
      ≡ (if touches zone call then use_after (is_interzone call) step (use_of old zone)
      else use_of old zone)
  use_moves zone = by (touches zone call) refl (is_interzone call) refl
    where
      by : (t : Bool) → touches zone call ≡ t → (i : Bool) → is_interzone call ≡ i
          → use_of new zone ≡ cond t (record {
            calls = count_after step (count_by (touches zone) old);
            total = sum_after step (total_of old zone);
            interzone = cond i (sum_after step (interzone_of old zone)) (interzone_of old zone);
          }) (use_of old zone)
      by true t true i =
          same_use _ _ _ _ _ _ (count_moves (touches zone) (λ u. t))
          (sum_moves (touches zone) (λ u. t))
          (sum_moves (λ c. touches zone c && is_interzone c)
          (λ u. and_from (touches zone call) (is_interzone call) t i))
      by true t false i =
          same_use _ _ _ _ _ _ (count_moves (touches zone) (λ u. t))
          (sum_moves (touches zone) (λ u. t))
          (sum_stays (λ c. touches zone c && is_interzone c)
          (λ u. and_right (touches zone call) (is_interzone call) i))
      by false t b i =
          same_use _ _ _ _ _ _ (count_stays (touches zone) (λ u. t))
          (sum_stays (touches zone) (λ u. t))
          (sum_stays (λ c. touches zone c && is_interzone c)
          (λ u. and_left (touches zone call) (is_interzone call) t))

  count_moves_for : (id : List ℕ)
      → count_owned new id
      ≡ (if has_owner id call then count_after step (count_owned old id) else count_owned old id)
  count_moves_for id = by (has_owner id call) refl
    where
      by : (t : Bool) → has_owner id call ≡ t
          → count_owned new id ≡ cond t (count_after step (count_owned old id)) (count_owned old id)
      by true t = count_moves (has_owner id) (λ u. t)
      by false t = count_stays (has_owner id) (λ u. t)

  remote_moves : remote_of new ≡ remote_after call step (remote_of old)
  remote_moves = by call.remote refl
    where
      by : (t : Bool) → call.remote ≡ t
          → remote_of new ≡ cond t (sum_after step (remote_of old)) (remote_of old)
      by true t = sum_moves (λ c. c.remote) (λ u. t)
      by false t = sum_stays (λ c. c.remote) (λ u. t)

  -- ---- the running sums
  module _ (owners : Counts) (zones : Uses) (remote : ℕ)
      (summed : AreSumsOf owners zones remote old) where
    pub sums_pass : (owners' : Counts) (zones' : Uses) (remote' : ℕ)
        → CountsPass call step owners owners' → UsesPass call step zones zones'
        → remote' ≡ remote_after call step remote → AreSumsOf owners' zones' remote' new
    sums_pass owners' zones' remote' counts uses remotely = record {
      owned = λ id. counts id
          ∙ ap (λ n. cond (has_owner id call) (count_after step n) n) (summed.owned id)
          ∙ sym (count_moves_for id);
      used = λ zone. uses zone
          ∙ ap (λ u. cond (touches zone call) (use_after (is_interzone call) step u) u)
          (summed.used zone)
          ∙ sym (use_moves zone);
      remotely = remotely ∙ ap (remote_after call step) summed.remotely ∙ sym remote_moves;
    }

    -- 32 bits each, so no sum wraps
    pub may_pass : AreInOrder old → units_of old ≤ length old * 4294967295
        → length old ≤ 4294967295 → units_if_open step.after < 2 ^ 32
        → MayPass owners zones remote call step
    may_pass order small few fits = record {
      owner = may_count (has_owner call.owner) (λ u. nat_list_eq_equiv.refl call.owner)
          (count_at owners call.owner) (summed.owned call.owner);
      zone = λ zone t.
          subst (MayUse (is_interzone call) step)
          (sym (summed.used zone))
          (record {
            calls = may_count (touches zone) (λ u. t) (count_by (touches zone) old) refl;
            total = may_sum (touches zone) (λ u. t) (total_of old zone) refl;
            interzone = λ i. may_sum (λ c. touches zone c && is_interzone c)
                (λ u. and_from (touches zone call) (is_interzone call) t i)
                (interzone_of old zone) refl;
          });
      remotely = λ t. may_sum (λ c. c.remote) (λ u. t) remote summed.remotely;
    }
      where
        may_count : (test : OpenCall → Bool)
            → ((units : ℕ) → test (record call { units = units }) ≡ true)
            → (count : ℕ) → count ≡ count_by test old → MayCount step count
        may_count test here count is =
            let enough = count_enough test here in
            let within = count_by-le-length test old in
            record {
              enough = omega (arith, enough, is);
              room = omega (arith, within, few, is);
            }

        may_sum : (test : OpenCall → Bool)
            → ((units : ℕ) → test (record call { units = units }) ≡ true)
            → (sum : ℕ) → sum ≡ units_of (filter test old) → MaySum step sum
        may_sum test here sum is =
            let enough = sum_enough test here in
            let within = units_of_some test old in
            record {
              enough = omega (arith, enough, is);
              room = omega (arith, within, small, few, fits, is);
            }
