-- Whether each gateway has the same priority for two rows, by the gateways that are named for them.
use Rattle.std.proofs.Common.{◌≡◌, ℕ, ◌==◌, ◌&&◌, Bool, true, false, cond, List, [], ◌∷◌, refl, sym, ap, subst, ◌∙◌, true≢false, arith, tests}
use Rattle.std.specs.Prelude.{IfSome, IsSome, Option, Some, None, is_some, unwrap_or, bytes_eq}
use Rattle.std.specs.List.{list_all}
use Rattle.std.specs.Map.{lookup, keys_of}
use Rattle.std.specs.Cmp.Lexicographic.{same_text}
use Rattle.std.proofs.lemmas.Bool.{eqb-true}
use Rattle.gk_commands.specs.declared.commands.Command.{Command}
use Rattle.compiler.specs.declared.plans.TheConstants.{DEFAULT_GATEWAY_PRIORITY}
use Rattle.compiler.specs.Plan.{row_meant, Target, RemoteZone, LocalZone, CallersZone, UnknownPrefix}
use Rattle.compiler.specs.Priority.{priority_of, AreNamedFor}
use Rattle.compiler.specs.Rows.{ZoneRow}
use Rattle.plan_difference.specs.declared.destinations.Destination.{Destination}
use Rattle.plan_difference.specs.Difference.{Same, SamePriorities, Tells}
use Rattle.plan_difference.specs.Destination.{destination_of, row_of_target}
use Rattle.plan_difference.specs.Sameness.{row_in, has_same_priority}
use Rattle.compiler.proofs.TableLemmas.{priority_by_named}

module _ (old : List Command) (row : Option ZoneRow) (new : List Command) (other : Option ZoneRow)
  where
    abbrev agrees : List ℕ → Bool
    agrees gateway = has_same_priority old row new other gateway

    -- a gateway that is named has the same priority
    named_agree : (named : List (List ℕ × ℕ)) → list_all agrees (keys_of named) ≡ true
        → (gateway : List ℕ) (priority : ℕ) → lookup (bytes_eq gateway) named ≡ Some priority
        → priority_of old row gateway ≡ priority_of new other gateway
    named_agree [] h gateway priority e = absurd (let bad : ⊥ = cc in bad)
    named_agree (entry ∷ named) h gateway priority e =
        by (λ g f. named_agree named g gateway priority f)
        (agrees entry.0) refl h (bytes_eq gateway entry.0) refl e
      where
        by : ((list_all agrees (keys_of named) ≡ true)
            → lookup (bytes_eq gateway) named ≡ Some priority
            → priority_of old row gateway ≡ priority_of new other gateway)
            → (a : Bool) → agrees entry.0 ≡ a → (a && list_all agrees (keys_of named)) ≡ true
            → (t : Bool) → bytes_eq gateway entry.0 ≡ t
            → cond t (Some entry.1) (lookup (bytes_eq gateway) named) ≡ Some priority
            → priority_of old row gateway ≡ priority_of new other gateway
        by rest true f g true i j =
            subst (λ x. priority_of old row x ≡ priority_of new other x)
            (sym (same_text gateway entry.0 (sym i)))
            (eqb-true (priority_of old row entry.0) (priority_of new other entry.0) f)
        by rest true f g false i j = rest g j
        by rest false f g t i j = absurd (true≢false (sym g))

    -- one that has another priority, if not all agree
    named_differ : (gateways : List (List ℕ)) → list_all agrees gateways ≡ false
        → ¬ SamePriorities old row new other
    named_differ [] h same = true≢false h
    named_differ (gateway ∷ gateways) h same =
        by (agrees gateway) refl h (λ g. named_differ gateways g same)
      where
        by : (a : Bool) → agrees gateway ≡ a → (a && list_all agrees gateways) ≡ false
            → (list_all agrees gateways ≡ false → ⊥) → ⊥
        by true f g rest = rest g
        by false f g rest =
            true≢false (sym (equal (priority_of old row gateway) (priority_of new other gateway)
            (same gateway)) ∙ f)
          where
            equal : (m n : ℕ) → m ≡ n → (m == n) ≡ true
            equal m n e = search (arith, tests)

    module _ (named others : List (List ℕ × ℕ)) (h : AreNamedFor old row named)
        (g : AreNamedFor new other others) where
      -- all named gateways agree, so all do
      all_agree : list_all agrees (keys_of named) ≡ true → list_all agrees (keys_of others) ≡ true
          → SamePriorities old row new other
      all_agree a b gateway = by (lookup (bytes_eq gateway) named) refl
          (lookup (bytes_eq gateway) others) refl
        where
          by : (p : Option ℕ) → lookup (bytes_eq gateway) named ≡ p
              → (q : Option ℕ) → lookup (bytes_eq gateway) others ≡ q
              → priority_of old row gateway ≡ priority_of new other gateway
          by (Some p) e q f = named_agree named a gateway p e
          by None e (Some q) f = named_agree others b gateway q f
          by None e None f =
              sym (priority_by_named old row named h gateway)
              ∙ ap (λ o. unwrap_or o DEFAULT_GATEWAY_PRIORITY) (e ∙ sym f)
              ∙ priority_by_named new other others g gateway

      pub tells_same : (a b : Bool) → a ≡ true → a ≡ list_all agrees (keys_of named)
          → b ≡ list_all agrees (keys_of others) → Tells b (SamePriorities old row new other)
      tells_same a true t e f = all_agree (sym e ∙ t) (sym f)
      tells_same a false t e f = named_differ (keys_of others) (sym f)

    pub tells_other : (named : List (List ℕ × ℕ)) → false ≡ list_all agrees (keys_of named)
        → ¬ SamePriorities old row new other
    tells_other named e = named_differ (keys_of named) (sym e)

-- ---- targets
module _ (old : List Command) (new : List Command) where
  -- the same target has the same destination
  same_destination : (target other : Target) → Same old target new other
      → destination_of target ≡ destination_of other
  same_destination (RemoteZone zone address) (RemoteZone zone' address') h =
      λ i. destination_of (RemoteZone (h.0 i) (h.1 i))
  same_destination (RemoteZone zone address) (LocalZone zone' technology row) h = absurd h
  same_destination (RemoteZone zone address) (CallersZone technology) h = absurd h
  same_destination (RemoteZone zone address) UnknownPrefix h = absurd h
  same_destination (LocalZone zone technology row) (RemoteZone zone' address) h = absurd h
  same_destination (LocalZone zone technology row) (LocalZone zone' technology' row') h =
      λ i. destination_of (LocalZone (h.0 i) (h.1 i) row)
  same_destination (LocalZone zone technology row) (CallersZone technology') h = absurd h
  same_destination (LocalZone zone technology row) UnknownPrefix h = absurd h
  same_destination (CallersZone technology) (RemoteZone zone address) h = absurd h
  same_destination (CallersZone technology) (LocalZone zone technology' row) h = absurd h
  same_destination (CallersZone technology) (CallersZone technology') h =
      λ i. destination_of (CallersZone (h i))
  same_destination (CallersZone technology) UnknownPrefix h = absurd h
  same_destination UnknownPrefix (RemoteZone zone address) h = absurd h
  same_destination UnknownPrefix (LocalZone zone technology row) h = absurd h
  same_destination UnknownPrefix (CallersZone technology) h = absurd h
  same_destination UnknownPrefix UnknownPrefix h = refl

  -- and, in a local zone, the same priorities; elsewhere no row is used
  same_priorities : (target other : Target) → Same old target new other
      → SamePriorities old (row_of_target target) new (row_of_target other)
  same_priorities (RemoteZone zone address) (RemoteZone zone' address') h = λ gateway. refl
  same_priorities (RemoteZone zone address) (LocalZone zone' technology row) h = absurd h
  same_priorities (RemoteZone zone address) (CallersZone technology) h = absurd h
  same_priorities (RemoteZone zone address) UnknownPrefix h = absurd h
  same_priorities (LocalZone zone technology row) (RemoteZone zone' address) h = absurd h
  same_priorities (LocalZone zone technology row) (LocalZone zone' technology' row') h = h.2
  same_priorities (LocalZone zone technology row) (CallersZone technology') h = absurd h
  same_priorities (LocalZone zone technology row) UnknownPrefix h = absurd h
  same_priorities (CallersZone technology) (RemoteZone zone address) h = absurd h
  same_priorities (CallersZone technology) (LocalZone zone technology' row) h = absurd h
  same_priorities (CallersZone technology) (CallersZone technology') h = λ gateway. refl
  same_priorities (CallersZone technology) UnknownPrefix h = absurd h
  same_priorities UnknownPrefix (RemoteZone zone address) h = absurd h
  same_priorities UnknownPrefix (LocalZone zone technology row) h = absurd h
  same_priorities UnknownPrefix (CallersZone technology) h = absurd h
  same_priorities UnknownPrefix UnknownPrefix h = λ gateway. refl

  -- the same destination and the same priorities are the same target
  same_target : (target other : Target) → destination_of target ≡ destination_of other
      → SamePriorities old (row_of_target target) new (row_of_target other)
      → Same old target new other
  same_target (RemoteZone zone address) (RemoteZone zone' address') e h =
      (ap (λ d. unwrap_or d.zone zone) e, ap (λ d. unwrap_or d.address address) e)
  same_target (RemoteZone zone address) (LocalZone zone' technology row) e h =
      true≢false (ap (λ d. is_some d.address) e)
  same_target (RemoteZone zone address) (CallersZone technology) e h =
      true≢false (ap (λ d. is_some d.address) e)
  same_target (RemoteZone zone address) UnknownPrefix e h =
      true≢false (ap (λ d. is_some d.address) e)
  same_target (LocalZone zone technology row) (RemoteZone zone' address) e h =
      true≢false (sym (ap (λ d. is_some d.address) e))
  same_target (LocalZone zone technology row) (LocalZone zone' technology' row') e h =
      (ap (λ d. unwrap_or d.zone zone) e, ap (λ d. d.technology) e, h)
  same_target (LocalZone zone technology row) (CallersZone technology') e h =
      true≢false (ap (λ d. is_some d.zone) e)
  same_target (LocalZone zone technology row) UnknownPrefix e h =
      true≢false (ap (λ d. is_some d.zone) e)
  same_target (CallersZone technology) (RemoteZone zone address) e h =
      true≢false (sym (ap (λ d. is_some d.address) e))
  same_target (CallersZone technology) (LocalZone zone technology' row) e h =
      true≢false (sym (ap (λ d. is_some d.zone) e))
  same_target (CallersZone technology) (CallersZone technology') e h =
      ap (λ d. d.technology) e
  same_target (CallersZone technology) UnknownPrefix e h =
      true≢false (sym (ap (λ d. d.refused) e))
  same_target UnknownPrefix (RemoteZone zone address) e h =
      true≢false (sym (ap (λ d. is_some d.address) e))
  same_target UnknownPrefix (LocalZone zone technology row) e h =
      true≢false (sym (ap (λ d. is_some d.zone) e))
  same_target UnknownPrefix (CallersZone technology) e h =
      true≢false (ap (λ d. d.refused) e)
  same_target UnknownPrefix UnknownPrefix e h = tt

  module _ (target other : Target) where
    pub other_destination : ¬ (destination_of target ≡ destination_of other)
        → ¬ Same old target new other
    other_destination h same = h (same_destination target other same)

    pub by_priorities : (told : Bool) → destination_of target ≡ destination_of other
        → Tells told (SamePriorities old (row_of_target target) new (row_of_target other))
        → Tells told (Same old target new other)
    by_priorities true e h = same_target target other e h
    by_priorities false e h = λ same. h (same_priorities target other same)

  -- ---- the same, of targets that may be there
  pub differs : (target other : Option Target) (told told_other : Destination)
      → IfSome target (λ t. told ≡ destination_of t)
      → IfSome other (λ t. told_other ≡ destination_of t)
      → ¬ (told ≡ told_other)
      → IfSome target (λ t. IfSome other (λ u. ¬ Same old t new u))
  differs None other told told_other a b h = tt
  differs (Some t) None told told_other a b h = tt
  differs (Some t) (Some u) told told_other a b h =
      other_destination t u (λ e. h (a ∙ e ∙ sym b))

  pub agrees_by : (target other : Option Target) (told told_other : Destination)
      → IfSome target (λ t. told ≡ destination_of t)
      → IfSome other (λ t. told_other ≡ destination_of t)
      → told ≡ told_other
      → (row other_row : Option ℕ)
      → IfSome target (λ t. row_meant old row ≡ Some (row_of_target t))
      → IfSome other (λ t. row_meant new other_row ≡ Some (row_of_target t))
      → (answer : Bool)
      → Tells answer (SamePriorities old (row_in old row) new (row_in new other_row))
      → IfSome target (λ t. IfSome other (λ u. Tells answer (Same old t new u)))
  agrees_by None other told told_other a b e row other_row r q answer h = tt
  agrees_by (Some t) None told told_other a b e row other_row r q answer h = tt
  agrees_by (Some t) (Some u) told told_other a b e row other_row r q answer h =
      by_priorities t u answer (sym a ∙ e ∙ b)
      (subst (λ x. Tells answer (SamePriorities old x new (row_of_target u)))
      (ap (λ o. unwrap_or o None) r)
      (subst (λ x. Tells answer (SamePriorities old (row_in old row) new x))
      (ap (λ o. unwrap_or o None) q) h))

-- what holds of the row of a number that is there
pub of_row : (commands : List Command) (number : Option ℕ) (P : Option ZoneRow → Type 0)
    → IsSome (row_meant commands number) → IfSome (row_meant commands number) P
    → P (row_in commands number)
of_row commands number P = by (row_meant commands number)
  where
    by : (o : Option (Option ZoneRow)) → IsSome o → IfSome o P → P (unwrap_or o None)
    by None h g = absurd (let bad : ⊥ = cc in bad)
    by (Some row) h g = g

-- destinations of the same parts are the same
pub same_parts : (destination other : Destination) → destination.zone ≡ other.zone
    → destination.address ≡ other.address → destination.technology ≡ other.technology
    → destination.refused ≡ other.refused → destination ≡ other
same_parts destination other z a t r =
    λ i. record { zone = z i; address = a i; technology = t i; refused = r i }
