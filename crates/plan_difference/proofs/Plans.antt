-- The plan of digits depends on their set alone.
use Rattle.std.proofs.Common.{◌≡◌, ℕ, ◌&&◌, not, Bool, true, false, cond, List, length, drop, refl, sym, ap, subst, ◌∙◌, true≢false}
use Rattle.std.specs.Prelude.{Option, Some, None, option_map, option_and_then, unwrap_or, is_some}
use Rattle.std.specs.Cmp.Lexicographic.{same_text}
use Rattle.gk_terms.specs.Address.{AddressParts}
use Rattle.digit_patterns.specs.PatternParts.{PatternParts}
use Rattle.digit_patterns.specs.Table.{best_of}
use Rattle.gk_commands.specs.declared.commands.Command.{Command}
use Rattle.gk_commands.specs.declared.zones.ZoneKind.{ZoneKind}
use Rattle.gk_commands.specs.declared.zones.ZoneKind.TheVariants as kinds
use Rattle.gk_commands.specs.Zones.{zone_of}
use Rattle.compiler.specs.Pick.{picked}
use Rattle.compiler.specs.Plan.{Target, RemoteZone, LocalZone, CallersZone, UnknownPrefix, plan_of, target_in, by_row, by_technology, by_hopoff, rejects_unknown}
use Rattle.compiler.specs.Rows.{ZoneRow, rows_of, row_for, row_of_pattern, zones_for}
use Rattle.compiler.specs.Technology.{technology_of, hopoffs_of, found_length}
use Rattle.plan_difference.specs.declared.number_sets.NumberSet.{NumberSet}
use Rattle.plan_difference.specs.Sets.{hopoff_of, hops_off, row_after, row_used, pattern_used, same_technology, is_joint, set_by, set_of, plan_by, by_zone_or_row}
use Rattle.plan_difference.specs.Difference.{Same, SamePlan}

-- ---- the plan is that of the technology prefix and the row
module _ (commands : List Command) (digits : List ℕ) where
  by_parts : (technology : Option (List ℕ))
      → by_technology commands digits technology
      ≡ plan_by commands technology (row_after commands technology digits)
  by_parts None = refl
  by_parts (Some prefix) = by (picked commands (hopoffs_of commands prefix))
    where
      by : (zone : Option (List ℕ))
          → by_hopoff commands prefix (drop (length prefix) digits) zone
          ≡ by_zone_or_row commands (Some prefix)
          (cond (is_some zone) None (row_for commands (drop (length prefix) digits))) zone
      by None = refl
      by (Some zone) = refl

  pub plan_is : plan_of commands digits
      ≡ plan_by commands (technology_of commands digits) (row_used commands digits)
  unfolding plan_of
  plan_is = by_parts (technology_of commands digits)

-- ---- a row is known by its pattern
-- the row is the one of its pattern
abbrev pub IsOwnRow : List Command → Option ZoneRow → Type 0
IsOwnRow commands row =
    (own : ZoneRow) → row ≡ Some own → row_of_pattern commands own.0 ≡ Some own

module _ (commands : List Command) where
  row_is_own : (digits : List ℕ) → IsOwnRow commands (row_for commands digits)
  row_is_own digits = by (best_of (rows_of commands) digits)
    where
      by_zone : (pattern : PatternParts) (zone : Option (List ℕ))
          → picked commands (zones_for commands pattern) ≡ zone
          → IsOwnRow commands (option_map {U = ZoneRow} (λ z. (pattern, z)) zone)
      by_zone pattern None e own f = absurd (let bad : ⊥ = cc in bad)
      by_zone pattern (Some zone) e own f =
          let p : pattern ≡ own.0 = ap (λ o. (unwrap_or o own).0) f in
          ap (row_of_pattern commands) (sym p)
          ∙ ap (option_map {U = ZoneRow} (λ z. (pattern, z))) e ∙ f

      by : (best : Option ZoneRow)
          → IsOwnRow commands (option_and_then (λ found. row_of_pattern commands found.0) best)
      by None own f = absurd (let bad : ⊥ = cc in bad)
      by (Some best) own f =
          by_zone best.0 (picked commands (zones_for commands best.0)) refl own f

  pub used_is_own : (digits : List ℕ) → IsOwnRow commands (row_used commands digits)
  used_is_own digits = by (hops_off commands (technology_of commands digits))
    where
      rest : List ℕ
      rest = drop (found_length (technology_of commands digits)) digits

      by : (hops : Bool) → IsOwnRow commands (cond hops None (row_for commands rest))
      by true own f = absurd (let bad : ⊥ = cc in bad)
      by false own f = row_is_own rest own f

  same_row : (row other : Option ZoneRow) → IsOwnRow commands row → IsOwnRow commands other
      → option_map (λ r. r.0) row ≡ option_map (λ r. r.0) other → row ≡ other
  same_row None None h g e = refl
  same_row None (Some other) h g e = absurd (let bad : ⊥ = cc in bad)
  same_row (Some row) None h g e = absurd (let bad : ⊥ = cc in bad)
  same_row (Some row) (Some other) h g e =
      let p : row.0 ≡ other.0 = ap (λ o. unwrap_or o row.0) e in
      sym (h row refl) ∙ ap (row_of_pattern commands) p ∙ g other refl

  -- digits that use the same zone prefix use the same row
  pub same_row_used : (digits other : List ℕ)
      → pattern_used commands digits ≡ pattern_used commands other
      → row_used commands digits ≡ row_used commands other
  same_row_used digits other e =
      same_row (row_used commands digits) (row_used commands other)
      (used_is_own digits) (used_is_own other) e

-- ---- the technology prefix that both find
-- where a row leads, without a technology prefix
data Way : Type 0 where
  ToRemote : (zone : List ℕ) (address : AddressParts) → Way
  ToLocal : (zone : List ℕ) (row : Option ZoneRow) → Way
  ToCaller : Way
  ToNowhere : Way

abbrev along : Option (List ℕ) → Way → Target
along technology (ToRemote zone address) = RemoteZone zone address
along technology (ToLocal zone row) = LocalZone zone technology row
along technology ToCaller = CallersZone technology
along technology ToNowhere = UnknownPrefix

abbrev way_in : List ℕ → Option ZoneRow → Option ZoneKind → Way
way_in zone row None = ToNowhere
way_in zone row (Some kinds.Local) = ToLocal zone row
way_in zone row (Some (kinds.Remote address cost priority)) = ToRemote zone address

abbrev way_of : List Command → Option ZoneRow → Way
way_of commands (Some row) = way_in row.1 (Some row) (zone_of commands row.1)
way_of commands None = cond (rejects_unknown commands) ToNowhere ToCaller

along_way : (commands : List Command) (technology : Option (List ℕ)) (row : Option ZoneRow)
    → by_row commands technology row ≡ along technology (way_of commands row)
along_way commands technology (Some row) = by (zone_of commands row.1)
  where
    by : (kind : Option ZoneKind)
        → target_in row.1 technology (Some row) kind
        ≡ along technology (way_in row.1 (Some row) kind)
    by None = refl
    by (Some kinds.Local) = refl
    by (Some (kinds.Remote address cost priority)) = refl
along_way commands technology None = by (rejects_unknown commands)
  where
    by : (rejects : Bool)
        → cond rejects UnknownPrefix (CallersZone technology)
        ≡ along technology (cond rejects ToNowhere ToCaller)
    by true = refl
    by false = refl

module _ (old new : List Command) (technology other : Option (List ℕ)) where
  same_along : (way new_way : Way)
      → Same old (along technology way) new (along technology new_way)
      → Same old (along other way) new (along other new_way)
  same_along (ToRemote zone address) (ToRemote zone' address') h = h
  same_along (ToRemote zone address) (ToLocal zone' row) h = h
  same_along (ToRemote zone address) ToCaller h = h
  same_along (ToRemote zone address) ToNowhere h = h
  same_along (ToLocal zone row) (ToRemote zone' address) h = h
  same_along (ToLocal zone row) (ToLocal zone' row') h = (h.0, refl, h.2)
  same_along (ToLocal zone row) ToCaller h = h
  same_along (ToLocal zone row) ToNowhere h = h
  same_along ToCaller (ToRemote zone address) h = h
  same_along ToCaller (ToLocal zone row) h = h
  same_along ToCaller ToCaller h = refl
  same_along ToCaller ToNowhere h = h
  same_along ToNowhere (ToRemote zone address) h = h
  same_along ToNowhere (ToLocal zone row) h = h
  same_along ToNowhere ToCaller h = h
  same_along ToNowhere ToNowhere h = h

  -- by rows alone it does not matter which one both find
  same_by_row : (row new_row : Option ZoneRow)
      → Same old (by_row old technology row) new (by_row new technology new_row)
      → Same old (by_row old other row) new (by_row new other new_row)
  same_by_row row new_row h =
      subst (λ t. Same old t new (by_row new other new_row)) (sym (along_way old other row))
      (subst (λ t. Same old (along other (way_of old row)) new t)
      (sym (along_way new other new_row))
      (same_along (way_of old row) (way_of new new_row)
      (subst (λ t. Same old t new (along technology (way_of new new_row)))
      (along_way old technology row)
      (subst (λ t. Same old (by_row old technology row) new t)
      (along_way new technology new_row) h))))

-- ---- joint digits
-- what makes digits joint
pub record AreJoint (old new : List Command) (technology other : Option (List ℕ)) : Type 0 where
  pub same : technology ≡ other
  pub old_stays : hopoff_of old technology ≡ None
  pub new_stays : hopoff_of new other ≡ None

no_hopoff : (zone : Option (List ℕ)) → not (is_some zone) ≡ true → zone ≡ None
no_hopoff None e = refl
no_hopoff (Some zone) e = absurd (true≢false (sym e))

technologies_same : (technology other : Option (List ℕ)) → same_technology technology other ≡ true
    → technology ≡ other
technologies_same None None e = refl
technologies_same None (Some prefix) e = absurd (true≢false (sym e))
technologies_same (Some prefix) None e = absurd (true≢false (sym e))
technologies_same (Some prefix) (Some other) e =
    ap (λ text. Some text) (same_text prefix other (sym e))

module _ (old new : List Command) (technology other : Option (List ℕ)) where
  pub are_joint : is_joint old new technology other ≡ true → AreJoint old new technology other
  are_joint e = by (same_technology technology other) refl
      (not (hops_off old technology)) refl (not (hops_off new other)) refl e
    where
      by : (a : Bool) → same_technology technology other ≡ a
          → (b : Bool) → not (hops_off old technology) ≡ b
          → (c : Bool) → not (hops_off new other) ≡ c
          → (a && b && c) ≡ true → AreJoint old new technology other
      by true f true g true h e = record {
        same = technologies_same technology other f;
        old_stays = no_hopoff (hopoff_of old technology) g;
        new_stays = no_hopoff (hopoff_of new other) h;
      }
      by true f true g false h e = absurd (true≢false (sym e))
      by true f false g c h e = absurd (true≢false (sym e))
      by false f b g c h e = absurd (true≢false (sym e))

-- with no technology prefix in both they are
pub none_is_joint : (old new : List Command) → is_joint old new None None ≡ true
none_is_joint old new = refl

-- ---- sets
-- a set has either form
module _ (old new : List Command) (digits other : List ℕ) where
  abbrev a : Option (List ℕ)
  a = technology_of old digits

  abbrev b : Option (List ℕ)
  b = technology_of new digits

  abbrev a' : Option (List ℕ)
  a' = technology_of old other

  abbrev b' : Option (List ℕ)
  b' = technology_of new other

  record SameParts : Type 0 where
    pub old_row : pattern_used old digits ≡ pattern_used old other
    pub new_row : pattern_used new digits ≡ pattern_used new other

  parts : (j j' : Bool) (p p' q q' : Option PatternParts) (s s' t t' : Option (List ℕ))
      → set_by j s t p q ≡ set_by j' s' t' p' q' → (p ≡ p') × (q ≡ q')
  parts true true p p' q q' s s' t t' e = (ap (λ r. r.old_row) e, ap (λ r. r.new_row) e)
  parts true false p p' q q' s s' t t' e = (ap (λ r. r.old_row) e, ap (λ r. r.new_row) e)
  parts false true p p' q q' s s' t t' e = (ap (λ r. r.old_row) e, ap (λ r. r.new_row) e)
  parts false false p p' q q' s s' t t' e = (ap (λ r. r.old_row) e, ap (λ r. r.new_row) e)

  abbrev SameBy : (old_technology new_technology : Option (List ℕ))
      (old_row new_row : Option ZoneRow) → Type 0
  SameBy s t p q = Same old (plan_by old s p) new (plan_by new t q)

  -- the same, by technology prefixes and rows
  over : (s t s' t' : Option (List ℕ)) (p q : Option ZoneRow)
      → (j : Bool) → is_joint old new s t ≡ j → (j' : Bool) → is_joint old new s' t' ≡ j'
      → set_by j s t None None ≡ set_by j' s' t' None None
      → SameBy s t p q → SameBy s' t' p q
  over s t s' t' p q true e true e' f h =
      let k = are_joint old new s t e in
      let k' = are_joint old new s' t' e' in
      let plain : Same old (by_row old s p) new (by_row new s q) =
      subst (λ z. Same old (by_zone_or_row old s p z) new (by_row new s q)) k.old_stays
      (subst (λ x. Same old (plan_by old s p) new (by_row new x q)) (sym k.same)
      (subst (λ z. Same old (plan_by old s p) new (by_zone_or_row new t q z)) k.new_stays h)) in
      let moved : Same old (by_row old s' p) new (by_row new s' q) =
      same_by_row old new s s' p q plain in
      subst (λ z. Same old (by_zone_or_row old s' p z) new (plan_by new t' q)) (sym k'.old_stays)
      (subst (λ z. Same old (by_row old s' p) new (by_zone_or_row new t' q z)) (sym k'.new_stays)
      (subst (λ x. Same old (by_row old s' p) new (by_row new x q)) k'.same moved))
  over s t s' t' p q true e false e' f h =
      absurd (true≢false ((λ i. is_joint old new ((ap (λ r. r.old_technology) f) i) ((ap (λ r.
      r.new_technology) f) i)) ∙ e'))
  over s t s' t' p q false e true e' f h =
      absurd (true≢false ((λ i. is_joint old new ((ap (λ r. r.old_technology) (sym f)) i) ((ap (λ r.
      r.new_technology) (sym f)) i)) ∙ e))
  over s t s' t' p q false e false e' f h =
      subst (λ x. SameBy x t' p q) (ap (λ r. r.old_technology) f)
      (subst (λ x. SameBy s x p q) (ap (λ r. r.new_technology) f) h)

  -- the technology prefixes of a set
  abbrev without_rows : NumberSet → NumberSet
  without_rows set = record set { old_row = None; new_row = None }

  bare : (j j' : Bool) (p p' q q' : Option PatternParts) (s s' t t' : Option (List ℕ))
      → set_by j s t p q ≡ set_by j' s' t' p' q'
      → set_by j s t None None ≡ set_by j' s' t' None None
  bare true true p p' q q' s s' t t' e = refl
  bare true false p p' q q' s s' t t' e =
      ap without_rows e
  bare false true p p' q q' s s' t t' e =
      ap without_rows e
  bare false false p p' q q' s s' t t' e =
      ap without_rows e

  -- digits of one set are planned otherwise together
  pub same_of_set : set_of old new digits ≡ set_of old new other
      → SamePlan old new digits → SamePlan old new other
  same_of_set e h =
      let j = is_joint old new a b in
      let j' = is_joint old new a' b' in
      let rows = parts j j' (pattern_used old digits) (pattern_used old other)
      (pattern_used new digits) (pattern_used new other) a a' b b' e in
      let old_rows = same_row_used old digits other rows.0 in
      let new_rows = same_row_used new digits other rows.1 in
      let here : SameBy a b (row_used old digits) (row_used new digits) =
      subst (λ t. Same old t new (plan_by new b (row_used new digits))) (plan_is old digits)
      (subst (λ t. Same old (plan_of old digits) new t) (plan_is new digits) h) in
      let there : SameBy a' b' (row_used old digits) (row_used new digits) =
      over a b a' b' (row_used old digits) (row_used new digits) j refl j' refl
      (bare j j' (pattern_used old digits) (pattern_used old other)
      (pattern_used new digits) (pattern_used new other) a a' b b' e) here in
      let moved : SameBy a' b' (row_used old other) (row_used new other) =
      subst (λ p. SameBy a' b' p (row_used new other)) old_rows
      (subst (λ q. SameBy a' b' (row_used old digits) q) new_rows there) in
      subst (λ t. Same old t new (plan_of new other)) (sym (plan_is old other))
      (subst (λ t. Same old (plan_by old a' (row_used old other)) new t)
      (sym (plan_is new other)) moved)
