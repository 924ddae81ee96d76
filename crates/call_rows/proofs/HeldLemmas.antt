-- Admissions in few bytes, and those that stand whole.
use Rattle.std.proofs.Common.{◌≡◌, ℕ, List, [], ◌∷◌, ◌++◌, length, length-append, slice_get, refl, sym, ap, subst, ◌∙◌, arith}
use Rattle.std.specs.Prelude.{Option, Some, None, IsSome}
use Rattle.std.specs.Option.{option_and_then}
use Rattle.std.specs.List.{cons_option}
use Rattle.call_rows.specs.declared.rows.NumberedAdmission.{NumberedAdmission}
use Rattle.call_rows.specs.declared.kept_admission.KeptAdmission.{KeptAdmission}
use Rattle.call_rows.specs.declared.kept_admission.KeptAdmission.TheVariants.{Granted, OverLimit, Refused, Answered, Aside}
use Rattle.call_rows.specs.AdmissionList.{AdmissionListParts}
use Rattle.call_rows.specs.KeptAdmission.{AreHeld, admission_meant, admissions_told}
use Rattle.call_rows.proofs.ToldLemmas.{TellsAlso, all_told, item_in_front_if, next_is, one_more, told_at}

-- ---- what is held of these admissions
pub record HoldsAll (kept : List KeptAdmission) (aside admissions : List NumberedAdmission)
    : Type 0 where
  pub held : AreHeld kept aside (admissions_told kept aside)
  pub told : admissions_told kept aside ≡ admissions

holds_all : (kept : List KeptAdmission) (aside admissions : List NumberedAdmission)
    → AreHeld kept aside admissions → HoldsAll kept aside admissions
holds_all kept aside admissions held =
    let told = all_told (admission_meant aside) kept admissions held.meant in
    record { held = subst (λ items. AreHeld kept aside items) (sym told) held; told = told }

-- ---- what an admission in few bytes means, if more stand whole
still_meant : (aside more : List NumberedAdmission)
    → TellsAlso (admission_meant aside) (admission_meant (aside ++ more))
still_meant aside more (Granted kind address asked name) a h = h
still_meant aside more (OverLimit kind address asked name) a h = h
still_meant aside more (Refused refusal asked) a h = h
still_meant aside more (Answered granted kind address asked name) a h = h
still_meant aside more (Aside place) a h = item_in_front_if aside more place a h

-- ---- one more
module _ (kept : List KeptAdmission) (aside admissions : List NumberedAdmission)
    (held : AreHeld kept aside admissions) where
  -- in few bytes
  one_short : (k : KeptAdmission) (a : NumberedAdmission) → admission_meant [] k ≡ Some a
      → HoldsAll (kept ++ k ∷ []) aside (admissions ++ a ∷ [])
  one_short k a is =
      let more = length-append kept (k ∷ []) in
      let fewer = held.few_aside in
      holds_all (kept ++ k ∷ []) aside (admissions ++ a ∷ []) (record {
        meant = one_more (admission_meant aside) (admission_meant aside) (λ _ _ h. h) kept
            admissions k a held.meant (still_meant [] aside k a is);
        few_aside = omega (arith, more, fewer);
      })

  pub short_held : (k : KeptAdmission) (now : AdmissionListParts)
      → admissions ≡ now.items
      → IsSome (admission_meant [] k)
      → HoldsAll (kept ++ k ∷ []) aside (now.items ++ cons_option (admission_meant [] k) [])
  short_held k now same some = by (admission_meant [] k) refl some
    where
      by : (o : Option NumberedAdmission) → admission_meant [] k ≡ o → IsSome o
          → HoldsAll (kept ++ k ∷ []) aside (now.items ++ cons_option o [])
      by None is some = let impossible : ⊥ = cc in absurd impossible
      by (Some a) is some =
          subst (λ items. HoldsAll (kept ++ k ∷ []) aside (items ++ a ∷ [])) same
          (one_short k a is)

  -- whole
  pub whole_held : (a : NumberedAdmission) (now : AdmissionListParts)
      → admissions ≡ now.items
      → HoldsAll (kept ++ Aside (length aside) ∷ []) (aside ++ a ∷ []) (now.items ++ a ∷ [])
  whole_held a now same =
      let k : KeptAdmission = Aside (length aside) in
      let more = length-append kept (k ∷ []) in
      let one = length-append aside (a ∷ []) in
      let fewer = held.few_aside in
      subst (λ items. HoldsAll (kept ++ k ∷ []) (aside ++ a ∷ []) (items ++ a ∷ [])) same
      (holds_all (kept ++ k ∷ []) (aside ++ a ∷ []) (admissions ++ a ∷ []) (record {
        meant = one_more (admission_meant aside) (admission_meant (aside ++ a ∷ []))
            (still_meant aside (a ∷ [])) kept admissions k a held.meant
            (next_is aside a (length aside) refl);
        few_aside = omega (arith, more, one, fewer);
      }))

-- ---- look-ups
pub held_at : (kept : List KeptAdmission) (aside : List NumberedAdmission)
    (now : AdmissionListParts) (place : ℕ)
    → AreHeld kept aside (admissions_told kept aside)
    → admissions_told kept aside ≡ now.items
    → option_and_then (admission_meant aside) (slice_get kept place) ≡ slice_get now.items place
held_at kept aside now place held same =
    told_at (admission_meant aside) kept (admissions_told kept aside) held.meant place
    ∙ ap (λ items. slice_get items place) same
