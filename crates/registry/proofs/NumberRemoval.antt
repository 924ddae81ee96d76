-- What an unregistration changes in the endpoints by number.
use Rattle.std.proofs.Common.{◌≡◌, ℕ, ◌<◌, Bool, true, false, cond, List, [], ◌∷◌, refl, sym, ap, ◌∙◌}
use Rattle.std.specs.Prelude.{Some, None, bytes_eq}
use Rattle.std.specs.Ordering.{nat_cmp}
use Rattle.std.specs.Cmp.{unsigned_tied}
use Rattle.std.specs.Cmp.Lexicographic.{same_text}
use Rattle.std.specs.BTreeMap.{is_at}
use Rattle.std.specs.List.{AllByRecursion, IsDistinct}
use Rattle.std.specs.List.Sorted.{IsStrictlySortedBy}
use Rattle.std.specs.Map.{keys_of, remove_entry}
use Rattle.std.proofs.lemmas.Bool.{both_ways, false_from_ne_true}
use Rattle.std.proofs.lemmas.Cmp.{nat_list_eq_equiv}
use Rattle.std.proofs.lemmas.Option.{none-some}
use Rattle.std.proofs.lemmas.Map.{lookup-remove_entry}
use Rattle.registry.specs.Endpoint.{EndpointParts}
use Rattle.registry.specs.NumberedEndpoints.{Numbered, Numbers, at_number, number_of_id, by_id, is_number, found_with_id, IsNumbered, IsTakenOut, IsSetAt, Entries, kept_endpoint_of}
use Rattle.registry.proofs.NumberLemmas.{each_entry, distinct_numbers, distinct_ids, own_endpoint}

removed : (n : ℕ) (id : List ℕ) (entries : Numbered)
    → AllByRecursion (λ f. is_at (nat_cmp n) f.0 ≡ bytes_eq id f.1.id) entries
    → by_id (remove_entry (is_at (nat_cmp n)) entries) ≡ remove_entry (bytes_eq id) (by_id entries)
removed n id [] agree = refl
removed n id (f ∷ fs) agree =
    by (is_at (nat_cmp n) f.0) (removed n id fs agree.1)
    ∙ ap (λ b. cond b (by_id fs) ((f.1.id, f.1) ∷ remove_entry (bytes_eq id) (by_id fs))) agree.0
  where
    by : (b : Bool)
        → by_id (remove_entry (is_at (nat_cmp n)) fs) ≡ remove_entry (bytes_eq id) (by_id fs)
        → by_id (cond b fs (f ∷ remove_entry (is_at (nat_cmp n)) fs))
        ≡ cond b (by_id fs) ((f.1.id, f.1) ∷ remove_entry (bytes_eq id) (by_id fs))
    by true rest = refl
    by false rest = ap (λ xs. (f.1.id, f.1) ∷ xs) rest

none_removed : (id : List ℕ) (entries : Entries) → kept_endpoint_of entries id ≡ None
    → remove_entry (bytes_eq id) entries ≡ entries
none_removed id [] h = refl
none_removed id (e ∷ es) h = by (bytes_eq id e.0) h (none_removed id es)
  where
    by : (b : Bool) → cond b (Some e.1) (kept_endpoint_of es id) ≡ None
        → (kept_endpoint_of es id ≡ None → remove_entry (bytes_eq id) es ≡ es)
        → cond b es (e ∷ remove_entry (bytes_eq id) es) ≡ e ∷ es
    by true h rest = absurd (none-some e.1 (sym h))
    by false h rest = ap (λ xs. e ∷ xs) (rest h)

taken_out : (id : List ℕ) (old new : Entries) → IsDistinct bytes_eq (keys_of old)
    → IsDistinct bytes_eq (keys_of new) → new ≡ remove_entry (bytes_eq id) old
    → IsTakenOut old new id
taken_out id old new distinct unique left = record {
  entries = left;
  unique = unique;
  updates = λ other. ap (λ es. kept_endpoint_of es other) left
      ∙ lookup-remove_entry nat_list_eq_equiv (bytes_eq id) (nat_list_eq_equiv.congr id) other old
      distinct;
}

-- without such an endpoint nothing changes
pub none_taken_out : (entries : Numbered) (numbers : Numbers) (next : ℕ)
    → IsNumbered entries numbers next → (id : List ℕ) → kept_endpoint_of (by_id entries) id ≡ None
    → IsTakenOut (by_id entries) (by_id entries) id
none_taken_out entries numbers next sound id none =
    let distinct = distinct_ids entries numbers next sound in
    taken_out id (by_id entries) (by_id entries) distinct distinct
    (sym (none_removed id (by_id entries) none))

module _ (entries new : Numbered) (numbers left : Numbers) (next : ℕ) (n : ℕ) (id : List ℕ)
    (sound : IsNumbered entries numbers next) (known : number_of_id numbers id ≡ Some n)
    (set : IsSetAt entries new n None)
    (led : (other : List ℕ) → number_of_id left other
    ≡ cond (bytes_eq id other) None (number_of_id numbers other)) where
  -- the number is that of the ID
  tied : (m : ℕ) → found_with_id id (at_number entries m) ≡ is_at (nat_cmp n) m
  tied m = sym (sound.numbered id m) ∙ ap (is_number m) known ∙ sym (unsigned_tied n m)

  below_left : (m : ℕ) (f : EndpointParts) → at_number new m ≡ Some f → m < next
  below_left m f there = by (is_at (nat_cmp n) m) (sym (set m) ∙ there)
    where
      by : (b : Bool) → cond b None (at_number entries m) ≡ Some f → m < next
      by true at = absurd (none-some f at)
      by false at = sound.below m f at

  numbered_left : (other : List ℕ) (m : ℕ)
      → is_number m (number_of_id left other) ≡ found_with_id other (at_number new m)
  numbered_left other m =
      ap (is_number m) (led other)
      ∙ by (bytes_eq id other) refl (is_at (nat_cmp n) m) refl
      ∙ ap (found_with_id other) (sym (set m))
    where
      by : (a : Bool) → bytes_eq id other ≡ a → (b : Bool) → is_at (nat_cmp n) m ≡ b
          → is_number m (cond a None (number_of_id numbers other))
          ≡ found_with_id other (cond b None (at_number entries m))
      by true p true q = refl
      by true p false q =
          sym q ∙ sym (tied m)
          ∙ ap (λ x. found_with_id x (at_number entries m)) (same_text id other (sym p))
      by false p true q =
          sound.numbered other m
          ∙ false_from_ne_true (found_with_id other (at_number entries m))
          (λ own. own_endpoint entries numbers next sound other m own (at_number entries m) refl ⊥
          (λ g at has.
          let mine : bytes_eq g.id id ≡ true = ap (found_with_id id) (sym at) ∙ tied m ∙ q in
          both_ways (bytes_eq id other) p
          (ap (λ x. bytes_eq x other) (sym (same_text g.id id (sym mine))) ∙ has)))
      by false p false q = sound.numbered other m

  pub sound_after_removal : IsStrictlySortedBy nat_cmp (keys_of new) → IsNumbered new left next
  sound_after_removal sorted = record {
    sorted = sorted;
    below = below_left;
    numbered = numbered_left;
  }

  pub removed_by_id : new ≡ remove_entry (is_at (nat_cmp n)) entries
      → IsStrictlySortedBy nat_cmp (keys_of new) → IsTakenOut (by_id entries) (by_id new) id
  removed_by_id taken sorted =
      taken_out id (by_id entries) (by_id new) (distinct_ids entries numbers next sound)
      (distinct_ids new left next (sound_after_removal sorted))
      (ap by_id taken
      ∙ removed n id entries
      (each_entry (λ m f. is_at (nat_cmp n) m ≡ bytes_eq id f.id) entries
      (distinct_numbers entries sound.sorted)
      (λ m f there. sym (tied m) ∙ ap (found_with_id id) there
      ∙ nat_list_eq_equiv.symm f.id id)))
