-- Sets are listed one after another.
use Rattle.std.proofs.Common.{◌≡◌, ℕ, zero, suc, ◌+◌, ◌<◌, ◌||◌, Bool, true, false, cond, List, [], ◌∷◌, ◌++◌, length, take, slice_get, refl, sym, ap, ◌∙◌, arith}
use Rattle.std.specs.Prelude.{Option, Some, None, unwrap_or}
use Rattle.std.specs.List.{list_any}
use Rattle.std.specs.Map.{keys_of}
use Rattle.std.proofs.lemmas.Option.{slice_get_within, unwrap_or-slice_get}
use Rattle.indexmap.specs.IndexSet.{insert_key}
use Rattle.compiler.proofs.StepLemmas.{take_with}
use Rattle.plan_difference.specs.declared.number_sets.NumberSet.{NumberSet}
use Rattle.plan_difference.specs.Entries.{Entry, Entries, AreOnce, same_set}
use Rattle.difference_counts.proofs.CountLemmas.{are_apart, sets_same}

none_so_far : {X : Type 0} (test : X → Bool) (xs : List X) (place : ℕ)
    → ((k : ℕ) (y : X) → k < place → slice_get xs k ≡ Some y → test y ≡ false)
    → list_any test (take place xs) ≡ false
none_so_far test [] zero h = refl
none_so_far test (x ∷ xs) zero h = refl
none_so_far test [] (suc place) h = refl
none_so_far test (x ∷ xs) (suc place) h =
    (λ i. h 0 x (omega arith) refl i
    || none_so_far test xs place
    (λ k y low at. h (suc k) y (let e : suc k < suc place = omega (arith, low) in e) at) i)

-- the set of an entry
pub key_at : (entries : Entries) (place : ℕ) (set : NumberSet) (digits : List ℕ)
    → slice_get entries place ≡ Some (set, digits) → slice_get (keys_of entries) place ≡ Some set
key_at [] place set digits at = absurd (let bad : ⊥ = cc in bad)
key_at (entry ∷ entries) zero set digits at =
    ap (λ o. some_set (unwrap_or o entry)) at
  where
    some_set : Entry → Option NumberSet
    some_set one = Some one.0
key_at (entry ∷ entries) (suc place) set digits at = key_at entries place set digits at

-- one more set, which was not there
pub one_more_place : (entries : Entries) → AreOnce entries → (place : ℕ) (set : NumberSet)
    → slice_get (keys_of entries) place ≡ Some set → (before after : List NumberSet)
    → before ≡ take place (keys_of entries) → after ≡ insert_key same_set before set
    → after ≡ take (place + 1) (keys_of entries)
one_more_place entries once place set at before after e f =
    f ∙ ap (λ xs. insert_key same_set xs set) e
    ∙ ap (λ t. cond t (take place sets) (take place sets ++ set ∷ [])) absent
    ∙ sym (take_with sets place set
    (sym (sym (unwrap_or-slice_get sets place set) ∙ ap (λ o. unwrap_or o set) at))
    (slice_get_within sets place set at))
  where
    sets : List NumberSet
    sets = keys_of entries

    absent : list_any (same_set set) (take place sets) ≡ false
    absent =
        none_so_far (same_set set) sets place
        (λ k y low there. by k y low there (same_set set y) refl)
      where
        some_set : {y z : NumberSet} → y ≡ z → Some y ≡ Some z
        some_set e = ap (λ s. Some s) e

        by : (k : ℕ) (y : NumberSet) → k < place → slice_get sets k ≡ Some y → (t : Bool)
            → same_set set y ≡ t → same_set set y ≡ false
        by k y low there true g =
            let same = (are_apart entries once).apart k place set
            (there ∙ some_set (sym (sets_same set y g))) at in
            absurd (omega (arith, low, same))
        by k y low there false g = g

-- no set stands past the end
pub no_entry_at : (entries : Entries) (place : ℕ) → place < length entries
    → slice_get entries place ≡ None → ⊥
no_entry_at [] place h at = omega (arith, h)
no_entry_at (entry ∷ entries) zero h at = let bad : ⊥ = cc in bad
no_entry_at (entry ∷ entries) (suc place) h at = no_entry_at entries place (omega (arith, h)) at
