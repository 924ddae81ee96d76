-- What a registration changes in the endpoints by number.
use Rattle.std.proofs.Common.{◌≡◌, inl, inr, ℕ, ◌+◌, ◌<◌, ◌≤◌, Bool, true, false, cond, List, [], ◌∷◌, refl, sym, ap, subst, ◌∙◌, arith}
use Rattle.std.specs.Prelude.{Option, Some, None, ⊤, ◌⊎◌, bytes_eq, if◌then◌else◌}
use Rattle.std.specs.declared.cmp.Ordering.{Ordering}
use Rattle.std.specs.declared.cmp.Ordering.TheVariants.{Less, Equal, Greater}
use Rattle.std.specs.Ordering.{is_eq, nat_cmp, match_ordering}
use Rattle.std.specs.Cmp.{unsigned_tied, nat_cmp_is, both_ways as alike}
use Rattle.std.specs.Cmp.Lexicographic.{same_text}
use Rattle.std.specs.BTreeMap.{is_at}
use Rattle.std.specs.BTreeMap as tree
use Rattle.std.specs.List.{AllByRecursion}
use Rattle.std.specs.List.Sorted.{IsStrictlySortedBy}
use Rattle.std.specs.Map.{keys_of}
use Rattle.std.proofs.lemmas.Bool.{both_ways, false_from_ne_true}
use Rattle.std.proofs.lemmas.Bool.Decides.{nat_tests}
use Rattle.std.proofs.lemmas.Cmp.{nat_list_eq_equiv, nat_cmp_total}
use Rattle.std.proofs.lemmas.Option.{none-some, same_Some}
use Rattle.std.proofs.lemmas.Map.{lookup-none}
use Rattle.std.proofs.lemmas.Map.Entries.{none_below_head}
use Rattle.std.proofs.lemmas.Map.Keys.{sorted_tail}
use Rattle.indexmap.specs.IndexMap.{insert_entry}
use Rattle.registry.specs.Endpoint.{EndpointParts}
use Rattle.registry.specs.NumberedEndpoints.{Numbered, Numbers, at_number, number_of_id, by_id, is_number, found_with_id, IsNumbered, IsNumberFor, IsPut, IsSetAt, Entries, kept_endpoint_of}
use Rattle.registry.proofs.NumberLemmas.{same_number, number_itself, each_entry, distinct_numbers, distinct_ids, own_endpoint}

-- ---- a registration, as a list
-- the entry with that number is the one with the ID, and it comes after lesser numbers alone
abbrev Fits : ℕ → EndpointParts → Numbered → Type 0
Fits n e [] = ⊤
Fits n e (f ∷ fs) =
    ((nat_cmp n f.0 ≡ Equal) × (bytes_eq e.id f.1.id ≡ true))
    ⊎ (((nat_cmp n f.0 ≡ Greater) × (bytes_eq e.id f.1.id ≡ false)) × Fits n e fs)

inserted : (n : ℕ) (e : EndpointParts) (entries : Numbered) → Fits n e entries
    → by_id (tree.insert_entry nat_cmp entries n e) ≡ insert_entry bytes_eq (by_id entries) e.id e
inserted n e [] h = refl
inserted n e (f ∷ fs) h = by h (inserted n e fs)
  where
    by : ((nat_cmp n f.0 ≡ Equal) × (bytes_eq e.id f.1.id ≡ true))
        ⊎ (((nat_cmp n f.0 ≡ Greater) × (bytes_eq e.id f.1.id ≡ false)) × Fits n e fs)
        → (Fits n e fs → by_id (tree.insert_entry nat_cmp fs n e)
        ≡ insert_entry bytes_eq (by_id fs) e.id e)
        → by_id (match_ordering (nat_cmp n f.0) ((n, e) ∷ f ∷ fs) ((f.0, e) ∷ fs)
        (f ∷ tree.insert_entry nat_cmp fs n e))
        ≡ (if bytes_eq e.id f.1.id then (f.1.id, e) ∷ by_id fs
        else (f.1.id, f.1) ∷ insert_entry bytes_eq (by_id fs) e.id e)
    by (inl here) rest =
        ap (λ o. by_id (match_ordering o ((n, e) ∷ f ∷ fs) ((f.0, e) ∷ fs)
        (f ∷ tree.insert_entry nat_cmp fs n e))) here.0
        ∙ ap (λ id. (id, e) ∷ by_id fs) (same_text e.id f.1.id (sym here.1))
        ∙ ap (λ b. if b then (f.1.id, e) ∷ by_id fs
        else (f.1.id, f.1) ∷ insert_entry bytes_eq (by_id fs) e.id e) (sym here.1)
    by (inr more) rest =
        ap (λ o. by_id (match_ordering o ((n, e) ∷ f ∷ fs) ((f.0, e) ∷ fs)
        (f ∷ tree.insert_entry nat_cmp fs n e))) more.0.0
        ∙ ap (λ xs. (f.1.id, f.1) ∷ xs) (rest more.1)
        ∙ ap (λ b. if b then (f.1.id, e) ∷ by_id fs
        else (f.1.id, f.1) ∷ insert_entry bytes_eq (by_id fs) e.id e) (sym more.0.1)

-- the endpoint of that number is there, and it alone has the ID
fits_present : (n : ℕ) (e g : EndpointParts) (entries : Numbered)
    → IsStrictlySortedBy nat_cmp (keys_of entries) → at_number entries n ≡ Some g
    → AllByRecursion (λ f. is_at (nat_cmp n) f.0 ≡ bytes_eq e.id f.1.id) entries
    → Fits n e entries
fits_present n e g [] sorted there agree = tt
fits_present n e g (f ∷ fs) sorted there agree =
    by (nat_cmp n f.0) refl
    (fits_present n e g fs (sorted_tail nat_cmp f.0 (keys_of fs) sorted))
  where
    by : (o : Ordering) → nat_cmp n f.0 ≡ o
        → (at_number fs n ≡ Some g
        → AllByRecursion (λ h. is_at (nat_cmp n) h.0 ≡ bytes_eq e.id h.1.id) fs → Fits n e fs)
        → Fits n e (f ∷ fs)
    by Less q rest =
        absurd (none-some g
        (sym (lookup-none (is_at (nat_cmp n)) (f ∷ fs)
        (none_below_head nat_cmp_total n f fs sorted q)) ∙ there))
    by Equal q rest = inl (q, sym agree.0 ∙ ap is_eq q)
    by Greater q rest =
        inr (
          (q, sym agree.0 ∙ ap is_eq q),
          rest (ap (λ o. cond (is_eq o) (Some f.1) (at_number fs n)) (sym q) ∙ there) agree.1,
        )

-- the number is greater than the others, and none has the ID
fits_new : (n : ℕ) (e : EndpointParts) (entries : Numbered)
    → AllByRecursion (λ f. (f.0 < n) × (bytes_eq e.id f.1.id ≡ false)) entries → Fits n e entries
fits_new n e [] h = tt
fits_new n e (f ∷ fs) h =
    inr ((sym (nat_cmp_is n f.0 Greater h.0.0), h.0.1), fits_new n e fs h.1)

module _ (entries : Numbered) (numbers : Numbers) (next : ℕ)
    (sound : IsNumbered entries numbers next) where
  fits_for : (e : EndpointParts) (n : ℕ)
      → IsNumberFor (record { entries = entries; next = next }) e.id n → Fits n e entries
  fits_for e n h = by h.which
    where
      by : (found_with_id e.id (at_number entries n) ≡ true) ⊎ (n ≡ next) → Fits n e entries
      by (inl own) =
          own_endpoint entries numbers next sound e.id n own (at_number entries n) refl
          (Fits n e entries)
          (λ g at same_id.
          fits_present n e g entries sound.sorted at
          (each_entry (λ m f. is_at (nat_cmp n) m ≡ bytes_eq e.id f.id) entries
          (distinct_numbers entries sound.sorted)
          (λ m f there. alike (is_at (nat_cmp n) m) (bytes_eq e.id f.id)
          (λ here.
          let one = same_number n m here in
          let both : g ≡ f = same_Some g f (sym at ∙ ap (at_number entries) one ∙ there) in
          nat_list_eq_equiv.symm e.id f.id ∙ ap (λ x. bytes_eq x.id e.id) (sym both) ∙ same_id)
          (λ has.
          let one =
          h.only m (ap (found_with_id e.id) there ∙ nat_list_eq_equiv.symm f.id e.id ∙ has) in
          ap (is_at (nat_cmp n)) one ∙ number_itself n))))
      by (inr fresh) =
          fits_new n e entries
          (each_entry (λ m f. (m < n) × (bytes_eq e.id f.id ≡ false)) entries
          (distinct_numbers entries sound.sorted)
          (λ m f there.
          let low = sound.below m f there in (
            omega (arith, low, fresh),
            false_from_ne_true (bytes_eq e.id f.id) (λ has.
                let one = h.only m
                (ap (found_with_id e.id) there ∙ nat_list_eq_equiv.symm f.id e.id ∙ has) in
                let never : ⊥ = omega (arith, low, fresh, one) in never),
          )))

  -- no other ID is that of the number
  no_other : (id : List ℕ) (n : ℕ) → IsNumberFor (record { entries = entries; next = next }) id n
      → (other : List ℕ) → found_with_id other (at_number entries n) ≡ true
      → bytes_eq id other ≡ true
  no_other id n h other own = by h.which
    where
      by : (found_with_id id (at_number entries n) ≡ true) ⊎ (n ≡ next) → bytes_eq id other ≡ true
      by (inl mine) =
          own_endpoint entries numbers next sound other n own (at_number entries n) refl
          (bytes_eq id other ≡ true)
          (λ g at has.
          let its : bytes_eq g.id id ≡ true = ap (found_with_id id) (sym at) ∙ mine in
          ap (λ x. bytes_eq x other) (sym (same_text g.id id (sym its))) ∙ has)
      by (inr fresh) =
          own_endpoint entries numbers next sound other n own (at_number entries n) refl
          (bytes_eq id other ≡ true)
          (λ g at has.
          let low = sound.below n g at in
          let never : ⊥ = omega (arith, low, fresh) in absurd never)

  -- ---- the sound after a registration
  module _ (e : EndpointParts) (n : ℕ)
      (h : IsNumberFor (record { entries = entries; next = next }) e.id n)
      (new : Numbered) (all : Numbers) (after : ℕ)
      (set : IsSetAt entries new n (Some e))
      (led : (id : List ℕ)
      → number_of_id all id ≡ cond (bytes_eq e.id id) (Some n) (number_of_id numbers id))
    where
      numbered_after : (id : List ℕ) (m : ℕ)
          → is_number m (number_of_id all id) ≡ found_with_id id (at_number new m)
      numbered_after id m =
          ap (is_number m) (led id)
          ∙ by (bytes_eq e.id id) refl (is_at (nat_cmp n) m) refl
          ∙ ap (found_with_id id) (sym (set m))
        where
          by : (a : Bool) → bytes_eq e.id id ≡ a → (b : Bool) → is_at (nat_cmp n) m ≡ b
              → is_number m (cond a (Some n) (number_of_id numbers id))
              ≡ found_with_id id (cond b (Some e) (at_number entries m))
          by true p true q = sym (unsigned_tied n m) ∙ q ∙ sym p
          by true p false q =
              sym (unsigned_tied n m) ∙ q
              ∙ sym (false_from_ne_true (found_with_id id (at_number entries m))
              (λ own. both_ways (is_at (nat_cmp n) m) q
              (ap (is_at (nat_cmp n)) (h.only m
              (ap (λ x. found_with_id x (at_number entries m)) (same_text e.id id (sym p)) ∙ own))
              ∙ number_itself n)))
          by false p true q =
              sound.numbered id m
              ∙ false_from_ne_true (found_with_id id (at_number entries m))
              (λ own. both_ways (bytes_eq e.id id) p
              (no_other e.id n h id
              (ap (λ x. found_with_id id (at_number entries x)) (same_number n m q) ∙ own)))
              ∙ sym p
          by false p false q = sound.numbered id m

      below_after : next ≤ after → n < after → (m : ℕ) (f : EndpointParts)
          → at_number new m ≡ Some f → m < after
      below_after grown within m f there =
          by (is_at (nat_cmp n) m) refl (sym (set m) ∙ there)
        where
          by : (b : Bool) → is_at (nat_cmp n) m ≡ b
              → cond b (Some e) (at_number entries m) ≡ Some f → m < after
          by true q at = let one = same_number n m q in omega (arith, one, within)
          by false q at = let low = sound.below m f at in omega (arith, low, grown)

      pub sound_after_put : IsStrictlySortedBy nat_cmp (keys_of new) → next ≤ after → n < after
          → IsNumbered new all after
      sound_after_put sorted grown within = record {
        sorted = sorted;
        below = below_after grown within;
        numbered = numbered_after;
      }

-- ---- look-ups by ID after a registration
lookup_put : (q k : List ℕ) (v : EndpointParts) (entries : Entries)
    → kept_endpoint_of (insert_entry bytes_eq entries k v) q
    ≡ cond (bytes_eq k q) (Some v) (kept_endpoint_of entries q)
lookup_put q k v [] = ap (λ b. cond b (Some v) None) (nat_list_eq_equiv.symm q k)
lookup_put q k v (e ∷ es) = by (bytes_eq k e.0) refl (lookup_put q k v es)
  where
    twice : (b : Bool) (o : Option EndpointParts)
        → cond b (Some v) o ≡ cond b (Some v) (cond b (Some e.1) o)
    twice true o = refl
    twice false o = refl

    past : (b : Bool) → bytes_eq q e.0 ≡ b → bytes_eq k e.0 ≡ false
        → cond b (Some e.1) (cond (bytes_eq k q) (Some v) (kept_endpoint_of es q))
        ≡ cond (bytes_eq k q) (Some v) (cond b (Some e.1) (kept_endpoint_of es q))
    past true p apart =
        let other : bytes_eq k q ≡ false = ap (bytes_eq k) (same_text q e.0 (sym p)) ∙ apart in
        ap (λ b. cond b (Some v) (Some e.1)) (sym other)
    past false p apart = refl

    by : (b : Bool) → bytes_eq k e.0 ≡ b
        → kept_endpoint_of (insert_entry bytes_eq es k v) q
        ≡ cond (bytes_eq k q) (Some v) (kept_endpoint_of es q)
        → kept_endpoint_of (if b then (e.0, v) ∷ es else e ∷ insert_entry bytes_eq es k v) q
        ≡ cond (bytes_eq k q) (Some v) (cond (bytes_eq q e.0) (Some e.1) (kept_endpoint_of es q))
    by true p rest =
        let here : bytes_eq q e.0 ≡ bytes_eq k q =
        ap (bytes_eq q) (sym (same_text k e.0 (sym p))) ∙ nat_list_eq_equiv.symm q k in
        ap (λ b. cond b (Some v) (kept_endpoint_of es q)) here
        ∙ twice (bytes_eq k q) (kept_endpoint_of es q)
        ∙ ap (λ b. cond (bytes_eq k q) (Some v) (cond b (Some e.1) (kept_endpoint_of es q)))
        (sym here)
    by false p rest =
        ap (cond (bytes_eq q e.0) (Some e.1)) rest ∙ past (bytes_eq q e.0) refl p

pub put_by_id : (entries new : Numbered) (numbers all : Numbers) (next after : ℕ)
    (e : EndpointParts) (n : ℕ) → IsNumbered entries numbers next
    → IsNumberFor (record { entries = entries; next = next }) e.id n
    → new ≡ tree.insert_entry nat_cmp entries n e → IsNumbered new all after
    → IsPut (by_id entries) (by_id new) e
put_by_id entries new numbers all next after e n before h put sound =
    let placed = ap by_id put ∙ inserted n e entries (fits_for entries numbers next before e n h) in
    record {
      entries = placed;
      unique = distinct_ids new all after sound;
      updates =
          λ id. ap (λ es. kept_endpoint_of es id) placed ∙ lookup_put id e.id e (by_id entries);
    }

-- ---- the steps of a registration
module _ (entries new : Numbered) (numbers reserved : Numbers) (next : ℕ)
    (sound : IsNumbered entries numbers next)
    (reordered : (id : List ℕ) → number_of_id reserved id ≡ number_of_id numbers id) where
  -- only the room has changed
  pub sound_reordered : new ≡ entries → IsNumbered new reserved next
  sound_reordered same = subst (λ es. IsNumbered es reserved next) (sym same) (record {
    sorted = sound.sorted;
    below = sound.below;
    numbered = λ id number. ap (is_number number) (reordered id) ∙ sound.numbered id number;
  })

  -- an ID that has a number leads to it as if it had just been entered
  pub led_before : (id : List ℕ) (n : ℕ)
      → IsNumberFor (record { entries = entries; next = next }) id n → (n ≡ next → ⊥)
      → (other : List ℕ) → number_of_id reserved other
      ≡ cond (bytes_eq id other) (Some n) (number_of_id reserved other)
  led_before id n h old other = by (bytes_eq id other) refl
    where
      only : (o : Option ℕ) → is_number n o ≡ true → o ≡ Some n
      only None p = absurd (both_ways false refl p)
      only (Some found) p = let same : found ≡ n = grind (arith, nat_tests) in ap Some same

      there : (found_with_id id (at_number entries n) ≡ true) ⊎ (n ≡ next)
          → number_of_id numbers id ≡ Some n
      there (inl own) = only (number_of_id numbers id) (sound.numbered id n ∙ own)
      there (inr fresh) = absurd (old fresh)

      by : (b : Bool) → bytes_eq id other ≡ b → number_of_id reserved other
          ≡ cond b (Some n) (number_of_id reserved other)
      by true p =
          ap (number_of_id reserved) (sym (same_text id other (sym p))) ∙ reordered id
          ∙ there h.which
      by false p = refl

  -- an endpoint was put in
  module _ (all : Numbers) (e : EndpointParts) (id : List ℕ) (n : ℕ) (own : id ≡ e.id)
      (h : IsNumberFor (record { entries = entries; next = next }) e.id n)
      (set : IsSetAt entries new n (Some e))
      (led : (other : List ℕ) → number_of_id all other
      ≡ cond (bytes_eq id other) (Some n) (number_of_id reserved other))
      (sorted : IsStrictlySortedBy nat_cmp (keys_of new)) where
    pub sound_put : (after : ℕ) → next ≤ after → n < after → IsNumbered new all after
    sound_put after grown within =
        sound_after_put entries numbers next sound e n h new all after set
        (λ other. led other
        ∙ ap (λ x. cond (bytes_eq x other) (Some n) (number_of_id reserved other)) own
        ∙ ap (cond (bytes_eq e.id other) (Some n)) (reordered other)) sorted grown within

    pub put_among : new ≡ tree.insert_entry nat_cmp entries n e
        → IsPut (by_id entries) (by_id new) e
    put_among put =
        put_by_id entries new numbers all next (next + (n + 1)) e n sound h put
        (sound_put (next + (n + 1)) (omega arith) (omega arith))
