-- Endpoints by number are the same by ID.
use Rattle.std.proofs.Common.{◌≡◌, inl, inr, ℕ, ◌<◌, Bool, true, false, cond, List, [], ◌∷◌, refl, sym, ap, subst, ◌∙◌, arith}
use Rattle.std.specs.Prelude.{Option, Some, None, MatchOption, ◌⊎◌, is_some, bytes_eq}
use Rattle.std.specs.Ordering.{nat_cmp, eq_by_cmp}
use Rattle.std.specs.Cmp.{unsigned_tied, eq_by_cmp_equiv}
use Rattle.std.specs.BTreeMap.{is_at}
use Rattle.std.specs.List.{AllByRecursion, IsDistinct}
use Rattle.std.specs.List.Sorted.{IsStrictlySortedBy}
use Rattle.std.specs.Map.{keys_of}
use Rattle.std.proofs.lemmas.Bool.{both_ways, false_from_ne_true}
use Rattle.std.proofs.lemmas.Bool.Decides.{nat_tests}
use Rattle.std.proofs.lemmas.Cmp.{nat_list_eq_equiv, nat_cmp_total}
use Rattle.std.proofs.lemmas.Option.{none-some, same_Some}
use Rattle.std.proofs.lemmas.Map.{lookup-none}
use Rattle.std.proofs.lemmas.Map.Entries.{none_past_head}
use Rattle.std.proofs.lemmas.Map.Keys.{IsDistinct-from_sorted, IsDistinct-tail}
use Rattle.registry.specs.Endpoint.{EndpointParts}
use Rattle.registry.specs.Registration.{has_id}
use Rattle.registry.specs.NumberedEndpoints.{Numbered, Numbers, at_number, number_of_id, by_id, is_number, found_with_id, IsNumbered, IsNumberFor, kept_endpoint_of}

-- ---- numbers
same : ℕ → ℕ → Bool
same a b = is_at (nat_cmp a) b

abbrev HaveDistinctNumbers : Numbered → Type 0
HaveDistinctNumbers entries = IsDistinct (eq_by_cmp nat_cmp) (keys_of entries)

pub same_number : (a b : ℕ) → is_at (nat_cmp a) b ≡ true → a ≡ b
same_number a b h = let tied = unsigned_tied a b in grind (arith, nat_tests)

pub number_itself : (a : ℕ) → is_at (nat_cmp a) a ≡ true
number_itself a = (eq_by_cmp_equiv nat_cmp_total).refl a

-- a number that is found is the only one
pub only_number : (number : ℕ) (found : Option ℕ) → is_number number found ≡ true
    → found ≡ Some number
only_number number None h = absurd (both_ways false refl h)
only_number number (Some other) h =
    ap (λ x. Some x) (same_number other number (unsigned_tied other number ∙ h))

pub number_found : (number : ℕ) (found : Option ℕ) → found ≡ Some number
    → is_number number found ≡ true
number_found number found h =
    ap (is_number number) h ∙ sym (unsigned_tied number number) ∙ number_itself number

pub distinct_numbers : (entries : Numbered) → IsStrictlySortedBy nat_cmp (keys_of entries)
    → HaveDistinctNumbers entries
distinct_numbers entries sorted = IsDistinct-from_sorted nat_cmp (keys_of entries) sorted

-- an entry after the first one has another number
later_number : (e : ℕ × EndpointParts) (es : Numbered) → HaveDistinctNumbers (e ∷ es) → (n : ℕ)
    (f : EndpointParts) → at_number es n ≡ Some f → is_at (nat_cmp n) e.0 ≡ false
later_number e es d n f there =
    false_from_ne_true (is_at (nat_cmp n) e.0)
    (λ h. none-some f
    (sym (lookup-none (is_at (nat_cmp n)) es
    (none_past_head (eq_by_cmp_equiv nat_cmp_total) n e es d h)) ∙ there))

-- what is among the later entries is there
pub later : (e : ℕ × EndpointParts) (es : Numbered) → HaveDistinctNumbers (e ∷ es) → (n : ℕ)
    (f : EndpointParts) → at_number es n ≡ Some f → at_number (e ∷ es) n ≡ Some f
later e es d n f there =
    ap (λ b. cond b (Some e.1) (at_number es n)) (later_number e es d n f there) ∙ there

-- the first entry is there
pub first : (e : ℕ × EndpointParts) (es : Numbered) → at_number (e ∷ es) e.0 ≡ Some e.1
first e es = ap (λ b. cond b (Some e.1) (at_number es e.0)) (number_itself e.0)

-- what is true of each number's endpoint is true of each entry
pub each_entry : (P : ℕ → EndpointParts → Type 0) (entries : Numbered)
    → HaveDistinctNumbers entries
    → ((n : ℕ) (f : EndpointParts) → at_number entries n ≡ Some f → P n f)
    → AllByRecursion (λ e. P e.0 e.1) entries
each_entry P [] d h = tt
each_entry P (e ∷ es) d h = (
  h e.0 e.1 (first e es),
  each_entry P es (IsDistinct-tail (eq_by_cmp nat_cmp) e.0 (keys_of es) d)
      (λ n f there. h n f (later e es d n f there)),
)

-- ---- by ID
-- what an ID finds stands under a number, and has the ID
pub record StandsUnder (entries : Numbered) (id : List ℕ) (f : EndpointParts) : Type 0 where
  pub number : ℕ
  pub there : at_number entries number ≡ Some f
  pub own : has_id id f ≡ true

pub stands_under : (entries : Numbered) → HaveDistinctNumbers entries → (id : List ℕ)
    (f : EndpointParts) → kept_endpoint_of (by_id entries) id ≡ Some f → StandsUnder entries id f
stands_under [] d id f h = absurd (none-some f h)
stands_under (e ∷ es) d id f h =
    by (bytes_eq id e.1.id) refl h
    (stands_under es (IsDistinct-tail (eq_by_cmp nat_cmp) e.0 (keys_of es) d) id f)
  where
    by : (b : Bool) → bytes_eq id e.1.id ≡ b
        → cond b (Some e.1) (kept_endpoint_of (by_id es) id) ≡ Some f
        → (kept_endpoint_of (by_id es) id ≡ Some f → StandsUnder es id f)
        → StandsUnder (e ∷ es) id f
    by true q found rest = record {
      number = e.0;
      there = first e es ∙ found;
      own = ap (has_id id) (sym (same_Some e.1 f found)) ∙ nat_list_eq_equiv.symm e.1.id id ∙ q;
    }
    by false q found rest =
        let under = rest found in
        record {
          number = under.number;
          there = later e es d under.number f under.there;
          own = under.own;
        }

-- an ID that an endpoint has finds one
pub not_missed : (entries : Numbered) (n : ℕ) (id : List ℕ) (f : EndpointParts)
    → at_number entries n ≡ Some f → has_id id f ≡ true
    → kept_endpoint_of (by_id entries) id ≡ None → ⊥
not_missed [] n id f there own none = none-some f there
not_missed (e ∷ es) n id f there own none =
    by (is_at (nat_cmp n) e.0) (bytes_eq id e.1.id) refl there none (not_missed es n id f)
  where
    by : (a b : Bool) → bytes_eq id e.1.id ≡ b → cond a (Some e.1) (at_number es n) ≡ Some f
        → cond b (Some e.1) (kept_endpoint_of (by_id es) id) ≡ None
        → (at_number es n ≡ Some f → has_id id f ≡ true
        → kept_endpoint_of (by_id es) id ≡ None → ⊥) → ⊥
    by a true q found missed rest = none-some e.1 (sym missed)
    by true false q found missed rest =
        both_ways (bytes_eq id e.1.id) q
        (nat_list_eq_equiv.symm id e.1.id ∙ ap (has_id id) (same_Some e.1 f found) ∙ own)
    by false false q found missed rest = rest found own missed

module _ (entries : Numbered) (numbers : Numbers) (next : ℕ)
    (sound : IsNumbered entries numbers next) where
  -- the endpoint of a number, if it has an ID
  pub own_endpoint : (id : List ℕ) (n : ℕ) → found_with_id id (at_number entries n) ≡ true
      → (found : Option EndpointParts) → at_number entries n ≡ found
      → (P : Type 0)
      → ((g : EndpointParts) → at_number entries n ≡ Some g → bytes_eq g.id id ≡ true → P)
      → P
  own_endpoint id n own None at P f =
      absurd (both_ways false refl (ap (found_with_id id) (sym at) ∙ own))
  own_endpoint id n own (Some g) at P f = f g at (ap (found_with_id id) (sym at) ∙ own)

  -- the endpoint with an ID stands under the number of that ID
  pub kept_under : (id : List ℕ) (number : ℕ) → number_of_id numbers id ≡ Some number
      → kept_endpoint_of (by_id entries) id ≡ at_number entries number
  kept_under id number known =
      by (at_number entries number) refl (kept_endpoint_of (by_id entries) id) refl
    where
      own : found_with_id id (at_number entries number) ≡ true
      own = sym (sound.numbered id number) ∙ ap (is_number number) known
          ∙ sym (unsigned_tied number number) ∙ number_itself number

      by : (at : Option EndpointParts) → at_number entries number ≡ at
          → (kept : Option EndpointParts) → kept_endpoint_of (by_id entries) id ≡ kept → kept ≡ at
      by None at kept k = absurd (both_ways false refl (ap (found_with_id id) (sym at) ∙ own))
      by (Some g) at None k =
          absurd (not_missed entries number id g at (ap (found_with_id id) (sym at) ∙ own) k)
      by (Some g) at (Some f) k =
          let under = stands_under entries (distinct_numbers entries sound.sorted) id f k in
          let found : is_number under.number (number_of_id numbers id) ≡ true =
          sound.numbered id under.number ∙ ap (found_with_id id) under.there ∙ under.own in
          let one : number ≡ under.number = same_number number under.number
          (unsigned_tied number under.number ∙ ap (is_number under.number) (sym known) ∙ found) in
          sym under.there ∙ ap (at_number entries) (sym one) ∙ at

  -- without a number there is no endpoint
  pub kept_nowhere : (id : List ℕ) → number_of_id numbers id ≡ None
      → kept_endpoint_of (by_id entries) id ≡ None
  kept_nowhere id unknown = by (kept_endpoint_of (by_id entries) id) refl
    where
      by : (kept : Option EndpointParts) → kept_endpoint_of (by_id entries) id ≡ kept
          → kept ≡ None
      by None k = refl
      by (Some f) k =
          let under = stands_under entries (distinct_numbers entries sound.sorted) id f k in
          absurd (both_ways false refl
          (ap (is_number under.number) (sym unknown) ∙ sound.numbered id under.number
          ∙ ap (found_with_id id) under.there ∙ under.own))

  -- an ID is that of an endpoint exactly if it has a number
  pub known_is_kept : (id : List ℕ)
      → is_some (number_of_id numbers id) ≡ is_some (kept_endpoint_of (by_id entries) id)
  known_is_kept id = by (number_of_id numbers id) refl
    where
      there : (at : Option EndpointParts) → found_with_id id at ≡ true → is_some at ≡ true
      there None h = absurd (both_ways false refl h)
      there (Some g) h = refl

      by : (o : Option ℕ) → number_of_id numbers id ≡ o
          → is_some o ≡ is_some (kept_endpoint_of (by_id entries) id)
      by None h = sym (ap is_some (kept_nowhere id h))
      by (Some n) h =
          let own : found_with_id id (at_number entries n) ≡ true =
          sym (sound.numbered id n) ∙ ap (is_number n) h
          ∙ sym (unsigned_tied n n) ∙ number_itself n in
          sym (ap is_some (kept_under id n h) ∙ there (at_number entries n) own)

  -- the number for an ID
  pub known_number : (id : List ℕ) (number : ℕ) → number_of_id numbers id ≡ Some number
      → IsNumberFor (record { entries = entries; next = next }) id number
  known_number id number known = record {
    only = λ other own.
        sym (same_number number other
        (unsigned_tied number other ∙ ap (is_number other) (sym known)
        ∙ sound.numbered id other ∙ own));
    which = inl (sym (sound.numbered id number) ∙ ap (is_number number) known
        ∙ sym (unsigned_tied number number) ∙ number_itself number);
  }

  -- a number is never greater than the next one
  pub number_within : (id : List ℕ) (number : ℕ) → number_of_id numbers id ≡ Some number
      → number < next
  number_within id number known =
      by (at_number entries number) refl
      (sym (sound.numbered id number) ∙ ap (is_number number) known
      ∙ sym (unsigned_tied number number) ∙ number_itself number)
    where
      by : (at : Option EndpointParts) → at_number entries number ≡ at
          → found_with_id id at ≡ true → number < next
      by None at own = absurd (both_ways false refl own)
      by (Some g) at own = sound.below number g at

  -- no two endpoints have one ID
  one_number : (n m : ℕ) (f g : EndpointParts) → at_number entries n ≡ Some f
      → at_number entries m ≡ Some g → bytes_eq f.id g.id ≡ true → is_at (nat_cmp n) m ≡ true
  one_number n m f g at_n at_m alike =
      by (number_of_id numbers g.id)
      (sound.numbered g.id n ∙ ap (found_with_id g.id) at_n ∙ alike)
      (sound.numbered g.id m ∙ ap (found_with_id g.id) at_m ∙ nat_list_eq_equiv.refl g.id)
    where
      by : (found : Option ℕ) → is_number n found ≡ true → is_number m found ≡ true
          → is_at (nat_cmp n) m ≡ true
      by None h k = absurd (both_ways false refl h)
      by (Some x) h k =
          let at : x ≡ n = same_number x n (unsigned_tied x n ∙ h) in
          subst (λ y. is_at (nat_cmp y) m ≡ true) at (unsigned_tied x m ∙ k)

-- no ID is twice
distinct_from : (entries : Numbered) → HaveDistinctNumbers entries
    → ((n m : ℕ) (f g : EndpointParts) → at_number entries n ≡ Some f → at_number entries m ≡ Some g
    → bytes_eq f.id g.id ≡ true → is_at (nat_cmp n) m ≡ true)
    → IsDistinct bytes_eq (keys_of (by_id entries))
unfolding IsDistinct
distinct_from [] d one = tt
distinct_from (e ∷ es) d one = (
  apart es (each_entry (λ n f. bytes_eq e.1.id f.id ≡ false) es
      (IsDistinct-tail (eq_by_cmp nat_cmp) e.0 (keys_of es) d)
      (λ n f there. false_from_ne_true (bytes_eq e.1.id f.id)
      (λ alike. both_ways (is_at (nat_cmp n) e.0) (later_number e es d n f there)
      (one n e.0 f e.1 (later e es d n f there) (first e es)
      (nat_list_eq_equiv.symm f.id e.1.id ∙ alike))))),
  distinct_from es (IsDistinct-tail (eq_by_cmp nat_cmp) e.0 (keys_of es) d)
      (λ n m f g at_n at_m. one n m f g (later e es d n f at_n) (later e es d m g at_m)),
)
  where
    apart : (fs : Numbered) → AllByRecursion (λ f. bytes_eq e.1.id f.1.id ≡ false) fs
        → AllByRecursion (λ y. bytes_eq e.1.id y ≡ false) (keys_of (by_id fs))
    apart [] h = tt
    apart (f ∷ fs) h = (h.0, apart fs h.1)

pub distinct_ids : (entries : Numbered) (numbers : Numbers) (next : ℕ) → IsNumbered entries numbers
    next
    → IsDistinct bytes_eq (keys_of (by_id entries))
distinct_ids entries numbers next sound =
    distinct_from entries (distinct_numbers entries sound.sorted)
    (one_number entries numbers next sound)

-- what is known of the number of an ID
pub known_or_not : (entries : Numbered) (numbers : Numbers) (next : ℕ) → IsNumbered entries numbers
    next
    → (id : List ℕ) (found : Option ℕ) → number_of_id numbers id ≡ found
    → MatchOption found (kept_endpoint_of (by_id entries) id ≡ None)
    (λ number. (IsNumberFor (record { entries = entries; next = next }) id number)
    × (kept_endpoint_of (by_id entries) id ≡ at_number entries number))
known_or_not entries numbers next sound id None h = kept_nowhere entries numbers next sound id h
known_or_not entries numbers next sound id (Some n) h =
    (known_number entries numbers next sound id n h, kept_under entries numbers next sound id n h)

-- a number that is not the next one is less
pub less_than_next : (entries : Numbered) (numbers : Numbers) (next : ℕ)
    → IsNumbered entries numbers next
    → (id : List ℕ) (n : ℕ) → IsNumberFor (record { entries = entries; next = next }) id n
    → (n ≡ next → ⊥) → n < next
less_than_next entries numbers next sound id n h apart = by h.which
  where
    by : (found_with_id id (at_number entries n) ≡ true) ⊎ (n ≡ next) → n < next
    by (inl own) =
        own_endpoint entries numbers next sound id n own (at_number entries n) refl (n < next)
        (λ g at has. sound.below n g at)
    by (inr fresh) = absurd (apart fresh)

-- the next number is no endpoint's
pub next_is_free : (entries : Numbered) (numbers : Numbers) (next : ℕ) → IsNumbered entries numbers
    next
    → at_number entries next ≡ None
next_is_free entries numbers next sound = by (at_number entries next) refl
  where
    by : (found : Option EndpointParts) → at_number entries next ≡ found → found ≡ None
    by None h = refl
    by (Some f) h =
        let low = sound.below next f h in
        let never : ⊥ = omega (arith, low) in absurd never
