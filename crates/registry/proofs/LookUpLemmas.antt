-- What is found by ID and by number, as tests of the list of endpoints see it.
use Rattle.std.proofs.Common.{◌≡◌, ℕ, zero, suc, Bool, true, false, cond, ◌&&◌, ◌||◌, List, [], ◌∷◌, find, slice_get, refl, sym, ap, ◌∙◌}
use Rattle.std.specs.Prelude.{Option, Some, None, not, is_some, bytes_eq}
use Rattle.std.specs.List.{AllByRecursion, IsDistinct, list_any, position_or_len}
use Rattle.std.specs.Map.{lookup, keys_of, values_of}
use Rattle.std.specs.Cmp.Lexicographic.{same_text}
use Rattle.std.proofs.lemmas.Bool.{both_ways, and_parts}
use Rattle.std.proofs.lemmas.Cmp.{nat_list_eq_equiv}
use Rattle.std.proofs.lemmas.List.Folds.{find_at}
use Rattle.std.proofs.lemmas.Option.{none-some, same_Some}
use Rattle.std.proofs.lemmas.Map.{lookup-none}
use Rattle.std.proofs.lemmas.Map.Entries.{none_past_head}
use Rattle.std.proofs.lemmas.Map.Keys.{IsDistinct-tail}
use Rattle.gk_terms.proofs.ChoiceLemmas.{find_passes}
use Rattle.registry.specs.Endpoint.{EndpointParts}
use Rattle.registry.specs.Registration.{has_id, endpoint_of, is_registered, same_address, id_is_taken}
use Rattle.registry.specs.NumberedEndpoints.{Entries, Numbered, by_id, kept_endpoint_of}
use Rattle.registry.proofs.FindLemmas.{is_some-find, found-some, found-none}

-- ---- by ID
abbrev pub Keyed : Entries → Type 0
Keyed entries = AllByRecursion (λ e. e.0 ≡ e.1.id) entries

pub same_id : (id : List ℕ) (e : List ℕ × EndpointParts) → e.0 ≡ e.1.id
    → bytes_eq id e.0 ≡ has_id id e.1
same_id id e h = ap (bytes_eq id) h ∙ nat_list_eq_equiv.symm id e.1.id

-- endpoints by number are the same by ID
pub values-by_id : (entries : Numbered) → values_of (by_id entries) ≡ values_of entries
values-by_id [] = refl
values-by_id (e ∷ es) = ap (λ xs. e.1 ∷ xs) (values-by_id es)

pub Keyed-by_id : (entries : Numbered) → Keyed (by_id entries)
Keyed-by_id [] = tt
Keyed-by_id (e ∷ es) = (refl, Keyed-by_id es)

pub entry_found : (id : List ℕ) (entries : Entries) → Keyed entries
    → kept_endpoint_of entries id ≡ endpoint_of (values_of entries) id
entry_found id [] h = refl
entry_found id (e ∷ es) h = λ j. cond (same_id id e h.0 j) (Some e.1) (entry_found id es h.1 j)

pub entry_registered : (id : List ℕ) (entries : Entries) → Keyed entries
    → is_some (kept_endpoint_of entries id) ≡ is_registered (values_of entries) id
entry_registered id entries h =
    ap is_some (entry_found id entries h)
    ∙ is_some-find (has_id id) (values_of entries)

-- what stands at a place is the entry of its own ID
pub listed_entry : (entries : Entries) → Keyed entries → IsDistinct bytes_eq (keys_of entries)
    → (f : EndpointParts) (i : ℕ) → slice_get (values_of entries) i ≡ Some f
    → kept_endpoint_of entries f.id ≡ Some f
listed_entry [] h d f i there = absurd (none-some f there)
listed_entry (e ∷ es) h d f zero there =
    let same = same_Some e.1 f there in
    let here : bytes_eq f.id e.0 ≡ true = same_id f.id e h.0 ∙ ap (λ g. bytes_eq g.id f.id) same
    ∙ nat_list_eq_equiv.refl f.id in
    ap (λ b. cond b (Some e.1) (kept_endpoint_of es f.id)) here ∙ there
listed_entry (e ∷ es) h d f (suc i) there =
    later (bytes_eq f.id e.0) refl
    (listed_entry es h.1 (IsDistinct-tail bytes_eq e.0 (keys_of es) d) f i there)
  where
    later : (b : Bool) → bytes_eq f.id e.0 ≡ b → kept_endpoint_of es f.id ≡ Some f
        → cond b (Some e.1) (kept_endpoint_of es f.id) ≡ Some f
    later true q rest =
        absurd (none-some f
        (sym (lookup-none (bytes_eq f.id) es (none_past_head nat_list_eq_equiv f.id e es d q))
        ∙ rest))
    later false q rest = rest

-- an entry passes no test that none passes
pub entry_missed : {K : Type 0} (key : K → Bool) (p : EndpointParts → Bool)
    (entries : List (K × EndpointParts)) (f : EndpointParts) → lookup key entries ≡ Some f
    → list_any p (values_of entries) ≡ false → p f ≡ false
entry_missed key p [] f h k = absurd (none-some f h)
entry_missed key p (e ∷ es) f h k =
    by (key e.0) (p e.1) refl h k (entry_missed key p es f)
  where
    by : (b c : Bool) → p e.1 ≡ c → cond b (Some e.1) (lookup key es) ≡ Some f
        → (c || list_any p (values_of es)) ≡ false
        → (lookup key es ≡ Some f → list_any p (values_of es) ≡ false → p f ≡ false)
        → p f ≡ false
    by b true q h k rest = absurd (both_ways true k refl)
    by true false q h k rest = ap p (sym (same_Some e.1 f h)) ∙ q
    by false false q h k rest = rest h k

-- an entry has the ID by which it was found
pub entry_id : (entries : Entries) (id : List ℕ) (f : EndpointParts) → Keyed entries
    → kept_endpoint_of entries id ≡ Some f → bytes_eq f.id id ≡ true
entry_id entries id f h found =
    find_passes (has_id id) (values_of entries) f (sym (entry_found id entries h) ∙ found)

-- ---- tests of what was found
-- whether an endpoint was found, and it passes
abbrev pub found_and : (EndpointParts → Bool) → Option EndpointParts → Bool
found_and test None = false
found_and test (Some e) = test e

module _ (entries : Entries) (keyed : Keyed entries)
    (distinct : IsDistinct bytes_eq (keys_of entries)) where
  -- a test of the endpoint of an ID
  entry_tested : (id : List ℕ) (q : EndpointParts → Bool)
      → list_any (λ f. has_id id f && q f) (values_of entries)
      ≡ found_and q (kept_endpoint_of entries id)
  entry_tested id q =
      by (find (λ f. has_id id f && q f) (values_of entries)) refl (kept_endpoint_of entries id)
      refl
    where
      by : (found : Option EndpointParts)
          → find (λ f. has_id id f && q f) (values_of entries) ≡ found
          → (entry : Option EndpointParts) → kept_endpoint_of entries id ≡ entry
          → list_any (λ f. has_id id f && q f) (values_of entries) ≡ found_and q entry
      by None k None there = found-none (λ f. has_id id f && q f) (values_of entries) k
      by None k (Some g) there =
          let none = found-none (λ f. has_id id f && q f) (values_of entries) k in
          let missed : (has_id id g && q g) ≡ false =
          entry_missed (bytes_eq id) (λ f. has_id id f && q f) entries g there none in
          none ∙ sym missed ∙ ap (λ b. b && q g) (entry_id entries id g keyed there)
      by (Some f) k entry there =
          let both = and_parts (has_id id f) (q f)
          (find_passes (λ f. has_id id f && q f) (values_of entries) f k) in
          let own : kept_endpoint_of entries f.id ≡ Some f =
          listed_entry entries keyed distinct f
          (position_or_len (λ f. has_id id f && q f) (values_of entries))
          (sym (find_at (λ f. has_id id f && q f) (values_of entries)) ∙ k) in
          let here : entry ≡ Some f = sym there
          ∙ ap (kept_endpoint_of entries) (sym (same_text f.id id (sym both.0))) ∙ own in
          found-some (λ f. has_id id f && q f) (values_of entries) f k ∙ sym both.1
          ∙ ap (found_and q) (sym here)

  -- whether the ID is registered from elsewhere
  pub entry_taken : (e : EndpointParts)
      → id_is_taken (values_of entries) e
      ≡ found_and (λ f. not (same_address f.address e.address)) (kept_endpoint_of entries e.id)
  entry_taken e = entry_tested e.id (λ f. not (same_address f.address e.address))
