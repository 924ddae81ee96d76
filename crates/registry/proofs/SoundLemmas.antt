-- What is known of every two endpoints: different IDs, and no alias of both.
use Rattle.std.proofs.Common.{◌≡◌, ℕ, zero, suc, true, false, List, [], ◌∷◌, slice_get, refl, sym, ap, ◌∙◌}
use Rattle.std.specs.Prelude.{Some, bytes_eq}
use Rattle.std.specs.List.{AllByRecursion, IsDistinct}
use Rattle.std.specs.Map.{keys_of, values_of}
use Rattle.std.proofs.lemmas.Bool.{both_ways}
use Rattle.std.proofs.lemmas.Cmp.{nat_list_eq_equiv}
use Rattle.std.proofs.lemmas.Option.{none-some, same_Some}
use Rattle.std.proofs.lemmas.Map.Keys.{IsDistinct-head, IsDistinct-tail}
use Rattle.registry.specs.Endpoint.{EndpointParts, has_alias}
use Rattle.registry.specs.Registration.{HaveDifferentIds, ShareNoAlias}
use Rattle.registry.specs.RegistryIndex.{AliasNumbers, number_of_alias, found_with, IsIndexed}
use Rattle.registry.specs.NumberedEndpoints.{Entries, Numbered, at_number, by_id}
use Rattle.registry.proofs.LookUpLemmas.{Keyed, Keyed-by_id, values-by_id, listed_entry}
use Rattle.registry.proofs.NumberLemmas.{StandsUnder, stands_under, distinct_numbers, only_number, number_found}

-- an endpoint after the first has another ID
other_id : (id : List ℕ) (entries : Entries) (f : EndpointParts) (j : ℕ) → Keyed entries
    → AllByRecursion (λ key. bytes_eq id key ≡ false) (keys_of entries)
    → slice_get (values_of entries) j ≡ Some f → bytes_eq id f.id ≡ false
other_id id [] f j h apart there = absurd (none-some f there)
other_id id (e ∷ es) f zero h apart there =
    ap (bytes_eq id) (sym (h.0 ∙ ap (λ g. g.id) (same_Some e.1 f there))) ∙ apart.0
other_id id (e ∷ es) f (suc j) h apart there = other_id id es f j h.1 apart.1 there

-- the place of an ID
one_place : (entries : Entries) → Keyed entries → IsDistinct bytes_eq (keys_of entries)
    → HaveDifferentIds (values_of entries)
one_place [] h d e f i j at_i at_j same = absurd (none-some e at_i)
one_place (g ∷ gs) h d e f zero zero at_i at_j same = refl
one_place (g ∷ gs) h d e f zero (suc j) at_i at_j same =
    absurd (both_ways (bytes_eq g.0 f.id)
    (other_id g.0 gs f j h.1 (IsDistinct-head bytes_eq g.0 (keys_of gs) d) at_j)
    (ap (λ k. bytes_eq k f.id) (h.0 ∙ ap (λ x. x.id) (same_Some g.1 e at_i) ∙ same)
    ∙ nat_list_eq_equiv.refl f.id))
one_place (g ∷ gs) h d e f (suc i) zero at_i at_j same =
    absurd (both_ways (bytes_eq g.0 e.id)
    (other_id g.0 gs e i h.1 (IsDistinct-head bytes_eq g.0 (keys_of gs) d) at_i)
    (ap (λ k. bytes_eq k e.id) (h.0 ∙ ap (λ x. x.id) (same_Some g.1 f at_j) ∙ sym same)
    ∙ nat_list_eq_equiv.refl e.id))
one_place (g ∷ gs) h d e f (suc i) (suc j) at_i at_j same =
    ap suc (one_place gs h.1 (IsDistinct-tail bytes_eq g.0 (keys_of gs) d) e f i j at_i at_j same)

module _ (entries : Numbered) (alias_numbers : AliasNumbers) (h : IsIndexed entries
    alias_numbers) where
  pub different_ids : HaveDifferentIds (values_of entries)
  different_ids e f i j at_i at_j same =
      one_place (by_id entries) (Keyed-by_id entries) h.distinct e f i j
      (ap (λ xs. slice_get xs i) (values-by_id entries) ∙ at_i)
      (ap (λ xs. slice_get xs j) (values-by_id entries) ∙ at_j) same

  -- what stands at a place stands under a number
  pub stands_at : (f : EndpointParts) (i : ℕ) → slice_get (values_of entries) i ≡ Some f
      → StandsUnder entries f.id f
  stands_at f i there =
      stands_under entries (distinct_numbers entries h.sorted) f.id f
      (listed_entry (by_id entries) (Keyed-by_id entries) h.distinct f i
      (ap (λ xs. slice_get xs i) (values-by_id entries) ∙ there))

  -- an alias of an endpoint leads to its number
  pub leads : (alias : List ℕ) (number : ℕ) (f : EndpointParts)
      → at_number entries number ≡ Some f → has_alias f alias ≡ true
      → number_of_alias alias_numbers alias ≡ Some number
  leads alias number f there has =
      only_number number (number_of_alias alias_numbers alias)
      (h.owned alias number ∙ ap (found_with alias) there ∙ has)

  -- an alias that leads to a number is one of its endpoint
  pub led : (alias : List ℕ) (number : ℕ) → number_of_alias alias_numbers alias ≡ Some number
      → found_with alias (at_number entries number) ≡ true
  led alias number there = sym (h.owned alias number) ∙ number_found number _ there

  pub no_shared_alias : ShareNoAlias (values_of entries)
  no_shared_alias alias e f i j at_i at_j has_e has_f =
      let under_e = stands_at e i at_i in
      let under_f = stands_at f j at_j in
      let one : under_e.number ≡ under_f.number = same_Some under_e.number under_f.number
      (sym (leads alias under_e.number e under_e.there has_e)
      ∙ leads alias under_f.number f under_f.there has_f) in
      let same : e ≡ f = same_Some e f
      (sym under_e.there ∙ ap (at_number entries) one ∙ under_f.there) in
      different_ids e f i j at_i at_j (ap (λ x. x.id) same)
