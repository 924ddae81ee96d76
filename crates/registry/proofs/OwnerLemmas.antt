-- The endpoint to which an alias leads, and what it says of the list of endpoints.
use Rattle.std.proofs.Common.{◌≡◌, ℕ, Bool, true, false, ◌&&◌, List, find, slice_get, refl, sym, ap, ◌∙◌}
use Rattle.std.specs.Prelude.{Option, Some, None, not, is_some, bytes_eq, if◌then◌else◌}
use Rattle.std.specs.Ordering.{nat_cmp}
use Rattle.std.specs.BTreeMap.{is_at}
use Rattle.std.specs.List.{list_any, position_or_len}
use Rattle.std.specs.Map.{values_of}
use Rattle.std.proofs.lemmas.Bool.{both_ways, and_parts}
use Rattle.std.proofs.lemmas.List.Folds.{find_at}
use Rattle.std.proofs.lemmas.Option.{none-some, same_Some}
use Rattle.gk_terms.proofs.ChoiceLemmas.{find_passes}
use Rattle.registry.specs.Endpoint.{EndpointParts, has_alias}
use Rattle.registry.specs.Registration.{has_id, by_alias, alias_is_taken, ShareNoAlias}
use Rattle.registry.specs.RegistryIndex.{AliasNumbers, number_of_alias, found_with, IsIndexed, owner_of, is_of_another}
use Rattle.registry.specs.NumberedEndpoints.{Numbered, at_number}
use Rattle.registry.proofs.FindLemmas.{is_some-find, found-none, missed, any_pair}
use Rattle.registry.proofs.LookUpLemmas.{entry_missed, found_and}
use Rattle.registry.proofs.SoundLemmas.{stands_at, leads, led}

-- ---- where an alias leads
module _ (entries : Numbered) (alias_numbers : AliasNumbers) (h : IsIndexed entries alias_numbers)
    (alias : List ℕ) where
  -- the owner stands under the number to which the alias leads
  owner_stands : (f : EndpointParts) → owner_of (values_of entries) alias ≡ Some f
      → (number : ℕ) × (number_of_alias alias_numbers alias ≡ Some number)
      × (at_number entries number ≡ Some f)
  owner_stands f found =
      let under = stands_at entries alias_numbers h f
      (position_or_len (λ e. has_alias e alias) (values_of entries))
      (sym (find_at (λ e. has_alias e alias) (values_of entries)) ∙ found) in (
        under.number,
        leads entries alias_numbers h alias under.number f under.there
            (find_passes (λ e. has_alias e alias) (values_of entries) f found),
        under.there,
      )

  -- an alias leads to the number of its owner
  pub led_to_owner : (number : ℕ) → number_of_alias alias_numbers alias ≡ Some number
      → at_number entries number ≡ owner_of (values_of entries) alias
  led_to_owner number leads_there = by (owner_of (values_of entries) alias) refl
    where
      none : owner_of (values_of entries) alias ≡ None
          → (at : Option EndpointParts) → at_number entries number ≡ at
          → found_with alias at ≡ true → at ≡ None
      none k None there has = refl
      none k (Some g) there has =
          absurd (both_ways (has_alias g alias)
          (entry_missed (is_at (nat_cmp number)) (λ e. has_alias e alias) entries g there
          (found-none (λ e. has_alias e alias) (values_of entries) k)) has)

      by : (found : Option EndpointParts) → owner_of (values_of entries) alias ≡ found
          → at_number entries number ≡ found
      by None k =
          none k (at_number entries number) refl (led entries alias_numbers h alias number
          leads_there)
      by (Some f) k =
          let own = owner_stands f k in
          ap (at_number entries) (same_Some number own.0 (sym leads_there ∙ own.1)) ∙ own.2

  -- one that leads nowhere has no owner
  pub led_nowhere : number_of_alias alias_numbers alias ≡ None
      → owner_of (values_of entries) alias ≡ None
  led_nowhere nowhere = by (owner_of (values_of entries) alias) refl
    where
      by : (found : Option EndpointParts) → owner_of (values_of entries) alias ≡ found
          → found ≡ None
      by None k = refl
      by (Some f) k =
          let own = owner_stands f k in absurd (none-some own.0 (sym nowhere ∙ own.1))

-- ---- what its owner says of an alias
-- the endpoint that was found, if it passes
abbrev found_if : (EndpointParts → Bool) → Option EndpointParts → Option EndpointParts
found_if test None = None
found_if test (Some e) = if test e then Some e else None

module _ (endpoints : List EndpointParts) (unshared : ShareNoAlias endpoints)
    (alias : List ℕ) where
  -- whoever has the alias is its owner
  owns : (p : EndpointParts → Bool) (f : EndpointParts) → find p endpoints ≡ Some f
      → has_alias f alias ≡ true → owner_of endpoints alias ≡ Some f
  owns p f found has = by (owner_of endpoints alias) refl
    where
      by : (owner : Option EndpointParts) → owner_of endpoints alias ≡ owner → owner ≡ Some f
      by None k =
          absurd (both_ways (has_alias f alias)
          (missed p (λ e. has_alias e alias) endpoints f found k) has)
      by (Some g) k =
          let at_f : slice_get endpoints (position_or_len p endpoints) ≡ Some f =
          sym (find_at p endpoints) ∙ found in
          let at_g : slice_get endpoints
          (position_or_len (λ e. has_alias e alias) endpoints) ≡ Some g =
          sym (find_at (λ e. has_alias e alias) endpoints) ∙ k in
          let one = unshared alias f g (position_or_len p endpoints)
          (position_or_len (λ e. has_alias e alias) endpoints) at_f at_g has
          (find_passes (λ e. has_alias e alias) endpoints g k) in
          sym at_g ∙ ap (slice_get endpoints) (sym one) ∙ at_f

  -- the one that passes a test and has the alias is its owner, if that passes
  owner_if : (test : EndpointParts → Bool)
      → find (λ e. test e && has_alias e alias) endpoints
      ≡ found_if test (owner_of endpoints alias)
  owner_if test =
      by (find (λ e. test e && has_alias e alias) endpoints) refl (owner_of endpoints alias) refl
    where
      left : (a b : Bool) → b ≡ true → (a && b) ≡ false → a ≡ false
      left true b e f = sym e ∙ f
      left false b e f = refl

      by : (found : Option EndpointParts)
          → find (λ e. test e && has_alias e alias) endpoints ≡ found
          → (owner : Option EndpointParts) → owner_of endpoints alias ≡ owner
          → found ≡ found_if test owner
      by None k None w = refl
      by None k (Some g) w =
          sym (ap (λ b. if b then Some g else None)
          (left (test g) (has_alias g alias) (find_passes (λ e. has_alias e alias) endpoints g w)
          (missed (λ e. has_alias e alias) (λ e. test e && has_alias e alias) endpoints g w k)))
      by (Some f) k owner w =
          let both = and_parts (test f) (has_alias f alias)
          (find_passes (λ e. test e && has_alias e alias) endpoints f k) in
          sym (ap (found_if test)
          (sym w ∙ owns (λ e. test e && has_alias e alias) f k both.1)
          ∙ ap (λ b. if b then Some f else None) both.0)

  -- the endpoint of a zone with the alias
  pub owner_in_zone : (zone : List ℕ)
      → by_alias endpoints zone alias
      ≡ found_if (λ e. bytes_eq e.zone zone) (owner_of endpoints alias)
  owner_in_zone zone = owner_if (λ e. bytes_eq e.zone zone)

  -- whether the alias is that of an endpoint with another ID
  pub anothers : (id : List ℕ)
      → is_of_another endpoints id alias
      ≡ found_and (λ e. not (has_id id e)) (owner_of endpoints alias)
  anothers id =
      sym (is_some-find (λ e. not (has_id id e) && has_alias e alias) endpoints)
      ∙ ap is_some (owner_if (λ e. not (has_id id e)))
      ∙ by (owner_of endpoints alias)
    where
      passes : (b : Bool) (e : EndpointParts) → is_some (if b then Some e else None) ≡ b
      passes true e = refl
      passes false e = refl

      by : (owner : Option EndpointParts)
          → is_some (found_if (λ e. not (has_id id e)) owner)
          ≡ found_and (λ e. not (has_id id e)) owner
      by None = refl
      by (Some e) = passes (not (has_id id e)) e

-- an endpoint's aliases, looked at one by one
pub aliases_taken : (endpoints : List EndpointParts) (e : EndpointParts)
    → alias_is_taken endpoints e ≡ list_any (is_of_another endpoints e.id) e.aliases
aliases_taken endpoints e =
    any_pair (λ f. not (has_id e.id f)) (λ f. has_alias f) endpoints e.aliases
