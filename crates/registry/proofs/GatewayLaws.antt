-- The gateway that is computed, as a relation.
use Rattle.std.proofs.Common.{◌≡◌, ℕ, ◌<◌, ◌≤◌, Bool, true, false, not, ◌&&◌, nat_lt, List, length, get_or, slice_get, filter, find, refl, sym, ap, ◌∙◌, arith}
use Rattle.std.specs.Prelude.{Option, Some, None, is_some}
use Rattle.std.specs.List.{list_any, position_or_len}
use Rattle.std.proofs.lemmas.Bool.{both_ways, and_parts, and_from, false_from_ne_true}
use Rattle.std.proofs.lemmas.Bool.Decides.{nat_tests}
use Rattle.std.proofs.lemmas.List.Folds.{find_at}
use Rattle.std.proofs.lemmas.List.Sums.{fails_before_first, position_or_len_is}
use Rattle.std.proofs.lemmas.Map.Keys.{any_passes_from_place}
use Rattle.std.proofs.lemmas.Option.{get_or_from_slice_get, slice_get-get_or, slice_get_within}
use Rattle.gk_terms.proofs.ChoiceLemmas.{find_passes, first_unbeaten-none, IsRankOrder-by}
use Rattle.registry.specs.Endpoint.{EndpointParts}
use Rattle.registry.specs.Gateway.{is_candidate, has_greater, gateway_by, IsChosenBy}
use Rattle.registry.proofs.FindLemmas.{is_some-find}
use Rattle.registry.proofs.GatewayLemmas.{find-filter, any-filter}

module _ (priority : List ℕ → ℕ) (endpoints : List EndpointParts) (zone prefix : List ℕ) where
  abbrev able : EndpointParts → Bool
  able = is_candidate priority zone prefix

  abbrev beats_able : EndpointParts → EndpointParts → Bool
  beats_able e f = able f && has_greater priority f e

  abbrev beaten : EndpointParts → Bool
  beaten e = list_any (λ f. has_greater priority f e) (filter able endpoints)

  abbrev best : EndpointParts → Bool
  best e = able e && not (beaten e)

  computed : gateway_by priority endpoints zone prefix ≡ find best endpoints
  computed = find-filter able (λ e. not (beaten e)) endpoints

  -- who is listed as a candidate with a greater priority beats
  beaten_by : (e f : EndpointParts) (k : ℕ) → slice_get endpoints k ≡ Some f → able f ≡ true
      → priority e.id < priority f.id → beaten e ≡ true
  beaten_by e f k there passes less =
      any-filter able (λ g. has_greater priority g e) endpoints
      ∙ any_passes_from_place (beats_able e) endpoints k f there
      (and_from (able f) (has_greater priority f e) passes (grind (arith, nat_tests)))

  -- who is not beaten has no less than each candidate
  no_less : (e : EndpointParts) → beaten e ≡ false → (k : ℕ) (f : EndpointParts)
      → slice_get endpoints k ≡ Some f → able f ≡ true → priority f.id ≤ priority e.id
  no_less e h k f there passes = by (nat_lt (priority e.id) (priority f.id)) refl
    where
      by : (b : Bool) → nat_lt (priority e.id) (priority f.id) ≡ b → priority f.id ≤ priority e.id
      by true q =
          absurd (both_ways (beaten e) h (beaten_by e f k there passes (grind (arith, nat_tests))))
      by false q = grind (arith, nat_tests)

  off : (b : Bool) → not b ≡ true → b ≡ false
  off true h = absurd (both_ways false refl h)
  off false h = refl

  -- who is beaten has less than a candidate
  pub chosen_from_computed : (e : EndpointParts)
      → gateway_by priority endpoints zone prefix ≡ Some e
      → IsChosenBy priority endpoints zone prefix e
  chosen_from_computed e h =
      let found = sym computed ∙ h in
      let both = and_parts (able e) (not (beaten e)) (find_passes best endpoints e found) in
      let unbeaten = off (beaten e) both.1 in
      record {
        place = position_or_len best endpoints;
        listed = sym (find_at best endpoints) ∙ found;
        candidate = both.0;
        greatest = no_less e unbeaten;
        first = λ k f before there passes.
            less unbeaten f
            (fails (able f) (beaten f) passes
            (sym (ap best (get_or_from_slice_get endpoints k f e there))
            ∙ fails_before_first best endpoints k e before));
      }
    where
      fails : (a b : Bool) → a ≡ true → (a && not b) ≡ false → b ≡ true
      fails true true h k = refl
      fails true false h k = absurd (both_ways true k refl)
      fails false b h k = absurd (both_ways false refl h)

      less : beaten e ≡ false → (f : EndpointParts) → beaten f ≡ true
          → priority f.id < priority e.id
      less unbeaten f h =
          by (find (beats_able f) endpoints) refl
        where
          any : list_any (beats_able f) endpoints ≡ true
          any = sym (any-filter able (λ g. has_greater priority g f) endpoints) ∙ h

          by : (found : Option EndpointParts) → find (beats_able f) endpoints ≡ found
              → priority f.id < priority e.id
          by None k =
              absurd (both_ways false refl
              (ap is_some (sym k) ∙ is_some-find (beats_able f) endpoints ∙ any))
          by (Some g) k =
              let parts = and_parts (able g) (has_greater priority g f)
              (find_passes (beats_able f) endpoints g k) in
              let more = parts.1 in
              let most = no_less e unbeaten (position_or_len (beats_able f) endpoints) g
              (sym (find_at (beats_able f) endpoints) ∙ k) parts.0 in
              grind (arith, nat_tests)

  pub computed_from_chosen : (e : EndpointParts) → IsChosenBy priority endpoints zone prefix e
      → gateway_by priority endpoints zone prefix ≡ Some e
  computed_from_chosen e h =
      let within = slice_get_within endpoints h.place e h.listed in
      computed ∙ find_at best endpoints
      ∙ ap (slice_get endpoints)
      (position_or_len_is best endpoints h.place e (omega (arith, within)) (fails within)
      (λ _. ap best (get_or_from_slice_get endpoints h.place e e h.listed)
      ∙ and_from (able e) (not (beaten e)) h.candidate (ap not unbeaten)))
      ∙ h.listed
    where
      unbeaten : beaten e ≡ false
      unbeaten = false_from_ne_true (beaten e) (λ k. by k (find (beats_able e) endpoints) refl)
        where
          by : beaten e ≡ true → (found : Option EndpointParts)
              → find (beats_able e) endpoints ≡ found → ⊥
          by k None found =
              both_ways false refl
              (ap is_some (sym found) ∙ is_some-find (beats_able e) endpoints
              ∙ sym (any-filter able (λ g. has_greater priority g e) endpoints) ∙ k)
          by k (Some g) found =
              let parts = and_parts (able g) (has_greater priority g e)
              (find_passes (beats_able e) endpoints g found) in
              let more = parts.1 in
              let most = h.greatest (position_or_len (beats_able e) endpoints) g
              (sym (find_at (beats_able e) endpoints) ∙ found) parts.0 in
              let never : ⊥ = grind (arith, nat_tests) in never

      fails : h.place < length endpoints → (k : ℕ) → k < h.place
          → best (get_or endpoints k e) ≡ false
      fails within k before = by (able (get_or endpoints k e)) refl
        where
          there : slice_get endpoints k ≡ Some (get_or endpoints k e)
          there = slice_get-get_or endpoints k e (omega (arith, within, before))

          by : (b : Bool) → able (get_or endpoints k e) ≡ b
              → best (get_or endpoints k e) ≡ false
          by false q = ap (λ b. b && not (beaten (get_or endpoints k e))) q
          by true q =
              ap (λ b. b && not (beaten (get_or endpoints k e))) q
              ∙ ap not (beaten_by (get_or endpoints k e) e h.place h.listed h.candidate
              (h.first k (get_or endpoints k e) before there q))

  pub none_computed : gateway_by priority endpoints zone prefix ≡ None → (k : ℕ) (e : EndpointParts)
      → slice_get endpoints k ≡ Some e → able e ≡ false
  none_computed h k e there =
      let empty = first_unbeaten-none (has_greater priority) (IsRankOrder-by (λ f. priority f.id))
      (filter able endpoints) h in
      false_from_ne_true (able e)
      (λ passes. both_ways (list_any (λ _. true) (filter able endpoints))
      (ap (list_any (λ _. true)) empty)
      (any-filter able (λ _. true) endpoints
      ∙ any_passes_from_place (λ f. able f && true) endpoints k e there
      (and_from (able e) true passes refl)))

  pub no_candidate : ((k : ℕ) (e : EndpointParts) → slice_get endpoints k ≡ Some e → able e ≡ false)
      → gateway_by priority endpoints zone prefix ≡ None
  no_candidate h = computed ∙ by (find best endpoints) refl
    where
      by : (found : Option EndpointParts) → find best endpoints ≡ found → found ≡ None
      by None k = refl
      by (Some e) k =
          absurd (both_ways (able e)
          (h (position_or_len best endpoints) e (sym (find_at best endpoints) ∙ k))
          (and_parts (able e) (not (beaten e)) (find_passes best endpoints e k)).0)
