-- The first gateway that is not named, and the default priority that it has.
use Rattle.std.proofs.Common.{◌≡◌, inr, ℕ, ◌+◌, ◌<◌, ◌≤◌, ◌==◌, Bool, true, false, not, cond, ◌&&◌, ◌||◌, nat_lt, List, [], ◌∷◌, refl, sym, ap, ◌∙◌, arith}
use Rattle.std.specs.Prelude.{Option, Some, None, is_some, unwrap_or, bytes_eq}
use Rattle.std.specs.List.{list_any}
use Rattle.std.specs.Map.{keys_of, lookup}
use Rattle.std.proofs.lemmas.Bool.{both_ways, and_parts}
use Rattle.std.proofs.lemmas.Bool.Decides.{nat_tests}
use Rattle.std.proofs.lemmas.Option.{same_Some}
use Rattle.compiler.specs.declared.plans.TheConstants.{DEFAULT_GATEWAY_PRIORITY}
use Rattle.compiler.specs.Priority.{named_priority}
use Rattle.registry.specs.Endpoint.{EndpointParts}
use Rattle.registry.specs.Gateway.{serves, is_candidate}
use Rattle.registry.specs.NumberedEndpoints.{Numbered, at_number}
use Rattle.registry.specs.Served.{found_serving}
use Rattle.registry.specs.RegistryIndex.{NoneServes, IsNextServing}
use Rattle.registry.specs.Chosen.{Named, is_other_than, IsBestGateway, IsBestAt}

-- whether an ID is named
pub is_named : (id : List ℕ) (named : Named)
    → is_some (lookup (bytes_eq id) named) ≡ list_any (bytes_eq id) (keys_of named)
is_named id [] = refl
is_named id (e ∷ es) = by (bytes_eq id e.0) (is_named id es)
  where
    by : (b : Bool) → is_some (lookup (bytes_eq id) es) ≡ list_any (bytes_eq id) (keys_of es)
        → is_some (cond b (Some e.1) (lookup (bytes_eq id) es))
        ≡ (b || list_any (bytes_eq id) (keys_of es))
    by true rest = refl
    by false rest = rest

-- who is not named has the default priority
pub default_priority : (id : List ℕ) (named : Named)
    → list_any (bytes_eq id) (keys_of named) ≡ false
    → named_priority named id ≡ DEFAULT_GATEWAY_PRIORITY
default_priority id named h = by (lookup (bytes_eq id) named) (is_named id named ∙ h)
  where
    by : (found : Option ℕ) → is_some found ≡ false
        → unwrap_or found DEFAULT_GATEWAY_PRIORITY ≡ DEFAULT_GATEWAY_PRIORITY
    by None k = refl
    by (Some p) k = absurd (both_ways true k refl)

module _ (entries : Numbered) (named : Named) (zone prefix : List ℕ) where
  abbrev test_of : List (List ℕ) → EndpointParts → Bool
  test_of ids = is_other_than named zone prefix ids

  abbrev is_able : EndpointParts → Bool
  is_able = is_candidate (named_priority named) zone prefix

  -- up to here each that serves is named
  abbrev pub AllNamedBefore : ℕ → Type 0
  AllNamedBefore from =
      (n : ℕ) (e : EndpointParts) → at_number entries n ≡ Some e → n < from
      → test_of (keys_of named) e ≡ false

  -- who does not serve passes no test
  fails_unserved : (ids : List (List ℕ)) (e : EndpointParts) → serves zone prefix e ≡ false
      → test_of ids e ≡ false
  fails_unserved ids e h =
      ap (λ b. (b && nat_lt 0 (named_priority named e.id)) && not (list_any (bytes_eq e.id) ids)) h

  none_between : (from number : ℕ) → IsNextServing entries zone prefix from number
      → AllNamedBefore from → AllNamedBefore number
  none_between from number next before n e there less = by (nat_lt n from) refl
    where
      by : (b : Bool) → nat_lt n from ≡ b → test_of (keys_of named) e ≡ false
      by true q = before n e there (grind (arith, nat_tests))
      by false q =
          fails_unserved (keys_of named) e
          (ap (λ found. found_serving found zone prefix) (sym there)
          ∙ next.least n (grind (arith, nat_tests)) less)

  -- one that is named is passed by
  pub passed_named : (from number : ℕ) (e : EndpointParts)
      → IsNextServing entries zone prefix from number
      → at_number entries number ≡ Some e → is_some (lookup (bytes_eq e.id) named) ≡ true
      → AllNamedBefore from → AllNamedBefore (number + 1)
  passed_named from number e next there named_so before n f at less = by (n == number) refl
    where
      fails : (b : Bool) → (b && false) ≡ false
      fails true = refl
      fails false = refl

      by : (b : Bool) → (n == number) ≡ b → test_of (keys_of named) f ≡ false
      by true q =
          let one : n ≡ number = grind (arith, nat_tests) in
          let same : e ≡ f = same_Some e f (sym there ∙ ap (at_number entries) (sym one) ∙ at) in
          ap (λ b. is_able f && not b)
          (ap (λ x. list_any (bytes_eq x.id) (keys_of named)) (sym same)
          ∙ sym (is_named e.id named) ∙ named_so)
          ∙ fails (is_able f)
      by false q =
          none_between from number next before n f at (grind (arith, nat_tests))

  -- none is left
  pub none_unnamed : (from : ℕ) → NoneServes entries zone prefix from → AllNamedBefore from
      → IsBestGateway entries named (test_of (keys_of named)) None
  none_unnamed from none before n e there = by (nat_lt n from) refl
    where
      by : (b : Bool) → nat_lt n from ≡ b → test_of (keys_of named) e ≡ false
      by true q = before n e there (grind (arith, nat_tests))
      by false q =
          fails_unserved (keys_of named) e
          (ap (λ found. found_serving found zone prefix) (sym there)
          ∙ none n (grind (arith, nat_tests)))

  -- the first that is not named
  pub found_unnamed : (from number : ℕ) (e : EndpointParts)
      → IsNextServing entries zone prefix from number → at_number entries number ≡ Some e
      → is_some (lookup (bytes_eq e.id) named) ≡ false → AllNamedBefore from
      → IsBestAt entries named (test_of (keys_of named)) DEFAULT_GATEWAY_PRIORITY number
  found_unnamed from number e next there unnamed before =
      let absent = sym (is_named e.id named) ∙ unnamed in
      let its = default_priority e.id named absent in
      record {
        endpoint = e;
        there = there;
        passes =
            ap (λ b. is_able e && not b) absent
            ∙ ap (λ b. (b && nat_lt 0 (named_priority named e.id)) && true)
            (ap (λ found. found_serving found zone prefix) (sym there) ∙ next.there)
            ∙ ap (λ p. nat_lt 0 p && true) its;
        ranked = sym its;
        greatest = λ n f at p.
            let both = and_parts (is_able f) (not (list_any (bytes_eq f.id) (keys_of named))) p in
            inr (
              default_priority f.id named (off (list_any (bytes_eq f.id) (keys_of named)) both.1),
              low n f at p (nat_lt n number) refl,
            );
      }
    where
      off : (b : Bool) → not b ≡ true → b ≡ false
      off true h = absurd (both_ways false refl h)
      off false h = refl

      low : (n : ℕ) (f : EndpointParts) → at_number entries n ≡ Some f
          → test_of (keys_of named) f ≡ true → (b : Bool) → nat_lt n number ≡ b → number ≤ n
      low n f at p true q =
          absurd (both_ways (test_of (keys_of named) f)
          (none_between from number next before n f at (grind (arith, nat_tests))) p)
      low n f at p false q = grind (arith, nat_tests)
