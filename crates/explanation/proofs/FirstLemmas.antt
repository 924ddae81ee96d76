-- The gateway that is chosen stands first among the candidates by priority.
use Rattle.std.proofs.Common.{◌≡◌, ℕ, zero, suc, ◌<◌, ◌≤◌, Bool, true, false, ◌&&◌, cond, nat_lt, List, [], ◌∷◌, ◌++◌, Some, refl, sym, ap, ◌∙◌, arith}
use Rattle.std.specs.Prelude.{Option, None, ◌==◌, slice_get, if◌then◌else◌}
use Rattle.std.specs.List.{list_all}
use Rattle.std.proofs.lemmas.Bool.{and_parts, and_from}
use Rattle.std.proofs.lemmas.Bool.Decides.{nat_tests}
use Rattle.std.proofs.lemmas.List.Folds.{list_all-append}
use Rattle.gk_commands.specs.declared.commands.Command.{Command}
use Rattle.compiler.specs.Priority.{priority_of}
use Rattle.compiler.specs.Rows.{ZoneRow}
use Rattle.registry.specs.Endpoint.{EndpointParts}
use Rattle.registry.specs.Gateway.{gateway_of, is_candidate, serves}
use Rattle.registry.proofs.GatewayLaws.{chosen_from_computed, none_computed}
use Rattle.explanation.specs.declared.steps.Candidate.{Candidate}
use Rattle.explanation.specs.Laws.{ChosenStandsFirst, StandsFirst}
use Rattle.explanation.specs.Steps.{candidates_of, of_priority, ranked, ranked_below}
use Rattle.explanation.proofs.PriorityLemmas.{priority_within}

-- those of lesser priorities, if the first of them is of this priority
module _ (all : List Candidate) (first : Candidate) (p : ℕ)
    (none : (q : ℕ) → p < q → of_priority all q ≡ [])
    (some : (rest : List Candidate) × (of_priority all p ≡ first ∷ rest)) where
  pub first_below : (n : ℕ) → p < n → (rest : List Candidate) × (ranked_below n all ≡ first ∷ rest)
  first_below zero h = absurd (omega (arith, h))
  first_below (suc n) h = by (nat_lt p n) refl (first_below n)
    where
      by : (t : Bool) → nat_lt p n ≡ t
          → (p < n → (rest : List Candidate) × (ranked_below n all ≡ first ∷ rest))
          → (rest : List Candidate) × (ranked_below (suc n) all ≡ first ∷ rest)
      by true e lesser =
          let low : p < n = grind (arith, nat_tests) in
          let below = lesser low in
          (below.0, ap (λ l. l ++ ranked_below n all) (none n low) ∙ below.1)
      by false e lesser =
          let same : n ≡ p = grind (arith, nat_tests) in (
            some.0 ++ ranked_below n all,
            ap (λ l. l ++ ranked_below n all) (ap (of_priority all) same ∙ some.1),
          )

module _ (commands : List Command) (zone prefix : List ℕ) (row : Option ZoneRow) where
  abbrev rank : EndpointParts → ℕ
  rank e = priority_of commands row e.id

  abbrev as_candidate : EndpointParts → Candidate
  as_candidate e = record { id = e.id; priority = rank e }

  abbrev able : EndpointParts → Bool
  able = is_candidate (priority_of commands row) zone prefix

  abbrev all : List EndpointParts → List Candidate
  all es = candidates_of commands es zone prefix row

  -- one that is not of this priority adds nothing
  skipped : (q : ℕ) (e : EndpointParts) (es : List EndpointParts)
      → (serves zone prefix e ≡ true → (rank e == q) ≡ false)
      → of_priority (all (e ∷ es)) q ≡ of_priority (all es) q
  skipped q e es other = by (serves zone prefix e) refl
    where
      by : (b : Bool) → serves zone prefix e ≡ b
          → of_priority ((if b then as_candidate e ∷ [] else []) ++ all es) q
          ≡ of_priority (all es) q
      by false is = refl
      by true is =
          ap (λ t. cond t (as_candidate e ∷ of_priority (all es) q) (of_priority (all es) q))
          (other is)

  -- one that is of this priority is added
  kept : (q : ℕ) (e : EndpointParts) (es : List EndpointParts) → serves zone prefix e ≡ true
      → (rank e == q) ≡ true
      → of_priority (all (e ∷ es)) q ≡ as_candidate e ∷ of_priority (all es) q
  kept q e es it_serves ranks =
      ap (λ b. of_priority ((if b then as_candidate e ∷ [] else []) ++ all es) q) it_serves
      ∙ ap (λ t. cond t (as_candidate e ∷ of_priority (all es) q) (of_priority (all es) q)) ranks

  -- above the greatest priority there is none
  none_above : (q p : ℕ) (es : List EndpointParts) → p < q
      → ((k : ℕ) (e : EndpointParts) → slice_get es k ≡ Some e → able e ≡ true → rank e ≤ p)
      → of_priority (all es) q ≡ []
  none_above q p [] above most = refl
  none_above q p (e ∷ es) above most =
      skipped q e es (λ is. by (rank e == q) refl is)
      ∙ none_above q p es above (λ k f there passes. most (suc k) f there passes)
    where
      by : (t : Bool) → (rank e == q) ≡ t → serves zone prefix e ≡ true → (rank e == q) ≡ false
      by false is it_serves = is
      by true is it_serves =
          let more : nat_lt 0 (rank e) ≡ true = grind (arith, nat_tests) in
          let low = most 0 e refl (and_from (serves zone prefix e) (nat_lt 0 (rank e)) it_serves more)
          in
          let bad : ⊥ = grind (arith, nat_tests) in absurd bad

  -- the first of its priority
  first_of_priority : (p place : ℕ) (es : List EndpointParts) (chosen : EndpointParts) → 0 < p
      → slice_get es place ≡ Some chosen → serves zone prefix chosen ≡ true → rank chosen ≡ p
      → ((k : ℕ) (e : EndpointParts) → k < place → slice_get es k ≡ Some e → able e ≡ true
      → rank e < p)
      → (rest : List Candidate) × (of_priority (all es) p ≡ as_candidate chosen ∷ rest)
  first_of_priority p zero [] chosen some there it_serves is before = cc
  first_of_priority p (suc place) [] chosen some there it_serves is before = cc
  first_of_priority p zero (e ∷ es) chosen some there it_serves is before =
      let same : e ≡ chosen = cc in
      let serves_too : serves zone prefix e ≡ true = ap (serves zone prefix) same ∙ it_serves in
      let r : rank e ≡ p = ap rank same ∙ is in
      let ranks_too : (rank e == p) ≡ true = grind (arith, nat_tests) in (
        of_priority (all es) p,
        kept p e es serves_too ranks_too
            ∙ ap (λ f. as_candidate f ∷ of_priority (all es) p) same,
      )
  first_of_priority p (suc place) (e ∷ es) chosen some there it_serves is before =
      let rest = first_of_priority p place es chosen some there it_serves is
      (λ k f low at passes.
      let lower : suc k < suc place = omega (arith, low) in before (suc k) f lower at passes) in
      (rest.0, skipped p e es (λ it. by (rank e == p) refl it) ∙ rest.1)
    where
      by : (t : Bool) → (rank e == p) ≡ t → serves zone prefix e ≡ true → (rank e == p) ≡ false
      by false e_is it = e_is
      by true e_is it =
          let more : nat_lt 0 (rank e) ≡ true = grind (arith, nat_tests) in
          let first : 0 < suc place = omega arith in
          let low = before 0 e first refl
          (and_from (serves zone prefix e) (nat_lt 0 (rank e)) it more) in
          let bad : ⊥ = grind (arith, nat_tests) in absurd bad

  -- if no gateway is chosen, each that serves has priority 0
  none_above_zero : (es : List EndpointParts)
      → ((k : ℕ) (e : EndpointParts) → slice_get es k ≡ Some e → able e ≡ false)
      → list_all (λ c. c.priority == 0) (all es) ≡ true
  none_above_zero [] none = refl
  none_above_zero (e ∷ es) none =
      by (serves zone prefix e) refl (none_above_zero es (λ k f there. none (suc k) f there))
    where
      by : (b : Bool) → serves zone prefix e ≡ b → list_all (λ c. c.priority == 0) (all es) ≡ true
          → list_all (λ c. c.priority == 0)
          ((if b then as_candidate e ∷ [] else []) ++ all es) ≡ true
      by false is rest = rest
      by true is rest =
          let low : nat_lt 0 (rank e) ≡ false =
          sym (ap (λ b. b && nat_lt 0 (rank e)) is) ∙ none 0 e refl in
          let ranks : (rank e == 0) ≡ true = grind (arith, nat_tests) in
          and_from (rank e == 0) (list_all (λ c. c.priority == 0) (all es)) ranks rest

-- what passes for all of a list passes for all that are ranked
passes_of_priority : (test : Candidate → Bool) (p : ℕ) (all : List Candidate)
    → list_all test all ≡ true → list_all test (of_priority all p) ≡ true
passes_of_priority test p [] h = refl
passes_of_priority test p (c ∷ cs) h =
    let parts = and_parts (test c) (list_all test cs) h in
    by (c.priority == p) parts.0 (passes_of_priority test p cs parts.1)
  where
    by : (b : Bool) → test c ≡ true → list_all test (of_priority cs p) ≡ true
        → list_all test (cond b (c ∷ of_priority cs p) (of_priority cs p)) ≡ true
    by true passes rest = and_from (test c) (list_all test (of_priority cs p)) passes rest
    by false passes rest = rest

passes_ranked : (test : Candidate → Bool) (n : ℕ) (all : List Candidate)
    → list_all test all ≡ true → list_all test (ranked_below n all) ≡ true
passes_ranked test zero all h = refl
passes_ranked test (suc n) all h =
    list_all-append test (of_priority all n) (ranked_below n all)
    ∙ and_from (list_all test (of_priority all n)) (list_all test (ranked_below n all))
    (passes_of_priority test n all h) (passes_ranked test n all h)

pub chosen_first : ChosenStandsFirst
chosen_first commands endpoints zone prefix row accepted =
    by (gateway_of commands endpoints zone prefix row) refl
  where
    by : (o : Option EndpointParts) → gateway_of commands endpoints zone prefix row ≡ o
        → StandsFirst commands row o (ranked (candidates_of commands endpoints zone prefix row))
    by None is =
        passes_ranked (λ c. c.priority == 0) 11
        (candidates_of commands endpoints zone prefix row)
        (none_above_zero commands zone prefix row endpoints
        (none_computed (priority_of commands row) endpoints zone prefix is))
    by (Some e) is =
        let c = chosen_from_computed (priority_of commands row) endpoints zone prefix e is in
        let p = priority_of commands row e.id in
        let parts = and_parts (serves zone prefix e) (nat_lt 0 p) c.candidate in
        let more = parts.1 in
        let some : 0 < p = grind (arith, nat_tests) in
        let within = priority_within commands row e.id accepted in
        let few : p < 11 = omega (arith, within) in
        first_below (candidates_of commands endpoints zone prefix row)
        (record { id = e.id; priority = p }) p
        (λ q above. none_above commands zone prefix row q p endpoints above c.greatest)
        (first_of_priority commands zone prefix row p c.place endpoints e some c.listed parts.0 refl
        c.first) 11 few
