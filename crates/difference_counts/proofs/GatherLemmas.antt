-- What is gathered of a configuration.
use Rattle.std.proofs.Common.{◌≡◌, ℕ, zero, suc, ◌&&◌, Bool, true, List, [], ◌∷◌, ◌++◌, slice_get, append-nil, sym, ap, subst, ◌∙◌, arith}
use Rattle.std.specs.Prelude.{Some, None, Contains, unwrap_or}
use Rattle.std.specs.List.{list_all}
use Rattle.std.proofs.lemmas.Bool.{and_parts}
use Rattle.digit_patterns.specs.PatternParts.{PatternParts}
use Rattle.gk_commands.specs.declared.commands.Command.{Command}
use Rattle.compiler.specs.Rows.{ZoneRow}
use Rattle.compiler.specs.Technology.{prefixes_of}
use Rattle.plan_difference.specs.Gathered.{Has, HasPatterns, has_no_star, patterns_of}
use Rattle.plan_difference.proofs.GatherLemmas.{has_old_patterns}
use Rattle.difference_counts.specs.Ahead.{HasPatternsOn, IsAhead, IsWhole, literal_pattern}

-- ---- lists
pub all_push : {X : Type 0} (test : X → Bool) (xs : List X) (x : X) → list_all test xs ≡ true
    → test x ≡ true → list_all test (xs ++ x ∷ []) ≡ true
all_push test [] x h passes = λ i. passes i && true
all_push test (y ∷ ys) x h passes =
    let parts = and_parts (test y) (list_all test ys) h in
    λ i. parts.0 i && all_push test ys x parts.1 passes i

pub all_at : {X : Type 0} (test : X → Bool) (xs : List X) (place : ℕ) (x : X)
    → list_all test xs ≡ true → slice_get xs place ≡ Some x → test x ≡ true
all_at test [] place x h at = absurd (let bad : ⊥ = cc in bad)
all_at test (y ∷ ys) zero x h at =
    ap (λ o. test (unwrap_or o y)) (sym at) ∙ (and_parts (test y) (list_all test ys) h).0
all_at test (y ∷ ys) (suc place) x h at =
    all_at test ys place x (and_parts (test y) (list_all test ys) h).1 at

-- ---- all of a configuration
module _ (commands : List Command) where
  has_patterns : HasPatterns (patterns_of commands) commands
  has_patterns =
      has_old_patterns commands [] [] (patterns_of commands)
      (λ pattern there. subst (λ l. Contains l pattern) (append-nil (patterns_of commands)) there)

  rows_ahead : HasPatternsOn commands [] None (patterns_of commands)
  rows_ahead stays place row at begins = has_patterns place row at

  pub all_ahead : (prefixes : List (List ℕ)) → prefixes ≡ prefixes_of commands
      → IsAhead commands [] None prefixes
  all_ahead prefixes e = record {
    within = omega arith;
    prefixes_on = λ place prefix at begins.
        record { place = place; stands = ap (λ l. slice_get l place) e ∙ at };
  }

  pub all_whole : (prefixes : List (List ℕ)) (patterns : List PatternParts)
      → prefixes ≡ prefixes_of commands → patterns ≡ patterns_of commands
      → list_all has_no_star prefixes ≡ true → list_all literal_pattern patterns ≡ true
      → IsWhole commands patterns
  all_whole prefixes patterns e f clean literal = record {
    patterns_on = subst (HasPatternsOn commands [] None) (sym f) rows_ahead;
    literal = record {
      prefixes = λ place prefix at.
          all_at has_no_star prefixes place prefix clean (ap (λ l. slice_get l place) e ∙ at);
      rows = λ place row at. by row (has_patterns place row at);
    };
  }
    where
      by : (row : ZoneRow) → Has (patterns_of commands) row.0
          → has_no_star row.0.literals ≡ true
      by row there =
          all_at literal_pattern patterns there.place row.0 literal
          (ap (λ l. slice_get l there.place) f ∙ there.stands)
