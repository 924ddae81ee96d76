-- The lines of a report, counted.
use Rattle.std.proofs.Common.{◌≡◌, ℕ, ◌+◌, List, [], ◌∷◌, length, refl, sym, ap, ◌∙◌, arith}
use Rattle.std.specs.Prelude.{min}
use Rattle.gk_terms.specs.Text.{raw_lines_of}
use Rattle.gk_protocol.specs.Answers.{report_lines}
use Rattle.gk_protocol.proofs.EndpointFileLemmas.{counted_on}

-- so many lines were counted, and the others remain
pub record AreCounted (whole rest : List ℕ) (count : ℕ) : Type 0 where
  pub passed : ℕ
  pub counted : count ≡ min passed 4294967295
  pub together : length (raw_lines_of whole) ≡ passed + length (raw_lines_of rest)

pub none_counted : (whole : List ℕ) → AreCounted whole whole 0
none_counted whole = record { passed = 0; counted = refl; together = omega arith }

pub one_counted : (whole rest others : List ℕ) (line : List ℕ) (count : ℕ)
    → AreCounted whole rest count → raw_lines_of rest ≡ line ∷ raw_lines_of others
    → AreCounted whole others (min (count + 1) 4294967295)
one_counted whole rest others line count u next = record {
  passed = u.passed + 1;
  counted = counted_on u.passed count u.counted;
  together = omega (arith, u.together, ap length next);
}

pub all_counted : (whole rest : List ℕ) (count : ℕ) → AreCounted whole rest count
    → raw_lines_of rest ≡ [] → count ≡ report_lines whole
all_counted whole rest count u none =
    let size : length (raw_lines_of whole) ≡ u.passed = omega (arith, u.together, ap length none) in
    u.counted ∙ ap (λ n. min n 4294967295) (sym size)
