-- Commands in which no technology prefix and no literals of a zone prefix have a star.
use Rattle.std.proofs.Common.{◌≡◌, ℕ, zero, suc, Bool, true, List, [], ◌∷◌, slice_get, sym, ap, ◌∙◌}
use Rattle.std.specs.Prelude.{Option, Some, None, option_map, unwrap_or}
use Rattle.std.specs.List.{cons_option, filter_map, list_all}
use Rattle.std.proofs.lemmas.Bool.{and_parts}
use Rattle.std.proofs.lemmas.Option.{same_Some}
use Rattle.gk_commands.specs.declared.commands.Command.{Command}
use Rattle.compiler.specs.Rows.{ZoneRow, row_of}
use Rattle.compiler.specs.Technology.{prefix_in}
use Rattle.plan_difference.specs.Gathered.{has_no_star}
use Rattle.difference_counts.specs.Ahead.{AreLiteral}
use Rattle.difference_report.specs.Laws.{prefix_is_literal, row_is_literal}

module _ {X Y : Type 0} (f : X → Option Y) (test : Y → Bool) where
  abbrev passes : X → Bool
  passes x = unwrap_or (option_map test (f x)) true

  kept_pass : (xs : List X) → list_all passes xs ≡ true → (place : ℕ) (y : Y)
      → slice_get (filter_map f xs) place ≡ Some y → test y ≡ true
  kept_pass [] h place y at = absurd (let bad : ⊥ = cc in bad)
  kept_pass (x ∷ xs) h place y at =
      let both = and_parts (passes x) (list_all passes xs) h in
      by (f x) both.0 place at (kept_pass xs both.1)
    where
      by : (o : Option Y) → unwrap_or (option_map test o) true ≡ true → (place : ℕ)
          → slice_get (cons_option o (filter_map f xs)) place ≡ Some y
          → ((place : ℕ) (y : Y) → slice_get (filter_map f xs) place ≡ Some y
          → test y ≡ true)
          → test y ≡ true
      by None g n stands rest = rest n y stands
      by (Some z) g zero stands rest = ap test (sym (same_Some z y stands)) ∙ g
      by (Some z) g (suc n) stands rest = rest n y stands

pub are_literal : (commands : List Command) → list_all prefix_is_literal commands ≡ true
    → list_all row_is_literal commands ≡ true → AreLiteral commands
are_literal commands prefixes rows = record {
  prefixes = kept_pass prefix_in has_no_star commands prefixes;
  rows = kept_pass row_of (λ (row : ZoneRow). has_no_star row.0.literals) commands rows;
}
