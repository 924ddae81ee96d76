-- What a set says of the plans of its digits.
use Rattle.std.proofs.Common.{◌≡◌, ℕ, Bool, true, false, List, refl, sym, ap, ◌∙◌}
use Rattle.std.specs.Prelude.{Option, Some, None, option_map}
use Rattle.digit_patterns.specs.PatternParts.{PatternParts}
use Rattle.gk_commands.specs.declared.commands.Command.{Command}
use Rattle.compiler.specs.Plan.{plan_of}
use Rattle.compiler.specs.Rows.{ZoneRow}
use Rattle.compiler.specs.Technology.{technology_of}
use Rattle.plan_difference.specs.Laws.{row_by, SetsHavePlans}
use Rattle.plan_difference.specs.Sets.{is_joint, set_by, row_used, pattern_used, plan_by}
use Rattle.plan_difference.proofs.Plans.{IsOwnRow, used_is_own, plan_is}

-- the row that is used is that of its zone prefix
row_again : (commands : List Command) (row : Option ZoneRow) → IsOwnRow commands row
    → row ≡ row_by commands (option_map (λ r. r.0) row)
row_again commands None h = refl
row_again commands (Some row) h = sym (h row refl)

module _ (commands : List Command) (digits : List ℕ) (pattern : Option PatternParts)
    (same : pattern_used commands digits ≡ pattern) where
  planned : plan_of commands digits
      ≡ plan_by commands (technology_of commands digits) (row_by commands pattern)
  planned =
      plan_is commands digits
      ∙ ap (plan_by commands (technology_of commands digits))
      (row_again commands (row_used commands digits) (used_is_own commands digits)
      ∙ ap (row_by commands) same)

old_row_of : (j : Bool) (s t : Option (List ℕ)) (p q : Option PatternParts)
    → (set_by j s t p q).old_row ≡ p
old_row_of true s t p q = refl
old_row_of false s t p q = refl

new_row_of : (j : Bool) (s t : Option (List ℕ)) (p q : Option PatternParts)
    → (set_by j s t p q).new_row ≡ q
new_row_of true s t p q = refl
new_row_of false s t p q = refl

pub sets_have_plans : SetsHavePlans
sets_have_plans old new set digits covers = record {
  old_plan = planned old digits set.old_row
      (sym (old_row_of (is_joint old new s t) s t (pattern_used old digits)
      (pattern_used new digits)) ∙ ap (λ r. r.old_row) covers.1);
  new_plan = planned new digits set.new_row
      (sym (new_row_of (is_joint old new s t) s t (pattern_used old digits)
      (pattern_used new digits)) ∙ ap (λ r. r.new_row) covers.1);
}
  where
    s : Option (List ℕ)
    s = technology_of old digits

    t : Option (List ℕ)
    t = technology_of new digits
