-- What a configuration finds for a text, it finds for the front of the text that is filled up with
-- stars, if no prefix and no literals that begin the text go past that front.
use Rattle.std.proofs.Common.{◌≡◌, ℕ, zero, suc, ◌≤◌, Bool, true, false, cond, List, [], ◌∷◌, ◌++◌, length, drop, slice_get, refl, sym, ap, ◌∙◌, arith}
use Rattle.std.specs.Prelude.{Option, Some, None, option_map, option_and_then, replicate}
use Rattle.gk_terms.specs.Choice.{first_unbeaten}
use Rattle.gk_commands.specs.declared.commands.Command.{Command}
use Rattle.compiler.specs.Rows.{ZoneRow, rows_of, row_for, row_of_pattern}
use Rattle.compiler.specs.Technology.{technology_of, prefixes_of, begins_with, is_longer, found_length}
use Rattle.plan_difference.specs.Sets.{hops_off, row_after, pattern_used}
use Rattle.plan_difference.proofs.Beginnings.{begins, same_begins, same_filter, same_best}
use Rattle.plan_difference.specs.Gathered.{has_no_star}
use Rattle.plan_difference.specs.Walk.{starred}

-- the prefixes among these with which the text begins are in its front
pub record PrefixesStay (prefixes : List (List ℕ)) (u z : List ℕ) : Type 0 where
  pub stay : (place : ℕ) (prefix : List ℕ) → slice_get prefixes place ≡ Some prefix
      → (has_no_star prefix ≡ true) × (begins (u ++ z) prefix ≡ true → length prefix ≤ length u)

-- the literals of these rows with which the text begins are in its front
pub record LiteralsStay (rows : List ZoneRow) (u z : List ℕ) : Type 0 where
  pub stay : (place : ℕ) (row : ZoneRow) → slice_get rows place ≡ Some row
      → (has_no_star row.0.literals ≡ true)
      × (begins (u ++ z) row.0.literals ≡ true → length row.0.literals ≤ length u)

pub same_technology_found : (commands : List Command) (u z : List ℕ) (count : ℕ)
    → PrefixesStay (prefixes_of commands) u z
    → technology_of commands (u ++ z) ≡ technology_of commands (starred u count)
same_technology_found commands u z count h =
    ap (first_unbeaten is_longer)
    (same_filter (begins_with (u ++ z)) (begins_with (starred u count)) (prefixes_of commands)
    (λ place prefix at. let p = h.stay place prefix at in same_begins prefix u z count p.0 p.1))

pub same_row_found : (commands : List Command) (u z : List ℕ)
    → LiteralsStay (rows_of commands) u z
    → row_for commands (u ++ z) ≡ row_for commands (starred u (length z))
same_row_found commands u z h =
    ap (option_and_then (λ best. row_of_pattern commands best.0))
    (same_best (rows_of commands) u z h.stay)

-- the front without what is taken off
pub drop_front : (count : ℕ) (u z : List ℕ) → count ≤ length u
    → drop count (u ++ z) ≡ drop count u ++ z
drop_front zero u z h = refl
drop_front (suc count) [] z h = absurd (omega (arith, h))
drop_front (suc count) (x ∷ u) z h = drop_front count u z (omega (arith, h))

-- a configuration finds the same for both
module _ (commands : List Command) (u z : List ℕ) where
  abbrev found : Option (List ℕ)
  found = technology_of commands (u ++ z)

  pub record FindsSame : Type 0 where
    pub technology : technology_of commands (starred u (length z)) ≡ found
    pub pattern : pattern_used commands (starred u (length z)) ≡ pattern_used commands (u ++ z)

  -- the literals are in the front after the prefix, or the prefix hops off
  pub record RowsStay : Type 0 where
    pub within : found_length found ≤ length u
    pub rows : hops_off commands found ≡ false
        → LiteralsStay (rows_of commands) (drop (found_length found) u) z

  pub finds_same : PrefixesStay (prefixes_of commands) u z → RowsStay → FindsSame
  finds_same h r =
      let t = same_technology_found commands u z (length z) h in
      record {
        technology = sym t;
        pattern = ap (option_map (λ row. row.0))
            (ap (λ x. row_after commands x (starred u (length z))) (sym t)
            ∙ by (hops_off commands found) refl);
      }
    where
      by : (hops : Bool) → hops_off commands found ≡ hops
          → cond hops None (row_for commands (drop (found_length found) (starred u (length z))))
          ≡ cond hops None (row_for commands (drop (found_length found) (u ++ z)))
      by true e = refl
      by false e =
          ap (row_for commands)
          (drop_front (found_length found) u (replicate (length z) 42) r.within)
          ∙ sym (same_row_found commands (drop (found_length found) u) z (r.rows e))
          ∙ ap (row_for commands) (sym (drop_front (found_length found) u z r.within))
