-- Which zone is picked, by names and by numbers.
use Rattle.std.proofs.Common.{◌≡◌, ℕ, ◌==◌, ◌||◌, ◌&&◌, not, nat_lt, Bool, true, false, List, [], ◌∷◌, map, fold, refl, sym, ap, ◌∙◌, arith}
use Rattle.std.specs.Prelude.{Option, Some, None, option_map, bytes_eq}
use Rattle.std.proofs.lemmas.Bool.Decides.{nat_tests}
use Rattle.std.proofs.lemmas.List.Folds.{find_at}
use Rattle.gk_terms.specs.Choice.{better}
use Rattle.gk_terms.proofs.ChoiceLemmas.{IsRankOrder, IsRankOrder-by, IsRankOrder-then, IsRankOrder-on, first_unbeaten-pass}
use Rattle.gk_commands.specs.declared.commands.Command.{Command}
use Rattle.gk_commands.specs.declared.zones.ZoneKind.{ZoneKind}
use Rattle.gk_commands.specs.declared.zones.ZoneKind.TheVariants.{Local, Remote}
use Rattle.gk_commands.specs.Zones.{zones_of, zone_of}
use Rattle.compiler.specs.Pick.{is_option_preferred, is_picked_before, picked}
use Rattle.compiler.specs.Zones.{number_in}
use Rattle.compiler.specs.TablesIndex.{kind_at, is_number_before, best_number}

-- ---- the order of zones
-- less of a number beats more of it
IsRankOrder-less : {X : Type 0} (rank : X → ℕ)
    → IsRankOrder {X = X} (λ x y. nat_lt (rank x) (rank y))
IsRankOrder-less rank = record {
  irreflexive = λ x. lower (rank x);
  transitive = λ x y z. chain (rank x) (rank y) (rank z);
  splits = λ x y z. split (rank x) (rank y) (rank z);
}
  where
    lower : (a : ℕ) → nat_lt a a ≡ false
    lower a = grind (arith, nat_tests)

    chain : (a b c : ℕ) → nat_lt a b ≡ true → nat_lt b c ≡ true → nat_lt a c ≡ true
    chain a b c h i = grind (arith, nat_tests)

    split : (a b c : ℕ) → nat_lt a c ≡ true → nat_lt a b ≡ false → nat_lt b c ≡ true
    split a b c h i = grind (arith, nat_tests)

class_of : Option ZoneKind → ℕ
class_of None = 0
class_of (Some Local) = 2
class_of (Some (Remote address cost priority)) = 1

cost_of : Option ZoneKind → ℕ
cost_of None = 0
cost_of (Some Local) = 0
cost_of (Some (Remote address cost priority)) = cost

priority_of : Option ZoneKind → ℕ
priority_of None = 0
priority_of (Some Local) = 0
priority_of (Some (Remote address cost priority)) = priority

-- first local zones, then by cost, then by priority
abbrev is_ranked_before : Option ZoneKind → Option ZoneKind → Bool
is_ranked_before x y =
    nat_lt (class_of y) (class_of x) || (not (nat_lt (class_of x) (class_of y))
    && (nat_lt (cost_of x) (cost_of y) || (not (nat_lt (cost_of y) (cost_of x))
    && nat_lt (priority_of y) (priority_of x))))

agrees : (x y : Option ZoneKind) → is_option_preferred x y ≡ is_ranked_before x y
unfolding class_of cost_of priority_of
agrees None None = refl
agrees None (Some Local) = refl
agrees None (Some (Remote address cost priority)) = refl
agrees (Some Local) None = refl
agrees (Some Local) (Some Local) = refl
agrees (Some Local) (Some (Remote address cost priority)) = refl
agrees (Some (Remote address cost priority)) None = refl
agrees (Some (Remote address cost priority)) (Some Local) = refl
agrees (Some (Remote address cost priority))
    (Some (Remote other_address other_cost other_priority)) =
    by cost other_cost (nat_lt other_priority priority)
  where
    by : (a b : ℕ) (t : Bool)
        → (nat_lt a b || ((a == b) && t)) ≡ (nat_lt a b || (not (nat_lt b a) && t))
    by a b t = grind (arith, nat_tests)

IsRankOrder-agreeing : {X : Type 0} (p q : X → X → Bool) → ((x y : X) → p x y ≡ q x y)
    → IsRankOrder q → IsRankOrder p
IsRankOrder-agreeing p q e order = record {
  irreflexive = λ x. e x x ∙ order.irreflexive x;
  transitive = λ x y z f g. e x z ∙ order.transitive x y z (sym (e x y) ∙ f) (sym (e y z) ∙ g);
  splits = λ x y z f g. e y z ∙ order.splits x y z (sym (e x z) ∙ f) (sym (e x y) ∙ g);
}

IsRankOrder-option : IsRankOrder is_option_preferred
IsRankOrder-option =
    IsRankOrder-agreeing is_option_preferred is_ranked_before agrees
    (IsRankOrder-then _ _ (IsRankOrder-by class_of)
    (IsRankOrder-then _ _ (IsRankOrder-less cost_of) (IsRankOrder-by priority_of)))

-- the order in which zones are picked
pub pick_is_order : (commands : List Command) → IsRankOrder (is_picked_before commands)
pick_is_order commands = IsRankOrder-on (zone_of commands) is_option_preferred IsRankOrder-option

-- ---- by numbers
-- what a number says of a zone is what its name says
pub kind_of_number : (commands : List Command) (name : List ℕ)
    → kind_at (zones_of commands) (number_in (zones_of commands) name) ≡ zone_of commands name
kind_of_number commands name =
    ap (option_map (λ zone. zone.1))
    (sym (find_at (λ zone. bytes_eq name zone.0) (zones_of commands)))

-- a pass over numbers is one over names
fold-numbers : {X : Type 0} (number : X → ℕ) (before : X → X → Bool) (beats : ℕ → ℕ → Bool)
    → ((x y : X) → beats (number x) (number y) ≡ before x y)
    → (best : Option X) (xs : List X)
    → fold (better beats) (option_map number best) (map number xs)
    ≡ option_map number (fold (better before) best xs)
fold-numbers number before beats same best [] = refl
fold-numbers {X} number before beats same best (x ∷ xs) =
    ap (λ o. fold (better beats) o (map number xs)) (step best)
    ∙ fold-numbers number before beats same (better before best x) xs
  where
    step : (best : Option X)
        → better beats (option_map number best) (number x)
        ≡ option_map number (better before best x)
    step None = refl
    step (Some y) = by (before x y) refl
      where
        by : (t : Bool) → before x y ≡ t
            → better beats (Some (number y)) (number x)
            ≡ option_map number (better before (Some y) x)
        by true e = let f : beats (number x) (number y) ≡ true = same x y ∙ e in rw (e, f) refl
        by false e = let f : beats (number x) (number y) ≡ false = same x y ∙ e in rw (e, f) refl

-- the best number is that of the picked zone
pub best_number-picked : (commands : List Command) (names : List (List ℕ))
    → best_number (zones_of commands) names
    ≡ option_map (number_in (zones_of commands)) (picked commands names)
best_number-picked commands names =
    fold-numbers (number_in (zones_of commands)) (is_picked_before commands)
    (is_number_before (zones_of commands))
    (λ x y. ap (λ kind. is_option_preferred kind (kind_at (zones_of commands)
    (number_in (zones_of commands) y))) (kind_of_number commands x)
    ∙ ap (is_option_preferred (zone_of commands x)) (kind_of_number commands y)) None names
    ∙ ap (option_map (number_in (zones_of commands)))
    (sym (first_unbeaten-pass (is_picked_before commands)
    (pick_is_order commands) names))
