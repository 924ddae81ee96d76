-- The technology prefixes that both configurations take off, in a set.
use Rattle.std.proofs.Common.{◌≡◌, ℕ, ◌&&◌, not, Bool, true, false, cond, List, [], ◌∷◌, ◌++◌, refl, sym, ap, ◌∙◌}
use Rattle.std.specs.Prelude.{Some, bytes_eq}
use Rattle.std.specs.List.{list_any}
use Rattle.gk_commands.specs.declared.commands.Command.{Command}
use Rattle.difference_report.specs.Headings.{is_shared, with_shared}

module _ (old new : List Command) (list : List (List ℕ)) (prefix : List ℕ) where
  pub shared_added : is_shared old new prefix ≡ true
      → cond (list_any (bytes_eq prefix) list) list (list ++ prefix ∷ [])
      ≡ with_shared old new list (Some prefix)
  shared_added shared =
      by (list_any (bytes_eq prefix) list)
      ∙ ap (λ t. cond (not (list_any (bytes_eq prefix) list) && t) (list ++ prefix ∷ []) list)
      (sym shared)
    where
      by : (t : Bool)
          → cond t list (list ++ prefix ∷ []) ≡ cond (not t && true) (list ++ prefix ∷ []) list
      by true = refl
      by false = refl

  pub other_added : is_shared old new prefix ≡ false
      → list ≡ with_shared old new list (Some prefix)
  other_added other =
      by (list_any (bytes_eq prefix) list)
      ∙ ap (λ t. cond (not (list_any (bytes_eq prefix) list) && t) (list ++ prefix ∷ []) list)
      (sym other)
    where
      by : (t : Bool) → list ≡ cond (not t && false) (list ++ prefix ∷ []) list
      by true = refl
      by false = refl
