-- What an endpoint keeps as it takes aliases and technology prefixes.
use Rattle.std.proofs.Common.{◌≡◌, ℕ, false, List, [], ◌∷◌, ◌++◌, subst, sym}
use Rattle.std.specs.Prelude.{bytes_eq}
use Rattle.std.specs.List.{IsDistinct, list_any}
use Rattle.std.proofs.lemmas.Cmp.{nat_list_eq_equiv}
use Rattle.std.proofs.lemmas.Map.Keys.{IsDistinct-push}

-- one more text that is none of the others
pub distinct_more : (texts new : List (List ℕ)) (text : List ℕ) → IsDistinct bytes_eq texts
    → list_any (bytes_eq text) texts ≡ false → new ≡ texts ++ text ∷ []
    → IsDistinct bytes_eq new
distinct_more texts new text distinct absent same =
    subst (IsDistinct bytes_eq) (sym same)
    (IsDistinct-push nat_list_eq_equiv texts text distinct absent)

-- no text is twice in an empty list
pub distinct_none : (texts : List (List ℕ)) → texts ≡ [] → IsDistinct bytes_eq texts
unfolding IsDistinct
distinct_none texts empty = subst (IsDistinct bytes_eq) (sym empty) tt
