-- What a struct with no field owns.
use Rattle.std.proofs.Common.{List, [], ◌∷◌, refl}
use seplogic.Ra.Ura.{Ura}
use mir.Val.{Val, vstruct, vnil}
use types.Logic.{Logic}
use types.Kit.{Goal, Step, step, Item, ‵, ◌$◌, fjoin, fpack, feq_i}
use denote.RattleType.{RattleType, Valss}
use denote.Steps.{nothing}
use denote.Struct.Struct.{Struct, within}

-- how such a struct is stored
abbrev pub empty : Val
empty = vstruct vnil

abbrev pub Fieldless : RattleType
Fieldless = Struct (record { name = []; args = []; types = []; fields = [] })

-- one is made of nothing
pub makes_empty : {M : Type 1} {𝓤 : Ura M} {𝓛 : Logic 𝓤} {K : Type 0} {Γ : List (Item 𝓤)}
    {G : Goal 𝓤 𝓛.H} → K → Step K 𝓛 (‵ (Fieldless.own_val tt (empty ∷ [])) ∷ Γ) G Γ G
makes_empty k = step (λ rest.
    nothing k $ feq_i k (List Val) (empty ∷ []) (empty ∷ []) refl $ fjoin k $
    fpack k (Valss []) (within (record { name = []; args = []; types = []; fields = [] }) tt
    (empty ∷ [])) tt $ rest)
