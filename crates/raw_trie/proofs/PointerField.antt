-- The pointer of a struct is read through a `&` to the struct.
use Rattle.std.proofs.Common.{◌≡◌, ℕ, List, [], ◌∷◌, refl, sym, ap, ◌∙◌}
use seplogic.Ra.Ura.{Ura}
use mir.Syntax.{ty_ptr}
use mir.Val.{Val, vptr}
use base.Fml.{Share, Lft, fat, flft}
use types.Logic.{Logic}
use types.Kit.{Goal, Soaks, Step, step, Seq, Item, ‵, ◌$◌, move, drop, rewrite, feq_l, feq_i}
use denote.Copied.{plain_Copied}
use denote.Memory.{cell_at, part_at, hidden_shr}
use denote.Opens.{Shut}
use denote.RawPtr.{Ptr, RawPtr, block_ptr, coded_ptr, ptr_own, rawptr_pure, ptr_val}
use denote.Steps.{looks, shuts}
use denote.Struct.Laws.{RawPtr-laws}

module _ {M : Type 1} {𝓤 : Ura M} {𝓛 : Logic 𝓤} {K : Type 0} {Γ : List (Item 𝓤)}
    {G : Goal 𝓤 𝓛.H} where
  -- its cell is seen, for a share, and what it was taken from waits
  pub pointer_seen : K → Soaks G → {κ : Lft} {q : Share} (p : Ptr) (b o : ℕ) → p ≡ block_ptr b o
      → (rb at : ℕ)
      → ((q' : Share) → Seq K 𝓛 (‵ (fat q' ty_ptr rb at (vptr b o)) ∷ Shut 𝓛 κ q
      (part_at RawPtr q' p rb at) ∷ Γ) G)
      → Seq K 𝓛 (‵ (hidden_shr RawPtr κ p rb at) ∷ ‵ (flft κ q) ∷ Γ) G
  pointer_seen k z p b o is rb at rest =
      looks k z RawPtr (plain_Copied 𝓛 Ptr coded_ptr (ty_ptr ∷ []) ptr_own rawptr_pure ptr_val
      RawPtr-laws.tells).opens p rb at (λ q' vs. move k (1 ∷ []) $ feq_l k (λ e.
      rewrite k 0 (λ (us : List Val). ‵ (cell_at q' RawPtr.mir us rb at))
      (e ∙ ap (λ (r : Ptr). ptr_val r ∷ []) is) refl $ move k (2 ∷ []) $ drop k $ rest q'))

  -- the token comes back
  pub pointer_left : K → Soaks G → {κ : Lft} {q q' : Share} (p : Ptr) (b o : ℕ) → p ≡ block_ptr b o
      → (rb at : ℕ)
      → Step K 𝓛 (‵ (flft κ q) ∷ Γ) G
      (‵ (fat q' ty_ptr rb at (vptr b o)) ∷ Shut 𝓛 κ q (part_at RawPtr q' p rb at) ∷ Γ) G
  pointer_left k z {q' = q'} p b o is rb at = step (λ rest.
      feq_i k (List Val) (vptr b o ∷ []) (ptr_val p ∷ [])
      (ap (λ (r : Ptr). ptr_val r ∷ []) (sym is)) $ move k (1 ∷ 0 ∷ []) $
      shuts k z RawPtr q' p (vptr b o ∷ []) rb at $ rest)
