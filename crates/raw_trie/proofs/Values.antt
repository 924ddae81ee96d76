-- How the words and the lease of a block are stored, and a pair of values.
use Rattle.std.proofs.Common.{◌≡◌, ℕ, zero, suc, ◌*◌, ◌^◌, ◌<◌, ap, List, [], ◌∷◌, ◌++◌, refl, ◌∙◌}
use mir.Syntax.{w32, ty_int, ty_array}
use prog.Capped.{capped_is}
use prog.Memory.{size, align, capped}
use prog.RawLaws.{size-raw, align-raw}
use seplogic.Ra.Ura.{Ura}
use mir.Val.{Val, vstruct, vcons, vnil, of_list}
use base.Logic.{ent, emp, sep}
use base.Fml.{Fml}
use types.Logic.{Logic, sem}
use types.Kit.{‵, ◌$◌, ◌∵◌, !, qed, move, fjoin, fpack, feq_i, done}
use denote.RattleType.{RattleType, Valss}
use denote.Builtin.{unit}
use denote.RawPtr.{Ptr, RawPtr, ptr_val}
use denote.Shadow.{shadow, makes_shadow}
use denote.Signature.{Slot, plain}
use denote.Steps.{nothing}
use denote.Struct.Declared as Declared
use denote.Struct.Struct.{Struct, within}
use denote.Struct.Tuple.{Tuple, tuple_type}
use Rattle.raw_trie.specs.Memory.{block_type}

-- a struct by its fields: its name plays no part in what it owns
abbrev fields_of : List RattleType → RattleType
fields_of rows = Struct (record { name = []; args = []; types = []; fields = rows })

abbrev pub words_val : Ptr → Val
words_val p = vstruct (vcons (ptr_val p) vnil)

abbrev pub words_own : Ptr → List Val → Fml
words_own p = (fields_of (RawPtr ∷ [])).own_val (p, tt)

pub words_told : (p : Ptr) (vs : List Val) → shadow (words_own p vs) → vs ≡ words_val p ∷ []
words_told p vs s = s.1.0 ∙ (λ i. vstruct (of_list (s.1.1.0 i ++ [])) ∷ [])

pub words_made : {M : Type 1} {𝓤 : Ura M} (𝓛 : Logic 𝓤) (p : Ptr)
    → ent 𝓤 (emp 𝓤) (sem 𝓛 (words_own p (words_val p ∷ [])))
words_made 𝓛 p =
    makes_shadow 𝓛 (words_own p (words_val p ∷ [])) (λ _. (tt, (tt, tt)))
    ((ptr_val p ∷ [], tt), (refl, (refl, tt)))

abbrev pub lease_val : Val
lease_val = vstruct (vcons (vstruct vnil) vnil)

abbrev pub lease_own : List Val → Fml
lease_own = (fields_of (fields_of [] ∷ [])).own_val (tt, tt)

pub lease_told : (vs : List Val) → shadow (lease_own vs) → vs ≡ lease_val ∷ []
lease_told vs s = s.1.0 ∙ (λ i. vstruct (of_list (s.1.1.0.1.0 i ++ [])) ∷ [])

pub lease_made : {M : Type 1} {𝓤 : Ura M} (𝓛 : Logic 𝓤)
    → ent 𝓤 (emp 𝓤) (sem 𝓛 (lease_own (lease_val ∷ [])))
lease_made 𝓛 =
    makes_shadow 𝓛 (lease_own (lease_val ∷ [])) (λ _. (tt, ((λ _. (tt, tt)), tt)))
    ((vstruct vnil ∷ [], tt), (refl, ((tt, (refl, tt)), tt)))

abbrev pub pair_val : Val → Val → Val
pair_val u v = vstruct (vcons u (vcons v vnil))

pub pair_made : {M : Type 1} {𝓤 : Ura M} (𝓛 : Logic 𝓤) (R S : RattleType) (x : R.Denot)
    (y : S.Denot) (u v : Val)
    → ent 𝓤 (sep 𝓤 (sem 𝓛 (R.own_val x (u ∷ []))) (sem 𝓛 (S.own_val y (v ∷ []))))
    (sem 𝓛 ((Tuple (R ∷ S ∷ [])).own_val (x, y) (pair_val u v ∷ [])))
pair_made 𝓛 R S x y u v =
    qed 𝓛 (‵ (R.own_val x (u ∷ [])) ∷ ‵ (S.own_val y (v ∷ [])) ∷ []) ∵
    nothing ! $ move ! (2 ∷ 0 ∷ []) $ fjoin ! $ move ! (1 ∷ 0 ∷ []) $ fjoin ! $
    feq_i ! (List Val) (pair_val u v ∷ []) (pair_val u v ∷ []) refl $ fjoin ! $
    fpack ! (Valss (R ∷ S ∷ [])) (within (Declared.shape (tuple_type (R ∷ S ∷ []))) (x, (y, tt))
    (pair_val u v ∷ [])) (u ∷ [], (v ∷ [], tt)) $ done !

-- the first to the fourth parameter of a function
abbrev pub nth_slot : {n : ℕ} → ℕ → List (Slot n) → Slot n
nth_slot k [] = plain (λ _. unit)
nth_slot zero (s ∷ ss) = s
nth_slot (suc k) (s ∷ ss) = nth_slot k ss

-- how large an array of words is, and how it is aligned
pub size_of_block : (n : ℕ) → n * 4 < 2 ^ 64 → capped (size (block_type n)) ≡ n * 4
size_of_block n fits = ap capped (size-raw (ty_array (ty_int w32) n)) ∙ capped_is (n * 4) fits

pub align_of_block : (n : ℕ) → capped (align (block_type n)) ≡ 4
align_of_block n = ap capped (align-raw (ty_array (ty_int w32) n))
