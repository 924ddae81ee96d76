-- One word of a block is taken out and put back, seen, and the whole block is room again.
use Rattle.std.proofs.Common.{◌≡◌, ℕ, zero, suc, ◌+◌, ◌-◌, ◌*◌, ◌<◌, ◌≤◌, List, [], ◌∷◌, ◌++◌, length, get_or, refl, sym, ap, ◌∙◌, arith}
use seplogic.Ra.Ura.{Ura}
use base.Fraction.{full_share}
use base.Logic.{ent}
use base.Fml.{Fml, Lft, fsep, fat, froom}
use mir.Syntax.{w32, ty_int, ty_array}
use mir.Val.{vint}
use types.Logic.{Logic}
use types.Kit.{‵, ◌⊛◌, ⋆, ◌$◌, ◌∵◌, !, qed, by, move, keep, use1, use2, split, fsplit, fjoin, rewrite, done}
use denote.Builtin.{u32}
use denote.Memory.{part_at, shared_of}
use denote.Plain.{uint_in, uint_out}
use denote.Index.{place, place_is}
use Rattle.raw_trie.specs.Memory.{words_from, words_shown}

-- the block without room for its next word
abbrev pub beside_next : ℕ → ℕ → ℕ → List ℕ → Fml
beside_next b o room [] = froom (ty_array (ty_int w32) (room - 1)) b (o + 4)
beside_next b o room (x ∷ xs) =
    fsep (part_at u32 full_share x b o) (beside_next b (o + 4) (room - 1) xs)

module _ {M : Type 1} {𝓤 : Ura M} (𝓛 : Logic 𝓤) (b : ℕ) where
  next_at : (o room : ℕ) (xs : List ℕ) → length xs < room
      → ent 𝓤 (⋆ 𝓛 (‵ (words_from b o room xs) ∷ []))
      (⋆ 𝓛 (‵ (froom (ty_int w32) b (place 4 o (length xs))) ∷ ‵ (beside_next b o room xs) ∷ []))
  next_at o room [] more =
      let one_more : room ≡ suc (room - 1) = omega arith in
      qed 𝓛 (‵ (froom (ty_array (ty_int w32) room) b o) ∷ []) ∵
      rewrite ! 0 (λ (n : ℕ). ‵ (froom (ty_array (ty_int w32) n) b o)) one_more refl $
      use1 𝓛 (‵ (froom (ty_int w32) b o) ⊛ ‵ (froom (ty_array (ty_int w32) (room - 1)) b (o + 4)))
      (𝓛.laws.room_uncons (ty_int w32) (room - 1) b o) $ split ! $ done !
  next_at o room (x ∷ xs) more =
      qed 𝓛 (‵ (words_from b o room (x ∷ xs)) ∷ []) ∵ fsplit ! $ move ! (1 ∷ []) $
      use1 𝓛 (‵ (froom (ty_int w32) b (place 4 (o + 4) (length xs)))
      ⊛ ‵ (beside_next b (o + 4) (room - 1) xs)) (next_at (o + 4) (room - 1) xs (omega arith)) $
      split ! $
      move ! (2 ∷ 1 ∷ []) $ fjoin ! $ move ! (1 ∷ 0 ∷ []) $ done !

  -- room for the next word
  pub next_out : (o room index : ℕ) (xs : List ℕ) → index ≡ length xs → index < room
      → ent 𝓤 (⋆ 𝓛 (‵ (words_from b o room xs) ∷ []))
      (⋆ 𝓛 (‵ (froom (ty_int w32) b (index * 4 + o)) ∷ ‵ (beside_next b o room xs) ∷ []))
  next_out o room index xs at more =
      qed 𝓛 (‵ (words_from b o room xs) ∷ []) ∵
      use1 𝓛 (‵ (froom (ty_int w32) b (place 4 o (length xs))) ⊛ ‵ (beside_next b o room xs))
      (next_at o room xs (omega arith)) $ split ! $
      rewrite ! 0 (λ (k : ℕ). ‵ (froom (ty_int w32) b k))
      (place_is 4 o (length xs) ∙ ap (λ (n : ℕ). n * 4 + o) (sym at)) refl $ done !

  next_back : (o room : ℕ) (xs : List ℕ) (x : ℕ)
      → ent 𝓤 (⋆ 𝓛 (‵ (part_at u32 full_share x b (place 4 o (length xs))) ∷ ‵ (beside_next b o room
      xs) ∷ [])) (⋆ 𝓛 (‵ (words_from b o room (xs ++ x ∷ [])) ∷ []))
  next_back o room [] x =
      qed 𝓛 (‵ (part_at u32 full_share x b o) ∷ ‵ (froom (ty_array (ty_int w32) (room - 1)) b
      (o + 4)) ∷ []) ∵ done !
  next_back o room (y ∷ ys) x =
      qed 𝓛 (‵ (part_at u32 full_share x b (place 4 (o + 4) (length ys))) ∷ ‵ (beside_next b o room
      (y ∷ ys)) ∷ []) ∵ move ! (1 ∷ []) $ fsplit ! $ move ! (2 ∷ 1 ∷ []) $
      use2 𝓛 (‵ (words_from b (o + 4) (room - 1) (ys ++ x ∷ [])))
      (next_back (o + 4) (room - 1) ys x) $ move ! (1 ∷ 0 ∷ []) $ done !

  -- the next word is written
  pub next_in : (o room index : ℕ) (xs : List ℕ) (x : ℕ) → index ≡ length xs
      → ent 𝓤 (⋆ 𝓛 (‵ (fat full_share (ty_int w32) b (index * 4 + o) (vint w32 x)) ∷ ‵ (beside_next
      b o room xs) ∷ [])) (⋆ 𝓛 (‵ (words_from b o room (xs ++ x ∷ [])) ∷ []))
  next_in o room index xs x at =
      qed 𝓛 (‵ (fat full_share (ty_int w32) b (index * 4 + o) (vint w32 x)) ∷ ‵ (beside_next b o
      room xs) ∷ []) ∵
      use1 𝓛 (‵ (part_at u32 full_share x b (index * 4 + o)))
      (uint_in 𝓛 full_share w32 x b (index * 4 + o)) $
      rewrite ! 0 (λ (k : ℕ). ‵ (part_at u32 full_share x b k))
      (ap (λ (n : ℕ). n * 4 + o) at ∙ sym (place_is 4 o (length xs))) refl $
      by ! (next_back o room xs x)

  shown_at : (κ : Lft) (o index : ℕ) (xs : List ℕ) → index < length xs
      → ent 𝓤 (⋆ 𝓛 (‵ (words_shown b o xs κ) ∷ []))
      (⋆ 𝓛 (‵ (shared_of u32 (get_or xs index 0) b (place 4 o index) κ) ∷ []))
  shown_at κ o index [] within = absurd (omega arith)
  shown_at κ o zero (x ∷ xs) within =
      qed 𝓛 (‵ (words_shown b o (x ∷ xs) κ) ∷ []) ∵ fsplit ! $ keep ! (0 ∷ []) $ done !
  shown_at κ o (suc index) (x ∷ xs) within =
      qed 𝓛 (‵ (words_shown b o (x ∷ xs) κ) ∷ []) ∵ fsplit ! $ keep ! (1 ∷ []) $
      by ! (shown_at κ (o + 4) index xs (omega arith))

  -- a `&` to one of the words
  pub word_shown : (κ : Lft) (o index : ℕ) (xs : List ℕ) → index < length xs
      → ent 𝓤 (⋆ 𝓛 (‵ (words_shown b o xs κ) ∷ []))
      (⋆ 𝓛 (‵ (shared_of u32 (get_or xs index 0) b (index * 4 + o) κ) ∷ []))
  word_shown κ o index xs within =
      qed 𝓛 (‵ (words_shown b o xs κ) ∷ []) ∵
      use1 𝓛 (‵ (shared_of u32 (get_or xs index 0) b (place 4 o index) κ))
      (shown_at κ o index xs within) $
      rewrite ! 0 (λ (k : ℕ). ‵ (shared_of u32 (get_or xs index 0) b k κ)) (place_is 4 o index)
      refl $ done !

  -- a block is room, whatever was written
  pub all_room : (o room : ℕ) (xs : List ℕ) → length xs ≤ room
      → ent 𝓤 (⋆ 𝓛 (‵ (words_from b o room xs) ∷ []))
      (⋆ 𝓛 (‵ (froom (ty_array (ty_int w32) room) b o) ∷ []))
  all_room o room [] fits = qed 𝓛 (‵ (froom (ty_array (ty_int w32) room) b o) ∷ []) ∵ done !
  all_room o room (x ∷ xs) fits =
      let one_more : suc (room - 1) ≡ room = omega arith in
      qed 𝓛 (‵ (words_from b o room (x ∷ xs)) ∷ []) ∵ fsplit ! $
      use1 𝓛 (‵ (fat full_share (ty_int w32) b o (vint w32 x))) (uint_out 𝓛 full_share w32 x b o) $
      use1 𝓛 (‵ (froom (ty_int w32) b o)) (𝓛.laws.at_room (ty_int w32) b o (vint w32 x)) $
      move ! (1 ∷ []) $
      use1 𝓛 (‵ (froom (ty_array (ty_int w32) (room - 1)) b (o + 4)))
      (all_room (o + 4) (room - 1) xs (omega arith)) $ move ! (1 ∷ 0 ∷ []) $
      use2 𝓛 (‵ (froom (ty_array (ty_int w32) (suc (room - 1))) b o))
      (𝓛.laws.room_cons (ty_int w32) (room - 1) b o) $
      rewrite ! 0 (λ (n : ℕ). ‵ (froom (ty_array (ty_int w32) n) b o)) one_more refl $ done !
