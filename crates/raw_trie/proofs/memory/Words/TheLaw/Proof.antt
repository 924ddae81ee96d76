-- A `&` to the words is made where one to a word is.
use Rattle.std.proofs.Common.{ℕ, ◌+◌, ◌-◌, List, [], ◌∷◌}
use seplogic.Ra.Ura.{Ura}
use base.Fraction.{full_share}
use base.Fml.{Lft, ffalse, froom}
use mir.Syntax.{w32, ty_int, ty_array}
use types.Logic.{Logic}
use denote.Builtin.{u32}
use denote.Copied.{uint_Copied}
use denote.Memory.{part_at, shared_of}
use denote.Param.Shared.{copy_shared}
use denote.RawPtr.{Ptr, block_ptr, null_ptr}
use denote.Sharing.{ShrLaws, said}
use denote.SharingLaws.{nothing_shr_laws, said_shr_laws, beside_shr_laws}
use denote.Struct.Field.{RawPtr-field}
use denote.Struct.Laws.{RawPtr-copy, u32-copy}
use denote.Struct.Lending.{Lends, Lends-false, Lends-nothing, Lends-both, of_Lends}
use Rattle.raw_trie.specs.Memory.{words_from, words_owned, words_shown, words_lent}
use Rattle.raw_trie.specs.contracts.memory.Words as words
use Rattle.raw_trie.proofs.memory.Words.TheLaw.Statement.{statement}

shown_laws : (b o : ℕ) (xs : List ℕ) → ShrLaws (words_shown b o xs)
shown_laws b o [] = nothing_shr_laws
shown_laws b o (x ∷ xs) =
    beside_shr_laws (shared_of u32 x b o) (words_shown b (o + 4) xs) (u32-copy.shr_laws x b o)
    (shown_laws b (o + 4) xs)

lent_laws : (p : Ptr) (xs : List ℕ) → ShrLaws (words_lent p xs)
lent_laws (block_ptr b o) xs = shown_laws b o xs
lent_laws null_ptr xs = said_shr_laws ffalse tt

module _ {M : Type 1} {𝓤 : Ura M} (𝓛 : Logic 𝓤) (l : Lft) where
  lends_from : (b o room : ℕ) (xs : List ℕ)
      → Lends 𝓛 (words_from b o room xs) (words_shown b o xs) l
  lends_from b o room [] = Lends-nothing 𝓛 (froom (ty_array (ty_int w32) room) b o) l
  lends_from b o room (x ∷ xs) =
      Lends-both 𝓛 (part_at u32 full_share x b o) (words_from b (o + 4) (room - 1) xs)
      (shared_of u32 x b o) (words_shown b (o + 4) xs) l
      (λ κ ts. (uint_Copied 𝓛 w32).shares full_share l x κ ts b o)
      (lends_from b (o + 4) (room - 1) xs)

  lends_words : (p : Ptr) (room : ℕ) (xs : List ℕ)
      → Lends 𝓛 (words_owned p room xs) (words_lent p xs) l
  lends_words (block_ptr b o) room xs = lends_from b o room xs
  lends_words null_ptr room xs = Lends-false 𝓛 (said ffalse) l

pub shares : statement
shares =
    of_Lends words.struct words.the_codes words.the_heap words.the_lent
    (λ d p. lent_laws d.at d.words) (copy_shared RawPtr-field RawPtr-copy, tt)
    (λ M 𝓤 𝓛 d p. lends_words 𝓛 (words.the_row).lives d.at d.room d.words)
