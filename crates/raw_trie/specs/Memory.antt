-- What the words of a block and its lease own, and what a `&` to the words holds.
use Rattle.std.specs.Prelude.{ℕ, ◌+◌, ◌-◌, List, [], ◌∷◌}
use base.Fraction.{full_share}
use base.Fml.{Lft, Fml, ffalse, fsep, froom}
use mir.Syntax.{Ty, w32, ty_int, ty_array}
use mir.Raw.{raw}
use denote.Builtin.{u32}
use denote.Memory.{part_at, shared_of}
use denote.RawPtr.{Ptr, block_ptr, null_ptr}
use denote.Sharing.{nothing, said, beside}

-- the type that a block of so many words is allocated for
abbrev pub block_type : ℕ → Ty
block_type room = raw (ty_array (ty_int w32) room)

-- the words that were written, from the offset o of the block b on, and room for the others
abbrev pub words_from : ℕ → ℕ → ℕ → List ℕ → Fml
words_from b o room [] = froom (ty_array (ty_int w32) room) b o
words_from b o room (x ∷ xs) =
    fsep (part_at u32 full_share x b o) (words_from b (o + 4) (room - 1) xs)

abbrev pub words_owned : Ptr → ℕ → List ℕ → Fml
words_owned (block_ptr b o) room xs = words_from b o room xs
words_owned null_ptr room xs = ffalse

-- a `&` to each of the words
abbrev pub words_shown : ℕ → ℕ → List ℕ → Lft → Fml
words_shown b o [] = nothing
words_shown b o (x ∷ xs) = beside (shared_of u32 x b o) (words_shown b (o + 4) xs)

abbrev pub words_lent : Ptr → List ℕ → Lft → Fml
words_lent (block_ptr b o) xs = words_shown b o xs
words_lent null_ptr xs = said ffalse
