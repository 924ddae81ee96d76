-- The words and the lease of a block may cross threads.
use Rattle.std.proofs.Common.{ℕ, ◌+◌, ◌-◌, List, [], ◌∷◌}
use base.Fraction.{full_share}
use base.Shift.{Keyless}
use denote.Exit.{Exit, unchanged, leaves, hidden, under}
use denote.Builtin.{u32}
use denote.RattleType.{RattleType}
use denote.RawPtr.{Ptr, block_ptr, null_ptr}
use denote.Struct.Struct.{exits_of}
use denote.Struct.Owning.{shape, fields, to}
use denote.Param.Send.{IsSend, IsSync, Frees, Quiet, Common, AllSend, part_keyless, owning_send, struct_send, struct_sync, sendable}
use Rattle.std.specs.declared.alloc.Allocator.{Ghosts}
use Rattle.raw_trie.specs.Memory.{words_from, words_owned, words_shown, words_lent}
use Rattle.raw_trie.specs.contracts.memory.Words as words
use Rattle.raw_trie.specs.contracts.memory.Lease as lease

quiet : {D X : Type 0} (to : D → X) (e : Exit X) → Quiet e → Quiet (hidden (under to e))
quiet to unchanged q = λ x w. tt
quiet to (leaves L l S s r₀) q = λ d. q (to d)

u32-send : IsSend u32
u32-send = search sendable

u32-sync : IsSync u32
u32-sync = search sendable

words_from-Keyless : (b o room : ℕ) (xs : List ℕ) → Keyless (words_from b o room xs)
words_from-Keyless b o room [] = tt
words_from-Keyless b o room (x ∷ xs) =
    (part_keyless u32 u32-send full_share x b o, words_from-Keyless b (o + 4) (room - 1) xs)

words_owned-Keyless : (p : Ptr) (room : ℕ) (xs : List ℕ) → Keyless (words_owned p room xs)
words_owned-Keyless (block_ptr b o) room xs = words_from-Keyless b o room xs
words_owned-Keyless null_ptr room xs = tt

words_shown-Common : (b o : ℕ) (xs : List ℕ) → Common (words_shown b o xs)
words_shown-Common b o [] κ = tt
words_shown-Common b o (x ∷ xs) κ = (u32-sync.shared x b o κ, words_shown-Common b (o + 4) xs κ)

words_lent-Common : (p : Ptr) (xs : List ℕ) → Common (words_lent p xs)
words_lent-Common (block_ptr b o) xs κ = words_shown-Common b o xs κ
words_lent-Common null_ptr xs κ = tt

pub Words-send : IsSend words.the_row
Words-send =
    let all : AllSend (fields words.the_type) = (search sendable, tt) in
    owning_send words.the_type all (λ d. words_owned-Keyless d.at d.room d.words)
    (λ k. quiet (to words.the_type) (exits_of k (fields words.the_type))
    ((struct_send (shape words.the_type) all).leaving k))

pub Words-sync : IsSync words.the_row
Words-sync = record {
  shared =
      λ d b o κ. (
        (struct_sync (shape words.the_type) (search sendable, tt)).shared
            (to words.the_type d) b o κ,
        words_lent-Common d.at d.words κ,
      );
}

module _ (A : RattleType) (g : Ghosts A.Denot) where
  pub Lease-send : Frees g g.dealloc_token → IsSend (lease.the_row A g)
  Lease-send f =
      let all : AllSend (fields (lease.the_type A g)) = (search sendable, tt) in
      owning_send (lease.the_type A g) all (λ d. f.frees d.alloc _ d.at)
      (λ k. quiet (to (lease.the_type A g)) (exits_of k (fields (lease.the_type A g)))
      ((struct_send (shape (lease.the_type A g)) all).leaving k))

  pub Lease-sync : IsSync (lease.the_row A g)
  Lease-sync = record {
    shared =
        λ d b o κ. (
          (struct_sync (shape (lease.the_type A g)) (search sendable, tt)).shared
              (to (lease.the_type A g) d) b o κ,
          tt,
        );
  }
