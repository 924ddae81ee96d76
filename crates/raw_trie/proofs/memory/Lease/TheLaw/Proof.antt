-- A `&` to a lease holds nothing.
use denote.RattleType.{RattleType}
use denote.RawPtr.{RawPtr}
use denote.Param.Laws.{Laws}
use denote.Param.Shared.{copy_shared}
use denote.SharingLaws.{nothing_shr_laws}
use denote.Struct.Laws.{field_copy}
use denote.Struct.Lending.{of_Lends, Lends-nothing}
use Rattle.std.specs.declared.alloc.Allocator.{Ghosts}
use Rattle.std.specs.contracts.marker.PhantomData as marker
use Rattle.raw_trie.specs.contracts.memory.Lease as lease
use Rattle.raw_trie.proofs.memory.Lease.TheLaw.Statement.{statement}

pub shares : (A : RattleType) (g : Ghosts A.Denot) (L : Laws A) → statement A g L
shares A g L =
    of_Lends (lease.struct A g) (lease.the_codes A.Denot A.coded (marker.the_row RawPtr).coded)
    (lease.the_heap A g) (lease.the_lent A g) (λ d p. nothing_shr_laws)
    (copy_shared (marker.the_field RawPtr) (field_copy (marker.the_type RawPtr) tt), tt)
    (λ M 𝓤 𝓛 d p. Lends-nothing 𝓛 (lease.the_heap A g d) (lease.the_row A g).lives)
