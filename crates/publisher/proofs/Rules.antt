-- The steps that keep the rule over what is shown.
use Rattle.std.proofs.Common.{◌≡◌, ℕ, ◌≢◌, List, [], ◌∷◌, ◌++◌, fold, refl, sym, ◌∙◌, subst, ⊎_elim}
use Rattle.std.proofs.lemmas.List.Sums.{fold-append}
use mathlib.Core.Option.{some, some-ne-none}
use mathlib.Core.List.{IsPrefix}
use lib.ListN.{get_elem?}
use Rattle.crossbeam_utils.specs.Register.{Admits, TurnsAt, Turns}
use Rattle.atomic_table.proofs.Lists.{at_set, at_snoc}
use Rattle.logbook.specs.Pages.{Book}
use Rattle.gk_commands.specs.declared.commands.Command.{Command}
use Rattle.publisher.specs.declared.publications.Publication.{Publication}
use Rattle.publisher.specs.Publications.{list_of}
use Rattle.publisher.specs.Showing.{AllBegin}
use Rattle.publisher.proofs.Prefixes.{prefix_self, prefix_trans}

-- of the pending publications the last one is shown
pub last_applied : {S : Type 0} (state : Publication → S) (first : S)
    (pending : List Publication) (next shown : Publication)
    → state shown ≡ fold (λ _ p. state p) first (pending ++ next ∷ []) → state shown ≡ state next
last_applied state first pending next shown e =
    e ∙ fold-append (λ _ p. state p) first pending (next ∷ [])

abbrev pub Seen : Type 0
Seen = List (List Command)

module _ (book : Book) where
  abbrev pub Holds : Publication → List Seen → Type 0
  Holds shown views = (shown.stem.seen.book ≡ book) × AllBegin (list_of shown) views

  abbrev pub Looks : Seen → Publication → Publication → Seen → Type 0
  Looks before _ shown after =
      (shown.stem.seen.book ≡ book) × IsPrefix before after × (after ≡ list_of shown)

  -- a new place has seen nothing
  pub admits : Admits Holds []
  admits shown views h = (
    h.0,
    λ (seat : ℕ) (seen : Seen) (at : get_elem? (views ++ [] ∷ []) seat ≡ some seen).
        ⊎_elim (h.1 seat seen)
        (λ (e : [] ≡ seen). subst (λ (z : Seen). IsPrefix z (list_of shown)) e
        (list_of shown, refl))
        (at_snoc views [] seen seat at),
  )

  -- the first publication, and the publisher's own place
  pub opens : (shown : Publication) → shown.stem.seen.book ≡ book → Holds shown ([] ∷ [])
  opens shown is =
      admits shown [] (
        is,
        λ (seat : ℕ) (seen : Seen) (at : get_elem? {A = Seen} [] seat ≡ some seen).
            absurd (some-ne-none seen (sym at)),
      )

  -- a publication whose list goes on from the list that was shown
  pub turns : (seat : ℕ) (seen : Seen) (shown next : Publication) → next.stem.seen.book ≡ book
      → IsPrefix (list_of shown) (list_of next) → TurnsAt Holds seat seen shown next Looks
  turns seat seen shown next is later views h at = (
    list_of next,
    (
      is,
      λ (other : ℕ) (u : Seen) e.
          ⊎_elim (λ (t : (other ≡ seat) × (list_of next ≡ u)).
          subst (λ (z : Seen). IsPrefix z (list_of next)) t.1 (prefix_self (list_of next)))
          (λ (t : (other ≢ seat) × (get_elem? views other ≡ some u)).
          prefix_trans u (list_of shown) (list_of next) (h.1 other u t.1) later)
          (at_set views seat other (list_of next) u e),
    ),
    (is, prefix_trans seen (list_of shown) (list_of next) (h.1 seat seen at) later, refl),
  )

  -- a publication that shows the same
  pub follows : (seat : ℕ) (seen : Seen) (shown next : Publication)
      → shown.stem.seen.book ≡ book → next.stem.seen.book ≡ shown.stem.seen.book
      → list_of next ≡ list_of shown → TurnsAt Holds seat seen shown next Looks
  follows seat seen shown next is book_is list_is =
      turns seat seen shown next (book_is ∙ is)
      (subst (λ (w : Seen). IsPrefix (list_of shown) w) (sym list_is)
      (prefix_self (list_of shown)))

  -- a look
  pub looks : (seat : ℕ) (seen : Seen) → Turns Holds seat seen (λ shown. shown) Looks
  looks seat seen shown views h at =
      turns seat seen shown shown h.0 (prefix_self (list_of shown)) views h at
