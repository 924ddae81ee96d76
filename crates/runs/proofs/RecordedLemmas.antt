-- The rows of a record: those of its first entries, those that one entry more adds, and that each
-- may come after those before it.
use Rattle.std.proofs.Common.{◌≡◌, ◌≤◌, ◌<◌, ℕ, zero, suc, ◌+◌, ◌-◌, true, List, [], ◌∷◌, ◌++◌, length, take, Option, Some, None, refl, sym, ap, subst, ◌∙◌, arith, append_assoc, append-nil}
use Rattle.std.specs.Option.{option_and_then}
use Rattle.std.specs.List.{cons_option}
use Rattle.std.proofs.lemmas.Option.{none-some}
use Rattle.gk_commands.specs.declared.commands.Command.{Command}
use Rattle.call_rows.specs.Rows.{RowParts}
use Rattle.call_rows.specs.Pushing.{MayFollow, push_fault}
use Rattle.rulings.specs.declared.limits.Limits.{Limits}
use Rattle.rulings.specs.Limits.{are_limits}
use Rattle.rulings.specs.State.{State, opening_of}
use Rattle.rulings.specs.Step.{step}
use Rattle.entry_bytes.specs.Entry.{PlainEntry}
use Rattle.decision_record.specs.History.{entry_of_number, IsLegal}
use Rattle.decision_record.specs.Rows.{entry_row, row_in, rows_from, rows_of}
use Rattle.admission.proofs.RowHistoryLemmas.{rows_next, rows_whole}
use Rattle.admission.proofs.RowLawLemmas.{rows_are_never_refused}

-- ---- the rows of its first entries begin those of all
record Begin (first all : List RowParts) : Type 0 where
  rest : List RowParts
  split : all ≡ first ++ rest

put_before : (o : Option RowParts) (first all : List RowParts) → Begin first all
    → Begin (cons_option o first) (cons_option o all)
put_before None first all b = b
put_before (Some row) first all b =
    record { rest = b.rest; split = ap (λ rows. row ∷ rows) b.split }

begin_from : (s : State) (number : ℕ) (entries : List PlainEntry) (place : ℕ)
    → Begin (rows_from s number (take place entries)) (rows_from s number entries)
begin_from s number [] zero = record { rest = []; split = refl }
begin_from s number [] (suc place) = record { rest = []; split = refl }
begin_from s number (e ∷ es) zero = record { rest = rows_from s number (e ∷ es); split = refl }
begin_from s number (e ∷ es) (suc place) =
    put_before (row_in s number e) _ _ (begin_from (step s e.event).state (number + 1) es place)

pub rows_begin : (s : State) (entries : List PlainEntry) (place : ℕ)
    → (rest : List RowParts) × (rows_of s entries ≡ rows_of s (take place entries) ++ rest)
rows_begin s entries place =
    let b = begin_from s 1 entries place in
    (b.rest, b.split)

-- ---- one entry more
pub row_more : (s : State) (entries found : List PlainEntry) → found ≡ entries
    → (place number : ℕ) → number ≡ place + 1 → place < length entries → (o : Option RowParts)
    → o ≡ option_and_then (entry_row number) (entry_of_number found number)
    → rows_of s (take (place + 1) entries) ≡ rows_of s (take place entries) ++ cons_option o []
row_more s entries found same place number is within o row_is =
    rows_next s entries place number is within o
    (row_is ∙ ap (λ es. option_and_then (entry_row number) (entry_of_number es number)) same)

-- ---- each may come after those before it
follow_more : (before rows : List RowParts) (row : RowParts) → MayFollow before rows
    → push_fault (before ++ rows) row ≡ None → MayFollow before (rows ++ row ∷ [])
follow_more before [] row h own =
    (subst (λ front. push_fault front row ≡ None) (append-nil before) own, tt)
follow_more before (x ∷ rows) row h own = (
  h.0,
  follow_more (before ++ x ∷ []) rows row h.1
      (subst (λ front. push_fault front row ≡ None) (sym (append_assoc before (x ∷ []) rows)) own),
)

module _ (commands : List Command) (limits : Limits) (entries : List PlainEntry)
    (good : are_limits limits ≡ true) (legal : IsLegal (opening_of commands limits) entries) where
  abbrev opening : State
  opening = opening_of commands limits

  abbrev first : ℕ → List RowParts
  first place = rows_of opening (take place entries)

  abbrev row_after : ℕ → Option RowParts
  row_after place = option_and_then (entry_row (place + 1)) (entry_of_number entries (place + 1))

  not_refused : (place : ℕ) (row : RowParts) → Some row ≡ row_after place
      → push_fault (first place) row ≡ None
  not_refused place row is = by (entry_of_number entries (place + 1)) refl is
    where
      by : (found : Option PlainEntry) → entry_of_number entries (place + 1) ≡ found
          → Some row ≡ option_and_then (entry_row (place + 1)) found
          → push_fault (first place) row ≡ None
      by None there is = absurd (none-some row (sym is))
      by (Some e) there is =
          let back : place + 1 - 1 ≡ place = omega arith in
          subst (λ n. push_fault (first n) row ≡ None) back
          (rows_are_never_refused commands limits entries (place + 1) e row good legal there
          (sym is))

  follow_next : (place : ℕ) (o : Option RowParts) → o ≡ row_after place → MayFollow [] (first place)
      → MayFollow [] (first place ++ cons_option o [])
  follow_next place None is before =
      subst (MayFollow []) (sym (append-nil (first place))) before
  follow_next place (Some row) is before =
      follow_more [] (first place) row before (not_refused place row is)

  follow_to : (place : ℕ) → place ≤ length entries → MayFollow [] (first place)
  follow_to zero within = tt
  follow_to (suc place) within =
      let next : place + 1 ≡ suc place = omega arith in
      subst (λ n. MayFollow [] (first n)) next
      (subst (MayFollow [])
      (sym (rows_next opening entries place (place + 1) refl (omega (arith, within))
      (row_after place) refl))
      (follow_next place (row_after place) refl (follow_to place (omega (arith, within)))))

  all_follow : MayFollow [] (rows_of opening entries)
  all_follow =
      subst (MayFollow []) (rows_whole opening entries (length entries) (omega arith))
      (follow_to (length entries) (omega arith))

pub recorded_follow : (opening : State) (entries : List PlainEntry)
    → opening ≡ opening_of opening.commands opening.limits → IsLegal opening entries
    → are_limits opening.limits ≡ true → MayFollow [] (rows_of opening entries)
recorded_follow opening entries begun legal good =
    subst (λ s. MayFollow [] (rows_of s entries)) (sym begun)
    (all_follow opening.commands opening.limits entries good
    (subst (λ s. IsLegal s entries) begun legal))
