-- The exchange that adds an entry keeps the rule of the history.
use Rattle.std.proofs.Common.{◌≡◌, ℕ, ◌+◌, ◌<◌, ◌==◌, Bool, true, false, List, [], ◌∷◌, ◌++◌, length, refl, ap, sym, subst, arith, inl, length-append, Option}
use Rattle.std.proofs.lemmas.List.{append-nil}
use Rattle.std.proofs.lemmas.Bool.Decides.{nat_tests}
use mathlib.Core.List.{IsPrefix}
use prog.Atomic.{either}
use Rattle.logbook.specs.Pages.{Cell, cell, keeps, no_nib, step, Moves, Goes}
use Rattle.publisher.specs.declared.entries.Entry.{Entry}
use Rattle.publisher.specs.History.{MayFollow, IsLegalLog}
use Rattle.publisher.specs.Law.{IsKept, AddsEntry}
use Rattle.publisher.proofs.Prefixes.{prefix_whole}
use Rattle.publisher.proofs.Histories.{legal_snoc}

abbrev pub shown : List Entry → List Entry
shown log = []

abbrev pub moved : List Entry → List Entry → ℕ → Type 0
moved before after answer = Unit {0}

module _ (v : List Entry) (e : Entry) (old : ℕ) (s : Option ℕ) (len : length v ≡ old)
    (may : MayFollow v e) where
  adds_goes : (log : List Entry) → IsLegalLog log → IsPrefix v log
      → (b : Bool) → (length log == old) ≡ b
      → Goes IsKept shown moved 0 (v, (no_nib, s)) (λ n. either (n == old) (old + 1) n)
      (AddsEntry (step 0 old (old + 1) e) (v, (no_nib, s))) ((length log, true) ∷ (0, true) ∷ [])
      log
  adds_goes log legal pre true is =
      let here : length log ≡ old = grind (arith, nat_tests) in
      let same : v ≡ log = prefix_whole v log pre (omega arith) in
      let may_follow : MayFollow log e = subst (λ (w : List Entry). MayFollow w e) same may in
      let longer : IsLegalLog (log ++ e ∷ []) = legal_snoc log e legal may_follow in
      let n : either (length log == old) (old + 1) (length log) ≡ length (log ++ e ∷ []) =
      rw is (omega (arith, length-append log (e ∷ []))) in (
        keeps,
        e ∷ [],
        s,
        tt,
        record { words = ap (λ (k : ℕ). (k, true) ∷ (0, true) ∷ []) n; legal = longer },
        inl (refl, refl),
        λ _. ap (λ w. w ++ e ∷ []) (sym same),
      )
  adds_goes log legal pre false is =
      let all : log ++ [] ≡ log = append-nil log in
      let kept : IsLegalLog (log ++ []) = subst IsLegalLog (sym all) legal in
      let n : either (length log == old) (old + 1) (length log) ≡ length (log ++ []) =
      rw is (ap length (sym all)) in (
        keeps,
        [],
        s,
        tt,
        record { words = ap (λ (k : ℕ). (k, true) ∷ (0, true) ∷ []) n; legal = kept },
        inl (refl, refl),
        λ (found : (length log == old) ≡ true). absurd (cc (found, is)),
      )

  -- whatever the history is, the exchange adds the entry to all that was seen, or nothing
  pub adds_moves : Moves IsKept shown moved 0 (v, (no_nib, s))
      (λ n. either (n == old) (old + 1) n) (AddsEntry (step 0 old (old + 1) e) (v, (no_nib, s)))
  adds_moves cs log kept pre away =
      let P : List Cell → Type 0 = λ c. (0 < length c) × ((cell c 0).1 ≡ true) ×
      Goes IsKept shown moved 0 (v, (no_nib, s)) (λ n. either (n == old) (old + 1) n)
      (AddsEntry (step 0 old (old + 1) e) (v, (no_nib, s))) c log in
      subst P (sym kept.words)
      (omega arith, refl, adds_goes log kept.legal pre (length log == old) refl)
