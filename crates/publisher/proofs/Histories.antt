-- What a draft and a confirmation at the end of a history do.
use Rattle.std.proofs.Common.{◌≡◌, ℕ, ◌+◌, ◌-◌, ◌≤◌, Bool, true, false, List, [], ◌∷◌, ◌++◌, length, Option, Some, None, option_map, unwrap_or, refl, ap, sym, ◌∙◌, subst, arith, ⊎_elim, append_assoc, length-append}
use Rattle.std.proofs.lemmas.List.{append-nil}
use Rattle.std.proofs.lemmas.List.Elements.{filter_map-append}
use Rattle.std.proofs.lemmas.List.Sums.{fold-append}
use mathlib.Core.List.{IsPrefix}
use native.Mathlib.Decide.{dec_le}
use Rattle.gk_commands.specs.declared.commands.Command.{Command}
use Rattle.publisher.specs.declared.entries.Entry.{Entry}
use Rattle.std.specs.Arc.{arc_value}
use Rattle.publisher.specs.declared.publications.Publication.{Publication}
use Rattle.publisher.specs.Publications.{confirmed_by}
use Rattle.publisher.specs.History.{draft_of, confirmation_of, generation_of, generations_in, shown_by, last_of, is_in_force, MayFollow, IsLegalLog}
use Rattle.publisher.proofs.Prefixes.{prefix_self, prefix_trans, prefix_snoc, prefix_after}

pub generations_append : (xs ys : List Entry)
    → generations_in (xs ++ ys) ≡ generations_in xs ++ generations_in ys
generations_append xs ys = filter_map-append generation_of xs ys

pub generations_prefix : (xs ys : List Entry) → IsPrefix xs ys
    → IsPrefix (generations_in xs) (generations_in ys)
generations_prefix xs ys p =
    (generations_in p.0, sym (generations_append xs p.0) ∙ ap generations_in p.1)

-- a draft is no generation
pub generations_draft : (log : List Entry) (commands : List Command)
    → generations_in (log ++ draft_of commands ∷ []) ≡ generations_in log
generations_draft log commands =
    generations_append log (draft_of commands ∷ []) ∙ append-nil (generations_in log)

-- a confirmed draft is one more
pub generations_in_force : (log : List Entry) (commands : List Command)
    → generations_in (log ++ confirmation_of commands ∷ []) ≡ generations_in log ++ commands ∷ []
generations_in_force log commands = generations_append log (confirmation_of commands ∷ [])

pub last_of_snoc : (log : List Entry) (entry : Entry) → last_of (log ++ entry ∷ []) ≡ Some entry
last_of_snoc log entry = fold-append (λ _ e. Some e) None log (entry ∷ [])

-- the history that says of a publication that it is in force
pub confirmed_in_force : (told : List Entry) (shown : Publication) → told ≡ confirmed_by shown
    → is_in_force told ≡ true
confirmed_in_force told shown is =
    let last : List Entry = confirmation_of (arc_value shown.tables).commands ∷ [] in
    ap is_in_force is ∙ fold-append (λ _ e. e.in_force) false shown.stem.seen.log last

-- a draft may follow anything
pub draft_follows : (log : List Entry) (commands : List Command)
    → MayFollow log (draft_of commands)
draft_follows log commands is = absurd (cc)

pub legal_prefix : (xs ys : List Entry) → IsPrefix xs ys → IsLegalLog ys → IsLegalLog xs
legal_prefix xs ys p legal before entry q =
    legal before entry (prefix_trans (before ++ entry ∷ []) xs ys q p)

pub legal_snoc : (log : List Entry) (entry : Entry) → IsLegalLog log → MayFollow log entry
    → IsLegalLog (log ++ entry ∷ [])
legal_snoc log entry legal may before e p =
    ⊎_elim (legal before e) (λ (q : (before ≡ log) × (e ≡ entry)). rw (q.0, q.1) may)
    (prefix_snoc before log e entry p)

module _ (commands : List Command) where
  -- what the entry after a draft of these commands stands for
  after_draft : (shown : List Entry) (entry : Entry) (b : Bool) → entry.in_force ≡ b
      → last_of shown ≡ Some (draft_of commands) → MayFollow shown entry
      → IsPrefix (generations_in (entry ∷ [])) (commands ∷ [])
  after_draft shown entry true is last may =
      let same : Some (draft_of commands) ≡ Some (draft_of entry.commands) =
      sym last ∙ may is in
      let commands_are : commands ≡ entry.commands =
      ap (λ (o : Option Entry). unwrap_or (option_map (λ (e : Entry). e.commands) o) commands)
      same in
      rw is ([], ap (λ w. w ∷ []) (sym commands_are))
  after_draft shown entry false is last may = rw is (commands ∷ [], refl)

  -- a legal history with at most one entry more than one that ends with a draft
  one_more : (told shown more : List Entry) → shown ++ more ≡ told
      → length told - 1 ≤ length shown → last_of shown ≡ Some (draft_of commands) → IsLegalLog told
      → IsPrefix (generations_in told) (shown_by shown commands)
  one_more told shown [] e le last legal =
      let same : shown ≡ told = sym (append-nil shown) ∙ e in
      subst (λ (w : List Entry). IsPrefix (generations_in w) (shown_by shown commands)) same
      (commands ∷ [], refl)
  one_more told shown (x ∷ []) e le last legal =
      let may : MayFollow shown x = legal shown x ([], append-nil (shown ++ x ∷ []) ∙ e) in
      let more = after_draft shown x x.in_force refl last may in
      subst (λ (w : List Entry). IsPrefix (generations_in w) (shown_by shown commands)) e
      (rw (generations_append shown (x ∷ []))
      (prefix_after (generations_in shown) (generations_in (x ∷ [])) (commands ∷ []) more))
  one_more told shown (x ∷ y ∷ more) e le last legal =
      absurd (let n = ap length e in omega (arith, n, length-append shown (x ∷ y ∷ more)))

  -- what was told is in what is shown, if it has at most one entry more
  pub told_is_shown : (told shown : List Entry) → last_of shown ≡ Some (draft_of commands)
      → IsLegalLog told → (length told ≤ length shown → IsPrefix told shown)
      → (length shown ≤ length told → IsPrefix shown told) → length told - 1 ≤ length shown
      → IsPrefix (generations_in told) (shown_by shown commands)
  told_is_shown told shown last legal shorter longer le =
      elim (dec_le (length shown) (length told)) [
        | yes d ↦ one_more told shown (longer d).0 (longer d).1 le last legal
        | no d ↦ prefix_trans (generations_in told) (generations_in shown) (shown_by shown commands)
            (generations_prefix told shown (shorter (omega arith))) (commands ∷ [], refl)
      ]
