-- Names read one by one from the words that are left.
use Rattle.std.proofs.Common.{◌≡◌, ℕ, List, [], ◌∷◌, ◌++◌, append_assoc, refl, sym, ap, ◌∙◌}
use Rattle.std.specs.Prelude.{Result, Ok, Err, MatchResult, IsErr}
use Rattle.std.specs.Option.{ok_or}
use Rattle.std.specs.declared.alloc.AllocError.{AllocError}
use Rattle.gk_terms.specs.Name.{name_of}
use Rattle.gk_commands.specs.declared.faults.FaultKind.{FaultKind}
use Rattle.gk_commands.specs.declared.faults.FaultKind.TheVariants.{BadName}
use Rattle.gk_terms.specs.Fields.{◌>>=◌}
use Rattle.gk_commands.specs.Fields.{with_name, names_in}
use Rattle.command_reader.specs.Memory.{HoldsNames}
use Rattle.command_reader.proofs.one_by_one.HeldLemmas.{held_more}

-- names after others
abbrev pub in_front : List (List ℕ) → List (List ℕ) → Result (List (List ℕ)) FaultKind
in_front front names = Ok (front ++ names)

-- the words before those that are left are names, and they are held
pub record AreNames (all left : List (List ℕ)) (held : Result (List (List ℕ)) AllocError) : Type 0
  where
    pub front : List (List ℕ)
    pub same : names_in all ≡ (names_in left >>= in_front front)
    pub holds : HoldsNames held front

one_name : (word name : List ℕ) (left : List (List ℕ)) → ok_or (name_of word) BadName ≡ Ok name →
    names_in (word ∷ left) ≡ (names_in left >>= with_name name)
one_name word name left h = ap (λ (r : Result (List ℕ) FaultKind). r >>= λ n. names_in left >>=
    with_name n) h

two_fronts : (r : Result (List (List ℕ)) FaultKind) (front : List (List ℕ)) (name : List ℕ) →
    ((r >>= with_name name) >>= in_front front) ≡ (r >>= in_front (front ++ name ∷ []))
two_fronts (Ok names) front name = ap Ok (sym (append_assoc front (name ∷ []) names))
two_fronts (Err kind) front name = refl

pub first_name : (word name : List ℕ) (left : List (List ℕ))
    (held : Result (List (List ℕ)) AllocError) → ok_or (name_of word) BadName ≡ Ok name → HoldsNames
    held (name ∷ []) → AreNames (word ∷ left) left held
first_name word name left held h k = record {
  front = name ∷ [];
  same = one_name word name left h;
  holds = k;
}

pub more_names : (all left : List (List ℕ)) (word name : List ℕ)
    (before after : Result (List (List ℕ)) AllocError) → AreNames all (word ∷ left) before → ok_or
    (name_of word) BadName ≡ Ok name → MatchResult before
    (λ names. HoldsNames after (names ++ name ∷ [])) (λ _. IsErr after) → AreNames all left after
more_names all left word name before after n h k = record {
  front = n.front ++ name ∷ [];
  same = n.same ∙ ap (λ (r : Result (List (List ℕ)) FaultKind). r >>= in_front n.front)
      (one_name word name left h) ∙ two_fronts (names_in left) n.front name;
  holds = held_more before after n.front (name ∷ []) k n.holds;
}
