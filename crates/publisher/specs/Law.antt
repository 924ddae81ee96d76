-- The rule of the history, and what a step on its word tells.
use Rattle.std.specs.Prelude.{◌≡◌, ℕ, ◌==◌, true, List, [], ◌∷◌, ◌++◌, length}
use Rattle.logbook.specs.Pages.{Cell, Step, View, Book, Named}
use Rattle.publisher.specs.declared.entries.Entry.{Entry}
use Rattle.publisher.specs.History.{IsLegalLog}

-- the first word is the length of the history, which is legal; the second one stays 0
pub record IsKept (cells : List Cell) (log : List Entry) : Type 0 where
  pub words : cells ≡ (length log, true) ∷ (0, true) ∷ []
  pub legal : IsLegalLog log

-- the first word of a book
abbrev pub head_of : Book → Named
head_of book = record { tracked = true; key = 0; book = book }

-- if the word was the length of what had been seen, one entry was added to that
abbrev pub AddsEntry : Step Entry → View Entry ℕ → ℕ → View Entry ℕ → Type 0
AddsEntry step before found after =
    (found == step.old) ≡ true → after.0 ≡ before.0 ++ step.ask ∷ []
