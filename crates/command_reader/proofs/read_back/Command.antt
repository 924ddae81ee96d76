-- A command that prints back: its canonical line says it.
use Rattle.std.proofs.Common.{◌≡◌, ℕ, ◌≤◌, Bool, true, false, cond, List, [], ◌∷◌, length, Some, Ok, Err, refl, sym, ap, subst, ◌∙◌, arith}
use Rattle.std.proofs.lemmas.Bool.{le-ltb, ltb-false}
use Rattle.gk_terms.specs.Text.{words_of, is_too_long, spaced}
use Rattle.gk_commands.specs.declared.faults.FaultKind.TheVariants.{TooLong}
use Rattle.gk_commands.specs.declared.commands.Command.{Command}
use Rattle.gk_commands.specs.Line.{command_at, command_of}
use Rattle.gk_commands.specs.Accepted.{PrintsBack}
use Rattle.gk_commands.specs.Printing.{command_words}
use Rattle.command_reader.proofs.read_back.Words.{AreWords, words_back}
use Rattle.command_reader.proofs.read_back.Lengths.{cost, cost_read, length_spaced_some}

-- its words say it, are words, and fit a line
pub record IsSaidAgain (command : Command) : Type 0 where
  pub said : command_at (command_words command) ≡ Ok (Some command)
  pub solid : AreWords (command_words command)
  pub fits : cost (command_words command) ≤ 513

-- the words of a line that says a command, and are its canonical words
pub record IsSpelledBy (words : List (List ℕ)) (command : Command) : Type 0 where
  pub same : command_words command ≡ words
  pub solid : AreWords words

pub prints_as_read : (words : List (List ℕ)) (command : Command) → IsSpelledBy words command →
    command_at words ≡ Ok (Some command) → cost words ≤ 513 → IsSaidAgain command
prints_as_read words command s said fits = record {
  said = ap command_at s.same ∙ said;
  solid = subst AreWords (sym s.same) s.solid;
  fits = subst (λ ws. cost ws ≤ 513) (sym s.same) fits;
}

short_line : (words : List (List ℕ)) → cost words ≤ 513 → length (spaced words) ≤ 512
short_line [] h = omega arith
short_line (word ∷ words) h = omega (arith, length_spaced_some word words, h)

-- the canonical line of such a command says it
pub prints_back : (command : Command) → IsSaidAgain command → PrintsBack command
unfolding command_of
prints_back command back =
    let line : List ℕ = spaced (command_words command) in
    let fits : length line ≤ 512 = short_line (command_words command) back.fits in
    let short : is_too_long line ≡ false = le-ltb 512 (length line) fits in
    record {
      said = ap (λ b. cond b (Err TooLong) (command_at (words_of line))) short
          ∙ ap command_at (words_back (command_words command) back.solid) ∙ back.said;
      words = back.solid;
      fits = fits;
    }

-- a line that says a command is not too long
pub record IsSaid (line : List ℕ) (command : Command) : Type 0 where
  pub fits : cost (words_of line) ≤ 513
  pub said : command_at (words_of line) ≡ Ok (Some command)

pub line_said : (line : List ℕ) (command : Command) → command_of line ≡ Ok (Some command) → IsSaid
    line
    command
unfolding command_of
line_said line command h = by (is_too_long line) refl h
  where
    by : (b : Bool) → is_too_long line ≡ b → cond b (Err TooLong) (command_at (words_of line)) ≡ Ok
        (Some command) → IsSaid line command
    by true e f = absurd (let no : ⊥ = cc in no)
    by false e f = record {
      fits = omega (arith, cost_read line, ltb-false 512 (length line) e);
      said = f;
    }
