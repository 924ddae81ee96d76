-- Lines that are read one by one: what may be answered of all of them.
use Rattle.std.proofs.Common.{◌≡◌, ℕ, ◌+◌, true, cond, List, [], ◌∷◌, refl, sym, ap, subst, ◌∙◌, inl, inr}
use Rattle.std.specs.Prelude.{◌⊎◌, Result, Ok, Err}
use Rattle.gk_terms.specs.Text.{words_of, is_too_long}
use Rattle.gk_commands.specs.declared.commands.Command.{Command}
use Rattle.gk_commands.specs.declared.faults.FaultKind.{FaultKind}
use Rattle.gk_commands.specs.declared.faults.FaultKind.TheVariants.{NoMemory, TooLong}
use Rattle.gk_commands.specs.declared.faults.LineFault.{LineFault}
use Rattle.gk_commands.specs.Configuration.{Configuration}
use Rattle.gk_commands.specs.Line.{command_of, command_at}
use Rattle.gk_commands.specs.Progress.{Progress, line_count}
use Rattle.gk_commands.specs.Reading.{nothing_read, line_after, lines_after, line_then, with_command, fault_at, finished, finished_of, reading_in, MayReadLine, MayReadOn, MayRead}

-- ---- one line, and then others
read_on : (before read : Progress) (line : List ℕ) (lines : List (List ℕ)) → line_after before line
    ≡ Ok read → lines_after before (line ∷ lines) ≡ lines_after read lines
read_on before read line lines said = ap (line_then (line_count before + 1)
    (λ next. lines_after next lines)) said

-- no line more
pub no_more_lines : (before : Progress) → MayReadOn before [] (Ok before)
no_more_lines before = refl

-- a line that is read, and then others
pub one_line : (before read : Progress) (line : List ℕ) (lines : List (List ℕ))
    (end : Result Progress LineFault) → MayReadLine before line (Ok read) → MayReadOn read lines end
    → MayReadOn before (line ∷ lines) end
one_line before read line lines (Ok last) said rest = read_on before read line lines said ∙ rest
one_line before read line lines (Err fault) said (inl faulty) = inl
    (read_on before read line lines said ∙ faulty)
one_line before read line lines (Err fault) said (inr m) =
    inr (record {
      front = line ∷ m.front;
      line = m.line;
      rest = m.rest;
      split = ap (λ more. line ∷ more) m.split;
      read = m.read;
      read_is = read_on before read line m.front said ∙ m.read_is;
      named = m.named;
      lacks = m.lacks;
    })

-- a line that is refused, whatever comes after it
pub refused_line : (before : Progress) (line : List ℕ) (lines : List (List ℕ)) (fault : LineFault) →
    MayReadLine before line (Err fault) → MayReadOn before (line ∷ lines) (Err fault)
refused_line before line lines fault (named, inl faulty) =
    inl (ap (line_then (line_count before + 1) (λ next. lines_after next lines)) faulty ∙ ap
    (λ n. Err (fault_at n fault.kind)) (sym named))
refused_line before line lines fault (named, inr lacks) =
    inr (record {
      front = [];
      line = line;
      rest = lines;
      split = refl;
      read = before;
      read_is =
          refl;
      named = named;
      lacks = lacks;
    })

-- ---- the whole
answered : (lines : List (List ℕ)) (answer : Result Configuration LineFault) → reading_in lines ≡
    answer → MayRead lines answer
answered lines (Ok configuration) said = said
answered lines (Err fault) said = inl said

-- what was read of all lines, and what is made of it
pub finishes : (lines : List (List ℕ)) (read : Progress) → MayReadOn nothing_read lines (Ok read) →
    MayRead lines (finished read)
finishes lines read said = answered lines (finished read) (ap finished_of said)

pub refuses : (lines : List (List ℕ)) (fault : LineFault) → MayReadOn nothing_read lines (Err fault)
    → MayRead lines (Err fault)
refuses lines fault (inl faulty) = inl (ap finished_of faulty)
refuses lines fault (inr lacks) = inr lacks

-- ---- lines that say the same
pub long_says : (line : List ℕ) → is_too_long line ≡ true → command_of line ≡ Err TooLong
unfolding command_of
long_says line long = ap (λ t. cond t (Err TooLong) (command_at (words_of line))) long

same_after : (before : Progress) (line other : List ℕ) → command_of line ≡ command_of other →
    line_after
    before line ≡ line_after before other
unfolding line_after
same_after before line other e = rw e refl

pub same_line : (before : Progress) (line other : List ℕ) (after : Result Progress LineFault) →
    command_of line ≡ command_of other → MayReadLine before line after → MayReadLine before other
    after
same_line before line other (Ok read) e said = sym (same_after before line other e) ∙ said
same_line before line other (Err fault) e (named, said) = (
  named,
  subst
      (λ (x : Result Progress FaultKind). (x ≡ Err fault.kind) ⊎
      ((fault.kind ≡ NoMemory) × ((command : Command) ×
      (x ≡ Ok (with_command before command)))))
      (same_after before line other e) said,
)
