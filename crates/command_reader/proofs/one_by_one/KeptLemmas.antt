-- The commands that are kept, as one more line is read into them.
use Rattle.std.proofs.Common.{◌≡◌, ℕ, ◌+◌, ◌<◌, List, [], ◌∷◌, length, length-append, Option, Some, None, Ok, Err, refl, ap, ◌∙◌, inl, inr, arith}
use Rattle.std.specs.Prelude.{◌⊎◌, cond}
use Rattle.std.specs.HashSet.{keys}
use Rattle.std.proofs.lemmas.Bool.{lt-leb}
use Rattle.gk_terms.specs.declared.limits.TheConstants.{MOST_LINES}
use Rattle.gk_commands.specs.declared.commands.Command.{Command}
use Rattle.gk_commands.specs.declared.faults.FaultKind.{FaultKind}
use Rattle.gk_commands.specs.declared.faults.FaultKind.TheVariants.{TooMany, NoMemory}
use Rattle.command_reader.specs.declared.kept.Kept.{Kept}
use Rattle.command_reader.specs.Index.{AreDeclared}
use Rattle.command_reader.specs.Kept.{AddsCommand, KeepsAll, AddsSaid, Adds, RefusesCommand}
use Rattle.gk_commands.specs.Line.{command_of}
use Rattle.gk_commands.specs.Progress.{Progress, line_count, commands_in}
use Rattle.gk_commands.specs.Reading.{said_after, line_after, with_command, with_passed, LacksMemoryFor}
use Rattle.command_reader.proofs.one_by_one.IndexLemmas.{faulty_line, ok_line}

-- with room for one more line it counts what the line says
after_said : (before : Progress) (line : List ℕ) → line_count before < MOST_LINES → line_after
    before line ≡ said_after before (command_of line)
unfolding line_after
after_said before line room = ap (λ full. cond full (Err TooMany)
    (said_after before (command_of line))) (lt-leb MOST_LINES (line_count before) room)

-- the command of a line was added
pub record IsKept (old new : Kept) (before : Progress) (line : List ℕ) : Type 0 where
  pub command : Command
  pub said : command_of line ≡ Ok (Some command)
  pub added : AddsCommand old new command
  pub after : line_after before line ≡ Ok (with_command before command)

-- the line was passed over
pub record IsPassed (old new : Kept) (before : Progress) (line : List ℕ) : Type 0 where
  pub same : KeepsAll old new
  pub after : line_after before line ≡ Ok (with_passed before)

one_more : (old new : Kept) (command : Command) → AddsCommand old new command → length
    new.commands.items ≡ length old.commands.items + 1
one_more old new command a = ap length a.commands ∙ length-append old.commands.items (command ∷ [])

-- if there are more commands than before, one was added
pub line_kept : (old new : Kept) (before : Progress) (line : List ℕ) → line_count before <
    MOST_LINES → AreDeclared (keys old.declared) (commands_in before)
    → Adds old new (command_of line) → length old.commands.items < length new.commands.items →
    IsKept
    old new before line
line_kept old new before line room declared a more = by a.what refl a.added
  where
    by : (what : Option Command) → a.what ≡ what → AddsSaid old new what → IsKept old new before
        line
    by None e same = absurd (omega (arith, more, ap length same.commands))
    by (Some command) e added =
        let said : command_of line ≡ Ok (Some command) = a.said_is ∙ ap (λ what. Ok what) e in
        record {
          command = command;
          said = said;
          added = added;
          after = after_said before line room ∙ ap (said_after before) said ∙ ok_line
              (keys old.declared) before command declared added.free;
        }

-- if there are not, the line was passed over
pub line_passed : (old new : Kept) (before : Progress) (line : List ℕ) → line_count before <
    MOST_LINES
    → Adds old new (command_of line) → ¬ (length old.commands.items < length new.commands.items) →
    IsPassed old new before line
line_passed old new before line room a none = by a.what refl a.added
  where
    by : (what : Option Command) → a.what ≡ what → AddsSaid old new what → IsPassed old new before
        line
    by None e same = record {
      same = same;
      after = after_said before line room ∙ ap (said_after before)
          (a.said_is ∙ ap (λ what. Ok what) e);
    }
    by (Some command) e added = absurd (none (omega (arith, one_more old new command added)))

-- a line that is refused has that fault, or a command for which memory ran out
pub line_refused : (old : Kept) (before : Progress) (line : List ℕ) (kind : FaultKind) → line_count
    before < MOST_LINES → AreDeclared (keys old.declared) (commands_in before)
    → (command_of line ≡ Err kind) ⊎ RefusesCommand old (command_of line) kind →
    (line_after before line ≡ Err kind) ⊎ LacksMemoryFor before line kind
line_refused old before line kind room declared (inl fault) = inl
    (after_said before line room ∙ ap (said_after before) fault)
line_refused old before line kind room declared (inr r) =
    by (faulty_line (keys old.declared) before r.command kind declared r.refused)
  where
    here : line_after before line ≡ said_after before (Ok (Some r.command))
    here = after_said before line room ∙ ap (said_after before) r.said_is

    by : (said_after before (Ok (Some r.command)) ≡ Err kind) ⊎
        ((kind ≡ NoMemory) × (said_after before (Ok (Some r.command)) ≡ Ok
        (with_command before r.command)))
        → (line_after before line ≡ Err kind) ⊎ LacksMemoryFor before line kind
    by (inl fault) = inl (here ∙ fault)
    by (inr (lacks, after)) = inr (lacks, (r.command, here ∙ after))
