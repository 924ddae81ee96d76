-- The canonical lines of accepted commands read back as those commands.
use Rattle.std.proofs.Common.{◌≡◌, ℕ, ◌+◌, ◌<◌, Bool, true, false, cond, List, [], ◌∷◌, ◌++◌, length, Option, Some, None, Result, Ok, Err, refl, sym, ap, subst, ◌∙◌, arith}
use Rattle.std.specs.Prelude.{◌||◌, map, find, option_map, is_some, IfSome}
use Rattle.std.specs.List.{AllByRecursion, list_all, list_any}
use Rattle.std.proofs.lemmas.Bool.{and_from, lt-leb}
use Rattle.std.proofs.lemmas.List.{map-append, length-map}
use Rattle.std.proofs.lemmas.List.Elements.{All-nil, All-push, recursion_from_All}
use Rattle.gk_terms.specs.declared.limits.TheConstants.{MOST_LINES}
use Rattle.gk_terms.specs.Text.{lines_of}
use Rattle.gk_commands.specs.declared.faults.FaultKind.{FaultKind}
use Rattle.gk_commands.specs.declared.faults.FaultKind.TheVariants.{UnknownZone, NoLocalZone, TooMany}
use Rattle.gk_commands.specs.declared.faults.LineFault.{LineFault}
use Rattle.gk_commands.specs.declared.commands.Command.{Command}
use Rattle.gk_commands.specs.Configuration.{Configuration}
use Rattle.gk_commands.specs.Line.{command_of}
use Rattle.gk_commands.specs.Progress.{NumberedCommand, Progress, line_count, commands_in}
use Rattle.gk_commands.specs.Zones.{first_local_of}
use Rattle.gk_commands.specs.Reading.{command_fault, with_command, unless_fault, said_after, line_after, line_then, lines_after, names_unknown, fault_at, unknown_zone, local_zone_checked, zones_checked, finished, finished_of, nothing_read, reading_of}
use Rattle.gk_commands.specs.Printing.{command_words, text_of}
use Rattle.gk_commands.specs.Accepted.{is_word, canonical_line, PrintsBack, LinesSay, IsPrintable, IsAccepted}
use Rattle.gk_commands.specs.WholeLines.{KeepsLine}
use Rattle.gk_commands.proofs.WholeLinesLemmas.{said_again}
use Rattle.command_reader.proofs.read_back.Words.{lines_back}

-- ---- lines one after another
lines_after-append : (xs ys : List (List ℕ)) (before read : Progress) → lines_after before xs ≡ Ok
    read → lines_after before (xs ++ ys) ≡ lines_after read ys
lines_after-append [] ys before read h = let same : before ≡ read = cc in ap (λ b. lines_after b ys)
    same
lines_after-append (x ∷ xs) ys before read h = by (λ p g. lines_after-append xs ys p read g)
    (line_after before x) h
  where
    by : ((p : Progress) → lines_after p xs ≡ Ok read → lines_after p (xs ++ ys) ≡ lines_after read
        ys) → (o : Result Progress FaultKind)
        → line_then (line_count before + 1) (λ p. lines_after p xs) o ≡ Ok read → line_then
        (line_count before + 1) (λ p. lines_after p (xs ++ ys)) o ≡ lines_after read ys
    by rest (Ok p) f = rest p f
    by rest (Err kind) f = absurd (let no : ⊥ = cc in no)

-- a line that says a command without a fault
line_kept : (before : Progress) (line : List ℕ) (command : Command) → line_count before < MOST_LINES
    → command_of line ≡ Ok (Some command)
    → command_fault (commands_in before) command ≡ None → line_after before line ≡ Ok
    (with_command before command)
unfolding line_after
line_kept before line command room said free =
    ap (λ b. cond b (Err TooMany) (said_after before (command_of line)))
    (lt-leb MOST_LINES (line_count before) room)
    ∙ ap (said_after before) said
    ∙ ap (λ fault. unless_fault fault (with_command before command)) free

line_then-ok : (n : ℕ) (r : Result Progress FaultKind) (read : Progress) → r ≡ Ok read → line_then n
    (λ p. lines_after p []) r ≡ Ok read
line_then-ok n r read h = ap (line_then n (λ p. lines_after p [])) h

commands_more : (before : Progress) (command : Command) → commands_in (with_command before command)
    ≡ commands_in before ++ command ∷ []
commands_more before command =
    map-append (λ n. n.command) before.kept ((record {
      line = line_count before + 1;
      command =
          command;
    }) ∷ [])

-- ---- lines that say commands, one each
pub none_said : LinesSay [] []
none_said = record { read = nothing_read; whole = refl; same = refl; none_passed = refl }

-- one more line, and its command
pub one_more_said : (lines : List (List ℕ)) (line : List ℕ) (commands : List Command)
    (command : Command)
    → LinesSay lines commands → length commands < MOST_LINES → command_of line ≡ Ok (Some command)
    → command_fault commands command ≡ None → LinesSay (lines ++ line ∷ [])
    (commands ++ command ∷ [])
one_more_said lines line commands command says room said free =
    let count : length says.read.kept ≡ length commands = sym
    (length-map says.read.kept (λ n. n.command)) ∙ ap length says.same in
    let fewer : line_count says.read < MOST_LINES = omega (arith, count, says.none_passed, room) in
    let next : line_after says.read line ≡ Ok (with_command says.read command) =
    line_kept says.read line command fewer said (ap (λ cs. command_fault cs command) says.same ∙
    free) in
    record {
      read = with_command says.read command;
      whole = lines_after-append lines (line ∷ []) nothing_read says.read says.whole
          ∙ line_then-ok (line_count says.read + 1) (line_after says.read line)
          (with_command says.read command) next;
      same = commands_more says.read command ∙ ap (λ cs. cs ++ command ∷ []) says.same;
      none_passed = says.none_passed;
    }

-- the lines that are kept, and one more
pub one_more_kept : (before : Option (List (List ℕ))) (line : List ℕ)
    (after : Option (List (List ℕ))) (commands : List Command) (command : Command)
    → IfSome before (λ lines. LinesSay lines commands) → KeepsLine before line after → length
    commands < MOST_LINES
    → command_of line ≡ Ok (Some command) → command_fault commands command ≡ None → IfSome after
    (λ lines. LinesSay lines (commands ++ command ∷ []))
one_more_kept before line None commands command says keeps room said free = tt
one_more_kept None line (Some after) commands command says keeps room said free = absurd keeps
one_more_kept (Some before) line (Some after) commands command says keeps room said free =
    subst (λ lines. LinesSay lines (commands ++ command ∷ [])) (sym keeps)
    (one_more_said before line commands command says room said free)

-- ---- printable commands
pub none_printable : IsPrintable []
none_printable = record { each = All-nil PrintsBack; again = none_said }

-- one more command
pub one_more_printable : (commands : List Command) (command : Command) → IsPrintable commands →
    length commands < MOST_LINES → PrintsBack command
    → command_fault commands command ≡ None → IsPrintable (commands ++ command ∷ [])
one_more_printable commands command p room back free = record {
  each = All-push PrintsBack commands command p.each back;
  again = subst (λ lines. LinesSay lines (commands ++ command ∷ []))
      (sym (map-append canonical_line commands (command ∷ [])))
      (one_more_said (map canonical_line commands) (canonical_line command) commands command p.again
      room back.said free);
}

-- the same in the words of the reader
pub kept_printable : (before : Progress) (command : Command) → IsPrintable (commands_in before) →
    line_count before < MOST_LINES → PrintsBack command
    → command_fault (commands_in before) command ≡ None → IsPrintable
    (commands_in (with_command before command))
kept_printable before command p room back free =
    let count : length (commands_in before) ≡ length before.kept = length-map before.kept
    (λ n. n.command) in
    subst IsPrintable (sym (commands_more before command))
    (one_more_printable (commands_in before) command p (omega (arith, count, room)) back free)

-- ---- the zones of all
found_none : (p : Command → Bool) (kept : List NumberedCommand) (f : NumberedCommand → LineFault)
    → option_map f (find (λ n. p n.command) kept) ≡ None → list_any p (map (λ n. n.command) kept) ≡
    false
found_none p [] f h = refl
found_none p (n ∷ kept) f h = by (λ g. found_none p kept f g) (p n.command) h
  where
    by : (option_map f (find (λ n. p n.command) kept) ≡ None → list_any p
        (map (λ n. n.command) kept) ≡ false) → (b : Bool)
        → option_map f (cond b (Some n) (find (λ n. p n.command) kept)) ≡ None → b || list_any p
        (map (λ n. n.command) kept) ≡ false
    by rest true g = absurd (let no : ⊥ = cc in no)
    by rest false g = rest g

-- what is known of lines whose zones were found ok
pub record AreFinished (read : Progress) (configuration : Configuration) : Type 0 where
  pub same : record { commands = commands_in read; passed = read.passed } ≡ configuration
  pub declared : list_any (names_unknown (commands_in read)) (commands_in read) ≡ false
  pub has_local : is_some (first_local_of (commands_in read)) ≡ true

local_checked : (read : Progress) (configuration : Configuration) → local_zone_checked read ≡ Ok
    configuration
    → list_any (names_unknown (commands_in read)) (commands_in read) ≡ false → AreFinished read
    configuration
local_checked read configuration h declared = by (is_some (first_local_of (commands_in read))) refl
    h
  where
    by : (b : Bool) → is_some (first_local_of (commands_in read)) ≡ b
        → cond b (Ok (record { commands = commands_in read; passed = read.passed }))
        (Err (fault_at (line_count read + 1) NoLocalZone)) ≡ Ok configuration → AreFinished read
        configuration
    by true e f = record { same = cc; declared = declared; has_local = e }
    by false e f = absurd (let no : ⊥ = cc in no)

pub finished_ok : (read : Progress) (configuration : Configuration) → finished read ≡ Ok
    configuration → AreFinished read configuration
finished_ok read configuration h = by (unknown_zone read) refl h
  where
    by : (o : Option LineFault) → unknown_zone read ≡ o → zones_checked read o ≡ Ok configuration →
        AreFinished read configuration
    by (Some fault) e f = absurd (let no : ⊥ = cc in no)
    by None e f = local_checked read configuration f (found_none (names_unknown (commands_in read))
        read.kept (λ n. fault_at n.line UnknownZone) e)

-- commands that were read to the end, and whose zones were found ok, are accepted
pub accepted_lines : (read : Progress) → IsPrintable (commands_in read) → unknown_zone read ≡ None →
    is_some (first_local_of (commands_in read)) ≡ true
    → IsAccepted (commands_in read)
accepted_lines read p free has_local = record {
  printable = p;
  declared = found_none (names_unknown (commands_in read)) read.kept
      (λ n. fault_at n.line UnknownZone) free;
  has_local = has_local;
}

pub accepted : (read : Progress) (configuration : Configuration) → IsPrintable (commands_in read) →
    finished read ≡ Ok configuration → IsAccepted configuration.commands
accepted read configuration p h =
    let f = finished_ok read configuration h in
    let is : IsAccepted (commands_in read) = record {
      printable = p;
      declared = f.declared;
      has_local = f.has_local;
    } in
    subst (λ (c : Configuration). IsAccepted c.commands) f.same is

-- ---- the whole
words_of_each : (lines : List Command) → AllByRecursion PrintsBack lines → list_all
    (λ c. list_all is_word (command_words c)) lines ≡ true
words_of_each [] h = refl
words_of_each (command ∷ lines) h = and_from _ _ h.0.words (words_of_each lines h.1)

lines_printed : (lines : List Command) → IsPrintable lines → lines_of (text_of lines) ≡ map
    canonical_line lines
lines_printed lines p = lines_back command_words lines (words_of_each lines
    (recursion_from_All PrintsBack lines p.each))

-- what is printed of accepted commands reads as those commands, with nothing passed over
pub file_back : (commands : List Command) → IsAccepted commands → reading_of (text_of commands) ≡ Ok
    (record { commands = commands; passed = 0 })
unfolding reading_of
file_back commands a =
    ap (λ ls. finished_of (lines_after nothing_read ls)) (lines_printed commands a.printable)
    ∙ said_again (map canonical_line commands) commands a a.printable.again
