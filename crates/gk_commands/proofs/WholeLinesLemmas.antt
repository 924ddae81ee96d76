-- The lines of accepted commands, as they are kept.
use Rattle.std.proofs.Common.{◌≡◌, ℕ, ◌+◌, Bool, true, false, cond, List, [], ◌∷◌, ◌++◌, Some, None, Ok, Err, refl, sym, ap, ◌∙◌, append_assoc}
use Rattle.std.specs.Prelude.{◌||◌, map, find, option_map, is_some}
use Rattle.std.specs.List.{list_any}
use Rattle.std.proofs.lemmas.List.{append-nil}
use Rattle.gk_terms.specs.Text.{lines_of}
use Rattle.gk_commands.specs.declared.faults.FaultKind.TheVariants.{UnknownZone, NoLocalZone}
use Rattle.gk_commands.specs.declared.faults.LineFault.{LineFault}
use Rattle.gk_commands.specs.declared.commands.Command.{Command}
use Rattle.gk_commands.specs.Accepted.{LinesSay, IsAccepted}
use Rattle.gk_commands.specs.Configuration.{Configuration}
use Rattle.gk_commands.specs.Progress.{NumberedCommand, Progress, line_count, commands_in}
use Rattle.gk_commands.specs.Zones.{first_local_of}
use Rattle.gk_commands.specs.Reading.{names_unknown, fault_at, zones_checked, finished_of, reading_in}
use Rattle.gk_commands.specs.WholeLines.{EndsALine, ReadsAsLine, commands_read, commands_said}

-- ---- a text of whole lines with one more
before_others : (text line rest : List ℕ) → EndsALine text → ReadsAsLine line
    → lines_of (((text ++ line) ++ 10 ∷ []) ++ rest) ≡ lines_of text ++ line ∷ lines_of rest
before_others text line rest ends back =
    ap (λ t. lines_of (t ++ rest)) (append_assoc text line (10 ∷ []))
    ∙ ap lines_of (append_assoc text (line ++ 10 ∷ []) rest)
    ∙ ends ((line ++ 10 ∷ []) ++ rest)
    ∙ ap (λ lines. lines_of text ++ lines) (back rest)

pub one_more_line : (text line : List ℕ) → EndsALine text → ReadsAsLine line
    → lines_of ((text ++ line) ++ 10 ∷ []) ≡ lines_of text ++ line ∷ []
one_more_line text line ends back =
    ap lines_of (sym (append-nil ((text ++ line) ++ 10 ∷ []))) ∙ before_others text line [] ends
    back

pub still_ends : (text line : List ℕ) → EndsALine text → ReadsAsLine line → EndsALine
    ((text ++ line) ++ 10 ∷ [])
still_ends text line ends back rest =
    before_others text line rest ends back
    ∙ sym (ap (λ lines. lines ++ lines_of rest) (one_more_line text line ends back) ∙ append_assoc
    (lines_of text) (line ∷ []) (lines_of rest))

-- ---- what the lines say
none_found : (p : Command → Bool) (kept : List NumberedCommand) (f : NumberedCommand → LineFault)
    → list_any p (map (λ n. n.command) kept) ≡ false → option_map f (find (λ n. p n.command) kept) ≡
    None
none_found p [] f h = refl
none_found p (n ∷ kept) f h = by (λ g. none_found p kept f g) (p n.command) h
  where
    by : (list_any p (map (λ n. n.command) kept) ≡ false → option_map f
        (find (λ n. p n.command) kept) ≡ None) → (b : Bool)
        → b || list_any p (map (λ n. n.command) kept) ≡ false → option_map f
        (cond b (Some n) (find (λ n. p n.command) kept)) ≡ None
    by rest true g = absurd (let no : ⊥ = cc in no)
    by rest false g = rest g

-- lines that say accepted commands are read as a configuration of them
pub said_again : (lines : List (List ℕ)) (commands : List Command) → IsAccepted commands → LinesSay
    lines commands
    → reading_in lines ≡ Ok (record { commands = commands; passed = 0 })
said_again lines commands a says =
    let read : Progress = says.read in
    let declared : list_any (names_unknown (commands_in read)) (commands_in read) ≡ false = ap
    (λ cs. list_any (names_unknown cs) cs) says.same ∙ a.declared in
    let has_local : is_some (first_local_of (commands_in read)) ≡ true = ap
    (λ cs. is_some (first_local_of cs)) says.same ∙ a.has_local in
    let configuration : Configuration = record { commands = commands_in read; passed = read.passed }
    in
    ap finished_of says.whole
    ∙ ap (zones_checked read) (none_found (names_unknown (commands_in read)) read.kept
    (λ n. fault_at n.line UnknownZone) declared)
    ∙ ap (λ b. cond b (Ok configuration) (Err (fault_at (line_count read + 1) NoLocalZone)))
    has_local
    ∙ ap (λ cs. Ok (record { commands = cs; passed = read.passed })) says.same
    ∙ ap (λ n. Ok (record { commands = commands; passed = n })) says.none_passed

pub says_them : (lines : List (List ℕ)) (commands : List Command) → IsAccepted commands → LinesSay
    lines commands → commands_said lines ≡ commands
says_them lines commands accepted says = ap commands_read (said_again lines commands accepted says)

pub says_just_them : (lines : List (List ℕ)) (commands : List Command) → IsAccepted commands →
    LinesSay lines commands
    → reading_in lines ≡ Ok (record { commands = commands_said lines; passed = 0 })
says_just_them lines commands accepted says =
    said_again lines commands accepted says
    ∙ ap (λ cs. Ok (record { commands = cs; passed = 0 }))
    (sym (says_them lines commands accepted says))
