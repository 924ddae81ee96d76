-- Commands with the numbers of their lines.
use Rattle.std.proofs.Common.{◌≡◌, ℕ, ◌+◌, suc, Bool, true, false, List, [], ◌∷◌, ◌++◌, length, refl, sym, ap, ◌∙◌, arith}
use Rattle.std.specs.Prelude.{map, find, option_map, slice_get}
use Rattle.std.specs.List.{position_or_len}
use Rattle.gk_commands.specs.declared.commands.Command.{Command}
use Rattle.gk_commands.specs.declared.faults.FaultKind.TheVariants.{UnknownZone}
use Rattle.gk_commands.specs.Progress.{Progress, line_count, commands_in, with_numbers}
use Rattle.gk_commands.specs.Reading.{fault_at, with_command, names_unknown, unknown_zone}

-- the commands alone
pub commands_with_numbers : (numbers : List ℕ) (commands : List Command) → length numbers ≡ length
    commands → map (λ n. n.command) (with_numbers numbers commands) ≡ commands
commands_with_numbers [] [] h = refl
commands_with_numbers [] (command ∷ commands) h = absurd (omega (arith, h))
commands_with_numbers (number ∷ numbers) [] h = absurd (omega (arith, h))
commands_with_numbers (number ∷ numbers) (command ∷ commands) h =
    ap (λ others. command ∷ others) (commands_with_numbers numbers commands (omega (arith, h)))

pub length_with_numbers : (numbers : List ℕ) (commands : List Command) → length numbers ≡ length
    commands → length (with_numbers numbers commands) ≡ length commands
length_with_numbers [] [] h = refl
length_with_numbers [] (command ∷ commands) h = absurd (omega (arith, h))
length_with_numbers (number ∷ numbers) [] h = absurd (omega (arith, h))
length_with_numbers (number ∷ numbers) (command ∷ commands) h = omega
    (arith, length_with_numbers numbers commands (omega (arith, h)))

-- one more of both
pub one_more_number : (numbers : List ℕ) (commands : List Command) (number : ℕ) (command : Command)
    → length numbers ≡ length commands
    → with_numbers (numbers ++ number ∷ []) (commands ++ command ∷ []) ≡ with_numbers numbers
    commands ++ (record { line = number; command = command }) ∷ []
one_more_number [] [] number command h = refl
one_more_number [] (c ∷ commands) number command h = absurd (omega (arith, h))
one_more_number (n ∷ numbers) [] number command h = absurd (omega (arith, h))
one_more_number (n ∷ numbers) (c ∷ commands) number command h =
    ap (λ others. record { line = n; command = c } ∷ others)
    (one_more_number numbers commands number command (omega (arith, h)))

-- the fault of the first command that passes a test, by its number
pub first_number : (p : Command → Bool) (numbers : List ℕ) (commands : List Command) → length
    numbers ≡ length commands
    → option_map (λ number. fault_at number UnknownZone)
    (slice_get numbers (position_or_len p commands)) ≡ option_map
    (λ n. fault_at n.line UnknownZone) (find (λ n. p n.command) (with_numbers numbers commands))
first_number p [] [] h = refl
first_number p [] (command ∷ commands) h = absurd (omega (arith, h))
first_number p (number ∷ numbers) [] h = absurd (omega (arith, h))
first_number p (number ∷ numbers) (command ∷ commands) h = by
    (first_number p numbers commands (omega (arith, h))) (p command) refl
  where
    by : option_map (λ n. fault_at n UnknownZone) (slice_get numbers (position_or_len p commands)) ≡
        option_map (λ n. fault_at n.line UnknownZone) (find (λ n. p n.command)
        (with_numbers numbers commands))
        → (b : Bool) → p command ≡ b
        → option_map (λ n. fault_at n UnknownZone) (slice_get (number ∷ numbers)
        (position_or_len p (command ∷ commands)))
        ≡ option_map (λ n. fault_at n.line UnknownZone)
        (find (λ n. p n.command) (with_numbers (number ∷ numbers) (command ∷ commands)))
    by rest true e = rw e refl
    by rest false e =
        let next : 1 + position_or_len p commands ≡ suc (position_or_len p commands) = omega arith
        in
        rw (e, next) rest

-- ---- what has been read, as it is held
-- the commands of what has been read are those that are held
pub held_commands : (numbers : List ℕ) (commands : List Command) (passed : ℕ) (read : Progress) →
    length numbers ≡ length commands
    → record { kept = with_numbers numbers commands; passed = passed } ≡ read → commands_in read ≡
    commands
held_commands numbers commands passed read h is = ap commands_in (sym is) ∙ commands_with_numbers
    numbers commands h

-- so many lines were read
pub held_count : (numbers : List ℕ) (commands : List Command) (passed : ℕ) (read : Progress) →
    length numbers ≡ length commands
    → record { kept = with_numbers numbers commands; passed = passed } ≡ read → line_count read ≡
    length commands + passed
held_count numbers commands passed read h is =
    ap line_count (sym is) ∙ ap (λ n. n + passed) (length_with_numbers numbers commands h)

-- the first command that names an unknown zone
pub held_unknown : (numbers : List ℕ) (commands : List Command) (passed : ℕ) (read : Progress) →
    length numbers ≡ length commands
    → record { kept = with_numbers numbers commands; passed = passed } ≡ read
    → option_map (λ number. fault_at number UnknownZone)
    (slice_get numbers (position_or_len (names_unknown (commands_in read)) (commands_in read)))
    ≡ unknown_zone read
held_unknown numbers commands passed read h is =
    let p : Command → Bool = names_unknown (commands_in read) in
    ap (λ cs. option_map (λ number. fault_at number UnknownZone)
    (slice_get numbers (position_or_len p cs))) (held_commands numbers commands passed read h
    is)
    ∙ first_number p numbers commands h
    ∙ ap (λ (r : Progress). option_map (λ n. fault_at n.line UnknownZone)
    (find (λ n. p n.command) r.kept)) is

-- with one more command and its number
pub held_more : (numbers new_numbers : List ℕ) (commands new_commands : List Command)
    (passed count : ℕ) (read : Progress) (command : Command) → length numbers ≡ length commands
    → record { kept = with_numbers numbers commands; passed = passed } ≡ read → count ≡ line_count
    read
    → new_commands ≡ commands ++ command ∷ [] → new_numbers ≡ numbers ++ (count + 1) ∷ []
    → with_command read command ≡ record {
      kept = with_numbers new_numbers new_commands;
      passed =
          passed;
    }
held_more numbers new_numbers commands new_commands passed count read command h is counted
    one_command one_number =
    rw (one_command, one_number, counted, one_more_number _ _ _ _ h, ← is) refl
