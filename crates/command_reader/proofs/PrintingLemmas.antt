-- Lines that are written one after another.
use Rattle.std.proofs.Common.{◌≡◌, ℕ, ◌+◌, ◌<◌, List, [], ◌∷◌, ◌++◌, length, get_or, take, drop, suc, sym, ap, subst, ◌∙◌, append_assoc, arith}
use Rattle.std.specs.Prelude.{Option, Result, Ok, Err, OnErr}
use Rattle.std.specs.Io.KnownBytes.{Appends}
use Rattle.std.proofs.lemmas.List.{take-append-drop, take_more, append-nil}
use Rattle.std.proofs.Math.Seq.{drop-cons}
use Rattle.std.proofs.lemmas.List.Concat.{flat_map-append}
use Rattle.gk_terms.specs.Text.{line_text}
use Rattle.gk_lines.specs.Streams.{AppendsFront}
use Rattle.gk_lines.proofs.StreamLemmas.{appends_more}
use Rattle.gk_commands.specs.declared.commands.Command.{Command}
use Rattle.gk_commands.specs.Printing.{command_words, text_of}

-- the canonical line of a command, with its line feed
abbrev pub line_of_command : Command → List ℕ
line_of_command command = line_text (command_words command)

text-append : (front rest : List Command) → text_of (front ++ rest) ≡ text_of front ++ text_of rest
text-append front rest = flat_map-append line_of_command front rest

-- what is left of a list begins with its next element
cut_at : (commands : List Command) (i : ℕ) (d : Command) → i < length commands → take i commands ++
    (get_or commands i d ∷ drop (i + 1) commands) ≡ commands
cut_at commands i d h =
    let next : i + 1 ≡ suc i = omega arith in
    ap (λ rest. take i commands ++ rest) (ap (λ n. get_or commands i d ∷ drop n commands) next ∙ sym
    (drop-cons commands i d h)) ∙ take-append-drop i commands

-- one more line
pub line_more : (a b c : Option (List ℕ)) (commands : List Command) (i : ℕ) (d : Command) → i <
    length commands
    → Appends a b (text_of (take i commands)) → Appends b c (line_of_command (get_or commands i d))
    → Appends a c (text_of (take (i + 1) commands))
line_more a b c commands i d h before line =
    let next = get_or commands i d in
    let lines : text_of (take (i + 1) commands) ≡ text_of (take i commands) ++ line_of_command next
    =
    ap text_of (take_more commands i d h) ∙ text-append (take i commands) (next ∷ []) ∙ ap
    (λ text. text_of (take i commands) ++ text) (append-nil (line_of_command next)) in
    subst (Appends a c) (sym lines) (appends_more a b c (text_of (take i commands))
    (line_of_command next) before line)

-- a writer that fails within a line holds a front of the whole
pub front_of_all : (a b c : Option (List ℕ)) (commands : List Command) (i : ℕ) (d : Command) → i <
    length commands
    → Appends a b (text_of (take i commands)) → AppendsFront b c
    (line_of_command (get_or commands i d)) → AppendsFront a c (text_of commands)
front_of_all a b c commands i d h before (rest, (front, split, added)) =
    let lines = text_of (take i commands) in
    let others = text_of (drop (i + 1) commands) in
    let whole : text_of commands ≡ (lines ++ front) ++ (rest ++ others) =
    ap text_of (sym (cut_at commands i d h)) ∙ text-append (take i commands)
    (get_or commands i d ∷ drop (i + 1) commands)
    ∙ ap (λ line. lines ++ (line ++ others)) split
    ∙ ap (λ text. lines ++ text) (append_assoc front rest others) ∙ sym
    (append_assoc lines front (rest ++ others)) in
    (rest ++ others, (lines ++ front, whole, appends_more a b c lines front before added))

-- what holds anyway, if there is a fault
pub OnErr-from : {A E : Type 0} (r : Result A E) (P : Type 0) → P → OnErr r P
OnErr-from (Ok x) P h = tt
OnErr-from (Err fault) P h = h
