-- A line that says a command: the command's canonical line says it too.
use Rattle.std.proofs.Common.{◌≡◌, ℕ, ◌≤◌, List, [], ◌∷◌, Some, None, Result, Ok, Err, refl, sym, ap, subst, ◌∙◌}
use Rattle.std.specs.Prelude.{codes, bytes_eq}
use Rattle.gk_terms.specs.Text.{words_of, spaced}
use Rattle.gk_commands.specs.declared.faults.FaultKind.{FaultKind}
use Rattle.gk_commands.specs.declared.commands.Command.{Command}
use Rattle.gk_commands.specs.declared.commands.Command.TheVariants.{RejectUnknownPrefix}
use Rattle.gk_commands.specs.Fields.{is_one_of}
use Rattle.gk_commands.specs.ZoneLine.{left_out_of_zone, zone_line_at}
use Rattle.gk_commands.specs.TechnologyLine.{gw_type_prefix_at}
use Rattle.gk_commands.specs.BandwidthLine.{bandwidth_at}
use Rattle.gk_commands.specs.Line.{arq_at, no_at, kept_command_of, is_remark, passed_alone, passed_whole, left_out_commands, passed_at, named_command_at, command_at, command_of}
use Rattle.gk_commands.specs.Accepted.{PrintsBack}
use Rattle.gk_commands.specs.Printing.{command_words}
use Rattle.command_reader.proofs.read_back.Words.{AreWords}
use Rattle.command_reader.proofs.read_back.Fields.{chosen, same_word, nothing_more_read}
use Rattle.command_reader.proofs.read_back.Lengths.{cost}
use Rattle.command_reader.proofs.read_back.Command.{IsSaidAgain, IsSpelledBy, prints_as_read, line_said, prints_back}
use Rattle.command_reader.proofs.read_back.LocalZone.{zone_local_spelled}
use Rattle.command_reader.proofs.read_back.RemoteZone.{zone_remote_back}
use Rattle.command_reader.proofs.read_back.PrefixZone.{zone_prefix_back}
use Rattle.command_reader.proofs.read_back.Technology.{gw_type_prefix_back}
use Rattle.command_reader.proofs.read_back.Bandwidth.{bandwidth_spelled}

pub kept_some : (r : Result Command FaultKind) (command : Command) → kept_command_of r ≡ Ok
    (Some command) → r ≡ Ok command
kept_some (Ok c) command h = cc
kept_some (Err kind) command h = absurd (let no : ⊥ = cc in no)

-- ---- zone
zone_back : (words : List (List ℕ)) (command : Command) → zone_line_at words ≡ Ok command → cost
    (codes "zone" ∷ words) ≤ 513 → IsSaidAgain command
zone_back [] command h fits = absurd (let no : ⊥ = cc in no)
zone_back (word ∷ words) command h fits =
    chosen (bytes_eq word (codes "local")) _ _ (Ok command) h
    (λ is f.
    let same : word ≡ codes "local" = same_word word _ is in
    prints_as_read (codes "zone" ∷ codes "local" ∷ words) command
    (zone_local_spelled words command f)
    (ap kept_command_of f) (subst (λ w. cost (codes "zone" ∷ w ∷ words) ≤ 513) same fits))
    (λ _ g. chosen (bytes_eq word (codes "remote")) _ _ (Ok command) g
    (λ _ f. zone_remote_back words command f)
    (λ _ i. chosen (bytes_eq word (codes "prefix")) _ _ (Ok command) i
    (λ is f. zone_prefix_back words command f (subst (λ w. cost (codes "zone" ∷ w ∷ words) ≤ 513)
    (same_word word _ is) fits))
    (λ _ j. chosen (is_one_of left_out_of_zone word) _ _ (Ok command) j
    (λ _ f. absurd (let no : ⊥ = cc in no))
    (λ _ f. absurd (let no : ⊥ = cc in no)))))

-- ---- arq
arq_spelled : (words : List (List ℕ)) (command : Command) → arq_at words ≡ Ok command → IsSpelledBy
    (codes "arq" ∷ words) command
arq_spelled [] command h = absurd (let no : ⊥ = cc in no)
arq_spelled (word ∷ words) command h =
    chosen (bytes_eq word (codes "reject-unknown-prefix")) _ _ (Ok command) h
    (λ is f.
    let e = nothing_more_read [] RejectUnknownPrefix words command f in
    let whole : word ∷ words ≡ codes "reject-unknown-prefix" ∷ [] =
    ap (λ w. w ∷ words) (same_word word _ is) ∙ ap (λ ws. codes "reject-unknown-prefix" ∷ ws) e.none
    in
    record {
      same = ap command_words (sym e.same) ∙ ap (λ ws. codes "arq" ∷ ws) (sym whole);
      solid = subst (λ ws. AreWords (codes "arq" ∷ ws)) (sym whole) refl;
    })
    (λ _ f. absurd (let no : ⊥ = cc in no))

-- ---- lines that are passed over say no command
no_said : (words : List (List ℕ)) (command : Command) → no_at words ≡ Ok (Some command) → ⊥
no_said [] command h = cc
no_said (word ∷ words) command h =
    chosen (bytes_eq word (codes "shutdown")) _ _ (Ok (Some command)) h
    (λ _ f. cc ((nothing_more_read [] None words (Some command) f).same))
    (λ _ g. chosen (bytes_eq word (codes "use-proxy")) _ _ (Ok (Some command)) g (λ _ f. cc)
    (λ _ f. cc))

passed_said : (word : List ℕ) (words : List (List ℕ)) (command : Command) → passed_at word words ≡
    Ok (Some command) → ⊥
passed_said word words command h =
    chosen (bytes_eq word (codes "no")) _ _ (Ok (Some command)) h
    (λ _ f. no_said words command f)
    (λ _ g. chosen (is_one_of passed_alone word) _ _ (Ok (Some command)) g
    (λ _ f. cc ((nothing_more_read [] None words (Some command) f).same))
    (λ _ i. chosen (is_one_of passed_whole word) _ _ (Ok (Some command)) i
    (λ _ f. cc)
    (λ _ j. chosen (is_one_of left_out_commands word) _ _ (Ok (Some command)) j (λ _ f. cc)
    (λ _ f. cc))))

-- ---- the line
opened_back : (word : List ℕ) (words : List (List ℕ)) (command : Command) → named_command_at word
    words ≡ Ok (Some command) → cost (word ∷ words) ≤ 513 → IsSaidAgain command
opened_back word words command h fits =
    chosen (bytes_eq word (codes "zone")) _ _ (Ok (Some command)) h
    (λ is f. zone_back words command (kept_some (zone_line_at words) command f)
    (subst (λ w. cost (w ∷ words) ≤ 513) (same_word word _ is) fits))
    (λ _ g. chosen (bytes_eq word (codes "gw-type-prefix")) _ _ (Ok (Some command)) g
    (λ is f.
    gw_type_prefix_back words command (kept_some (gw_type_prefix_at words) command f)
    (subst (λ w. cost (w ∷ words) ≤ 513) (same_word word _ is) fits))
    (λ _ i. chosen (bytes_eq word (codes "arq")) _ _ (Ok (Some command)) i
    (λ is f.
    prints_as_read (codes "arq" ∷ words) command (arq_spelled words command
    (kept_some (arq_at words) command f)) f
    (subst (λ w. cost (w ∷ words) ≤ 513) (same_word word _ is) fits))
    (λ _ j. chosen (bytes_eq word (codes "bandwidth")) _ _ (Ok (Some command)) j
    (λ is f.
    prints_as_read (codes "bandwidth" ∷ words) command (bandwidth_spelled words command
    (kept_some (bandwidth_at words) command f)) f
    (subst (λ w. cost (w ∷ words) ≤ 513) (same_word word _ is) fits))
    (λ _ f. absurd (passed_said word words command f)))))

said_back : (words : List (List ℕ)) (command : Command) → command_at words ≡ Ok (Some command) →
    cost words ≤ 513 → IsSaidAgain command
said_back [] command h fits = absurd (let no : ⊥ = cc in no)
said_back (word ∷ words) command h fits =
    chosen (is_remark word) _ _ (Ok (Some command)) h
    (λ _ f. absurd (let no : ⊥ = cc in no))
    (λ _ f. opened_back word words command f fits)

-- the command of a line prints back
pub command_back : (line : List ℕ) (command : Command) → command_of line ≡ Ok (Some command) →
    PrintsBack command
command_back line command h =
    let said = line_said line command h in
    prints_back command (said_back (words_of line) command said.said said.fits)

-- its canonical line says it
pub line_back : (line : List ℕ) (command : Command) → command_of line ≡ Ok (Some command) →
    command_of
    (spaced (command_words command)) ≡ Ok (Some command)
line_back line command h = (command_back line command h).said
