-- The canonical line of a `gw-type-prefix` line that was read says the same command.
use Rattle.std.proofs.Common.{◌≡◌, ℕ, ◌≤◌, true, false, List, [], ◌∷◌, ◌++◌, Some, Result, Ok, refl, sym, ap, subst, ◌∙◌, arith}
use Rattle.std.specs.Prelude.{codes}
use Rattle.std.proofs.lemmas.Bool.{and_from}
use Rattle.gk_terms.specs.TechPrefix.{tech_prefix_of}
use Rattle.gk_commands.specs.declared.faults.FaultKind.{FaultKind}
use Rattle.gk_commands.specs.declared.faults.FaultKind.TheVariants.{BadPattern, Missing}
use Rattle.gk_commands.specs.declared.commands.Command.{Command}
use Rattle.gk_commands.specs.declared.commands.Command.TheVariants.{GwTypePrefix}
use Rattle.gk_terms.specs.Fields.{◌>>=◌, field}
use Rattle.gk_commands.specs.TechnologyLine.{TechnologyOptions, options_at, gw_type_prefix_at}
use Rattle.gk_commands.specs.Line.{kept_command_of, command_at}
use Rattle.gk_commands.specs.Printing.{command_words, hopoff_words, default_words}
use Rattle.gk_commands.specs.Accepted.{is_word}
use Rattle.command_reader.proofs.read_back.Words.{AreWords}
use Rattle.command_reader.proofs.read_back.Fields.{bound, bind_at, field_read, field_again}
use Rattle.command_reader.proofs.read_back.Lengths.{cost}
use Rattle.command_reader.proofs.read_back.TechPrefix.{tech_prefix_read}
use Rattle.command_reader.proofs.read_back.Hopoffs.{AreNamed, options_read}
use Rattle.command_reader.proofs.read_back.Options.{options_again, options_solid}
use Rattle.command_reader.proofs.read_back.Command.{IsSaidAgain}

abbrev after_options : List ℕ → TechnologyOptions → Result Command FaultKind
after_options prefix options = Ok (GwTypePrefix prefix options.hopoffs options.is_default)

abbrev after_prefix : List ℕ × List (List ℕ) → Result Command FaultKind
after_prefix prefix = options_at false prefix.1 >>= after_options prefix.0

-- the canonical words after `gw-type-prefix`
abbrev tail_of : List ℕ → TechnologyOptions → List (List ℕ)
tail_of prefix options = prefix ∷ hopoff_words options.hopoffs ++ default_words options.is_default

-- what a `gw-type-prefix` line says, by its fields
record IsTechnology (words : List (List ℕ)) (command : Command) : Type 0 where
  prefix : List ℕ
  options : TechnologyOptions
  is : GwTypePrefix prefix options.hopoffs options.is_default ≡ command
  prefix_solid : is_word prefix ≡ true
  prefix_spelled : tech_prefix_of prefix ≡ Some prefix
  names : AreNamed options.hopoffs
  fits : cost (tail_of prefix options) ≤ cost words

technology_read : (words : List (List ℕ)) (command : Command) → gw_type_prefix_at words ≡ Ok command
    → IsTechnology words command
technology_read words command h =
    let p = bound (field Missing tech_prefix_of BadPattern words) after_prefix command h in
    let f = field_read [] tech_prefix_of BadPattern words p.value p.read in
    let prefix = tech_prefix_read f.word p.value.0 f.taken.spelled in
    let o = bound (options_at false p.value.1) (after_options p.value.0) command p.next in
    let options = options_read p.value.1 o.value o.read in
    record {
      prefix = p.value.0;
      options = o.value;
      is = cc (o.next);
      prefix_solid = prefix.solid;
      prefix_spelled = prefix.spelled;
      names = options.names;
      fits = omega (arith, options.fits, prefix.short, ap cost f.whole);
    }

tail_again : (words : List (List ℕ)) (command : Command) (r : IsTechnology words command) →
    gw_type_prefix_at (tail_of r.prefix r.options) ≡ Ok command
tail_again words command r =
    let rest : List (List ℕ) = hopoff_words r.options.hopoffs ++ default_words r.options.is_default
    in
    bind_at (field Missing tech_prefix_of BadPattern (r.prefix ∷ rest)) after_prefix
    (r.prefix, rest)
    (field_again [] tech_prefix_of BadPattern r.prefix rest r.prefix
    (record { kept = refl; spelled = r.prefix_spelled }))
    ∙ bind_at (options_at false rest) (after_options r.prefix) r.options
    (options_again r.options.hopoffs r.options.is_default r.names)
    ∙ ap (λ c. Ok c) r.is

-- a `gw-type-prefix` line prints back
pub gw_type_prefix_back : (words : List (List ℕ)) (command : Command) → gw_type_prefix_at words ≡ Ok
    command
    → cost (codes "gw-type-prefix" ∷ words) ≤ 513 → IsSaidAgain command
gw_type_prefix_back words command h fits =
    let r = technology_read words command h in
    let tail : List (List ℕ) = tail_of r.prefix r.options in
    let same : codes "gw-type-prefix" ∷ tail ≡ command_words command = ap command_words r.is in
    let short : cost (codes "gw-type-prefix" ∷ tail) ≤ 513 = omega (arith, fits, r.fits) in
    record {
      said = ap command_at (sym same) ∙ ap kept_command_of (tail_again words command r);
      solid = subst AreWords same (and_from _ _ r.prefix_solid
          (options_solid r.options.hopoffs r.options.is_default r.names));
      fits = subst (λ ws. cost ws ≤ 513) same short;
    }
