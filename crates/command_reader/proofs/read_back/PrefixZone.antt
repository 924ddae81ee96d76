-- The canonical line of a `zone prefix` line that was read says the same command.
use Rattle.std.proofs.Common.{◌≡◌, ℕ, ◌≤◌, Bool, true, false, cond, List, [], ◌∷◌, Some, None, Result, Ok, refl, sym, ap, subst, ◌∙◌, arith}
use Rattle.std.specs.Prelude.{Option, codes, decimal, bytes_eq}
use Rattle.std.specs.Option.{ok_or}
use Rattle.std.proofs.lemmas.Bool.{and_from}
use Rattle.gk_terms.specs.Name.{name_of}
use Rattle.gk_terms.specs.Number.{number_of}
use Rattle.digit_patterns.specs.PatternParts.{PatternParts}
use Rattle.digit_patterns.specs.Pattern.{pattern_text, pattern_of}
use Rattle.gk_commands.specs.declared.faults.FaultKind.{FaultKind}
use Rattle.gk_commands.specs.declared.faults.FaultKind.TheVariants.{BadName, BadNumber, BadPattern, Missing}
use Rattle.gk_commands.specs.declared.commands.Command.{Command}
use Rattle.gk_commands.specs.declared.commands.Command.TheVariants.{ZonePrefix}
use Rattle.gk_commands.specs.declared.commands.GatewayPriority.{GatewayPriority}
use Rattle.gk_terms.specs.Fields.{◌>>=◌, field}
use Rattle.gk_commands.specs.Fields.{is_one_of, with_name, names_in, some_names_in}
use Rattle.gk_commands.specs.ZoneLine.{hunt_words, after_hunt_word, with_gateways, gateways_at, zone_prefix_at}
use Rattle.gk_commands.specs.Line.{kept_command_of, command_at}
use Rattle.gk_commands.specs.Printing.{command_words, gateway_words}
use Rattle.gk_commands.specs.Accepted.{is_word}
use Rattle.command_reader.proofs.read_back.Words.{AreWords}
use Rattle.command_reader.proofs.read_back.Numbers.{number_spelled}
use Rattle.command_reader.proofs.read_back.Pattern.{pattern_read}
use Rattle.command_reader.proofs.read_back.Fields.{bound, bind_at, chosen, same_word, ok_or-some, field_read, field_again, name_read, IsNamed}
use Rattle.command_reader.proofs.read_back.Lengths.{cost}
use Rattle.command_reader.proofs.read_back.Command.{IsSaidAgain}

-- ---- names to the end of the line
pub record AreNamesOf (words names : List (List ℕ)) : Type 0 where
  pub same : names ≡ words
  pub solid : AreWords names

pub names_read : (words names : List (List ℕ)) → names_in words ≡ Ok names → AreNamesOf words names
names_read [] names h = let none : [] ≡ names = cc in record
    { same = sym none; solid = subst AreWords none refl }
names_read (word ∷ words) names h =
    let n = bound (ok_or (name_of word) BadName) (λ name. names_in words >>= with_name name) names h
    in
    let name = name_read word n.value (ok_or-some (name_of word) BadName n.value n.read) in
    let r = bound (names_in words) (with_name n.value) names n.next in
    let rest = names_read words r.value r.read in
    let is : n.value ∷ r.value ≡ names = cc (r.next) in
    record {
      same = sym is ∙ ap (λ w. w ∷ r.value) name.same ∙ ap (λ ws. word ∷ ws) rest.same;
      solid = subst AreWords is (and_from _ _ name.is.solid rest.solid);
    }

some_names_read : (words names : List (List ℕ)) → some_names_in words ≡ Ok names → AreNamesOf words
    names
some_names_read [] names h = absurd (let no : ⊥ = cc in no)
some_names_read (word ∷ words) names h = names_read (word ∷ words) names h

-- ---- gateways
-- gateways that were read: their words, which are read again at the place of a hunt word
record AreGateways (words : List (List ℕ)) (gateways : Option GatewayPriority) : Type 0 where
  same : gateway_words gateways ≡ words
  solid : AreWords words
  no_hunt_word : after_hunt_word words ≡ words

priority_read : (words : List (List ℕ)) (gateways : Option GatewayPriority)
    → field Missing (number_of 0 10) BadNumber words >>=
    (λ priority. with_gateways priority.0 priority.1) ≡ Ok gateways
    → AreGateways (codes "gw-priority" ∷ words) gateways
priority_read words gateways h =
    let b = bound (field Missing (number_of 0 10) BadNumber words)
    (λ priority. with_gateways priority.0 priority.1) gateways h in
    let f = field_read [] (number_of 0 10) BadNumber words b.value b.read in
    let n = number_spelled 0 10 f.word b.value.0 (omega arith) f.taken.spelled in
    let g = bound (some_names_in b.value.1) (λ gateways. Ok
    (Some (record { priority = b.value.0; gateways = gateways }))) gateways b.next in
    let names = some_names_read b.value.1 g.value g.read in
    let is : Some (record { priority = b.value.0; gateways = g.value }) ≡ gateways = cc (g.next) in
    let whole : decimal b.value.0 ∷ g.value ≡ words =
    ap (λ w. w ∷ g.value) n.same ∙ ap (λ ws. f.word ∷ ws) names.same ∙ sym f.whole in
    record {
      same = ap gateway_words (sym is) ∙ ap (λ ws. codes "gw-priority" ∷ ws) whole;
      solid = subst (λ ws. AreWords (codes "gw-priority" ∷ ws)) whole
          (and_from _ _ (ap is_word n.same ∙ n.word) names.solid);
      no_hunt_word = refl;
    }

gateways_read : (words : List (List ℕ)) (gateways : Option GatewayPriority) → gateways_at words ≡ Ok
    gateways → AreGateways words gateways
gateways_read [] gateways h = let none : None ≡ gateways = cc in record
    { same = ap gateway_words (sym none); solid = refl; no_hunt_word = refl }
gateways_read (word ∷ words) gateways h =
    chosen (bytes_eq word (codes "gw-priority")) _ _ (Ok gateways) h
    (λ is f. subst (λ w. AreGateways (w ∷ words) gateways) (sym (same_word word _ is))
    (priority_read words gateways f))
    (λ _ f. absurd (let no : ⊥ = cc in no))

-- a hunt word that is left out
cost_after_hunt_word : (words : List (List ℕ)) → cost (after_hunt_word words) ≤ cost words
cost_after_hunt_word [] = omega arith
cost_after_hunt_word (word ∷ words) = by (is_one_of hunt_words word)
  where
    by : (b : Bool) → cost (cond b words (word ∷ words)) ≤ cost (word ∷ words)
    by true = omega arith
    by false = omega arith

-- ---- the line
abbrev after_gateways : List ℕ → PatternParts → Option GatewayPriority → Result Command FaultKind
after_gateways name pattern gateways = Ok (ZonePrefix name pattern gateways)

abbrev after_pattern : List ℕ → PatternParts × List (List ℕ) → Result Command FaultKind
after_pattern name pattern = gateways_at (after_hunt_word pattern.1) >>= after_gateways name
    pattern.0

abbrev after_name : List ℕ × List (List ℕ) → Result Command FaultKind
after_name name = field Missing pattern_of BadPattern name.1 >>= after_pattern name.0

-- what a `zone prefix` line says, by its fields
record IsPrefix (words : List (List ℕ)) (command : Command) : Type 0 where
  name : List ℕ
  pattern : PatternParts
  gateways : Option GatewayPriority
  is : ZonePrefix name pattern gateways ≡ command
  named : IsNamed name
  pattern_solid : is_word (pattern_text pattern) ≡ true
  pattern_spelled : pattern_of (pattern_text pattern) ≡ Some pattern
  solid : AreWords (gateway_words gateways)
  again : gateways_at (after_hunt_word (gateway_words gateways)) ≡ Ok gateways
  fits : cost (name ∷ pattern_text pattern ∷ gateway_words gateways) ≤ cost words

prefix_read : (words : List (List ℕ)) (command : Command) → zone_prefix_at words ≡ Ok command →
    IsPrefix words command
prefix_read words command h =
    let n = bound (field Missing name_of BadName words) after_name command h in
    let f = field_read [] name_of BadName words n.value n.read in
    let name = name_read f.word n.value.0 f.taken.spelled in
    let p = bound (field Missing pattern_of BadPattern n.value.1) (after_pattern n.value.0) command
    n.next in
    let e = field_read [] pattern_of BadPattern n.value.1 p.value p.read in
    let pattern = pattern_read e.word p.value.0 e.taken.spelled in
    let g = bound (gateways_at (after_hunt_word p.value.1)) (after_gateways n.value.0 p.value.0)
    command p.next in
    let gateways = gateways_read (after_hunt_word p.value.1) g.value g.read in
    let whole : words ≡ n.value.0 ∷ pattern_text p.value.0 ∷ p.value.1 =
    f.whole ∙ ap (λ w. w ∷ n.value.1) (sym name.same) ∙ ap (λ ws. n.value.0 ∷ ws)
    (e.whole ∙ ap (λ w. w ∷ p.value.1) (sym pattern.same)) in
    record {
      name = n.value.0;
      pattern = p.value.0;
      gateways = g.value;
      is = cc (g.next);
      named = name.is;
      pattern_solid = pattern.solid;
      pattern_spelled = pattern.spelled;
      solid = subst AreWords (sym gateways.same) gateways.solid;
      again = ap (λ ws. gateways_at (after_hunt_word ws)) gateways.same ∙ ap gateways_at
          gateways.no_hunt_word ∙ g.read;
      fits = omega (arith, cost_after_hunt_word p.value.1, ap cost gateways.same, ap cost whole);
    }

tail_again : (words : List (List ℕ)) (command : Command) (r : IsPrefix words command)
    → zone_prefix_at (r.name ∷ pattern_text r.pattern ∷ gateway_words r.gateways) ≡ Ok command
tail_again words command r =
    let rest : List (List ℕ) = gateway_words r.gateways in
    let pattern_words : List (List ℕ) = pattern_text r.pattern ∷ rest in
    bind_at (field Missing name_of BadName (r.name ∷ pattern_words)) after_name
    (r.name, pattern_words)
    (field_again [] name_of BadName r.name pattern_words r.name
    (record { kept = refl; spelled = r.named.spelled }))
    ∙ bind_at (field Missing pattern_of BadPattern pattern_words) (after_pattern r.name)
    (r.pattern, rest)
    (field_again [] pattern_of BadPattern (pattern_text r.pattern) rest r.pattern
    (record { kept = refl; spelled = r.pattern_spelled }))
    ∙ bind_at (gateways_at (after_hunt_word rest)) (after_gateways r.name r.pattern) r.gateways
    r.again
    ∙ ap (λ c. Ok c) r.is

-- a `zone prefix` line prints back
pub zone_prefix_back : (words : List (List ℕ)) (command : Command) → zone_prefix_at words ≡ Ok
    command
    → cost (codes "zone" ∷ codes "prefix" ∷ words) ≤ 513 → IsSaidAgain command
zone_prefix_back words command h fits =
    let r = prefix_read words command h in
    let tail : List (List ℕ) = r.name ∷ pattern_text r.pattern ∷ gateway_words r.gateways in
    let same : codes "zone" ∷ codes "prefix" ∷ tail ≡ command_words command = ap command_words r.is
    in
    let short : cost (codes "zone" ∷ codes "prefix" ∷ tail) ≤ 513 = omega (arith, fits, r.fits) in
    record {
      said = ap command_at (sym same) ∙ ap kept_command_of (tail_again words command r);
      solid = subst AreWords same (and_from _ _ r.named.solid
          (and_from _ _ r.pattern_solid r.solid));
      fits = subst (λ ws. cost ws ≤ 513) same short;
    }
