-- A `bandwidth` line that was read is a canonical line.
use Rattle.std.proofs.Common.{◌≡◌, ℕ, ◌^◌, ◌<◌, true, List, [], ◌∷◌, ◌++◌, Ok, refl, sym, ap, subst, ◌∙◌, arith}
use Rattle.std.specs.Prelude.{codes, bytes_eq}
use Rattle.std.proofs.lemmas.Bool.{and_from}
use Rattle.gk_terms.specs.Name.{name_of}
use Rattle.gk_terms.specs.Number.{number_of}
use Rattle.gk_commands.specs.declared.numbers.TheConstants.{MOST_KBPS}
use Rattle.gk_commands.specs.declared.faults.FaultKind.TheVariants.{BadName, BadNumber, Missing, Extra}
use Rattle.gk_commands.specs.declared.commands.Command.{Command}
use Rattle.gk_commands.specs.declared.commands.Command.TheVariants.{BandwidthDefault, BandwidthZone, BandwidthRemote}
use Rattle.gk_commands.specs.declared.commands.LimitKind.{LimitKind}
use Rattle.gk_commands.specs.declared.commands.LimitKind.TheVariants.{Session, Total, Interzone}
use Rattle.gk_terms.specs.Fields.{◌>>=◌, field, nothing_more}
use Rattle.gk_commands.specs.BandwidthLine.{most_of, default_limit_at, zone_limit_at, limit_at, remote_limit_at, bandwidth_at}
use Rattle.gk_commands.specs.Printing.{command_words, limit_word}
use Rattle.gk_commands.specs.Accepted.{is_word}
use Rattle.command_reader.proofs.read_back.Words.{AreWords}
use Rattle.command_reader.proofs.read_back.Numbers.{number_spelled}
use Rattle.command_reader.proofs.read_back.Fields.{bound, chosen, same_word, field_read, nothing_more_read, name_read}
use Rattle.command_reader.proofs.read_back.Command.{IsSpelledBy}

most_small : (kind : LimitKind) → most_of kind < 2 ^ 64
most_small Session = omega arith
most_small Total = omega arith
most_small Interzone = omega arith

limit_solid : (kind : LimitKind) → is_word (limit_word kind) ≡ true
limit_solid Session = refl
limit_solid Total = refl
limit_solid Interzone = refl

default_spelled : (kind : LimitKind) (words : List (List ℕ)) (command : Command) → default_limit_at
    kind words ≡ Ok command
    → IsSpelledBy (codes "bandwidth" ∷ limit_word kind ∷ codes "default" ∷ words) command
default_spelled kind words command h =
    let b = bound (field Missing (number_of 1 (most_of kind)) BadNumber words)
    (λ size. nothing_more Extra (BandwidthDefault kind size.0) size.1) command h in
    let f = field_read [] (number_of 1 (most_of kind)) BadNumber words b.value b.read in
    let e = nothing_more_read [] (BandwidthDefault kind b.value.0) b.value.1 command b.next in
    let n = number_spelled 1 (most_of kind) f.word b.value.0 (most_small kind) f.taken.spelled in
    let whole : words ≡ f.word ∷ [] = f.whole ∙ ap (λ rest. f.word ∷ rest) e.none in
    record {
      same = ap command_words (sym e.same) ∙ ap (λ w. codes "bandwidth" ∷ limit_word kind ∷ codes
          "default" ∷ w ∷ []) n.same
          ∙ ap (λ ws. codes "bandwidth" ∷ limit_word kind ∷ codes "default" ∷ ws) (sym whole);
      solid = subst (λ ws. AreWords (codes "bandwidth" ∷ limit_word kind ∷ codes "default" ∷ ws))
          (sym whole)
          (and_from _ _ (limit_solid kind) (and_from _ _ n.word refl));
    }

of_zone_spelled : (kind : LimitKind) (words : List (List ℕ)) (command : Command) → zone_limit_at
    kind words ≡ Ok command
    → IsSpelledBy (codes "bandwidth" ∷ limit_word kind ∷ codes "zone" ∷ words) command
of_zone_spelled kind words command h =
    let z = bound (field Missing name_of BadName words)
    (λ zone. field Missing (number_of 1 (most_of kind)) BadNumber zone.1 >>= λ size.
    nothing_more Extra (BandwidthZone kind zone.0 size.0) size.1) command h in
    let g = field_read [] name_of BadName words z.value z.read in
    let m = name_read g.word z.value.0 g.taken.spelled in
    let b = bound (field Missing (number_of 1 (most_of kind)) BadNumber z.value.1)
    (λ size. nothing_more Extra (BandwidthZone kind z.value.0 size.0) size.1) command z.next in
    let f = field_read [] (number_of 1 (most_of kind)) BadNumber z.value.1 b.value b.read in
    let e = nothing_more_read [] (BandwidthZone kind z.value.0 b.value.0) b.value.1 command b.next
    in
    let n = number_spelled 1 (most_of kind) f.word b.value.0 (most_small kind) f.taken.spelled in
    let whole : words ≡ z.value.0 ∷ f.word ∷ [] =
    g.whole ∙ ap (λ w. w ∷ z.value.1) (sym m.same) ∙ ap (λ rest. z.value.0 ∷ rest)
    (f.whole ∙ ap (λ rest. f.word ∷ rest) e.none) in
    record {
      same = ap command_words (sym e.same) ∙ ap (λ w. codes "bandwidth" ∷ limit_word kind ∷ codes
          "zone" ∷ z.value.0 ∷ w ∷ []) n.same
          ∙ ap (λ ws. codes "bandwidth" ∷ limit_word kind ∷ codes "zone" ∷ ws) (sym whole);
      solid = subst (λ ws. AreWords (codes "bandwidth" ∷ limit_word kind ∷ codes "zone" ∷ ws))
          (sym whole)
          (and_from _ _ (limit_solid kind) (and_from _ _ m.is.solid (and_from _ _ n.word refl)));
    }

-- a word that is one of the keywords, in front of words whose command is spelled
spelled_behind : (front : List (List ℕ)) (word key : List ℕ) (words : List (List ℕ))
    (command : Command) → word ≡ key
    → IsSpelledBy (front ++ key ∷ words) command → IsSpelledBy (front ++ word ∷ words) command
spelled_behind front word key words command same s = subst
    (λ w. IsSpelledBy (front ++ w ∷ words) command) (sym same) s

limit_spelled : (kind : LimitKind) (words : List (List ℕ)) (command : Command) → limit_at kind words
    ≡ Ok command
    → IsSpelledBy (codes "bandwidth" ∷ limit_word kind ∷ words) command
limit_spelled kind [] command h = absurd (let no : ⊥ = cc in no)
limit_spelled kind (word ∷ words) command h =
    let front : List (List ℕ) = codes "bandwidth" ∷ limit_word kind ∷ [] in
    chosen (bytes_eq word (codes "default")) _ _ (Ok command) h
    (λ is f. spelled_behind front word (codes "default") words command (same_word word _ is)
    (default_spelled kind words command f))
    (λ not_default g.
    chosen (bytes_eq word (codes "zone")) _ _ (Ok command) g
    (λ is f. spelled_behind front word (codes "zone") words command (same_word word _ is)
    (of_zone_spelled kind words command f))
    (λ _ f. absurd (let no : ⊥ = cc in no)))

remote_spelled : (words : List (List ℕ)) (command : Command) → remote_limit_at words ≡ Ok command
    → IsSpelledBy (codes "bandwidth" ∷ codes "remote" ∷ words) command
remote_spelled words command h =
    let b = bound (field Missing (number_of 1 MOST_KBPS) BadNumber words)
    (λ size. nothing_more Extra (BandwidthRemote size.0) size.1) command h in
    let f = field_read [] (number_of 1 MOST_KBPS) BadNumber words b.value b.read in
    let e = nothing_more_read [] (BandwidthRemote b.value.0) b.value.1 command b.next in
    let n = number_spelled 1 MOST_KBPS f.word b.value.0 (omega arith) f.taken.spelled in
    let whole : words ≡ f.word ∷ [] = f.whole ∙ ap (λ rest. f.word ∷ rest) e.none in
    record {
      same = ap command_words (sym e.same) ∙ ap (λ w. codes "bandwidth" ∷ codes "remote" ∷ w ∷ [])
          n.same
          ∙ ap (λ ws. codes "bandwidth" ∷ codes "remote" ∷ ws) (sym whole);
      solid = subst (λ ws. AreWords (codes "bandwidth" ∷ codes "remote" ∷ ws)) (sym whole)
          (and_from _ _ n.word refl);
    }

-- the words of a `bandwidth` line are its canonical words
pub bandwidth_spelled : (words : List (List ℕ)) (command : Command) → bandwidth_at words ≡ Ok
    command → IsSpelledBy (codes "bandwidth" ∷ words) command
bandwidth_spelled [] command h = absurd (let no : ⊥ = cc in no)
bandwidth_spelled (word ∷ words) command h =
    let front : List (List ℕ) = codes "bandwidth" ∷ [] in
    chosen (bytes_eq word (codes "total")) _ _ (Ok command) h
    (λ is f. spelled_behind front word (codes "total") words command (same_word word _ is)
    (limit_spelled Total words command f))
    (λ _ g. chosen (bytes_eq word (codes "interzone")) _ _ (Ok command) g
    (λ is f. spelled_behind front word (codes "interzone") words command (same_word word _ is)
    (limit_spelled Interzone words command f))
    (λ _ i. chosen (bytes_eq word (codes "session")) _ _ (Ok command) i
    (λ is f. spelled_behind front word (codes "session") words command (same_word word _ is)
    (limit_spelled Session words command f))
    (λ _ j. chosen (bytes_eq word (codes "remote")) _ _ (Ok command) j
    (λ is f. spelled_behind front word (codes "remote") words command (same_word word _ is)
    (remote_spelled words command f))
    (λ _ k. chosen (bytes_eq word (codes "check-destination")) _ _ (Ok command) k
    (λ _ f. absurd (let no : ⊥ = cc in no))
    (λ _ f. absurd (let no : ⊥ = cc in no))))))
