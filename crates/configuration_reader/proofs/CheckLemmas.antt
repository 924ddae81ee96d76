-- Parts of a report, and a configuration that is read to the end of its input.
use Rattle.std.proofs.Common.{◌≡◌, ℕ, Bool, true, false, List, [], ◌∷◌, ◌++◌, refl, sym, ap, subst, ◌∙◌}
use Rattle.std.specs.Prelude.{Option, Some, None, Result, Ok, Err, OnErr, IfSome, IfOk}
use Rattle.std.proofs.lemmas.List.{append_assoc}
use Rattle.std.specs.Io.KnownBytes.{Appends}
use Rattle.gk_terms.specs.Text.{lines_of}
use Rattle.gk_lines.specs.Streams.{AppendsFront, KnownStep}
use Rattle.gk_lines.specs.LineReader.{LineReaderParts, left_of}
use Rattle.gk_commands.specs.Configuration.{Configuration}
use Rattle.gk_commands.specs.Reading.{reading_in, reading_of, MayRead}
use Rattle.gk_commands.specs.declared.faults.LineFault.{LineFault}
use Rattle.configuration_reader.specs.declared.configuration.Until.TheVariants.{EndOfInput}
use Rattle.configuration_reader.specs.declared.configuration.ConfigurationFault.{ConfigurationFault}
use Rattle.configuration_reader.specs.declared.configuration.ConfigurationFault.TheVariants.{Line}
use Rattle.configuration_reader.specs.Configuration.{configuration_in, configuration_of, MayGive}
use Rattle.configuration_reader.specs.Check.{report_text}

-- of what goes on after it
pub front_and_more : (old new : Option (List ℕ)) (bytes more : List ℕ) → AppendsFront old new bytes
    → AppendsFront old new (bytes ++ more)
front_and_more old new bytes more (rest, (front, split, appended)) = (
  rest ++ more,
  (
    front,
    ap (λ text. text ++ more) split ∙ append_assoc front rest more,
    appended,
  ),
)

-- of what stands before it
pub whole_and_front : (old middle new : Option (List ℕ)) (bytes more : List ℕ) → Appends old middle
    bytes → AppendsFront middle new more → AppendsFront old new (bytes ++ more)
whole_and_front old middle new bytes more whole (rest, (front, split, appended)) = (
  rest,
  (
    bytes ++ front,
    ap (λ text. bytes ++ text) split ∙ sym (append_assoc bytes front rest),
    joined old middle new whole appended,
  ),
)
  where
    joined : (old middle new : Option (List ℕ)) → Appends old middle bytes → Appends middle new
        front → Appends old new (bytes ++ front)
    joined None middle new h i = _
    joined (Some xs) None new h i = absurd h
    joined (Some xs) (Some ys) None h i = absurd i
    joined (Some xs) (Some ys) (Some zs) h i = i ∙ ap (λ text. text ++ front) h ∙ append_assoc xs
        bytes front

-- the front of a report is that of the configuration which the bytes say
pub front_reported : (prints : Bool) (known old new : Option (List ℕ))
    (configuration : Configuration) → IfSome known (λ bytes. reading_of bytes ≡ Ok configuration)
    → AppendsFront old new (report_text prints configuration)
    → IfSome known (λ bytes. (c : Configuration) × (reading_of bytes ≡ Ok c) × AppendsFront old new
    (report_text prints c))
front_reported prints None old new configuration said front = tt
front_reported prints (Some bytes) old new configuration said front = (configuration, said, front)

pub whole_reported : (prints : Bool) (known old new : Option (List ℕ))
    (configuration : Configuration) → IfSome known (λ bytes. reading_of bytes ≡ Ok configuration)
    → Appends old new (report_text prints configuration)
    → IfSome known (λ bytes. (c : Configuration) × (reading_of bytes ≡ Ok c) × Appends old new
    (report_text prints c))
whole_reported prints None old new configuration said front = tt
whole_reported prints (Some bytes) old new configuration said front = (configuration, said, front)

-- ---- if a writer fails
module _ {A E : Type 0} (result : Result A E) (old new : Option (List ℕ)) where
  pub front_of_both : (middle : Option (List ℕ)) (bytes more : List ℕ) → Appends old middle bytes →
      OnErr result (AppendsFront middle new more) → OnErr result
      (AppendsFront old new (bytes ++ more))
  front_of_both middle bytes more whole front = by result front
    where
      by : (r : Result A E) → OnErr r (AppendsFront middle new more) → OnErr r
          (AppendsFront old new (bytes ++ more))
      by (Ok x) h = _
      by (Err e) h = whole_and_front old middle new bytes more whole h

  -- of the same text
  pub front_of_same : (bytes other : List ℕ) → bytes ≡ other → OnErr result
      (AppendsFront old new bytes) → OnErr result (AppendsFront old new other)
  front_of_same bytes other same front = subst (λ (text : List ℕ). OnErr result
      (AppendsFront old new text)) same front

-- ---- a configuration that is read to the end of its input
configuration_whole : (lines : List (List ℕ)) → configuration_in EndOfInput lines ≡ lines
configuration_whole [] = refl
configuration_whole (line ∷ lines) = ap (λ ls. line ∷ ls) (configuration_whole lines)

said_whole : (bytes : List ℕ) (lines : LineReaderParts) (turns : ℕ) (rest : List ℕ)
    (result : Result Configuration ConfigurationFault)
    → lines ≡ record { pending = []; turns = turns; ended = false }
    → MayGive EndOfInput (lines.pending ++ bytes) rest result → MayGive EndOfInput bytes rest result
said_whole bytes lines turns rest result fresh given =
    let bare : lines.pending ++ bytes ≡ bytes = ap (λ (l : LineReaderParts). l.pending ++ bytes)
    fresh in
    subst (λ (whole : List ℕ). MayGive EndOfInput whole rest result) bare given

accepted_whole : (bytes rest : List ℕ) (result : Result Configuration ConfigurationFault) → MayGive
    EndOfInput bytes rest result → IfOk result (λ configuration. reading_of bytes ≡ Ok
    configuration)
unfolding reading_of
accepted_whole bytes rest (Ok configuration) given = ap reading_in
    (sym (configuration_whole (lines_of bytes))) ∙ given.0
accepted_whole bytes rest (Err fault) given = tt

pub read_whole : (known : Option (List ℕ)) (lines : LineReaderParts) (turns : ℕ)
    (new : Option (List ℕ)) (result : Result Configuration ConfigurationFault)
    → lines ≡ record { pending = []; turns = turns; ended = false }
    → KnownStep (left_of lines known) new (λ bytes rest. MayGive EndOfInput bytes rest result)
    → IfOk result (λ configuration. IfSome known (λ bytes. reading_of bytes ≡ Ok configuration))
read_whole None lines turns new (Ok configuration) fresh h = tt
read_whole None lines turns new (Err fault) fresh h = tt
read_whole (Some bytes) lines turns None result fresh h = absurd h
read_whole (Some bytes) lines turns (Some rest) result fresh h = accepted_whole bytes rest result
    (said_whole bytes lines turns rest result fresh h)

pub refused_whole : (known : Option (List ℕ)) (lines : LineReaderParts) (turns : ℕ)
    (new : Option (List ℕ)) (result : Result Configuration ConfigurationFault) (fault : LineFault)
    → result ≡ Err (Line fault)
    → lines ≡ record { pending = []; turns = turns; ended = false }
    → KnownStep (left_of lines known) new (λ bytes rest. MayGive EndOfInput bytes rest result)
    → IfSome known (λ bytes. MayRead (lines_of bytes) (Err fault))
refused_whole None lines turns new result fault is fresh h = tt
refused_whole (Some bytes) lines turns None result fault is fresh h = absurd h
refused_whole (Some bytes) lines turns (Some rest) result fault is fresh h =
    let given : MayGive EndOfInput bytes rest (Err (Line fault)) =
    subst (λ (r : Result Configuration ConfigurationFault). MayGive EndOfInput bytes rest r) is
    (said_whole bytes lines turns rest result fresh h) in
    subst (λ (ls : List (List ℕ)). MayRead ls (Err fault)) (configuration_whole (lines_of bytes))
    given.0
