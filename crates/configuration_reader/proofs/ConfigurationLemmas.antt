-- A configuration, line by line.
use Rattle.std.proofs.Common.{◌≡◌, ℕ, Bool, true, false, cond, List, [], ◌∷◌, ◌++◌, map, refl, sym, ap, subst, ◌∙◌, append-nil}
use Rattle.std.specs.Prelude.{◌==◌, ◌||◌, Option, Some, None, Result, Ok, Err, not, ◌&&◌, filter, flat_map}
use Rattle.std.specs.List.{list_any, onto_first}
use Rattle.std.specs.Io.KnownBytes.{Keeps, IsAtEnd, prepend_known}
use Rattle.std.proofs.lemmas.Bool.{cases_Bool}
use Rattle.std.proofs.Common.{⊎_elim}
use Rattle.gk_terms.specs.Text.{raw_lines_of, lines_of, content_of, words_of, is_too_long}
use Rattle.gk_lines.specs.Streams.{KnownStep}
use Rattle.gk_lines.specs.LineReader.{TakesLine, TakesPart}
use Rattle.gk_lines.specs.declared.line_reader.ReadFault.{ReadFault}
use Rattle.gk_lines.proofs.KeptLines.{TakesLine-says_same, same_of_kept}
use Rattle.gk_lines.proofs.LinesTaken.{LinesTaken, none_taken, one_more_taken, all_taken, WholeLinesRead, whole_lines_read}
use Rattle.gk_commands.specs.declared.faults.LineFault.{LineFault}
use Rattle.gk_commands.specs.declared.faults.FaultKind.TheVariants.{TooLong}
use Rattle.gk_commands.specs.Configuration.{Configuration}
use Rattle.gk_commands.specs.Line.{command_of}
use Rattle.gk_commands.specs.Progress.{Progress}
use Rattle.gk_commands.specs.Reading.{nothing_read, finished, finished_of, MayRead, MayReadLine, MayReadOn}
use Rattle.command_reader.proofs.one_by_one.ReadOnLemmas.{no_more_lines, one_line, refused_line, finishes, refuses, long_says, same_line}
use Rattle.configuration_reader.specs.declared.configuration.Until.{Until}
use Rattle.configuration_reader.specs.declared.configuration.Until.TheVariants.{EndLine, EndOfInput}
use Rattle.configuration_reader.specs.declared.configuration.ConfigurationFault.{ConfigurationFault}
use Rattle.configuration_reader.specs.declared.configuration.ConfigurationFault.TheVariants.{Line, Read}
use Rattle.configuration_reader.specs.Configuration.{is_end_alone, is_end_line, ends_with, configuration_in, rest_in, configuration_of, rest_of, IsUnended, LeavesRest, MayGive, with_line_fault, is_decided, ContinuesWith}

-- ---- what is kept of a line says what the line says
long_ends_not : (until : Until) (line : List ℕ) → is_too_long line ≡ true → ends_with until line ≡
    false
long_ends_not EndLine line h = ap (λ t. not t && is_end_alone (words_of line)) h
long_ends_not EndOfInput line h = refl

kept_says : (ended : Bool) (kept bytes rest : List ℕ) (t : TakesLine ended kept bytes rest) →
    command_of (content_of kept) ≡ command_of (content_of t.raw)
kept_says ended kept bytes rest t = same_of_kept command_of (Err TooLong) long_says kept t.raw
    (TakesLine-says_same ended kept bytes rest t)

kept_ends : (until : Until) (ended : Bool) (kept bytes rest : List ℕ)
    (t : TakesLine ended kept bytes rest) → ends_with until (content_of kept) ≡ ends_with until
    (content_of t.raw)
kept_ends until ended kept bytes rest t = same_of_kept (ends_with until) false (long_ends_not until)
    kept t.raw (TakesLine-says_same ended kept bytes rest t)

-- the lines of a text are its bytes
flat_onto_first : (b : ℕ) (raws : List (List ℕ)) → flat_map (λ raw. raw) (onto_first b raws) ≡ b ∷
    flat_map (λ raw. raw) raws
flat_onto_first b [] = refl
flat_onto_first b (raw ∷ raws) = refl

raw_lines_joined : (bytes : List ℕ) → flat_map (λ raw. raw) (raw_lines_of bytes) ≡ bytes
raw_lines_joined [] = refl
raw_lines_joined (b ∷ bs) =
    let joined : Bool → List ℕ = λ t. flat_map (λ raw. raw)
    (cond t ((b ∷ []) ∷ raw_lines_of bs) (onto_first b (raw_lines_of bs))) in
    ⊎_elim
    (λ (feed : (b == 10) ≡ true). ap joined feed ∙ ap (λ rest. b ∷ rest) (raw_lines_joined bs))
    (λ (other : (b == 10) ≡ false). ap joined other ∙ flat_onto_first b (raw_lines_of bs) ∙ ap
    (λ rest. b ∷ rest) (raw_lines_joined bs))
    (cases_Bool (b == 10))

-- ---- one line after another
-- what was read, and then these lines; a fault stays
abbrev pub SaysAfter : Result Progress LineFault → List (List ℕ) → Result Progress LineFault → Type
    0
SaysAfter (Ok read) lines end = MayReadOn read lines end
SaysAfter (Err fault) lines end = end ≡ Err fault

continued : (read after end : Result Progress LineFault) (kept raw : List ℕ) (lines : List (List ℕ))
    → command_of kept ≡ command_of raw → ContinuesWith read kept after → SaysAfter after lines end →
    SaysAfter read (raw ∷ lines) end
continued (Ok before) (Ok read) end kept raw lines same c says = one_line before read raw lines end
    (same_line before kept raw (Ok read) same c) says
continued (Ok before) (Err fault) end kept raw lines same c says =
    subst (λ (e : Result Progress LineFault). MayReadOn before (raw ∷ lines) e) (sym says)
    (refused_line before raw lines fault (same_line before kept raw (Err fault) same c))
continued (Err fault) after end kept raw lines same c says = subst
    (λ (a : Result Progress LineFault). SaysAfter a lines end) c says

-- nothing is left
says_itself : (read : Result Progress LineFault) → SaysAfter read [] read
says_itself (Ok read) = no_more_lines read
says_itself (Err fault) = refl

-- a fault is decided, whatever follows
says_decided : (until : Until) (read : Result Progress LineFault) (lines : List (List ℕ)) →
    is_decided until read ≡ true → SaysAfter read lines read
says_decided EndLine (Ok draft) lines decided = let no_such : ⊥ = cc in absurd no_such
says_decided EndLine (Err fault) lines decided = refl
says_decided EndOfInput (Ok draft) lines decided = let no_such : ⊥ = cc in absurd no_such
says_decided EndOfInput (Err fault) lines decided = refl

-- a configuration that is being read: none of the lines that were taken ends it, and what is left
-- completes it
pub record IsReading (until : Until) (ended : Bool) (read : Result Progress LineFault)
    (bytes rest : List ℕ) : Type 0 where
  pub raws : List (List ℕ)
  pub taken : LinesTaken ended bytes rest raws
  pub unended : list_any (λ raw. ends_with until (content_of raw)) raws ≡ false
  pub says : (end : Result Progress LineFault) → SaysAfter read
      (configuration_in until (lines_of rest)) end → MayReadOn nothing_read
      (configuration_of until bytes) end
  pub left : rest_in until (raw_lines_of bytes) ≡ rest_in until (raw_lines_of rest)

-- it was read out: this is what its lines say, and this rest is left unless it was decided before
pub record IsReadOut (until : Until) (read : Result Progress LineFault) (bytes rest : List ℕ) : Type
    0 where
  pub says : MayReadOn nothing_read (configuration_of until bytes) read
  pub left : is_decided until read ≡ false → rest ≡ rest_of until bytes

none_of : (until : Until) (raws : List (List ℕ)) (raw : List ℕ) → list_any
    (λ raw. ends_with until (content_of raw)) raws ≡ false → ends_with until (content_of raw) ≡
    false → list_any (λ raw. ends_with until (content_of raw)) (raws ++ raw ∷ []) ≡ false
none_of until [] raw none other = ap (λ t. t || false) other
none_of until (first ∷ raws) raw none other =
    ⊎_elim
    (λ (yes : ends_with until (content_of first) ≡ true).
    let some : true ≡ false = sym (ap (λ t. t || list_any (λ raw. ends_with until (content_of raw))
    raws) yes) ∙ none in
    let no_such : ⊥ = cc in absurd no_such)
    (λ (no_end : ends_with until (content_of first) ≡ false).
    let rest : list_any (λ raw. ends_with until (content_of raw)) raws ≡ false = sym
    (ap (λ t. t || list_any (λ raw. ends_with until (content_of raw)) raws) no_end) ∙ none in
    ap (λ t. t || list_any (λ raw. ends_with until (content_of raw)) (raws ++ raw ∷ [])) no_end ∙
    none_of until raws raw rest other)
    (cases_Bool (ends_with until (content_of first)))

reading_begins : (until : Until) (ended : Bool) (bytes : List ℕ) → IsReading until ended
    (Ok nothing_read) bytes bytes
reading_begins until ended bytes = record {
  raws = [];
  taken = none_taken ended bytes;
  unended = refl;
  says = λ end says. says;
  left = refl;
}

module _ (until : Until) (ended next_ended : Bool) (kept bytes rest next : List ℕ)
    (read after : Result Progress LineFault)
    (open_still : ended ≡ false) (r : IsReading until ended read bytes rest)
    (t : TakesLine next_ended kept rest next) (c : ContinuesWith read (content_of kept) after)
  where
    one_line_says : (lines : List (List ℕ)) (end : Result Progress LineFault) → configuration_in
        until
        (lines_of rest) ≡ content_of t.raw ∷ lines → SaysAfter after lines end → MayReadOn
        nothing_read (configuration_of until bytes) end
    one_line_says lines end split says =
        r.says end (subst (λ (ls : List (List ℕ)). SaysAfter read ls end) (sym split)
        (continued read after end (content_of kept) (content_of t.raw) lines
        (kept_says next_ended kept rest next t) c says))

    lines_here : configuration_in until (lines_of rest) ≡ content_of t.raw ∷ cond
        (ends_with until (content_of t.raw)) [] (configuration_in until (lines_of next))
    lines_here = ap (λ raws. configuration_in until (map content_of raws)) t.first

    rest_here : rest_in until (raw_lines_of rest) ≡ cond (ends_with until (content_of t.raw))
        (raw_lines_of next) (rest_in until (raw_lines_of next))
    rest_here = ap (rest_in until) t.first

    line_goes_on : ends_with until (content_of kept) ≡ false → IsReading until next_ended after
        bytes
        next
    line_goes_on goes_on =
        let other : ends_with until (content_of t.raw) ≡ false = sym
        (kept_ends until next_ended kept rest next t) ∙ goes_on in
        record {
          raws = r.raws ++ t.raw ∷ [];
          taken = one_more_taken ended next_ended kept bytes rest next r.raws open_still r.taken t;
          unended = none_of until r.raws t.raw r.unended other;
          says = λ end says. one_line_says (configuration_in until (lines_of next)) end
              (lines_here ∙ ap (λ e. content_of t.raw ∷ cond e []
              (configuration_in until (lines_of next))) other) says;
          left = r.left ∙ rest_here ∙ ap (λ e. cond e (raw_lines_of next)
              (rest_in until (raw_lines_of next))) other;
        }

    line_ends : ends_with until (content_of kept) ≡ true → IsReadOut until after bytes next
    line_ends ends =
        let last : ends_with until (content_of t.raw) ≡ true = sym
        (kept_ends until next_ended kept rest next t) ∙ ends in
        record {
          says = one_line_says [] after (lines_here ∙ ap (λ e. content_of t.raw ∷ cond e []
              (configuration_in until (lines_of next))) last) (says_itself after);
          left = λ _. sym (raw_lines_joined next) ∙ ap (flat_map (λ raw. raw))
              (sym (r.left ∙ rest_here ∙ ap (λ e. cond e (raw_lines_of next)
              (rest_in until (raw_lines_of next))) last));
        }

    line_decides : is_decided until after ≡ true → IsReadOut until after bytes next
    line_decides decided = record {
      says = one_line_says _ after lines_here (says_decided until after _ decided);
      left = λ undecided. let no_such : ⊥ = cc in absurd no_such;
    }

-- the end of the input
input_ends : (until : Until) (ended : Bool) (bytes rest : List ℕ) (read : Result Progress LineFault)
    → IsReading until ended read bytes rest → rest ≡ [] → IsReadOut until read bytes rest
input_ends until ended bytes rest read r none = record {
  says = r.says read (subst (λ (bs : List ℕ). SaysAfter read (configuration_in until (lines_of bs))
      read) (sym none) (says_itself read));
  left = λ _. none ∙ ap (λ raws. flat_map (λ raw. raw) raws)
      (sym (r.left ∙ ap (λ bs. rest_in until (raw_lines_of bs)) none));
}

-- a fault of reading
input_stops : (until : Until) (ended : Bool) (bytes rest next : List ℕ)
    (read : Result Progress LineFault) → ended ≡ false → IsReading until ended read bytes rest →
    TakesPart rest next → IsUnended until bytes next
input_stops until ended bytes rest next read open_still r part =
    let w : WholeLinesRead bytes next r.raws = whole_lines_read ended bytes rest next r.raws
    open_still r.taken part in
    (w.read, w.split, ap (list_any (λ raw. ends_with until (content_of raw))) w.whole ∙ r.unended)

-- ---- the answer
abbrev failed : LineFault → Result Progress LineFault
failed fault = Err fault

abbrev got : Progress → Result Progress LineFault
got read = Ok read

leaves : (until : Until) (fault : LineFault) (bytes rest : List ℕ) →
    (is_decided until (failed fault) ≡ false → rest ≡ rest_of until bytes) → LeavesRest until bytes
    rest
leaves EndLine fault bytes rest left = left refl
leaves EndOfInput fault bytes rest left = tt

undecided : (until : Until) (read : Progress) → is_decided until (got read) ≡ false
undecided EndLine read = refl
undecided EndOfInput read = refl

leaves_all : (until : Until) (bytes rest : List ℕ) → rest ≡ rest_of until bytes → LeavesRest until
    bytes rest
leaves_all EndLine bytes rest left = left
leaves_all EndOfInput bytes rest left = tt

gives_finished : (until : Until) (bytes rest : List ℕ) (answer : Result Configuration LineFault) →
    MayRead (configuration_of until bytes) answer → rest ≡ rest_of until bytes → MayGive until bytes
    rest (with_line_fault answer)
gives_finished until bytes rest (Ok configuration) says left = (says, left)
gives_finished until bytes rest (Err fault) says left = (says, leaves_all until bytes rest left)

gives : (until : Until) (bytes rest : List ℕ) (read : Result Progress LineFault) → IsReadOut until
    read bytes rest → MayGive until bytes rest (with_line_fault (finished_of read))
gives until bytes rest (Ok read) out = gives_finished until bytes rest (finished read)
    (finishes (configuration_of until bytes) read out.says) (out.left (undecided until read))
gives until bytes rest (Err fault) out = (
  refuses (configuration_of until bytes) fault out.says,
  leaves until fault bytes rest out.left,
)

-- ---- the same over what a reader tells
pub reading_starts : (until : Until) (ended : Bool) (known : Option (List ℕ)) → KnownStep known
    known (IsReading until ended (Ok nothing_read))
reading_starts until ended None = tt
reading_starts until ended (Some bytes) = reading_begins until ended bytes

module _ (until : Until) (ended next_ended : Bool) (kept : List ℕ)
    (read after : Result Progress LineFault) (open_still : ended ≡ false)
    (c : ContinuesWith read (content_of kept) after) where
  pub reading_goes_on : (known rest next : Option (List ℕ)) → KnownStep known rest
      (IsReading until ended read) → KnownStep rest next (TakesLine next_ended kept) → ends_with
      until (content_of kept) ≡ false → KnownStep known next (IsReading until next_ended after)
  reading_goes_on None rest next r t e = tt
  reading_goes_on (Some bytes) None next r t e = absurd r
  reading_goes_on (Some bytes) (Some rest) None r t e = absurd t
  reading_goes_on (Some bytes) (Some rest) (Some next) r t e = line_goes_on until ended next_ended
      kept bytes rest next read after open_still r t c e

  pub reading_ends : (known rest next : Option (List ℕ)) → KnownStep known rest
      (IsReading until ended read) → KnownStep rest next (TakesLine next_ended kept) → ends_with
      until (content_of kept) ≡ true → KnownStep known next
      (λ bytes rest. MayGive until bytes rest (with_line_fault (finished_of after)))
  reading_ends None rest next r t e = tt
  reading_ends (Some bytes) None next r t e = absurd r
  reading_ends (Some bytes) (Some rest) None r t e = absurd t
  reading_ends (Some bytes) (Some rest) (Some next) r t e = gives until bytes next after
      (line_ends until ended next_ended kept bytes rest next read after open_still r t c e)

  pub reading_decides : (known rest next : Option (List ℕ)) → KnownStep known rest
      (IsReading until ended read) → KnownStep rest next (TakesLine next_ended kept) → is_decided
      until after ≡ true → KnownStep known next (λ bytes rest. MayGive until bytes rest
      (with_line_fault (finished_of after)))
  reading_decides None rest next r t d = tt
  reading_decides (Some bytes) None next r t d = absurd r
  reading_decides (Some bytes) (Some rest) None r t d = absurd t
  reading_decides (Some bytes) (Some rest) (Some next) r t d = gives until bytes next after
      (line_decides until ended next_ended kept bytes rest next read after open_still r t c d)

pub reading_runs_out : (until : Until) (ended : Bool) (read : Result Progress LineFault)
    (known mid new : Option (List ℕ)) → KnownStep known mid (IsReading until ended read) → Keeps mid
    new → IsAtEnd mid → KnownStep known new (λ bytes rest. MayGive until bytes rest
    (with_line_fault (finished_of read)))
reading_runs_out until ended read None mid new r k e = tt
reading_runs_out until ended read (Some bytes) None new r k e = absurd r
reading_runs_out until ended read (Some bytes) (Some rest) None r k e = absurd k
reading_runs_out until ended read (Some bytes) (Some rest) (Some next) r k e =
    subst (λ (n : List ℕ). MayGive until bytes n (with_line_fault (finished_of read))) (sym k)
    (gives until bytes rest read (input_ends until ended bytes rest read r e))

pub reading_stops : (until : Until) (ended : Bool) (read : Result Progress LineFault)
    (fault : ReadFault) (known mid new : Option (List ℕ)) → ended ≡ false → KnownStep known mid
    (IsReading until ended read) → KnownStep mid new TakesPart → KnownStep known new
    (λ bytes rest. MayGive until bytes rest (Err (Read fault)))
reading_stops until ended read fault None mid new open_still r p = tt
reading_stops until ended read fault (Some bytes) None new open_still r p = absurd r
reading_stops until ended read fault (Some bytes) (Some rest) None open_still r p = absurd p
reading_stops until ended read fault (Some bytes) (Some rest) (Some next) open_still r p =
    input_stops until ended bytes rest next read open_still r p
