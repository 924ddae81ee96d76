-- A session, line by line, as far as its reader and its writer tell.
use Rattle.std.proofs.Common.{◌≡◌, ℕ, ◌+◌, Bool, true, false, List, [], ◌++◌, length, append-nil, refl, sym, ap, subst, ◌∙◌}
use Rattle.std.specs.Prelude.{◌==◌, Option, Some, None, Result, Ok, Err, filter}
use Rattle.std.specs.List.{list_any}
use Rattle.std.specs.Io.KnownBytes.{Appends, Keeps, IsAtEnd, prepend_known}
use Rattle.gk_terms.specs.Text.{raw_lines_of, content_of}
use Rattle.gk_lines.specs.Streams.{KnownStep, AppendsFront}
use Rattle.gk_lines.specs.LineReader.{LineReaderParts, left_of, TakesLine, TakesPart}
use Rattle.gk_lines.specs.declared.line_reader.ReadFault.{ReadFault as LineFault}
use Rattle.gk_lines.specs.declared.line_reader.ReadFault.TheVariants as line
use Rattle.gk_lines.proofs.LinesTaken.{none_taken, all_taken, WholeLinesRead, whole_lines_read}
use Rattle.gk_lines.proofs.StreamLemmas.{appends_nothing, appends_more}
use Rattle.gk_protocol.specs.declared.requests.Request.{Request}
use Rattle.gk_protocol.specs.declared.session_faults.SessionFault.{SessionFault}
use Rattle.gk_protocol.specs.declared.session_faults.SessionFault.TheVariants.{WriteFault}
use Rattle.gk_protocol.specs.declared.answers.Answer.{Answer}
use Rattle.gk_protocol.specs.declared.sessions.Progress.TheVariants.{Blank, Answered, CutShort as Cut}
use Rattle.gk_protocol.specs.Session.{Asked, asked_in, requests_of, Runs, IsWhole, IsStopped, IsReadAhead, Ends, session_fault_of}
use Rattle.gk_protocol.specs.AnswersLine.{AnswersLine}
use Rattle.gk_protocol.proofs.SessionUnderWay.{IsUnderWay, UnderWay}
use Rattle.gk_protocol.proofs.LineGroupLemmas.{blank_group, answered_line, cut_line, ended_line, lost_line, stopped_within}

module _ {S : Type 0} (MayAnswer : S → Request → Answer → S → Type 0) where
  -- before the first line
  pub session_begins : (ended : Bool) (known : Option (List ℕ)) (old : S) (before : Option (List ℕ))
      → KnownStep known known (UnderWay MayAnswer ended old old before before 0)
  session_begins ended None old before = tt
  session_begins ended (Some bytes) old before = (
    [],
    record {
      raws = [];
      taken = none_taken ended bytes;
      asked = [];
      settled = λ at_end more. refl;
      runs = (refl, refl);
      counted = refl;
    },
    appends_nothing before,
  )

  -- ---- the end of the input, and a fault of reading
  whole_session : (ended : Bool) (bytes rest : List ℕ) (old now : S) (text : List ℕ) (count : ℕ)
      → IsUnderWay MayAnswer ended bytes rest old now text count → rest ≡ []
      → IsWhole MayAnswer bytes old now text count
  whole_session ended bytes rest old now text count u none =
      let asked : requests_of bytes ≡ u.asked =
      ap (asked_in true 0)
      (all_taken ended bytes rest u.raws u.taken none ∙ sym (append-nil u.raws))
      ∙ u.settled true [] ∙ append-nil u.asked in
      record {
        runs = subst (λ (asked : List Asked). Runs MayAnswer old asked text now) (sym asked) u.runs;
        counted = u.counted ∙ ap length (sym asked);
      }

  stopped_session : (ended : Bool) (bytes rest next : List ℕ) (old now : S) (text : List ℕ)
      (count : ℕ) → ended ≡ false → IsUnderWay MayAnswer ended bytes rest old now text count
      → TakesPart rest next → IsStopped MayAnswer bytes next old now text
  stopped_session ended bytes rest next old now text count unended u part =
      let read : WholeLinesRead bytes next u.raws =
      whole_lines_read ended bytes rest next u.raws unended u.taken part in
      let asked : asked_in false 0 (filter (list_any (λ b. b == 10)) (raw_lines_of read.read))
      ≡ u.asked =
      ap (asked_in false 0) (read.whole ∙ sym (append-nil u.raws)) ∙ u.settled false []
      ∙ append-nil u.asked in
      record {
        read = read.read;
        split = read.split;
        runs = subst (λ (asked : List Asked). Runs MayAnswer old asked text now) (sym asked) u.runs;
      }

  -- ---- the same over what a reader tells
  pub session_passes : (known rest mid next : Option (List ℕ)) (ended mid_ended now_ended : Bool)
      (kept reply : List ℕ) (old now new : S) (before after : Option (List ℕ)) (count : ℕ)
      → ended ≡ false → KnownStep known rest (UnderWay MayAnswer ended old now before after count)
      → KnownStep rest mid (TakesLine mid_ended kept)
      → KnownStep mid next (AnswersLine MayAnswer mid_ended now_ended now (content_of kept)
      (Ok Blank) reply new)
      → KnownStep known next (UnderWay MayAnswer now_ended old new before after count)
  session_passes None rest mid next ended mid_ended now_ended kept reply old now new before after
      count unended u t a = tt
  session_passes (Some bytes) None mid next ended mid_ended now_ended kept reply old now new before
      after count unended u t a = absurd u
  session_passes (Some bytes) (Some rest) None next ended mid_ended now_ended kept reply old now new
      before after count unended u t a = absurd t
  session_passes (Some bytes) (Some rest) (Some mid) None ended mid_ended now_ended kept reply old
      now new before after count unended u t a = absurd a
  session_passes (Some bytes) (Some rest) (Some mid) (Some next) ended mid_ended now_ended kept
      reply old now new before after count unended u t a = (
        u.0,
        blank_group MayAnswer ended mid_ended now_ended kept bytes rest mid next old now u.0
            count unended u.1 t reply new a,
        u.2,
      )

  pub session_answers : (known rest mid next : Option (List ℕ)) (ended mid_ended now_ended : Bool)
      (kept reply : List ℕ) (old now new : S) (before after written : Option (List ℕ)) (count : ℕ)
      → ended ≡ false → KnownStep known rest (UnderWay MayAnswer ended old now before after count)
      → KnownStep rest mid (TakesLine mid_ended kept)
      → KnownStep mid next (AnswersLine MayAnswer mid_ended now_ended now (content_of kept)
      (Ok Answered) reply new)
      → Appends after written reply
      → KnownStep known next (UnderWay MayAnswer now_ended old new before written (count + 1))
  session_answers None rest mid next ended mid_ended now_ended kept reply old now new before after
      written count unended u t a w = tt
  session_answers (Some bytes) None mid next ended mid_ended now_ended kept reply old now new before
      after written count unended u t a w = absurd u
  session_answers (Some bytes) (Some rest) None next ended mid_ended now_ended kept reply old now
      new before after written count unended u t a w = absurd t
  session_answers (Some bytes) (Some rest) (Some mid) None ended mid_ended now_ended kept reply old
      now new before after written count unended u t a w = absurd a
  session_answers (Some bytes) (Some rest) (Some mid) (Some next) ended mid_ended now_ended kept
      reply old now new before after written count unended u t a w = (
        u.0 ++ reply,
        answered_line MayAnswer ended mid_ended now_ended kept bytes rest mid next old now u.0 count
            unended u.1 t reply new a,
        appends_more before after written u.0 reply u.2 w,
      )

  -- after the last line
  pub session_ends : (known mid remaining : Option (List ℕ)) (pending : List ℕ) (ended : Bool)
      (old now : S) (before after : Option (List ℕ)) (count : ℕ)
      → KnownStep known mid (UnderWay MayAnswer ended old now before after count)
      → Keeps mid (prepend_known pending remaining) → pending ≡ [] → IsAtEnd remaining
      → KnownStep known remaining (λ bytes rest. (text : List ℕ)
      × Ends MayAnswer bytes pending rest old now text (Ok count) × Appends before after text)
  session_ends None mid remaining pending ended old now before after count u same none end = tt
  session_ends (Some bytes) None remaining pending ended old now before after count u same none
      end = absurd u
  session_ends (Some bytes) (Some rest) None pending ended old now before after count u same none
      end = absurd same
  session_ends (Some bytes) (Some rest) (Some next) pending ended old now before after count u same
      none end =
      let nothing : rest ≡ [] = sym same ∙ ap (λ p. p ++ next) none ∙ end in
      (u.0, (none, end, whole_session ended bytes rest old now u.0 count u.1 nothing), u.2)

  ends_stopped : (fault : LineFault) (bytes pending rest : List ℕ) (old now : S) (text : List ℕ)
      → pending ≡ [] → IsStopped MayAnswer bytes rest old now text
      → Ends MayAnswer bytes pending rest old now text (Err (session_fault_of fault))
  ends_stopped line.Failed bytes pending rest old now text none s = (none, s)
  ends_stopped line.TurnsSpent bytes pending rest old now text none s = (none, s)

  -- a fault of reading
  pub session_stops : (known mid remaining : Option (List ℕ)) (pending : List ℕ) (ended : Bool)
      (old now : S) (before after : Option (List ℕ)) (count : ℕ) (fault : LineFault)
      → ended ≡ false → KnownStep known mid (UnderWay MayAnswer ended old now before after count)
      → KnownStep mid (prepend_known pending remaining) TakesPart → pending ≡ []
      → KnownStep known remaining (λ bytes rest. (text : List ℕ)
      × Ends MayAnswer bytes pending rest old now text (Err (session_fault_of fault))
      × Appends before after text)
  session_stops None mid remaining pending ended old now before after count fault unended u p none =
      tt
  session_stops (Some bytes) None remaining pending ended old now before after count fault unended u
      p none = absurd u
  session_stops (Some bytes) (Some rest) None pending ended old now before after count fault unended
      u p none = absurd p
  session_stops (Some bytes) (Some rest) (Some next) pending ended old now before after count fault
      unended u p none =
      let part : TakesPart rest next =
      subst (λ (q : List ℕ). TakesPart rest (q ++ next)) none p in (
        u.0,
        ends_stopped fault bytes pending next old now u.0 none
            (stopped_session ended bytes rest next old now u.0 count unended u.1 part),
        u.2,
      )

  -- the same within the lines of a request
  pub session_stops_within : (known rest mid remaining : Option (List ℕ)) (pending : List ℕ)
      (ended mid_ended now_ended : Bool) (kept reply : List ℕ) (old now new : S)
      (before after : Option (List ℕ)) (count : ℕ) (fault : LineFault)
      → ended ≡ false → KnownStep known rest (UnderWay MayAnswer ended old now before after count)
      → KnownStep rest mid (TakesLine mid_ended kept)
      → KnownStep mid (prepend_known pending remaining)
      (AnswersLine MayAnswer mid_ended now_ended now (content_of kept) (Err fault) reply new)
      → pending ≡ []
      → KnownStep known remaining (λ bytes rest. (text : List ℕ)
      × Ends MayAnswer bytes pending rest old new text (Err (session_fault_of fault))
      × Appends before after text)
  session_stops_within None rest mid remaining pending ended mid_ended now_ended kept reply old now
      new before after count fault unended u t a none = tt
  session_stops_within (Some bytes) None mid remaining pending ended mid_ended now_ended kept reply
      old now new before after count fault unended u t a none = absurd u
  session_stops_within (Some bytes) (Some rest) None remaining pending ended mid_ended now_ended
      kept reply old now new before after count fault unended u t a none = absurd t
  session_stops_within (Some bytes) (Some rest) (Some mid) None pending ended mid_ended now_ended
      kept reply old now new before after count fault unended u t a none = absurd a
  session_stops_within (Some bytes) (Some rest) (Some mid) (Some next) pending ended mid_ended
      now_ended kept reply old now new before after count fault unended u t a none =
      let stopped : IsStopped MayAnswer bytes (pending ++ next) old new u.0 =
      stopped_within MayAnswer ended mid_ended now_ended kept bytes rest mid (pending ++ next) old
      now u.0 count unended u.1 t fault reply new a in (
        u.0,
        ends_stopped fault bytes pending next old new u.0 none
            (subst (λ (q : List ℕ). IsStopped MayAnswer bytes (q ++ next) old new u.0) none
            stopped),
        u.2,
      )

  -- a fault of writing
  pub session_cut : (known rest mid remaining : Option (List ℕ)) (pending : List ℕ)
      (ended mid_ended now_ended : Bool) (kept reply : List ℕ) (old now new : S)
      (before after written : Option (List ℕ)) (count : ℕ)
      → ended ≡ false → KnownStep known rest (UnderWay MayAnswer ended old now before after count)
      → KnownStep rest mid (TakesLine mid_ended kept)
      → KnownStep mid (prepend_known pending remaining)
      (AnswersLine MayAnswer mid_ended now_ended now (content_of kept) (Ok Answered) reply new)
      → AppendsFront after written reply
      → KnownStep known remaining (λ bytes rest. (text : List ℕ)
      × Ends MayAnswer bytes pending rest old new text (Err WriteFault)
      × Appends before written text)
  session_cut None rest mid remaining pending ended mid_ended now_ended kept reply old now new
      before after written count unended u t a w = tt
  session_cut (Some bytes) None mid remaining pending ended mid_ended now_ended kept reply old now
      new before after written count unended u t a w = absurd u
  session_cut (Some bytes) (Some rest) None remaining pending ended mid_ended now_ended kept reply
      old now new before after written count unended u t a w = absurd t
  session_cut (Some bytes) (Some rest) (Some mid) None pending ended mid_ended now_ended kept reply
      old now new before after written count unended u t a w = absurd a
  session_cut (Some bytes) (Some rest) (Some mid) (Some next) pending ended mid_ended now_ended kept
      reply old now new before after written count unended u t a w = (
        u.0 ++ w.1.0,
        cut_line MayAnswer ended mid_ended now_ended kept bytes rest mid (pending ++ next)
            old now u.0 count unended u.1 t reply new w.1.0 w.0 a w.1.1,
        appends_more before after written u.0 w.1.0 u.2 w.1.2,
      )

  -- ---- the input ends within the lines of a request
  pub session_cut_short : (known rest mid remaining : Option (List ℕ)) (pending : List ℕ)
      (ended mid_ended now_ended : Bool) (kept reply : List ℕ) (old now new : S)
      (before after written : Option (List ℕ)) (count : ℕ)
      → ended ≡ false → KnownStep known rest (UnderWay MayAnswer ended old now before after count)
      → KnownStep rest mid (TakesLine mid_ended kept)
      → KnownStep mid (prepend_known pending remaining)
      (AnswersLine MayAnswer mid_ended now_ended now (content_of kept) (Ok Cut) reply new)
      → pending ≡ [] → IsAtEnd remaining → Appends after written reply
      → KnownStep known remaining (λ bytes rest. (text : List ℕ)
      × Ends MayAnswer bytes pending rest old new text (Ok (count + 1))
      × Appends before written text)
  session_cut_short None rest mid remaining pending ended mid_ended now_ended kept reply old now new
      before after written count unended u t a none end w = tt
  session_cut_short (Some bytes) None mid remaining pending ended mid_ended now_ended kept reply old
      now new before after written count unended u t a none end w = absurd u
  session_cut_short (Some bytes) (Some rest) None remaining pending ended mid_ended now_ended kept
      reply old now new before after written count unended u t a none end w = absurd t
  session_cut_short (Some bytes) (Some rest) (Some mid) None pending ended mid_ended now_ended kept
      reply old now new before after written count unended u t a none end w = absurd a
  session_cut_short (Some bytes) (Some rest) (Some mid) (Some next) pending ended mid_ended
      now_ended kept reply old now new before after written count unended u t a none end w = (
        u.0 ++ reply,
        (
          none,
          end,
          (ended_line MayAnswer ended mid_ended now_ended kept bytes rest mid
              (pending ++ next) old now u.0 count unended u.1 t reply new a).1,
        ),
        appends_more before after written u.0 reply u.2 w,
      )

  -- and the reply is not written to its end
  pub session_lost : (known rest mid remaining : Option (List ℕ)) (pending : List ℕ)
      (ended mid_ended now_ended : Bool) (kept reply : List ℕ) (old now new : S)
      (before after written : Option (List ℕ)) (count : ℕ)
      → ended ≡ false → KnownStep known rest (UnderWay MayAnswer ended old now before after count)
      → KnownStep rest mid (TakesLine mid_ended kept)
      → KnownStep mid (prepend_known pending remaining)
      (AnswersLine MayAnswer mid_ended now_ended now (content_of kept) (Ok Cut) reply new)
      → AppendsFront after written reply
      → KnownStep known remaining (λ bytes rest. (text : List ℕ)
      × Ends MayAnswer bytes pending rest old new text (Err WriteFault)
      × Appends before written text)
  session_lost None rest mid remaining pending ended mid_ended now_ended kept reply old now new
      before after written count unended u t a w = tt
  session_lost (Some bytes) None mid remaining pending ended mid_ended now_ended kept reply old now
      new before after written count unended u t a w = absurd u
  session_lost (Some bytes) (Some rest) None remaining pending ended mid_ended now_ended kept reply
      old now new before after written count unended u t a w = absurd t
  session_lost (Some bytes) (Some rest) (Some mid) None pending ended mid_ended now_ended kept reply
      old now new before after written count unended u t a w = absurd a
  session_lost (Some bytes) (Some rest) (Some mid) (Some next) pending ended mid_ended now_ended
      kept reply old now new before after written count unended u t a w = (
        u.0 ++ w.1.0,
        lost_line MayAnswer ended mid_ended now_ended kept bytes rest mid (pending ++ next)
            old now u.0 count unended u.1 t reply new w.1.0 w.0 a w.1.1,
        appends_more before after written u.0 w.1.0 u.2 w.1.2,
      )

  -- a session over an input of which nothing was read ahead before
  pub with_ahead : (known remaining : Option (List ℕ)) (lines : LineReaderParts) (turns : ℕ)
      (ahead : List ℕ) (old now : S) (before after : Option (List ℕ))
      (result : Result ℕ SessionFault)
      → lines ≡ record { pending = []; turns = turns; ended = false } → IsReadAhead ahead
      → KnownStep (left_of lines known) remaining (λ bytes rest. (text : List ℕ)
      × Ends MayAnswer bytes ahead rest old now text result × Appends before after text)
      → KnownStep known remaining (λ bytes rest. (ahead : List ℕ) × (text : List ℕ)
      × IsReadAhead ahead × Ends MayAnswer bytes ahead rest old now text result
      × Appends before after text)
  with_ahead None remaining lines turns ahead old now before after result fresh within h = tt
  with_ahead (Some bytes) None lines turns ahead old now before after result fresh within h =
      absurd h
  with_ahead (Some bytes) (Some rest) lines turns ahead old now before after result fresh within h =
      let bare : lines.pending ++ bytes ≡ bytes = ap (λ (l : LineReaderParts). l.pending ++ bytes)
      fresh in (
        ahead,
        h.0,
        within,
        subst (λ (whole : List ℕ). Ends MayAnswer whole ahead rest old now h.0
            result) bare h.1,
        h.2,
      )
