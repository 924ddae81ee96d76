-- A run: its configuration, and the session after it.
use Rattle.gk_lines.specs.LineReader.{CountsTurns}
use Rattle.gk_lines.proofs.PendingLemmas.{turns_then}
use Rattle.std.proofs.Common.{◌≡◌, ℕ, ◌+◌, ◌^◌, ◌<◌, ◌≤◌, Bool, false, cond, List, [], ◌++◌, refl, sym, ap, subst, ◌∙◌, inl, inr, arith}
use Rattle.std.specs.Prelude.{Option, Some, None, Result, Ok, Err}
use Rattle.std.specs.Io.KnownBytes.{Appends}
use Rattle.gk_lines.specs.Streams.{KnownStep, one_more}
use Rattle.gk_lines.specs.LineReader.{LineReaderParts, left_of}
use Rattle.gk_lines.proofs.StreamLemmas.{appends_nothing}
use Rattle.gk_commands.specs.Configuration.{Configuration}
use Rattle.gk_protocol.specs.declared.requests.Request.{Request}
use Rattle.gk_protocol.specs.declared.answers.Answer.{Answer}
use Rattle.gk_protocol.specs.declared.session_faults.SessionFault.{SessionFault}
use Rattle.gk_protocol.specs.Session.{IsReadAhead, Ends}
use Rattle.configuration_reader.specs.declared.configuration.Until.TheVariants.{EndLine}
use Rattle.configuration_reader.specs.declared.configuration.ConfigurationFault.{ConfigurationFault}
use Rattle.configuration_reader.specs.declared.configuration.ConfigurationFault.TheVariants.{Line, Read}
use Rattle.runs.specs.declared.run.RunFault.{RunFault}
use Rattle.runs.specs.declared.run.RunFault.TheVariants.{Session, NoMemory}
use Rattle.configuration_reader.specs.Configuration.{IsUnended, MayGive, IfRead}
use Rattle.runs.specs.Run.{Serves, RunEnds, ServesUnder, run_fault_of}

-- the result of a session, as one of its run
abbrev pub run_result_of : Result ℕ SessionFault → Result ℕ RunFault
run_result_of (Ok count) = Ok count
run_result_of (Err fault) = Err (Session fault)

module _ {S : Type 0} (MayAnswer : S → Request → Answer → S → Type 0)
    (Opens : Configuration → S → Type 0) where
  -- what a run wrote
  abbrev pub Wrote : Option (List ℕ) → Option (List ℕ) → Result ℕ RunFault → List ℕ → List ℕ → Type
      0
  Wrote before after result bytes rest = (text : List ℕ) × RunEnds MayAnswer Opens bytes rest text
      result × Appends before after text

  serves : (result : Result ℕ SessionFault) (bytes rest text : List ℕ) → Serves MayAnswer Opens
      bytes rest text result → RunEnds MayAnswer Opens bytes rest text (run_result_of result)
  serves (Ok count) bytes rest text s = s
  serves (Err fault) bytes rest text s = inl s

  -- the configuration was read, and the session after it ended
  pub run_serves : (known : Option (List ℕ)) (fresh lines : LineReaderParts) (turns : ℕ)
      (mid : Option (List ℕ)) (new : Option (List ℕ)) (before after : Option (List ℕ))
      (configuration : Configuration) (first last : S) (ahead : List ℕ)
      (result : Result ℕ SessionFault)
      → fresh ≡ record { pending = []; turns = turns; ended = false }
      → KnownStep (left_of fresh known) (left_of lines mid)
      (λ bytes rest. MayGive EndLine bytes rest (Ok configuration))
      → Opens configuration first → IsReadAhead ahead
      → KnownStep (left_of lines mid) new (λ bytes rest. (text : List ℕ) × Ends MayAnswer bytes
      ahead rest first last text result × Appends before after text)
      → KnownStep known new (Wrote before after (run_result_of result))
  run_serves None fresh lines turns mid new before after configuration first last ahead result is c
      o within s = tt
  run_serves (Some bytes) fresh lines turns None new before after configuration first last ahead
      result is c o within s = absurd c
  run_serves (Some bytes) fresh lines turns (Some rest) None before after configuration first last
      ahead result is c o within s = absurd s
  run_serves (Some bytes) fresh lines turns (Some rest) (Some next) before after configuration first
      last ahead result is c o within s =
      let bare : fresh.pending ++ bytes ≡ bytes = ap (λ (l : LineReaderParts). l.pending ++ bytes)
      is in
      let given : MayGive EndLine bytes (lines.pending ++ rest) (Ok configuration) = subst
      (λ (b : List ℕ). MayGive EndLine b (lines.pending ++ rest) (Ok configuration)) bare c in (
        s.0,
        serves result bytes next s.0 (record {
          configuration = configuration;
          accepted = given.0;
          first = first;
          opens = o;
          last = last;
          ahead = ahead;
          in_one_call = within;
          ends = subst (λ (b : List ℕ). Ends MayAnswer b ahead next first last s.0 result) given.1
              s.1;
        }),
        s.2,
      )

  refused : (fault : ConfigurationFault) (bytes pending rest : List ℕ) → IfRead fault
      (λ _. pending ≡ []) → MayGive EndLine bytes (pending ++ rest) (Err fault) → RunEnds MayAnswer
      Opens bytes rest [] (Err (run_fault_of fault))
  refused (Line fault) bytes pending rest none given = (refl, given.0, (pending, sym given.1))
  refused (Read fault) bytes pending rest none given = inr (record {
    unwritten = refl;
    of_reader = (fault, refl);
    unended = subst (λ (p : List ℕ). IsUnended EndLine bytes (p ++ rest)) none given;
  })

  -- the configuration was refused, or its end was not read
  pub run_refuses : (known : Option (List ℕ)) (fresh lines : LineReaderParts) (turns : ℕ)
      (new before : Option (List ℕ)) (fault : ConfigurationFault)
      → fresh ≡ record { pending = []; turns = turns; ended = false }
      → KnownStep (left_of fresh known) (left_of lines new)
      (λ bytes rest. MayGive EndLine bytes rest (Err fault))
      → IfRead fault (λ _. lines.pending ≡ [])
      → KnownStep known new (Wrote before before (Err (run_fault_of fault)))
  run_refuses None fresh lines turns new before fault is c none = tt
  run_refuses (Some bytes) fresh lines turns None before fault is c none = absurd c
  run_refuses (Some bytes) fresh lines turns (Some rest) before fault is c none =
      let bare : fresh.pending ++ bytes ≡ bytes = ap (λ (l : LineReaderParts). l.pending ++ bytes)
      is in
      let given : MayGive EndLine bytes (lines.pending ++ rest) (Err fault) = subst
      (λ (b : List ℕ). MayGive EndLine b (lines.pending ++ rest) (Err fault)) bare c in
      ([], refused fault bytes lines.pending rest none given, appends_nothing before)

  unopened : (fault : RunFault) (configuration : Configuration) (bytes pending rest : List ℕ) →
      fault ≡ NoMemory
      → MayGive EndLine bytes (pending ++ rest) (Ok configuration) → RunEnds MayAnswer Opens bytes
      rest [] (Err fault)
  unopened fault configuration bytes pending rest is given =
      subst (λ (f : RunFault). RunEnds MayAnswer Opens bytes rest [] (Err f)) (sym is)
      (refl, (configuration, given.0), (pending, sym given.1))

  -- memory ran out between the configuration and the requests
  pub run_lacks : (known : Option (List ℕ)) (fresh lines : LineReaderParts) (turns : ℕ)
      (new before : Option (List ℕ)) (configuration : Configuration) (fault : RunFault)
      → fresh ≡ record { pending = []; turns = turns; ended = false }
      → KnownStep (left_of fresh known) (left_of lines new)
      (λ bytes rest. MayGive EndLine bytes rest (Ok configuration))
      → fault ≡ NoMemory
      → KnownStep known new (Wrote before before (Err fault))
  run_lacks None fresh lines turns new before configuration fault is c lack = tt
  run_lacks (Some bytes) fresh lines turns None before configuration fault is c lack = absurd c
  run_lacks (Some bytes) fresh lines turns (Some rest) before configuration fault is c lack =
      let bare : fresh.pending ++ bytes ≡ bytes = ap (λ (l : LineReaderParts). l.pending ++ bytes)
      is in
      let given : MayGive EndLine bytes (lines.pending ++ rest) (Ok configuration) = subst
      (λ (b : List ℕ). MayGive EndLine b (lines.pending ++ rest) (Ok configuration)) bare c in
      ([], unopened fault configuration bytes lines.pending rest lack given, appends_nothing before)

module _ {S : Type 0} (MayAnswer : S → Request → Answer → S → Type 0) where
  -- a session under a configuration that was read before; what it began with and what it left are
  -- told by others
  pub under_serves : (known new before after : Option (List ℕ)) (first begun last left : S)
      (result : Result ℕ SessionFault) → first ≡ begun → left ≡ last
      → KnownStep known new (λ bytes rest. (ahead : List ℕ) × (text : List ℕ) × IsReadAhead ahead ×
      Ends MayAnswer bytes ahead rest first last text result × Appends before after text)
      → KnownStep known new (λ bytes rest. (text : List ℕ) × ServesUnder MayAnswer begun bytes rest
      text (Some (left, result)) × Appends before after text)
  under_serves None new before after first begun last left result same kept s = tt
  under_serves (Some bytes) None before after first begun last left result same kept s = absurd s
  under_serves (Some bytes) (Some rest) before after first begun last left result same kept s = (
    s.1,
    (
      s.0,
      s.2,
      subst (λ (b : S). Ends MayAnswer bytes s.0 rest b left s.1 result) same
          (subst (λ (e : S). Ends MayAnswer bytes s.0 rest first e s.1 result) (sym kept) s.3),
    ),
    s.4,
  )

-- a note of the session is one of the run
pub noted_then : (old mid new : ℕ) (its : Bool) → mid ≡ old → new ≡ cond its (one_more mid) mid
    → new ≡ cond its (one_more old) old
noted_then old mid new its before noted = noted ∙ ap (λ m. cond its (one_more m) m) before

-- ---- turns
-- the calls of two calls together are within the turns that the first began with
pub turns_within : (a b c s t u most : ℕ) → s ≡ most → CountsTurns a b s t → CountsTurns b c t u
    → a + most < 2 ^ 64 → c ≤ a + most
turns_within a b c s t u most is first second small =
    let same : c + u ≡ a + s =
    turns_then a b c s t u first second (subst (λ (n : ℕ). a + n < 2 ^ 64) (sym is) small) in
    omega (arith, same, is)
