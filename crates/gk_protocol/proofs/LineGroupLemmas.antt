-- A line of a session with the lines that belong to it: answered, cut short, or not read whole.
use Rattle.std.proofs.Common.{◌≡◌, ℕ, ◌+◌, ◌≤◌, Bool, true, false, cond, List, [], ◌∷◌, ◌++◌, length, append_assoc, append-nil, refl, sym, ap, subst, ◌∙◌, ⊎_elim, inl, inr, arith, tests}
use Rattle.std.specs.Prelude.{◌==◌, ◌⊎◌, Option, Some, None, Result, Ok, Err, filter, flat_map}
use Rattle.std.specs.List.{list_any}
use Rattle.gk_terms.specs.Text.{raw_lines_of, content_of}
use Rattle.gk_lines.specs.LineReader.{IsWholeLine, TakesLine}
use Rattle.gk_lines.specs.declared.line_reader.ReadFault.{ReadFault as LineFault}
use Rattle.gk_lines.proofs.LinesTaken.{LinesTaken, one_more_taken, one_more_whole, WholeLinesRead, whole_lines_read}
use Rattle.gk_protocol.specs.declared.request_faults.RequestFault.{RequestFault}
use Rattle.gk_protocol.specs.declared.request_faults.RequestFault.TheVariants.{CutShort}
use Rattle.gk_protocol.specs.declared.requests.Request.{Request}
use Rattle.gk_protocol.specs.declared.answers.Answer.{Answer}
use Rattle.gk_protocol.specs.declared.answers.Answer.TheVariants.{Malformed}
use Rattle.gk_protocol.specs.Answers.{answer_text_of}
use Rattle.gk_protocol.specs.Asking.{Asking, Owns}
use Rattle.gk_protocol.specs.declared.owned_lines.TakenLines.{TakenLines}
use Rattle.gk_protocol.specs.declared.owned_lines.TakenLines.TheVariants as taken
use Rattle.gk_protocol.specs.declared.sessions.Progress.TheVariants.{Blank, Answered, CutShort as Cut}
use Rattle.gk_protocol.specs.Registrations.{no_memory_answer_of}
use Rattle.gk_protocol.specs.Requests.{asking_of, whole_request_of}
use Rattle.gk_protocol.specs.Session.{Asked, asked_in, handed_on, MayGet, Runs, IsWhole, IsStopped, IsCutShort}
use Rattle.gk_protocol.specs.OwnedLines.{TakesLines, GivesLines}
use Rattle.gk_protocol.specs.AnswersLine.{AnswersOwner, AnswersLine}
use Rattle.gk_protocol.proofs.OwnedLemmas.{owner_asks, owner_cut, owner_unended, taken_on, nothing_after, whole_on}
use Rattle.gk_protocol.proofs.SessionUnderWay.{IsUnderWay}
use Rattle.gk_protocol.proofs.RawLineLemmas.{kept_asks, kept_registers, line_asks, blank_asks, blank_lines, answered_lines, answered_at_end, cut_lines}

module _ {S : Type 0} (MayAnswer : S → Request → Answer → S → Type 0) where
  -- memory may run out for some lines
  some_owned : (count : ℕ) (answer : Option Answer) → 1 ≤ count
      → cond (count == 0) None answer ≡ answer
  some_owned count answer some =
      let e : (count == 0) ≡ false = search (arith, tests) in
      ap (λ none. cond none None answer) e

  -- a request with lines is never blank
  never_blank : (lines : TakenLines) (reply : List ℕ) (now new : S) (request : List ℕ → Request)
      (no_memory : Answer)
      → AnswersOwner MayAnswer now request no_memory lines Blank reply new → ⊥
  never_blank (taken.Whole lines) reply now new request no_memory h = h
  never_blank taken.NoMemory reply now new request no_memory h = h
  never_blank taken.CutShort reply now new request no_memory h = h

  -- ---- a line, and the lines that belong to it
  -- what was taken after others asks this one thing, and that is answered by this reply
  record IsAnswered (now_ended : Bool) (bytes next : List ℕ) (before : List (List ℕ)) (now : S)
      (reply : List ℕ) (new : S) : Type 0 where
    pub raws : List (List ℕ)
    pub taken : LinesTaken now_ended bytes next (before ++ raws)
    pub whole : (filter (list_any (λ b. b == 10)) (before ++ raws) ≡ before ++ raws) ⊎ (next ≡ [])
    pub one : Asked
    pub asks : (at_end : Bool) (more : List (List ℕ))
        → asked_in at_end 0 (raws ++ more) ≡ one ∷ asked_in at_end 0 more
    pub answer : Answer
    pub line : reply ≡ answer_text_of answer
    pub get : MayGet MayAnswer now one answer new

  module _ (ended mid_ended now_ended : Bool) (kept bytes rest mid next : List ℕ) (old now : S)
      (text : List ℕ) (count : ℕ) (unended : ended ≡ false)
      (u : IsUnderWay MayAnswer ended bytes rest old now text count)
      (t : TakesLine mid_ended kept rest mid) where
    line_taken : LinesTaken mid_ended bytes mid (u.raws ++ t.raw ∷ [])
    line_taken = one_more_taken ended mid_ended kept bytes rest mid u.raws unended u.taken t

    -- the line and those that belong to it
    group_taken : (raws : List (List ℕ)) → TakesLines mid_ended now_ended raws mid next
        → LinesTaken now_ended bytes next (u.raws ++ t.raw ∷ raws)
    group_taken raws takes =
        subst (λ (r : List (List ℕ)). LinesTaken now_ended bytes next r)
        (append_assoc u.raws (t.raw ∷ []) raws)
        (taken_on mid_ended now_ended bytes mid next (u.raws ++ t.raw ∷ []) raws line_taken takes)

    group_whole : (raws : List (List ℕ)) → TakesLines mid_ended now_ended raws mid next
        → (filter (list_any (λ b. b == 10)) (u.raws ++ t.raw ∷ raws) ≡ u.raws ++ t.raw ∷ raws)
        ⊎ (next ≡ [])
    group_whole raws takes =
        ⊎_elim
        (λ (w : IsWholeLine t.raw).
        subst (λ (r : List (List ℕ)). (filter (list_any (λ b. b == 10)) r ≡ r) ⊎ (next ≡ []))
        (append_assoc u.raws (t.raw ∷ []) raws)
        (whole_on mid_ended now_ended raws mid next (u.raws ++ t.raw ∷ []) takes
        (one_more_whole ended bytes rest u.raws t.raw unended u.taken w)))
        (λ (none : mid ≡ []). inr (nothing_after mid_ended now_ended raws mid next takes none))
        t.last

    -- the line says the same as what is kept of it
    group_asks : (asking : Result (Option Asking) RequestFault)
        → asking_of (content_of kept) ≡ asking → asking_of (content_of t.raw) ≡ asking
    group_asks asking asks = sym (kept_asks mid_ended kept rest mid t) ∙ asks

    -- a line by itself takes no other
    alone : next ≡ mid → now_ended ≡ mid_ended → TakesLines mid_ended now_ended [] mid next
    alone still same_end = ((λ open_still. sym same_end ∙ open_still), still)

    pub blank_group : (reply : List ℕ) (new : S)
        → AnswersLine MayAnswer mid_ended now_ended now (content_of kept) (Ok Blank) reply new
        mid next → IsUnderWay MayAnswer now_ended bytes next old new text count
    blank_group reply new (inl a) =
        blank_lines MayAnswer ended now_ended bytes rest next old now text count u (t.raw ∷ [])
        (group_taken [] (alone a.1 a.2)) new a.0.1
        (blank_asks t.raw (group_asks (Ok None) a.0.0))
    blank_group reply new (inr a) = absurd (never_blank a.4 reply now new a.1 a.2 a.6)

    answered_owner : (reply : List ℕ) (new : S) (owned : ℕ) (request : List ℕ → Request)
        (no_memory : Answer)
        → asking_of (content_of kept) ≡ Ok (Some (Owns owned request no_memory))
        → (lines : TakenLines) → GivesLines mid_ended now_ended owned (Ok lines) mid next
        → AnswersOwner MayAnswer now request no_memory lines Answered reply new
        → IsAnswered now_ended bytes next u.raws now reply new
    answered_owner reply new owned request no_memory asks (taken.Whole lines) gives a = record {
      raws = t.raw ∷ gives.0;
      taken = group_taken gives.0 gives.1;
      whole = group_whole gives.0 gives.1;
      one = record {
        request = Ok (request (flat_map handed_on gives.0));
        no_memory = cond (length gives.0 == 0) None (Some no_memory);
      };
      asks = owner_asks t.raw owned request no_memory gives.0
          (group_asks (Ok (Some (Owns owned request no_memory))) asks) gives.2;
      answer = a.0;
      line = a.2;
      get = inl (subst (λ (text : List ℕ). MayAnswer now (request text) a.0 new) gives.3 a.1);
    }
    answered_owner reply new owned request no_memory asks taken.NoMemory gives a = record {
      raws = t.raw ∷ gives.0;
      taken = group_taken gives.0 gives.1;
      whole = group_whole gives.0 gives.1;
      one = record {
        request = Ok (request (flat_map handed_on gives.0));
        no_memory = cond (length gives.0 == 0) None (Some no_memory);
      };
      asks = owner_asks t.raw owned request no_memory gives.0
          (group_asks (Ok (Some (Owns owned request no_memory))) asks) gives.2;
      answer = no_memory;
      line = a.0;
      get = inr (
        some_owned (length gives.0) (Some no_memory)
            (omega (arith, gives.2, gives.3)),
        a.1,
      );
    }
    answered_owner reply new owned request no_memory asks taken.CutShort gives a = absurd a

    answered_group : (reply : List ℕ) (new : S)
        → AnswersLine MayAnswer mid_ended now_ended now (content_of kept) (Ok Answered) reply new
        mid next → IsAnswered now_ended bytes next u.raws now reply new
    answered_group reply new (inl a) =
        let asked = a.0.2 in
        record {
          raws = t.raw ∷ [];
          taken = group_taken [] (alone a.1 a.2);
          whole = group_whole [] (alone a.1 a.2);
          one = record { request = asked.0; no_memory = no_memory_answer_of (content_of kept) };
          asks = line_asks t.raw asked.0 (no_memory_answer_of (content_of kept))
              (group_asks (whole_request_of asked.0) asked.1)
              (sym (kept_registers mid_ended kept rest mid t));
          answer = a.0.0;
          line = a.0.1;
          get = asked.2;
        }
    answered_group reply new (inr a) = answered_owner reply new a.0 a.1 a.2 a.3 a.4 a.5 a.6

    pub answered_line : (reply : List ℕ) (new : S)
        → AnswersLine MayAnswer mid_ended now_ended now (content_of kept) (Ok Answered) reply new
        mid next
        → IsUnderWay MayAnswer now_ended bytes next old new (text ++ reply) (count + 1)
    answered_line reply new a =
        let g = answered_group reply new a in
        subst (λ (line : List ℕ).
        IsUnderWay MayAnswer now_ended bytes next old new (text ++ line) (count + 1)) (sym g.line)
        (answered_lines MayAnswer ended now_ended bytes rest next old now text count u g.raws
        g.taken g.one g.answer new g.asks g.get)

    -- a line whose reply was not written to its end
    pub cut_line : (reply : List ℕ) (new : S) (written lost : List ℕ)
        → AnswersLine MayAnswer mid_ended now_ended now (content_of kept) (Ok Answered) reply new
        mid next
        → reply ≡ written ++ lost → IsCutShort MayAnswer bytes next old new (text ++ written)
    cut_line reply new written lost a line =
        let g = answered_group reply new a in
        let asks_at : (at_end : Bool) → asked_in at_end 0 g.raws ≡ g.one ∷ [] =
        λ at_end. ap (asked_in at_end 0) (sym (append-nil g.raws)) ∙ g.asks at_end [] in
        cut_lines MayAnswer ended now_ended bytes rest next old now text count u g.raws g.taken
        g.one g.answer new written lost (asks_at true)
        (⊎_elim
        (λ (w : filter (list_any (λ b. b == 10)) (u.raws ++ g.raws) ≡ u.raws ++ g.raws).
        inl (w, asks_at false))
        (λ (none : next ≡ []). inr none) g.whole)
        g.get (sym g.line ∙ line)

    -- a request whose lines are cut short by the end of the input, as this reply says
    record IsCut (reply : List ℕ) (new : S) : Type 0 where
      pub raws : List (List ℕ)
      pub taken : LinesTaken now_ended bytes next (u.raws ++ raws)
      pub asks : asked_in true 0 raws ≡ (record { request = Err CutShort; no_memory = None }) ∷ []
      pub none : next ≡ []
      pub line : reply ≡ answer_text_of (Malformed CutShort)
      pub same : new ≡ now

    cut_owner : (reply : List ℕ) (new : S) (owned : ℕ) (request : List ℕ → Request)
        (no_memory : Answer)
        → asking_of (content_of kept) ≡ Ok (Some (Owns owned request no_memory))
        → (lines : TakenLines) → GivesLines mid_ended now_ended owned (Ok lines) mid next
        → AnswersOwner MayAnswer now request no_memory lines Cut reply new → IsCut reply new
    cut_owner reply new owned request no_memory asks (taken.Whole lines) gives a = absurd a
    cut_owner reply new owned request no_memory asks taken.NoMemory gives a = absurd a
    cut_owner reply new owned request no_memory asks taken.CutShort gives a = record {
      raws = t.raw ∷ gives.0;
      taken = group_taken gives.0 gives.1;
      asks = owner_cut t.raw owned request no_memory gives.0
          (group_asks (Ok (Some (Owns owned request no_memory))) asks) gives.2;
      none = gives.3;
      line = a.0;
      same = a.1;
    }

    cut_group : (reply : List ℕ) (new : S)
        → AnswersLine MayAnswer mid_ended now_ended now (content_of kept) (Ok Cut) reply new
        mid next → IsCut reply new
    cut_group reply new (inl a) = absurd a.0
    cut_group reply new (inr a) = cut_owner reply new a.0 a.1 a.2 a.3 a.4 a.5 a.6

    -- its fault is the last answer
    pub ended_line : (reply : List ℕ) (new : S)
        → AnswersLine MayAnswer mid_ended now_ended now (content_of kept) (Ok Cut) reply new
        mid next
        → (next ≡ []) × IsWhole MayAnswer bytes old new (text ++ reply) (count + 1)
    ended_line reply new a =
        let g = cut_group reply new a in (
          g.none,
          subst (λ (line : List ℕ). IsWhole MayAnswer bytes old new (text ++ line) (count + 1))
              (sym g.line)
              (answered_at_end MayAnswer ended now_ended bytes rest next old now text count u g.raws
              g.taken (record { request = Err CutShort; no_memory = None }) (Malformed CutShort) new
              g.asks g.none (inl (refl, g.same))),
        )

    pub lost_line : (reply : List ℕ) (new : S) (written lost : List ℕ)
        → AnswersLine MayAnswer mid_ended now_ended now (content_of kept) (Ok Cut) reply new
        mid next
        → reply ≡ written ++ lost → IsCutShort MayAnswer bytes next old new (text ++ written)
    lost_line reply new written lost a line =
        let g = cut_group reply new a in
        cut_lines MayAnswer ended now_ended bytes rest next old now text count u g.raws g.taken
        (record { request = Err CutShort; no_memory = None }) (Malformed CutShort) new written lost
        g.asks (inr g.none) (inl (refl, g.same)) (sym g.line ∙ line)

    -- the reader fails within the lines of a request
    pub stopped_within : (fault : LineFault) (reply : List ℕ) (new : S)
        → AnswersLine MayAnswer mid_ended now_ended now (content_of kept) (Err fault) reply new
        mid next → IsStopped MayAnswer bytes next old new text
    stopped_within fault reply new (inl a) = absurd a.0
    stopped_within fault reply new (inr a) =
        let gives = a.5 in
        let owned = gives.0 in
        let raws : List (List ℕ) = u.raws ++ t.raw ∷ owned in
        let lines : LinesTaken gives.2 bytes gives.1 raws =
        subst (λ (r : List (List ℕ)). LinesTaken gives.2 bytes gives.1 r)
        (append_assoc u.raws (t.raw ∷ []) owned)
        (taken_on mid_ended gives.2 bytes mid gives.1 (u.raws ++ t.raw ∷ []) owned line_taken
        gives.3) in
        let read : WholeLinesRead bytes next raws =
        whole_lines_read gives.2 bytes gives.1 next raws gives.4 lines gives.6 in
        let unasked : asked_in false 0 (t.raw ∷ owned) ≡ [] =
        owner_unended t.raw a.0 a.1 a.2 owned (group_asks (Ok (Some (Owns a.0 a.1 a.2))) a.3)
        gives.5 in
        let asked : asked_in false 0 (filter (list_any (λ b. b == 10)) (raw_lines_of read.read))
        ≡ u.asked =
        ap (asked_in false 0) read.whole ∙ u.settled false (t.raw ∷ owned)
        ∙ ap (λ b. u.asked ++ b) unasked ∙ append-nil u.asked in
        record {
          read = read.read;
          split = read.split;
          runs = subst (λ (b : List Asked). Runs MayAnswer old b text new) (sym asked)
              (subst (λ (s : S). Runs MayAnswer old u.asked text s) (sym a.4) u.runs);
        }
