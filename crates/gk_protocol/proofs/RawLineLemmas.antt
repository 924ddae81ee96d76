-- Raw lines of a session: what they ask, and the session that has answered them.
use Rattle.std.proofs.Common.{◌≡◌, ℕ, ◌+◌, Bool, true, false, cond, List, [], ◌∷◌, ◌++◌, length, append_assoc, append-nil, length-append, refl, sym, ap, subst, ◌∙◌, ⊎_elim, inl, inr, arith}
use Rattle.std.specs.Prelude.{◌==◌, ◌⊎◌, Option, None, Result, Ok, Err, option_map, filter}
use Rattle.std.specs.List.{list_any}
use Rattle.gk_terms.specs.Text.{content_of, words_of, is_too_long}
use Rattle.gk_lines.specs.LineReader.{TakesLine}
use Rattle.gk_lines.proofs.KeptLines.{TakesLine-says_same, same_of_kept}
use Rattle.gk_lines.proofs.LinesTaken.{LinesTaken, all_taken}
use Rattle.gk_protocol.specs.declared.request_faults.RequestFault.{RequestFault}
use Rattle.gk_protocol.specs.declared.request_faults.RequestFault.TheVariants.{LineTooLong}
use Rattle.gk_protocol.specs.declared.requests.Request.{Request}
use Rattle.gk_protocol.specs.declared.answers.Answer.{Answer}
use Rattle.gk_protocol.specs.Answers.{answer_text_of}
use Rattle.gk_protocol.specs.Asking.{Asking}
use Rattle.gk_protocol.specs.Registrations.{registering_of, registering_by_word, no_memory_to, no_memory_answer_of}
use Rattle.gk_protocol.specs.Requests.{asking_of, asking_at, whole_request_of}
use Rattle.gk_protocol.specs.Session.{Asked, asked_by, asked_in, lines_owned, requests_of, MayGet, Runs, IsWhole, IsCutShort}
use Rattle.gk_protocol.proofs.SessionUnderWay.{IsUnderWay}

-- ---- what is kept of a line asks what the line asks
long_asks : (line : List ℕ) → is_too_long line ≡ true → asking_of line ≡ Err LineTooLong
unfolding asking_of
long_asks line h = ap (λ t. cond t (Err LineTooLong) (asking_at (words_of line))) h

long_registers_none : (line : List ℕ) → is_too_long line ≡ true → registering_of line ≡ None
unfolding registering_of
long_registers_none line h = ap (λ t. cond t None (registering_by_word (words_of line))) h

pub kept_asks : (ended : Bool) (kept bytes rest : List ℕ) (t : TakesLine ended kept bytes rest)
    → asking_of (content_of kept) ≡ asking_of (content_of t.raw)
kept_asks ended kept bytes rest t =
    same_of_kept asking_of (Err LineTooLong) long_asks kept t.raw
    (TakesLine-says_same ended kept bytes rest t)

pub kept_registers : (ended : Bool) (kept bytes rest : List ℕ) (t : TakesLine ended kept bytes rest)
    → no_memory_answer_of (content_of kept) ≡ no_memory_answer_of (content_of t.raw)
kept_registers ended kept bytes rest t =
    ap (option_map no_memory_to)
    (same_of_kept registering_of None long_registers_none kept t.raw
    (TakesLine-says_same ended kept bytes rest t))

-- ---- what a line adds to the requests
-- a request or a fault, whatever follows
one_asked : (request : Result Request RequestFault) (no_memory : Option Answer) (at_end : Bool)
    (raws : List (List ℕ))
    → asked_by at_end no_memory raws (whole_request_of request)
    ++ asked_in at_end (lines_owned (whole_request_of request)) raws
    ≡ (record { request = request; no_memory = no_memory }) ∷ asked_in at_end 0 raws
one_asked (Ok request) no_memory at_end raws = refl
one_asked (Err fault) no_memory at_end raws = refl

pub line_asks : (raw : List ℕ) (request : Result Request RequestFault) (no_memory : Option Answer)
    → asking_of (content_of raw) ≡ whole_request_of request
    → no_memory_answer_of (content_of raw) ≡ no_memory
    → (at_end : Bool) (raws : List (List ℕ))
    → asked_in at_end 0 (raw ∷ raws)
    ≡ (record { request = request; no_memory = no_memory }) ∷ asked_in at_end 0 raws
line_asks raw request no_memory asks lacks at_end raws =
    let by : Result (Option Asking) RequestFault → Option Answer → List Asked =
    λ asking answer.
    asked_by at_end answer raws asking ++ asked_in at_end (lines_owned asking) raws in
    ap (λ asking. by asking (no_memory_answer_of (content_of raw))) asks
    ∙ ap (by (whole_request_of request)) lacks ∙ one_asked request no_memory at_end raws

pub blank_asks : (raw : List ℕ) → asking_of (content_of raw) ≡ Ok None
    → (at_end : Bool) (raws : List (List ℕ))
    → asked_in at_end 0 (raw ∷ raws) ≡ asked_in at_end 0 raws
blank_asks raw asks at_end raws =
    ap (λ asking. asked_by at_end (no_memory_answer_of (content_of raw)) raws asking
    ++ asked_in at_end (lines_owned asking) raws) asks

module _ {S : Type 0} (MayAnswer : S → Request → Answer → S → Type 0) where
  -- one more reply
  runs_then : (old mid new : S) (asked : List Asked) (one : Asked) (text : List ℕ) (answer : Answer)
      → Runs MayAnswer old asked text mid → MayGet MayAnswer mid one answer new
      → Runs MayAnswer old (asked ++ one ∷ []) (text ++ answer_text_of answer) new
  runs_then old mid new [] one text answer runs get =
      let same : mid ≡ old = runs.1 in
      let first : MayGet MayAnswer old one answer new =
      subst (λ (s : S). MayGet MayAnswer s one answer new) same get in (
        answer,
        [],
        new,
        first,
        (refl, refl),
        ap (λ t. t ++ answer_text_of answer) runs.0 ∙ sym (append-nil (answer_text_of answer)),
      )
  runs_then old mid new (a ∷ others) one text answer runs get = (
    runs.0,
    runs.1 ++ answer_text_of answer,
    runs.2,
    runs.3,
    runs_then runs.2 mid new others one runs.1 answer runs.4 get,
    ap (λ t. t ++ answer_text_of answer) runs.5 ∙ append_assoc (answer_text_of runs.0) runs.1
        (answer_text_of answer),
  )

  -- ---- raw lines that were taken, and what they ask
  module _ (ended now_ended : Bool) (bytes rest next : List ℕ) (old now : S) (text : List ℕ)
      (count : ℕ) (u : IsUnderWay MayAnswer ended bytes rest old now text count)
      (raws : List (List ℕ))
      (taken : LinesTaken now_ended bytes next (u.raws ++ raws)) where
    lines_settled : (here : List Asked)
        → ((at_end : Bool) (more : List (List ℕ))
        → asked_in at_end 0 (raws ++ more) ≡ here ++ asked_in at_end 0 more)
        → (at_end : Bool) (more : List (List ℕ))
        → asked_in at_end 0 ((u.raws ++ raws) ++ more) ≡ (u.asked ++ here) ++ asked_in at_end 0 more
    lines_settled here asks at_end more =
        ap (asked_in at_end 0) (append_assoc u.raws raws more) ∙ u.settled at_end (raws ++ more)
        ∙ ap (λ a. u.asked ++ a) (asks at_end more)
        ∙ sym (append_assoc u.asked here (asked_in at_end 0 more))

    -- they ask nothing
    pub blank_lines : (new : S) → new ≡ now
        → ((at_end : Bool) (more : List (List ℕ))
        → asked_in at_end 0 (raws ++ more) ≡ asked_in at_end 0 more)
        → IsUnderWay MayAnswer now_ended bytes next old new text count
    blank_lines new same asks = record {
      raws = u.raws ++ raws;
      taken = taken;
      asked = u.asked ++ [];
      settled = lines_settled [] asks;
      runs = subst (λ (asked : List Asked). Runs MayAnswer old asked text new)
          (sym (append-nil u.asked))
          (subst (λ (s : S). Runs MayAnswer old u.asked text s) (sym same) u.runs);
      counted = u.counted ∙ ap length (sym (append-nil u.asked));
    }

    -- they ask one thing, which is answered
    pub answered_lines : (one : Asked) (answer : Answer) (new : S)
        → ((at_end : Bool) (more : List (List ℕ))
        → asked_in at_end 0 (raws ++ more) ≡ one ∷ asked_in at_end 0 more)
        → MayGet MayAnswer now one answer new
        → IsUnderWay MayAnswer now_ended bytes next old new (text ++ answer_text_of answer) (count +
        1)
    answered_lines one answer new asks get = record {
      raws = u.raws ++ raws;
      taken = taken;
      asked = u.asked ++ one ∷ [];
      settled = lines_settled (one ∷ []) asks;
      runs = runs_then old now new u.asked one text answer u.runs get;
      counted = omega (arith, u.counted, length-append u.asked (one ∷ []));
    }

    -- what is asked at the end of the input
    asked_at_end : (one : Asked) → asked_in true 0 raws ≡ one ∷ []
        → asked_in true 0 (u.raws ++ raws) ≡ u.asked ++ one ∷ []
    asked_at_end one asks = u.settled true raws ∙ ap (λ a. u.asked ++ a) asks

    -- they ask one thing at the end of the input, which is answered
    pub answered_at_end : (one : Asked) (answer : Answer) (new : S)
        → asked_in true 0 raws ≡ one ∷ [] → next ≡ []
        → MayGet MayAnswer now one answer new
        → IsWhole MayAnswer bytes old new (text ++ answer_text_of answer) (count + 1)
    answered_at_end one answer new asks none get =
        let asked : requests_of bytes ≡ u.asked ++ one ∷ [] =
        ap (asked_in true 0) (all_taken now_ended bytes next (u.raws ++ raws) taken none)
        ∙ asked_at_end one asks in
        record {
          runs = subst (λ (a : List Asked). Runs MayAnswer old a (text ++ answer_text_of answer)
              new)
              (sym asked) (runs_then old now new u.asked one text answer u.runs get);
          counted = omega (arith, u.counted, length-append u.asked (one ∷ []), ap length asked);
        }

    -- they ask one thing, whose reply was not written to its end
    pub cut_lines : (one : Asked) (answer : Answer) (new : S) (written lost : List ℕ)
        → asked_in true 0 raws ≡ one ∷ []
        → ((filter (list_any (λ b. b == 10)) (u.raws ++ raws) ≡ u.raws ++ raws)
        × (asked_in false 0 raws ≡ one ∷ [])) ⊎ (next ≡ [])
        → MayGet MayAnswer now one answer new → answer_text_of answer ≡ written ++ lost
        → IsCutShort MayAnswer bytes next old new (text ++ written)
    cut_lines one answer new written lost asks whole get line = record {
      read = taken.read;
      split = taken.split;
      earlier = u.asked;
      last = one;
      whole = ⊎_elim
          (λ (w : (filter (list_any (λ b. b == 10)) (u.raws ++ raws) ≡ u.raws ++ raws)
          × (asked_in false 0 raws ≡ one ∷ [])).
          inl
          (ap (λ lines. asked_in false 0 (filter (list_any (λ b. b == 10)) lines)) taken.read_lines
          ∙ ap (asked_in false 0) w.0 ∙ u.settled false raws ∙ ap (λ a. u.asked ++ a) w.1
          ∙ sym (asked_at_end one asks) ∙ ap (asked_in true 0) (sym taken.read_lines)))
          (λ (none : next ≡ []). inr none) whole;
      asked = ap (asked_in true 0) taken.read_lines ∙ asked_at_end one asks;
      replies = text;
      mid = now;
      runs = u.runs;
      answer = answer;
      answered = get;
      written = written;
      lost = lost;
      line = line;
      text_is = refl;
    }
