-- Lines that belong to a request: taken one after another, and what they and the line before them
-- ask.
use Rattle.std.proofs.Common.{◌≡◌, ◌⊎◌, ℕ, zero, suc, ◌+◌, ◌<◌, ◌≤◌, Bool, true, false, cond, List, [], ◌∷◌, ◌++◌, length, take, refl, sym, ap, subst, ◌∙◌, append_assoc, append-nil, length-append, ⊎_elim, inl, inr, arith}
use Rattle.std.specs.Prelude.{◌==◌, nat_le, Option, Some, None, Result, Ok, Err, filter, flat_map}
use Rattle.std.specs.List.{list_any}
use Rattle.std.specs.Io.KnownBytes.{Keeps, IsAtEnd}
use Rattle.std.proofs.Math.Seq.{take-append_seam}
use Rattle.std.proofs.lemmas.Bool.{le-leb, lt-leb}
use Rattle.std.proofs.lemmas.List.Elements.{filter-append}
use Rattle.std.proofs.lemmas.Grind.{flat_map-append}
use Rattle.gk_terms.specs.Text.{raw_lines_of, content_of}
use Rattle.gk_lines.specs.Streams.{KnownStep}
use Rattle.gk_lines.specs.LineReader.{IsWholeLine, TakesLine, TakesPart}
use Rattle.gk_lines.specs.declared.line_reader.ReadFault.{ReadFault}
use Rattle.gk_lines.proofs.LinesRead.{whole_line_has_feed}
use Rattle.gk_lines.proofs.LinesTaken.{LinesTaken, one_more_taken}
use Rattle.gk_protocol.specs.declared.request_faults.RequestFault.{RequestFault}
use Rattle.gk_protocol.specs.declared.request_faults.RequestFault.TheVariants.{CutShort}
use Rattle.gk_protocol.specs.declared.requests.Request.{Request}
use Rattle.gk_protocol.specs.Asking.{Asking, Owns}
use Rattle.gk_protocol.specs.declared.answers.Answer.{Answer}
use Rattle.gk_protocol.specs.declared.owned_lines.TakenLines.TheVariants as taken
use Rattle.gk_protocol.specs.Registrations.{no_memory_answer_of}
use Rattle.gk_protocol.specs.Requests.{asking_of}
use Rattle.gk_protocol.specs.Session.{Asked, asked_by, asked_in, lines_owned, handed_on}
use Rattle.gk_protocol.specs.OwnedLines.{TakesLines, HandsOn, GivesLines}
use Rattle.gk_protocol.proofs.HandedLemmas.{kept_handed}

-- ---- what is asked
-- the lines that belong to a request ask nothing
owned_passed : (at_end : Bool) (raws more : List (List ℕ)) → asked_in at_end (length raws)
    (raws ++ more) ≡ asked_in at_end 0 more
owned_passed at_end [] more = refl
owned_passed at_end (raw ∷ raws) more = owned_passed at_end raws more

few_owned : (at_end : Bool) (count : ℕ) (raws : List (List ℕ)) → length raws < count → asked_in
    at_end count raws ≡ []
few_owned at_end count [] few = refl
few_owned at_end zero (raw ∷ raws) few = absurd (omega (arith, few))
few_owned at_end (suc count) (raw ∷ raws) few = few_owned at_end count raws (omega (arith, few))

-- a request with its lines, by whether they are all there
owner_by : Bool → Bool → ℕ → (List ℕ → Request) → Answer → List (List ℕ) → List Asked
owner_by at_end all count request no_memory raws =
    cond all
    ((record {
      request = Ok (request (flat_map handed_on raws));
      no_memory = cond
          (count == 0) None (Some no_memory);
    }) ∷ [])
    (cond at_end ((record { request = Err CutShort; no_memory = None }) ∷ []) [])

-- what a line asks with the lines after it
asks_with : Bool → Option Answer → List (List ℕ) → Result (Option Asking) RequestFault → List Asked
asks_with at_end no_memory raws asking = asked_by at_end no_memory raws asking ++ asked_in at_end
    (lines_owned asking) raws

module _ (raw : List ℕ) (count : ℕ) (request : List ℕ → Request) (no_memory : Answer)
    (raws : List (List ℕ))
    (asks : asking_of (content_of raw) ≡ Ok (Some (Owns count request no_memory))) where
  -- with all its lines
  pub owner_asks : length raws ≡ count → (at_end : Bool) (more : List (List ℕ))
      → asked_in at_end 0 ((raw ∷ raws) ++ more)
      ≡ (record {
        request = Ok (request (flat_map handed_on raws));
        no_memory = cond
            (length raws == 0) None (Some no_memory);
      }) ∷ asked_in at_end 0 more
  unfolding owner_by asks_with
  owner_asks counted at_end more =
      let size : ℕ = length raws in
      let asks_so : asking_of (content_of raw) ≡ Ok (Some (Owns size request no_memory)) = subst
      (λ (n : ℕ). asking_of (content_of raw) ≡ Ok (Some (Owns n request no_memory)))
      (sym counted) asks
      in
      let enough : nat_le size (length (raws ++ more)) ≡ true = le-leb size (length (raws ++ more))
      (omega (arith, length-append raws more)) in
      ap (asks_with at_end (no_memory_answer_of (content_of raw)) (raws ++ more)) asks_so
      ∙ ap (λ all. owner_by at_end all size request no_memory (take size (raws ++ more))
      ++ asked_in at_end size (raws ++ more)) enough
      ∙ ap (λ texts. owner_by at_end true size request no_memory texts
      ++ asked_in at_end size (raws ++ more))
      (take-append_seam raws more)
      ∙ ap (λ others. owner_by at_end true size request no_memory raws ++ others)
      (owned_passed at_end raws more)

  -- with too few
  owner_lacks : length raws < count
      → (at_end : Bool) → asked_in at_end 0 (raw ∷ raws)
      ≡ owner_by at_end false count request no_memory raws
  unfolding owner_by asks_with
  owner_lacks few at_end =
      ap (asks_with at_end (no_memory_answer_of (content_of raw)) raws) asks
      ∙ ap (λ all. owner_by at_end all count request no_memory (take count raws)
      ++ asked_in at_end count raws) (lt-leb count (length raws) few)
      ∙ ap (λ others. owner_by at_end false count request no_memory raws ++ others)
      (few_owned at_end count raws few)
      ∙ append-nil (owner_by at_end false count request no_memory raws)

  -- at the end of the input they are cut short
  pub owner_cut : length raws < count
      → asked_in true 0 (raw ∷ raws) ≡ (record { request = Err CutShort; no_memory = None }) ∷ []
  unfolding owner_by
  owner_cut few = owner_lacks few true

  -- and before it nothing is asked
  pub owner_unended : length raws < count → asked_in false 0 (raw ∷ raws) ≡ []
  unfolding owner_by
  owner_unended few = owner_lacks few false

-- ---- lines that are taken
-- after other lines
pub taken_on : (ended now_ended : Bool) (bytes rest next : List ℕ) (raws more : List (List ℕ)) →
    LinesTaken ended bytes rest raws → TakesLines ended now_ended more rest next
    → LinesTaken now_ended bytes next (raws ++ more)
taken_on ended now_ended bytes rest next raws [] l t =
    let same : raws ≡ raws ++ [] = sym (append-nil raws) in
    record {
      read = l.read;
      split = l.split ∙ ap (λ r. l.read ++ r) (sym t.1);
      read_lines = l.read_lines ∙ same;
      joins = λ still others. l.joins (t.0 still) others ∙ ap (λ r. r ++ raw_lines_of others) same;
      feeds = λ still. ap (filter (list_any (λ b. b == 10))) (sym same) ∙ l.feeds (t.0 still) ∙
          same;
    }
taken_on ended now_ended bytes rest next raws (raw ∷ more) l t =
    let one : LinesTaken t.3 bytes t.2 (raws ++ raw ∷ []) =
    subst (λ (r : List ℕ). LinesTaken t.3 bytes t.2 (raws ++ r ∷ [])) t.5
    (one_more_taken ended t.3 t.1 bytes rest t.2 raws t.0 l t.4) in
    subst (λ (r : List (List ℕ)). LinesTaken now_ended bytes next r)
    (append_assoc raws (raw ∷ []) more) (taken_on t.3 now_ended bytes t.2 next
    (raws ++ raw ∷ []) more one t.6)

-- none is taken off nothing
pub nothing_after : (ended now_ended : Bool) (raws : List (List ℕ)) (bytes rest : List ℕ) →
    TakesLines ended now_ended raws bytes rest → bytes ≡ [] → rest ≡ []
nothing_after ended now_ended [] bytes rest t none = t.1 ∙ none
nothing_after ended now_ended (raw ∷ raws) bytes rest t none =
    let line = t.4 in
    let impossible : [] ≡ line.raw ∷ raw_lines_of t.2 = sym (ap raw_lines_of none) ∙ line.first in
    let no_such : ⊥ = cc in absurd no_such

-- each has its line feed, or nothing is left
pub whole_on : (ended now_ended : Bool) (more : List (List ℕ)) (rest next : List ℕ)
    (raws : List (List ℕ)) → TakesLines ended now_ended more rest next
    → filter (list_any (λ b. b == 10)) raws ≡ raws → (filter (list_any (λ b. b == 10))
    (raws ++ more) ≡ raws ++ more) ⊎ (next ≡ [])
whole_on ended now_ended [] rest next raws t feeds =
    let same : raws ≡ raws ++ [] = sym (append-nil raws) in
    inl (ap (filter (list_any (λ b. b == 10))) (sym same) ∙ feeds ∙ same)
whole_on ended now_ended (raw ∷ more) rest next raws t feeds =
    let line = t.4 in
    ⊎_elim
    (λ (whole : IsWholeLine line.raw).
    let feed : list_any (λ b. b == 10) raw ≡ true = ap (list_any (λ b. b == 10)) (sym t.5) ∙
    whole_line_has_feed line.raw whole in
    let one : filter (list_any (λ b. b == 10)) (raws ++ raw ∷ []) ≡ raws ++ raw ∷ [] =
    filter-append (list_any (λ b. b == 10)) raws (raw ∷ []) ∙ ap
    (λ r. r ++ filter (list_any (λ b. b == 10)) (raw ∷ [])) feeds ∙ ap
    (λ b. raws ++ cond b (raw ∷ []) []) feed in
    subst (λ (r : List (List ℕ)). (filter (list_any (λ b. b == 10)) r ≡ r) ⊎ (next ≡ []))
    (append_assoc raws (raw ∷ []) more) (whole_on t.3 now_ended more t.2 next (raws ++ raw ∷ [])
    t.6 one))
    (λ (none : t.2 ≡ []). inr (nothing_after t.3 now_ended more t.2 next t.6 none))
    line.last

-- one more line after those
one_more : (ended mid_ended now_ended : Bool) (kept : List ℕ) (raws : List (List ℕ))
    (bytes mid rest : List ℕ) → TakesLines ended mid_ended raws bytes mid → mid_ended ≡ false
    → (t : TakesLine now_ended kept mid rest) → TakesLines ended now_ended (raws ++ t.raw ∷ [])
    bytes rest
one_more ended mid_ended now_ended kept [] bytes mid rest l unended t =
    let here : TakesLines ended now_ended (t.raw ∷ []) mid rest =
    (l.0 unended, kept, rest, now_ended, t, refl, ((λ still. still), refl)) in
    subst (λ (b : List ℕ). TakesLines ended now_ended (t.raw ∷ []) b rest) l.1 here
one_more ended mid_ended now_ended kept (raw ∷ raws) bytes mid rest l unended t = (
  l.0,
  l.1,
  l.2,
  l.3,
  l.4,
  l.5,
  one_more l.3 mid_ended now_ended kept raws l.2 mid rest l.6
      unended t,
)

-- the input came to its end after those, or not
still_taken : (ended mid_ended now_ended : Bool) (raws : List (List ℕ)) (bytes mid rest : List ℕ) →
    TakesLines ended mid_ended raws bytes mid → (now_ended ≡ false → mid_ended ≡ false) → rest ≡ mid
    → TakesLines ended now_ended raws bytes rest
still_taken ended mid_ended now_ended [] bytes mid rest l ends same =
    (λ still. l.0 (ends still), same ∙ l.1)
still_taken ended mid_ended now_ended (raw ∷ raws) bytes mid rest l ends same = (
  l.0,
  l.1,
  l.2,
  l.3,
  l.4,
  l.5,
  still_taken l.3 mid_ended now_ended raws l.2 mid rest l.6 ends
      same,
)

-- ---- the loop that takes them
-- what was handed on of the lines that were taken, unless memory ran out for one of them
abbrev pub IsTextOf : Option (List ℕ) → List (List ℕ) → Type 0
IsTextOf None raws = 1 ≤ length raws
IsTextOf (Some text) raws = text ≡ flat_map handed_on raws

-- so many lines were taken
pub record LinesUnderWay (ended now_ended : Bool) (count : ℕ) (owned : Option (List ℕ))
    (bytes rest : List ℕ) : Type 0 where
  pub raws : List (List ℕ)
  pub takes : TakesLines ended now_ended raws bytes rest
  pub counted : length raws ≡ count
  pub text : IsTextOf owned raws

pub lines_begin : (known : Option (List ℕ)) (ended : Bool) → KnownStep known known
    (LinesUnderWay ended ended 0 (Some []))
lines_begin None ended = tt
lines_begin (Some bytes) ended = record {
  raws = [];
  takes = (λ still. still, refl);
  counted = refl;
  text = refl;
}

text_with : (before after : Option (List ℕ)) (raws : List (List ℕ)) (raw kept : List ℕ) → IsTextOf
    before raws → HandsOn before kept after → handed_on kept ≡ handed_on raw → IsTextOf after
    (raws ++ raw ∷ [])
text_with before None raws raw kept text hands same = omega (arith, length-append raws (raw ∷ []))
text_with None (Some after) raws raw kept text hands same = absurd hands
text_with (Some before) (Some after) raws raw kept text hands same =
    hands ∙ ap (λ t. t ++ handed_on kept) text ∙ ap (λ t. flat_map handed_on raws ++ t)
    (same ∙ sym (append-nil (handed_on raw)))
    ∙ sym (flat_map-append handed_on raws (raw ∷ []))

-- one more
pub lines_go_on : (known mid rest : Option (List ℕ)) (ended mid_ended now_ended : Bool)
    (kept : List ℕ) (count : ℕ) (before after : Option (List ℕ)) → mid_ended ≡ false
    → KnownStep known mid (LinesUnderWay ended mid_ended count before) → KnownStep mid rest
    (TakesLine now_ended kept) → HandsOn before kept after
    → KnownStep known rest (LinesUnderWay ended now_ended (count + 1) after)
lines_go_on None mid rest ended mid_ended now_ended kept count before after unended l t hands = tt
lines_go_on (Some bytes) None rest ended mid_ended now_ended kept count before after unended l t
    hands = absurd l
lines_go_on (Some bytes) (Some mid) None ended mid_ended now_ended kept count before after unended l
    t hands = absurd t
lines_go_on (Some bytes) (Some mid) (Some rest) ended mid_ended now_ended kept count before after
    unended l t hands = record {
      raws = l.raws ++ t.raw ∷ [];
      takes = one_more ended mid_ended now_ended kept l.raws bytes mid rest l.takes unended t;
      counted = omega (arith, l.counted, length-append l.raws (t.raw ∷ []));
      text = text_with before after l.raws t.raw kept l.text hands
          (kept_handed now_ended kept mid rest t);
    }

-- all of them, kept or not
pub lines_whole : (known rest : Option (List ℕ)) (ended now_ended : Bool) (count : ℕ)
    (text : List ℕ) → KnownStep known rest (LinesUnderWay ended now_ended count (Some text))
    → KnownStep known rest (GivesLines ended now_ended count (Ok (taken.Whole text)))
lines_whole None rest ended now_ended count text l = tt
lines_whole (Some bytes) None ended now_ended count text l = absurd l
lines_whole (Some bytes) (Some rest) ended now_ended count text l =
    (l.raws, l.takes, l.counted, l.text)

pub lines_lost : (known rest : Option (List ℕ)) (ended now_ended : Bool) (count : ℕ) → KnownStep
    known rest (LinesUnderWay ended now_ended count None)
    → KnownStep known rest (GivesLines ended now_ended count (Ok taken.NoMemory))
lines_lost None rest ended now_ended count l = tt
lines_lost (Some bytes) None ended now_ended count l = absurd l
lines_lost (Some bytes) (Some rest) ended now_ended count l =
    (l.raws, l.takes, l.counted, omega (arith, l.text, l.counted))

-- the input ends before that
pub lines_cut : (known mid rest : Option (List ℕ)) (ended mid_ended now_ended : Bool)
    (before count : ℕ) (owned : Option (List ℕ)) → before < count
    → KnownStep known mid (LinesUnderWay ended mid_ended before owned) → Keeps mid rest → IsAtEnd
    mid → (now_ended ≡ false → mid_ended ≡ false)
    → KnownStep known rest (GivesLines ended now_ended count (Ok taken.CutShort))
lines_cut None mid rest ended mid_ended now_ended before count owned few l same end ends = tt
lines_cut (Some bytes) None rest ended mid_ended now_ended before count owned few l same end ends =
    absurd l
lines_cut (Some bytes) (Some mid) None ended mid_ended now_ended before count owned few l same end
    ends = absurd same
lines_cut (Some bytes) (Some mid) (Some rest) ended mid_ended now_ended before count owned few l
    same end ends = (
      l.raws,
      still_taken ended mid_ended now_ended l.raws bytes mid rest l.takes ends same,
      omega
          (arith, few, l.counted),
      same ∙ end,
    )

-- a fault of the reader before that
pub lines_stop : (known mid rest : Option (List ℕ)) (ended mid_ended now_ended : Bool)
    (before count : ℕ) (owned : Option (List ℕ)) (fault : ReadFault) → before < count
    → KnownStep known mid (LinesUnderWay ended mid_ended before owned) → KnownStep mid rest
    TakesPart → mid_ended ≡ false
    → KnownStep known rest (GivesLines ended now_ended count (Err fault))
lines_stop None mid rest ended mid_ended now_ended before count owned fault few l part unended = tt
lines_stop (Some bytes) None rest ended mid_ended now_ended before count owned fault few l part
    unended = absurd l
lines_stop (Some bytes) (Some mid) None ended mid_ended now_ended before count owned fault few l
    part unended = absurd part
lines_stop (Some bytes) (Some mid) (Some rest) ended mid_ended now_ended before count owned fault
    few l part unended =
    (l.raws, mid, mid_ended, l.takes, unended, omega (arith, few, l.counted), part)
