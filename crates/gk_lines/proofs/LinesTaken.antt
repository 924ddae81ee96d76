-- Lines that were taken one after another.
use Rattle.std.proofs.Common.{◌≡◌, ℕ, Bool, false, cond, List, [], ◌∷◌, ◌++◌, refl, sym, ap, ◌∙◌, append_assoc, append-nil}
use Rattle.std.specs.Prelude.{◌==◌, filter}
use Rattle.std.specs.List.{list_any}
use Rattle.std.proofs.lemmas.List.Elements.{filter-append}
use Rattle.gk_terms.specs.Text.{raw_lines_of}
use Rattle.gk_lines.specs.LineReader.{IsWholeLine, TakesLine, TakesPart}
use Rattle.gk_lines.proofs.LinesRead.{whole_line_first, whole_line_has_feed, part_has_none}

-- these raw lines were taken off the bytes, and this rest is left. Unless the input came to its end, each of them has its
-- line feed, so nothing of what follows belongs to them
pub record LinesTaken (ended : Bool) (bytes rest : List ℕ) (raws : List (List ℕ)) : Type 0 where
  pub read : List ℕ
  pub split : bytes ≡ read ++ rest
  pub read_lines : raw_lines_of read ≡ raws
  pub joins : ended ≡ false → (more : List ℕ) → raw_lines_of (read ++ more) ≡ raws ++ raw_lines_of
      more
  pub feeds : ended ≡ false → filter (list_any (λ b. b == 10)) raws ≡ raws

pub none_taken : (ended : Bool) (bytes : List ℕ) → LinesTaken ended bytes bytes []
none_taken ended bytes = record {
  read = [];
  split = refl;
  read_lines = refl;
  joins = λ _ more.
      refl;
  feeds = λ _. refl;
}

-- one more line
pub one_more_taken : (ended next_ended : Bool) (kept bytes rest next : List ℕ)
    (raws : List (List ℕ)) → ended ≡ false → LinesTaken ended bytes rest raws
    → (t : TakesLine next_ended kept rest next) → LinesTaken next_ended bytes next
    (raws ++ t.raw ∷ [])
one_more_taken ended next_ended kept bytes rest next raws unended l t = record {
  read = l.read ++ t.raw;
  split = l.split ∙ ap (λ r. l.read ++ r) t.split ∙ sym (append_assoc l.read t.raw next);
  read_lines = l.joins unended t.raw ∙ ap (λ r. raws ++ r) t.alone;
  joins = λ still more.
      ap raw_lines_of (append_assoc l.read t.raw more) ∙ l.joins unended (t.raw ++ more)
      ∙ ap (λ r. raws ++ r) (whole_line_first t.raw more (t.whole still))
      ∙ sym (append_assoc raws (t.raw ∷ []) (raw_lines_of more));
  feeds = λ still.
      filter-append (list_any (λ b. b == 10)) raws (t.raw ∷ [])
      ∙ ap (λ r. r ++ filter (list_any (λ b. b == 10)) (t.raw ∷ [])) (l.feeds unended)
      ∙ ap (λ b. raws ++ cond b (t.raw ∷ []) []) (whole_line_has_feed t.raw (t.whole still));
}

-- with one more whole line each has its line feed
pub one_more_whole : (ended : Bool) (bytes rest : List ℕ) (raws : List (List ℕ)) (raw : List ℕ) →
    ended ≡ false → LinesTaken ended bytes rest raws → IsWholeLine raw
    → filter (list_any (λ b. b == 10)) (raws ++ raw ∷ []) ≡ raws ++ raw ∷ []
one_more_whole ended bytes rest raws raw unended l whole =
    filter-append (list_any (λ b. b == 10)) raws (raw ∷ [])
    ∙ ap (λ r. r ++ filter (list_any (λ b. b == 10)) (raw ∷ [])) (l.feeds unended)
    ∙ ap (λ b. raws ++ cond b (raw ∷ []) []) (whole_line_has_feed raw whole)

-- at the end of the input they are all lines
pub all_taken : (ended : Bool) (bytes rest : List ℕ) (raws : List (List ℕ)) → LinesTaken ended bytes
    rest raws → rest ≡ [] → raw_lines_of bytes ≡ raws
all_taken ended bytes rest raws l none =
    ap raw_lines_of (l.split ∙ ap (λ r. l.read ++ r) none ∙ append-nil l.read) ∙ l.read_lines

-- at a fault they are the whole lines of what was read
pub record WholeLinesRead (bytes rest : List ℕ) (raws : List (List ℕ)) : Type 0 where
  pub read : List ℕ
  pub split : bytes ≡ read ++ rest
  pub whole : filter (list_any (λ b. b == 10)) (raw_lines_of read) ≡ raws

pub whole_lines_read : (ended : Bool) (bytes rest next : List ℕ) (raws : List (List ℕ)) → ended ≡
    false → LinesTaken ended bytes rest raws → TakesPart rest next → WholeLinesRead bytes next raws
whole_lines_read ended bytes rest next raws unended l part = record {
  read = l.read ++ part.0;
  split = l.split ∙ ap (λ r. l.read ++ r) part.2 ∙ sym (append_assoc l.read part.0 next);
  whole = ap (filter (list_any (λ b. b == 10))) (l.joins unended part.0)
      ∙ filter-append (list_any (λ b. b == 10)) raws (raw_lines_of part.0)
      ∙ ap (λ r. filter (list_any (λ b. b == 10)) raws ++ r) (part_has_none part.0 part.1)
      ∙ append-nil (filter (list_any (λ b. b == 10)) raws) ∙ l.feeds unended;
}
