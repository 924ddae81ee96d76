-- Lines that are read in pieces: what was taken of one so far, and where it ends.
use Rattle.std.proofs.Common.{◌≡◌, ℕ, ◌+◌, ◌<◌, ◌≤◌, Bool, zero, suc, true, false, IsTrue, cond, List, [], ◌∷◌, ◌++◌, length, take, drop, refl, sym, ap, subst, ◌∙◌, append_assoc, length-append, arith, ⊎_elim, add_comm, add-one, true≢false, lit<, inl, inr}
use Rattle.std.specs.Prelude.{◌==◌, ◌||◌, not, None, Some, filter}
use Rattle.std.specs.List.{position_or_len, onto_first, list_any}
use Rattle.std.specs.Io.KnownBytes.{prepend_known, Consumes, Keeps, IsAtEnd}
use Rattle.std.specs.declared.option.Option.{Option}
use Rattle.std.proofs.lemmas.Bool.{cases_Bool, eqb-true}
use Rattle.std.proofs.Math.Bool.{or-true}
use Rattle.std.proofs.lemmas.List.{append-nil, take-append-drop, take_all}
use Rattle.gk_terms.specs.Text.{raw_lines_of}
use Rattle.gk_lines.specs.Streams.{KnownStep}
use Rattle.gk_lines.specs.LineBuffer.{ROOM_BYTES, extended}
use Rattle.gk_lines.specs.LineReader.{length_in_line, HasNoFeed, IsWholeLine, TakesLine, TakesPart}

-- a line as far as it was read: the bytes that were taken of those before, and what is kept of them
pub record LineSoFar (before now : Option (List ℕ)) (line : List ℕ) (more : Bool) : Type 0 where
  pub front : List ℕ
  pub taken : Consumes before now front
  pub no_feed : HasNoFeed front
  pub kept : line ≡ take ROOM_BYTES front
  pub some : IsTrue more → 0 < length front
  pub none : more ≡ false → front ≡ []

HasNoFeed-append : (xs ys : List ℕ) → HasNoFeed xs → HasNoFeed ys → HasNoFeed (xs ++ ys)
HasNoFeed-append [] ys p q = q
HasNoFeed-append (x ∷ xs) ys p q = (p.0, HasNoFeed-append xs ys p.1 q)

-- what the search for a line feed finds, one byte further on
feed_here : (b : ℕ) (bs : List ℕ) → (b == 10) ≡ true → position_or_len (λ b. b == 10) (b ∷ bs) ≡ 0
feed_here b bs feed = ap (λ t. cond (not t) (1 + position_or_len (λ b. b == 10) bs) 0) feed

feed_later : (b : ℕ) (bs : List ℕ) → (b == 10) ≡ false → position_or_len (λ b. b == 10) (b ∷ bs) ≡ 1
    + position_or_len (λ b. b == 10) bs
feed_later b bs other = ap (λ t. cond (not t) (1 + position_or_len (λ b. b == 10) bs) 0) other

-- bytes without a line feed: the search for one comes to their end
pub HasNoFeed-whole : (bytes : List ℕ) → length bytes ≤ position_or_len (λ b. b == 10) bytes →
    HasNoFeed bytes
HasNoFeed-whole [] past = tt
HasNoFeed-whole (b ∷ bs) past =
    ⊎_elim
    (λ (feed : (b == 10) ≡ true). absurd (omega (arith, past, feed_here b bs feed)))
    (λ (other : (b == 10) ≡ false). (
      other,
      HasNoFeed-whole bs
          (omega (arith, past, feed_later b bs other)),
    ))
    (cases_Bool (b == 10))

-- how the lines of a text follow from those behind its first byte
lines_at_feed : (b : ℕ) (bs : List ℕ) → (b == 10) ≡ true → raw_lines_of (b ∷ bs) ≡ (b ∷ []) ∷
    raw_lines_of bs
lines_at_feed b bs feed = ap (λ t. cond t ((b ∷ []) ∷ raw_lines_of bs)
    (onto_first b (raw_lines_of bs))) feed

lines_at_other : (b : ℕ) (bs : List ℕ) → (b == 10) ≡ false → raw_lines_of (b ∷ bs) ≡ onto_first b
    (raw_lines_of bs)
lines_at_other b bs other = ap (λ t. cond t ((b ∷ []) ∷ raw_lines_of bs)
    (onto_first b (raw_lines_of bs))) other

-- a line that ends in these bytes
lines_in_piece : (bytes rest : List ℕ) → position_or_len (λ b. b == 10) bytes < length bytes
    → raw_lines_of (bytes ++ rest) ≡ take (length_in_line bytes) bytes ∷ raw_lines_of
    (drop (length_in_line bytes) bytes ++ rest)
lines_in_piece [] rest within = absurd (omega (arith, within))
lines_in_piece (b ∷ bs) rest within =
    let n : ℕ = position_or_len (λ b. b == 10) bs in
    ⊎_elim
    (λ (feed : (b == 10) ≡ true).
    lines_at_feed b (bs ++ rest) feed
    ∙ ap (λ k. take (k + 1) (b ∷ bs) ∷ raw_lines_of (drop (k + 1) (b ∷ bs) ++ rest))
    (sym (feed_here b bs feed)))
    (λ (other : (b == 10) ≡ false).
    let inner : raw_lines_of (bs ++ rest) ≡ take (n + 1) bs ∷ raw_lines_of (drop (n + 1) bs ++ rest)
    =
    lines_in_piece bs rest (omega (arith, within, feed_later b bs other)) in
    let step : onto_first b (take (n + 1) bs ∷ raw_lines_of (drop (n + 1) bs ++ rest)) ≡ take
    (1 + n + 1) (b ∷ bs) ∷ raw_lines_of (drop (1 + n + 1) (b ∷ bs) ++ rest) =
    rw (add_comm 1 n, add-one, add-one) refl in
    lines_at_other b (bs ++ rest) other ∙ ap (onto_first b) inner ∙ step
    ∙ ap (λ k. take (k + 1) (b ∷ bs) ∷ raw_lines_of (drop (k + 1) (b ∷ bs) ++ rest))
    (sym (feed_later b bs other)))
    (cases_Bool (b == 10))

-- a line that ends in these bytes, and began before them
pub raw_lines_of-feed : (front bytes rest : List ℕ) → HasNoFeed front → position_or_len
    (λ b. b == 10) bytes < length bytes
    → raw_lines_of (front ++ (bytes ++ rest)) ≡ (front ++ take (length_in_line bytes) bytes) ∷
    raw_lines_of (drop (length_in_line bytes) bytes ++ rest)
raw_lines_of-feed [] bytes rest free within = lines_in_piece bytes rest within
raw_lines_of-feed (b ∷ bs) bytes rest free within =
    lines_at_other b (bs ++ (bytes ++ rest)) free.0 ∙ ap (onto_first b)
    (raw_lines_of-feed bs bytes rest free.1 within)

-- a line that the end of the text ends
pub raw_lines_of-end : (front : List ℕ) → HasNoFeed front → 0 < length front → raw_lines_of front ≡
    front ∷ []
raw_lines_of-end [] free some = absurd (omega (arith, some))
raw_lines_of-end (b ∷ []) free some = lines_at_other b [] free.0
raw_lines_of-end (b ∷ c ∷ cs) free some =
    lines_at_other b (c ∷ cs) free.0 ∙ ap (onto_first b)
    (raw_lines_of-end (c ∷ cs) free.1 (omega arith))

-- bytes that are kept in two steps
take-twice : (n : ℕ) (front bytes : List ℕ) → take n (take n front ++ bytes) ≡ take n
    (front ++ bytes)
take-twice zero front bytes = refl
take-twice (suc n) [] bytes = refl
take-twice (suc n) (b ∷ bs) bytes = ap (λ bs. b ∷ bs) (take-twice n bs bytes)

extended-kept : (line front bytes : List ℕ) → line ≡ take ROOM_BYTES front → extended line bytes ≡
    take ROOM_BYTES (front ++ bytes)
unfolding extended
extended-kept line front bytes kept = ap (λ line. take ROOM_BYTES (line ++ bytes)) kept ∙ take-twice
    ROOM_BYTES front bytes

Consumes-Keeps : (old mid new : Option (List ℕ)) (front : List ℕ) → Consumes old mid front → Keeps
    mid new → Consumes old new front
Consumes-Keeps None mid new front taken same = tt
Consumes-Keeps (Some xs) None new front taken same = absurd taken
Consumes-Keeps (Some xs) (Some ys) None front taken same = absurd same
Consumes-Keeps (Some xs) (Some ys) (Some zs) front taken same = taken ∙ ap (λ bytes. front ++ bytes)
    (sym same)

-- so many of the pending bytes are taken too
Consumes-more : (old remaining : Option (List ℕ)) (front pending : List ℕ) (n : ℕ) → Consumes old
    (prepend_known pending remaining) front
    → Consumes old (prepend_known (drop n pending) remaining) (front ++ take n pending)
Consumes-more None remaining front pending n taken = tt
Consumes-more (Some xs) None front pending n taken = absurd taken
Consumes-more (Some xs) (Some ys) front pending n taken =
    let part = take n pending in
    let others = drop n pending in
    let inner : (part ++ others) ++ ys ≡ part ++ (others ++ ys) = append_assoc part others ys in
    let outer : (front ++ part) ++ (others ++ ys) ≡ front ++ (part ++ (others ++ ys)) = append_assoc
    front part (others ++ ys) in
    taken ∙ ap (λ bytes. front ++ (bytes ++ ys)) (sym (take-append-drop n pending))
    ∙ ap (λ bytes. front ++ bytes) inner ∙ sym outer

-- the part of a line that its line feed ends
feed_ends : (bytes : List ℕ) → position_or_len (λ b. b == 10) bytes < length bytes → IsWholeLine
    (take (length_in_line bytes) bytes)
feed_ends [] within = absurd (omega (arith, within))
feed_ends (b ∷ bs) within =
    ⊎_elim
    (λ (feed : (b == 10) ≡ true).
    let ten : b ≡ 10 = eqb-true b 10 feed in
    ([], tt, ap (λ k. take (k + 1) (b ∷ bs)) (feed_here b bs feed) ∙ ap (λ n. n ∷ []) ten))
    (λ (other : (b == 10) ≡ false).
    let inner = feed_ends bs (omega (arith, within, feed_later b bs other)) in
    let n : ℕ = position_or_len (λ b. b == 10) bs in
    let step : take (1 + n + 1) (b ∷ bs) ≡ b ∷ take (n + 1) bs = rw (add_comm 1 n, add-one, add-one)
    refl in (
      b ∷ inner.0,
      (other, inner.1),
      ap (λ k. take (k + 1) (b ∷ bs)) (feed_later b bs other) ∙ step ∙
          ap (λ part. b ∷ part) inner.2,
    ))
    (cases_Bool (b == 10))

-- and bytes without a line feed before it
whole_after : (front raw : List ℕ) → HasNoFeed front → IsWholeLine raw → IsWholeLine (front ++ raw)
whole_after front raw free whole = (
  front ++ whole.0,
  HasNoFeed-append front whole.0 free whole.1,
  ap (λ part. front ++ part)
      whole.2 ∙ sym (append_assoc front whole.0 (10 ∷ [])),
)

feed_in : (front : List ℕ) → list_any (λ b. b == 10) (front ++ 10 ∷ []) ≡ true
feed_in [] = refl
feed_in (b ∷ bs) = ap (λ t. (b == 10) || t) (feed_in bs) ∙ or-true (b == 10)

none_in : (part : List ℕ) → HasNoFeed part → list_any (λ b. b == 10) part ≡ false
none_in [] free = refl
none_in (b ∷ bs) free = ap (λ t. t || list_any (λ c. c == 10) bs) free.0 ∙ none_in bs free.1

-- a whole line is the first, whatever follows it
pub whole_line_first : (raw more : List ℕ) → IsWholeLine raw → raw_lines_of (raw ++ more) ≡ raw ∷
    raw_lines_of more
whole_line_first raw more whole =
    ap (λ line. raw_lines_of (line ++ more)) whole.2 ∙ ap raw_lines_of
    (append_assoc whole.0 (10 ∷ []) more)
    ∙ raw_lines_of-feed whole.0 (10 ∷ []) more whole.1 (lit< tt) ∙ ap
    (λ line. line ∷ raw_lines_of more) (sym whole.2)

whole_line_alone : (raw : List ℕ) → IsWholeLine raw → raw_lines_of raw ≡ raw ∷ []
whole_line_alone raw whole = ap raw_lines_of (sym (append-nil raw)) ∙ whole_line_first raw [] whole

-- it has its line feed
pub whole_line_has_feed : (raw : List ℕ) → IsWholeLine raw → list_any (λ b. b == 10) raw ≡ true
whole_line_has_feed raw whole = ap (list_any (λ b. b == 10)) whole.2 ∙ feed_in whole.0

-- and no line of a part without a line feed has one
pub part_has_none : (part : List ℕ) → HasNoFeed part → filter (list_any (λ b. b == 10))
    (raw_lines_of part) ≡ []
part_has_none [] free = refl
part_has_none (b ∷ bs) free =
    ap (filter (list_any (λ c. c == 10))) (raw_lines_of-end (b ∷ bs) free (omega arith))
    ∙ ap (λ t. cond t ((b ∷ bs) ∷ []) []) (none_in (b ∷ bs) free)

module _ (ended : Bool) where
  takes_line-feed : (old remaining : Option (List ℕ)) (front pending : List ℕ) → Consumes old
      (prepend_known pending remaining) front → HasNoFeed front
      → position_or_len (λ b. b == 10) pending < length pending
      → KnownStep old (prepend_known (drop (length_in_line pending) pending) remaining)
      (TakesLine ended (take ROOM_BYTES (front ++ take (length_in_line pending) pending)))
  takes_line-feed None remaining front pending taken free within = tt
  takes_line-feed (Some xs) None front pending taken free within = absurd taken
  takes_line-feed (Some xs) (Some ys) front pending taken free within =
      let n : ℕ = length_in_line pending in
      record {
        raw = front ++ take n pending;
        split = Consumes-more (Some xs) (Some ys) front pending n taken;
        first = ap raw_lines_of taken ∙ raw_lines_of-feed front pending ys free within;
        alone = whole_line_alone (front ++ take n pending)
            (whole_after front (take n pending) free (feed_ends pending within));
        whole = λ _. whole_after front (take n pending) free (feed_ends pending within);
        last = inl (whole_after front (take n pending) free (feed_ends pending within));
        kept_is = refl;
      }

  takes_line-end : (old remaining : Option (List ℕ)) (front : List ℕ) → Consumes old
      (prepend_known [] remaining) front → IsAtEnd remaining → HasNoFeed front → 0 < length front →
      IsTrue ended
      → KnownStep old (prepend_known [] remaining) (TakesLine ended (take ROOM_BYTES front))
  takes_line-end None remaining front taken end free some is = tt
  takes_line-end (Some xs) None front taken end free some is = absurd taken
  takes_line-end (Some xs) (Some ys) front taken end free some is = record {
    raw = front;
    split = taken;
    first = ap raw_lines_of (taken ∙ ap (λ bytes. front ++ bytes) end ∙ append-nil front) ∙
        raw_lines_of-end front free some
        ∙ ap (λ bytes. front ∷ raw_lines_of bytes) (sym end);
    alone = raw_lines_of-end front free some;
    whole = λ no. absurd (true≢false (sym is ∙ no));
    last = inr end;
    kept_is = refl;
  }

  -- the pending bytes end the line
  pub line_at_feed : (old mid remaining : Option (List ℕ)) (line : List ℕ) (more : Bool)
      (pending : List ℕ)
      → LineSoFar old mid line more → Keeps mid (prepend_known pending remaining) → position_or_len
      (λ b. b == 10) pending < length pending
      → KnownStep old (prepend_known (drop (length_in_line pending) pending) remaining)
      (TakesLine ended (extended line (take (length_in_line pending) pending)))
  line_at_feed old mid remaining line more pending so_far same within =
      rw (extended-kept line so_far.front (take (length_in_line pending) pending) so_far.kept)
      (takes_line-feed old remaining so_far.front pending
      (Consumes-Keeps old mid _ so_far.front so_far.taken same) so_far.no_feed within)

  -- the end of the input ends the line
  pub line_at_end : (old mid remaining : Option (List ℕ)) (line : List ℕ) (more : Bool)
      (pending : List ℕ)
      → LineSoFar old mid line more → Keeps mid (prepend_known pending remaining) → pending ≡ [] →
      IsAtEnd remaining → IsTrue ended → IsTrue more
      → KnownStep old (prepend_known pending remaining) (TakesLine ended line)
  line_at_end old mid remaining line more pending so_far same empty end is some =
      rw (empty, so_far.kept)
      (takes_line-end old remaining so_far.front
      (Consumes-Keeps old mid _ so_far.front so_far.taken
      (subst (λ pending. Keeps mid (prepend_known pending remaining)) empty same))
      end so_far.no_feed (so_far.some some) is)

-- the line goes on behind the pending bytes
pub line_goes_on : (old mid remaining : Option (List ℕ)) (line : List ℕ) (more : Bool)
    (pending : List ℕ)
    → LineSoFar old mid line more → Keeps mid (prepend_known pending remaining) → 0 < length pending
    → length pending ≤ position_or_len (λ b. b == 10) pending
    → LineSoFar old (prepend_known (drop (length_in_line pending) pending) remaining)
    (extended line (take (length_in_line pending) pending)) true
line_goes_on old mid remaining line more pending so_far same some past =
    let whole : take (length_in_line pending) pending ≡ pending = take_all (length_in_line pending)
    pending (omega (arith, past)) in
    record {
      front = so_far.front ++ take (length_in_line pending) pending;
      taken = Consumes-more old remaining so_far.front pending (length_in_line pending)
          (Consumes-Keeps old mid _ so_far.front so_far.taken same);
      no_feed = subst (λ part. HasNoFeed (so_far.front ++ part)) (sym whole)
          (HasNoFeed-append so_far.front pending so_far.no_feed (HasNoFeed-whole pending past));
      kept = extended-kept line so_far.front (take (length_in_line pending) pending) so_far.kept;
      some = λ _. subst (λ part. 0 < length (so_far.front ++ part)) (sym whole)
          (omega (arith, some, length-append so_far.front pending));
      none = λ no. absurd (cc);
    }

-- a fault: what was taken belongs to a line whose end was not read
part_step : (old new : Option (List ℕ)) (front : List ℕ) → Consumes old new front → HasNoFeed front
    → KnownStep old new TakesPart
part_step None new front taken free = tt
part_step (Some xs) None front taken free = absurd taken
part_step (Some xs) (Some ys) front taken free = (front, free, taken)

pub part_taken : (old mid new : Option (List ℕ)) (line : List ℕ) (more : Bool) → LineSoFar old mid
    line more → Keeps mid new → KnownStep old new TakesPart
part_taken old mid new line more so_far same = part_step old new so_far.front
    (Consumes-Keeps old mid new so_far.front so_far.taken same) so_far.no_feed

-- the end: nothing was taken
still_step : (old new : Option (List ℕ)) (front : List ℕ) → Consumes old new front → front ≡ [] →
    Keeps old new
still_step None new front taken none = tt
still_step (Some xs) None front taken none = absurd taken
still_step (Some xs) (Some ys) front taken none = sym (taken ∙ ap (λ f. f ++ ys) none)

pub still_left : (old mid new : Option (List ℕ)) (line : List ℕ) (more : Bool) → LineSoFar old mid
    line more → Keeps mid new → more ≡ false → Keeps old new
still_left old mid new line more so_far same nothing =
    still_step old new so_far.front (Consumes-Keeps old mid new so_far.front so_far.taken same)
    (so_far.none nothing)
