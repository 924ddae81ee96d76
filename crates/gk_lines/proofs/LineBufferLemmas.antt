-- A line that is made piece by piece holds what the whole would leave there.
use Rattle.std.proofs.Common.{◌≡◌, ℕ, zero, suc, ◌+◌, ◌-◌, ◌≤◌, ◌<◌, List, [], ◌∷◌, ◌++◌, length, get_or, take, drop, min, refl, sym, ap, ◌∙◌, length-append, length-take-le, set, append_assoc, zero-add, ◌*◌, lit≤, arith}
use Rattle.std.specs.Prelude.{decimal, flat_map}
use Rattle.std.proofs.lemmas.List.{take_more, take_at, take_min, take_all, take_more_set, append-nil}
use Rattle.std.proofs.Math.Seq.{take-append-add}
use Rattle.gk_terms.specs.Address.{AddressParts, ip_text, address_text}
use Rattle.gk_terms.specs.Text.{spaced, line_text}
use Rattle.gk_lines.specs.LineBuffer.{ROOM_BYTES, MOST_DIGITS, extended, with_words, line_of_words, room_of}

-- bytes that are written behind those that stand there, as far as there is room
pub extended-written : (bytes more : List ℕ) (len : ℕ) → len ≤ ROOM_BYTES → length bytes ≡
    ROOM_BYTES
    → take (len + min (length more) (ROOM_BYTES - len))
    (take len bytes ++ take (min (length more) (ROOM_BYTES - len)) more ++ drop
    (len + length (take (min (length more) (ROOM_BYTES - len)) more)) bytes) ≡ extended
    (take len bytes) more
unfolding extended
extended-written bytes more len fits size =
    let front = take len bytes in
    let room : ℕ = ROOM_BYTES - len in
    let count : ℕ = min (length more) room in
    let part = take count more in
    let rest = drop (len + length part) bytes in
    let front_len : length front ≡ len = length-take-le len bytes (omega (arith, fits, size)) in
    let part_len : length part ≡ count = length-take-le count more (omega arith) in
    let both : length (front ++ part) ≡ len + count = omega
    (arith, length-append front part, front_len, part_len) in
    let commuted : min room (length more) ≡ count = omega arith in
    let whole : length front + room ≡ ROOM_BYTES = omega (arith, fits, front_len) in
    take_at (front ++ part) rest (len + count) both
    ∙ ap (λ n. front ++ take n more) (sym commuted)
    ∙ ap (λ bytes. front ++ bytes) (take_min room more)
    ∙ sym (take-append-add front more room)
    ∙ ap (λ n. take n (front ++ more)) whole

-- one byte that is written after those that stand there, and one that has no room
pub byte_written : (bytes : List ℕ) (len byte : ℕ) → len < ROOM_BYTES → length bytes ≡ ROOM_BYTES →
    take (len + 1) (set bytes len byte) ≡ extended (take len bytes) (byte ∷ [])
unfolding extended
byte_written bytes len byte room size =
    let front = take len bytes in
    let front_len : length front ≡ len = length-take-le len bytes (omega (arith, room, size)) in
    let both : length (front ++ byte ∷ []) ≡ len + 1 = omega
    (arith, length-append front (byte ∷ []), front_len) in
    take_more_set bytes len byte (omega (arith, room, size)) ∙ sym
    (take_all ROOM_BYTES (front ++ byte ∷ []) (omega (arith, both, room)))

pub byte_left_out : (bytes more : List ℕ) (len : ℕ) → len ≤ ROOM_BYTES → ¬ (len < ROOM_BYTES) →
    length bytes ≡ ROOM_BYTES → take len bytes ≡ extended (take len bytes) more
unfolding extended
byte_left_out bytes more len fits full size =
    let front = take len bytes in
    let front_len : length front ≡ len = length-take-le len bytes (omega (arith, fits, size)) in
    sym (take_at front more ROOM_BYTES (omega (arith, front_len, fits, full)))

take_twice : (n : ℕ) (front bytes : List ℕ) → take n (take n front ++ bytes) ≡ take n
    (front ++ bytes)
take_twice zero front bytes = refl
take_twice (suc n) [] bytes = refl
take_twice (suc n) (b ∷ bs) bytes = ap (λ bs. b ∷ bs) (take_twice n bs bytes)

-- two pieces are one
pub extended_twice : (line first second : List ℕ) → extended (extended line first) second ≡ extended
    line (first ++ second)
unfolding extended
extended_twice line first second = take_twice ROOM_BYTES (line ++ first) second ∙ ap
    (take ROOM_BYTES) (append_assoc line first second)

-- words one after another
pub words_twice : (line : List ℕ) (words others : List (List ℕ)) → with_words line (words ++ others)
    ≡ with_words (with_words line words) others
words_twice line [] others = refl
words_twice line (word ∷ words) others = words_twice (extended line (32 ∷ word)) words others

words_spaced : (front : List ℕ) (words : List (List ℕ)) → with_words (take ROOM_BYTES front) words ≡
    take ROOM_BYTES (front ++ flat_map (λ next. 32 ∷ next) words)
unfolding extended
words_spaced front [] = ap (take ROOM_BYTES) (sym (append-nil front))
words_spaced front (word ∷ words) =
    ap (λ line. with_words line words) (take_twice ROOM_BYTES front (32 ∷ word))
    ∙ words_spaced (front ++ (32 ∷ word)) words
    ∙ ap (take ROOM_BYTES) (append_assoc front (32 ∷ word) (flat_map (λ next. 32 ∷ next) words))

line_spaced : (words : List (List ℕ)) → line_of_words words ≡ take ROOM_BYTES (spaced words)
unfolding extended
line_spaced [] = refl
line_spaced (word ∷ words) = words_spaced word words

-- a line of words that have room, with its line feed
pub line_whole : (words : List (List ℕ)) → length (line_text words) ≤ ROOM_BYTES → extended
    (line_of_words words) (10 ∷ []) ≡ line_text words
unfolding extended
line_whole words fits =
    ap (λ line. extended line (10 ∷ [])) (line_spaced words)
    ∙ take_twice ROOM_BYTES (spaced words) (10 ∷ [])
    ∙ take_all ROOM_BYTES (line_text words) fits

-- ---- an address
pub ip_whole : (line : List ℕ) (a b c d : ℕ)
    → extended (extended (extended (extended line (32 ∷ decimal a)) (46 ∷ decimal b))
    (46 ∷ decimal c)) (46 ∷ decimal d) ≡ extended line (32 ∷ ip_text (a ∷ b ∷ c ∷ d ∷ []))
ip_whole line a b c d =
    let first : List ℕ = 32 ∷ decimal a in
    let second : List ℕ = 46 ∷ decimal b in
    let third : List ℕ = 46 ∷ decimal c in
    let fourth : List ℕ = 46 ∷ decimal d in
    ap (λ l. extended (extended l third) fourth) (extended_twice line first second)
    ∙ ap (λ l. extended l fourth) (extended_twice line (first ++ second) third)
    ∙ extended_twice line ((first ++ second) ++ third) fourth
    ∙ ap (extended line) (append_assoc (first ++ second) third fourth ∙ append_assoc first second
    (third ++ fourth))
    ∙ ap (λ last. extended line (first ++ (second ++ (third ++ last)))) (sym (append-nil fourth))

pub ip_of_four : (line ip : List ℕ) → length ip ≡ 4
    → extended (extended (extended (extended line (32 ∷ decimal (get_or ip 0 0)))
    (46 ∷ decimal (get_or ip 1 0))) (46 ∷ decimal (get_or ip 2 0)))
    (46 ∷ decimal (get_or ip 3 0)) ≡ extended line (32 ∷ ip_text ip)
ip_of_four line [] four = absurd (omega (arith, four))
ip_of_four line (a ∷ []) four = absurd (omega (arith, four))
ip_of_four line (a ∷ b ∷ []) four = absurd (omega (arith, four))
ip_of_four line (a ∷ b ∷ c ∷ []) four = absurd (omega (arith, four))
ip_of_four line (a ∷ b ∷ c ∷ d ∷ []) four = ip_whole line a b c d
ip_of_four line (a ∷ b ∷ c ∷ d ∷ e ∷ more) four = absurd (omega (arith, four))

-- ---- names
pub words_more : (line : List ℕ) (names : List (List ℕ)) (i : ℕ) (d : List ℕ) → i < length names
    → extended (with_words line (take i names)) (32 ∷ get_or names i d) ≡ with_words line
    (take (i + 1) names)
words_more line names i d h =
    sym (words_twice line (take i names) (get_or names i d ∷ [])) ∙ ap (with_words line)
    (sym (take_more names i d h))

-- ---- an address with its port
pub address_whole : (line : List ℕ) (a : AddressParts)
    → extended (extended (extended line (32 ∷ ip_text a.ip)) (58 ∷ [])) (decimal a.port) ≡ extended
    line (32 ∷ address_text a)
address_whole line a =
    let ip : List ℕ = 32 ∷ ip_text a.ip in
    ap (λ l. extended l (decimal a.port)) (extended_twice line ip (58 ∷ []))
    ∙ extended_twice line (ip ++ (58 ∷ [])) (decimal a.port)
    ∙ ap (extended line) (append_assoc ip (58 ∷ []) (decimal a.port))

-- ---- lengths
pub ip_short : (ip : List ℕ) → length ip ≡ 4 → length (decimal (get_or ip 0 0)) ≤ MOST_DIGITS →
    length (decimal (get_or ip 1 0)) ≤ MOST_DIGITS
    → length (decimal (get_or ip 2 0)) ≤ MOST_DIGITS → length (decimal (get_or ip 3 0)) ≤
    MOST_DIGITS → length (ip_text ip) ≤ 4 * MOST_DIGITS + 3
ip_short [] four p q r s = absurd (omega (arith, four))
ip_short (a ∷ []) four p q r s = absurd (omega (arith, four))
ip_short (a ∷ b ∷ []) four p q r s = absurd (omega (arith, four))
ip_short (a ∷ b ∷ c ∷ []) four p q r s = absurd (omega (arith, four))
ip_short (a ∷ b ∷ c ∷ d ∷ []) four p q r s =
    omega (
      arith,
      p,
      q,
      r,
      s,
      length-append (decimal a) ((46 ∷ decimal b) ++ ((46 ∷ decimal c) ++
          ((46 ∷ decimal d) ++ []))),
      length-append (decimal b) ((46 ∷ decimal c) ++ ((46 ∷ decimal d) ++ [])),
      length-append (decimal c) ((46 ∷ decimal d) ++ []),
      length-append (decimal d) [],
    )
ip_short (a ∷ b ∷ c ∷ d ∷ e ∷ more) four p q r s = absurd (omega (arith, four))

pub address_short : (a : AddressParts) → length (ip_text a.ip) ≤ 4 * MOST_DIGITS + 3 → length
    (decimal a.port) ≤ MOST_DIGITS → length (address_text a) ≤ 5 * MOST_DIGITS + 4
address_short a p q = omega (arith, p, q, length-append (ip_text a.ip) (58 ∷ decimal a.port))

spaces_length : (words : List (List ℕ)) → length (flat_map (λ next. 32 ∷ next) words) ≡ room_of
    words
spaces_length [] = refl
spaces_length (word ∷ words) =
    omega (
      arith,
      length-append (32 ∷ word) (flat_map (λ next. 32 ∷ next) words),
      spaces_length
          words,
    )

line_length : (words : List (List ℕ)) → length (line_text words) ≤ room_of words + 1
line_length [] = lit≤ tt
line_length (word ∷ words) =
    omega (
      arith,
      length-append word (flat_map (λ next. 32 ∷ next) words),
      spaces_length words,
      length-append (spaced (word ∷ words)) (10 ∷ []),
    )

-- a line of words that have room
pub line_in_room : (words : List (List ℕ)) → room_of words < ROOM_BYTES → extended
    (line_of_words words) (10 ∷ []) ≡ line_text words
line_in_room words room = line_whole words (omega (arith, room, line_length words))

-- words that are made one after another take their room
pub room_of-append : (words others : List (List ℕ)) → room_of (words ++ others) ≡ room_of words +
    room_of others
room_of-append [] others = sym (zero-add (room_of others))
room_of-append (word ∷ words) others = omega (arith, room_of-append words others)
