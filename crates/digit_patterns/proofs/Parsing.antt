-- What reading a pattern gives: the parts are the whole text exactly if its ending is empty or a star.
use Rattle.std.proofs.Common.{◌≡◌, ℕ, ◌+◌, ◌<◌, ◌≤◌, Bool, true, false, cond, ◌&&◌, nat_le, List, [], ◌∷◌, ◌++◌, length, take, drop, replicate, Some, None, is_some, suc, refl, sym, ap, ◌∙◌, arith, append_assoc, length-append, take-append-drop, if◌then◌else◌}
use Rattle.std.specs.Bool.{then_some}
use Rattle.std.specs.Char.{is_ascii_digit}
use Rattle.std.specs.List.{list_all, prefix_len}
use Rattle.std.specs.Str.{bytes_eq}
use Rattle.std.specs.Cmp.Lexicographic.{same_text}
use Rattle.std.proofs.lemmas.Bool.{and_parts, and_from}
use Rattle.std.proofs.lemmas.Bool.Decides.{nat_tests}
use Rattle.std.proofs.lemmas.List.{length-replicate}
use Rattle.std.proofs.lemmas.List.Folds.{length-prefix_len}
use Rattle.gk_terms.specs.Spelling.{is_visible, IsVisible}
use Rattle.digit_patterns.specs.PatternParts.{PatternParts, IsPattern, is_pattern, character_count}
use Rattle.digit_patterns.specs.Pattern.{is_dot, star_of, pattern_text, parts_of, pattern_of}

-- a step of what is in front
front_step : (p : ℕ → Bool) (x : ℕ) (xs : List ℕ) (b : Bool) → take (cond b (1 + prefix_len p xs) 0)
    (x ∷ xs) ≡ cond b (x ∷ take (prefix_len p xs) xs) []
front_step p x xs true = let e : 1 + prefix_len p xs ≡ suc (prefix_len p xs) = omega arith in rw e
    refl
front_step p x xs false = refl

-- what is in front passes the test
front_passes : (p : ℕ → Bool) (xs : List ℕ) → list_all p (take (prefix_len p xs) xs) ≡ true
front_passes p [] = refl
front_passes p (x ∷ xs) = ap (list_all p) (front_step p x xs (p x)) ∙ by (p x) refl
    (front_passes p xs)
  where
    by : (b : Bool) → p x ≡ b → list_all p (take (prefix_len p xs) xs) ≡ true → list_all p
        (cond b (x ∷ take (prefix_len p xs) xs) []) ≡ true
    by true e rest = and_from _ _ e rest
    by false e rest = refl

-- a list of dots only
all_dots : (xs : List ℕ) → list_all is_dot xs ≡ true → xs ≡ replicate (length xs) 46
all_dots [] h = refl
all_dots (x ∷ xs) h =
    let parts = and_parts (is_dot x) (list_all is_dot xs) h in
    let e : x ≡ 46 = grind (arith, nat_tests) in
    let rest : xs ≡ replicate (length xs) 46 = all_dots xs parts.1 in
    cc

-- the dots in front of a text
dots_in_front : (xs : List ℕ) → take (prefix_len is_dot xs) xs ≡ replicate (prefix_len is_dot xs) 46
dots_in_front xs = all_dots _ (front_passes is_dot xs) ∙ ap (λ n. replicate n 46)
    (length-prefix_len is_dot xs)

bytes_eq-front : (front xs ys : List ℕ) → bytes_eq (front ++ xs) (front ++ ys) ≡ bytes_eq xs ys
bytes_eq-front [] xs ys = refl
bytes_eq-front (b ∷ bs) xs ys = grind (arith, nat_tests, bytes_eq-front bs xs ys)

-- a star or nothing, as an ending says
abbrev pub star_text : Bool → List ℕ
star_text star = if star then 42 ∷ [] else []

-- the ending is a star or nothing exactly if it is read as one
bytes_eq-star_text : (ending : List ℕ) → bytes_eq (star_text (bytes_eq ending (42 ∷ []))) ending ≡
    is_some (star_of ending)
bytes_eq-star_text [] = refl
bytes_eq-star_text (b ∷ bs) = by (bytes_eq (b ∷ bs) (42 ∷ [])) refl
  where
    by : (t : Bool) → bytes_eq (b ∷ bs) (42 ∷ []) ≡ t → bytes_eq (star_text t) (b ∷ bs) ≡ is_some
        (then_some t true)
    by true e = ap (bytes_eq (42 ∷ [])) (same_text (b ∷ bs) (42 ∷ []) (sym e))
    by false e = refl

-- what an ending that can be read says, and how long it is
ending_read : (ending : List ℕ) (star : Bool) → star_of ending ≡ Some star →
    (bytes_eq ending (42 ∷ []) ≡ star) × (length ending ≡ cond star 1 0)
ending_read [] star h = let e : false ≡ star = cc in (e, ap (λ b. cond b 1 0) e)
ending_read (b ∷ bs) star h = by (bytes_eq (b ∷ bs) (42 ∷ [])) refl h
  where
    by : (t : Bool) → bytes_eq (b ∷ bs) (42 ∷ []) ≡ t → then_some t true ≡ Some star → (t ≡ star) ×
        (length (b ∷ bs) ≡ cond star 1 0)
    by true e h = let same : true ≡ star = cc in (
      same,
      ap length
          (same_text (b ∷ bs) (42 ∷ []) (sym e)) ∙ ap (λ b. cond b 1 0) same,
    )
    by false e h = cc

-- what comes after the digits and the dots in front
abbrev pub others_of : List ℕ → List ℕ
others_of text = drop (prefix_len is_ascii_digit text) text

abbrev pub ending_of : List ℕ → List ℕ
ending_of text = drop (prefix_len is_dot (others_of text)) (others_of text)

-- the digits and the dots in front
abbrev front_of : List ℕ → List ℕ
front_of text = take (prefix_len is_ascii_digit text) text ++ replicate
    (prefix_len is_dot (others_of text)) 46

front-ending : (text : List ℕ) → front_of text ++ ending_of text ≡ text
front-ending text =
    let digits = prefix_len is_ascii_digit text in
    let others = others_of text in
    let dots = prefix_len is_dot others in
    let rest : replicate dots 46 ++ drop dots others ≡ others =
    ap (λ xs. xs ++ drop dots others) (sym (dots_in_front others)) ∙ take-append-drop dots others in
    append_assoc (take digits text) (replicate dots 46) (drop dots others) ∙ ap
    (λ xs. take digits text ++ xs) rest ∙ take-append-drop digits text

-- the parts are the whole text exactly if the ending can be read
spelled : (text : List ℕ) → bytes_eq (pattern_text (parts_of text)) text ≡ is_some
    (star_of (ending_of text))
spelled text =
    let ending = ending_of text in
    let front = front_of text in
    ap (bytes_eq (pattern_text (parts_of text))) (sym (front-ending text)) ∙ bytes_eq-front front
    (star_text (bytes_eq ending (42 ∷ []))) ending ∙ bytes_eq-star_text ending

-- if it cannot be read, the text is not a pattern
pub no_ending : (text : List ℕ) → star_of (ending_of text) ≡ None → pattern_of text ≡ None
no_ending text h = let unread : bytes_eq (pattern_text (parts_of text)) text ≡ false = spelled text
    ∙ ap is_some h in ap (λ b. then_some (is_pattern (parts_of text) && b) (parts_of text)) unread ∙
    none (is_pattern (parts_of text)) (parts_of text)
  where
    none : (b : Bool) (p : PatternParts) → then_some (b && false) p ≡ None
    none true p = refl
    none false p = refl

-- the parts, with what the ending says
abbrev pub read_parts : List ℕ → Bool → PatternParts
read_parts text star = record {
  literals = take (prefix_len is_ascii_digit text) text;
  dots = prefix_len is_dot (others_of text);
  star = star;
}

-- how many characters the parts have
character_count-read : (text : List ℕ) (star : Bool) → star_of (ending_of text) ≡ Some star →
    character_count (read_parts text star) ≡ length text
character_count-read text star h =
    let read = ending_read (ending_of text) star h in
    omega (
      arith,
      ap length (front-ending text),
      length-append (front_of text) (ending_of text),
      length-append (take (prefix_len is_ascii_digit text) text)
          (replicate (prefix_len is_dot (others_of text)) 46),
      length-replicate {A = ℕ}
          (prefix_len is_dot (others_of text)) 46,
      read.1,
    )

-- if it can be read, the text is a pattern exactly if it is neither empty nor too long
pub read_ending : (text : List ℕ) (star : Bool) → star_of (ending_of text) ≡ Some star → pattern_of
    text ≡ then_some (nat_le 1 (length text) && nat_le (length text) 32) (read_parts text star)
read_ending text star h =
    let read = ending_read (ending_of text) star h in
    let same : parts_of text ≡ read_parts text star = ap (read_parts text) read.0 in
    let all : bytes_eq (pattern_text (parts_of text)) text ≡ true = spelled text ∙ ap is_some h in
    let digits : list_all is_ascii_digit (take (prefix_len is_ascii_digit text) text) ≡ true =
    front_passes is_ascii_digit text in
    ap (λ b. then_some (is_pattern (parts_of text) && b) (parts_of text)) all
    ∙ ap (λ p. then_some (is_pattern p && true) p) same
    ∙ ap (λ b. then_some (b && nat_le 1 (character_count (read_parts text star)) && nat_le
    (character_count (read_parts text star)) 32 && true) (read_parts text star)) digits
    ∙ ap (λ n. then_some (nat_le 1 n && nat_le n 32 && true) (read_parts text star))
    (character_count-read text star h)
    ∙ ap (λ b. then_some b (read_parts text star)) (and_true
    (nat_le 1 (length text) && nat_le (length text) 32))
  where
    and_true : (b : Bool) → (b && true) ≡ b
    and_true true = refl
    and_true false = refl

-- if it can be read, and the text is empty or too long, it is not a pattern
pub no_count : (text : List ℕ) (star : Bool) → star_of (ending_of text) ≡ Some star →
    (1 ≤ length text → 32 < length text) → pattern_of text ≡ None
no_count text star h outside =
    let counted : nat_le 1 (length text) && nat_le (length text) 32 ≡ false = grind
    (arith, nat_tests) in
    read_ending text star h ∙ ap (λ b. then_some b (read_parts text star)) counted

-- if it can be read, and the text is neither empty nor too long, it is a pattern
pub is_read : (text : List ℕ) (star : Bool) → star_of (ending_of text) ≡ Some star → 1 ≤ length text
    → length text ≤ 32 → pattern_of text ≡ Some (read_parts text star)
is_read text star h some few =
    let counted : nat_le 1 (length text) && nat_le (length text) 32 ≡ true = grind
    (arith, nat_tests) in
    read_ending text star h ∙ ap (λ b. then_some b (read_parts text star)) counted

pub IsPattern-read : (text : List ℕ) (star : Bool) → star_of (ending_of text) ≡ Some star → 1 ≤
    length text → length text ≤ 32 → IsPattern (read_parts text star)
IsPattern-read text star h some few =
    let e = character_count-read text star h in
    let least : nat_le 1 (character_count (read_parts text star)) ≡ true = grind (arith, nat_tests)
    in
    let most : nat_le (character_count (read_parts text star)) 32 ≡ true = grind (arith, nat_tests)
    in
    and_from _ _ (and_from _ _ (front_passes is_ascii_digit text) least) most

visible_digit : (b : ℕ) → is_ascii_digit b ≡ true → is_visible b ≡ true
visible_digit b h = grind (arith, nat_tests)

-- digits are visible
pub IsVisible-digits : (text : List ℕ) → list_all is_ascii_digit text ≡ true → IsVisible text
IsVisible-digits [] h = refl
IsVisible-digits (b ∷ bs) h =
    let parts = and_parts (is_ascii_digit b) (list_all is_ascii_digit bs) h in
    and_from _ _ (visible_digit b parts.0) (IsVisible-digits bs parts.1)

pub IsVisible-front : (text : List ℕ) → IsVisible (take (prefix_len is_ascii_digit text) text)
IsVisible-front text = IsVisible-digits (take (prefix_len is_ascii_digit text) text)
    (front_passes is_ascii_digit text)

-- a pattern's parts are those that were read
pub parts-read : (text literals : List ℕ) (dots : ℕ) (star : Bool) → literals ≡ take
    (prefix_len is_ascii_digit text) text → dots ≡ prefix_len is_dot (others_of text) → read_parts
    text star ≡ record { literals = literals; dots = dots; star = star }
parts-read text literals dots star h i = cc
