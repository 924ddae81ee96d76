-- What is read as an IPv4 address is that address's own text.
use Rattle.std.proofs.Common.{◌≡◌, ℕ, ◌*◌, ◌≤◌, Bool, true, false, cond, List, [], ◌∷◌, ◌++◌, length, length-append, Option, Some, None, refl, sym, ap, subst, ◌∙◌, arith}
use Rattle.std.specs.Prelude.{◌==◌, decimal, flat_map}
use Rattle.std.specs.List.{list_all, slice_split, join_with_byte}
use Rattle.std.proofs.lemmas.Bool.{and_from, eqb-true}
use Rattle.std.proofs.lemmas.Fmt.{length-decimal-le}
use Rattle.std.proofs.lemmas.List.{append-nil}
use Rattle.std.proofs.lemmas.List.Folds.{list_all-append}
use Rattle.std.proofs.lemmas.List.Splits.{join_with_byte-slice_split}
use Rattle.gk_terms.specs.Spelling.{is_visible}
use Rattle.gk_terms.specs.Address.{octet_of, with_octet, octets_of, octets_of_four, ip_of, ip_text}
use Rattle.gk_commands.specs.Accepted.{is_word}
use Rattle.command_reader.proofs.read_back.Words.{word_from, word_some, word_visible}
use Rattle.command_reader.proofs.read_back.Numbers.{number_spelled, IsSpelled}

-- an octet that was read, in front of others
record IsFirstOctet (first : Option ℕ) (others : Option (List ℕ)) (octets : List ℕ) : Type 0 where
  octet : ℕ
  rest : List ℕ
  read : first ≡ Some octet
  read_rest : others ≡ Some rest
  whole : octets ≡ octet ∷ rest

first_octet : (first : Option ℕ) (others : Option (List ℕ)) (octets : List ℕ) → with_octet first
    others ≡ Some octets → IsFirstOctet first others octets
first_octet None others octets h = absurd (let no : ⊥ = cc in no)
first_octet (Some a) None octets h = absurd (let no : ⊥ = cc in no)
first_octet (Some a) (Some bs) octets h = record {
  octet = a;
  rest = bs;
  read = refl;
  read_rest =
      refl;
  whole = cc;
}

-- parts, each after a dot
abbrev dotted : List (List ℕ) → List ℕ
dotted parts = flat_map (λ part. 46 ∷ part) parts

-- octets that were read from parts, each after a dot
record AreOctets (parts : List (List ℕ)) (octets : List ℕ) : Type 0 where
  same : flat_map (λ b. 46 ∷ decimal b) octets ≡ dotted parts
  visible : list_all is_visible (dotted parts) ≡ true
  short : length (dotted parts) ≤ 4 * length parts

-- an octet that was read: at most three digits
record IsOctet (part : List ℕ) (octet : ℕ) : Type 0 where
  same : decimal octet ≡ part
  word : is_word part ≡ true
  short : length part ≤ 3

octet_spelled : (part : List ℕ) (octet : ℕ) → octet_of part ≡ Some octet → IsOctet part octet
octet_spelled part octet h =
    let s : IsSpelled 255 part octet = number_spelled 0 255 part octet (omega arith) h in
    let short : length (decimal octet) ≤ 3 = length-decimal-le 3 octet (omega arith)
    (omega (arith, s.within)) (omega (arith, s.within)) in
    record { same = s.same; word = s.word; short = subst (λ text. length text ≤ 3) s.same short }

octets_spelled : (parts : List (List ℕ)) (octets : List ℕ) → octets_of parts ≡ Some octets →
    AreOctets parts octets
octets_spelled [] octets h =
    let none : [] ≡ octets = cc in
    record {
      same = ap (flat_map (λ b. 46 ∷ decimal b)) (sym none);
      visible = refl;
      short = omega
          arith;
    }
octets_spelled (part ∷ parts) octets h =
    let f = first_octet (octet_of part) (octets_of parts) octets h in
    let o = octet_spelled part f.octet f.read in
    let r = octets_spelled parts f.rest f.read_rest in
    record {
      same = ap (flat_map (λ b. 46 ∷ decimal b)) f.whole ∙ ap
          (λ text. 46 ∷ (text ++ flat_map (λ b. 46 ∷ decimal b) f.rest)) o.same
          ∙ ap (λ text. 46 ∷ (part ++ text)) r.same;
      visible = list_all-append is_visible part (dotted parts) ∙ and_from _ _
          (word_visible part o.word) r.visible;
      short = omega (arith, length-append part (dotted parts), o.short, r.short);
    }

joined : (part : List ℕ) (parts : List (List ℕ)) → part ++ dotted parts ≡ join_with_byte 46
    (part ∷ parts)
joined part [] = append-nil part
joined part (next ∷ parts) = ap (λ text. part ++ (46 ∷ text)) (joined next parts)

-- an address that was read: its text, a word of at most 15 bytes
pub record IsIp (text ip : List ℕ) : Type 0 where
  pub same : ip_text ip ≡ text
  pub word : is_word text ≡ true
  pub short : length text ≤ 15

some_front : (part rest : List ℕ) → is_word part ≡ true → list_all is_visible rest ≡ true → is_word
    (part ++ rest) ≡ true
some_front part rest h k =
    word_from (part ++ rest) (omega (arith, length-append part rest, word_some part h))
    (list_all-append is_visible part rest ∙ and_from _ _ (word_visible part h) k)

ip_from_parts : (parts : List (List ℕ)) (ip : List ℕ) → length parts ≡ 4 → octets_of parts ≡ Some ip
    → IsIp (join_with_byte 46 parts) ip
ip_from_parts [] ip four h = absurd (omega (arith, four))
ip_from_parts (part ∷ parts) ip four h =
    let f = first_octet (octet_of part) (octets_of parts) ip h in
    let o = octet_spelled part f.octet f.read in
    let r = octets_spelled parts f.rest f.read_rest in
    let text : ip_text ip ≡ part ++ dotted parts =
    ap ip_text f.whole ∙ ap (λ text. text ++ flat_map (λ b. 46 ∷ decimal b) f.rest) o.same ∙ ap
    (λ text. part ++ text) r.same in
    let long : length (part ++ dotted parts) ≤ 15 = omega
    (arith, length-append part (dotted parts), o.short, r.short, four) in
    let join = joined part parts in
    record {
      same = text ∙ join;
      word = ap is_word (sym join) ∙ some_front part (dotted parts) o.word r.visible;
      short = subst (λ text. length text ≤ 15) join long;
    }

four_parts : (parts : List (List ℕ)) (ip : List ℕ) → octets_of_four parts ≡ Some ip → IsIp
    (join_with_byte 46 parts) ip
four_parts parts ip h = by (length parts == 4) refl h
  where
    by : (b : Bool) → (length parts == 4) ≡ b → cond b (octets_of parts) None ≡ Some ip → IsIp
        (join_with_byte 46 parts) ip
    by true e f = ip_from_parts parts ip (eqb-true (length parts) 4 e) f
    by false e f = absurd (let no : ⊥ = cc in no)

pub ip_spelled : (text ip : List ℕ) → ip_of text ≡ Some ip → IsIp text ip
ip_spelled text ip h =
    subst (λ text. IsIp text ip) (join_with_byte-slice_split 46 text)
    (four_parts (slice_split (λ b. b == 46) text) ip h)

-- its own text spells it again
pub record IsOwnIp (ip : List ℕ) : Type 0 where
  pub spelled : ip_of (ip_text ip) ≡ Some ip
  pub solid : is_word (ip_text ip) ≡ true
  pub short : length (ip_text ip) ≤ 15

pub ip_back : (text ip : List ℕ) → ip_of text ≡ Some ip → IsOwnIp ip
ip_back text ip h =
    let s = ip_spelled text ip h in
    record {
      spelled = ap ip_of s.same ∙ h;
      solid = ap is_word s.same ∙ s.word;
      short = subst (λ text. length text ≤ 15) (sym s.same) s.short;
    }
