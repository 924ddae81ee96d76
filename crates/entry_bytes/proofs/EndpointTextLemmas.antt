-- The texts of an endpoint, as they are put one after another and read again.
use Rattle.std.proofs.Common.{◌≡◌, ℕ, suc, ◌+◌, ◌-◌, ◌<◌, ◌≤◌, true, false, List, [], ◌∷◌, ◌++◌, length, refl, sym, ap, subst, ◌∙◌, append_assoc, length-append, arith}
use Rattle.std.specs.Prelude.{Bool, ◌||◌, bytes_eq}
use Rattle.std.specs.List.{AllByRecursion, IsDistinct, flat_map, list_all, list_any}
use Rattle.std.proofs.lemmas.Bool.{and_parts}
use Rattle.std.proofs.lemmas.Cmp.{nat_list_eq_equiv}
use Rattle.std.proofs.lemmas.List.{take_at, drop_at, append-nil}
use Rattle.registry.specs.Endpoint.{EndpointParts}
use Rattle.entry_bytes.specs.EndpointTexts.{sized, counted, texts_of, first_text, after_text, first_texts, after_texts, counted_texts, after_counted, lists_in, endpoint_read}

-- ---- texts that differ
-- what holds of each holds of one in the middle
in_the_middle : (P : List ℕ → Type 0) (front others : List (List ℕ)) (text : List ℕ)
    → AllByRecursion P (front ++ text ∷ others) → P text
in_the_middle P [] others text all = all.0
in_the_middle P (first ∷ front) others text all = in_the_middle P front others text all.1

-- a text is none of those before it
none_before : (front others : List (List ℕ)) (text : List ℕ)
    → IsDistinct bytes_eq (front ++ text ∷ others) → list_any (bytes_eq text) front ≡ false
unfolding IsDistinct
none_before [] others text different = refl
none_before (first ∷ front) others text different =
    let apart : bytes_eq first text ≡ false =
    in_the_middle (λ (t : List ℕ). bytes_eq first t ≡ false) front others text different.0 in
    ap (λ (b : Bool). b || list_any (bytes_eq text) front)
    (nat_list_eq_equiv.symm text first ∙ apart)
    ∙ none_before front others text different.1

-- ---- texts that are read one after another
-- what is left to read, by the next text
first_more : (count place : ℕ) (rest : List ℕ) → place < count
    → first_texts (count - place) rest
    ≡ first_text rest ∷ first_texts (count - (place + 1)) (after_text rest)
unfolding first_texts
first_more count place rest within =
    let left : count - place ≡ suc (count - (place + 1)) = omega arith in
    ap (λ n. first_texts n rest) left

first_all : (count place : ℕ) (rest : List ℕ) → count ≤ place
    → first_texts (count - place) rest ≡ []
unfolding first_texts
first_all count place rest past =
    let left : count - place ≡ 0 = omega arith in ap (λ n. first_texts n rest) left

-- what comes after it, by the next text
pub after_more : (count place : ℕ) (rest : List ℕ) → place < count
    → after_texts (count - place) rest ≡ after_texts (count - (place + 1)) (after_text rest)
unfolding after_texts
after_more count place rest within =
    let left : count - place ≡ suc (count - (place + 1)) = omega arith in
    ap (λ n. after_texts n rest) left

pub after_all : (count place : ℕ) (rest : List ℕ) → count ≤ place
    → after_texts (count - place) rest ≡ rest
unfolding after_texts
after_all count place rest past =
    let left : count - place ≡ 0 = omega arith in ap (λ n. after_texts n rest) left

-- these were read, and the rest says the others, which pass a test
pub record AreRead (test : List ℕ → Bool) (count : ℕ) (bytes : List ℕ) (texts : List (List ℕ))
    (rest : List ℕ) (place : ℕ) : Type 0 where
  pub read : texts ++ first_texts (count - place) rest ≡ first_texts count bytes
  pub right : list_all test (first_texts (count - place) rest) ≡ true

pub none_read : (test : List ℕ → Bool) (count : ℕ) (bytes : List ℕ)
    → list_all test (first_texts count bytes) ≡ true
    → (texts : List (List ℕ)) → texts ≡ [] → AreRead test count bytes texts bytes 0
none_read test count bytes all texts none =
    let whole : count - 0 ≡ count = omega arith in
    record {
      read = ap (λ ts. ts ++ first_texts (count - 0) bytes) none
          ∙ ap (λ n. first_texts n bytes) whole;
      right = ap (λ n. list_all test (first_texts n bytes)) whole ∙ all;
    }

module _ (test : List ℕ → Bool) (count : ℕ) (bytes : List ℕ) (texts : List (List ℕ))
    (rest : List ℕ) (place : ℕ) (so_far : AreRead test count bytes texts rest place) where
  -- the next one passes the test
  pub next_right : place < count → test (first_text rest) ≡ true
  next_right within =
      (and_parts (test (first_text rest))
      (list_all test (first_texts (count - (place + 1)) (after_text rest)))
      (ap (list_all test) (sym (first_more count place rest within)) ∙ so_far.right)).0

  -- and was read
  pub one_read : place < count → (more : List (List ℕ)) → more ≡ texts ++ first_text rest ∷ []
      → AreRead test count bytes more (after_text rest) (place + 1)
  one_read within more added =
      let others = first_texts (count - (place + 1)) (after_text rest) in
      let next = first_more count place rest within in
      record {
        read = ap (λ ts. ts ++ others) added
            ∙ append_assoc texts (first_text rest ∷ []) others
            ∙ ap (λ ts. texts ++ ts) (sym next) ∙ so_far.read;
        right = (and_parts (test (first_text rest)) (list_all test others)
            (ap (list_all test) (sym next) ∙ so_far.right)).1;
      }

  -- where the next one stands among all
  next_stands : place < count
      → texts ++ first_text rest ∷ first_texts (count - (place + 1)) (after_text rest)
      ≡ first_texts count bytes
  next_stands within =
      ap (λ ts. texts ++ ts) (sym (first_more count place rest within)) ∙ so_far.read

  -- it is none of those before it, if all differ
  pub next_free : place < count → IsDistinct bytes_eq (first_texts count bytes)
      → list_any (bytes_eq (first_text rest)) texts ≡ false
  next_free within different =
      none_before texts (first_texts (count - (place + 1)) (after_text rest)) (first_text rest)
      (subst (IsDistinct bytes_eq) (sym (next_stands within)) different)

  -- and there is room for it, if there is room for all
  pub next_fits : (most : ℕ) → place < count → length (first_texts count bytes) ≤ most
      → length texts < most
  next_fits most within few =
      let others = first_texts (count - (place + 1)) (after_text rest) in
      let all = ap length (next_stands within) in
      let sum = length-append texts (first_text rest ∷ others) in
      omega (arith, all, sum, few)

  -- all were read
  pub all_read : count ≤ place → texts ≡ first_texts count bytes
  all_read past =
      sym (append-nil texts)
      ∙ ap (λ ts. texts ++ ts) (sym (first_all count place rest past)) ∙ so_far.read

-- ---- what was put reads back
cut_first : (text rest : List ℕ) → first_text (sized text ++ rest) ≡ text
cut_first text rest = take_at text rest (length text) refl

cut_after : (text rest : List ℕ) → after_text (sized text ++ rest) ≡ rest
cut_after text rest = drop_at text rest (length text) refl

texts_back : (texts : List (List ℕ)) (rest : List ℕ)
    → first_texts (length texts) (flat_map sized texts ++ rest) ≡ texts
unfolding first_texts
texts_back [] rest = refl
texts_back (text ∷ texts) rest =
    let others = flat_map sized texts ++ rest in
    let split = append_assoc (sized text) (flat_map sized texts) rest in
    ap (first_texts (suc (length texts))) split
    ∙ ap (λ t. t ∷ first_texts (length texts) (after_text (sized text ++ others)))
    (cut_first text others)
    ∙ ap (λ bytes. text ∷ first_texts (length texts) bytes) (cut_after text others)
    ∙ ap (λ ts. text ∷ ts) (texts_back texts rest)

rest_back : (texts : List (List ℕ)) (rest : List ℕ)
    → after_texts (length texts) (flat_map sized texts ++ rest) ≡ rest
unfolding after_texts
rest_back [] rest = refl
rest_back (text ∷ texts) rest =
    let others = flat_map sized texts ++ rest in
    ap (after_texts (suc (length texts))) (append_assoc (sized text) (flat_map sized texts) rest)
    ∙ ap (after_texts (length texts)) (cut_after text others)
    ∙ rest_back texts rest

-- an endpoint whose texts were put is read again
pub endpoint_back : (e : EndpointParts) → endpoint_read e.kind e.address (texts_of e) ≡ e
endpoint_back e =
    let aliases = counted e.aliases in
    let technologies = counted e.technologies in
    let lists = aliases ++ technologies in
    let names = sized e.zone ++ lists in
    let whole = texts_of e in
    let split : whole ≡ sized e.id ++ names =
    append_assoc (sized e.id ++ sized e.zone) aliases technologies
    ∙ append_assoc (sized e.id) (sized e.zone) lists in
    let after_id : after_text whole ≡ names = ap after_text split ∙ cut_after e.id names in
    let after_zone : lists_in whole ≡ lists = ap after_text after_id ∙ cut_after e.zone lists in
    let after_aliases : after_counted (lists_in whole) ≡ technologies =
    ap after_counted after_zone ∙ rest_back e.aliases technologies in
    let made : List ℕ → List ℕ → List (List ℕ) → List (List ℕ) → EndpointParts =
    λ id zone aliases technologies. record {
      kind = e.kind;
      id = id;
      zone = zone;
      address = e.address;
      aliases = aliases;
      technologies = technologies;
    } in
    ap (λ id. made id (first_text (after_text whole)) (counted_texts (lists_in whole))
    (counted_texts (after_counted (lists_in whole))))
    (ap first_text split ∙ cut_first e.id names)
    ∙ ap (λ zone. made e.id zone (counted_texts (lists_in whole))
    (counted_texts (after_counted (lists_in whole))))
    (ap first_text after_id ∙ cut_first e.zone lists)
    ∙ ap (λ ts. made e.id e.zone ts (counted_texts (after_counted (lists_in whole))))
    (ap counted_texts after_zone ∙ texts_back e.aliases technologies)
    ∙ ap (made e.id e.zone e.aliases)
    (ap counted_texts after_aliases
    ∙ ap (first_texts (length e.technologies)) (sym (append-nil (flat_map sized e.technologies)))
    ∙ texts_back e.technologies [])
