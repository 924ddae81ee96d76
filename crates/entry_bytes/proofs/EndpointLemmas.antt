-- Texts that are added one after another, after their count.
use Rattle.std.proofs.Common.{◌≡◌, ℕ, ◌+◌, ◌<◌, true, List, [], ◌∷◌, ◌++◌, length, get_or, take, sym, ap, subst, ◌∙◌, arith}
use Rattle.std.specs.Prelude.{Bool, ◌&&◌}
use Rattle.std.specs.Global.{Vec}
use Rattle.std.specs.List.{flat_map, list_all}
use Rattle.std.proofs.lemmas.List.{take_more, flat_map_more}
use Rattle.std.proofs.lemmas.List.Folds.{length-flat_map-take, list_all_more}
use Rattle.entry_bytes.specs.EndpointTexts.{sized, counted}
use Rattle.field_bytes.specs.Adding.{Adds, HasRoom}
use Rattle.field_bytes.proofs.AddingLemmas.{both_added}

-- one more text after those before it
one_more : (texts : List (List ℕ)) (count : ℕ) (text : List ℕ) → count < length texts
    → text ≡ get_or texts count text
    → flat_map sized (take (count + 1) texts) ≡ flat_map sized (take count texts) ++ sized text
one_more texts count text within is =
    ap (flat_map sized) (take_more texts count text within)
    ∙ sym (flat_map_more sized [] (take count texts) (get_or texts count text))
    ∙ ap (λ (t : List ℕ). flat_map sized (take count texts) ++ sized t) (sym is)

-- the count of the texts and so many of them were added
abbrev pub so_many : List (List ℕ) → ℕ → List ℕ
so_many texts count = length texts ∷ flat_map sized (take count texts)

module _ (old now : Vec ℕ) (texts : List (List ℕ)) (count : ℕ) (text : List ℕ)
    (within : count < length texts) (is : text ≡ get_or texts count text)
    (so_far : Adds old (so_many texts count) now) where
  -- there is room for the next one
  pub room_for_one : HasRoom old (counted texts) → HasRoom now (sized text)
  room_for_one room =
      let added = so_far.count in
      let more = so_far.room in
      let least = length-flat_map-take sized texts count text within in
      let same = ap length is in
      omega (arith, added, more, least, same, room)

  -- and it was added
  pub one_added : (new : Vec ℕ) → Adds now (sized text) new
      → Adds old (so_many texts (count + 1)) new
  one_added new next =
      subst (λ (bytes : List ℕ). Adds old bytes new)
      (ap (λ (all : List ℕ). length texts ∷ all) (sym (one_more texts count text within is)))
      (both_added old now (so_many texts count) (sized text) so_far new next)

-- one more text that passes a test, after others that do
pub one_more_passes : (test : List ℕ → Bool) (texts : List (List ℕ)) (count : ℕ) (text : List ℕ)
    → count < length texts → text ≡ get_or texts count text → test text ≡ true
    → list_all test (take count texts) ≡ true → list_all test (take (count + 1) texts) ≡ true
one_more_passes test texts count text within is passes all =
    list_all_more test texts count text within
    ∙ ap (λ (b : Bool). b && test (get_or texts count text)) all ∙ ap test (sym is) ∙ passes
