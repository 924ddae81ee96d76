-- Tests of each field of a record.
use Rattle.std.proofs.Common.{◌≡◌, ℕ, zero, suc, ◌+◌, ◌<◌, length, Bool, true, false, List, [], ◌∷◌, take, refl, ap, ◌∙◌, arith}
use Rattle.std.specs.Prelude.{◌&&◌}
use Rattle.std.specs.List.{list_all}
use Rattle.std.specs.Str.{is_utf8}
use Rattle.std.proofs.lemmas.Bool.{and_parts, and_from}
use Rattle.csv.specs.Records.{field_at}
use Rattle.call_files.specs.Rows.{text_at}

text_next : (fields : List (List ℕ)) (place : ℕ) → list_all is_utf8 (take place fields) ≡ true
    → is_utf8 (text_at fields place) ≡ true → list_all is_utf8 (take (suc place) fields) ≡ true
unfolding field_at
text_next [] zero h k = refl
text_next [] (suc place) h k = refl
text_next (f ∷ fs) zero h k = and_from _ _ k refl
text_next (f ∷ fs) (suc place) h k =
    let p = and_parts (is_utf8 f) (list_all is_utf8 (take place fs)) h in
    and_from _ _ p.0 (text_next fs place p.1 k)

-- one more field is text
pub text_more : (fields : List (List ℕ)) (place : ℕ) → list_all is_utf8 (take place fields) ≡ true
    → is_utf8 (text_at fields place) ≡ true → list_all is_utf8 (take (place + 1) fields) ≡ true
text_more fields place h k =
    let next : place + 1 ≡ suc place = omega arith in
    ap (λ n. list_all is_utf8 (take n fields)) next ∙ text_next fields place h k

both_false : (b : Bool) (c : Bool) → c ≡ false → (b && c) ≡ false
both_false true c h = h
both_false false c h = refl

-- one field is not
pub text_lacking : (fields : List (List ℕ)) (place : ℕ) → place < length fields
    → is_utf8 (text_at fields place) ≡ false → list_all is_utf8 fields ≡ false
unfolding field_at
text_lacking [] place within h = absurd (omega (arith, within))
text_lacking (f ∷ fs) zero within h = ap (λ b. b && list_all is_utf8 fs) h
text_lacking (f ∷ fs) (suc place) within h =
    both_false (is_utf8 f) _ (text_lacking fs place (omega (arith, within)) h)
