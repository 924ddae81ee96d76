-- Texts that are filled up with stars.
use Rattle.std.proofs.Common.{◌≡◌, ℕ, ◌+◌, ◌-◌, ◌≤◌, ◌&&◌, Bool, true, false, nat_le, List, ◌++◌, length, length-append, take, drop, refl, sym, ap, ◌∙◌, arith}
use Rattle.std.specs.Prelude.{Option, Some, None, replicate}
use Rattle.std.specs.Bool.{then_some}
use Rattle.std.specs.List.{list_all}
use Rattle.std.specs.Option.{ok_or}
use Rattle.std.specs.Result.{result_ok}
use Rattle.std.proofs.lemmas.Bool.Decides.{nat_tests}
use Rattle.std.proofs.lemmas.List.{length-replicate, take-replicate, drop-replicate}
use Rattle.std.proofs.Math.Seq.{take-append_seam, take-append-add, drop-append-add}
use Rattle.gk_terms.specs.Dialled.{dialled_of, is_dialled_byte}
use Rattle.plan_difference.specs.Walk.{starred}

-- a text that is too long is not dialled digits
pub too_long : (head stem : List ℕ) (stars : ℕ)
    → nat_le (length head + length stem + stars) 32 ≡ false
    → dialled_of (starred (head ++ stem) stars) ≡ None
too_long head stem stars h =
    let size : length (starred (head ++ stem) stars) ≡ length head + length stem + stars =
    length-append (head ++ stem) (replicate stars 42)
    ∙ (λ i. length-append head stem i + length-replicate {A = ℕ} stars 42 i) in
    ap (λ t. then_some t (starred (head ++ stem) stars))
    (by (length (starred (head ++ stem) stars))
    (list_all is_dialled_byte (starred (head ++ stem) stars)) size)
  where
    by : (n : ℕ) (t : Bool) → n ≡ length head + length stem + stars
        → (nat_le 1 n && nat_le n 32 && t) ≡ false
    by n t e = grind (arith, nat_tests)

-- both parts written over stars
pub spelled_is : (head stem : List ℕ) (first second : List ℕ)
    → first ≡ head ++ drop (length head) (replicate 32 42)
    → second ≡ take (length head) first ++ stem ++ drop (length head + length stem) first
    → second ≡ (head ++ stem) ++ replicate (32 - length head - length stem) 42
spelled_is head stem first second e f =
    f ∙ ap (λ t. take (length head) t ++ stem ++ drop (length head + length stem) t) e
    ∙ (λ i. take-append_seam head (drop (length head) (replicate 32 42)) i ++ stem
    ++ drop-append-add head (drop (length head) (replicate 32 42)) (length stem) i)
    ∙ ap (λ rest. (head ++ stem) ++ rest)
    (ap (drop (length stem)) (drop-replicate (length head) 32 42)
    ∙ drop-replicate (length stem) (32 - length head) 42)

-- the front of it
pub front_is : (head stem : List ℕ) (stars : ℕ)
    → length head + length stem + stars ≤ 32
    → take (length head + length stem + stars)
    ((head ++ stem) ++ replicate (32 - length head - length stem) 42)
    ≡ starred (head ++ stem) stars
front_is head stem stars h =
    ap (λ n. take (n + stars) ((head ++ stem) ++ replicate (32 - length head - length stem) 42))
    (sym (length-append head stem))
    ∙ take-append-add (head ++ stem) (replicate (32 - length head - length stem) 42) stars
    ∙ ap (λ rest. (head ++ stem) ++ rest)
    (take-replicate stars (32 - length head - length stem) 42 (omega (arith, h)))

pub zero_plus : (n : ℕ) → 0 + n ≡ n
zero_plus n = omega arith

pub at_most : (n m : ℕ) → nat_le n m ≡ true → n ≤ m
at_most n m h = grind (arith, nat_tests)

-- an option that goes through a result
pub ok_of : {X F : Type 0} (found : Option X) (fault : F) → result_ok (ok_or found fault) ≡ found
ok_of None fault = refl
ok_of (Some x) fault = refl
