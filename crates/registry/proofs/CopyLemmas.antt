-- Endpoints that are put one after another into an empty list.
use Rattle.std.proofs.Common.{◌≡◌, ℕ, zero, suc, ◌+◌, ◌<◌, ◌≤◌, Bool, true, false, not, cond, ◌&&◌, ◌||◌, List, [], ◌∷◌, ◌++◌, length, length-append, ◌^◌, get_or, drop, slice_get, find, refl, sym, ap, subst, ◌∙◌, arith}
use Rattle.std.specs.Prelude.{Option, Some, None, bytes_eq}
use denote.Ref.{Bor}
use Rattle.std.specs.Option.{option_copied, option_map}
use Rattle.std.specs.List.{list_any, position_or_len}
use Rattle.std.specs.Cmp.Lexicographic.{same_text}
use Rattle.std.proofs.lemmas.Bool.{both_ways, and_parts}
use Rattle.std.proofs.lemmas.Cmp.{nat_list_eq_equiv}
use Rattle.std.proofs.lemmas.List.Folds.{find_at}
use Rattle.std.proofs.lemmas.Option.{none-some, slice_get_within}
use Rattle.gk_terms.proofs.ChoiceLemmas.{find_passes}
use Rattle.registry.specs.Endpoint.{EndpointParts, has_alias, share_alias}
use Rattle.registry.specs.Registration.{has_id, is_registered, alias_is_taken, with_endpoint, HaveDifferentIds, ShareNoAlias}
use Rattle.registry.proofs.FindLemmas.{found-none, also_passes}
use Rattle.registry.proofs.IndexChanges.{put_at, put_later}

-- ---- places in two lists
front_place : {X : Type 0} (xs ys : List X) (i : ℕ) (x : X) → slice_get xs i ≡ Some x
    → slice_get (xs ++ ys) i ≡ Some x
front_place [] ys i x h = absurd (none-some x h)
front_place (z ∷ zs) ys zero x h = h
front_place (z ∷ zs) ys (suc i) x h = front_place zs ys i x h

middle_place : {X : Type 0} (xs ys : List X) (x : X)
    → slice_get (xs ++ x ∷ ys) (length xs) ≡ Some x
middle_place [] ys x = refl
middle_place (z ∷ zs) ys x = middle_place zs ys x

-- ---- the next one of a list
module _ (xs rest : List EndpointParts) (e : EndpointParts) where
  -- an endpoint before it is not the same
  apart : (p : EndpointParts → Bool) (f : EndpointParts) → find p xs ≡ Some f
      → ((i : ℕ) → slice_get (xs ++ e ∷ rest) i ≡ Some f
      → slice_get (xs ++ e ∷ rest) (length xs) ≡ Some e → i ≡ length xs) → ⊥
  apart p f found same =
      let at : slice_get xs (position_or_len p xs) ≡ Some f = sym (find_at p xs) ∙ found in
      let one = same (position_or_len p xs) (front_place xs (e ∷ rest) (position_or_len p xs) f at)
      (middle_place xs rest e) in
      let low = slice_get_within xs (position_or_len p xs) f at in
      let never : ⊥ = omega (arith, one, low) in never

  -- its ID is new
  pub new_id : HaveDifferentIds (xs ++ e ∷ rest) → is_registered xs e.id ≡ false
  new_id different = by (find (has_id e.id) xs) refl
    where
      by : (found : Option EndpointParts) → find (has_id e.id) xs ≡ found
          → is_registered xs e.id ≡ false
      by None h = found-none (has_id e.id) xs h
      by (Some f) h =
          absurd (apart (has_id e.id) f h
          (λ i at_f at_e. different f e i (length xs) at_f at_e
          (same_text f.id e.id (sym (find_passes (has_id e.id) xs f h)))))

  -- its aliases are new
  pub new_aliases : ShareNoAlias (xs ++ e ∷ rest) → alias_is_taken xs e ≡ false
  new_aliases unshared =
      by (find (λ f. not (has_id e.id f) && share_alias f e) xs) refl
    where
      shared : (f : EndpointParts) → find (λ f. not (has_id e.id f) && share_alias f e) xs ≡ Some f
          → (found : Option (List ℕ)) → find (has_alias f) e.aliases ≡ found
          → list_any (has_alias f) e.aliases ≡ true → ⊥
      shared f h None k has = both_ways (list_any (has_alias f) e.aliases)
          (found-none (has_alias f) e.aliases k) has
      shared f h (Some alias) k has =
          apart (λ f. not (has_id e.id f) && share_alias f e) f h
          (λ i at_f at_e. unshared alias f e i (length xs) at_f at_e
          (find_passes (has_alias f) e.aliases alias k)
          (also_passes (has_alias f) (bytes_eq alias) e.aliases alias k
          (nat_list_eq_equiv.refl alias)))

      by : (found : Option EndpointParts)
          → find (λ f. not (has_id e.id f) && share_alias f e) xs ≡ found
          → alias_is_taken xs e ≡ false
      by None h = found-none (λ f. not (has_id e.id f) && share_alias f e) xs h
      by (Some f) h =
          absurd (shared f h (find (has_alias f) e.aliases) refl
          (and_parts (not (has_id e.id f)) (share_alias f e)
          (find_passes (λ f. not (has_id e.id f) && share_alias f e) xs f h)).1)

-- a new endpoint goes to the end
pub put_last : (e : EndpointParts) (xs : List EndpointParts) → is_registered xs e.id ≡ false
    → with_endpoint xs e ≡ xs ++ e ∷ []
put_last e [] h = refl
put_last e (f ∷ fs) h = by (has_id e.id f) h (put_last e fs)
  where
    by : (b : Bool) → (b || is_registered fs e.id) ≡ false
        → (is_registered fs e.id ≡ false → with_endpoint fs e ≡ fs ++ e ∷ [])
        → put_at e (f ∷ fs) (cond (not b) (1 + position_or_len (has_id e.id) fs) 0)
        ≡ f ∷ (fs ++ e ∷ [])
    by true h rest = absurd (both_ways true h refl)
    by false h rest =
        put_later e f fs (position_or_len (has_id e.id) fs) ∙ ap (λ ys. f ∷ ys) (rest h)

-- ---- one step of a copy
-- what was copied and what is left are the whole
pub record IsCopied (all copied left : List EndpointParts) (next : ℕ) : Type 0 where
  pub whole : copied ++ left ≡ all
  pub counted : next ≤ length copied

one_more : {X : Type 0} (xs ys : List X) (x : X) → xs ++ x ∷ ys ≡ (xs ++ x ∷ []) ++ ys
one_more [] ys x = refl
one_more (z ∷ zs) ys x = ap (λ l. z ∷ l) (one_more zs ys x)

longer : {X : Type 0} (xs : List X) (x : X) → length (xs ++ x ∷ []) ≡ suc (length xs)
longer [] x = refl
longer (z ∷ zs) x = ap suc (longer zs x)

-- what is left of a list begins with the element at that place
left_after : (xs : List EndpointParts) (n : ℕ) (e : EndpointParts) → n < length xs
    → e ≡ get_or xs n e → drop n xs ≡ e ∷ drop (suc n) xs
left_after [] n e within is = let never : ⊥ = omega (arith, within) in absurd never
left_after (x ∷ xs) zero e within is = ap (λ y. y ∷ xs) (sym is)
left_after (x ∷ xs) (suc n) e within is = left_after xs n e (omega (arith, within)) is

pub left_at : (xs : List EndpointParts) (n : ℕ) (e : EndpointParts) → n < length xs
    → e ≡ get_or xs n e → drop n xs ≡ e ∷ drop (n + 1) xs
left_at xs n e within is =
    let next : suc n ≡ n + 1 = omega arith in
    left_after xs n e within is ∙ ap (λ k. e ∷ drop k xs) next

module _ (all copied left rest : List EndpointParts) (e : EndpointParts) (next : ℕ)
    (before : IsCopied all copied left next) (head : left ≡ e ∷ rest)
    (different : HaveDifferentIds all) (unshared : ShareNoAlias all) where
  split : copied ++ e ∷ rest ≡ all
  split = ap (λ l. copied ++ l) (sym head) ∙ before.whole

  pub copy_free : alias_is_taken copied e ≡ false
  copy_free = new_aliases copied rest e (subst ShareNoAlias (sym split) unshared)

  pub copy_more : (new : List EndpointParts) (after : ℕ) → new ≡ with_endpoint copied e
      → after ≤ next + 1 → IsCopied all new rest after
  copy_more new after put grown =
      let last = put ∙ put_last e copied
      (new_id copied rest e (subst HaveDifferentIds (sym split) different)) in
      let long = ap length last ∙ longer copied e in
      let low = before.counted in
      record {
        whole = ap (λ l. l ++ rest) last ∙ sym (one_more copied rest e) ∙ split;
        counted = omega (arith, long, low, grown);
      }

  pub copy_room : length all < 2 ^ 32 → next + 1 < 2 ^ 32
  copy_room few =
      let low = before.counted in
      let long = sym (ap length (one_more copied rest e)) ∙ ap length split in
      let more = longer copied e in
      let fits = length-append (copied ++ e ∷ []) rest in
      omega (arith, few, low, long, more, fits)

-- ---- options of references
pub copied_map : {X : Type 0} (o : Option (Bor X)) → option_copied o ≡ option_map (λ x. x.now) o
copied_map None = refl
copied_map (Some x) = refl
