-- Sets as they are found.
use Rattle.std.proofs.Common.{◌≡◌, ℕ, zero, suc, ◌&&◌, ◌⊎◌, inl, inr, Bool, true, false, cond, List, [], ◌∷◌, ◌++◌, length, slice_get, refl, sym, ap, subst, ◌∙◌, true≢false}
use Rattle.std.specs.Prelude.{Option, Some, None, Result, Ok, Err, OnOk, OnErr, is_some, bytes_eq, unwrap_or}
use Rattle.std.specs.Option.{option_eq}
use Rattle.std.specs.Map.{lookup}
use Rattle.std.proofs.lemmas.Bool.{and_parts}
use Rattle.std.proofs.lemmas.Slice.Eq.{bytes_eq-Decides}
use Rattle.digit_patterns.specs.PatternParts.{PatternParts}
use Rattle.digit_patterns.specs.Pattern.{same_pattern}
use Rattle.gk_commands.specs.declared.commands.Command.{Command}
use Rattle.compiler.proofs.FirstRows.{same_pattern-same}
use Rattle.compiler.proofs.RowLemmas.{same_pattern-itself}
use Rattle.gk_terms.specs.Dialled.{IsDialled}
use Rattle.plan_difference.specs.declared.number_sets.NumberSet.{NumberSet}
use Rattle.plan_difference.specs.Entries.{Entry, Entries, EntryAt, AreOnce, IsIn, same_set, NotedBy, HaveDigits, Grows, IsEntered}
use Rattle.plan_difference.specs.Sets.{set_of, Covers}

-- ---- the test of two sets
options_same : {X : Type 0} (eq : X → X → Bool) → ((x y : X) → eq x y ≡ true → x ≡ y)
    → (x y : Option X) → option_eq eq x y ≡ true → x ≡ y
options_same eq h None None e = refl
options_same eq h None (Some y) e = absurd (true≢false (sym e))
options_same eq h (Some x) None e = absurd (true≢false (sym e))
options_same eq h (Some x) (Some y) e = ap (λ z. Some z) (h x y e)

option_itself : {X : Type 0} (eq : X → X → Bool) → ((x : X) → eq x x ≡ true)
    → (x : Option X) → option_eq eq x x ≡ true
option_itself eq h None = refl
option_itself eq h (Some x) = h x

pub same_texts : (x y : Option (List ℕ)) → option_eq bytes_eq x y ≡ true → x ≡ y
same_texts = options_same bytes_eq (λ x y. (bytes_eq-Decides x y).0)

same_patterns : (x y : Option PatternParts) → option_eq same_pattern x y ≡ true → x ≡ y
same_patterns = options_same same_pattern same_pattern-same

sets_same : (set other : NumberSet) → same_set set other ≡ true → set ≡ other
sets_same set other e =
    let a = and_parts (option_eq bytes_eq set.old_technology other.old_technology)
    (option_eq bytes_eq set.new_technology other.new_technology
    && (option_eq same_pattern set.old_row other.old_row
    && option_eq same_pattern set.new_row other.new_row)) e in
    let b = and_parts (option_eq bytes_eq set.new_technology other.new_technology)
    (option_eq same_pattern set.old_row other.old_row
    && option_eq same_pattern set.new_row other.new_row) a.1 in
    let d = and_parts (option_eq same_pattern set.old_row other.old_row)
    (option_eq same_pattern set.new_row other.new_row) b.1 in
    let p = same_texts set.old_technology other.old_technology a.0 in
    let q = same_texts set.new_technology other.new_technology b.0 in
    let r = same_patterns set.old_row other.old_row d.0 in
    let s = same_patterns set.new_row other.new_row d.1 in
    λ i. record { old_technology = p i; new_technology = q i; old_row = r i; new_row = s i }

set_itself : (set : NumberSet) → same_set set set ≡ true
set_itself set =
    let text = option_itself bytes_eq (λ x. (bytes_eq-Decides x x).1 refl) in
    let pattern = option_itself same_pattern same_pattern-itself in
    let a = text set.old_technology in
    let b = text set.new_technology in
    let d = pattern set.old_row in
    λ i. both (a i) (both (b i) (both (d i) (pattern set.new_row i)))
  where
    both : Bool → Bool → Bool
    both x y = x && y

-- ---- what a look-up says
is_in : (entries : Entries) (set : NumberSet)
    → is_some (lookup (same_set set) entries) ≡ true → IsIn entries set
is_in [] set e = absurd (true≢false (sym e))
is_in (entry ∷ entries) set e = by (same_set set entry.0) refl e (is_in entries set)
  where
    by : (t : Bool) → same_set set entry.0 ≡ t
        → is_some (cond t (Some entry.1) (lookup (same_set set) entries)) ≡ true
        → (is_some (lookup (same_set set) entries) ≡ true → IsIn entries set)
        → IsIn (entry ∷ entries) set
    by true f g rest = record {
      place = 0;
      digits = entry.1;
      stands = ap (λ s. Some (s, entry.1)) (sym (sets_same set entry.0 f));
    }
    by false f g rest =
        let there = rest g in
        record { place = suc there.place; digits = there.digits; stands = there.stands }

not_in : (entries : Entries) (set : NumberSet)
    → is_some (lookup (same_set set) entries) ≡ false → IsIn entries set → ⊥
not_in entries set e there = by entries there.place e there.stands
  where
    by : (entries : Entries) (place : ℕ) → is_some (lookup (same_set set) entries) ≡ false
        → EntryAt entries place set there.digits → ⊥
    by [] place f at = let bad : ⊥ = cc in bad
    by (entry ∷ entries) zero f at =
        let p : same_set set entry.0 ≡ true =
        ap (λ o. same_set set (unwrap_or o entry).0) at ∙ set_itself set in
        true≢false (sym (ap (λ t. is_some (cond t (Some entry.1)
        (lookup (same_set set) entries))) p)
        ∙ f)
    by (entry ∷ entries) (suc place) f at =
        step (same_set set entry.0) f (λ g. by entries place g at)
      where
        step : (t : Bool) → is_some (cond t (Some entry.1) (lookup (same_set set) entries)) ≡ false
            → (is_some (lookup (same_set set) entries) ≡ false → ⊥) → ⊥
        step true g rest = true≢false g
        step false g rest = rest g

-- nothing was found
pub none_found : {X : Type 0} (found : Option X) → is_some found ≡ false → found ≡ None
none_found None e = refl
none_found (Some x) e = absurd (true≢false e)

-- ---- one more entry
abbrev entry_of : NumberSet → List ℕ → Entry
entry_of set digits = (set, digits)

abbrev some_entry : Entry → Option Entry
some_entry entry = Some entry

pub at_end : (entries : Entries) (last : Entry)
    → slice_get (entries ++ last ∷ []) (length entries) ≡ Some last
at_end [] last = refl
at_end (entry ∷ entries) last = at_end entries last

at_front : (entries : Entries) (last entry : Entry) (place : ℕ)
    → slice_get entries place ≡ Some entry
    → slice_get (entries ++ last ∷ []) place ≡ Some entry
at_front [] last entry place e = absurd (let bad : ⊥ = cc in bad)
at_front (first ∷ entries) last entry zero e = e
at_front (first ∷ entries) last entry (suc place) e = at_front entries last entry place e

-- an entry stands where it stood, or it is the last one
split : (entries : Entries) (last entry : Entry) (place : ℕ)
    → slice_get (entries ++ last ∷ []) place ≡ Some entry
    → (slice_get entries place ≡ Some entry) ⊎ ((place ≡ length entries) × (entry ≡ last))
split [] last entry zero e = inr (refl, ap (λ o. unwrap_or o entry) (sym e))
split [] last entry (suc place) e = absurd (let bad : ⊥ = cc in bad)
split (first ∷ entries) last entry zero e = inl e
split (first ∷ entries) last entry (suc place) e = by (split entries last entry place e)
  where
    by : (slice_get entries place ≡ Some entry) ⊎ ((place ≡ length entries) × (entry ≡ last))
        → (slice_get entries place ≡ Some entry)
        ⊎ ((suc place ≡ suc (length entries)) × (entry ≡ last))
    by (inl f) = inl f
    by (inr p) = inr (ap suc p.0, p.1)

once_more : (entries : Entries) (set : NumberSet) (digits : List ℕ) → AreOnce entries
    → (IsIn entries set → ⊥) → AreOnce (entries ++ (set, digits) ∷ [])
once_more entries set digits once none place other one text text' a b =
    by (split entries (set, digits) (one, text) place a)
    (split entries (set, digits) (one, text') other b)
  where
    by : (slice_get entries place ≡ Some (one, text))
        ⊎ ((place ≡ length entries) × (entry_of one text ≡ entry_of set digits))
        → (slice_get entries other ≡ Some (one, text'))
        ⊎ ((other ≡ length entries) × (entry_of one text' ≡ entry_of set digits)) → place ≡ other
    by (inl e) (inl f) = once place other one text text' e f
    by (inl e) (inr f) =
        absurd (none (record {
          place = place;
          digits = text;
          stands = e ∙ ap (λ s. some_entry (s, text)) (ap (λ p. p.0) f.1);
        }))
    by (inr e) (inl f) =
        absurd (none (record {
          place = other;
          digits = text';
          stands = f ∙ ap (λ s. some_entry (s, text')) (ap (λ p. p.0) e.1);
        }))
    by (inr e) (inr f) = e.0 ∙ sym f.0

-- ---- a set is noted
module _ (before after : Entries) (set : NumberSet) (digits : List ℕ) where
  pub there_already : (held : NumberSet) → held ≡ set
      → is_some (lookup (same_set held) before) ≡ true → after ≡ before
      → NotedBy before after set digits
  there_already held e f g =
      subst (λ s. NotedBy before after s digits) e (inl (g, is_in before held f))

  pub put_last : (held : NumberSet) → held ≡ set
      → is_some (lookup (same_set held) before) ≡ false
      → after ≡ before ++ (held, digits) ∷ [] → NotedBy before after set digits
  put_last held e f g =
      subst (λ s. NotedBy before after s digits) e (inr (g, not_in before held f))

  pub once_noted : NotedBy before after set digits → AreOnce before → AreOnce after
  once_noted (inl e) once = subst AreOnce (sym e.0) once
  once_noted (inr e) once = subst AreOnce (sym e.0) (once_more before set digits once e.1)

  pub once_by : {T F : Type 0} (result : Result T F)
      → OnOk result (NotedBy before after set digits) → OnErr result (after ≡ before)
      → AreOnce before → AreOnce after
  once_by (Ok done) h g once = once_noted h once
  once_by (Err fault) h g once = subst AreOnce (sym g) once

  module _ (old new : List Command) where
    pub grows_noted : NotedBy before after set digits → Covers old new set digits
        → Grows old new before after
    grows_noted (inl e) s = record {
      covered = λ h. subst (HaveDigits old new) (sym e.0) h;
      kept = λ one there. subst (λ es. IsIn es one) (sym e.0) there;
    }
    grows_noted (inr e) s = record {
      covered = λ h. subst (HaveDigits old new) (sym e.0)
          (λ place one text at. by h (split before (set, digits) (one, text) place at));
      kept = λ one there. subst (λ es. IsIn es one) (sym e.0) (record {
        place = there.place;
        digits = there.digits;
        stands = at_front before (set, digits) (one, there.digits) there.place there.stands;
      });
    }
      where
        by : HaveDigits old new before → {place : ℕ} {one : NumberSet} {text : List ℕ}
            → (slice_get before place ≡ Some (one, text))
            ⊎ ((place ≡ length before) × (entry_of one text ≡ entry_of set digits))
            → Covers old new one text
        by h {place} {one} {text} (inl f) = h place one text f
        by h {place} {one} {text} (inr f) =
            subst (λ p. Covers old new p.0 p.1) (sym f.1) s

    pub in_noted : NotedBy before after set digits → IsIn after set
    in_noted (inl e) = subst (λ es. IsIn es set) (sym e.0) e.1
    in_noted (inr e) = subst (λ es. IsIn es set) (sym e.0) (record {
      place = length before;
      digits = digits;
      stands = at_end before (set, digits);
    })

-- ---- growing
module _ (old new : List Command) where
  pub grows_nothing : (entries : Entries) → Grows old new entries entries
  grows_nothing entries = record { covered = λ h. h; kept = λ set there. there }

  pub grows_then : (before between after : Entries) → Grows old new before between
      → Grows old new between after → Grows old new before after
  grows_then before between after g h = record {
    covered = λ s. h.covered (g.covered s);
    kept = λ set there. h.kept set (g.kept set there);
  }

  -- digits are tried
  module _ (before after : Entries) (digits : List ℕ) {T F : Type 0} (result : Result T F)
      (dialled : IsDialled digits)
      (noted : OnOk result (NotedBy before after (set_of old new digits) digits)) where
    pub added_grows : OnOk result (Grows old new before after)
    added_grows = by result noted
      where
        by : (r : Result T F) → OnOk r (NotedBy before after (set_of old new digits) digits)
            → OnOk r (Grows old new before after)
        by (Ok done) h =
            grows_noted before after (set_of old new digits) digits old new h (dialled, refl)
        by (Err fault) h = tt

    pub added_enters : OnOk result (IsEntered old new after digits)
    added_enters = by result noted
      where
        by : (r : Result T F) → OnOk r (NotedBy before after (set_of old new digits) digits)
            → OnOk r (IsEntered old new after digits)
        by (Ok done) h = in_noted before after (set_of old new digits) digits old new h
        by (Err fault) h = tt
