-- Calls under their numbers in any order, and the same in order of number: what is found stays
-- found, so a change of the one is a change of the other.
use Rattle.std.proofs.Common.{◌≡◌, ◌<◌, ℕ, suc, Bool, true, false, cond, List, [], ◌∷◌, length, refl, sym, ap, subst, ◌∙◌, arith}
use Rattle.std.specs.Prelude.{nat_eq, Some, None, IsSome}
use Rattle.std.specs.declared.cmp.Ordering.{Ordering}
use Rattle.std.specs.declared.cmp.Ordering.TheVariants.{Less, Equal, Greater}
use Rattle.std.specs.Ordering.{nat_cmp, match_ordering, is_eq}
use Rattle.std.specs.Cmp.{unsigned_tied, nat_cmp_is}
use Rattle.std.specs.BTreeMap.{is_at, insert_entry}
use Rattle.std.specs.List.{AllByRecursion, IsDistinct}
use Rattle.std.specs.List.Sorted.{IsStrictlySortedBy}
use Rattle.std.specs.Map.{keys_of, lookup, remove_entry, set_value}
use Rattle.std.proofs.lemmas.Bool.{eqb-true, ne_eqb}
use Rattle.std.proofs.lemmas.Cmp.{nat_cmp_total, nat_eq_equiv, eq_by_cmp_equiv}
use Rattle.std.proofs.lemmas.Option.{none-some, same_Some}
use Rattle.std.proofs.lemmas.Map.{lookup-none, lookup-set_value, lookup-remove_entry, keys-set_value}
use Rattle.std.proofs.lemmas.Map.Keys.{IsDistinct-from_sorted, IsDistinct-head, IsDistinct-tail, sorted_tail}
use Rattle.std.proofs.lemmas.Map.Entries.{lookup_head, lookup_tail, none_past_head, none_below_head}
use Rattle.bandwidth.specs.declared.open_call.OpenCall.{OpenCall}
use Rattle.bandwidth.specs.CallList.{by_number}
use Rattle.bandwidth.proofs.ListLemmas.{below, same, above}

abbrev Entries : Type 0
Entries = List (ℕ × OpenCall)

abbrev AreSorted : Entries → Type 0
AreSorted entries = IsStrictlySortedBy nat_cmp (keys_of entries)

-- ---- what holds of each number
all_with : (P : ℕ → Type 0) (entries : Entries) (number : ℕ) (call : OpenCall)
    → AllByRecursion P (keys_of entries) → P number
    → AllByRecursion P (keys_of (insert_entry nat_cmp entries number call))
all_with P [] number call h own = (own, tt)
all_with P (e ∷ es) number call h own =
    by (nat_cmp number e.0) (all_with P es number call h.1 own)
  where
    by : (o : Ordering) → AllByRecursion P (keys_of (insert_entry nat_cmp es number call))
        → AllByRecursion P (keys_of (match_ordering o ((number, call) ∷ e ∷ es)
        ((e.0, call) ∷ es) (e ∷ insert_entry nat_cmp es number call)))
    by Less rest = (own, h)
    by Equal rest = h
    by Greater rest = (h.0, rest)

all_without : (P : ℕ → Type 0) (entries : Entries) (test : ℕ → Bool)
    → AllByRecursion P (keys_of entries) → AllByRecursion P (keys_of (remove_entry test entries))
all_without P [] test h = tt
all_without P (e ∷ es) test h = by (test e.0) (all_without P es test h.1)
  where
    by : (t : Bool) → AllByRecursion P (keys_of (remove_entry test es))
        → AllByRecursion P (keys_of (cond t es (e ∷ remove_entry test es)))
    by true rest = h.1
    by false rest = (h.0, rest)

-- ---- order
below_each : (number first : ℕ) (numbers : List ℕ) → number < first
    → AllByRecursion (λ n. nat_cmp first n ≡ Less) numbers
    → AllByRecursion (λ n. nat_cmp number n ≡ Less) numbers
below_each number first [] low h = tt
below_each number first (n ∷ numbers) low h =
    let next = below first n h.0 in (
      sym (nat_cmp_is number n Less (omega (arith, low, next))),
      below_each number first numbers low h.1,
    )

sorted_with : (entries : Entries) → AreSorted entries → (number : ℕ) (call : OpenCall)
    → AreSorted (insert_entry nat_cmp entries number call)
unfolding IsStrictlySortedBy
sorted_with [] sorted number call = (tt, tt)
sorted_with (e ∷ es) sorted number call =
    by (nat_cmp number e.0) refl (sorted_with es sorted.1 number call)
  where
    by : (o : Ordering) → nat_cmp number e.0 ≡ o
        → AreSorted (insert_entry nat_cmp es number call)
        → AreSorted (match_ordering o ((number, call) ∷ e ∷ es) ((e.0, call) ∷ es)
        (e ∷ insert_entry nat_cmp es number call))
    by Less k rest =
        ((k, below_each number e.0 (keys_of es) (below number e.0 k) sorted.0), sorted)
    by Equal k rest = sorted
    by Greater k rest = (
      all_with (λ n. nat_cmp e.0 n ≡ Less) es number call sorted.0
          (sym (nat_cmp_is e.0 number Less (above number e.0 k))),
      rest,
    )

sorted_without : (entries : Entries) → AreSorted entries → (test : ℕ → Bool)
    → AreSorted (remove_entry test entries)
unfolding IsStrictlySortedBy
sorted_without [] sorted test = tt
sorted_without (e ∷ es) sorted test = by (test e.0) (sorted_without es sorted.1 test)
  where
    by : (t : Bool) → AreSorted (remove_entry test es)
        → AreSorted (cond t es (e ∷ remove_entry test es))
    by true rest = sorted.1
    by false rest = (all_without (λ n. nat_cmp e.0 n ≡ Less) es test sorted.0, rest)

pub sorted_by_number : (entries : Entries) → AreSorted (by_number entries)
unfolding IsStrictlySortedBy
sorted_by_number [] = tt
sorted_by_number (e ∷ es) = sorted_with (by_number es) (sorted_by_number es) e.0 e.1

pub sorted_changed : (entries : Entries) (test : ℕ → Bool) (call : OpenCall)
    → AreSorted (set_value test (by_number entries) call)
sorted_changed entries test call =
    subst (IsStrictlySortedBy nat_cmp) (sym (keys-set_value test (by_number entries) call))
    (sorted_by_number entries)

-- ---- look-ups
lookup_with : (entries : Entries) (number : ℕ) (call : OpenCall) (other : ℕ)
    → lookup (is_at (nat_cmp other)) (insert_entry nat_cmp entries number call)
    ≡ cond (is_at (nat_cmp other) number) (Some call) (lookup (is_at (nat_cmp other)) entries)
lookup_with [] number call other = refl
lookup_with (e ∷ es) number call other =
    by (nat_cmp number e.0) refl (lookup_with es number call other)
  where
    at : ℕ → Bool
    at n = is_at (nat_cmp other) n

    apart : nat_cmp number e.0 ≡ Greater → at e.0 ≡ true → at number ≡ false
    apart k here =
        let low = above number e.0 k in
        let is : other ≡ e.0 = eqb-true other e.0 (sym (unsigned_tied other e.0) ∙ here) in
        unsigned_tied other number
        ∙ ne_eqb other number (λ i. let never : ⊥ = omega (arith, low, is, i) in never)

    swapped : (a b : Bool) → (a ≡ true → b ≡ false)
        → cond a (Some e.1) (cond b (Some call) (lookup (is_at (nat_cmp other)) es))
        ≡ cond b (Some call) (cond a (Some e.1) (lookup (is_at (nat_cmp other)) es))
    swapped true b h = sym (ap (λ t. cond t (Some call) (Some e.1)) (h refl))
    swapped false b h = refl

    hidden : (a : Bool)
        → cond a (Some call) (lookup (is_at (nat_cmp other)) es)
        ≡ cond a (Some call) (cond a (Some e.1) (lookup (is_at (nat_cmp other)) es))
    hidden true = refl
    hidden false = refl

    by : (o : Ordering) → nat_cmp number e.0 ≡ o
        → lookup (is_at (nat_cmp other)) (insert_entry nat_cmp es number call)
        ≡ cond (at number) (Some call) (lookup (is_at (nat_cmp other)) es)
        → lookup (is_at (nat_cmp other)) (match_ordering o ((number, call) ∷ e ∷ es)
        ((e.0, call) ∷ es) (e ∷ insert_entry nat_cmp es number call))
        ≡ cond (at number) (Some call) (lookup (is_at (nat_cmp other)) (e ∷ es))
    by Less k rest = refl
    by Equal k rest =
        hidden (at e.0)
        ∙ ap (λ n. cond (at n) (Some call) (lookup (is_at (nat_cmp other)) (e ∷ es)))
        (sym (same number e.0 k))
    by Greater k rest =
        ap (cond (at e.0) (Some e.1)) rest ∙ swapped (at e.0) (at number) (apart k)

pub lookup_by_number : (entries : Entries) (number : ℕ)
    → lookup (is_at (nat_cmp number)) (by_number entries) ≡ lookup (nat_eq number) entries
lookup_by_number [] number = refl
lookup_by_number (e ∷ es) number =
    lookup_with (by_number es) e.0 e.1 number
    ∙ ap (λ t. cond t (Some e.1) (lookup (is_at (nat_cmp number)) (by_number es)))
    (unsigned_tied number e.0)
    ∙ ap (cond (nat_eq number e.0) (Some e.1)) (lookup_by_number es number)

-- ---- entries in order in which the same is found are the same
at_head : (e : ℕ × OpenCall) (es : Entries) → lookup (is_at (nat_cmp e.0)) (e ∷ es) ≡ Some e.1
at_head e es =
    lookup_head (is_at (nat_cmp e.0)) e es (unsigned_tied e.0 e.0 ∙ nat_eq_equiv.refl e.0)

past_head : (number : ℕ) (e : ℕ × OpenCall) (es : Entries) → AreSorted (e ∷ es)
    → is_at (nat_cmp number) e.0 ≡ true → lookup (is_at (nat_cmp number)) es ≡ None
past_head number e es sorted here =
    lookup-none (is_at (nat_cmp number)) es
    (none_past_head (eq_by_cmp_equiv nat_cmp_total) number e es
    (IsDistinct-from_sorted nat_cmp (keys_of (e ∷ es)) sorted) here)

not_below : (e f : ℕ × OpenCall) (es fs : Entries) → AreSorted (f ∷ fs)
    → lookup (is_at (nat_cmp e.0)) (e ∷ es) ≡ lookup (is_at (nat_cmp e.0)) (f ∷ fs)
    → nat_cmp e.0 f.0 ≡ Less → ⊥
not_below e f es fs sorted alike k =
    none-some e.1
    (sym (lookup-none (is_at (nat_cmp e.0)) (f ∷ fs)
    (none_below_head nat_cmp_total e.0 f fs sorted k))
    ∙ sym alike ∙ at_head e es)

same_entries : (es fs : Entries) → AreSorted es → AreSorted fs
    → ((number : ℕ) → lookup (is_at (nat_cmp number)) es ≡ lookup (is_at (nat_cmp number)) fs)
    → es ≡ fs
same_entries [] [] s t alike = refl
same_entries [] (f ∷ fs) s t alike = absurd (none-some f.1 (alike f.0 ∙ at_head f fs))
same_entries (e ∷ es) [] s t alike = absurd (none-some e.1 (sym (alike e.0) ∙ at_head e es))
same_entries (e ∷ es) (f ∷ fs) s t alike =
    ap (λ n. (n, e.1) ∷ es) numbers
    ∙ ap (λ call. (f.0, call) ∷ es) calls
    ∙ ap (λ rest. f ∷ rest)
    (same_entries es fs (sorted_tail nat_cmp e.0 (keys_of es) s)
    (sorted_tail nat_cmp f.0 (keys_of fs) t) (λ number. further number (cases number) refl))
  where
    by : (o : Ordering) → nat_cmp e.0 f.0 ≡ o → e.0 ≡ f.0
    by Less k = absurd (not_below e f es fs t (alike e.0) k)
    by Equal k = same e.0 f.0 k
    by Greater k =
        absurd (not_below f e fs es s (sym (alike f.0))
        (sym (nat_cmp_is f.0 e.0 Less (above e.0 f.0 k))))

    numbers : e.0 ≡ f.0
    numbers = by (nat_cmp e.0 f.0) refl

    calls : e.1 ≡ f.1
    calls =
        same_Some e.1 f.1
        (sym (at_head e es) ∙ alike e.0
        ∙ ap (λ n. lookup (is_at (nat_cmp n)) (f ∷ fs)) numbers ∙ at_head f fs)

    cases : ℕ → Bool
    cases number = is_at (nat_cmp number) e.0

    further : (number : ℕ) (here : Bool) → is_at (nat_cmp number) e.0 ≡ here
        → lookup (is_at (nat_cmp number)) es ≡ lookup (is_at (nat_cmp number)) fs
    further number true k =
        past_head number e es s k
        ∙ sym (past_head number f fs t
        (ap (λ n. is_at (nat_cmp number) n) (sym numbers) ∙ k))
    further number false k =
        sym (lookup_tail (is_at (nat_cmp number)) e es k)
        ∙ alike number
        ∙ lookup_tail (is_at (nat_cmp number)) f fs
        (ap (λ n. is_at (nat_cmp number) n) (sym numbers) ∙ k)

-- entries in order are those in which the same is found
by_number_as : (entries target : Entries) → AreSorted target
    → ((number : ℕ) → lookup (nat_eq number) entries ≡ lookup (is_at (nat_cmp number)) target)
    → by_number entries ≡ target
by_number_as entries target sorted alike =
    same_entries (by_number entries) target (sorted_by_number entries) sorted
    (λ number. lookup_by_number entries number ∙ alike number)

-- ---- changes
module _ (old new : Entries) (number : ℕ) where
  pub by_number_with : (call : OpenCall)
      → ((other : ℕ) → lookup (nat_eq other) new
      ≡ cond (nat_eq number other) (Some call) (lookup (nat_eq other) old))
      → by_number new ≡ insert_entry nat_cmp (by_number old) number call
  by_number_with call updates =
      by_number_as new (insert_entry nat_cmp (by_number old) number call)
      (sorted_with (by_number old) (sorted_by_number old) number call)
      (λ other. updates other
      ∙ ap (λ t. cond t (Some call) (lookup (nat_eq other) old))
      (nat_eq_equiv.symm number other ∙ sym (unsigned_tied other number))
      ∙ ap (cond (is_at (nat_cmp other) number) (Some call)) (sym (lookup_by_number old other))
      ∙ sym (lookup_with (by_number old) number call other))

  pub by_number_without :
      ((other : ℕ) → lookup (nat_eq other) new
      ≡ cond (nat_eq number other) None (lookup (nat_eq other) old))
      → by_number new ≡ remove_entry (is_at (nat_cmp number)) (by_number old)
  by_number_without updates =
      by_number_as new (remove_entry (is_at (nat_cmp number)) (by_number old))
      (sorted_without (by_number old) (sorted_by_number old) (is_at (nat_cmp number)))
      (λ other. updates other
      ∙ ap (λ t. cond t None (lookup (nat_eq other) old)) (sym (unsigned_tied number other))
      ∙ ap (cond (is_at (nat_cmp number) other) None) (sym (lookup_by_number old other))
      ∙ sym (lookup-remove_entry (eq_by_cmp_equiv nat_cmp_total) (is_at (nat_cmp number))
      ((eq_by_cmp_equiv nat_cmp_total).congr number) other (by_number old)
      (IsDistinct-from_sorted nat_cmp (keys_of (by_number old)) (sorted_by_number old))))

  pub by_number_changed : (call : OpenCall)
      → IsSome (lookup (is_at (nat_cmp number)) (by_number old))
      → ((other : ℕ) → lookup (nat_eq other) new
      ≡ cond (nat_eq number other) (Some call) (lookup (nat_eq other) old))
      → by_number new ≡ set_value (is_at (nat_cmp number)) (by_number old) call
  by_number_changed call there updates =
      by_number_as new (set_value (is_at (nat_cmp number)) (by_number old) call)
      (sorted_changed old (is_at (nat_cmp number)) call)
      (λ other. updates other
      ∙ ap (λ t. cond t (Some call) (lookup (nat_eq other) old)) (sym (unsigned_tied number other))
      ∙ ap (cond (is_at (nat_cmp number) other) (Some call)) (sym (lookup_by_number old other))
      ∙ sym (lookup-set_value (eq_by_cmp_equiv nat_cmp_total) (is_at (nat_cmp number))
      ((eq_by_cmp_equiv nat_cmp_total).congr number) other call (by_number old) there))

-- ---- how many there are
length_with : (entries : Entries) (number : ℕ) (call : OpenCall)
    → lookup (is_at (nat_cmp number)) entries ≡ None
    → length (insert_entry nat_cmp entries number call) ≡ suc (length entries)
length_with [] number call none = refl
length_with (e ∷ es) number call none =
    by (nat_cmp number e.0) none (length_with es number call)
  where
    by : (o : Ordering)
        → cond (is_eq o) (Some e.1) (lookup (is_at (nat_cmp number)) es) ≡ None
        → (lookup (is_at (nat_cmp number)) es ≡ None
        → length (insert_entry nat_cmp es number call) ≡ suc (length es))
        → length (match_ordering o ((number, call) ∷ e ∷ es) ((e.0, call) ∷ es)
        (e ∷ insert_entry nat_cmp es number call)) ≡ suc (suc (length es))
    by Less k rest = refl
    by Equal k rest = absurd (none-some e.1 (sym k))
    by Greater k rest = ap suc (rest k)

none_equal : (number : ℕ) (entries : Entries)
    → AllByRecursion (λ n. nat_eq number n ≡ false) (keys_of entries)
    → AllByRecursion (λ e. nat_eq number e.0 ≡ false) entries
none_equal number [] h = tt
none_equal number (e ∷ es) h = (h.0, none_equal number es h.1)

pub length_by_number : (entries : Entries) → IsDistinct nat_eq (keys_of entries)
    → length (by_number entries) ≡ length entries
length_by_number [] distinct = refl
length_by_number (e ∷ es) distinct =
    length_with (by_number es) e.0 e.1
    (lookup_by_number es e.0
    ∙ lookup-none (nat_eq e.0) es
    (none_equal e.0 es (IsDistinct-head nat_eq e.0 (keys_of es) distinct)))
    ∙ ap suc (length_by_number es (IsDistinct-tail nat_eq e.0 (keys_of es) distinct))
