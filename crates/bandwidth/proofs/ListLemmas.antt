-- The map of calls by number is the list of them in order.
use Rattle.std.proofs.Common.{◌≡◌, ℕ, ◌*◌, ◌<◌, ◌≤◌, Bool, true, false, cond, List, [], ◌∷◌, ◌++◌, length, refl, sym, ap, subst, ◌∙◌, arith}
use Rattle.std.specs.Prelude.{◌==◌, Some, not, is_some, filter, nat_lt}
use Rattle.std.specs.declared.cmp.Ordering.{Ordering}
use Rattle.std.specs.declared.cmp.Ordering.TheVariants.{Less, Equal, Greater}
use Rattle.std.specs.Ordering.{MatchOrdering, nat_cmp, match_ordering}
use Rattle.std.specs.Cmp.{unsigned_tied}
use Rattle.std.specs.BTreeMap.{is_at, insert_entry}
use Rattle.std.specs.List.{AllByRecursion}
use Rattle.std.specs.List.Sorted.{IsStrictlySortedBy}
use Rattle.std.specs.Map.{keys_of, values_of, lookup, remove_entry, set_value}
use Rattle.std.proofs.lemmas.Bool.{both_ways, lt-ltb, le-ltb, eqb-true, eq-eqb}
use Rattle.std.proofs.lemmas.Cmp.{ranked, nat_eq_equiv}
use Rattle.std.proofs.lemmas.Option.{none-some, same_Some}
use Rattle.std.proofs.lemmas.Map.Keys.{sorted_head, sorted_tail}
use Rattle.std.proofs.lemmas.List.Sums.{sum_by-cons}
use Rattle.bandwidth.specs.declared.open_call.OpenCall.{OpenCall}
use Rattle.bandwidth.specs.CallList.{IsUnderNumber}
use Rattle.bandwidth.specs.Calls.{has_call_number, call_of, is_open, with_call, without_call, with_changed}
use Rattle.bandwidth.specs.Use.{units_of}
use Rattle.bandwidth.proofs.CallLemmas.{Ascend, open_if_found, closed_after, closed_head, closed_tail, without_none, changed_none}

abbrev Entries : Type 0
Entries = List (ℕ × OpenCall)

abbrev AreNumbered : Entries → Type 0
AreNumbered entries = AllByRecursion IsUnderNumber entries

abbrev AreSorted : Entries → Type 0
AreSorted entries = IsStrictlySortedBy nat_cmp (keys_of entries)

-- ---- numbers
pub below : (a b : ℕ) → nat_cmp a b ≡ Less → a < b
below a b h = subst (λ o. MatchOrdering o (a < b) (a ≡ b) (b < a)) h (ranked a b (nat_cmp a b) refl)

pub same : (a b : ℕ) → nat_cmp a b ≡ Equal → a ≡ b
same a b h = subst (λ o. MatchOrdering o (a < b) (a ≡ b) (b < a)) h (ranked a b (nat_cmp a b) refl)

pub above : (a b : ℕ) → nat_cmp a b ≡ Greater → b < a
above a b h = subst (λ o. MatchOrdering o (a < b) (a ≡ b) (b < a)) h (ranked a b (nat_cmp a b) refl)

-- the test of the map is that of the list
same_test : (number : ℕ) (e : ℕ × OpenCall) → IsUnderNumber e
    → is_at (nat_cmp number) e.0 ≡ has_call_number number e.1
same_test number e h =
    unsigned_tied number e.0 ∙ nat_eq_equiv.symm number e.0 ∙ ap (λ n. n == number) h.number

-- ---- look-ups
pub found : (entries : Entries) → AreNumbered entries → (number : ℕ)
    → lookup (is_at (nat_cmp number)) entries ≡ call_of (values_of entries) number
found [] h number = refl
found (e ∷ es) h number =
    ap (λ t. cond t (Some e.1) (lookup (is_at (nat_cmp number)) es)) (same_test number e h.0)
    ∙ ap (cond (has_call_number number e.1) (Some e.1)) (found es h.1 number)

pub is_there : (entries : Entries) → AreNumbered entries → (number : ℕ)
    → is_some (lookup (is_at (nat_cmp number)) entries) ≡ is_open (values_of entries) number
is_there entries h number =
    ap is_some (found entries h number) ∙ open_if_found (values_of entries) number

-- ---- order
all_above : (number : ℕ) (es : Entries) → AreNumbered es
    → AllByRecursion (λ n. nat_cmp number n ≡ Less) (keys_of es)
    → AllByRecursion (λ c. number < c.number) (values_of es)
all_above number [] h k = tt
all_above number (e ∷ es) h k =
    let low = below number e.0 k.0 in
    let its = h.0.number in (omega (arith, low, its), all_above number es h.1 k.1)

pub ascending : (entries : Entries) → AreNumbered entries → AreSorted entries
    → Ascend (values_of entries)
ascending [] h sorted = tt
ascending (e ∷ es) h sorted = (
  subst (λ n. AllByRecursion (λ c. n < c.number) (values_of es)) h.0.number
      (all_above e.0 es h.1 (sorted_head nat_cmp e.0 (keys_of es) sorted)),
  ascending es h.1 (sorted_tail nat_cmp e.0 (keys_of es) sorted),
)

-- a call's bandwidth fits 32 bits, so the sum is within their number times the greatest
pub small : (entries : Entries) → AreNumbered entries
    → units_of (values_of entries) ≤ length (values_of entries) * 4294967295
small [] h = omega arith
small (e ∷ es) h =
    let rest = small es h.1 in
    let one = h.0.small in
    let head = sum_by-cons (λ call. call.units) e.1 (values_of es) in
    omega (arith, rest, one, head)

-- ---- a call more
pub numbered_with : (number : ℕ) (call : OpenCall) → IsUnderNumber (number, call)
    → (entries : Entries) → AreNumbered entries
    → AreNumbered (insert_entry nat_cmp entries number call)
numbered_with number call own [] h = (own, tt)
numbered_with number call own (e ∷ es) h =
    by (nat_cmp number e.0) refl (numbered_with number call own es h.1)
  where
    by : (o : Ordering) → nat_cmp number e.0 ≡ o
        → AreNumbered (insert_entry nat_cmp es number call)
        → AreNumbered (match_ordering o ((number, call) ∷ e ∷ es) ((e.0, call) ∷ es)
        (e ∷ insert_entry nat_cmp es number call))
    by Less k rest = (own, h)
    by Equal k rest = (
      record {
        number = sym (same number e.0 k) ∙ own.number;
        small = own.small;
      },
      h.1,
    )
    by Greater k rest = (h.0, rest)

none_below : (number : ℕ) (calls : List OpenCall) → AllByRecursion (λ c. number < c.number) calls
    → filter (λ c. nat_lt c.number number) calls ≡ []
none_below number [] h = refl
none_below number (call ∷ calls) h =
    let over = h.0 in
    ap (λ t. cond t (call ∷ filter (λ c. nat_lt c.number number) calls)
    (filter (λ c. nat_lt c.number number) calls)) (le-ltb call.number number (omega (arith, over)))
    ∙ none_below number calls h.1

each_above : (number : ℕ) (calls : List OpenCall) → AllByRecursion (λ c. number < c.number) calls
    → filter (λ c. nat_lt number c.number) calls ≡ calls
each_above number [] h = refl
each_above number (call ∷ calls) h =
    ap (λ t. cond t (call ∷ filter (λ c. nat_lt number c.number) calls)
    (filter (λ c. nat_lt number c.number) calls)) (lt-ltb number call.number h.0)
    ∙ ap (λ cs. call ∷ cs) (each_above number calls h.1)

-- a call of a lesser number comes first
after_lesser : (first : OpenCall) (calls : List OpenCall) (call : OpenCall)
    → first.number < call.number
    → first ∷ with_call calls call ≡ with_call (first ∷ calls) call
after_lesser first calls call low =
    let less = filter (λ c. nat_lt c.number call.number) calls in
    let more = filter (λ c. nat_lt call.number c.number) calls in
    ap (λ t. cond t (first ∷ less) less ++ call ∷ more) (sym (lt-ltb first.number call.number low))
    ∙ ap (λ t. filter (λ c. nat_lt c.number call.number) (first ∷ calls)
    ++ call ∷ cond t (first ∷ more) more)
    (sym (le-ltb call.number first.number (omega (arith, low))))

-- no number in a sorted list is the one that is less than the first
first_above : (number : ℕ) (e : ℕ × OpenCall) (es : Entries) → AreNumbered (e ∷ es)
    → AreSorted (e ∷ es) → nat_cmp number e.0 ≡ Less
    → AllByRecursion (λ c. number < c.number) (values_of (e ∷ es))
first_above number e es h sorted k =
    let low = below number e.0 k in
    let its = h.0.number in (
      omega (arith, low, its),
      still (all_above e.0 es h.1 (sorted_head nat_cmp e.0 (keys_of es) sorted)),
    )
  where
    farther : (calls : List OpenCall) → AllByRecursion (λ c. e.0 < c.number) calls
        → number < e.0 → AllByRecursion (λ c. number < c.number) calls
    farther [] a low = tt
    farther (c ∷ cs) a low = let over = a.0 in (omega (arith, over, low), farther cs a.1 low)

    still : AllByRecursion (λ c. e.0 < c.number) (values_of es)
        → AllByRecursion (λ c. number < c.number) (values_of es)
    still a = farther (values_of es) a (below number e.0 k)

pub list_with : (entries : Entries) → AreNumbered entries → AreSorted entries → (call : OpenCall)
    → is_open (values_of entries) call.number ≡ false
    → values_of (insert_entry nat_cmp entries call.number call) ≡ with_call (values_of entries) call
list_with [] h sorted call closed = refl
list_with (e ∷ es) h sorted call closed =
    by (nat_cmp call.number e.0) refl
    (list_with es h.1 (sorted_tail nat_cmp e.0 (keys_of es) sorted) call
    (closed_tail e.1 (values_of es) call.number closed))
  where
    by : (o : Ordering) → nat_cmp call.number e.0 ≡ o
        → values_of (insert_entry nat_cmp es call.number call) ≡ with_call (values_of es) call
        → values_of (match_ordering o ((call.number, call) ∷ e ∷ es) ((e.0, call) ∷ es)
        (e ∷ insert_entry nat_cmp es call.number call)) ≡ with_call (values_of (e ∷ es)) call
    by Less k rest =
        let over = first_above call.number e es h sorted k in
        ap (λ cs. call ∷ cs) (sym (each_above call.number (values_of (e ∷ es)) over))
        ∙ ap (λ cs. cs ++ call ∷ filter (λ c. nat_lt call.number c.number) (values_of (e ∷ es)))
        (sym (none_below call.number (values_of (e ∷ es)) over))
    by Equal k rest =
        absurd (both_ways (has_call_number call.number e.1)
        (closed_head e.1 (values_of es) call.number closed)
        (eq-eqb e.1.number call.number (sym (same call.number e.0 k ∙ h.0.number))))
    by Greater k rest =
        let low = above call.number e.0 k in
        let its = h.0.number in
        ap (λ cs. e.1 ∷ cs) rest
        ∙ after_lesser e.1 (values_of es) call (omega (arith, low, its))

-- ---- another bandwidth
-- the call of a number is written, if there is one, and else nothing
pub numbered_changed : (number : ℕ) (call : OpenCall) → IsUnderNumber (number, call)
    → (entries : Entries) → AreNumbered entries
    → AreNumbered (set_value (is_at (nat_cmp number)) entries call)
numbered_changed number call own [] h = tt
numbered_changed number call own (e ∷ es) h =
    by (is_at (nat_cmp number) e.0) (same_test number e h.0)
    (numbered_changed number call own es h.1)
  where
    by : (t : Bool) → t ≡ has_call_number number e.1
        → AreNumbered (set_value (is_at (nat_cmp number)) es call)
        → AreNumbered (cond t ((e.0, call) ∷ es)
        (e ∷ set_value (is_at (nat_cmp number)) es call))
    by true k rest = (
      record {
        number = h.0.number ∙ eqb-true e.1.number number (sym k) ∙ own.number;
        small = own.small;
      },
      h.1,
    )
    by false k rest = (h.0, rest)

pub list_changed : (number units : ℕ) (held : OpenCall) (entries : Entries) → AreNumbered entries
    → AreSorted entries → call_of (values_of entries) number ≡ Some held
    → values_of (set_value (is_at (nat_cmp number)) entries (record held { units = units }))
    ≡ with_changed (values_of entries) number units
list_changed number units held [] h sorted there = absurd (none-some held there)
list_changed number units held (e ∷ es) h sorted there =
    ap (λ t. values_of (cond t ((e.0, changed) ∷ es)
    (e ∷ set_value (is_at (nat_cmp number)) es changed))) (same_test number e h.0)
    ∙ by (has_call_number number e.1) refl there
    (list_changed number units held es h.1 (sorted_tail nat_cmp e.0 (keys_of es) sorted))
  where
    changed : OpenCall
    changed = record held { units = units }

    by : (t : Bool) → has_call_number number e.1 ≡ t
        → cond t (Some e.1) (call_of (values_of es) number) ≡ Some held
        → (call_of (values_of es) number ≡ Some held
        → values_of (set_value (is_at (nat_cmp number)) es changed)
        ≡ with_changed (values_of es) number units)
        → values_of (cond t ((e.0, changed) ∷ es)
        (e ∷ set_value (is_at (nat_cmp number)) es changed))
        ≡ cond t (record e.1 { units = units }) e.1 ∷ with_changed (values_of es) number units
    by true k it rest =
        let its : e.0 ≡ number = h.0.number ∙ eqb-true e.1.number number k in
        let closed : is_open (values_of es) number ≡ false =
        closed_after number (values_of es)
        (subst (λ n. AllByRecursion (λ c. n < c.number) (values_of es)) its
        (all_above e.0 es h.1 (sorted_head nat_cmp e.0 (keys_of es) sorted))) in
        ap (λ (c : OpenCall). record c { units = units } ∷ values_of es)
        (sym (same_Some e.1 held it))
        ∙ ap (λ cs. record e.1 { units = units } ∷ cs)
        (sym (changed_none (values_of es) number units closed))
    by false k it rest = ap (λ cs. e.1 ∷ cs) (rest it)

-- ---- without a call
pub numbered_without : (number : ℕ) (entries : Entries) → AreNumbered entries
    → AreNumbered (remove_entry (is_at (nat_cmp number)) entries)
numbered_without number [] h = tt
numbered_without number (e ∷ es) h =
    by (is_at (nat_cmp number) e.0) (numbered_without number es h.1)
  where
    by : (t : Bool) → AreNumbered (remove_entry (is_at (nat_cmp number)) es)
        → AreNumbered (cond t es (e ∷ remove_entry (is_at (nat_cmp number)) es))
    by true rest = h.1
    by false rest = (h.0, rest)

pub list_without : (number : ℕ) (entries : Entries) → AreNumbered entries → AreSorted entries
    → values_of (remove_entry (is_at (nat_cmp number)) entries)
    ≡ without_call (values_of entries) number
list_without number [] h sorted = refl
list_without number (e ∷ es) h sorted =
    ap (λ t. values_of (cond t es (e ∷ remove_entry (is_at (nat_cmp number)) es)))
    (same_test number e h.0)
    ∙ by (has_call_number number e.1) refl
    (list_without number es h.1 (sorted_tail nat_cmp e.0 (keys_of es) sorted))
  where
    by : (t : Bool) → has_call_number number e.1 ≡ t
        → values_of (remove_entry (is_at (nat_cmp number)) es) ≡ without_call (values_of es) number
        → values_of (cond t es (e ∷ remove_entry (is_at (nat_cmp number)) es))
        ≡ cond (not t) (e.1 ∷ without_call (values_of es) number)
        (without_call (values_of es) number)
    by true k rest =
        let its : e.0 ≡ number = h.0.number ∙ eqb-true e.1.number number k in
        sym (without_none (values_of es) number
        (closed_after number (values_of es)
        (subst (λ n. AllByRecursion (λ c. n < c.number) (values_of es)) its
        (all_above e.0 es h.1 (sorted_head nat_cmp e.0 (keys_of es) sorted)))))
    by false k rest = ap (λ cs. e.1 ∷ cs) rest
