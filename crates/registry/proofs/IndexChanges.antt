-- The list of endpoints and the map of aliases after each change.
use Rattle.std.proofs.Common.{◌≡◌, ℕ, suc, ◌+◌, ◌<◌, Bool, true, false, not, cond, ◌&&◌, ◌||◌, List, [], ◌∷◌, ◌++◌, length, take, drop, get_or, find, refl, sym, ap, subst, ◌∙◌, arith}
use native.Mathlib.Numerals.{unary_clauses}
use Rattle.std.specs.Prelude.{Option, Some, None, bytes_eq, if◌then◌else◌}
use Rattle.std.specs.Ordering.{nat_cmp}
use Rattle.std.specs.BTreeMap.{is_at}
use Rattle.std.specs.Cmp.{unsigned_tied}
use Rattle.std.specs.List.{IsDistinct, position_or_len}
use Rattle.std.specs.Map.{keys_of, values_of, remove_entry}
use Rattle.std.specs.Cmp.Lexicographic.{same_text}
use Rattle.std.proofs.lemmas.Bool.{both_ways, and_from, false_from_ne_true}
use Rattle.std.proofs.lemmas.Cmp.{nat_list_eq_equiv}
use Rattle.std.proofs.lemmas.List.Folds.{list_any_more}
use Rattle.std.proofs.lemmas.Map.{NonePasses}
use Rattle.std.proofs.lemmas.Map.Entries.{none_past_head}
use Rattle.std.proofs.lemmas.Map.Keys.{IsDistinct-tail}
use Rattle.indexmap.specs.IndexMap.{insert_entry}
use Rattle.gk_terms.proofs.ChoiceLemmas.{find_passes}
use Rattle.registry.specs.Endpoint.{EndpointParts, has_alias, share_alias}
use Rattle.registry.specs.Registration.{has_id, alias_is_taken, with_endpoint, without_endpoint}
use Rattle.registry.specs.RegistryIndex.{AliasNumbers, number_of_alias, found_with, aliases_of, lists, AreNumbersOfAliases, Forgets, LeadTo, IsIndexed}
use Rattle.registry.specs.NumberedEndpoints.{Entries, Numbered, NumberedParts, at_number, by_id, is_number, found_with_id, IsChangedAt}
use Rattle.registry.proofs.FindLemmas.{found-none, also_passes}
use Rattle.registry.proofs.LookUpLemmas.{Keyed, same_id, entry_missed}
use Rattle.registry.proofs.NumberLemmas.{same_number, number_itself, only_number}

-- ---- removal
none_left : (id : List ℕ) (entries : Entries) → Keyed entries → NonePasses (bytes_eq id) entries
    → without_endpoint (values_of entries) id ≡ values_of entries
none_left id [] h n = refl
none_left id (e ∷ es) h n =
    let other : has_id id e.1 ≡ false = sym (same_id id e h.0) ∙ n.0 in
    λ j. cond (not (other j)) (e.1 ∷ none_left id es h.1 n.1 j) (none_left id es h.1 n.1 j)

pub values-remove : (id : List ℕ) (entries : Entries) → Keyed entries
    → IsDistinct bytes_eq (keys_of entries)
    → values_of (remove_entry (bytes_eq id) entries) ≡ without_endpoint (values_of entries) id
values-remove id [] h d = refl
values-remove id (e ∷ es) h d =
    by (bytes_eq id e.0) refl
    (values-remove id es h.1 (IsDistinct-tail bytes_eq e.0 (keys_of es) d))
    ∙ (λ j. cond (not (same_id id e h.0 j)) (e.1 ∷ without_endpoint (values_of es) id)
    (without_endpoint (values_of es) id))
  where
    by : (b : Bool) → bytes_eq id e.0 ≡ b
        → values_of (remove_entry (bytes_eq id) es) ≡ without_endpoint (values_of es) id
        → values_of (cond b es (e ∷ remove_entry (bytes_eq id) es))
        ≡ cond (not b) (e.1 ∷ without_endpoint (values_of es) id)
        (without_endpoint (values_of es) id)
    by true q rest = sym (none_left id es h.1 (none_past_head nat_list_eq_equiv id e es d q))
    by false q rest = ap (λ xs. e.1 ∷ xs) rest

-- ---- registration
abbrev pub put_at : EndpointParts → List EndpointParts → ℕ → List EndpointParts
put_at e endpoints place = take place endpoints ++ e ∷ drop (place + 1) endpoints

pub put_later : (e f : EndpointParts) (endpoints : List EndpointParts) (place : ℕ)
    → put_at e (f ∷ endpoints) (1 + place) ≡ f ∷ put_at e endpoints place
put_later e f endpoints place =
    let one : 1 + place ≡ suc place = omega arith in
    ap (put_at e (f ∷ endpoints)) one ∙ simp unary_clauses refl

pub values-insert : (e : EndpointParts) (entries : Entries) → Keyed entries
    → values_of (insert_entry bytes_eq entries e.id e) ≡ with_endpoint (values_of entries) e
values-insert e [] h = refl
values-insert e (f ∷ es) h =
    by (bytes_eq e.id f.0) (values-insert e es h.1)
    ∙ ap (λ b. put_at e (f.1 ∷ values_of es)
    (cond (not b) (1 + position_or_len (has_id e.id) (values_of es)) 0)) (same_id e.id f h.0)
  where
    by : (b : Bool) → values_of (insert_entry bytes_eq es e.id e) ≡ with_endpoint (values_of es) e
        → values_of (if b then (f.0, e) ∷ es else f ∷ insert_entry bytes_eq es e.id e)
        ≡ put_at e (f.1 ∷ values_of es)
        (cond (not b) (1 + position_or_len (has_id e.id) (values_of es)) 0)
    by true rest = refl
    by false rest =
        ap (λ xs. f.1 ∷ xs) rest
        ∙ sym (put_later e f.1 (values_of es) (position_or_len (has_id e.id) (values_of es)))

-- ---- alias_numbers of aliases
-- the aliases that were found are those of the endpoint
found_lists : (alias : List ℕ) (entry : Option EndpointParts)
    → found_with alias entry ≡ lists (aliases_of entry) alias
found_lists alias None = refl
found_lists alias (Some e) = refl

module _ (entries : Numbered) (alias_numbers : AliasNumbers) (owned : AreNumbersOfAliases
    alias_numbers entries) where
  -- an alias that leads to a number leads to no other
  leads_once : (alias : List ℕ) (n m : ℕ) → found_with alias (at_number entries n) ≡ true
      → is_at (nat_cmp n) m ≡ false → found_with alias (at_number entries m) ≡ false
  leads_once alias n m has apart =
      sym (owned alias m)
      ∙ ap (is_number m) (only_number n (number_of_alias alias_numbers alias) (owned alias n ∙ has))
      ∙ sym (unsigned_tied n m) ∙ apart

  -- if the aliases of a number's endpoint are forgotten, the rest stand for the others
  others_owned : (n : ℕ) (rest : AliasNumbers) → Forgets alias_numbers rest (aliases_of
      (at_number entries n))
      → (alias : List ℕ) (m : ℕ)
      → is_number m (number_of_alias rest alias)
      ≡ found_with alias (cond (is_at (nat_cmp n) m) None (at_number entries m))
  others_owned n rest forgets alias m =
      ap (is_number m) (forgets alias)
      ∙ by (lists (aliases_of (at_number entries n)) alias) refl (is_at (nat_cmp n) m) refl
    where
      by : (c : Bool) → lists (aliases_of (at_number entries n)) alias ≡ c → (b : Bool)
          → is_at (nat_cmp n) m ≡ b
          → is_number m (if c then None else number_of_alias alias_numbers alias)
          ≡ found_with alias (cond b None (at_number entries m))
      by true k true l = refl
      by true k false l =
          sym (leads_once alias n m (found_lists alias (at_number entries n) ∙ k) l)
      by false k true l =
          owned alias m
          ∙ ap (λ x. found_with alias (at_number entries x)) (sym (same_number n m l))
          ∙ found_lists alias (at_number entries n) ∙ k
      by false k false l = owned alias m

  -- an alias of the new endpoint is no other endpoint's
  free_alias : (e : EndpointParts) (alias : List ℕ) (m : ℕ)
      → alias_is_taken (values_of entries) e ≡ false → has_alias e alias ≡ true
      → found_with_id e.id (at_number entries m) ≡ false
      → found_with alias (at_number entries m) ≡ false
  free_alias e alias m free has = by (at_number entries m) refl
    where
      shared : (f : EndpointParts) → has_alias f alias ≡ true
          → (found : Option (List ℕ)) → find (bytes_eq alias) e.aliases ≡ found
          → share_alias f e ≡ true
      shared f its None k =
          absurd (both_ways (has_alias e alias) (found-none (bytes_eq alias) e.aliases k) has)
      shared f its (Some a) k =
          let same : alias ≡ a =
          same_text alias a (sym (find_passes (bytes_eq alias) e.aliases a k)) in
          also_passes (bytes_eq alias) (has_alias f) e.aliases a k
          (ap (has_alias f) (sym same) ∙ its)

      by : (at : Option EndpointParts) → at_number entries m ≡ at
          → found_with_id e.id at ≡ false → found_with alias at ≡ false
      by None there other = refl
      by (Some f) there other =
          false_from_ne_true (has_alias f alias)
          (λ its. both_ways (not (has_id e.id f) && share_alias f e)
          (entry_missed (is_at (nat_cmp m)) (λ g. not (has_id e.id g) && share_alias g e) entries f
          there free)
          (and_from (not (has_id e.id f)) (share_alias f e) (ap not other)
          (shared f its (find (bytes_eq alias) e.aliases) refl)))

-- after a removal: the aliases of the one that was found are forgotten
pub indexed-remove : (old : NumberedParts) (new : Numbered) (alias_numbers rest : AliasNumbers) (id
    :
    List ℕ)
    (number : ℕ) (found : Option EndpointParts)
    → IsIndexed old.entries alias_numbers → IsChangedAt old new id number found None
    → Forgets alias_numbers rest (aliases_of found) → IsDistinct bytes_eq (keys_of (by_id new))
    → IsIndexed new rest
indexed-remove old new alias_numbers rest id number found h change forgets distinct =
    record {
      sorted = change.sorted;
      distinct = distinct;
      owned =
          λ alias m.
          others_owned old.entries alias_numbers h.owned number rest
          (subst (λ entry. Forgets alias_numbers rest (aliases_of entry)) change.had forgets)
          alias m
          ∙ ap (found_with alias) (sym (change.set m));
    }

-- after a registration: the aliases of the one that was found are forgotten, and then the new ones
-- lead to its number
pub indexed-insert : (old : NumberedParts) (new : Numbered) (alias_numbers rest all : AliasNumbers)
    (e : EndpointParts) (number : ℕ) (found : Option EndpointParts)
    → IsIndexed old.entries alias_numbers → IsChangedAt old new e.id number found (Some e)
    → alias_is_taken (values_of old.entries) e ≡ false
    → Forgets alias_numbers rest (aliases_of found) → LeadTo rest all e.aliases number
    → IsDistinct bytes_eq (keys_of (by_id new))
    → IsIndexed new all
indexed-insert old new alias_numbers rest all e number found h change free forgets leads_to
    distinct =
    record {
      sorted = change.sorted;
      distinct = distinct;
      owned =
          λ alias m.
          ap (is_number m) (leads_to alias)
          ∙ by alias m (has_alias e alias) refl (is_at (nat_cmp number) m) refl
          ∙ ap (found_with alias) (sym (change.set m));
    }
  where
    others : (alias : List ℕ) (m : ℕ)
        → is_number m (number_of_alias rest alias)
        ≡ found_with alias (cond (is_at (nat_cmp number) m) None (at_number old.entries m))
    others = others_owned old.entries alias_numbers h.owned number rest
        (subst (λ entry. Forgets alias_numbers rest (aliases_of entry)) change.had forgets)

    other_id : (m : ℕ) → is_at (nat_cmp number) m ≡ false
        → found_with_id e.id (at_number old.entries m) ≡ false
    other_id m apart =
        false_from_ne_true (found_with_id e.id (at_number old.entries m))
        (λ own. both_ways (is_at (nat_cmp number) m) apart
        (ap (is_at (nat_cmp number)) (change.own.only m own) ∙ number_itself number))

    by : (alias : List ℕ) (m : ℕ) (a : Bool) → has_alias e alias ≡ a
        → (b : Bool) → is_at (nat_cmp number) m ≡ b
        → is_number m (if a then Some number else number_of_alias rest alias)
        ≡ found_with alias (cond b (Some e) (at_number old.entries m))
    by alias m true k true l = sym (unsigned_tied number m) ∙ l ∙ sym k
    by alias m true k false l =
        sym (unsigned_tied number m) ∙ l
        ∙ sym (free_alias old.entries alias_numbers h.owned e alias m free k (other_id m l))
    by alias m false k true l =
        others alias m
        ∙ ap (λ b. found_with alias (cond b None (at_number old.entries m))) l
        ∙ sym k
    by alias m false k false l =
        others alias m
        ∙ ap (λ b. found_with alias (cond b None (at_number old.entries m))) l

-- after a change of the room alone
pub indexed-reordered : (entries : Numbered) (alias_numbers old : AliasNumbers) → IsIndexed
    entries old
    → ((alias : List ℕ) → number_of_alias alias_numbers alias ≡ number_of_alias old alias)
    → IsIndexed entries alias_numbers
indexed-reordered entries alias_numbers old h reordered =
    record {
      sorted = h.sorted;
      distinct = h.distinct;
      owned = λ alias number. ap (is_number number) (reordered alias) ∙ h.owned alias number;
    }

-- ---- aliases one by one
-- one more alias that was taken out or put in
pub listed_more : (aliases : List (List ℕ)) (place : ℕ) (next alias : List ℕ)
    (w owner : Option ℕ)
    → place < length aliases → next ≡ get_or aliases place next
    → cond (bytes_eq next alias) w (if lists (take place aliases) alias then w else owner)
    ≡ (if lists (take (place + 1) aliases) alias then w else owner)
listed_more aliases place next alias w owner within there =
    by (bytes_eq next alias) (lists (take place aliases) alias)
    ∙ ap (λ b. if b then w else owner)
    (ap (λ b. lists (take place aliases) alias || b)
    (nat_list_eq_equiv.symm next alias ∙ ap (bytes_eq alias) there)
    ∙ sym (list_any_more (bytes_eq alias) aliases place next within))
  where
    by : (b c : Bool) → cond b w (if c then w else owner) ≡ (if (c || b) then w else owner)
    by true true = refl
    by true false = refl
    by false true = refl
    by false false = refl
