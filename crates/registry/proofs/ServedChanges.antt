-- The places that gateways serve, as endpoints come and go.
use Rattle.std.proofs.Common.{◌≡◌, inl, inr, ℕ, ◌≤◌, ◌==◌, Bool, true, false, not, cond, ◌&&◌, List, refl, sym, ap, ◌∙◌}
use Rattle.std.specs.Prelude.{Option, Some, None, Result, Ok, Err, OnOk, OnErr, MatchOption, is_err, ◌⊎◌, if◌then◌else◌}
use Rattle.std.specs.Cmp.{unsigned_tied}
use Rattle.std.proofs.lemmas.Bool.{both_ways}
use Rattle.registry.specs.Endpoint.{EndpointParts}
use Rattle.registry.specs.NumberedEndpoints.{Numbered, at_number, IsSetAt}
use Rattle.registry.specs.Served.{Place, Places, serves_at, is_of, found_serving, Enters, MayEnter, Leaves, IsNext}
use Rattle.registry.specs.RegistryIndex.{AreServed, NoneServes, IsNextServing}
use Rattle.registry.proofs.NumberLemmas.{same_number, number_itself}

-- the endpoint of a place's number, if that is this number
at_place : (entries : Numbered) (n : ℕ) (place : Place) → (n == place.2) ≡ true
    → found_serving (at_number entries place.2) place.0 place.1
    ≡ found_serving (at_number entries n) place.0 place.1
at_place entries n place h =
    ap (λ m. found_serving (at_number entries m) place.0 place.1)
    (sym (same_number n place.2 (unsigned_tied n place.2 ∙ h)))

-- what was entered may be entered
pub may_enter : (old new : Places) (n : ℕ) (e : EndpointParts) → Enters old new n e
    → MayEnter old new n e
may_enter old new n e enters place = by (is_of n (Some e) place) refl (enters place)
  where
    by : (b : Bool) → is_of n (Some e) place ≡ b
        → serves_at new place ≡ (if b then true else serves_at old place)
        → (serves_at new place ≡ serves_at old place)
        ⊎ ((serves_at new place ≡ true) × (is_of n (Some e) place ≡ true))
    by true known there = inr (there, known)
    by false known there = inl there

-- an endpoint that was entered, or a part of it, is taken back
pub taken_back : (old mid new : Places) (entries : Numbered) (n : ℕ) (e : EndpointParts)
    → AreServed old entries → MayEnter old mid n e
    → Leaves mid new n (Some e) (at_number entries n) → AreServed new entries
taken_back old mid new entries n e served enters leaves place =
    leaves place
    ∙ by (n == place.2) refl (found_serving (Some e) place.0 place.1) refl
    (found_serving (at_number entries n) place.0 place.1) refl (enters place)
  where
    -- the place is of this number
    here : (f a : Bool) → (serves_at mid place ≡ a) ⊎ ((serves_at mid place ≡ true) × (f ≡ true))
        → (if (f && not a) then false else serves_at mid place) ≡ a
    here true true (inl s) = s
    here true true (inr s) = s.0
    here true false s = refl
    here false true (inl s) = s
    here false true (inr s) = s.0
    here false false (inl s) = s
    here false false (inr s) = absurd (both_ways false refl s.1)

    by : (b : Bool) → (n == place.2) ≡ b → (f : Bool)
        → found_serving (Some e) place.0 place.1 ≡ f → (a : Bool)
        → found_serving (at_number entries n) place.0 place.1 ≡ a
        → (serves_at mid place ≡ serves_at old place)
        ⊎ ((serves_at mid place ≡ true)
        × (((n == place.2) && found_serving (Some e) place.0 place.1) ≡ true))
        → (if (((n == place.2) && found_serving (Some e) place.0 place.1)
        && not ((n == place.2) && found_serving (at_number entries n) place.0 place.1)) then false
        else serves_at mid place)
        ≡ found_serving (at_number entries place.2) place.0 place.1
    by false p f q a r (inl same) =
        ap (λ b. if ((b && found_serving (Some e) place.0 place.1)
        && not (b && found_serving (at_number entries n) place.0 place.1)) then false
        else serves_at mid place) p ∙ same ∙ served place
    by false p f q a r (inr more) =
        absurd (both_ways false refl
        (ap (λ b. b && found_serving (Some e) place.0 place.1) (sym p) ∙ more.1))
    by true p f q a r (inl same) =
        ap (λ b. if ((b && found_serving (Some e) place.0 place.1)
        && not (b && found_serving (at_number entries n) place.0 place.1)) then false
        else serves_at mid place) p
        ∙ here (found_serving (Some e) place.0 place.1)
        (found_serving (at_number entries n) place.0 place.1)
        (inl (same ∙ served place ∙ at_place entries n place p))
        ∙ sym (at_place entries n place p)
    by true p f q a r (inr more) =
        ap (λ b. if ((b && found_serving (Some e) place.0 place.1)
        && not (b && found_serving (at_number entries n) place.0 place.1)) then false
        else serves_at mid place) p
        ∙ here (found_serving (Some e) place.0 place.1)
        (found_serving (at_number entries n) place.0 place.1)
        (inr (more.0, ap (λ b. b && found_serving (Some e) place.0 place.1) (sym p) ∙ more.1))
        ∙ sym (at_place entries n place p)

-- the endpoint of a number after a change
set_there : (old new : Numbered) (n : ℕ) (e : Option EndpointParts) → IsSetAt old new n e
    → (m : ℕ) (b : Bool) → (n == m) ≡ b → at_number new m ≡ cond b e (at_number old m)
set_there old new n e set m b h =
    set m ∙ ap (λ t. cond t e (at_number old m)) (unsigned_tied n m ∙ h)

pub set_here : (old new : Numbered) (n : ℕ) (e : Option EndpointParts) → IsSetAt old new n e
    → at_number new n ≡ e
set_here old new n e set = set n ∙ ap (λ t. cond t e (at_number old n)) (number_itself n)

-- an endpoint was entered and put in, and the one that it replaces has left
pub settled : (old mid new : Places) (entries after : Numbered) (n : ℕ) (e : EndpointParts)
    → AreServed old entries → Enters old mid n e → IsSetAt entries after n (Some e)
    → Leaves mid new n (at_number entries n) (Some e) → AreServed new after
settled old mid new entries after n e served enters set leaves place =
    leaves place
    ∙ ap (λ m. if (is_of n (at_number entries n) place && not (is_of n (Some e) place)) then false
    else m) (enters place)
    ∙ by (n == place.2) refl
  where
    here : (f a o : Bool) → o ≡ a
        → (if (a && not f) then false else (if f then true else o)) ≡ f
    here true true o h = refl
    here true false o h = refl
    here false true o h = refl
    here false false o h = h

    by : (b : Bool) → (n == place.2) ≡ b
        → (if (is_of n (at_number entries n) place && not (is_of n (Some e) place)) then false
        else (if is_of n (Some e) place then true else serves_at old place))
        ≡ found_serving (at_number after place.2) place.0 place.1
    by false p =
        ap (λ b. if ((b && found_serving (at_number entries n) place.0 place.1)
        && not (b && found_serving (Some e) place.0 place.1)) then false
        else (if (b && found_serving (Some e) place.0 place.1) then true else serves_at old place))
        p
        ∙ served place
        ∙ ap (λ f. found_serving f place.0 place.1)
        (sym (set_there entries after n (Some e) set place.2 false p))
    by true p =
        ap (λ b. if ((b && found_serving (at_number entries n) place.0 place.1)
        && not (b && found_serving (Some e) place.0 place.1)) then false
        else (if (b && found_serving (Some e) place.0 place.1) then true else serves_at old place))
        p
        ∙ here (found_serving (Some e) place.0 place.1)
        (found_serving (at_number entries n) place.0 place.1) (serves_at old place)
        (served place ∙ at_place entries n place p)
        ∙ ap (λ f. found_serving f place.0 place.1)
        (sym (set_there entries after n (Some e) set place.2 true p))

-- an endpoint was taken out, and has left
pub left_out : (old new : Places) (entries after : Numbered) (n : ℕ)
    → AreServed old entries → IsSetAt entries after n None
    → Leaves old new n (at_number entries n) None → AreServed new after
left_out old new entries after n served set leaves place =
    leaves place ∙ by (n == place.2) refl
  where
    here : (a o : Bool) → o ≡ a → (if (a && not false) then false else o) ≡ false
    here true o h = refl
    here false o h = h

    by : (b : Bool) → (n == place.2) ≡ b
        → (if (is_of n (at_number entries n) place && not (is_of n None place)) then false
        else serves_at old place)
        ≡ found_serving (at_number after place.2) place.0 place.1
    by false p =
        ap (λ b. if ((b && found_serving (at_number entries n) place.0 place.1)
        && not (b && false)) then false else serves_at old place) p
        ∙ served place
        ∙ ap (λ f. found_serving f place.0 place.1)
        (sym (set_there entries after n None set place.2 false p))
    by true p =
        ap (λ b. if ((b && found_serving (at_number entries n) place.0 place.1)
        && not (b && false)) then false else serves_at old place) p
        ∙ here (found_serving (at_number entries n) place.0 place.1) (serves_at old place)
        (served place ∙ at_place entries n place p)
        ∙ ap (λ f. found_serving f place.0 place.1)
        (sym (set_there entries after n None set place.2 true p))

-- what holds at Ok, if the result is no error
pub unless_err : {T E P : Type 0} → (r : Result T E) → OnOk r P → is_err r ≡ false → P
unless_err (Ok x) h k = h
unless_err (Err e) h k = absurd (both_ways true k refl)

-- and at Err, if it is one
pub when_err : {T E P : Type 0} → (r : Result T E) → OnErr r P → is_err r ≡ true → P
when_err (Ok x) h k = absurd (both_ways false refl k)
when_err (Err e) h k = h

-- ---- the next gateway that serves
pub next_serves : (places : Places) (entries : Numbered) (zone prefix : List ℕ) (from : ℕ)
    → AreServed places entries → (found : Option ℕ)
    → MatchOption found
    ((number : ℕ) → from ≤ number → serves_at places (zone, prefix, number) ≡ false)
    (IsNext places zone prefix from)
    → MatchOption found (NoneServes entries zone prefix from)
    (IsNextServing entries zone prefix from)
next_serves places entries zone prefix from served None h =
    λ number low. sym (served (zone, prefix, number)) ∙ h number low
next_serves places entries zone prefix from served (Some n) h = record {
  there = sym (served (zone, prefix, n)) ∙ h.there;
  from_here = h.from_here;
  least = λ other low less. sym (served (zone, prefix, other)) ∙ h.least other low less;
}
