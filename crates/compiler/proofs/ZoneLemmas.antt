-- Zones by their names and numbers.
use Rattle.std.proofs.Common.{◌≡◌, ℕ, suc, ◌+◌, ◌≤◌, Bool, true, false, not, cond, nat_lt, List, [], ◌∷◌, ◌++◌, length, take, drop, refl, sym, ap, subst, ◌∙◌, arith, append_assoc, append-nil}
use Rattle.std.specs.Prelude.{Some, None, option_map, option_and_then, unwrap_or, bytes_eq, find, position}
use Rattle.std.specs.List.{IsDistinct, AllByRecursion, position_or_len}
use Rattle.std.specs.Map.{keys_of}
use Rattle.std.proofs.lemmas.Bool.Decides.{nat_tests}
use Rattle.std.proofs.lemmas.Cmp.{nat_list_eq_equiv}
use Rattle.std.proofs.lemmas.List.{map-append, take-append-drop}
use Rattle.std.proofs.lemmas.List.Elements.{filter_map-append}
use Rattle.indexmap.specs.IndexMap.{insert_entry}
use Rattle.gk_commands.specs.declared.commands.Command.{Command}
use Rattle.gk_commands.specs.declared.commands.Command.TheVariants.{ZoneLocal, ZoneRemote, ZonePrefix, GwTypePrefix, RejectUnknownPrefix, BandwidthDefault, BandwidthZone, BandwidthRemote}
use Rattle.gk_commands.specs.declared.zones.ZoneKind.{ZoneKind}
use Rattle.gk_commands.specs.Zones.{zones_of, declared_by, first_local_of, is_local_command}
use Rattle.compiler.specs.TablesIndex.{Zones}
use Rattle.compiler.proofs.StepLemmas.{one_or_none, filter_map-more}

-- ---- the first local zone
pub first_local_by_commands : (commands : List Command)
    → option_map (λ zone. zone.0) (option_and_then declared_by (find is_local_command commands))
    ≡ first_local_of commands
first_local_by_commands [] = refl
first_local_by_commands (ZoneLocal name domain address ∷ commands) = refl
first_local_by_commands (ZoneRemote name domain address cost priority ∷ commands) =
    first_local_by_commands commands
first_local_by_commands (ZonePrefix zone pattern gateways ∷ commands) =
    first_local_by_commands commands
first_local_by_commands (GwTypePrefix prefix hopoffs is_default ∷ commands) =
    first_local_by_commands commands
first_local_by_commands (RejectUnknownPrefix ∷ commands) = first_local_by_commands commands
first_local_by_commands (BandwidthDefault kind size ∷ commands) = first_local_by_commands commands
first_local_by_commands (BandwidthZone kind zone size ∷ commands) = first_local_by_commands commands
first_local_by_commands (BandwidthRemote size ∷ commands) = first_local_by_commands commands

-- ---- one more zone
middle : {X : Type 0} (P : X → Type 0) (xs ys : List X) (x : X) → AllByRecursion P (xs ++ x ∷ ys)
    → P x
middle P [] ys x h = h.0
middle P (y ∷ xs) ys x h = middle P xs ys x h.1

-- a name that differs from those before it goes last
insert_last : {V : Type 0} (es : List (List ℕ × V)) (k : List ℕ) (v : V) (rest : List (List ℕ))
    → IsDistinct bytes_eq (keys_of es ++ k ∷ rest)
    → insert_entry bytes_eq es k v ≡ es ++ (k, v) ∷ []
unfolding IsDistinct
insert_last [] k v rest h = refl
insert_last (e ∷ es) k v rest h =
    let apart : bytes_eq k e.0 ≡ false = nat_list_eq_equiv.symm k e.0
    ∙ middle (λ y. bytes_eq e.0 y ≡ false) (keys_of es) rest k h.0 in
    ap (λ t. cond t ((e.0, v) ∷ es) (e ∷ insert_entry bytes_eq es k v)) apart
    ∙ ap (λ l. e ∷ l) (insert_last es k v rest h.1)

-- the zones with that of one more command
pub zones_more : (commands : List Command) (place : ℕ) (command : Command)
    (zone : List ℕ × ZoneKind)
    → IsDistinct bytes_eq (keys_of (zones_of commands))
    → take (place + 1) commands ≡ take place commands ++ command ∷ []
    → declared_by command ≡ Some zone
    → insert_entry bytes_eq (zones_of (take place commands)) zone.0 zone.1
    ≡ zones_of (take (place + 1) commands)
zones_more commands place command zone distinct more h =
    insert_last front zone.0 zone.1 (keys_of rest)
    (subst (λ (names : List (List ℕ)). IsDistinct bytes_eq names)
    (ap keys_of whole ∙ map-append (λ e. e.0) front (zone ∷ rest)) distinct)
    ∙ sym joined
  where
    front : Zones
    front = zones_of (take place commands)

    rest : Zones
    rest = zones_of (drop (place + 1) commands)

    joined : zones_of (take (place + 1) commands) ≡ front ++ zone ∷ []
    joined = ap zones_of more ∙ filter_map-more declared_by (take place commands) command
        ∙ ap (λ o. front ++ one_or_none o) h

    whole : zones_of commands ≡ front ++ zone ∷ rest
    whole =
        ap zones_of (sym (take-append-drop (place + 1) commands))
        ∙ filter_map-append declared_by (take (place + 1) commands) (drop (place + 1) commands)
        ∙ ap (λ l. l ++ rest) joined
        ∙ append_assoc front (zone ∷ []) rest

pub zones_same : (commands : List Command) (place : ℕ) (command : Command)
    → take (place + 1) commands ≡ take place commands ++ command ∷ []
    → declared_by command ≡ None
    → zones_of (take place commands) ≡ zones_of (take (place + 1) commands)
zones_same commands place command more h =
    sym (ap zones_of more ∙ filter_map-more declared_by (take place commands) command
    ∙ ap (λ o. zones_of (take place commands) ++ one_or_none o) h
    ∙ append-nil (zones_of (take place commands)))

-- ---- numbers
number_within : {X : Type 0} (p : X → Bool) (xs : List X) → position_or_len p xs ≤ length xs
number_within p [] = omega arith
number_within p (x ∷ xs) = by (p x) (number_within p xs)
  where
    by : (t : Bool) → position_or_len p xs ≤ length xs
        → cond (not t) (1 + position_or_len p xs) 0 ≤ suc (length xs)
    by true h = omega arith
    by false h = omega arith

position_of_keys : {K V : Type 0} (test : K → Bool) (es : List (K × V))
    → position_or_len test (keys_of es) ≡ position_or_len (λ e. test e.0) es
position_of_keys test [] = refl
position_of_keys test (e ∷ es) =
    ap (λ n. cond (not (test e.0)) (1 + n) 0) (position_of_keys test es)

length_keys : {K V : Type 0} (es : List (K × V)) → length (keys_of es) ≡ length es
length_keys [] = refl
length_keys (e ∷ es) = ap suc (length_keys es)

-- the place of a key, or the count of all
pub number_by_position : {K V : Type 0} (test : K → Bool) (es : List (K × V))
    → unwrap_or (position test (keys_of es)) (length es) ≡ position_or_len (λ e. test e.0) es
number_by_position test es =
    by (nat_lt (position_or_len test (keys_of es)) (length (keys_of es))) refl
    ∙ position_of_keys test es
  where
    by : (t : Bool) → nat_lt (position_or_len test (keys_of es)) (length (keys_of es)) ≡ t
        → unwrap_or (cond t (Some (position_or_len test (keys_of es))) None) (length es)
        ≡ position_or_len test (keys_of es)
    by true e = refl
    by false e =
        let within = number_within test (keys_of es) in
        let same = length_keys es in
        grind (arith, nat_tests)
