-- Where the commands send dialled digits: each target comes of a technology prefix, of a pattern,
-- or of neither.
use Rattle.std.proofs.Common.{◌≡◌, ◌≤◌, ℕ, zero, suc, ◌==◌, Bool, true, false, cond, ◌&&◌, List, [], ◌∷◌, ◌++◌, length, drop, filter, find, Option, Some, None, slice_get, option_map, bytes_eq, refl, subst, arith}
use Rattle.std.specs.Prelude.{IsTrue, option_and_then}
use Rattle.std.specs.Bool.{beq}
use Rattle.std.specs.List.{All, Contains, filter_map, cons_option}
use Rattle.std.proofs.lemmas.Bool.{ltb-false, and_from}
use Rattle.std.proofs.lemmas.Cmp.{nat_list_eq_equiv, nat_eq_equiv}
use Rattle.std.proofs.lemmas.List.Elements.{All-nil, All-cons, All-weaker, All-contains, All-append, filter_passes}
use Rattle.std.proofs.lemmas.Option.{none-some, get_or_from_slice_get}
use Rattle.gk_terms.proofs.ChoiceLemmas.{IsRankOrder, IsRankOrder-by, first_unbeaten-none, first_unbeaten-IsFirstUnbeaten, within_list}
use Rattle.digit_patterns.specs.PatternParts.{PatternParts}
use Rattle.digit_patterns.specs.Pattern.{matches, Matches, same_pattern}
use Rattle.digit_patterns.specs.Table.{best_of}
use Rattle.digit_patterns.proofs.RankLaws.{best_of-none, best_of-IsBest}
use Rattle.gk_commands.specs.declared.commands.Command.{Command}
use Rattle.gk_commands.specs.declared.commands.Command.TheVariants.{ZoneLocal, ZoneRemote, ZonePrefix, GwTypePrefix, RejectUnknownPrefix, BandwidthDefault, BandwidthZone, BandwidthRemote}
use Rattle.gk_commands.specs.declared.zones.ZoneKind.{ZoneKind}
use Rattle.gk_commands.specs.declared.zones.ZoneKind.TheVariants as kinds
use Rattle.gk_commands.specs.Zones.{zone_of, zones_of, is_declared, named_by}
use Rattle.compiler.specs.Pick.{picked, is_picked_before, IsPicked}
use Rattle.compiler.specs.Technology.{prefixes_of, begins_with, is_longer, longest_beginning, technology_among, hopoffs_in, hopoffs_of}
use Rattle.compiler.specs.Rows.{ZoneRow, row_of, rows_of, zone_for, zones_for, row_of_pattern, row_for}
use Rattle.compiler.specs.Plan.{Target, RemoteZone, LocalZone, CallersZone, UnknownPrefix, target_in, rejects_unknown, by_row, by_hopoff, by_technology, plan_with}
use Rattle.admission.specs.RouteLaws.{IsTechnology, NoTechnology, IsLookedFor, All_of_them, After_prefix, IsLongestRow, NoneMatches, IsSentTo, ByHopoff, ByPattern}
use Rattle.admission.proofs.FirstLaws.{untrue, find_some}

-- ---- lists
-- the elements that pass a test have the property, so each has it that passes
all_of_filter : {X : Type 0} (p : X → Bool) (P : X → Type 0) (xs : List X)
    → All P (filter p xs) → All (λ x. IsTrue (p x) → P x) xs
all_of_filter p P [] h = All-nil (λ x. IsTrue (p x) → P x)
all_of_filter p P (x ∷ xs) h = by (p x) refl (all_of_filter p P xs) h
  where
    by : (t : Bool) → p x ≡ t → (All P (filter p xs) → All (λ x. IsTrue (p x) → P x) xs)
        → All P (cond t (x ∷ filter p xs) (filter p xs)) → All (λ x. IsTrue (p x) → P x) (x ∷ xs)
    by true e rest h =
        All-cons (λ x. IsTrue (p x) → P x) x xs (λ _. h 0 x (omega arith))
        (rest (λ k d within. h (suc k) d (omega (arith, within))))
    by false e rest h =
        All-cons (λ x. IsTrue (p x) → P x) x xs (λ passed. absurd (untrue (p x) e passed)) (rest h)

-- no element passes
none_of_filter : {X : Type 0} (p : X → Bool) (xs : List X) → filter p xs ≡ []
    → All (λ x. ¬ IsTrue (p x)) xs
none_of_filter p [] h = All-nil (λ x. ¬ IsTrue (p x))
none_of_filter p (x ∷ xs) h = by (p x) refl (none_of_filter p xs) h
  where
    by : (t : Bool) → p x ≡ t → (filter p xs ≡ [] → All (λ x. ¬ IsTrue (p x)) xs)
        → cond t (x ∷ filter p xs) (filter p xs) ≡ [] → All (λ x. ¬ IsTrue (p x)) (x ∷ xs)
    by true e rest h = let impossible : ⊥ = cc in absurd impossible
    by false e rest h = All-cons (λ x. ¬ IsTrue (p x)) x xs (untrue (p x) e) (rest h)

-- an element of the filtered list is one of the list
in_filter : {X : Type 0} (p : X → Bool) (xs : List X) (x : X) → Contains (filter p xs) x
    → Contains xs x
in_filter p [] x h = h
in_filter p (y ∷ ys) x h = by (p y) (in_filter p ys x) h
  where
    more : Contains ys x → Contains (y ∷ ys) x
    more (k, within, same) = (suc k, omega (arith, within), same)

    by : (t : Bool) → (Contains (filter p ys) x → Contains ys x)
        → Contains (cond t (y ∷ filter p ys) (filter p ys)) x → Contains (y ∷ ys) x
    by false rest h = more (rest h)
    by true rest (zero, within, same) = (zero, omega arith, same)
    by true rest (suc k, within, same) = more (rest (k, omega (arith, within), same))

-- what stands at a place is contained
contained : {X : Type 0} (xs : List X) (k : ℕ) (x : X) → slice_get xs k ≡ Some x → Contains xs x
contained xs k x h = (k, within_list xs k x h, get_or_from_slice_get xs k x x h)

-- ---- technology prefixes
module _ (known : List (List ℕ)) (digits : List ℕ) where
  some_technology : (prefix : List ℕ) → longest_beginning known digits ≡ Some prefix
      → IsTechnology known digits prefix
  some_technology prefix h =
      let beginning = filter (begins_with digits) known in
      let first = first_unbeaten-IsFirstUnbeaten is_longer beginning prefix h in
      let there = contained beginning first.place prefix first.stands in
      record {
        is_known = in_filter (begins_with digits) known prefix there;
        begins = All-contains (λ p. begins_with digits p ≡ true) beginning prefix
            (filter_passes (begins_with digits) known) there;
        longest = all_of_filter (begins_with digits) (λ other. length other ≤ length prefix) known
            (All-weaker (λ other. is_longer other prefix ≡ false)
            (λ other. length other ≤ length prefix)
            (λ other e. ltb-false (length prefix) (length other) e) beginning first.unbeaten);
      }

  no_technology : longest_beginning known digits ≡ None → NoTechnology known digits
  no_technology h =
      none_of_filter (begins_with digits) known
      (first_unbeaten-none is_longer (IsRankOrder-by length) (filter (begins_with digits) known) h)

-- ---- picks
module _ (commands : List Command) (order : IsRankOrder (is_picked_before commands)) where
  pick_is : (names : List (List ℕ)) (name : List ℕ) → picked commands names ≡ Some name
      → IsPicked commands names name
  pick_is names name h =
      first_unbeaten-IsFirstUnbeaten (is_picked_before commands) names name h

  no_pick : (names : List (List ℕ)) → picked commands names ≡ None → names ≡ []
  no_pick names h = first_unbeaten-none (is_picked_before commands) order names h

-- ---- rows
same : (p : PatternParts) → same_pattern p p ≡ true
same p =
    and_from (bytes_eq p.literals p.literals) ((p.dots == p.dots) && beq p.star p.star)
    (nat_list_eq_equiv.refl p.literals)
    (and_from (p.dots == p.dots) (beq p.star p.star) (nat_eq_equiv.refl p.dots) (by p.star))
  where
    by : (t : Bool) → beq t t ≡ true
    by true = refl
    by false = refl

-- a pattern that a row has is declared for some zone
some_zone : (rows : List ZoneRow) (row : ZoneRow) → Contains rows row
    → filter_map (zone_for row.0) rows ≡ [] → ⊥
some_zone [] row (k, within, there) h = absurd (omega (arith, within))
some_zone (other ∷ rows) row (zero, within, there) h = by (same_pattern other.0 row.0) passed h
  where
    passed : same_pattern other.0 row.0 ≡ true
    passed = subst (λ (r : ZoneRow). same_pattern other.0 r.0 ≡ true) there (same other.0)

    by : (t : Bool) → t ≡ true
        → cons_option (cond t (Some other.1) None) (filter_map (zone_for row.0) rows) ≡ [] → ⊥
    by true e h = cc
    by false e h = cc
some_zone (other ∷ rows) row (suc k, within, there) h =
    some_zone rows row (k, omega (arith, within), there) (rest (same_pattern other.0 row.0) h)
  where
    rest : (t : Bool)
        → cons_option (cond t (Some other.1) None) (filter_map (zone_for row.0) rows) ≡ []
        → filter_map (zone_for row.0) rows ≡ []
    rest true h = let impossible : ⊥ = cc in absurd impossible
    rest false h = h

module _ (commands : List Command) (order : IsRankOrder (is_picked_before commands))
    (digits : List ℕ) where
  by_best : (row : ZoneRow) (best : Option ZoneRow) → best_of (rows_of commands) digits ≡ best
      → option_and_then (λ best. row_of_pattern commands best.0) best ≡ Some row
      → IsLongestRow commands digits row
  by_best row None e h = absurd (none-some row h)
  by_best row (Some best) e h = by (picked commands (zones_for commands best.0)) refl h
    where
      by : (zone : Option (List ℕ)) → picked commands (zones_for commands best.0) ≡ zone
          → option_map {U = ZoneRow} (λ zone. (best.0, zone)) zone ≡ Some row → IsLongestRow
          commands
          digits row
      by None f h = absurd (none-some row h)
      by (Some zone) f h =
          let is : (best.0, zone) ≡ row = cc in
          subst (IsLongestRow commands digits) is (record {
            zone = best.1;
            longest = best_of-IsBest (rows_of commands) digits best e;
            picked = pick_is commands order (zones_for commands best.0) zone f;
          })

  longest_row : (row : ZoneRow) → row_for commands digits ≡ Some row → IsLongestRow commands
      digits row
  longest_row row h = by_best row (best_of (rows_of commands) digits) refl h

  none_matches : row_for commands digits ≡ None → NoneMatches commands digits
  none_matches h = by (best_of (rows_of commands) digits) refl h
    where
      by : (best : Option ZoneRow) → best_of (rows_of commands) digits ≡ best
          → option_and_then (λ best. row_of_pattern commands best.0) best ≡ None
          → NoneMatches commands digits
      by None e h =
          All-weaker (λ (row : ZoneRow). matches row.0 digits ≡ false)
          (λ (row : ZoneRow). ¬ Matches row.0 digits)
          (λ row f. untrue (matches row.0 digits) f) (rows_of commands)
          (best_of-none (rows_of commands) digits e)
      by (Some best) e h =
          absurd (some_zone (rows_of commands) best (best_of-IsBest (rows_of commands) digits best
          e).row
          (no_pick commands order (zones_for commands best.0)
          (unmapped (picked commands (zones_for commands best.0)) h)))
        where
          unmapped : (zone : Option (List ℕ))
              → option_map {U = ZoneRow} (λ zone. (best.0, zone)) zone ≡ None
              → zone ≡ None
          unmapped None h = refl
          unmapped (Some zone) h = let impossible : ⊥ = cc in absurd impossible

-- ---- an accepted configuration declares each zone that it names
abbrev pub NamesDeclared : List Command → List Command → Type 0
NamesDeclared all commands =
    All (λ command. All (λ name. is_declared all name ≡ true) (named_by command)) commands

module _ (all : List Command) where
  rest_declared : (command : Command) (commands : List Command)
      → NamesDeclared all (command ∷ commands) → NamesDeclared all commands
  rest_declared command commands declared k d within =
      declared (suc k) d (omega (arith, within))

  first_declared : (command : Command) (commands : List Command)
      → NamesDeclared all (command ∷ commands)
      → All (λ name. is_declared all name ≡ true) (named_by command)
  first_declared command commands declared = declared 0 command (omega arith)

  hopoffs_declared : (prefix : List ℕ) (commands : List Command) → NamesDeclared all commands
      → All (λ name. is_declared all name ≡ true) (hopoffs_of commands prefix)
  hopoffs_declared prefix [] declared = All-nil (λ name. is_declared all name ≡ true)
  hopoffs_declared prefix (command ∷ commands) declared =
      All-append (λ name. is_declared all name ≡ true) (hopoffs_in prefix command)
      (hopoffs_of commands prefix) (by command (first_declared command commands declared))
      (hopoffs_declared prefix commands (rest_declared command commands declared))
    where
      nothing : All (λ name. is_declared all name ≡ true) []
      nothing = All-nil (λ name. is_declared all name ≡ true)

      by : (command : Command) → All (λ name. is_declared all name ≡ true) (named_by command)
          → All (λ name. is_declared all name ≡ true) (hopoffs_in prefix command)
      by (ZoneLocal name domain address) h = nothing
      by (ZoneRemote name domain address cost priority) h = nothing
      by (ZonePrefix zone pattern gateways) h = nothing
      by (GwTypePrefix declared hopoffs is_default) h = one (bytes_eq declared prefix)
        where
          one : (t : Bool) → All (λ name. is_declared all name ≡ true) (cond t hopoffs [])
          one true = h
          one false = nothing
      by RejectUnknownPrefix h = nothing
      by (BandwidthDefault kind size) h = nothing
      by (BandwidthZone kind zone size) h = nothing
      by (BandwidthRemote size) h = nothing

  rows_declared : (commands : List Command) → NamesDeclared all commands
      → All (λ (row : ZoneRow). is_declared all row.1 ≡ true) (rows_of commands)
  rows_declared [] declared = All-nil (λ (row : ZoneRow). is_declared all row.1 ≡ true)
  rows_declared (command ∷ commands) declared =
      by command (first_declared command commands declared)
      (rows_declared commands (rest_declared command commands declared))
    where
      by : (command : Command) → All (λ name. is_declared all name ≡ true) (named_by command)
          → All (λ (row : ZoneRow). is_declared all row.1 ≡ true) (rows_of commands)
          → All (λ (row : ZoneRow). is_declared all row.1 ≡ true)
          (cons_option (row_of command) (rows_of commands))
      by (ZoneLocal name domain address) h rest = rest
      by (ZoneRemote name domain address cost priority) h rest = rest
      by (ZonePrefix zone pattern gateways) h rest =
          All-cons (λ (row : ZoneRow). is_declared all row.1 ≡ true) (pattern, zone) (rows_of
          commands)
          (h 0 zone (omega arith)) rest
      by (GwTypePrefix prefix hopoffs is_default) h rest = rest
      by RejectUnknownPrefix h rest = rest
      by (BandwidthDefault kind size) h rest = rest
      by (BandwidthZone kind zone size) h rest = rest
      by (BandwidthRemote size) h rest = rest

  zones_declared : (pattern : PatternParts) (rows : List ZoneRow)
      → All (λ (row : ZoneRow). is_declared all row.1 ≡ true) rows
      → All (λ name. is_declared all name ≡ true) (filter_map (zone_for pattern) rows)
  zones_declared pattern [] h = All-nil (λ name. is_declared all name ≡ true)
  zones_declared pattern (row ∷ rows) h =
      by (same_pattern row.0 pattern)
      (zones_declared pattern rows (λ k d within. h (suc k) d (omega (arith, within))))
    where
      by : (t : Bool)
          → All (λ name. is_declared all name ≡ true) (filter_map (zone_for pattern) rows)
          → All (λ name. is_declared all name ≡ true)
          (cons_option (cond t (Some row.1) None) (filter_map (zone_for pattern) rows))
      by true rest =
          All-cons (λ name. is_declared all name ≡ true) row.1
          (filter_map (zone_for pattern) rows) (h 0 row (omega arith)) rest
      by false rest = rest

  -- what is picked from declared names is declared
  picked_declared : (names : List (List ℕ)) (name : List ℕ)
      → All (λ name. is_declared all name ≡ true) names → IsPicked all names name
      → is_declared all name ≡ true
  picked_declared names name declared pick =
      All-contains (λ name. is_declared all name ≡ true) names name declared
      (contained names pick.place name pick.stands)

  -- so something is said of it
  zone_known : (name : List ℕ) → is_declared all name ≡ true → zone_of all name ≡ None → ⊥
  zone_known name declared none =
      find_some (λ (zone : List ℕ × ZoneKind). bytes_eq name zone.0) (zones_of all) declared
      (unmapped (find (λ zone. bytes_eq name zone.0) (zones_of all)) none)
    where
      unmapped : (zone : Option (List ℕ × ZoneKind)) → option_map (λ zone. zone.1) zone ≡ None
          → zone ≡ None
      unmapped None h = refl
      unmapped (Some zone) h = let impossible : ⊥ = cc in absurd impossible

-- ---- targets
-- what a target says of the digits
abbrev pub Means : List (List ℕ) → List Command → List ℕ → Target → Type 0
Means known commands digits (RemoteZone zone address) =
    (technology : Option (List ℕ)) × (row : Option ZoneRow) × (cost : ℕ) × (priority : ℕ)
    × IsSentTo known commands digits zone technology row
    × (zone_of commands zone ≡ Some (kinds.Remote address cost priority))
Means known commands digits (LocalZone zone technology row) =
    IsSentTo known commands digits zone technology row × (zone_of commands zone ≡ Some kinds.Local)
Means known commands digits (CallersZone technology) =
    (rest : List ℕ) × IsLookedFor known commands digits technology rest × NoneMatches commands rest
    × (rejects_unknown commands ≡ false)
Means known commands digits UnknownPrefix =
    (technology : Option (List ℕ)) × (rest : List ℕ)
    × IsLookedFor known commands digits technology rest × NoneMatches commands rest
    × (rejects_unknown commands ≡ true)

module _ (known : List (List ℕ)) (commands : List Command)
    (order : IsRankOrder (is_picked_before commands)) (declared : NamesDeclared commands commands)
    (digits : List ℕ) where
  sent : (zone : List ℕ) (technology : Option (List ℕ)) (row : Option ZoneRow)
      → IsSentTo known commands digits zone technology row → is_declared commands zone ≡ true
      → (kind : Option ZoneKind) → zone_of commands zone ≡ kind
      → Means known commands digits (target_in zone technology row kind)
  sent zone technology row to there None e = absurd (zone_known commands zone there e)
  sent zone technology row to there (Some kinds.Local) e = (to, e)
  sent zone technology row to there (Some (kinds.Remote address cost priority)) e =
      (technology, row, cost, priority, to, e)

  looked_for : (technology : Option (List ℕ)) (rest : List ℕ)
      → IsLookedFor known commands digits technology rest → (row : Option ZoneRow)
      → row_for commands rest ≡ row → Means known commands digits (by_row commands technology row)
  looked_for technology rest looked (Some row) e =
      let longest = longest_row commands order rest row e in
      sent row.1 technology (Some row) (ByPattern technology rest row looked longest)
      (picked_declared commands (zones_for commands row.0) row.1
      (zones_declared commands row.0 (rows_of commands) (rows_declared commands commands declared))
      longest.picked) (zone_of commands row.1) refl
  looked_for technology rest looked None e = by (rejects_unknown commands) refl
    where
      by : (t : Bool) → rejects_unknown commands ≡ t
          → Means known commands digits (cond t UnknownPrefix (CallersZone technology))
      by true f = (technology, rest, looked, none_matches commands order rest e, f)
      by false f = (rest, looked, none_matches commands order rest e, f)

  hopped : (prefix : List ℕ) → IsTechnology known digits prefix → (zone : Option (List ℕ))
      → picked commands (hopoffs_of commands prefix) ≡ zone
      → Means known commands digits (by_hopoff commands prefix (drop (length prefix) digits) zone)
  hopped prefix technology (Some zone) e =
      let pick = pick_is commands order (hopoffs_of commands prefix) zone e in
      sent zone (Some prefix) None (ByHopoff prefix zone technology pick)
      (picked_declared commands (hopoffs_of commands prefix) zone
      (hopoffs_declared commands prefix commands declared) pick) (zone_of commands zone) refl
  hopped prefix technology None e =
      looked_for (Some prefix) (drop (length prefix) digits)
      (After_prefix prefix technology (no_pick commands order (hopoffs_of commands prefix) e))
      (row_for commands (drop (length prefix) digits)) refl

  by_prefix : (technology : Option (List ℕ)) → longest_beginning known digits ≡ technology
      → Means known commands digits (by_technology commands digits technology)
  by_prefix None e =
      looked_for None digits (All_of_them (no_technology known digits e))
      (row_for commands digits) refl
  by_prefix (Some prefix) e =
      hopped prefix (some_technology known digits prefix e)
      (picked commands (hopoffs_of commands prefix)) refl

-- what the commands and some learned prefixes say of the digits
pub plan_means : (learned : List (List ℕ)) (commands : List Command)
    (order : IsRankOrder (is_picked_before commands)) (declared : NamesDeclared commands commands)
    (digits : List ℕ)
    → Means (learned ++ prefixes_of commands) commands digits (plan_with learned commands digits)
unfolding plan_with
plan_means learned commands order declared digits =
    by_prefix (learned ++ prefixes_of commands) commands order declared digits
    (technology_among learned commands digits) refl
