-- The tables answer what the commands say.
use Rattle.std.proofs.Common.{◌≡◌, ℕ, ◌≤◌, Bool, true, false, cond, List, [], ◌∷◌, length, slice_get, refl, sym, ap, subst, ◌∙◌, arith}
use Rattle.std.specs.Prelude.{Option, Some, None, IfSome, option_map, option_and_then, unwrap_or, bytes_eq, nat_eq, find, position}
use Rattle.std.specs.List.{IsDistinct}
use Rattle.std.specs.Map.{lookup, keys_of}
use Rattle.std.proofs.lemmas.Map.Entries.{lookup_from_place}
use Rattle.std.proofs.lemmas.Option.{slice_get-map, slice_get_past}
use Rattle.digit_patterns.specs.PatternParts.{PatternParts}
use Rattle.digit_patterns.specs.Pattern.{same_pattern}
use Rattle.digit_patterns.specs.Table.{best_hit}
use Rattle.digit_patterns.specs.declared.tables.Hit.{Hit}
use Rattle.gk_commands.specs.declared.commands.Command.{Command}
use Rattle.gk_commands.specs.declared.zones.ZoneKind.{ZoneKind}
use Rattle.gk_commands.specs.Zones.{zones_of, zone_of, is_local, is_local_option}
use Rattle.gk_commands.specs.Accepted.{IsAccepted}
use Rattle.gk_commands.proofs.AcceptedLemmas.{zones_few}
use Rattle.gk_terms.specs.declared.limits.TheConstants.{MOST_ZONES}
use Rattle.compiler.specs.declared.limits.ZoneLimits.{ZoneLimits}
use Rattle.compiler.specs.declared.plans.TheConstants.{DEFAULT_GATEWAY_PRIORITY}
use Rattle.compiler.specs.Pick.{picked}
use Rattle.compiler.specs.Plan.{row_at, row_meant, target_of, by_row}
use Rattle.compiler.specs.Priority.{entries_of, named_priority, AreNamedFor, priority_of}
use Rattle.compiler.specs.Rows.{ZoneRow, rows_of, row_for, first_rows_of, with_picked_zone}
use Rattle.compiler.specs.Technology.{technology_of, hopoffs_of}
use Rattle.compiler.specs.Zones.{zone_meant, local_zone, view_at, view_of, view_of_name, number_in}
use Rattle.compiler.specs.TablesIndex.{Zones, kind_at, best_number, plan_to, numbered_priority_of, NumberedRow, zone_at_pattern, AreRows, Technologies, hopoff_at, IsFoundTechnology, IsLongest, Priorities, IsIndex}
use Rattle.compiler.proofs.RowLemmas.{IsEquivalence-pattern}
use Rattle.compiler.proofs.ZoneLemmas.{number_by_position}
use Rattle.compiler.proofs.TechnologyLemmas.{longest_none, longest_some}
use Rattle.compiler.proofs.GatewayLemmas.{numbered_is_named}
use Rattle.compiler.proofs.PickLemmas.{best_number-picked}
use Rattle.compiler.proofs.PlanLemmas.{IsRow, row_of_place, key_from_map, item_from_map, no_hit, row_at_hit, row_of_hit, pattern_at, plan_of_place, no_row_at}

-- what a look-up gives is beside the first key that passes
lookup_is_find : {K V : Type 0} (test : K → Bool) (es : List (K × V))
    → lookup test es ≡ option_map (λ e. e.1) (find (λ e. test e.0) es)
lookup_is_find test [] = refl
lookup_is_find test (e ∷ es) = by (test e.0) (lookup_is_find test es)
  where
    by : (t : Bool) → lookup test es ≡ option_map (λ e. e.1) (find (λ e. test e.0) es)
        → cond t (Some e.1) (lookup test es)
        ≡ option_map (λ e. e.1) (cond t (Some e) (find (λ e. test e.0) es))
    by true h = refl
    by false h = h

-- the map says of a name what the commands say
pub kept_zone : (zones : Zones) (commands : List Command) (name : List ℕ) → zones
    ≡ zones_of commands
    → lookup (bytes_eq name) zones ≡ zone_of commands name
kept_zone zones commands name h =
    ap (lookup (bytes_eq name)) h ∙ lookup_is_find (bytes_eq name) (zones_of commands)

-- the local zone that a name means, by what the map says of it
pub local_zone_by : (commands : List Command) (zones : Zones) (name zone : List ℕ)
    (kind : Option ZoneKind)
    → zones ≡ zones_of commands → zone ≡ zone_meant commands name
    → kind ≡ lookup (bytes_eq zone) zones
    → local_zone commands name ≡ cond (is_local_option kind) (Some zone) None
local_zone_by commands zones name zone kind h meant said =
    ap (λ z. cond (is_local commands z) (Some z) None) (sym meant)
    ∙ ap (λ o. cond (is_local_option o) (Some zone) None)
    (sym (kept_zone zones commands zone h) ∙ sym said)

-- a name that is among the keys of the map has this number
pub number_found : (zones : Zones) (commands : List Command) (name : List ℕ) (place : ℕ)
    → zones ≡ zones_of commands
    → position (bytes_eq name) (keys_of zones) ≡ Some place
    → number_in (zones_of commands) name ≡ place
number_found zones commands name place h at =
    sym (number_by_position (bytes_eq name) (zones_of commands))
    ∙ ap (λ (all : Zones). unwrap_or (position (bytes_eq name) (keys_of all)) (length all)) (sym h)
    ∙ ap (λ o. unwrap_or o (length zones)) at

-- and one that is not has no view
pub no_view : (zones : Zones) (commands : List Command) (name : List ℕ)
    → zones ≡ zones_of commands
    → position (bytes_eq name) (keys_of zones) ≡ None
    → view_of_name commands name ≡ None
no_view zones commands name h at =
    ap (view_at commands)
    (sym (number_by_position (bytes_eq name) (zones_of commands))
    ∙ ap (λ (all : Zones). unwrap_or (position (bytes_eq name) (keys_of all)) (length all)) (sym h)
    ∙ ap (λ o. unwrap_or o (length zones)) at ∙ ap length h)
    ∙ ap (option_map (view_of (length (zones_of commands))))
    (slice_get_past (zones_of commands) (length (zones_of commands)) (omega arith))

-- an accepted configuration declares no more zones than may be
pub few_zones : (commands : List Command) (zones : Zones) → zones ≡ zones_of commands
    → IsAccepted commands → length zones ≤ MOST_ZONES
few_zones commands zones h accepted = omega (arith, ap length h, zones_few commands accepted)

-- ---- rows
-- the row of a number, as it is kept
kept_row : (commands : List Command) (rows : List NumberedRow)
    → AreRows (zones_of commands) commands rows → IsDistinct same_pattern (keys_of rows)
    → (place : ℕ) (row : ZoneRow) → row_at commands place ≡ Some row
    → slice_get rows place ≡ Some (row.0, number_in (zones_of commands) row.1)
kept_row commands rows h distinct place row at =
    let first = item_from_map (with_picked_zone commands)
    (first_rows_of (rows_of commands)) place row at in
    let kept = key_from_map rows place first.0.0
    (ap (λ ks. slice_get ks place) h.patterns
    ∙ slice_get-map (λ r. r.0) (first_rows_of (rows_of commands)) place
    ∙ ap (option_map (λ r. r.0)) first.1) in
    let is_row : IsRow commands place kept.0.0 kept.0.1 =
    row_of_place commands rows place kept.0.0 kept.0.1 h kept.1
    (lookup_from_place IsEquivalence-pattern rows place kept.0.0 kept.0.1 distinct kept.1) in
    let same : Some (kept.0.0, is_row.zone) ≡ Some row = sym is_row.stands ∙ at in
    kept.1
    ∙ ap (λ n. Some (kept.0.0, n)) (sym is_row.numbered)
    ∙ ap (option_map (λ (r : ZoneRow). (r.0, number_in (zones_of commands) r.1))) same

-- the kept priorities of a row are what the commands say
pub kept_priorities : {S : Type 0} {commands : List Command} {zones : Zones} {first_local : List ℕ}
    {rows : List NumberedRow} {prefixes : List (PatternParts × ℕ)} {priorities : Priorities S}
    {technologies : Technologies} {default_technology : Option (List ℕ)} {rejects : Bool}
    {limits : List ZoneLimits} {remote_limit : Option ℕ}
    → IsIndex commands zones first_local rows prefixes priorities technologies default_technology
    rejects limits remote_limit
    → (place : ℕ)
    → IfSome (row_meant commands (Some place)) (λ used.
    AreNamedFor commands used (entries_of (lookup (nat_eq place) priorities)))
kept_priorities {S} {commands} {zones} {rows = rows} {priorities = priorities} h place =
    by (row_at commands place) refl
  where
    by : (o : Option ZoneRow) → row_at commands place ≡ o
        → IfSome (option_map (λ row. Some row) o) (λ used.
        AreNamedFor commands used (entries_of (lookup (nat_eq place) priorities)))
    by None e = tt
    by (Some row) e = λ gateway.
        h.priorities_are place (row.0, number_in (zones_of commands) row.1)
        (kept_row commands rows
        (subst (λ (all : Zones). AreRows all commands rows) h.zones_are h.rows_are) h.distinct place
        row e) gateway
        ∙ ap (λ all. numbered_priority_of all commands
        (row.0, number_in (zones_of commands) row.1) gateway) h.zones_are
        ∙ numbered_is_named commands row gateway h.declared

-- the priorities that are named for a row give those of all gateways
pub priority_by_named : (commands : List Command) (used : Option ZoneRow) (named : List (List ℕ ×
    ℕ))
    → AreNamedFor commands used named
    → (gateway : List ℕ) → named_priority named gateway ≡ priority_of commands used gateway
priority_by_named commands None named h gateway = ap (λ all. named_priority all gateway) h
priority_by_named commands (Some row) named h gateway =
    ap (λ o. unwrap_or o DEFAULT_GATEWAY_PRIORITY) (h gateway)

-- ---- by the whole index
module _ {S : Type 0} {commands : List Command} {zones : Zones} {first_local : List ℕ}
    {rows : List NumberedRow} {prefixes : List (PatternParts × ℕ)} {priorities : Priorities S}
    {technologies : Technologies} {default_technology : Option (List ℕ)} {rejects : Bool}
    {limits : List ZoneLimits} {remote_limit : Option ℕ}
    (h : IsIndex commands zones first_local rows prefixes priorities technologies default_technology
    rejects limits remote_limit) where
  index_rows : AreRows (zones_of commands) commands rows
  index_rows = subst (λ (all : Zones). AreRows all commands rows) h.zones_are h.rows_are

  pub index_no_hit : (text : List ℕ) → best_hit prefixes text ≡ None → row_for commands text ≡ None
  index_no_hit text e =
      no_hit commands rows index_rows text (ap (λ all. best_hit all text) (sym h.prefixes_are) ∙ e)

  pub index_row_at_hit : (text : List ℕ) (hit : Hit) → best_hit prefixes text ≡ Some hit
      → slice_get rows hit.value ≡ None → ⊥
  index_row_at_hit text hit e =
      row_at_hit commands rows index_rows text hit
      (ap (λ all. best_hit all text) (sym h.prefixes_are) ∙ e)

  pub index_row_of_hit : (text : List ℕ) (hit : Hit) → best_hit prefixes text ≡ Some hit
      → row_meant commands (Some hit.value) ≡ Some (row_for commands text)
  index_row_of_hit text hit e = by (slice_get rows hit.value) refl
    where
      by : (o : Option NumberedRow) → slice_get rows hit.value ≡ o
          → row_meant commands (Some hit.value) ≡ Some (row_for commands text)
      by None at = absurd (index_row_at_hit text hit e at)
      by (Some row) at =
          row_of_hit commands rows index_rows text hit row.0 row.1
          (ap (λ all. best_hit all text) (sym h.prefixes_are) ∙ e) at
          (lookup_from_place IsEquivalence-pattern rows hit.value row.0 row.1 h.distinct at)

  pub index_pattern : (place : ℕ) → option_map (λ (row : NumberedRow). row.0) (slice_get rows place)
      ≡ option_map (λ (row : ZoneRow). row.0) (row_at commands place)
  index_pattern = pattern_at commands rows index_rows

  pub index_plan_of_place : (place : ℕ) (pattern : PatternParts) (number : ℕ)
      (technology : Option (List ℕ)) → slice_get rows place ≡ Some (pattern, number)
      → zone_at_pattern rows pattern ≡ Some number
      → IfSome (row_meant commands (Some place)) (λ used. target_of commands
      (plan_to (kind_at (zones_of commands) number) number technology (Some place))
      ≡ Some (by_row commands technology used))
  index_plan_of_place = plan_of_place commands rows index_rows

  pub index_no_row : (place : ℕ) (Meant : Option ZoneRow → Type 0) → slice_get rows place ≡ None
      → IfSome (row_meant commands (Some place)) Meant
  index_no_row = no_row_at commands rows index_rows

  pub index_hopoff_of : (prefix : List ℕ) → hopoff_at technologies prefix
      ≡ option_map (number_in (zones_of commands)) (picked commands (hopoffs_of commands prefix))
  index_hopoff_of prefix =
      h.technologies_are.picked prefix
      ∙ ap (λ all. best_number all (hopoffs_of commands prefix)) h.zones_are
      ∙ best_number-picked commands (hopoffs_of commands prefix)

  pub index_longest_none : (digits : List ℕ) → IsLongest technologies digits None
      → technology_of commands digits ≡ None
  index_longest_none digits = longest_none zones commands technologies h.technologies_are digits

  pub index_longest : (digits found : List ℕ) (hopoff : Option ℕ)
      → IsFoundTechnology technologies digits found hopoff
      → technology_of commands digits ≡ Some found
  index_longest digits found hopoff =
      longest_some zones commands technologies h.technologies_are digits found hopoff

  pub index_hopoff : (digits found : List ℕ) (hopoff : Option ℕ)
      → IsFoundTechnology technologies digits found hopoff
      → hopoff ≡ best_number (zones_of commands) (hopoffs_of commands found)
  index_hopoff digits found hopoff f =
      ap (option_and_then (λ (o : Option ℕ). o)) (sym f.kept)
      ∙ h.technologies_are.picked found
      ∙ ap (λ all. best_number all (hopoffs_of commands found)) h.zones_are

-- one thing of what is there for another
pub if_some : {X : Type 0} (o : Option X) (P Q : X → Type 0) → ((x : X) → P x → Q x) → IfSome o P
    → IfSome o Q
if_some None P Q f h = tt
if_some (Some x) P Q f h = f x h
