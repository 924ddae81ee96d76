-- Plans of numbered zones and rows, and what they mean.
use Rattle.std.proofs.Common.{◌≡◌, ℕ, List, [], ◌∷◌, length, drop, map, slice_get, refl, sym, ap, subst, ◌∙◌}
use Rattle.std.specs.Prelude.{Option, Some, None, IfSome, option_map, option_and_then, unwrap_or, bytes_eq, find}
use Rattle.std.specs.Map.{keys_of}
use Rattle.std.specs.Cmp.Lexicographic.{same_text}
use Rattle.std.proofs.lemmas.List.Folds.{find_at}
use Rattle.std.proofs.lemmas.Option.{slice_get-map}
use Rattle.gk_terms.proofs.ChoiceLemmas.{find_passes}
use Rattle.digit_patterns.specs.PatternParts.{PatternParts}
use Rattle.digit_patterns.specs.Duplicate.{duplicate_of}
use Rattle.digit_patterns.specs.Table.{best_of, best_hit, hit_of}
use Rattle.digit_patterns.specs.declared.tables.Hit.{Hit}
use Rattle.gk_commands.specs.declared.commands.Command.{Command}
use Rattle.gk_commands.specs.declared.zones.ZoneKind.{ZoneKind}
use Rattle.gk_commands.specs.declared.zones.ZoneKind.TheVariants as kinds
use Rattle.gk_commands.specs.Zones.{zones_of, zone_of}
use Rattle.compiler.specs.Pick.{picked}
use Rattle.compiler.specs.Plan.{RemoteZone, LocalZone, target_in, remote_target, local_target, row_at, row_meant, target_of, by_row, by_hopoff, by_technology, plan_of}
use Rattle.compiler.specs.Rows.{ZoneRow, rows_of, zones_for, row_of_pattern, row_for, first_rows_of, with_picked_zone}
use Rattle.compiler.specs.Technology.{technology_of, hopoffs_of}
use Rattle.compiler.specs.Zones.{zone_at, number_in}
use Rattle.compiler.specs.TablesIndex.{kind_at, best_number, plan_to, NumberedRow, zone_at_pattern, AreRows, places_of}
use Rattle.compiler.proofs.FirstRows.{beside, at_place, best_of-first_rows_of, best_of-beside, best_of-places_of, duplicate_of-beside, distinct-first_rows_of}
use Rattle.compiler.proofs.PickLemmas.{best_number-picked}

-- ---- zones
-- the zone of the number of a name is the zone of that name
pub zone_of_number : (commands : List Command) (name : List ℕ)
    → zone_at commands (number_in (zones_of commands) name)
    ≡ find (λ zone. bytes_eq name zone.0) (zones_of commands)
zone_of_number commands name = sym (find_at (λ zone. bytes_eq name zone.0) (zones_of commands))

-- the plan for a zone by its number means that zone
pub plan_to_zone : (commands : List Command) (name : List ℕ) (technology : Option (List ℕ))
    (row : Option ℕ) (used : Option ZoneRow)
    → row_meant commands row ≡ Some used
    → target_of commands (plan_to (kind_at (zones_of commands) (number_in (zones_of commands) name))
    (number_in (zones_of commands) name) technology row)
    ≡ Some (target_in name technology used (zone_of commands name))
plan_to_zone commands name technology row used h =
    by (find (λ zone. bytes_eq name zone.0) (zones_of commands)) refl
  where
    by : (o : Option (List ℕ × ZoneKind)) → find (λ zone. bytes_eq name zone.0) (zones_of commands)
        ≡ o
        → target_of commands (plan_to
        (kind_at (zones_of commands) (number_in (zones_of commands) name))
        (number_in (zones_of commands) name) technology row)
        ≡ Some (target_in name technology used (zone_of commands name))
    by None e =
        ap (λ found. target_of commands
        (plan_to (option_map (λ zone. zone.1) found)
        (number_in (zones_of commands) name) technology row))
        (zone_of_number commands name ∙ e)
        ∙ ap (λ found. Some (target_in name technology used (option_map (λ zone. zone.1) found)))
        (sym e)
    by (Some (found, kinds.Local)) e =
        let same : name ≡ found =
        same_text name found (sym
        (find_passes (λ zone. bytes_eq name zone.0) (zones_of commands) (found, kinds.Local) e)) in
        ap (λ zone. target_of commands
        (plan_to (option_map (λ z. z.1) zone) (number_in (zones_of commands) name) technology row))
        (zone_of_number commands name ∙ e)
        ∙ ap (option_and_then
        (λ row_used. option_and_then (local_target technology row_used)
        (zone_at commands (number_in (zones_of commands) name)))) h
        ∙ ap (option_and_then (local_target technology used)) (zone_of_number commands name ∙ e)
        ∙ ap (λ zone. Some (LocalZone zone technology used)) (sym same)
        ∙ ap (λ zone. Some (target_in name technology used (option_map (λ z. z.1) zone))) (sym e)
    by (Some (found, kinds.Remote address cost priority)) e =
        let same : name ≡ found =
        same_text name found (sym
        (find_passes (λ zone. bytes_eq name zone.0) (zones_of commands)
        (found, kinds.Remote address cost priority) e)) in
        ap (λ zone. target_of commands
        (plan_to (option_map (λ z. z.1) zone) (number_in (zones_of commands) name) technology row))
        (zone_of_number commands name ∙ e)
        ∙ ap (option_and_then remote_target) (zone_of_number commands name ∙ e)
        ∙ ap (λ zone. Some (RemoteZone zone address)) (sym same)
        ∙ ap (λ zone. Some (target_in name technology used (option_map (λ z. z.1) zone))) (sym e)

-- ---- rows
-- what the row of a place is, by its number
pub record IsRow (commands : List Command) (place : ℕ) (pattern : PatternParts) (number : ℕ)
    : Type 0 where
  pub zone : List ℕ
  pub chosen : picked commands (zones_for commands pattern) ≡ Some zone
  pub numbered : number_in (zones_of commands) zone ≡ number
  pub stands : row_at commands place ≡ Some (pattern, zone)

-- an option of which the number is known
some_from_map : {X : Type 0} (f : X → ℕ) (o : Option X) (n : ℕ) → option_map f o ≡ Some n
    → (x : X) × (o ≡ Some x) × (f x ≡ n)
some_from_map f None n h = absurd (impossible h)
  where
    impossible : None ≡ Some n → ⊥
    impossible e = cc
some_from_map f (Some x) n h = (x, refl, cc)

pub item_from_map : {X Y : Type 0} (f : X → Y) (xs : List X) (place : ℕ) (y : Y)
    → slice_get (map f xs) place ≡ Some y → (x : X) × (slice_get xs place ≡ Some x) × (f x ≡ y)
item_from_map {X} {Y} f xs place y h = by (slice_get xs place) (sym (slice_get-map f xs place) ∙ h)
  where
    by : (o : Option X) → option_map f o ≡ Some y → (x : X) × (o ≡ Some x) × (f x ≡ y)
    by None g = absurd (impossible g)
      where
        impossible : None ≡ Some y → ⊥
        impossible e = cc
    by (Some x) g = (x, refl, ap (λ o. unwrap_or o (f x)) g)

pub key_from_map : {K V : Type 0} (es : List (K × V)) (place : ℕ) (k : K)
    → slice_get (keys_of es) place ≡ Some k
    → (e : K × V) × (slice_get es place ≡ Some e) × (e.0 ≡ k)
key_from_map {K} {V} es place k h =
    by (slice_get es place) (sym (slice_get-map (λ e. e.0) es place) ∙ h)
  where
    by : (o : Option (K × V)) → option_map (λ e. e.0) o ≡ Some k → (e : K × V) × (o ≡ Some e)
        × (e.0 ≡ k)
    by None g = absurd (impossible g)
      where
        impossible : None ≡ Some k → ⊥
        impossible e = cc
    by (Some e) g = (e, refl, cc)

pub row_of_place : (commands : List Command) (rows : List NumberedRow) (place : ℕ)
    (pattern : PatternParts) (number : ℕ)
    → AreRows (zones_of commands) commands rows
    → slice_get rows place ≡ Some (pattern, number)
    → zone_at_pattern rows pattern ≡ Some number
    → IsRow commands place pattern number
row_of_place commands rows place pattern number h at kept =
    let best = some_from_map (number_in (zones_of commands))
    (picked commands (zones_for commands pattern)) number
    (sym (best_number-picked commands (zones_for commands pattern)) ∙ sym (h.picked pattern)
    ∙ kept) in
    let first = key_from_map (first_rows_of (rows_of commands)) place pattern
    (ap (λ ks. slice_get ks place) (sym h.patterns) ∙ slice_get-map (λ e. e.0) rows place
    ∙ ap (option_map (λ e. e.0)) at) in
    record {
      zone = best.0;
      chosen = best.1;
      numbered = best.2;
      stands = slice_get-map (with_picked_zone commands) (first_rows_of (rows_of commands)) place
          ∙ ap (option_map (with_picked_zone commands)) first.1
          ∙ ap (λ p. Some (p, unwrap_or (picked commands (zones_for commands p)) first.0.1)) first.2
          ∙ ap (λ o. Some (pattern, unwrap_or o first.0.1)) best.1;
    }

fused : {X Y Z : Type 0} (f : Y → Z) (g : X → Y) (o : Option X)
    → option_map f (option_map g o) ≡ option_map (λ x. f (g x)) o
fused f g None = refl
fused f g (Some x) = refl

module _ (commands : List Command) (rows : List NumberedRow)
    (h : AreRows (zones_of commands) commands rows) (place : ℕ) where
  -- the pattern that is kept at a place is that of the row of this number
  pub pattern_at : option_map (λ (row : NumberedRow). row.0) (slice_get rows place)
      ≡ option_map (λ (row : ZoneRow). row.0) (row_at commands place)
  pattern_at =
      sym (slice_get-map (λ (row : NumberedRow). row.0) rows place)
      ∙ ap (λ ks. slice_get ks place) h.patterns
      ∙ slice_get-map (λ (row : ZoneRow). row.0) (first_rows_of (rows_of commands)) place
      ∙ sym (fused (λ (row : ZoneRow). row.0) (with_picked_zone commands)
      (slice_get (first_rows_of (rows_of commands)) place))
      ∙ ap (option_map (λ (row : ZoneRow). row.0))
      (sym (slice_get-map (with_picked_zone commands) (first_rows_of (rows_of commands)) place))

  -- what the plan for the zone of a row means
  pub plan_of_place : (pattern : PatternParts) (number : ℕ) (technology : Option (List ℕ))
      → slice_get rows place ≡ Some (pattern, number)
      → zone_at_pattern rows pattern ≡ Some number
      → IfSome (row_meant commands (Some place)) (λ used. target_of commands
      (plan_to (kind_at (zones_of commands) number) number technology (Some place))
      ≡ Some (by_row commands technology used))
  plan_of_place pattern number technology at kept =
      let row = row_of_place commands rows place pattern number h at kept in
      let meant : row_meant commands (Some place) ≡ Some (Some (pattern, row.zone)) =
      ap (option_map (λ (used : ZoneRow). Some used)) row.stands in
      subst (λ (o : Option (Option ZoneRow)). IfSome o (λ used. target_of commands
      (plan_to (kind_at (zones_of commands) number) number technology (Some place))
      ≡ Some (by_row commands technology used))) (sym meant)
      (ap (λ n. target_of commands
      (plan_to (kind_at (zones_of commands) n) n technology (Some place))) (sym row.numbered)
      ∙ plan_to_zone commands row.zone technology (Some place) (Some (pattern, row.zone)) meant)

  -- a number past the rows has no row
  pub no_row_at : (Meant : Option ZoneRow → Type 0) → slice_get rows place ≡ None
      → IfSome (row_meant commands (Some place)) Meant
  no_row_at Meant none = by (row_at commands place)
      (sym pattern_at ∙ ap (option_map (λ (row : NumberedRow). row.0)) none)
    where
      by : (o : Option ZoneRow) → option_map (λ (row : ZoneRow). row.0) o ≡ None
          → IfSome (option_map (λ (used : ZoneRow). Some used) o) Meant
      by None e = tt
      by (Some row) e = absurd (impossible e)
        where
          impossible : Some row.0 ≡ None → ⊥
          impossible g = cc

-- ---- the longest pattern
-- nothing beside a pattern
abbrev nothing : {V : Type 0} → PatternParts × V → ℕ
nothing row = 0

abbrev bare_pattern : PatternParts → PatternParts × ℕ
bare_pattern pattern = (pattern, 0)

-- rows with nothing beside their patterns
bare : {V : Type 0} (rows : List (PatternParts × V))
    → map (beside (nothing {V = V})) rows ≡ map bare_pattern (keys_of rows)
bare [] = refl
bare (row ∷ rows) = ap (λ others. (row.0, 0) ∷ others) (bare rows)

-- rows with the same patterns have the same best pattern
same_best : {V W : Type 0} (rows : List (PatternParts × V)) (others : List (PatternParts × W))
    (text : List ℕ)
    → keys_of rows ≡ keys_of others
    → option_map (λ (row : PatternParts × V). row.0) (best_of rows text)
    ≡ option_map (λ (row : PatternParts × W). row.0) (best_of others text)
same_best {V} {W} rows others text h =
    sym (fused (λ (row : PatternParts × ℕ). row.0) (beside (nothing {V = V})) (best_of rows text))
    ∙ ap (option_map (λ (row : PatternParts × ℕ). row.0))
    (sym (best_of-beside (nothing {V = V}) rows text)
    ∙ ap (λ all. best_of all text) (bare rows
    ∙ ap (map bare_pattern) h ∙ sym (bare others))
    ∙ best_of-beside (nothing {V = W}) others text)
    ∙ fused (λ (row : PatternParts × ℕ). row.0) (beside (nothing {V = W})) (best_of others text)

module _ (commands : List Command) (rows : List NumberedRow)
    (h : AreRows (zones_of commands) commands rows) (text : List ℕ) where
  -- the pattern of the row that was found is the longest one
  found_pattern : option_map
      (λ (hit : Hit). option_map (λ (row : NumberedRow). row.0) (slice_get rows hit.value))
      (best_hit (places_of rows) text)
      ≡ option_map (λ (p : PatternParts). Some p)
      (option_map (λ (row : ZoneRow). row.0) (best_of (rows_of commands) text))
  found_pattern =
      fused (λ (hit : Hit). option_map (λ (row : NumberedRow). row.0)
      (slice_get rows hit.value)) hit_of
      (best_of (places_of rows) text)
      ∙ sym (fused (λ (pair : PatternParts × Option NumberedRow). option_map
      (λ (row : NumberedRow). row.0) pair.1)
      (beside (at_place rows)) (best_of (places_of rows) text))
      ∙ ap (option_map (λ (pair : PatternParts × Option NumberedRow). option_map
      (λ (row : NumberedRow). row.0) pair.1))
      (best_of-places_of rows text)
      ∙ fused (λ (pair : PatternParts × Option NumberedRow). option_map
      (λ (row : NumberedRow). row.0) pair.1)
      (beside (λ (row : NumberedRow). Some row)) (best_of rows text)
      ∙ sym (fused (λ (p : PatternParts). Some p) (λ (row : NumberedRow). row.0)
      (best_of rows text))
      ∙ ap (option_map (λ (p : PatternParts). Some p))
      (same_best rows (first_rows_of (rows_of commands)) text h.patterns
      ∙ ap (option_map (λ (row : ZoneRow). row.0)) (best_of-first_rows_of (rows_of commands)
      text))

  pub no_hit : best_hit (places_of rows) text ≡ None → row_for commands text ≡ None
  no_hit none = by (best_of (rows_of commands) text) refl
    where
      by : (o : Option ZoneRow) → best_of (rows_of commands) text ≡ o → row_for commands text ≡
          None
      by None e = ap (option_and_then (λ (best : ZoneRow). row_of_pattern commands best.0)) e
      by (Some row) e = absurd (impossible (sym found_pattern))
        where
          impossible : option_map (λ (p : PatternParts). Some p)
              (option_map (λ (r : ZoneRow). r.0) (best_of (rows_of commands) text))
              ≡ option_map (λ (hit : Hit). option_map (λ (r : NumberedRow). r.0)
              (slice_get rows hit.value))
              (best_hit (places_of rows) text) → ⊥
          impossible g = let f : Some (Some row.0) ≡ None =
              ap (λ o. option_map (λ (p : PatternParts). Some p) (option_map (λ (r : ZoneRow).
              r.0) o))
              (sym e)
              ∙ g
              ∙ ap (option_map (λ (hit : Hit). option_map (λ (r : NumberedRow). r.0)
              (slice_get rows hit.value))) none in
              cc

  -- the pattern at a hit is the longest one
  at_hit : (hit : Hit) → best_hit (places_of rows) text ≡ Some hit
      → Some (option_map (λ (row : NumberedRow). row.0) (slice_get rows hit.value))
      ≡ option_map (λ (p : PatternParts). Some p)
      (option_map (λ (row : ZoneRow). row.0) (best_of (rows_of commands) text))
  at_hit hit e =
      sym (ap (option_map (λ (one : Hit). option_map (λ (row : NumberedRow). row.0)
      (slice_get rows one.value))) e)
      ∙ found_pattern

  pub row_at_hit : (hit : Hit) → best_hit (places_of rows) text ≡ Some hit
      → slice_get rows hit.value ≡ None → ⊥
  row_at_hit hit e none = by (best_of (rows_of commands) text)
      (sym (ap (λ o. Some (option_map (λ (row : NumberedRow). row.0) o)) none) ∙ at_hit hit e)
    where
      by : (o : Option ZoneRow) → Some None
          ≡ option_map (λ (p : PatternParts). Some p) (option_map (λ (row : ZoneRow). row.0) o) →
          ⊥
      by None g = cc
      by (Some row) g = cc

  -- the row of a hit is the one that is used
  pub row_of_hit : (hit : Hit) (pattern : PatternParts) (number : ℕ)
      → best_hit (places_of rows) text ≡ Some hit
      → slice_get rows hit.value ≡ Some (pattern, number)
      → zone_at_pattern rows pattern ≡ Some number
      → row_meant commands (Some hit.value) ≡ Some (row_for commands text)
  row_of_hit hit pattern number e at kept =
      ap (option_map (λ (used : ZoneRow). Some used)) row.stands ∙ ap (λ used. Some used) (sym used)
    where
      row : IsRow commands hit.value pattern number
      row = row_of_place commands rows hit.value pattern number h at kept

      by : (o : Option ZoneRow) → best_of (rows_of commands) text ≡ o
          → Some (Some pattern)
          ≡ option_map (λ (p : PatternParts). Some p) (option_map (λ (r : ZoneRow). r.0) o)
          → row_for commands text ≡ row_of_pattern commands pattern
      by None g f = cc
      by (Some best) g f =
          let same : best.0 ≡ pattern = cc in
          ap (option_and_then (λ (one : ZoneRow). row_of_pattern commands one.0)) g
          ∙ ap (row_of_pattern commands) same

      used : row_for commands text ≡ Some (pattern, row.zone)
      used =
          by (best_of (rows_of commands) text) refl
          (sym (ap (λ o. Some (option_map (λ (r : NumberedRow). r.0) o)) at) ∙ at_hit hit e)
          ∙ ap (option_map (λ zone. (pattern, zone))) row.chosen

-- rows with different patterns are no duplicates
pub no_duplicate : {V W : Type 0} (rows : List (PatternParts × V))
    (others : List (PatternParts × W))
    → keys_of rows ≡ keys_of (first_rows_of others) → duplicate_of rows ≡ None
no_duplicate {V} {W} rows others h =
    sym (duplicate_of-beside (nothing {V = V}) rows)
    ∙ ap duplicate_of (bare rows ∙ ap (map bare_pattern) h
    ∙ sym (bare (first_rows_of others)))
    ∙ duplicate_of-beside (nothing {V = W}) (first_rows_of others)
    ∙ distinct-first_rows_of others

-- ---- the whole flow
pub plan_without_technology : (commands : List Command) (digits : List ℕ)
    → technology_of commands digits ≡ None
    → plan_of commands digits ≡ by_row commands None (row_for commands digits)
unfolding plan_of
plan_without_technology commands digits h = ap (by_technology commands digits) h

pub plan_with_hopoff : (commands : List Command) (digits prefix : List ℕ) (number : ℕ)
    → technology_of commands digits ≡ Some prefix
    → Some number ≡ best_number (zones_of commands) (hopoffs_of commands prefix)
    → target_of commands (plan_to (kind_at (zones_of commands) number) number (Some prefix) None)
    ≡ Some (plan_of commands digits)
unfolding plan_of
plan_with_hopoff commands digits prefix number h best =
    let zone = some_from_map (number_in (zones_of commands))
    (picked commands (hopoffs_of commands prefix)) number
    (sym (best_number-picked commands (hopoffs_of commands prefix)) ∙ sym best) in
    ap (λ n. target_of commands (plan_to (kind_at (zones_of commands) n) n (Some prefix) None))
    (sym zone.2)
    ∙ plan_to_zone commands zone.0 (Some prefix) None None refl
    ∙ ap (λ o. Some (by_hopoff commands prefix (drop (length prefix) digits) o)) (sym zone.1)
    ∙ ap (λ o. Some (by_technology commands digits o)) (sym h)

pub plan_without_hopoff : (commands : List Command) (digits prefix : List ℕ)
    → technology_of commands digits ≡ Some prefix
    → None ≡ best_number (zones_of commands) (hopoffs_of commands prefix)
    → plan_of commands digits
    ≡ by_row commands (Some prefix) (row_for commands (drop (length prefix) digits))
unfolding plan_of
plan_without_hopoff commands digits prefix h none =
    ap (by_technology commands digits) h
    ∙ ap (by_hopoff commands prefix (drop (length prefix) digits))
    (none_from (picked commands (hopoffs_of commands prefix))
    (sym (best_number-picked commands (hopoffs_of commands prefix)) ∙ sym none))
  where
    none_from : (o : Option (List ℕ)) → option_map (number_in (zones_of commands)) o ≡ None → o
        ≡ None
    none_from None e = refl
    none_from (Some x) e = cc
