-- What a snapshot holds, with one row more.
use Rattle.std.proofs.Common.{◌≡◌, ◌+◌, ◌-◌, ◌++◌, ◌==◌, ℕ, true, false, List, [], ◌∷◌, Option, Some, None, length, map, refl, ap, sym, subst, ◌∙◌, cond, inl, inr, arith}
use Rattle.std.specs.Prelude.{nat_eq, option_map, slice_get, is_some, is_err, nat_le, IfOk, OnOk, Result, Ok, Err, if◌then◌else◌, ◌⊎◌}
use Rattle.std.specs.List.{cons_option, list_all}
use Rattle.std.specs.Map.{lookup}
use Rattle.std.proofs.lemmas.Bool.{and_parts, cases_Bool, eqb-true}
use Rattle.std.proofs.lemmas.List.{append-nil, map-append}
use Rattle.std.proofs.lemmas.Option.{none-some, same_Some, slice_get-map}
use Rattle.call_rows.specs.declared.open_at.OpenAt.{OpenAt}
use Rattle.call_rows.specs.declared.rows.AskedCall.{AskedCall}
use Rattle.call_rows.specs.declared.rows.CallEvent.TheVariants as events
use Rattle.call_rows.specs.declared.rows.NumberedAdmission.{NumberedAdmission}
use Rattle.call_rows.specs.declared.steps.Step.{Step}
use Rattle.call_rows.specs.declared.steps.StepKind.TheVariants as kinds
use Rattle.call_rows.specs.Moves.{Move, move_in, move_of, moved, moves_of}
use Rattle.call_rows.specs.OpenCalls.{Open, open_of, opens_after, opens_of, with_units, without}
use Rattle.registry.specs.Endpoint.{EndpointParts}
use Rattle.call_rows.specs.declared.snapshots.PushFault.TheVariants as faults
use Rattle.call_rows.specs.Pushing.{event_fault, last_number, moving_fault, number_in, opening_fault, push_fault}
use Rattle.call_rows.specs.Rows.{RowParts, SnapshotParts, admission_in, is_row, said_by}
use Rattle.call_rows.specs.SnapshotIndex.{IsKept, are_different, call_asked, open_at, row_by, row_told, rows_told}
use Rattle.call_rows.proofs.OpenLemmas.{AreDifferent, different_from, different_to, different_with, different_without, moves_more, open_with, open_without_other, open_without_same, opens_more, seen_from, with_as_many, without_one_less}
use Rattle.call_rows.proofs.RowLemmas.{admissions_more, may_follow_more, seen_all}
use Rattle.call_rows.proofs.SaidLemmas.{admission_said, fault_said, move_said, opens_said}
use Rattle.call_rows.proofs.ToldLemmas.{TellsAlso, all_told, as_many, next_is, one_more, still_made}

-- ---- what is held of these rows
pub record Holds (admissions : List NumberedAdmission) (steps : List Step)
    (calls : List (ℕ × OpenAt)) (rows : List RowParts) : Type 0 where
  pub kept : IsKept admissions steps calls (rows_told admissions steps)
  pub rows_are : rows_told admissions steps ≡ rows

pub holds : (admissions : List NumberedAdmission) (steps : List Step)
    (calls : List (ℕ × OpenAt)) (rows : List RowParts)
    → IsKept admissions steps calls rows → Holds admissions steps calls rows
holds admissions steps calls rows keeps =
    let told = all_told (row_told admissions) steps rows keeps.told in
    record {
      kept = subst (λ rs. IsKept admissions steps calls rs) (sym told) keeps;
      rows_are = told;
    }

-- ---- one row more
-- a step tells the row, which may come next
pub record IsNext (admissions after : List NumberedAdmission) (rows : List RowParts)
    (row : RowParts) (step : Step) : Type 0 where
  pub grown : after ≡ admissions ++ cons_option (admission_in row) []
  pub told : row_told after step ≡ Some row
  pub sound : is_row row ≡ true
  pub follows : push_fault rows row ≡ None
  pub moves : move_in step ≡ move_of (seen_from 0 rows) (opens_of rows) row.event

-- the index of open calls
pub record IsIndex (admissions : List NumberedAdmission) (calls : List (ℕ × OpenAt))
    (opens : List Open) : Type 0 where
  pub found : (call : ℕ) → lookup (nat_eq call) calls ≡ option_map open_at (open_of call opens)
  pub asked :
      (call : ℕ) (at : OpenAt) → lookup (nat_eq call) calls ≡ Some at
      → call_asked admissions at.admission ≡ Some call
  pub different : AreDifferent opens
  pub as_many : length calls ≡ length opens

all_more : (rows : List RowParts) (row : RowParts) → list_all is_row rows ≡ true
    → is_row row ≡ true → list_all is_row (rows ++ row ∷ []) ≡ true
all_more [] row all one = rw one refl
all_more (r ∷ rows) row all one =
    let (first, rest) = and_parts (is_row r) (list_all is_row rows) all in
    rw first (all_more rows row rest one)

next_kept : (admissions after : List NumberedAdmission) (steps : List Step)
    (calls new : List (ℕ × OpenAt)) (rows : List RowParts) (row : RowParts) (step : Step)
    → IsKept admissions steps calls rows
    → IsNext admissions after rows row step
    → IsIndex after new (opens_after (seen_from 0 rows) row.event (opens_of rows))
    → Holds after (steps ++ step ∷ []) new (rows ++ row ∷ [])
next_kept admissions after steps calls new rows row step keeps next index =
    let opens = sym (opens_more [] 0 rows row) in
    let also : TellsAlso (row_told admissions) (row_told after) =
    λ s r h. subst (λ items. row_told items s ≡ Some r) (sym next.grown)
    (still_made (row_by s) admissions (cons_option (admission_in row) []) s.admission r h) in
    holds after (steps ++ step ∷ []) new (rows ++ row ∷ []) (record {
      told = one_more (row_told admissions) (row_told after) also steps rows step row keeps.told
          next.told;
      sound = all_more rows row keeps.sound next.sound;
      in_order = may_follow_more [] rows row keeps.in_order next.follows;
      admitted =
          next.grown ∙ ap (λ items. items ++ cons_option (admission_in row) []) keeps.admitted
          ∙ sym (admissions_more rows row);
      moves =
          map-append move_in steps (step ∷ [])
          ∙ ap (λ ms. ms ++ move_in step ∷ []) keeps.moves
          ∙ ap (λ m. moves_of rows ++ m ∷ []) next.moves ∙ sym (moves_more [] 0 rows row);
      found = λ call. index.found call ∙ ap (λ os. option_map open_at (open_of call os)) opens;
      asked = index.asked;
      different = subst (λ os. are_different os ≡ true) opens (different_to _ index.different);
      as_many = index.as_many ∙ ap length opens;
    })

-- ---- what is known of an open call
moved_at : (units : ℕ) (o : Option Open) (at : OpenAt) → option_map open_at o ≡ Some at
    → moved units o ≡ record { admission = at.admission; gained = units; lost = at.units }
moved_at units None at h = let impossible : ⊥ = cc in absurd impossible
moved_at units (Some o) at h =
    ap (λ (a : OpenAt). let m : Move = record {
      admission = a.admission;
      gained = units;
      lost = a.units;
    } in m) (same_Some (open_at o) at h)

one_less : (call : ℕ) (opens : List Open) (o : Option Open) (at : OpenAt)
    → open_of call opens ≡ o → option_map open_at o ≡ Some at
    → length (without call opens) + 1 ≡ length opens
one_less call opens None at is h = let impossible : ⊥ = cc in absurd impossible
one_less call opens (Some o) at is h = without_one_less call o opens is

released_told : (number place lost call : ℕ) (o : Option NumberedAdmission)
    → option_map (λ (a : NumberedAdmission). a.asked.call) o ≡ Some call
    → option_map (row_by (record {
      number = number;
      admission = place;
      gained = 0;
      lost = lost;
      kind = kinds.Released;
    })) o ≡ Some (record { number = number; event = events.Released call })
released_told number place lost call None h = let impossible : ⊥ = cc in absurd impossible
released_told number place lost call (Some a) h =
    ap (λ c. let r : RowParts = record { number = number; event = events.Released c } in Some r)
    (same_Some a.asked.call call h)

changed_told : (number place units lost call : ℕ) (o : Option NumberedAdmission)
    → option_map (λ (a : NumberedAdmission). a.asked.call) o ≡ Some call
    → option_map (row_by (record {
      number = number;
      admission = place;
      gained = units;
      lost = lost;
      kind = kinds.Changed;
    })) o ≡ Some (record { number = number; event = events.Changed call units })
changed_told number place units lost call None h = let impossible : ⊥ = cc in absurd impossible
changed_told number place units lost call (Some a) h =
    ap (λ c. let r : RowParts = record { number = number; event = events.Changed c units } in
    Some r)
    (same_Some a.asked.call call h)

unit_changed : (units : ℕ) (o : Option Open) (at : OpenAt) → option_map open_at o ≡ Some at
    → option_map open_at (option_map (λ (o : Open). record o { units = units }) o)
    ≡ Some (record { admission = at.admission; units = units })
unit_changed units None at h = let impossible : ⊥ = cc in absurd impossible
unit_changed units (Some o) at h =
    ap (λ (a : OpenAt). let new : OpenAt = record { admission = a.admission; units = units } in
    Some new) (same_Some (open_at o) at h)

-- ---- a release
module _ (admissions : List NumberedAdmission) (steps : List Step)
    (calls new : List (ℕ × OpenAt)) (rows : List RowParts)
    (keeps : IsKept admissions steps calls rows) (number call : ℕ) (at : OpenAt)
    (opened : option_map open_at (open_of call (opens_of rows)) ≡ Some at) where
  released_index :
      ((other : ℕ)
      → lookup (nat_eq other) new
      ≡ cond (nat_eq call other) None (lookup (nat_eq other) calls))
      → length new + 1 ≡ length calls
      → IsIndex admissions new (without call (opens_of rows))
  released_index updates less =
      let opens = opens_of rows in
      let fewer = one_less call opens (open_of call opens) at refl opened in
      let many = keeps.as_many in
      record {
        found = λ other. updates other ∙ look other (cases_Bool (call == other));
        asked = λ other o h. asked other o (cases_Bool (call == other)) (sym (updates other) ∙ h);
        different = different_without call opens (different_from opens keeps.different);
        as_many = omega (arith, less, fewer, many);
      }
    where
      look : (other : ℕ) → ((call == other) ≡ true) ⊎ ((call == other) ≡ false)
          → cond (nat_eq call other) None (lookup (nat_eq other) calls)
          ≡ option_map open_at (open_of other (without call (opens_of rows)))
      look other (inl same) =
          let gone = subst (λ n. open_of n (without call (opens_of rows)) ≡ None)
          (eqb-true call other same)
          (open_without_same call (opens_of rows)
          (different_from (opens_of rows) keeps.different)) in
          rw (same) (sym (ap (option_map open_at) gone))
      look other (inr apart) =
          rw (apart) (keeps.found other
          ∙ ap (option_map open_at)
          (sym (open_without_other call other (opens_of rows) apart)))

      asked : (other : ℕ) (o : OpenAt) → ((call == other) ≡ true) ⊎ ((call == other) ≡ false)
          → cond (nat_eq call other) None (lookup (nat_eq other) calls) ≡ Some o
          → call_asked admissions o.admission ≡ Some other
      asked other o (inl same) h = absurd (none-some o (rw same at h))
      asked other o (inr apart) h = keeps.asked other o (rw apart at h)

  pub release_kept :
      push_fault rows (record { number = number; event = events.Released call }) ≡ None
      → is_row (record { number = number; event = events.Released call }) ≡ true
      → ((other : ℕ)
      → lookup (nat_eq other) new
      ≡ cond (nat_eq call other) None (lookup (nat_eq other) calls))
      → length new + 1 ≡ length calls
      → Holds admissions (steps ++ record {
        number = number;
        admission = at.admission;
        gained = 0;
        lost = at.units;
        kind = kinds.Released;
      } ∷ []) new (rows ++ record { number = number; event = events.Released call } ∷ [])
  release_kept follows sound updates less =
      next_kept admissions admissions steps calls new rows
      (record { number = number; event = events.Released call })
      (record {
        number = number;
        admission = at.admission;
        gained = 0;
        lost = at.units;
        kind = kinds.Released;
      })
      keeps
      (record {
        grown = sym (append-nil admissions);
        told = released_told number at.admission at.units call
            (slice_get admissions at.admission)
            (keeps.asked call at (keeps.found call ∙ opened));
        sound = sound;
        follows = follows;
        moves = sym (moved_at 0 (open_of call (opens_of rows)) at opened);
      })
      (released_index updates less)

  -- ---- a change
  module _ (units : ℕ)
      (updates : (other : ℕ)
      → lookup (nat_eq other) new
      ≡ cond (nat_eq call other) (Some (record { admission = at.admission; units = units }))
      (lookup (nat_eq other) calls))
      (same_count : length new ≡ length calls) where
    changed_index : IsIndex admissions new (with_units call units (opens_of rows))
    changed_index =
        let opens = opens_of rows in
        record {
          found = λ other. updates other ∙ look other (cases_Bool (call == other))
              ∙ ap (option_map open_at) (sym (open_with call units other opens));
          asked = λ other o h.
              asked other o (cases_Bool (call == other)) (sym (updates other) ∙ h);
          different = different_with call units opens (different_from opens keeps.different);
          as_many = same_count ∙ keeps.as_many ∙ sym (with_as_many call units opens);
        }
      where
        look : (other : ℕ) → ((call == other) ≡ true) ⊎ ((call == other) ≡ false)
            → cond (nat_eq call other) (Some (record { admission = at.admission; units = units }))
            (lookup (nat_eq other) calls)
            ≡ option_map open_at (cond (call == other)
            (option_map (λ (o : Open). record o { units = units }) (open_of other (opens_of rows)))
            (open_of other (opens_of rows)))
        look other (inl same) =
            let there = subst (λ n. option_map open_at (open_of n (opens_of rows)) ≡ Some at)
            (eqb-true call other same) opened in
            rw (same) (sym (unit_changed units (open_of other (opens_of rows)) at there))
        look other (inr apart) = rw (apart) (keeps.found other)

        asked : (other : ℕ) (o : OpenAt)
            → ((call == other) ≡ true) ⊎ ((call == other) ≡ false)
            → cond (nat_eq call other) (Some (record { admission = at.admission; units = units }))
            (lookup (nat_eq other) calls) ≡ Some o
            → call_asked admissions o.admission ≡ Some other
        asked other o (inl same) h =
            let is = same_Some (record { admission = at.admission; units = units }) o
            (rw same at h) in
            subst (λ (a : OpenAt). call_asked admissions a.admission ≡ Some other) is
            (subst (λ n. call_asked admissions at.admission ≡ Some n) (eqb-true call other same)
            (keeps.asked call at (keeps.found call ∙ opened)))
        asked other o (inr apart) h = keeps.asked other o (rw apart at h)

    pub change_kept :
        push_fault rows (record { number = number; event = events.Changed call units }) ≡ None
        → is_row (record { number = number; event = events.Changed call units }) ≡ true
        → Holds admissions (steps ++ record {
          number = number;
          admission = at.admission;
          gained = units;
          lost = at.units;
          kind = kinds.Changed;
        } ∷ []) new (rows ++ record { number = number; event = events.Changed call units } ∷ [])
    change_kept follows sound =
        next_kept admissions admissions steps calls new rows
        (record { number = number; event = events.Changed call units })
        (record {
          number = number;
          admission = at.admission;
          gained = units;
          lost = at.units;
          kind = kinds.Changed;
        })
        keeps
        (record {
          grown = sym (append-nil admissions);
          told = changed_told number at.admission units at.units call
              (slice_get admissions at.admission)
              (keeps.asked call at (keeps.found call ∙ opened));
          sound = sound;
          follows = follows;
          moves = sym (moved_at units (open_of call (opens_of rows)) at opened);
        })
        changed_index

-- ---- an admission
module _ (admissions : List NumberedAdmission) (steps : List Step)
    (calls : List (ℕ × OpenAt)) (rows : List RowParts)
    (keeps : IsKept admissions steps calls rows) (number : ℕ) (a : AskedCall) where
  in_front : (admission : NumberedAdmission) (place call : ℕ)
      → call_asked admissions place ≡ Some call
      → call_asked (admissions ++ admission ∷ []) place ≡ Some call
  in_front admission place call h =
      still_made (λ (x : NumberedAdmission). x.asked.call) admissions (admission ∷ []) place call h

  admission_next : (units : ℕ)
      → push_fault rows (record { number = number; event = said_by a }) ≡ None
      → is_row (record { number = number; event = said_by a }) ≡ true
      → (if a.granted then a.units else 0) ≡ units
      → IsNext admissions (admissions ++ record { number = number; asked = a } ∷ []) rows
      (record { number = number; event = said_by a }) (record {
        number = number;
        admission = length admissions;
        gained = units;
        lost = 0;
        kind = kinds.Admitted;
      })
  admission_next units follows sound used =
      let step : Step = record {
        number = number;
        admission = length admissions;
        gained = units;
        lost = 0;
        kind = kinds.Admitted;
      } in
      let admission : NumberedAdmission = record { number = number; asked = a } in
      record {
        grown = ap (λ o. admissions ++ cons_option o []) (sym (admission_said a number));
        told = ap (option_map (row_by step))
            (next_is admissions admission (length admissions) refl);
        sound = sound;
        follows = follows;
        moves =
            let place : length admissions ≡ seen_from 0 rows =
            ap length keeps.admitted ∙ sym (seen_all rows) in
            ap (λ n. let m : Move = record { admission = n; gained = units; lost = 0 } in m) place
            ∙ ap (λ n. let m : Move = record {
              admission = seen_from 0 rows;
              gained = n;
              lost = 0;
            } in m) (sym used)
            ∙ sym (move_said a (seen_from 0 rows) (opens_of rows));
      }

  pub refusal_kept :
      a.granted ≡ false
      → push_fault rows (record { number = number; event = said_by a }) ≡ None
      → is_row (record { number = number; event = said_by a }) ≡ true
      → Holds (admissions ++ record { number = number; asked = a } ∷ []) (steps ++ record {
        number = number;
        admission = length admissions;
        gained = 0;
        lost = 0;
        kind = kinds.Admitted;
      } ∷ []) calls (rows ++ record { number = number; event = said_by a } ∷ [])
  refusal_kept refused follows sound =
      let admission : NumberedAdmission = record { number = number; asked = a } in
      next_kept admissions (admissions ++ admission ∷ []) steps calls calls rows
      (record { number = number; event = said_by a })
      (record {
        number = number;
        admission = length admissions;
        gained = 0;
        lost = 0;
        kind = kinds.Admitted;
      })
      keeps (admission_next 0 follows sound (ap (λ g. if g then a.units else 0) refused))
      (subst (λ os. IsIndex (admissions ++ admission ∷ []) calls os)
      (sym (opens_said a (seen_from 0 rows) (opens_of rows)))
      (subst (λ g. IsIndex (admissions ++ admission ∷ []) calls
      (if g then record { call = a.call; units = a.units; admission = seen_from 0 rows }
      ∷ opens_of rows else opens_of rows)) (sym refused) (record {
        found = keeps.found;
        asked = λ call at h. in_front admission at.admission call (keeps.asked call at h);
        different = different_from (opens_of rows) keeps.different;
        as_many = keeps.as_many;
      })))

  module _ (new : List (ℕ × OpenAt)) (free : open_of a.call (opens_of rows) ≡ None)
      (updates : (other : ℕ)
      → lookup (nat_eq other) new
      ≡ cond (nat_eq a.call other)
      (Some (record { admission = length admissions; units = a.units }))
      (lookup (nat_eq other) calls))
      (one : length new ≡ length calls + 1) where
    granted_index :
        IsIndex (admissions ++ record { number = number; asked = a } ∷ []) new
        (record { call = a.call; units = a.units; admission = seen_from 0 rows } ∷ opens_of rows)
    granted_index =
        let many = keeps.as_many in
        record {
          found = λ other. updates other ∙ look other (cases_Bool (a.call == other));
          asked = λ other o h.
              asked other o (cases_Bool (a.call == other)) (sym (updates other) ∙ h);
          different = (free, different_from (opens_of rows) keeps.different);
          as_many = omega (arith, one, many);
        }
      where
        place : length admissions ≡ seen_from 0 rows
        place = ap length keeps.admitted ∙ sym (seen_all rows)

        look : (other : ℕ) → ((a.call == other) ≡ true) ⊎ ((a.call == other) ≡ false)
            → cond (nat_eq a.call other)
            (Some (record { admission = length admissions; units = a.units }))
            (lookup (nat_eq other) calls)
            ≡ option_map open_at (open_of other (record {
              call = a.call;
              units = a.units;
              admission = seen_from 0 rows;
            } ∷ opens_of rows))
        look other (inl same) =
            rw (same) (ap (λ n. let o : OpenAt = record { admission = n; units = a.units } in
            Some o) place)
        look other (inr apart) = rw (apart) (keeps.found other)

        asked : (other : ℕ) (o : OpenAt)
            → ((a.call == other) ≡ true) ⊎ ((a.call == other) ≡ false)
            → cond (nat_eq a.call other)
            (Some (record { admission = length admissions; units = a.units }))
            (lookup (nat_eq other) calls) ≡ Some o
            → call_asked (admissions ++ record { number = number; asked = a } ∷ []) o.admission
            ≡ Some other
        asked other o (inl same) h =
            let admission : NumberedAdmission = record { number = number; asked = a } in
            let is = same_Some (record { admission = length admissions; units = a.units }) o
            (rw same at h) in
            subst (λ (x : OpenAt).
            call_asked (admissions ++ admission ∷ []) x.admission ≡ Some other) is
            (subst (λ n. call_asked (admissions ++ admission ∷ []) (length admissions) ≡ Some n)
            (eqb-true a.call other same)
            (ap (option_map (λ (x : NumberedAdmission). x.asked.call))
            (next_is admissions admission (length admissions) refl)))
        asked other o (inr apart) h =
            let admission : NumberedAdmission = record { number = number; asked = a } in
            in_front admission o.admission other (keeps.asked other o (rw apart at h))

    pub grant_kept :
        a.granted ≡ true
        → push_fault rows (record { number = number; event = said_by a }) ≡ None
        → is_row (record { number = number; event = said_by a }) ≡ true
        → Holds (admissions ++ record { number = number; asked = a } ∷ []) (steps ++ record {
          number = number;
          admission = length admissions;
          gained = a.units;
          lost = 0;
          kind = kinds.Admitted;
        } ∷ []) new (rows ++ record { number = number; event = said_by a } ∷ [])
    grant_kept granted follows sound =
        let admission : NumberedAdmission = record { number = number; asked = a } in
        next_kept admissions (admissions ++ admission ∷ []) steps calls new rows
        (record { number = number; event = said_by a })
        (record {
          number = number;
          admission = length admissions;
          gained = a.units;
          lost = 0;
          kind = kinds.Admitted;
        })
        keeps (admission_next a.units follows sound (ap (λ g. if g then a.units else 0) granted))
        (subst (λ os. IsIndex (admissions ++ admission ∷ []) new os)
        (sym (opens_said a (seen_from 0 rows) (opens_of rows)))
        (subst (λ g. IsIndex (admissions ++ admission ∷ []) new
        (if g then record { call = a.call; units = a.units; admission = seen_from 0 rows }
        ∷ opens_of rows else opens_of rows)) (sym granted) granted_index))

-- ---- what a view of the fields says
-- what is held of the rows of the view
pub kept_of : (admissions : List NumberedAdmission) (steps : List Step)
    (calls : List (ℕ × OpenAt)) (endpoints : List EndpointParts) (old : SnapshotParts)
    → record { rows = rows_told admissions steps; endpoints = endpoints } ≡ old
    → IsKept admissions steps calls (rows_told admissions steps)
    → IsKept admissions steps calls old.rows
kept_of admissions steps calls endpoints old view keeps =
    subst (λ rs. IsKept admissions steps calls rs) (ap (λ (s : SnapshotParts). s.rows) view) keeps

-- a row more, with the steps as they were made
pub record IsDone (admissions : List NumberedAdmission) (steps : List Step)
    (calls : List (ℕ × OpenAt)) (endpoints : List EndpointParts) (old : SnapshotParts)
    (row : RowParts) : Type 0 where
  pub kept : IsKept admissions steps calls (rows_told admissions steps)
  pub shown :
      record { rows = rows_told admissions steps; endpoints = endpoints }
      ≡ record old { rows = old.rows ++ row ∷ [] }

pub done : (was admissions : List NumberedAdmission) (before : List Step) (after steps : List Step)
    (calls : List (ℕ × OpenAt)) (endpoints : List EndpointParts) (old : SnapshotParts)
    (row : RowParts)
    → record { rows = rows_told was before; endpoints = endpoints } ≡ old
    → Holds admissions after calls (old.rows ++ row ∷ []) → steps ≡ after
    → IsDone admissions steps calls endpoints old row
done was admissions before after steps calls endpoints old row view made same =
    subst (λ ss. IsDone admissions ss calls endpoints old row) (sym same) (record {
      kept = made.kept;
      shown =
          ap (λ rs. let s : SnapshotParts = record { rows = rs; endpoints = endpoints } in s)
          made.rows_are
          ∙ ap (λ es. let s : SnapshotParts = record {
            rows = old.rows ++ row ∷ [];
            endpoints = es;
          } in s) (ap (λ (s : SnapshotParts). s.endpoints) view);
    })

-- a call that was found is open
pub no_moving_fault : (call : ℕ) (opens : List Open) (at : OpenAt)
    → option_map open_at (open_of call opens) ≡ Some at → moving_fault call opens ≡ None
no_moving_fault call opens at h = by (open_of call opens) h
  where
    by : (o : Option Open) → option_map open_at o ≡ Some at
        → (if is_some o then None else Some faults.NoCall) ≡ None
    by None h = let impossible : ⊥ = cc in absurd impossible
    by (Some o) h = refl

-- an admission without a fault
pub no_refusal_fault : (a : AskedCall) (opens : List Open) → a.granted ≡ false
    → event_fault opens (said_by a) ≡ None
no_refusal_fault a opens refused =
    fault_said a opens ∙ ap (λ g. if g then opening_fault a.call opens else None) refused

pub no_opening_fault : (a : AskedCall) (opens : List Open) → a.granted ≡ true
    → open_of a.call opens ≡ None → nat_le 50000 (length opens) ≡ false
    → event_fault opens (said_by a) ≡ None
no_opening_fault a opens granted free few =
    fault_said a opens
    ∙ ap (λ g. if g then opening_fault a.call opens else None) granted
    ∙ ap (λ (o : Option Open). if is_some o then Some faults.CallOpen
    else (if nat_le 50000 (length opens) then Some faults.TooMany else None)) free
    ∙ ap (λ b. if b then Some faults.TooMany else None) few

pub not_open : (o : Option Open) → is_some (option_map open_at o) ≡ false → o ≡ None
not_open None h = refl
not_open (Some o) h = let impossible : ⊥ = cc in absurd impossible

-- ---- what an insertion says if it succeeds
pub when_ok : {T E P : Type 0} (r : Result T E) → is_err r ≡ false → OnOk r P → P
when_ok (Ok x) h p = p
when_ok (Err e) h p = let impossible : ⊥ = cc in absurd impossible

pub one_more_if_new : {T E : Type 0} (r : Result (Option T) E) (was : Option T) (n m : ℕ)
    → is_err r ≡ false → IfOk r (λ old. old ≡ was)
    → IfOk r (λ old. n ≡ m + (if is_some old then 0 else 1))
    → n ≡ m + (if is_some was then 0 else 1)
one_more_if_new {T} (Ok x) was n m h is len =
    subst (λ (o : Option T). n ≡ m + (if is_some o then 0 else 1)) is len
one_more_if_new (Err e) was n m h is len = let impossible : ⊥ = cc in absurd impossible

-- ---- the last row
pub last_told : (admissions : List NumberedAdmission) (steps : List Step) (rows : List RowParts)
    (s : Step)
    → map (row_told admissions) steps ≡ map Some rows
    → slice_get steps (length steps - 1) ≡ Some s
    → last_number rows ≡ s.number
last_told admissions steps rows s told at =
    let place = length steps - 1 in
    let both = sym (ap (option_map (row_told admissions)) at)
    ∙ sym (slice_get-map (row_told admissions) steps place)
    ∙ ap (λ os. slice_get os place) told ∙ slice_get-map Some rows place in
    ap (λ n. number_in (slice_get rows (n - 1)))
    (sym (as_many (row_told admissions) steps rows told))
    ∙ by (slice_get admissions s.admission) (slice_get rows place) both
  where
    by : (a : Option NumberedAdmission) (r : Option RowParts)
        → Some (option_map (row_by s) a) ≡ option_map Some r → number_in r ≡ s.number
    by None None h = let impossible : ⊥ = cc in absurd impossible
    by None (Some r) h =
        absurd (none-some r (same_Some None (Some r) h))
    by (Some a) None h = let impossible : ⊥ = cc in absurd impossible
    by (Some a) (Some r) h =
        ap (λ (x : RowParts). x.number) (sym (same_Some (row_by s a) r
        (same_Some (Some (row_by s a)) (Some r) h)))
