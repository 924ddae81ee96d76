-- What the row of an admission does, be it of a call that was dialled or of an answer.
use Rattle.std.proofs.Common.{◌≡◌, ℕ, List, Option, Some, None, refl}
use Rattle.std.specs.Prelude.{if◌then◌else◌}
use Rattle.call_rows.specs.declared.rows.AskedCall.{AskedCall}
use Rattle.call_rows.specs.Moves.{admitted_move, move_of}
use Rattle.call_rows.specs.OpenCalls.{Open, opened_if, opens_after}
use Rattle.call_rows.specs.Pushing.{event_fault, opening_fault}
use Rattle.call_rows.specs.Rows.{admission_by, numbered, said_by, said_with}

module _ (a : AskedCall) where
  pub fault_said : (opens : List Open)
      → event_fault opens (said_by a)
      ≡ (if a.granted then opening_fault a.call opens else None)
  fault_said opens = by a.digits
    where
      by : (digits : Option (List ℕ)) → event_fault opens (said_with a digits)
          ≡ (if a.granted then opening_fault a.call opens else None)
      by None = refl
      by (Some digits) = refl

  pub opens_said : (seen : ℕ) (opens : List Open)
      → opens_after seen (said_by a) opens
      ≡ opened_if a.granted (record { call = a.call; units = a.units; admission = seen }) opens
  opens_said seen opens = by a.digits
    where
      by : (digits : Option (List ℕ)) → opens_after seen (said_with a digits) opens
          ≡ opened_if a.granted (record {
            call = a.call;
            units = a.units;
            admission = seen;
          }) opens
      by None = refl
      by (Some digits) = refl

  pub move_said : (seen : ℕ) (opens : List Open)
      → move_of seen opens (said_by a) ≡ admitted_move seen a.granted a.units
  move_said seen opens = by a.digits
    where
      by : (digits : Option (List ℕ)) → move_of seen opens (said_with a digits)
          ≡ admitted_move seen a.granted a.units
      by None = refl
      by (Some digits) = refl

  -- it is the admission of its row
  pub admission_said : (number : ℕ) → admission_by number (said_by a) ≡ Some (numbered number a)
  admission_said number = by a.digits
    where
      by : (digits : Option (List ℕ))
          → admission_by number (said_with a digits)
          ≡ Some (numbered number (record a { digits = digits }))
      by None = refl
      by (Some digits) = refl
