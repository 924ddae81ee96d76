-- A list of admissions, as contracts see it.
use Rattle.std.specs.Prelude.{ℕ, List}
use Rattle.call_rows.specs.declared.rows.NumberedAdmission.{NumberedAdmission}

-- the admissions, how many of them stand whole, and for how many further ones there is room
pub record AdmissionListParts : Type 0 where
  pub items : List NumberedAdmission
  pub whole : ℕ
  pub room : ℕ
