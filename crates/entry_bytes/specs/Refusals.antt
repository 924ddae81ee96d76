-- The refusal of a bandwidth change as bytes, and the sum that would be above its limit.
use Rattle.std.specs.Prelude.{ℕ, ◌==◌, List, [], ◌∷◌, Option, Some, None, ⊤, if◌then◌else◌}
use Rattle.bandwidth.specs.declared.over.Over.{Over}
use Rattle.bandwidth.specs.declared.over.Over.TheVariants as over
use Rattle.gk_terms.specs.Name.{IsName}
use Rattle.rulings.specs.declared.replies.ChangeRefusal.{ChangeRefusal}
use Rattle.rulings.specs.declared.replies.ChangeRefusal.TheVariants as change
use Rattle.field_bytes.specs.Fields.{◌>>=◌, byte_in, text_bytes, name_in}
use Rattle.entry_bytes.specs.Codes.{limit_kind_code, limit_kind_of}

-- ---- the sum that would be above its limit
-- its kind, and the name of its zone; or no kind
abbrev pub over_bytes : Over → List ℕ
over_bytes (over.Zone kind zone) = limit_kind_code kind ∷ text_bytes zone
over_bytes over.Remote = 0 ∷ []

-- of a zone, by the code of its kind
abbrev pub zone_over_in : ℕ → List ℕ → Option (Over × List ℕ)
zone_over_in code bytes = do
  kind ← limit_kind_of code
  zone ← name_in bytes
  Some (over.Zone kind zone.0, zone.1)

abbrev pub over_at : ℕ → List ℕ → Option (Over × List ℕ)
over_at code rest = if code == 0 then Some (over.Remote, rest) else zone_over_in code rest

abbrev pub over_in : List ℕ → Option (Over × List ℕ)
over_in bytes = byte_in bytes >>= λ code. over_at code.0 code.1

-- as every one is
abbrev pub IsOver : Over → Type 0
IsOver (over.Zone kind zone) = IsName zone
IsOver over.Remote = ⊤

-- ---- of a bandwidth change
abbrev pub change_refusal_bytes : ChangeRefusal → List ℕ
change_refusal_bytes change.NoCall = 0 ∷ []
change_refusal_bytes change.NotYours = 1 ∷ []
change_refusal_bytes change.RecordFull = 2 ∷ []
change_refusal_bytes change.NoMemory = 3 ∷ []
change_refusal_bytes (change.OverLimit over) = 4 ∷ over_bytes over

abbrev pub change_over_in : List ℕ → Option (ChangeRefusal × List ℕ)
change_over_in bytes = over_in bytes >>= λ over. Some (change.OverLimit over.0, over.1)

abbrev pub change_refusal_at : ℕ → List ℕ → Option (ChangeRefusal × List ℕ)
change_refusal_at code rest =
    if code == 0 then Some (change.NoCall, rest)
    else if code == 1 then Some (change.NotYours, rest)
    else if code == 2 then Some (change.RecordFull, rest)
    else if code == 3 then Some (change.NoMemory, rest)
    else if code == 4 then change_over_in rest
    else None

abbrev pub change_refusal_in : List ℕ → Option (ChangeRefusal × List ℕ)
change_refusal_in bytes = byte_in bytes >>= λ code. change_refusal_at code.0 code.1

-- as every one is
abbrev pub IsChangeRefusal : ChangeRefusal → Type 0
IsChangeRefusal change.NoCall = ⊤
IsChangeRefusal change.NotYours = ⊤
IsChangeRefusal change.RecordFull = ⊤
IsChangeRefusal change.NoMemory = ⊤
IsChangeRefusal (change.OverLimit over) = IsOver over
