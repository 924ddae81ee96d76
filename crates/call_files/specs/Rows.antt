-- A row of a call file, as its eight fields.
use Rattle.std.specs.Prelude.{ℕ, ◌==◌, Bool, true, false, ◌&&◌, List, [], ◌∷◌, length, codes, bytes_eq, decimal, Result, Ok, Err, unwrap_or, if◌then◌else◌}
use Rattle.std.specs.List.{list_all}
use Rattle.std.specs.Option.{ok_or}
use Rattle.std.specs.Str.{is_utf8}
use Rattle.csv.specs.Records.{field_at}
use Rattle.gk_terms.specs.Dialled.{dialled_of}
use Rattle.gk_terms.specs.Fields.{◌>>=◌}
use Rattle.gk_terms.specs.Name.{name_of}
use Rattle.gk_terms.specs.Number.{number_of}
use Rattle.gk_terms.specs.Text.{is_empty}
use Rattle.rulings.specs.Routes.{route_text}
use Rattle.rulings.specs.declared.routes.Route.{Route}
use Rattle.call_rows.specs.Rows.{RowParts, is_row}
use Rattle.call_rows.specs.declared.rows.CallEvent.{CallEvent}
use Rattle.call_rows.specs.declared.rows.CallEvent.TheVariants.{Admitted, Answered, Changed, Released}
use Rattle.call_files.specs.RouteTexts.{route_of}
use Rattle.call_files.specs.declared.faults.CallsFaultKind.{CallsFaultKind}
use Rattle.call_files.specs.declared.faults.CallsFaultKind.TheVariants.{BadRow, BadField}

-- the fields of the header
abbrev pub header : List (List ℕ)
header =
    codes "number" ∷ codes "event" ∷ codes "call" ∷ codes "zone" ∷ codes "digits"
    ∷ codes "units" ∷ codes "granted" ∷ codes "route" ∷ []

-- ---- a row as its fields
abbrev pub granted_word : Bool → List ℕ
granted_word true = codes "yes"
granted_word false = codes "no"

abbrev pub fields_from : ℕ → CallEvent → List (List ℕ)
fields_from number (Admitted a) =
    decimal number ∷ codes "ARQ" ∷ decimal a.call ∷ a.zone ∷ a.digits ∷ decimal a.units
    ∷ granted_word a.granted ∷ route_text a.route ∷ []
fields_from number (Answered a) =
    decimal number ∷ codes "ANS" ∷ decimal a.call ∷ a.zone ∷ [] ∷ decimal a.units
    ∷ granted_word a.granted ∷ route_text a.route ∷ []
fields_from number (Changed call units) =
    decimal number ∷ codes "BRQ" ∷ decimal call ∷ [] ∷ [] ∷ decimal units ∷ [] ∷ [] ∷ []
fields_from number (Released call) =
    decimal number ∷ codes "DRQ" ∷ decimal call ∷ [] ∷ [] ∷ [] ∷ [] ∷ [] ∷ []

-- the fields of a row
abbrev pub fields_said : RowParts → List (List ℕ)
fields_said row = fields_from row.number row.event

-- ---- fields as a row
-- the field at a place, from 0; an empty one if there is none
abbrev pub text_at : List (List ℕ) → ℕ → List ℕ
text_at fields place = unwrap_or (field_at fields place) []

abbrev pub is_text_at : List (List ℕ) → ℕ → List ℕ → Bool
is_text_at fields place text = bytes_eq (text_at fields place) text

abbrev pub is_empty_at : List (List ℕ) → ℕ → Bool
is_empty_at fields place = is_empty (text_at fields place)

-- the number of the entry, and that of the call: from 1 on
abbrev pub counted_at : List (List ℕ) → ℕ → Result ℕ CallsFaultKind
counted_at fields place = ok_or (number_of 1 4294967295 (text_at fields place)) BadField

abbrev pub zone_in : List (List ℕ) → Result (List ℕ) CallsFaultKind
zone_in fields = ok_or (name_of (text_at fields 3)) BadField

abbrev pub digits_in : List (List ℕ) → Result (List ℕ) CallsFaultKind
digits_in fields = ok_or (dialled_of (text_at fields 4)) BadField

abbrev pub units_in : List (List ℕ) → Result ℕ CallsFaultKind
units_in fields = ok_or (number_of 0 4294967295 (text_at fields 5)) BadField

abbrev pub granted_of : List ℕ → Result Bool CallsFaultKind
granted_of text =
    if bytes_eq text (codes "yes") then Ok true
    else (if bytes_eq text (codes "no") then Ok false else Err BadField)

abbrev pub granted_in : List (List ℕ) → Result Bool CallsFaultKind
granted_in fields = granted_of (text_at fields 6)

abbrev pub route_in : List (List ℕ) → Result Route CallsFaultKind
route_in fields = ok_or (route_of (text_at fields 7)) BadField

abbrev pub admitted_in : List (List ℕ) → Result CallEvent CallsFaultKind
admitted_in fields =
    counted_at fields 2 >>= λ call. zone_in fields >>= λ zone. digits_in fields >>= λ digits.
    units_in fields >>= λ units. granted_in fields >>= λ granted. route_in fields >>= λ route.
    Ok (Admitted (record {
      call = call;
      zone = zone;
      digits = digits;
      units = units;
      granted = granted;
      route = route;
    }))

-- the answer to a call has no digits
abbrev pub answered_in : List (List ℕ) → Result CallEvent CallsFaultKind
answered_in fields =
    counted_at fields 2 >>= λ call. zone_in fields >>= λ zone.
    if is_empty_at fields 4
    then (units_in fields >>= λ units. granted_in fields >>= λ granted. route_in fields >>= λ route.
    Ok (Answered (record {
      call = call;
      zone = zone;
      units = units;
      granted = granted;
      route = route;
    })))
    else Err BadField

-- a change has no zone, digits, answer or route
abbrev pub changed_in : List (List ℕ) → Result CallEvent CallsFaultKind
changed_in fields =
    counted_at fields 2 >>= λ call. units_in fields >>= λ units.
    if is_empty_at fields 3 && is_empty_at fields 4 && is_empty_at fields 6 && is_empty_at fields 7
    then Ok (Changed call units) else Err BadField

-- and a release no units either
abbrev pub released_in : List (List ℕ) → Result CallEvent CallsFaultKind
released_in fields =
    counted_at fields 2 >>= λ call.
    if is_empty_at fields 3 && is_empty_at fields 4 && is_empty_at fields 5
    && is_empty_at fields 6 && is_empty_at fields 7
    then Ok (Released call) else Err BadField

abbrev pub event_in : List (List ℕ) → Result CallEvent CallsFaultKind
event_in fields =
    if is_text_at fields 1 (codes "ARQ") then admitted_in fields
    else (if is_text_at fields 1 (codes "BRQ") then changed_in fields
    else (if is_text_at fields 1 (codes "DRQ") then released_in fields
    else (if is_text_at fields 1 (codes "ANS") then answered_in fields else Err BadField)))

-- a row that may be one: a granted admission has a destination, and an answer an endpoint
abbrev pub row_with : ℕ → CallEvent → Result RowParts CallsFaultKind
row_with number event =
    if is_row (record { number = number; event = event })
    then Ok (record { number = number; event = event }) else Err BadField

-- eight fields, each of which is text
abbrev pub is_whole : List (List ℕ) → Bool
is_whole fields = (length fields == 8) && list_all is_utf8 fields

abbrev pub row_of : List (List ℕ) → Result RowParts CallsFaultKind
row_of fields =
    counted_at fields 0 >>= λ number. event_in fields >>= λ event. row_with number event

-- the row that a record of fields says
abbrev pub row_in : List (List ℕ) → Result RowParts CallsFaultKind
row_in fields =
    if is_whole fields then row_of fields else Err BadRow

-- whether a record is the header
abbrev pub is_header : List (List ℕ) → Bool
is_header fields =
    (length fields == 8)
    && is_text_at fields 0 (codes "number") && is_text_at fields 1 (codes "event")
    && is_text_at fields 2 (codes "call") && is_text_at fields 3 (codes "zone")
    && is_text_at fields 4 (codes "digits") && is_text_at fields 5 (codes "units")
    && is_text_at fields 6 (codes "granted") && is_text_at fields 7 (codes "route")
