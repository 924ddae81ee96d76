-- The fields of a row say the row.
use Rattle.std.proofs.Common.{◌≡◌, ℕ, ◌^◌, ◌<◌, ◌≤◌, Bool, true, false, List, [], length, Ok, Err, refl, ap, ◌∙◌, arith}
use Rattle.std.specs.Prelude.{◌==◌, not, codes, decimal, if◌then◌else◌, Result}
use Rattle.std.specs.Bool.{then_some}
use Rattle.std.specs.List.{list_all}
use Rattle.std.specs.Option.{ok_or}
use Rattle.std.specs.Str.{is_utf8}
use Rattle.std.proofs.lemmas.Bool.{and_parts, and_from}
use Rattle.std.proofs.lemmas.Bool.Decides.{nat_tests}
use Rattle.csv.specs.Records.{field_at}
use Rattle.gk_terms.specs.Dialled.{IsDialled, is_dialled_byte}
use Rattle.gk_terms.specs.Fields.{◌>>=◌}
use Rattle.gk_terms.specs.Number.{number_of}
use Rattle.call_rows.specs.Rows.{RowParts, is_of_a_call}
use Rattle.call_rows.specs.declared.rows.AdmittedCall.{AdmittedCall}
use Rattle.call_rows.specs.declared.rows.AnsweredCall.{AnsweredCall}
use Rattle.call_rows.specs.declared.rows.CallEvent.{CallEvent}
use Rattle.call_rows.specs.declared.rows.CallEvent.TheVariants.{Admitted, Answered, Changed, Released}
use Rattle.call_files.specs.ReadBack.{IsEvent, IsRow}
use Rattle.call_files.specs.Rows.{counted_at, event_in, fields_from, fields_said, granted_of, granted_word, is_whole, row_in, row_of, text_at}
use Rattle.call_files.specs.declared.faults.CallsFaultKind.{CallsFaultKind}
use Rattle.call_files.specs.declared.faults.CallsFaultKind.TheVariants.{BadField, BadRow}
use Rattle.call_files.proofs.read_back.Numbers.{number_of_decimal}
use Rattle.call_files.proofs.read_back.Routes.{name_back, name_visible, route_back, route_utf8}
use Rattle.call_files.proofs.read_back.Texts.{decimal_utf8, dialled_utf8, utf8_from_low, visible_utf8}

-- ---- they are whole
granted_utf8 : (granted : Bool) → is_utf8 (granted_word granted) ≡ true
granted_utf8 true = utf8_from_low (codes "yes") refl
granted_utf8 false = utf8_from_low (codes "no") refl

empty_utf8 : is_utf8 [] ≡ true
empty_utf8 = utf8_from_low [] refl

digits_utf8 : (digits : List ℕ) → IsDialled digits → is_utf8 digits ≡ true
digits_utf8 digits h =
    dialled_utf8 digits (and_parts _ (list_all is_dialled_byte digits) h).1

are_text : (number : ℕ) (event : CallEvent) → number < 2 ^ 32 → IsEvent event
    → list_all is_utf8 (fields_from number event) ≡ true
are_text number (Admitted a) small (call, zone, digits, units, route) =
    and_from _ _ (decimal_utf8 number (omega (arith, small)))
    (and_from _ _ (utf8_from_low (codes "ARQ") refl)
    (and_from _ _ (decimal_utf8 a.call (omega (arith, call)))
    (and_from _ _ (visible_utf8 a.zone (name_visible a.zone zone))
    (and_from _ _ (digits_utf8 a.digits digits)
    (and_from _ _ (decimal_utf8 a.units (omega (arith, units)))
    (and_from _ _ (granted_utf8 a.granted)
    (and_from _ _ (route_utf8 a.route route) refl)))))))
are_text number (Answered a) small (call, zone, units, route) =
    and_from _ _ (decimal_utf8 number (omega (arith, small)))
    (and_from _ _ (utf8_from_low (codes "ANS") refl)
    (and_from _ _ (decimal_utf8 a.call (omega (arith, call)))
    (and_from _ _ (visible_utf8 a.zone (name_visible a.zone zone))
    (and_from _ _ empty_utf8
    (and_from _ _ (decimal_utf8 a.units (omega (arith, units)))
    (and_from _ _ (granted_utf8 a.granted)
    (and_from _ _ (route_utf8 a.route route) refl)))))))
are_text number (Changed call units) small (called, united) =
    and_from _ _ (decimal_utf8 number (omega (arith, small)))
    (and_from _ _ (utf8_from_low (codes "BRQ") refl)
    (and_from _ _ (decimal_utf8 call (omega (arith, called)))
    (and_from _ _ empty_utf8
    (and_from _ _ empty_utf8
    (and_from _ _ (decimal_utf8 units (omega (arith, united)))
    (and_from _ _ empty_utf8
    (and_from _ _ empty_utf8 refl)))))))
are_text number (Released call) small called =
    and_from _ _ (decimal_utf8 number (omega (arith, small)))
    (and_from _ _ (utf8_from_low (codes "DRQ") refl)
    (and_from _ _ (decimal_utf8 call (omega (arith, called)))
    (and_from _ _ empty_utf8
    (and_from _ _ empty_utf8
    (and_from _ _ empty_utf8
    (and_from _ _ empty_utf8
    (and_from _ _ empty_utf8 refl)))))))

are_eight : (number : ℕ) (event : CallEvent) → (length (fields_from number event) == 8) ≡ true
are_eight number (Admitted a) = refl
are_eight number (Answered a) = refl
are_eight number (Changed call units) = refl
are_eight number (Released call) = refl

-- ---- each field
counted : (n : ℕ) → n < 2 ^ 32 → 1 ≤ n
    → ok_or {E = CallsFaultKind} (number_of 1 4294967295 (decimal n)) BadField ≡ Ok n
counted n small low =
    ap (λ o. ok_or o BadField)
    (number_of_decimal 1 4294967295 n (omega (arith, small)) low (omega (arith, small)))

measured : (n : ℕ) → n < 2 ^ 32
    → ok_or {E = CallsFaultKind} (number_of 0 4294967295 (decimal n)) BadField ≡ Ok n
measured n small =
    ap (λ o. ok_or o BadField)
    (number_of_decimal 0 4294967295 n (omega (arith, small)) (omega arith) (omega (arith, small)))

granted_back : (granted : Bool) → granted_of (granted_word granted) ≡ Ok granted
granted_back true = refl
granted_back false = refl

-- a step of reading that gives a value
step_ok : {A B F : Type 0} (r : Result A F) (x : A) (f : A → Result B F) → r ≡ Ok x
    → (r >>= f) ≡ f x
step_ok r x f e = ap (λ r. r >>= f) e

at_least_one : (n : ℕ) → not (n == 0) ≡ true → 1 ≤ n
at_least_one n h = grind (arith, nat_tests)

-- ---- the event
admitted_back : (number : ℕ) (a : AdmittedCall) → IsEvent (Admitted a)
    → not (a.call == 0) ≡ true → event_in (fields_from number (Admitted a)) ≡ Ok (Admitted a)
unfolding field_at
admitted_back number a (call, zone, digits, units, route) called =
    step_ok _ a.call _ (counted a.call call (at_least_one a.call called))
    ∙ step_ok _ a.zone _ (ap (λ o. ok_or o BadField) (name_back a.zone zone))
    ∙ step_ok _ a.digits _ (ap (λ b. ok_or (then_some b a.digits) BadField) digits)
    ∙ step_ok _ a.units _ (measured a.units units)
    ∙ step_ok _ a.granted _ (granted_back a.granted)
    ∙ step_ok _ a.route _ (ap (λ o. ok_or o BadField) (route_back a.route route))

answered_back : (number : ℕ) (a : AnsweredCall) → IsEvent (Answered a)
    → not (a.call == 0) ≡ true → event_in (fields_from number (Answered a)) ≡ Ok (Answered a)
unfolding field_at
answered_back number a (call, zone, units, route) called =
    step_ok _ a.call _ (counted a.call call (at_least_one a.call called))
    ∙ step_ok _ a.zone _ (ap (λ o. ok_or o BadField) (name_back a.zone zone))
    ∙ step_ok _ a.units _ (measured a.units units)
    ∙ step_ok _ a.granted _ (granted_back a.granted)
    ∙ step_ok _ a.route _ (ap (λ o. ok_or o BadField) (route_back a.route route))

changed_back : (number call units : ℕ) → call < 2 ^ 32 → units < 2 ^ 32
    → not (call == 0) ≡ true
    → event_in (fields_from number (Changed call units)) ≡ Ok (Changed call units)
unfolding field_at
changed_back number call units small united called =
    step_ok _ call _ (counted call small (at_least_one call called))
    ∙ step_ok _ units _ (measured units united)

released_back : (number call : ℕ) → call < 2 ^ 32 → not (call == 0) ≡ true
    → event_in (fields_from number (Released call)) ≡ Ok (Released call)
unfolding field_at
released_back number call small called =
    step_ok _ call _ (counted call small (at_least_one call called))

event_back : (number : ℕ) (event : CallEvent) → IsEvent event → is_of_a_call event ≡ true
    → event_in (fields_from number event) ≡ Ok event
event_back number (Admitted a) h k =
    admitted_back number a h (and_parts (not (a.call == 0)) _ k).0
event_back number (Answered a) h k =
    answered_back number a h (and_parts (not (a.call == 0)) _ k).0
event_back number (Changed call units) (called, united) k =
    changed_back number call units called united k
event_back number (Released call) h k = released_back number call h k

-- ---- the row
first_field : (number : ℕ) (event : CallEvent) → text_at (fields_from number event) 0 ≡ decimal number
unfolding field_at
first_field number (Admitted a) = refl
first_field number (Answered a) = refl
first_field number (Changed call units) = refl
first_field number (Released call) = refl

pub row_in_back : (row : RowParts) → IsRow row → row_in (fields_said row) ≡ Ok row
row_in_back row (small, held, sound) =
    let fields = fields_from row.number row.event in
    let parts = and_parts (not (row.number == 0)) (is_of_a_call row.event) sound in
    let whole : is_whole fields ≡ true = and_from _ _ (are_eight row.number row.event)
    (are_text row.number row.event small held) in
    let number : counted_at fields 0 ≡ Ok row.number =
    ap (λ text. ok_or (number_of 1 4294967295 text) BadField) (first_field row.number row.event)
    ∙ counted row.number small (at_least_one row.number parts.0) in
    ap (λ b. if b then row_of fields else Err BadRow) whole
    ∙ step_ok (counted_at fields 0) row.number _ number
    ∙ step_ok (event_in fields) row.event _ (event_back row.number row.event held parts.1)
    ∙ ap (λ b. if b then Ok row else Err BadField) sound
