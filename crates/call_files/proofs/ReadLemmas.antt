-- One record more of a text, and what it says.
use Rattle.std.proofs.Common.{Bor, ◌≡◌, ◌+◌, ◌++◌, ◌∷◌, [], ℕ, List, length, true, false, Some, None, Result, Ok, Err, refl, sym, ap, inr}
use Rattle.csv.specs.Machine.{next_record}
use Rattle.csv.specs.Reading.{ReadRecord, Reached, default_config, strip_bom}
use Rattle.csv.specs.declared.reader.Reader.{Reader}
use Rattle.csv.specs.declared.parser.State.TheVariants as st
use Rattle.csv.proofs.ReadFacts.{rows-end, rows-more}
use Rattle.call_rows.specs.Rows.{RowParts}
use Rattle.call_files.specs.declared.faults.CallsFault.{CallsFault}
use Rattle.call_files.specs.Calls.{Begins, LacksMemory, said, with_record}
use Rattle.call_files.specs.Rows.{is_header}
use Rattle.call_files.specs.RecordReader.{HasRead, IsReading, left_of}

-- one record more was read
pub read_more : (text : List ℕ) (records : List (List (List ℕ))) (a b : Reader (Bor (List ℕ)))
    (fields : List (List ℕ)) → IsReading a → HasRead text records a
    → ReadRecord (λ (s : Bor (List ℕ)). Some s.now) a b true fields
    → HasRead text (records ++ fields ∷ []) b
read_more text records a b fields plain has read =
    let (rest, left, begins) = has in
    rows-more (λ (s : Bor (List ℕ)). Some s.now) a b fields default_config st.StartRecord
    (strip_bom text) rest records plain.1 left begins read

-- the first record was read
pub read_first : (text : List ℕ) (a b : Reader (Bor (List ℕ))) (fields : List (List ℕ))
    → IsReading a → left_of a ≡ Some (strip_bom text) → a.state ≡ st.StartRecord
    → ReadRecord (λ (s : Bor (List ℕ)). Some s.now) a b true fields
    → HasRead text (fields ∷ []) b
unfolding Reached
read_first text a b fields plain left start read =
    rows-more (λ (s : Bor (List ℕ)). Some s.now) a b fields default_config st.StartRecord
    (strip_bom text) (strip_bom text) [] plain.1 left (sym start, refl) read

-- there is no record more
pub read_end : (a b : Reader (Bor (List ℕ))) (fields : List (List ℕ)) (rest : List ℕ)
    → IsReading a → left_of a ≡ Some rest
    → ReadRecord (λ (s : Bor (List ℕ)). Some s.now) a b false fields
    → next_record default_config a.state [] [] rest ≡ None
read_end a b fields rest plain left read =
    rows-end (λ (s : Bor (List ℕ)). Some s.now) a b fields default_config rest plain.1 left read

-- there is no first record
pub none_at_all : (text : List ℕ) → Begins text [] st.StartRecord (strip_bom text)
unfolding Reached
none_at_all text = (refl, refl)

-- memory may run out after records that say rows, at the next one
pub lacks_next : (text : List ℕ) (names : List (List ℕ)) (records : List (List (List ℕ)))
    (rows : List RowParts) (r : Reader (Bor (List ℕ))) → HasRead text (names ∷ records) r
    → is_header names ≡ true → said (Ok []) records ≡ Ok rows → LacksMemory text (length rows + 1)
lacks_next text names records rows r (rest, left, begins) head says =
    inr (rows, (names, records, (r.state, rest, begins), head, says), refl)

-- what one record more says
pub said_more : (start : Result (List RowParts) CallsFault) (records : List (List (List ℕ)))
    (fields : List (List ℕ)) (rows : List RowParts) → said start records ≡ Ok rows
    → said start (records ++ fields ∷ []) ≡ with_record rows fields
said_more (Ok first) [] fields rows e = ap (λ r. said r (fields ∷ [])) e
said_more (Err f) [] fields rows e = ap (λ r. said r (fields ∷ [])) e
said_more (Ok first) (r ∷ rs) fields rows e = said_more (with_record first r) rs fields rows e
said_more (Err f) (r ∷ rs) fields rows e = ap (λ r. said r (fields ∷ [])) e
