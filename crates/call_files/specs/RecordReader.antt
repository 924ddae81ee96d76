-- A reader of the records of a text, between two of them.
use Rattle.std.specs.Prelude.{◌≡◌, ℕ, Bool, true, List, [], ◌∷◌, Option, Some}
use denote.Ref.{Bor}
use Rattle.csv.specs.Reading.{ReadRecord, Ready, default_config, reader_config, reader_trim, source_of}
use Rattle.csv.specs.declared.reader.Reader.{Reader}
use Rattle.csv.specs.declared.reader.Trim.TheVariants as trim
use Rattle.call_files.specs.Calls.{Begins}

-- it reads records as csv does by default, each as one, the first one too
abbrev pub IsReading : Reader (Bor (List ℕ)) → Type 0
IsReading r = (reader_trim r ≡ trim.None) × (reader_config r ≡ default_config) × Ready r

-- the bytes that are left
abbrev pub left_of : Reader (Bor (List ℕ)) → Option (List ℕ)
left_of r = source_of (λ s. Some s.now) r

-- the next record was read, or there was none
abbrev pub ReadsNext : Reader (Bor (List ℕ)) → Reader (Bor (List ℕ)) → Bool → List (List ℕ)
    → Type 0
ReadsNext old new found fields =
    ReadRecord (λ s. Some s.now) old new found fields × (found ≡ true → IsReading new)

-- these records of a text were read
abbrev pub HasRead : List ℕ → List (List (List ℕ)) → Reader (Bor (List ℕ)) → Type 0
HasRead text records r = (rest : List ℕ) × (left_of r ≡ Some rest) × Begins text records r.state rest

-- the first record of a text was read
abbrev pub IsPast : List ℕ → List (List ℕ) → Reader (Bor (List ℕ)) → Type 0
IsPast text names r = HasRead text (names ∷ []) r
