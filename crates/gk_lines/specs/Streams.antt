-- Readers and writers: what they note of their calls, and what a writer that failed holds.
use Rattle.std.specs.Prelude.{◌≡◌, ℕ, ◌+◌, ◌%◌, ◌^◌, ◌<◌, Bool, List, ◌++◌, Option, Some, None, Result, Ok, Err, ⊤, if◌then◌else◌}
use Rattle.std.specs.Io.KnownBytes.{Appends}

-- ---- notes
-- the next count of failures: after 2^64 - 1 it begins again at 0, so each is another one than the
-- one before
abbrev pub one_more : ℕ → ℕ
one_more failures = (failures + 1) % 2 ^ 64

-- a stream has one more failure if its call says so, and else as many as it had
abbrev pub Notes : {A E : Type 0} → ℕ → ℕ → Result A E → Type 0
Notes old new (Ok x) = new ≡ old
Notes old new (Err fault) = new ≡ one_more old

-- the same if a fault may be that of another stream, or none of a stream: there is one more failure
-- exactly by this stream's
abbrev pub NotesIf : {A E : Type 0} → (E → Bool) → ℕ → ℕ → Result A E → Type 0
NotesIf is_its old new (Ok x) = new ≡ old
NotesIf is_its old new (Err fault) = new ≡ (if is_its fault then one_more old else old)

-- one more call was counted
abbrev pub CountsCall : ℕ → ℕ → Type 0
CountsCall old new = old + 1 < 2 ^ 64 → new ≡ old + 1

-- ---- known bytes
-- what is known of a reader's bytes stays known, and the bytes before and after are so related
abbrev pub KnownStep : Option (List ℕ) → Option (List ℕ) → (List ℕ → List ℕ → Type 0) → Type 0
KnownStep None new R = ⊤
KnownStep (Some xs) None R = ⊥
KnownStep (Some xs) (Some ys) R = R xs ys

-- known bytes grew by these bytes but for a rest of them
abbrev pub AppendsUpTo : Option (List ℕ) → Option (List ℕ) → List ℕ → List ℕ → Type 0
AppendsUpTo old new bytes rest = (front : List ℕ) × (bytes ≡ front ++ rest) × Appends old new front

-- known bytes grew by a front of these
abbrev pub AppendsFront : Option (List ℕ) → Option (List ℕ) → List ℕ → Type 0
AppendsFront old new bytes = (rest : List ℕ) × AppendsUpTo old new bytes rest
