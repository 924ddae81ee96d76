-- The reply that is made, as contracts see it.
use Rattle.std.specs.Prelude.{ℕ, List, [], Option, Some, None}

-- its first line and the lines after it, and the sequence number that the next reply repeats
pub record ReplyParts : Type 0 where
  pub text : List ℕ
  pub sequence : ℕ

-- the bytes of the lines after the first, if there are any
abbrev pub body_bytes : Option (List ℕ) → List ℕ
body_bytes None = []
body_bytes (Some body) = body
