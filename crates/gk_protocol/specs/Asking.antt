-- What one line asks.
use Rattle.std.specs.Prelude.{ℕ, List}
use Rattle.gk_protocol.specs.declared.requests.Request.{Request}
use Rattle.gk_protocol.specs.declared.answers.Answer.{Answer}

pub data Asking : Type 0 where
  -- a request that stands whole in its line
  Whole : Request → Asking
  -- a request to which the next lines belong: so many of them, the request by their bytes, and the
  -- answer if memory runs out for them
  Owns : (count : ℕ) → (List ℕ → Request) → Answer → Asking
