-- Requests to which the next lines belong, as src/line_owners has them until the lines are there.
use Rattle.std.specs.Prelude.{ℕ, List}
use Rattle.gk_protocol.specs.declared.answers.Answer.{Answer}
use Rattle.gk_protocol.specs.declared.line_owners.LineOwner.{LineOwner}
use Rattle.gk_protocol.specs.declared.line_owners.LineOwner.TheVariants.{Reload, Try}
use Rattle.gk_protocol.specs.declared.requests.Request.{Request}
use Rattle.gk_protocol.specs.declared.requests.Request.TheVariants as request
use Rattle.gk_protocol.specs.Asking.{Asking, Owns}
use Rattle.gk_protocol.specs.Requests.{reload_without_memory, trial_without_memory}

-- the request with its lines
abbrev pub request_with : LineOwner → List ℕ → Request
request_with (Reload sequence) lines = request.Reload sequence lines
request_with (Try sequence workers) lines = request.Try sequence workers lines

-- the answer if memory runs out for them
abbrev pub lines_without_memory : LineOwner → Answer
lines_without_memory (Reload sequence) = reload_without_memory sequence
lines_without_memory (Try sequence workers) = trial_without_memory sequence

-- what is asked, if so many lines belong to it
abbrev pub asking_with : LineOwner → ℕ → Asking
asking_with owner count = Owns count (request_with owner) (lines_without_memory owner)
