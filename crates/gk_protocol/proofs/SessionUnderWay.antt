-- A session that is under way: what its loop keeps.
use Rattle.std.specs.Prelude.{◌≡◌, ℕ, Bool, length, List, ◌++◌, Option}
use Rattle.std.specs.Io.KnownBytes.{Appends}
use Rattle.gk_lines.proofs.LinesTaken.{LinesTaken}
use Rattle.gk_protocol.specs.declared.requests.Request.{Request}
use Rattle.gk_protocol.specs.declared.answers.Answer.{Answer}
use Rattle.gk_protocol.specs.Session.{Asked, asked_in, Runs}

module _ {S : Type 0} (MayAnswer : S → Request → Answer → S → Type 0) where
  -- what the lines ask that were taken was answered, and nothing of what follows changes what they
  -- ask
  pub record IsUnderWay (ended : Bool) (bytes rest : List ℕ) (old now : S) (text : List ℕ)
      (count : ℕ) : Type 0 where
    pub raws : List (List ℕ)
    pub taken : LinesTaken ended bytes rest raws
    pub asked : List Asked
    pub settled : (at_end : Bool) (more : List (List ℕ)) → asked_in at_end 0 (raws ++ more) ≡ asked
        ++ asked_in at_end 0 more
    pub runs : Runs MayAnswer old asked text now
    pub counted : count ≡ length asked

  -- the same, with what the writer held before and holds now, if it tells
  abbrev pub UnderWay : Bool → S → S → Option (List ℕ) → Option (List ℕ) → ℕ → List ℕ → List ℕ →
      Type 0
  UnderWay ended old now before after count bytes rest =
      (text : List ℕ) × IsUnderWay ended bytes rest old now text count × Appends before after text
