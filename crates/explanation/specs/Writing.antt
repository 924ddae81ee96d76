-- An explanation as it is written.
use Rattle.std.specs.Prelude.{◌≡◌, ℕ, Bool, true, false, List, Option, Result, Ok, Err}
use Rattle.std.specs.Io.KnownBytes.{Appends}
use Rattle.gk_commands.specs.declared.commands.Command.{Command}
use Rattle.registry.specs.Endpoint.{EndpointParts}
use Rattle.gk_lines.specs.Streams.{AppendsFront}
use Rattle.explanation.specs.declared.steps.Explanation.{Explanation}
use Rattle.explanation.specs.declared.writing.ExplainFault.{ExplainFault}
use Rattle.explanation.specs.declared.writing.ExplainFault.TheVariants.{NoMemory, WriteFault}
use Rattle.explanation.specs.Steps.{Explains}
use Rattle.explanation.specs.Telling.{explanation_text}

-- the text says each step as it is, and nothing else
abbrev pub IsExplained : List Command → List EndpointParts → Bool → List ℕ → List ℕ → List ℕ
    → Type 0
IsExplained commands endpoints known caller digits text =
    (e : Explanation) × Explains commands endpoints known caller digits e
    × (text ≡ explanation_text commands e)

-- whether it is the writer's fault
abbrev pub is_write_fault : ExplainFault → Bool
is_write_fault NoMemory = false
is_write_fault WriteFault = true

-- such a text was written, or a front of it; or nothing, if memory ran out
abbrev pub Writes : Option (List ℕ) → Option (List ℕ) → (List ℕ → Type 0)
    → {A : Type 0} → Result A ExplainFault → Type 0
Writes old new Is (Ok x) = (text : List ℕ) × Is text × Appends old new text
Writes old new Is (Err NoMemory) = new ≡ old
Writes old new Is (Err WriteFault) = (text : List ℕ) × Is text × AppendsFront old new text
