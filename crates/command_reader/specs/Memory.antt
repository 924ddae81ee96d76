-- What may be answered if memory is taken while a line is read.
use Rattle.std.specs.Prelude.{◌≡◌, ◌⊎◌, ℕ, List, None, Result, Ok, Err, MatchResult, IfOk}
use Rattle.std.specs.declared.alloc.AllocError.{AllocError}
use Rattle.gk_commands.specs.declared.faults.FaultKind.{FaultKind}
use Rattle.gk_commands.specs.declared.faults.FaultKind.TheVariants.{NoMemory}
use Rattle.gk_commands.specs.declared.commands.Command.{Command}
use Rattle.gk_commands.specs.Zones.{declared_by}

-- out of memory is answered in place of something without a fault, of which P holds
pub record LacksMemoryInPlace
    {A : Type 0} (P : A → Type 0) (right : Result A FaultKind) (kind : FaultKind)
    : Type 0 where
  pub named : kind ≡ NoMemory
  pub said : A
  pub free : right ≡ Ok said
  pub holds : P said

-- why it is not given: its first fault; or out of memory, if it has none
abbrev pub MayRefuse : {A : Type 0} → (A → Type 0) → Result A FaultKind → FaultKind → Type 0
MayRefuse P right kind = (right ≡ Err kind) ⊎ LacksMemoryInPlace P right kind

-- just what is right; or out of memory in its place, if it has no fault and P holds of it
abbrev pub UnlessMemory : {A : Type 0} → (A → Type 0) → Result A FaultKind → Result A FaultKind
    → Type 0
UnlessMemory P right result = MatchResult result (λ x. right ≡ Ok x) (MayRefuse P right)

-- anything
abbrev pub Any : {A : Type 0} → A → Type 0
Any x = Unit {0}

-- a command that declares no zone
abbrev pub DeclaresNone : Command → Type 0
DeclaresNone command = declared_by command ≡ None

-- the names are held, unless memory was refused for one of them
abbrev pub HoldsNames : Result (List (List ℕ)) AllocError → List (List ℕ) → Type 0
HoldsNames held names = IfOk held (λ kept. kept ≡ names)
