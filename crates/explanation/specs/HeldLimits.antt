-- The limits that a call is held against, as they are gone through.
use Rattle.std.specs.Prelude.{ℕ, Bool, List, [], ◌++◌, Option, option_map, bytes_eq, if◌then◌else◌}
use Rattle.std.specs.Option.{option_to_list}
use Rattle.gk_commands.specs.declared.commands.Command.{Command}
use Rattle.gk_commands.specs.declared.commands.LimitKind.{LimitKind}
use Rattle.gk_commands.specs.declared.commands.LimitKind.TheVariants.{Interzone}
use Rattle.compiler.specs.Limit.{limit_of, remote_limit_of}
use Rattle.bandwidth.specs.declared.over.Over.{Over}
use Rattle.bandwidth.specs.declared.over.Over.TheVariants as overs
use Rattle.explanation.specs.declared.steps.HeldLimit.{HeldLimit}

-- a limit, if there is one
abbrev pub held : Over → Option ℕ → Option HeldLimit
held over limit = option_map (λ units. record { over = over; units = units }) limit

-- that of a zone
abbrev pub of_zone : List Command → LimitKind → List ℕ → List HeldLimit
of_zone commands kind zone =
    option_to_list (held (overs.Zone kind zone) (limit_of commands kind zone))

-- those of a kind: of the caller's zone, and of the target zone if it is another one
abbrev pub of_kind : List Command → LimitKind → List ℕ → List ℕ → List HeldLimit
of_kind commands kind caller zone =
    of_zone commands kind caller
    ++ (if bytes_eq caller zone then [] else of_zone commands kind zone)

-- the interzone limits, if the zones are different
abbrev pub between : List Command → List ℕ → List ℕ → List HeldLimit
between commands caller zone =
    if bytes_eq caller zone then [] else of_kind commands Interzone caller zone

-- the limit of all calls to and from other gatekeepers together, if the call is one of them
abbrev pub remotely : List Command → Bool → List HeldLimit
remotely commands is_remote =
    if is_remote then option_to_list (held overs.Remote (remote_limit_of commands)) else []
