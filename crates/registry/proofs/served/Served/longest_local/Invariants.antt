use Rattle.std.proofs.Common.{◌<◌, ◌≤◌, ◌+◌, ℕ, take}
use Rattle.gk_commands.specs.Zones.{is_local}
use Rattle.registry.specs.Served.{IsServed}
use Rattle.registry.proofs.served.Served.longest_local.Given as goal

-- nothing that was tried is served
abbrev pub invariant-loop-shorter : goal.invariant-loop-shorter
invariant-loop-shorter l =
    (count : ℕ) → l.most < count + l.shorter → count ≤ l.most
    → IsServed l.self (is_local l.tables.commands) (take count l.text) → ⊥
