use Rattle.std.proofs.Common.{subst}
use Rattle.std.specs.Prelude.{IfSome}
use Rattle.gk_commands.specs.Accepted.{LinesSay}
use Rattle.gk_commands.proofs.WholeLinesLemmas.{says_just_them}
use Rattle.gk_commands.proofs.commands.Commands.into_lines.Goals as goal

pub new-requires : goal.new-requires
new-requires c =
    says_just_them c.in-Some.lines c.self.inside.commands.items c.self.invariant.1
    (subst (λ kept. IfSome kept (λ lines. LinesSay lines c.self.inside.commands.items)) c.in-Some.is
    c.self.invariant.2)
