use Rattle.std.proofs.Common.{◌≡◌, sym, None, rules}
use Rattle.std.specs.HashSet.{keys}
use Rattle.command_reader.specs.Index.{fault_of_one_more}
use Rattle.command_reader.proofs.kept.declare.Goals as goal

pub returns-in-Ok : goal.returns-in-Ok
returns-in-Ok c =
    let free : fault_of_one_more (keys c.args.declared.now) c.name.result ≡ None = rw
    (sym c.in-Some.ensures, sym c.name.ensures) at c.requires.free in
    rw (sym c.in-Some.ensures, sym c.name.ensures) (search rules)
