use Rattle.std.proofs.Common.{sym, subst}
use Rattle.std.specs.List.{All}
use Rattle.gk_commands.specs.Accepted.{PrintsBack}
use Rattle.command_reader.proofs.read_back.File.{file_back}
use Rattle.command_reader.proofs.printing.print.Goals as goal

pub print_lines-requires : goal.print_lines-requires
print_lines-requires g c = subst (All PrintsBack) (sym c.as_slice.ensures.commands)
    c.as_slice.ensures.accepted.printable.each

pub returns-clause-reads_back : goal.returns-clause-reads_back
returns-clause-reads_back g c = file_back c.args.commands.now.commands c.as_slice.ensures.accepted
