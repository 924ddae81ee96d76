use Rattle.std.proofs.lemmas.List.{take-replicate}
use Rattle.command_reader.proofs.canonical_lines.dots.Goals as goal

pub returns : goal.returns
returns c = take-replicate c.args.count 32 46 c.requires
