use Rattle.std.specs.Prelude.{is_some}
use Rattle.std.specs.Option.{option_copied}
use Rattle.explanation.specs.Steps.{endpoints_known}
use Rattle.explanation.proofs.WritingLemmas.{told}
use Rattle.explanation.proofs.writing.explained.Goals as goal

pub returns : goal.returns
returns c =
    told c.args.tables.now.commands (endpoints_known (option_copied c.args.endpoints))
    (is_some c.args.endpoints) c.args.caller.now c.args.digits.now c.text.result
    c.in_ok-explanation.explanation c.in_ok-explanation.ensures c.text.ensures
