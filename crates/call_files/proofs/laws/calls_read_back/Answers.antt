use Rattle.call_files.proofs.read_back.Rows.{calls_back}
use Rattle.call_files.proofs.laws.calls_read_back.Goals as goal

pub returns : goal.returns
returns c = calls_back
