use Rattle.entry_bytes.proofs.AgreeLaws.{ruling_agrees}
use Rattle.entry_bytes.proofs.EntryLaws.{entry_by_back}
use Rattle.entry_bytes.proofs.laws.entries_read_back.Goals as goal

pub returns-clause-entries : goal.returns-clause-entries
returns-clause-entries c = entry_by_back

pub returns-clause-rulings : goal.returns-clause-rulings
returns-clause-rulings c = ruling_agrees
