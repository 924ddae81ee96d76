-- A record never passes the limits.
use Rattle.admission.proofs.HistoryLaws.{records_are_sound}
use Rattle.admission.proofs.laws.records_are_sound.Goals as goal

pub returns : goal.returns
returns c = records_are_sound
