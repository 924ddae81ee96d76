use Rattle.field_bytes.proofs.FieldLaws as laws
use Rattle.field_bytes.proofs.laws.fields_read_back.Goals as goal

pub returns-clause-numbers : goal.returns-clause-numbers
returns-clause-numbers c = laws.number_back

pub returns-clause-names : goal.returns-clause-names
returns-clause-names c = laws.name_back

pub returns-clause-dialled : goal.returns-clause-dialled
returns-clause-dialled c = laws.dialled_back

pub returns-clause-addresses : goal.returns-clause-addresses
returns-clause-addresses c = laws.address_back
