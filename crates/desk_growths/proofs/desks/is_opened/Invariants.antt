use Rattle.std.specs.Arc.{arc_value}
use Rattle.desk_growths.proofs.desks.is_opened.Given as goal

-- the house of the desk that is opened here
abbrev pub ghosts-is_opened_as-J-House : goal.ghosts-is_opened_as-J-House
ghosts-is_opened_as-J-House g a = record {
  all = a.blank.ledger.parts;
  begun = (arc_value a.tables).commands;
  limits = a.limits;
}

abbrev pub ghosts-is_opened_as-J-Ledger : goal.ghosts-is_opened_as-J-Ledger
ghosts-is_opened_as-J-Ledger g a = record {
  name = a.blank.ledger.name;
  parts = a.blank.ledger.parts;
}

abbrev pub ghosts-is_opened_as-J-Imprint : goal.ghosts-is_opened_as-J-Imprint
ghosts-is_opened_as-J-Imprint g a = record { book = a.blank.publisher }
