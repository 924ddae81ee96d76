use Rattle.std.specs.Arc.{arc_value}
use Rattle.desk_tests.proofs.desks.opened.Given as goal

-- the house of the desk that is opened here
abbrev pub ghosts-at_desk-J-House : goal.ghosts-at_desk-J-House
ghosts-at_desk-J-House g a = record {
  all = a.blank.ledger.parts;
  begun = (arc_value a.tables).commands;
  limits = a.limits;
}

abbrev pub ghosts-at_desk-J-Ledger : goal.ghosts-at_desk-J-Ledger
ghosts-at_desk-J-Ledger g a = record { name = a.blank.ledger.name; parts = a.blank.ledger.parts }

abbrev pub ghosts-at_desk-J-Imprint : goal.ghosts-at_desk-J-Imprint
ghosts-at_desk-J-Imprint g a = record { book = a.blank.publisher }
