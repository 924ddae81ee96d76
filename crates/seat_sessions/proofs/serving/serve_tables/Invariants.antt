use Rattle.std.specs.Arc.{arc_value}
use Rattle.seat_sessions.proofs.serving.serve_tables.Given as goal

-- the house of the desk that is opened here
abbrev pub ghosts-serve-J-House : goal.ghosts-serve-J-House
ghosts-serve-J-House g a = record {
  all = a.blank.ledger.parts;
  begun = (arc_value a.tables).commands;
  limits = a.limits;
}

abbrev pub ghosts-serve-J-Ledger : goal.ghosts-serve-J-Ledger
ghosts-serve-J-Ledger g a = record { name = a.blank.ledger.name; parts = a.blank.ledger.parts }

abbrev pub ghosts-serve-J-Imprint : goal.ghosts-serve-J-Imprint
ghosts-serve-J-Imprint g a = record { book = a.blank.publisher }
