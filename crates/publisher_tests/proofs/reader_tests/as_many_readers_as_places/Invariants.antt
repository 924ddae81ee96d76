use Rattle.publisher_tests.proofs.reader_tests.as_many_readers_as_places.Given as goal

-- the history that was just opened
abbrev pub ghosts-made_twice : goal.ghosts-made_twice
ghosts-made_twice g a = record { book = a.blank }
