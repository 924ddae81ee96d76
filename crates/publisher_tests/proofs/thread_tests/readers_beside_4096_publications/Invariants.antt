use Rattle.publisher_tests.proofs.thread_tests.readers_beside_4096_publications.Given as goal

-- the history that was just opened
abbrev pub ghosts-read_beside : goal.ghosts-read_beside
ghosts-read_beside g a = record { book = a.blank }
