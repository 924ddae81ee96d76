use Rattle.publisher_tests.proofs.tests.what_was_told_is_read_and_what_is_held_stays.Given as goal

-- the history that was just opened
abbrev pub ghosts-read_when_told : goal.ghosts-read_when_told
ghosts-read_when_told g a = record { book = a.blank }
