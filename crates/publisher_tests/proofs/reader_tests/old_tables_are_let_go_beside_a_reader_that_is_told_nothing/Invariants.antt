use Rattle.publisher_tests.proofs.reader_tests.old_tables_are_let_go_beside_a_reader_that_is_told_nothing.Given as goal

-- the history that was just opened
abbrev pub ghosts-read_untold : goal.ghosts-read_untold
ghosts-read_untold g a = record { book = a.blank }
