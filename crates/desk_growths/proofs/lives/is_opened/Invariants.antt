use Rattle.desk_growths.proofs.lives.is_opened.Given as goal

-- the history that was just opened
abbrev pub ghosts-is_opened_as : goal.ghosts-is_opened_as
ghosts-is_opened_as g a = record { book = a.blank }
