use Rattle.desk_growths.proofs.releases.release_all.Given as goal

-- the history that was just opened
abbrev pub ghosts-release_opened : goal.ghosts-release_opened
ghosts-release_opened g a = record { book = a.blank }
