-- How many texts there are.
use Rattle.std.specs.Prelude.{◌≡◌, true}
use Rattle.difference_counts.specs.Numbers.{how_many}

-- all texts of 1 to 32 characters are so many: twelve and its powers up to the 32nd
abbrev pub ThereAreSoMany : Type 0
ThereAreSoMany = how_many (λ text. true) ≡ 37289660931454747757856918508500060
