-- How many numbers a set has, in words.
use Rattle.std.specs.Prelude.{ℕ, ◌+◌, ◌-◌, ◌*◌, ◌/◌, ◌%◌, ◌==◌, ◌&&◌, not, nat_le, nat_lt, List, [], ◌∷◌, ◌++◌, length, codes, decimal, if◌then◌else◌}

-- digits with a comma before each three, counted from the end
abbrev pub commaed : List ℕ → List ℕ
commaed [] = []
commaed (digit ∷ digits) =
    if not (length digits == 0) && (length digits % 3 == 0) then digit ∷ 44 ∷ commaed digits
    else digit ∷ commaed digits

-- the number of which these are the first three decimal digits, in two, rounded to the nearest, half
-- up: from 10 to 100
abbrev pub rounded : ℕ → ℕ → ℕ → ℕ
rounded first second third =
    (first - 48) * 10 + (second - 48) + (if nat_le 53 third then 1 else 0)

-- two digits and the power of ten of the first
abbrev pub scientific : ℕ → ℕ → List ℕ
scientific digits power =
    if digits == 100 then codes "1.0e" ++ decimal (power + 1)
    else (decimal (digits / 10) ++ codes "." ++ decimal (digits % 10) ++ codes "e"
    ++ decimal power)

-- a number with three decimal digits and more in two
abbrev pub about : List ℕ → List ℕ
about (first ∷ second ∷ third ∷ digits) =
    codes "about " ++ scientific (rounded first second third) (length digits + 2)
about digits = commaed digits

-- a number by its decimal digits: exactly below 10^12
abbrev pub count_by : List ℕ → List ℕ
count_by digits = if nat_lt 12 (length digits) then about digits else commaed digits

abbrev pub count_words : ℕ → List ℕ
count_words count = count_by (decimal count)

-- exactly, with what is counted
abbrev pub numbers_words : ℕ → List ℕ
numbers_words count =
    commaed (decimal count) ++ (if count == 1 then codes " number" else codes " numbers")
