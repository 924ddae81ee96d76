-- The pattern of a set.
use Rattle.std.specs.Prelude.{ℕ, ◌-◌, ◌&&◌, true, nat_lt, List, ◌++◌, length, Option, Some, None, if◌then◌else◌}
use Rattle.digit_patterns.specs.PatternParts.{PatternParts, least_count}
use Rattle.plan_difference.specs.declared.number_sets.NumberSet.{NumberSet}
use Rattle.plan_difference.specs.Walk.{text_of}

-- a zone prefix as a pattern of all the digits: after the technology prefix that is taken off
-- before it is looked for; all digits with that prefix if there is no zone prefix
abbrev pub whole : Option (List ℕ) → Option PatternParts → PatternParts
whole technology None = record { literals = text_of technology; dots = 0; star = true }
whole technology (Some pattern) = record {
  literals = text_of technology ++ pattern.literals;
  dots = pattern.dots;
  star = pattern.star;
}

-- the longer of two texts, the first if they are as long
abbrev pub longer : List ℕ → List ℕ → List ℕ
longer text other = if nat_lt (length text) (length other) then other else text

-- the greater of two numbers
abbrev pub greater : ℕ → ℕ → ℕ
greater number other = if nat_lt number other then other else number

-- what two patterns match that match a common text: the longer literals, and as many characters as
-- both need; further ones only if both have a star
abbrev pub met : PatternParts → PatternParts → PatternParts
met pattern other = record {
  literals = longer pattern.literals other.literals;
  dots = greater (least_count pattern) (least_count other)
      - length (longer pattern.literals other.literals);
  star = pattern.star && other.star;
}

-- the pattern of a set: of what follows the technology prefix in the joint group, and else of all
-- the digits
abbrev pub shape_of : NumberSet → PatternParts
shape_of set =
    met (whole set.old_technology set.old_row) (whole set.new_technology set.new_row)
