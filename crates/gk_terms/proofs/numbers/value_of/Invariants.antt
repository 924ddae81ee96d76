use Rattle.std.proofs.Common.{◌≡◌, ◌<◌, ◌^◌, true, take}
use Rattle.std.specs.Char.{is_ascii_digit}
use Rattle.std.specs.List.{list_all}
use Rattle.gk_terms.specs.Number.{value_of}
use Rattle.gk_terms.proofs.numbers.value_of.Given as goal

abbrev pub invariant-loop-digit : goal.invariant-loop-digit
invariant-loop-digit l =
    (list_all is_ascii_digit (take l.digit-index l.text) ≡ true)
    × (l.value ≡ value_of (take l.digit-index l.text)) × (l.value < 2 ^ 32)
