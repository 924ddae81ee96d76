-- How numbers grow while texts are gone through.
use Rattle.std.specs.Prelude.{◌≡◌, ℕ, zero, suc, ◌+◌, ◌-◌, ◌*◌, ◌^◌, ◌<◌, Bool, true, false, cond, List, [], ◌∷◌, ◌++◌, length, drop, get_or, slice_index, Option, None, option_map, position}
use Rattle.std.specs.List.{sum_by}
use Rattle.gk_commands.specs.declared.commands.Command.{Command}
use Rattle.compiler.specs.Rows.{row_for}
use Rattle.plan_difference.specs.declared.number_sets.NumberSet.{NumberSet}
use Rattle.plan_difference.specs.Entries.{same_set}
use Rattle.plan_difference.specs.Sets.{set_of}
use Rattle.plan_difference.specs.Walk.{starred}
use Rattle.difference_counts.specs.Numbers.{CHARACTERS, character_at, one_if, sum_to, up_to}
use Rattle.difference_counts.specs.Places.{is_just}

-- each number has grown by so much
abbrev pub GrewBy : List ℕ → List ℕ → (ℕ → ℕ) → Type 0
GrewBy before after more =
    (place : ℕ) → place < length before
    → slice_index after place ≡ slice_index before place + more place

-- the place of the set of a text among these
unfoldable pub place_of : (old new : List Command) → List NumberSet → List ℕ → Option ℕ
place_of old new sets text = position (same_set (set_of old new text)) sets

-- ---- after a technology prefix that both configurations take off, or after none
-- the set of digits that have this after it
abbrev pub joint_of : (old new : List Command) → List ℕ → NumberSet
joint_of old new rest = record {
  old_technology = None;
  new_technology = None;
  old_row = option_map (λ row. row.0) (row_for old rest);
  new_row = option_map (λ row. row.0) (row_for new rest);
}

-- its place among these
unfoldable pub rest_place : (old new : List Command) → List NumberSet → List ℕ → Option ℕ
rest_place old new sets rest = position (same_set (joint_of old new rest)) sets

-- the place for what follows such a prefix, or for whole digits
abbrev pub place_by : (old new : List Command) → List NumberSet → Bool → List ℕ → Option ℕ
place_by old new sets true text = rest_place old new sets text
place_by old new sets false text = place_of old new sets text

-- ---- how many texts there are
-- how many texts of less than so many characters there are of the lengths that pass
unfoldable pub shorter : ℕ → (ℕ → Bool) → ℕ
shorter zero passes = 0
shorter (suc count) passes = shorter count passes + 12 ^ count * one_if (passes count)

-- how many there are at all
unfoldable pub all_shorter : ℕ → ℕ
all_shorter count = shorter count (λ length. true)

-- how many texts have their set at a place, of those that go on from the front with at most so
-- many characters, if the sets of texts have these places
unfoldable pub below : (List ℕ → Option ℕ) → List ℕ → ℕ → ℕ → ℕ
below place_of front most place = up_to most (λ rest. is_just place (place_of (front ++ rest)))

-- the same of those that go on with a character after which only their length matters
unfoldable pub alike_below : (List ℕ → Option ℕ) → List ℕ → ℕ → ℕ → ℕ
alike_below place_of front most place =
    shorter most (λ count. is_just place (place_of (starred front (suc count))))

-- the same of those that go on from a first character, of 1 to 32 characters in all
unfoldable pub first_below : (List ℕ → Option ℕ) → ℕ → ℕ
first_below place_of place = sum_by (λ first. below place_of (first ∷ []) 31 place) CHARACTERS

-- the sum over the characters of which it is so
unfoldable pub over_ends : List Bool → (ℕ → ℕ) → ℕ
over_ends ends f = sum_to 12 (λ number. cond (get_or ends number false) (f number) 0)

-- of the texts that go on from the front with a character with which nothing goes on: by what is
-- after the technology prefix, which has so many characters, if both configurations take it off;
-- by their length, if not
abbrev pub left_at : (old new : List Command) → List NumberSet → Bool → ℕ → List ℕ → ℕ → ℕ → ℕ
    → ℕ
left_at old new sets true taken front most number place =
    below (rest_place old new sets) (drop taken front ++ character_at number ∷ []) (most - 1) place
left_at old new sets false taken front most number place =
    alike_below (place_of old new sets) front most place
