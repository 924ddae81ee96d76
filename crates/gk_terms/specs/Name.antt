-- Names of zones, of endpoints and of domains.
use Rattle.std.specs.Prelude.{ℕ, Bool, ◌&&◌, IsTrue, nat_le, List, length, Option}
use Rattle.std.specs.List.{list_all}
use Rattle.std.specs.Bool.{then_some}
use Rattle.gk_terms.specs.declared.limits.TheConstants.{MOST_NAME_BYTES}
use Rattle.gk_terms.specs.Spelling.{is_visible}

-- 1 to 128 visible bytes
abbrev pub is_name : List ℕ → Bool
is_name text =
    nat_le 1 (length text) && nat_le (length text) MOST_NAME_BYTES
    && list_all is_visible text

abbrev pub IsName : List ℕ → Type 0
IsName text = IsTrue (is_name text)

-- the name that a text spells
abbrev pub name_of : List ℕ → Option (List ℕ)
name_of text = then_some (is_name text) text
