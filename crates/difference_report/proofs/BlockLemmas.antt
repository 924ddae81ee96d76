-- The sets of one group, which stand together.
use Rattle.std.proofs.Common.{◌≡◌, ℕ, zero, suc, ◌+◌, ◌<◌, ◌≤◌, ◌&&◌, Bool, true, false, cond, List, [], ◌∷◌, length, take, fold, slice_get, refl, sym, ap, ◌∙◌, arith, true≢false}
use Rattle.std.specs.Prelude.{IfSome, Option, Some, None, bytes_eq, option_map}
use Rattle.std.specs.Map.{keys_of}
use Rattle.std.specs.Option.{option_eq}
use Rattle.std.proofs.lemmas.Bool.{and_parts}
use Rattle.std.proofs.lemmas.Option.{same_Some}
use Rattle.std.proofs.lemmas.Slice.Eq.{bytes_eq-Decides}
use Rattle.gk_commands.specs.declared.commands.Command.{Command}
use Rattle.plan_difference.specs.declared.number_sets.NumberSet.{NumberSet}
use Rattle.plan_difference.specs.declared.number_sets.Group.{Group}
use Rattle.plan_difference.specs.Difference.{StandsAt}
use Rattle.plan_difference.specs.Entries.{Entry, Entries, EntryAt, group_of}
use Rattle.plan_difference.specs.Order.{AreGrouped}
use Rattle.plan_difference.proofs.EntryLemmas.{same_texts}
use Rattle.difference_report.specs.Blocks.{BlockParts, IsBlock, IsFirst, IsOf, IsOther}
use Rattle.difference_report.specs.ReportText.{same_group, wider, width_of}
use Rattle.difference_report.specs.SetText.{set_text}
use Rattle.difference_report.specs.Shape.{greater}

-- ---- the test of two groups
groups_same : (group other : Group) → same_group group other ≡ true → group ≡ other
groups_same group other h =
    let d = and_parts (option_eq bytes_eq group.old other.old)
    (option_eq bytes_eq group.new other.new) h in
    let s = same_texts group.old other.old d.0 in
    let t = same_texts group.new other.new d.1 in
    λ i. record { old = s i; new = t i }

groups_differ : (group other : Group) → ¬ (group ≡ other) → same_group group other ≡ false
groups_differ group other differs = by (same_group group other) refl
  where
    by : (t : Bool) → same_group group other ≡ t → t ≡ false
    by true e = absurd (differs (groups_same group other e))
    by false e = refl

group_itself : (group : Group) → same_group group group ≡ true
group_itself group = (λ i. itself group.old i && itself group.new i)
  where
    itself : (text : Option (List ℕ)) → option_eq bytes_eq text text ≡ true
    itself None = refl
    itself (Some text) = (bytes_eq-Decides text text).1 refl

-- ---- places
key_at : (listed : Entries) (place : ℕ) (set : NumberSet) (digits : List ℕ)
    → EntryAt listed place set digits → StandsAt (keys_of listed) place set
key_at [] place set digits h = absurd (let bad : ⊥ = cc in bad)
key_at (entry ∷ listed) zero set digits h = ap (option_map (λ (e : Entry). e.0)) h
key_at (entry ∷ listed) (suc place) set digits h = key_at listed place set digits h

one_group : (listed : Entries) (place : ℕ) (group other : Group) → IsOf listed place group
    → IsOf listed place other → group ≡ other
one_group listed place group other a b =
    a.is
    ∙ ap (λ (e : Entry). group_of e.0)
    (same_Some (a.set, a.digits) (b.set, b.digits) (sym a.stands ∙ b.stands))
    ∙ sym b.is

some_there : {X : Type 0} (xs : List X) (place : ℕ) → place < length xs
    → slice_get xs place ≡ None → ⊥
some_there [] place low e = absurd (omega (arith, low))
some_there (x ∷ xs) zero low e = let bad : ⊥ = cc in bad
some_there (x ∷ xs) (suc place) low e = some_there xs place (omega (arith, low)) e

-- between two sets of a group stand sets of that group
between : (listed : Entries) (group other : Group) (first place last : ℕ)
    → AreGrouped (keys_of listed) → IsOf listed first group → IsOf listed place other
    → IsOf listed last group → first ≤ place → place ≤ last → other ≡ group
between listed group other first place last grouped a b c low high =
    b.is
    ∙ grouped.together first place last a.set b.set c.set
    (key_at listed first a.set a.digits a.stands) (key_at listed place b.set b.digits b.stands)
    (key_at listed last c.set c.digits c.stands) low high (sym a.is ∙ c.is)
    ∙ sym a.is

-- the set at a place after one of another group is the first of its own
pub is_first : (old new : List Command) (listed : Entries) (place : ℕ)
    (before : Option BlockParts) (group : Group) → AreGrouped (keys_of listed)
    → IsBlock old new listed place before → IsOther before group → IsOf listed place group
    → IsFirst listed place group
is_first old new listed place None group grouped none other here = record {
  here = here;
  before = λ earlier entry low stands. absurd (omega (arith, low, none));
}
is_first old new listed place (Some block) group grouped is other here = record {
  here = here;
  before = λ earlier entry low stands same.
      let last = is.follows in
      other (between listed group block.group earlier is.last place grouped
      (record { set = entry.0; digits = entry.1; stands = stands; is = sym same }) is.grouped here
      (omega (arith, low, last)) (omega (arith, last)));
}

-- the block of the set at a place
pub is_block : (old new : List Command) (listed : Entries) (place : ℕ) (block : BlockParts)
    (set : NumberSet) (digits : List ℕ) → EntryAt listed place set digits
    → block.group ≡ group_of set → block.width ≡ width_of old new listed (group_of set)
    → IsBlock old new listed (place + 1) (Some block)
is_block old new listed place block set digits stands group width = record {
  last = place;
  follows = omega arith;
  grouped = record { set = set; digits = digits; stands = stands; is = group };
  width = width ∙ ap (width_of old new listed) (sym group);
}

-- ---- widths
module _ (old new : List Command) (group : Group) where
  -- sets of other groups change nothing
  passed : (width : ℕ) (entry : Entry) → ¬ (group_of entry.0 ≡ group)
      → wider old new group width entry ≡ width
  passed width entry differs =
      ap (λ t. cond t (greater width (length (set_text old new entry))) width)
      (groups_differ (group_of entry.0) group differs)

  none_before : (listed : Entries) (place width : ℕ)
      → ((earlier : ℕ) (entry : Entry) → earlier < place
      → slice_get listed earlier ≡ Some entry → ¬ (group_of entry.0 ≡ group))
      → fold (wider old new group) width (take place listed) ≡ width
  none_before [] zero width h = refl
  none_before [] (suc place) width h = refl
  none_before (entry ∷ listed) zero width h = refl
  none_before (entry ∷ listed) (suc place) width h =
      ap (λ w. fold (wider old new group) w (take place listed))
      (passed width entry (h 0 entry (omega arith) refl))
      ∙ none_before listed place width (λ earlier other low stands.
      h (suc earlier) other (omega (arith, low)) stands)

  none_after : (listed : Entries) (place width : ℕ)
      → ((later : ℕ) (entry : Entry) → place ≤ later
      → slice_get listed later ≡ Some entry → ¬ (group_of entry.0 ≡ group))
      → fold (wider old new group) width listed
      ≡ fold (wider old new group) width (take place listed)
  none_after [] zero width h = refl
  none_after [] (suc place) width h = refl
  none_after (entry ∷ listed) zero width h =
      ap (λ w. fold (wider old new group) w listed)
      (passed width entry (h 0 entry (omega arith) refl))
      ∙ none_after listed zero width (λ later other low stands.
      h (suc later) other (omega (arith, low)) stands)
      ∙ nothing listed
    where
      nothing : (xs : Entries) → fold (wider old new group) width (take zero xs) ≡ width
      nothing [] = refl
      nothing (x ∷ xs) = refl
  none_after (entry ∷ listed) (suc place) width h =
      none_after listed place (wider old new group width entry) (λ later other low stands.
      h (suc later) other (omega (arith, low)) stands)

  -- before the first set of the group there is none
  pub starts : (listed : Entries) (place : ℕ) → IsFirst listed place group
      → 0 ≡ fold (wider old new group) 0 (take place listed)
  starts listed place first = sym (none_before listed place 0 first.before)

  -- a set of it
  pub goes_on : (o : Option Entry) (is : Bool) (width wide : ℕ)
      → IfSome o (λ entry. is ≡ same_group (group_of entry.0) group) → is ≡ true
      → IfSome o (λ entry. wide ≡ greater width (length (set_text old new entry)))
      → IfSome o (λ entry. wide ≡ wider old new group width entry)
  goes_on None is width wide g e h = tt
  goes_on (Some entry) is width wide g e h =
      h ∙ ap (λ t. cond t (greater width (length (set_text old new entry))) width) (sym e ∙ g)

  -- after a set of another group there is none
  pub ends : (listed : Entries) (first place : ℕ) (is : Bool) → AreGrouped (keys_of listed)
      → IsFirst listed first group → first ≤ place → place < length listed
      → IfSome (slice_get listed place) (λ entry. is ≡ same_group (group_of entry.0) group)
      → is ≡ false
      → fold (wider old new group) 0 (take place listed) ≡ width_of old new listed group
  ends listed first place is grouped begins low within g e =
      by (slice_get listed place) refl g
    where
      by : (o : Option Entry) → slice_get listed place ≡ o
          → IfSome o (λ entry. is ≡ same_group (group_of entry.0) group)
          → fold (wider old new group) 0 (take place listed) ≡ width_of old new listed group
      by None f h = absurd (some_there listed place within f)
      by (Some there) f h =
          sym (none_after listed place 0 (λ later entry high stands same.
          true≢false (sym (group_itself group)
          ∙ ap (λ other. same_group other group)
          (sym (between listed group (group_of there.0) first place later grouped begins.here
          (record { set = there.0; digits = there.1; stands = f; is = refl })
          (record { set = entry.0; digits = entry.1; stands = stands; is = sym same })
          low high)) ∙ sym h ∙ e)))
