-- The sets that are found are those of all dialled digits.
use Rattle.std.proofs.Common.{◌≡◌, ℕ, zero, suc, List, [], ◌∷◌, slice_get, refl, sym, ap, subst, ◌∙◌}
use Rattle.std.specs.Prelude.{Option, Some, None, unwrap_or}
use Rattle.std.specs.List.{filter}
use Rattle.std.specs.Map.{keys_of}
use Rattle.gk_terms.specs.Dialled.{IsDialled}
use Rattle.digit_patterns.specs.PatternParts.{PatternParts}
use Rattle.gk_commands.specs.declared.commands.Command.{Command}
use Rattle.plan_difference.specs.declared.number_sets.NumberSet.{NumberSet}
use Rattle.plan_difference.specs.Blocked.{AreJoint}
use Rattle.plan_difference.specs.Difference.{AreClasses, IsCovered, StandsAt}
use Rattle.plan_difference.specs.Entries.{Entry, Entries, EntryAt, AreOnce, HaveDigits, Grows, IsEntered}
use Rattle.plan_difference.specs.Gathered.{AreGathered, IsSettled, Has, HasPrefixes, HasPatterns, AreLiteral, AreClean, joint, is_joint_head}
use Rattle.plan_difference.specs.Sets.{set_of}
use Rattle.plan_difference.specs.Walk.{Heads, SettlesStem, SettlesPatterns, SettlesHead}
use Rattle.plan_difference.proofs.Completeness.{in_entries}
use Rattle.plan_difference.proofs.JointHeads.{are_joint_heads}
use Rattle.plan_difference.proofs.WalkLemmas.{stem_on, patterns_on}

-- ---- entries and their sets
pub set_stands : (entries : Entries) (place : ℕ) (set : NumberSet) (digits : List ℕ)
    → EntryAt entries place set digits → StandsAt (keys_of entries) place set
set_stands [] place set digits e = absurd (let bad : ⊥ = cc in bad)
set_stands (entry ∷ entries) zero set digits e =
    ap (λ o. Some (unwrap_or o entry).0) e
set_stands (entry ∷ entries) (suc place) set digits e = set_stands entries place set digits e

pub record Sampled (entries : Entries) (place : ℕ) (set : NumberSet) : Type 0 where
  pub digits : List ℕ
  pub stands : EntryAt entries place set digits

pub entry_stands : (entries : Entries) (place : ℕ) (set : NumberSet)
    → StandsAt (keys_of entries) place set → Sampled entries place set
entry_stands [] place set e = absurd (let bad : ⊥ = cc in bad)
entry_stands (entry ∷ entries) zero set e =
    let same : entry.0 ≡ set = ap (λ o. unwrap_or o set) e in
    record { digits = entry.1; stands = ap (λ s. some_entry (entry_of s)) same }
  where
    some_entry : Entry → Option Entry
    some_entry one = Some one

    entry_of : NumberSet → Entry
    entry_of s = (s, entry.1)
entry_stands (entry ∷ entries) (suc place) set e =
    let there = entry_stands entries place set e in
    record { digits = there.digits; stands = there.stands }

-- ---- the theorem
module _ (old new : List Command) (heads : Heads) (patterns : List PatternParts)
    (entries : Entries) (once : AreOnce entries) (have : HaveDigits old new entries)
    (gathered : AreGathered old new heads patterns) (joint_heads : Heads)
    (kept : joint_heads ≡ filter (is_joint_head old new) heads)
    (settled : IsSettled old new entries heads joint_heads patterns) where
  covered : (digits : List ℕ) → IsDialled digits → IsEntered old new entries digits
      → IsCovered old new (keys_of entries) digits
  covered digits dialled there = record {
    place = there.place;
    set = set_of old new digits;
    stands = set_stands entries there.place (set_of old new digits) there.digits there.stands;
    covers = (dialled, refl);
  }

  pub are_classes : AreClasses old new (keys_of entries)
  are_classes = record {
    complete = λ digits dialled. covered digits dialled
        (in_entries old new heads patterns gathered entries joint_heads kept settled digits
        dialled);
    once = λ place other set other_set digits stands other_stands covers other_covers.
        let there = entry_stands entries place set stands in
        let other_there = entry_stands entries other other_set other_stands in
        let equal : other_set ≡ set = sym other_covers.1 ∙ covers.1 in
        once place other set there.digits other_there.digits there.stands
        (subst (λ s. EntryAt entries other s other_there.digits) equal other_there.stands);
    witness = λ place set stands.
        let there = entry_stands entries place set stands in
        record {
          digits = there.digits;
          covers = have place set there.digits there.stands;
        };
  }

-- no set at first
pub none_there : (old new : List Command) → HaveDigits old new []
none_there old new place set digits e = absurd (let bad : ⊥ = cc in bad)

-- the joint group first, and then the others
pub settled_after : (old new : List Command) (heads joint_heads : Heads)
    (patterns : List PatternParts) (between after : Entries) → Grows old new between after
    → SettlesStem old new between joint_heads joint []
    → SettlesPatterns old new between joint_heads joint [] patterns
    → ((place : ℕ) (head : Option (List ℕ)) → slice_get heads place ≡ Some head
    → SettlesHead old new after patterns head)
    → IsSettled old new after heads joint_heads patterns
settled_after old new heads joint_heads patterns between after grows alone by_patterns
    each = record {
      alone = stem_on old new between after grows joint_heads joint [] alone;
      joint_patterns =
          patterns_on old new between after grows joint_heads joint [] patterns by_patterns;
      each_head = each;
    }

-- what the parts of the whole say
module _ (old new : List Command) (heads : Heads) (patterns : List PatternParts)
    (first between after : Entries) (start : first ≡ [])
    (one : Grows old new first between) (two : Grows old new between after) where
  pub all_have_digits : HaveDigits old new after
  all_have_digits =
      two.covered (one.covered (subst (HaveDigits old new) (sym start) (none_there old new)))

  pub whole : AreOnce after → AreGathered old new heads patterns → (joint_heads : Heads)
      → joint_heads ≡ filter (is_joint_head old new) heads
      → SettlesStem old new between joint_heads joint []
      → SettlesPatterns old new between joint_heads joint [] patterns
      → ((place : ℕ) (head : Option (List ℕ)) → slice_get heads place ≡ Some head
      → SettlesHead old new after patterns head)
      → AreClasses old new (keys_of after)
  whole once gathered joint_heads kept alone by_patterns each =
      are_classes old new heads patterns after once all_have_digits gathered joint_heads kept
      (settled_after old new heads joint_heads patterns between after two alone by_patterns each)

  -- the same of lists that are lent as slices
  pub whole_by : AreOnce after → Has heads None → HasPrefixes heads old → HasPrefixes heads new
      → HasPatterns patterns old → HasPatterns patterns new
      → (kept lent joint_heads own_heads : Heads) (joint_patterns own_patterns : List PatternParts)
      → kept ≡ filter (is_joint_head old new) lent → lent ≡ heads
      → joint_heads ≡ kept → joint_patterns ≡ patterns → own_heads ≡ heads
      → own_patterns ≡ patterns
      → SettlesStem old new between joint_heads joint []
      → (AreJoint old new joint_heads
      → SettlesPatterns old new between joint_heads joint [] joint_patterns)
      → AreLiteral joint_patterns
      → ((place : ℕ) (head : Option (List ℕ)) → slice_get own_heads place ≡ Some head
      → SettlesHead old new after own_patterns head)
      → AreClean own_heads → AreClasses old new (keys_of after)
  whole_by once none p q r s kept lent hs ks ps qs k l e f g h alone by_patterns literal each
      clean =
      whole once (record {
        none = none;
        old_prefixes = p;
        new_prefixes = q;
        old_patterns = r;
        new_patterns = s;
        literal = subst AreLiteral f literal;
        clean = subst AreClean g clean;
      }) kept (k ∙ ap (filter (is_joint_head old new)) l)
      (subst (λ l. SettlesStem old new between l joint []) e alone)
      (subst (λ l. SettlesPatterns old new between l joint [] patterns) e
      (subst (SettlesPatterns old new between hs joint []) f
      (by_patterns (subst (AreJoint old new) (sym e)
      (are_joint_heads old new heads kept p q (subst AreClean g clean)
      (k ∙ ap (filter (is_joint_head old new)) l))))))
      (subst (λ l. (place : ℕ) (head : Option (List ℕ)) → slice_get l place ≡ Some head
      → SettlesHead old new after patterns head) g
      (subst (λ l. (place : ℕ) (head : Option (List ℕ)) → slice_get ks place ≡ Some head
      → SettlesHead old new after l head) h each))
