-- What is known of accepted commands: the names of their zones differ, each zone that one names is
-- declared by one, and one is local.
use Rattle.std.proofs.Common.{◌≡◌, ℕ, ◌+◌, ◌≤◌, Bool, true, false, cond, not, ◌||◌, List, [], ◌∷◌, ◌++◌, length, map, append-nil, Option, Some, None, Result, Ok, Err, All, bytes_eq, is_some, refl, sym, ap, subst, ◌∙◌, arith}
use Rattle.std.specs.Prelude.{nat_le, option_and_then}
use Rattle.std.specs.List.{IsDistinct, list_any, cons_option}
use Rattle.std.specs.Map.{keys_of}
use Rattle.std.proofs.lemmas.Bool.{or_parts, not-false, leb-false}
use Rattle.std.proofs.lemmas.Cmp.{nat_list_eq_equiv}
use Rattle.std.proofs.lemmas.List.{map-append, length_push}
use Rattle.std.proofs.lemmas.List.Elements.{All-nil, All-cons, All-weaker, filter_map-append}
use Rattle.std.proofs.lemmas.Map.Keys.{IsDistinct-push}
use Rattle.gk_terms.specs.declared.limits.TheConstants.{MOST_LINES, MOST_ZONES}
use Rattle.gk_commands.specs.declared.faults.FaultKind.{FaultKind}
use Rattle.gk_commands.specs.declared.faults.FaultKind.TheVariants.{TooMany}
use Rattle.gk_commands.specs.declared.commands.Command.{Command}
use Rattle.gk_commands.specs.declared.zones.ZoneKind.{ZoneKind}
use Rattle.gk_commands.specs.Line.{command_of}
use Rattle.gk_commands.specs.Progress.{NumberedCommand, Progress, line_count, commands_in}
use Rattle.gk_commands.specs.Zones.{declared_by, zones_of, is_declared, named_by, first_local_of}
use Rattle.gk_commands.specs.Reading.{fault_of_name, zone_fault, command_fault, with_command, with_passed, unless_fault, said_after, line_after, line_then, lines_after, nothing_read, names_unknown}
use Rattle.gk_commands.specs.Accepted.{canonical_line, IsAccepted}

-- ---- the zones that are declared
-- their names differ, and no more are declared than may be
record AreApart (commands : List Command) : Type 0 where
  distinct : IsDistinct bytes_eq (keys_of (zones_of commands))
  few : length (zones_of commands) ≤ MOST_ZONES

none_apart : AreApart []
unfolding IsDistinct
none_apart = record { distinct = tt; few = omega arith }

-- a name is among those of the zones if it is declared
pub named_among : (name : List ℕ) (zones : List (List ℕ × ZoneKind))
    → list_any (bytes_eq name) (keys_of zones) ≡ list_any (λ zone. bytes_eq name zone.0) zones
named_among name [] = refl
named_among name (zone ∷ zones) =
    ap (λ found. bytes_eq name zone.0 || found) (named_among name zones)

-- what is known of a name without a fault
record IsFree (declared : Bool) (count : ℕ) : Type 0 where
  new : declared ≡ false
  room : count + 1 ≤ MOST_ZONES

name_free : (declared : Bool) (count : ℕ) → fault_of_name declared count ≡ None
    → IsFree declared count
name_free true count h = absurd (let no : ⊥ = cc in no)
name_free false count h = by (nat_le MOST_ZONES count) refl h
  where
    by : (b : Bool) → nat_le MOST_ZONES count ≡ b → cond b (Some TooMany) None ≡ None
        → IsFree false count
    by true e f = absurd (let no : ⊥ = cc in no)
    by false e f = record { new = refl; room = omega (arith, leb-false MOST_ZONES count e) }

-- the zones with those of one more command
zones_more : (lines : List Command) (command : Command) (o : Option (List ℕ × ZoneKind))
    → declared_by command ≡ o
    → zones_of (lines ++ command ∷ []) ≡ zones_of lines ++ cons_option o []
zones_more lines command o e =
    filter_map-append declared_by lines (command ∷ [])
    ∙ ap (λ added. zones_of lines ++ cons_option added []) e

-- one more command without a fault of its zone
one_more_apart : (lines : List Command) (command : Command) → AreApart lines
    → command_fault lines command ≡ None → AreApart (lines ++ command ∷ [])
one_more_apart lines command a free = by (declared_by command) refl free
  where
    by : (o : Option (List ℕ × ZoneKind)) → declared_by command ≡ o
        → option_and_then (λ zone. zone_fault lines zone.0) o ≡ None
        → AreApart (lines ++ command ∷ [])
    by None e f =
        let same : zones_of (lines ++ command ∷ []) ≡ zones_of lines =
        zones_more lines command None e ∙ append-nil (zones_of lines) in
        record {
          distinct = subst (λ zones. IsDistinct bytes_eq (keys_of zones)) (sym same) a.distinct;
          few = subst (λ zones. length zones ≤ MOST_ZONES) (sym same) a.few;
        }
    by (Some zone) e f =
        let is = name_free (is_declared lines zone.0) (length (zones_of lines)) f in
        let zones : List (List ℕ × ZoneKind) = zones_of lines in
        let same : zones_of (lines ++ command ∷ []) ≡ zones ++ zone ∷ [] =
        zones_more lines command (Some zone) e in
        let names : keys_of (zones_of (lines ++ command ∷ [])) ≡ keys_of zones ++ zone.0 ∷ [] =
        ap keys_of same ∙ map-append (λ z. z.0) zones (zone ∷ []) in
        let new : list_any (bytes_eq zone.0) (keys_of zones) ≡ false =
        named_among zone.0 zones ∙ is.new in
        record {
          distinct = subst (IsDistinct bytes_eq) (sym names)
              (IsDistinct-push nat_list_eq_equiv (keys_of zones) zone.0 a.distinct new);
          few = omega (arith, ap length same, length_push zones zone, is.room);
        }

-- ---- lines one after another
said_apart : (before read : Progress) (said : Result (Option Command) FaultKind)
    → AreApart (commands_in before) → said_after before said ≡ Ok read → AreApart (commands_in read)
said_apart before read (Err kind) a h = absurd (let no : ⊥ = cc in no)
said_apart before read (Ok None) a h =
    let same : with_passed before ≡ read = cc in
    subst (λ r. AreApart (commands_in r)) same a
said_apart before read (Ok (Some command)) a h =
    by (command_fault (commands_in before) command) refl h
  where
    by : (o : Option FaultKind) → command_fault (commands_in before) command ≡ o
        → unless_fault o (with_command before command) ≡ Ok read → AreApart (commands_in read)
    by (Some kind) e f = absurd (let no : ⊥ = cc in no)
    by None e f =
        let same : with_command before command ≡ read = cc in
        let added : NumberedCommand =
        record { line = line_count before + 1; command = command } in
        let more : commands_in (with_command before command) ≡ commands_in before ++ command ∷ [] =
        map-append (λ n. n.command) before.kept (added ∷ []) in
        subst AreApart (sym more ∙ ap commands_in same)
        (one_more_apart (commands_in before) command a e)

line_apart : (before read : Progress) (line : List ℕ)
    → AreApart (commands_in before) → line_after before line ≡ Ok read → AreApart (commands_in read)
unfolding line_after
line_apart before read line a h = by (nat_le MOST_LINES (line_count before)) h
  where
    by : (b : Bool) → cond b (Err TooMany) (said_after before (command_of line)) ≡ Ok read
        → AreApart (commands_in read)
    by true f = absurd (let no : ⊥ = cc in no)
    by false f = said_apart before read (command_of line) a f

lines_apart : (lines : List (List ℕ)) (before read : Progress)
    → AreApart (commands_in before) → lines_after before lines ≡ Ok read
    → AreApart (commands_in read)
lines_apart [] before read a h =
    let same : before ≡ read = cc in
    subst (λ r. AreApart (commands_in r)) same a
lines_apart (line ∷ lines) before read a h =
    by (λ next b f. lines_apart lines next read b f) (line_after before line) refl h
  where
    by : ((next : Progress) → AreApart (commands_in next) → lines_after next lines ≡ Ok read
        → AreApart (commands_in read)) → (o : Result Progress FaultKind)
        → line_after before line ≡ o
        → line_then (line_count before + 1) (λ next. lines_after next lines) o ≡ Ok read
        → AreApart (commands_in read)
    by rest (Ok next) e f = rest next (line_apart before next line a e) f
    by rest (Err kind) e f = absurd (let no : ⊥ = cc in no)

zones_apart : (commands : List Command) → IsAccepted commands → AreApart commands
zones_apart commands a =
    subst AreApart a.printable.again.same
    (lines_apart (map canonical_line commands) nothing_read a.printable.again.read none_apart
    a.printable.again.whole)

-- no two zones of accepted commands have one name
pub names_differ : (commands : List Command) → IsAccepted commands
    → IsDistinct bytes_eq (keys_of (zones_of commands))
names_differ commands a = (zones_apart commands a).distinct

-- no more zones are declared than may be
pub zones_few : (commands : List Command) → IsAccepted commands
    → length (zones_of commands) ≤ MOST_ZONES
zones_few commands a = (zones_apart commands a).few

-- ---- the zones that are named
-- no element passes a test that none passes
none_passes : {X : Type 0} (p : X → Bool) (xs : List X) → list_any p xs ≡ false
    → All (λ x. p x ≡ false) xs
none_passes p [] h = All-nil (λ x. p x ≡ false)
none_passes p (x ∷ xs) h =
    let parts = or_parts (p x) (list_any p xs) h in
    All-cons (λ x. p x ≡ false) x xs parts.0 (none_passes p xs parts.1)

names_known : (commands : List Command) (command : Command) → names_unknown commands command ≡ false
    → All (λ name. is_declared commands name ≡ true) (named_by command)
names_known commands command h =
    All-weaker (λ name. not (is_declared commands name) ≡ false)
    (λ name. is_declared commands name ≡ true)
    (λ name. not-false (is_declared commands name))
    (named_by command)
    (none_passes (λ name. not (is_declared commands name)) (named_by command) h)

-- each zone that an accepted command names is declared by one of them
pub named_declared : (commands : List Command) → IsAccepted commands
    → All (λ command. All (λ name. is_declared commands name ≡ true) (named_by command)) commands
named_declared commands a =
    All-weaker (λ command. names_unknown commands command ≡ false)
    (λ command. All (λ name. is_declared commands name ≡ true) (named_by command))
    (names_known commands)
    commands
    (none_passes (names_unknown commands) commands a.declared)

-- ---- the local zones
-- accepted commands declare a local zone
pub has_local : (commands : List Command) → IsAccepted commands
    → is_some (first_local_of commands) ≡ true
has_local commands a = a.has_local
