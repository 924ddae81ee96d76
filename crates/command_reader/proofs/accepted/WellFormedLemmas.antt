-- Accepted commands are well formed.
use Rattle.std.proofs.Common.{◌≡◌, ℕ, true, List, All, Contains, sym, ◌∙◌}
use Rattle.std.specs.Cmp.Lexicographic.{same_text}
use Rattle.std.proofs.lemmas.List.Elements.{All-weaker}
use Rattle.std.proofs.lemmas.List.Folds.{Any-from_list_any}
use Rattle.std.proofs.lemmas.Map.Made.{AllPairs-from_IsDistinct}
use Rattle.std.proofs.lemmas.Map.Views.{Contains-from_any}
use Rattle.std.proofs.lemmas.Slice.Eq.{bytes_eq-Decides}
use Rattle.gk_commands.specs.declared.commands.Command.{Command}
use Rattle.gk_commands.specs.Zones.{zones_of, is_declared, named_by, is_local_command}
use Rattle.gk_commands.specs.Accepted.{PrintsBack, IsAccepted, zone_names, NamesDeclared, HasNumbersInRange, IsWellFormed}
use Rattle.gk_commands.proofs.AcceptedLemmas.{named_among, names_differ, zones_few, named_declared, has_local}
use Rattle.command_reader.proofs.accepted.LocalZones.{some_local}
use Rattle.command_reader.proofs.read_back.Ranges.{in_range}

-- a declared name is one of the names
name_found : (commands : List Command) (name : List ℕ) → is_declared commands name ≡ true
    → Contains (zone_names commands) name
name_found commands name h =
    Contains-from_any (λ x y same. same_text x y (sym same)) name (zone_names commands)
    (named_among name (zones_of commands) ∙ h)

names_found : (commands : List Command) (command : Command)
    → All (λ name. is_declared commands name ≡ true) (named_by command)
    → NamesDeclared commands command
names_found commands command h =
    All-weaker (λ name. is_declared commands name ≡ true) (Contains (zone_names commands))
    (name_found commands) (named_by command) h

-- what is accepted is well formed
pub well_formed : (commands : List Command) → IsAccepted commands → IsWellFormed commands
well_formed commands a = record {
  names_differ =
      AllPairs-from_IsDistinct bytes_eq-Decides (zone_names commands) (names_differ commands a);
  few_zones = zones_few commands a;
  has_local =
      Any-from_list_any is_local_command commands (some_local commands ∙ has_local commands a);
  named_declared = All-weaker
      (λ command. All (λ name. is_declared commands name ≡ true) (named_by command))
      (NamesDeclared commands)
      (names_found commands) commands (named_declared commands a);
  in_range = All-weaker PrintsBack HasNumbersInRange in_range commands a.printable.each;
}
