-- The index of declared zones stands for the commands.
use Rattle.std.proofs.Common.{◌≡◌, ℕ, Bool, true, false, List, [], ◌∷◌, ◌++◌, length, length-append, append-nil, refl, sym, ap, ◌∙◌, arith}
use Rattle.std.specs.Prelude.{◌||◌, ◌⊎◌, bytes_eq, Some, None, Ok, Err}
use Rattle.std.proofs.Common.{inl, inr}
use Rattle.std.specs.List.{list_any}
use Rattle.std.specs.List.Sorted.{IsPermutation}
use Rattle.std.proofs.lemmas.List.Elements.{filter_map-append}
use Rattle.std.proofs.lemmas.List.Folds.{list_any-append}
use Rattle.std.proofs.lemmas.List.Sorted.{list_any-IsPermutation, length_permutation}
use Rattle.gk_commands.specs.declared.commands.Command.{Command}
use Rattle.gk_commands.specs.declared.commands.Command.TheVariants.{ZoneLocal, ZoneRemote, ZonePrefix, GwTypePrefix, RejectUnknownPrefix, BandwidthDefault, BandwidthZone, BandwidthRemote}
use Rattle.gk_commands.specs.declared.zones.ZoneKind.{ZoneKind}
use Rattle.gk_commands.specs.Zones.{zones_of, declared_by, is_declared}
use Rattle.gk_commands.specs.declared.faults.FaultKind.{FaultKind}
use Rattle.gk_commands.specs.declared.faults.FaultKind.TheVariants.{NoMemory}
use Rattle.gk_commands.specs.Progress.{Progress, commands_in}
use Rattle.gk_commands.specs.Reading.{fault_of_name, zone_fault, command_fault, unless_fault, with_command, said_after}
use Rattle.command_reader.specs.Index.{AreDeclared, AddsDeclared, MayRefuseCommand, fault_by_names}

fault_of_zone : (names : List (List ℕ)) (lines : List Command) (name : List ℕ) → AreDeclared names
    lines → fault_of_name (list_any (bytes_eq name) names) (length names) ≡ zone_fault lines name
fault_of_zone names lines name h =
    ap (λ declared. fault_of_name declared (length names)) (h.same name) ∙ ap
    (fault_of_name (is_declared lines name)) h.count

-- the fault by the names is that by the commands
pub same_fault : (names : List (List ℕ)) (lines : List Command) (command : Command) → AreDeclared
    names lines → fault_by_names names command ≡ command_fault lines command
same_fault names lines (ZoneLocal name domain address) h = fault_of_zone names lines name h
same_fault names lines (ZoneRemote name domain address cost priority) h = fault_of_zone names lines
    name h
same_fault names lines (ZonePrefix zone pattern gateways) h = refl
same_fault names lines (GwTypePrefix prefix hopoffs is_default) h = refl
same_fault names lines RejectUnknownPrefix h = refl
same_fault names lines (BandwidthDefault kind size) h = refl
same_fault names lines (BandwidthZone kind zone size) h = refl
same_fault names lines (BandwidthRemote size) h = refl

or_swap : (a b : Bool) → (a || b) ≡ (b || (a || false))
or_swap true true = refl
or_swap true false = refl
or_swap false true = refl
or_swap false false = refl

one_zone : (names new : List (List ℕ)) (lines : List Command) (command : Command)
    (zone : List ℕ × ZoneKind) → zones_of (command ∷ []) ≡ zone ∷ [] → AreDeclared names lines →
    IsPermutation (zone.0 ∷ names) new → AreDeclared new (lines ++ command ∷ [])
one_zone names new lines command zone added h p =
    let zones : zones_of (lines ++ command ∷ []) ≡ zones_of lines ++ zone ∷ [] =
    filter_map-append declared_by lines (command ∷ []) ∙ ap (λ more. zones_of lines ++ more) added
    in
    record {
      same = λ name.
          sym (list_any-IsPermutation (bytes_eq name) (zone.0 ∷ names) new p)
          ∙ ap (λ found. bytes_eq name zone.0 || found) (h.same name)
          ∙ or_swap (bytes_eq name zone.0) (is_declared lines name)
          ∙ sym (ap (list_any (λ other. bytes_eq name other.0)) zones ∙ list_any-append
          (λ other. bytes_eq name other.0) (zones_of lines) (zone ∷ []));
      count = length_permutation (zone.0 ∷ names) new p ∙ omega
          (arith, h.count, ap length zones, length-append (zones_of lines) (zone ∷ []));
    }

no_zone : (names new : List (List ℕ)) (lines : List Command) (command : Command) → zones_of
    (command ∷ []) ≡ [] → AreDeclared names lines → new ≡ names → AreDeclared new
    (lines ++ command ∷ [])
no_zone names new lines command added h e =
    let zones : zones_of (lines ++ command ∷ []) ≡ zones_of lines =
    filter_map-append declared_by lines (command ∷ []) ∙ ap (λ more. zones_of lines ++ more) added ∙
    append-nil (zones_of lines) in
    record {
      same = λ name. ap (list_any (bytes_eq name)) e ∙ h.same name ∙ sym
          (ap (list_any (λ other. bytes_eq name other.0)) zones);
      count = ap length e ∙ h.count ∙ sym (ap length zones);
    }

-- the names after a command are those of the commands with it
pub one_more_declared : (names new : List (List ℕ)) (lines : List Command) (command : Command) →
    AreDeclared names lines → AddsDeclared names new command → AreDeclared new
    (lines ++ command ∷ [])
one_more_declared names new lines (ZoneLocal name domain address) h p = one_zone names new lines
    (ZoneLocal name domain address) _ refl h p
one_more_declared names new lines (ZoneRemote name domain address cost priority) h p = one_zone
    names new lines (ZoneRemote name domain address cost priority) _ refl h p
one_more_declared names new lines (ZonePrefix zone pattern gateways) h p = no_zone names new lines
    (ZonePrefix zone pattern gateways) refl h p
one_more_declared names new lines (GwTypePrefix prefix hopoffs is_default) h p = no_zone names new
    lines (GwTypePrefix prefix hopoffs is_default) refl h p
one_more_declared names new lines RejectUnknownPrefix h p = no_zone names new lines
    RejectUnknownPrefix refl h p
one_more_declared names new lines (BandwidthDefault kind size) h p = no_zone names new lines
    (BandwidthDefault kind size) refl h p
one_more_declared names new lines (BandwidthZone kind zone size) h p = no_zone names new lines
    (BandwidthZone kind zone size) refl h p
one_more_declared names new lines (BandwidthRemote size) h p = no_zone names new lines
    (BandwidthRemote size) refl h p

-- without a fault by the names the command is added
pub ok_line : (names : List (List ℕ)) (before : Progress) (command : Command) → AreDeclared names
    (commands_in before) → fault_by_names names command ≡ None → said_after before
    (Ok (Some command)) ≡ Ok (with_command before command)
ok_line names before command h none =
    ap (λ found. unless_fault found (with_command before command))
    (sym (same_fault names (commands_in before) command h) ∙ none)

-- a fault by the names is the fault of the line, and if memory is refused the line has none
pub faulty_line : (names : List (List ℕ)) (before : Progress) (command : Command) (kind : FaultKind)
    → AreDeclared names (commands_in before) → MayRefuseCommand (fault_by_names names command) kind
    → (said_after before (Ok (Some command)) ≡ Err kind) ⊎
    ((kind ≡ NoMemory) × (said_after before (Ok (Some command)) ≡ Ok (with_command before command)))
faulty_line names before command kind h (inl fault) =
    inl (ap (λ found. unless_fault found (with_command before command))
    (sym (same_fault names (commands_in before) command h) ∙ fault))
faulty_line names before command kind h (inr (lacks, none)) = inr
    (lacks, ok_line names before command h none)
