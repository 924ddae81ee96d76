-- No priority that accepted commands give is above 10.
use Rattle.std.proofs.Common.{◌&&◌, ℕ, ◌≤◌, Bool, true, false, List, [], ◌∷◌, All, arith}
use Rattle.std.specs.Prelude.{Option, Some, None, IfSome, fold, unwrap_or, bytes_eq, if◌then◌else◌}
use Rattle.std.specs.List.{cons_option, filter_map, list_any}
use Rattle.std.proofs.lemmas.List.Elements.{All-head, All-tail}
use Rattle.digit_patterns.specs.Pattern.{same_pattern}
use Rattle.gk_commands.specs.declared.commands.Command.{Command}
use Rattle.gk_commands.specs.declared.commands.Command.TheVariants.{ZoneLocal, ZoneRemote, ZonePrefix, GwTypePrefix, RejectUnknownPrefix, BandwidthDefault, BandwidthZone, BandwidthRemote}
use Rattle.gk_commands.specs.declared.commands.GatewayPriority.{GatewayPriority}
use Rattle.gk_commands.specs.Accepted.{HasNumbersInRange, IsAccepted, IsWithin}
use Rattle.command_reader.proofs.accepted.WellFormedLemmas.{well_formed}
use Rattle.compiler.specs.Priority.{priority_among, priority_in, named_priority_of, priority_of}
use Rattle.compiler.specs.Rows.{ZoneRow}

-- at most 10, if there is one
abbrev IsFew : Option ℕ → Type 0
IsFew o = IfSome o (λ n. n ≤ 10)

if_so : (t : Bool) (o : Option ℕ) → IsFew o → IsFew (if t then o else None)
if_so true o h = h
if_so false o h = tt

among : (id : List ℕ) (gateways : Option GatewayPriority)
    → IfSome gateways (λ g. IsWithin 0 10 g.priority) → IsFew (priority_among id gateways)
among id None h = tt
among id (Some g) h = if_so (list_any (bytes_eq id) g.gateways) (Some g.priority) h.1

module _ (row : ZoneRow) (id : List ℕ) where
  of_command : (command : Command) → HasNumbersInRange command → IsFew (priority_in row id command)
  of_command (ZoneLocal name domain address) h = tt
  of_command (ZoneRemote name domain address cost priority) h = tt
  of_command (ZonePrefix zone pattern gateways) h =
      if_so (bytes_eq zone row.1 && same_pattern pattern row.0) (priority_among id gateways)
      (among id gateways h)
  of_command (GwTypePrefix prefix hopoffs is_default) h = tt
  of_command RejectUnknownPrefix h = tt
  of_command (BandwidthDefault kind size) h = tt
  of_command (BandwidthZone kind zone size) h = tt
  of_command (BandwidthRemote size) h = tt

  -- the last of those that commands give
  last_within : (commands : List Command) → All HasNumbersInRange commands → (before : Option ℕ)
      → IsFew before
      → IsFew (fold (λ _ n. Some n) before (filter_map (priority_in row id) commands))
  last_within [] all before few = few
  last_within (c ∷ cs) all before few =
      by (priority_in row id c) (of_command c (All-head HasNumbersInRange c cs all))
      (last_within cs (All-tail HasNumbersInRange c cs all))
    where
      by : (o : Option ℕ) → IsFew o
          → ((b : Option ℕ) → IsFew b
          → IsFew (fold (λ _ n. Some n) b (filter_map (priority_in row id) cs)))
          → IsFew (fold (λ _ n. Some n) before
          (cons_option o (filter_map (priority_in row id) cs)))
      by None few_too rest = rest before few
      by (Some n) few_too rest = rest (Some n) few_too

or_default : (o : Option ℕ) → IsFew o → unwrap_or o 5 ≤ 10
or_default None h = omega arith
or_default (Some n) h = h

pub priority_within : (commands : List Command) (row : Option ZoneRow) (id : List ℕ)
    → IsAccepted commands → priority_of commands row id ≤ 10
priority_within commands None id accepted = omega arith
priority_within commands (Some row) id accepted =
    or_default (named_priority_of commands row id)
    (last_within row id commands (well_formed commands accepted).in_range None tt)
