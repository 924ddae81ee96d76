-- Whether commands declare a local zone.
use Rattle.std.proofs.Common.{◌≡◌, List, [], ◌∷◌, refl, sym}
use Rattle.std.specs.Prelude.{is_some}
use Rattle.std.specs.List.{list_any}
use Rattle.gk_commands.specs.declared.commands.Command.{Command}
use Rattle.gk_commands.specs.declared.commands.Command.TheVariants.{ZoneLocal, ZoneRemote, ZonePrefix, GwTypePrefix, RejectUnknownPrefix, BandwidthDefault, BandwidthZone, BandwidthRemote}
use Rattle.gk_commands.specs.Zones.{first_local_of, is_local_command}

one_more : (command : Command) (lines : List Command) →
    (is_some (first_local_of lines) ≡ list_any is_local_command lines) → is_some
    (first_local_of (command ∷ lines)) ≡ list_any is_local_command (command ∷ lines)
one_more (ZoneLocal name domain address) lines h = refl
one_more (ZoneRemote name domain address cost priority) lines h = h
one_more (ZonePrefix zone pattern gateways) lines h = h
one_more (GwTypePrefix prefix hopoffs is_default) lines h = h
one_more RejectUnknownPrefix lines h = h
one_more (BandwidthDefault kind size) lines h = h
one_more (BandwidthZone kind zone size) lines h = h
one_more (BandwidthRemote size) lines h = h

-- a local zone is found if a command declares one
pub some_local : (commands : List Command) → list_any is_local_command commands ≡ is_some
    (first_local_of commands)
some_local [] = refl
some_local (command ∷ commands) = sym (one_more command commands (sym (some_local commands)))
