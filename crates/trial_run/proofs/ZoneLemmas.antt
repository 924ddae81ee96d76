-- The names of zones, one line at a time.
use Rattle.std.proofs.Common.{◌≡◌, ◌+◌, ℕ, List, [], ◌∷◌, ◌++◌, take, sym, ap, ◌∙◌, append-nil}
use Rattle.std.specs.Prelude.{Some, None}
use Rattle.std.specs.Map.{keys_of}
use Rattle.std.proofs.lemmas.List.{map-append}
use Rattle.gk_commands.specs.declared.commands.Command.{Command}
use Rattle.gk_commands.specs.declared.zones.ZoneKind.{ZoneKind}
use Rattle.gk_commands.specs.Zones.{declared_by, zones_of}
use Rattle.compiler.proofs.StepLemmas.{filter_map-more, one_or_none}

-- a line that declares a zone
pub name_more : (commands : List Command) (place : ℕ) (command : Command)
    (zone : List ℕ × ZoneKind)
    → take (place + 1) commands ≡ take place commands ++ command ∷ []
    → declared_by command ≡ Some zone
    → keys_of (zones_of (take place commands)) ++ zone.0 ∷ []
    ≡ keys_of (zones_of (take (place + 1) commands))
name_more commands place command zone more h =
    sym (ap (λ cs. keys_of (zones_of cs)) more
    ∙ ap keys_of (filter_map-more declared_by (take place commands) command)
    ∙ ap (λ o. keys_of (zones_of (take place commands) ++ one_or_none o)) h
    ∙ map-append (λ (e : List ℕ × ZoneKind). e.0) (zones_of (take place commands)) (zone ∷ []))

-- a line that declares none
pub names_same : (commands : List Command) (place : ℕ) (command : Command)
    → take (place + 1) commands ≡ take place commands ++ command ∷ []
    → declared_by command ≡ None
    → keys_of (zones_of (take place commands)) ≡ keys_of (zones_of (take (place + 1) commands))
names_same commands place command more h =
    sym (ap (λ cs. keys_of (zones_of cs)) more
    ∙ ap keys_of (filter_map-more declared_by (take place commands) command)
    ∙ ap (λ o. keys_of (zones_of (take place commands) ++ one_or_none o)) h
    ∙ ap keys_of (append-nil (zones_of (take place commands))))
