-- The tables in force, as a record finds them.
use Rattle.std.proofs.Common.{◌≡◌, ◌≤◌, ℕ, List, [], ◌∷◌, ◌++◌, refl, sym, ap, ◌∙◌}
use Rattle.std.specs.Prelude.{Option, Some, None}
use Rattle.byte_log.specs.Parts.{LogParts}
use Rattle.gk_commands.specs.declared.commands.Command.{Command}
use Rattle.rulings.specs.Events.{put_in_force}
use Rattle.entry_bytes.specs.Entry.{PlainEntry}
use Rattle.decision_record.specs.History.{in_force_after, in_force_of}
use Rattle.decision_record.specs.Reloads.{ReloadsParts}
use Rattle.decision_record.specs.Items.{entries_told, IsStored, IsLastReload}

-- ---- one entry more
pub in_force_more : (commands : List Command) (entries : List PlainEntry) (e : PlainEntry)
    → in_force_of commands (entries ++ e ∷ [])
    ≡ in_force_after (in_force_of commands entries) (put_in_force e.event)
in_force_more commands [] e = refl
in_force_more commands (f ∷ entries) e =
    in_force_more (in_force_after commands (put_in_force f.event)) entries e

module _ (opening : List Command) (last : Option (List Command)) (entries : List PlainEntry)
    (at : IsLastReload opening last entries) where
  -- that puts no commands in force
  pub none_more : (e : PlainEntry) → put_in_force e.event ≡ None
      → IsLastReload opening last (entries ++ e ∷ [])
  none_more e none =
      at
      ∙ sym (in_force_more opening entries e
      ∙ ap (in_force_after (in_force_of opening entries)) none)

-- that puts these commands in force
pub reload_more : (opening : List Command) (entries : List PlainEntry) (e : PlainEntry)
    (commands : List Command) → put_in_force e.event ≡ Some commands
    → IsLastReload opening (Some commands) (entries ++ e ∷ [])
reload_more opening entries e commands puts =
    sym (in_force_more opening entries e
    ∙ ap (in_force_after (in_force_of opening entries)) puts)

-- ---- more room
-- lists that hold the same, with room for so many, are stored and found alike
module _ (log more : LogParts) (reloads wider : ReloadsParts) (same : more.items ≡ log.items)
    (same_reloads : wider.entries ≡ reloads.entries) where
  pub told_alike : entries_told more wider ≡ entries_told log reloads
  told_alike = rw (same, same_reloads) refl

  pub stored_alike : (kept places : ℕ) → IsStored log reloads (entries_told log reloads) kept
      → places ≤ more.room → places ≤ wider.room
      → IsStored more wider (entries_told more wider) places
  stored_alike kept places stored room room_reloads = record {
    meant = rw (same, same_reloads) stored.meant;
    right = rw (same, same_reloads) stored.right;
    few_reloads = rw (same, same_reloads) stored.few_reloads;
    room = room;
    room_reloads = room_reloads;
  }

  pub last_alike : (opening : List Command) → wider.last ≡ reloads.last
      → IsLastReload opening reloads.last (entries_told log reloads)
      → IsLastReload opening wider.last (entries_told more wider)
  last_alike opening same_last at = rw (same_last, same, same_reloads) at
