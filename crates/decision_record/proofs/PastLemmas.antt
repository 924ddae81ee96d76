-- The past reloads of a record, as one more is past and one more text may be known.
use Rattle.std.proofs.Common.{◌≡◌, ℕ, zero, suc, List, [], ◌∷◌, ◌++◌, map, refl, ap, ◌∙◌, arith}
use Rattle.std.specs.Prelude.{Option, Some, None, IfSome, slice_get}
use Rattle.std.specs.Option.{unwrap_or}
use Rattle.pieces.specs.Pieces.{PiecesParts}
use Rattle.gk_commands.specs.declared.commands.Command.{Command}
use Rattle.entry_bytes.specs.Entry.{PlainEntry}
use Rattle.decision_record.specs.declared.reloads.PastConfiguration.{PastConfiguration}
use Rattle.decision_record.specs.declared.reloads.PastConfiguration.TheVariants as past
use Rattle.decision_record.specs.declared.reloads.PastReload.{PastReload}
use Rattle.decision_record.specs.declared.reloads.LastReload.{LastReload}
use Rattle.decision_record.specs.History.{reload_entry}
use Rattle.decision_record.specs.Reloads.{ArePlaced, IsPlaced, IsReload, KeepsTexts, Texts, commands_last, commands_past, plain_past, reloads_told}

-- each entry is that of a reload
pub reloads_are : (texts : Texts) (reloads : List PastReload) (last : Option LastReload)
    (place : ℕ) → IfSome (slice_get (reloads_told texts reloads last) place) IsReload
reloads_are texts [] None place = tt
reloads_are texts [] (Some r) zero = (commands_last r, r.version, refl)
reloads_are texts [] (Some r) (suc place) = tt
reloads_are texts (r ∷ rs) last zero = (commands_past texts r.configuration, r.version, refl)
reloads_are texts (r ∷ rs) last (suc place) = reloads_are texts rs last place

module _ (old new : PiecesParts (List Command)) (keeps : KeepsTexts old new) where
  -- one that was past says what it said
  placed_still : (c : PastConfiguration) → IsPlaced old.items c → IsPlaced new.items c
  placed_still (past.Lines place) within = let more = keeps.more in omega (arith, within, more)
  placed_still (past.Commands commands) within = tt
  placed_still (past.Tables tables) within = tt

  said_still : (c : PastConfiguration) → IsPlaced old.items c
      → commands_past new.items c ≡ commands_past old.items c
  said_still (past.Lines place) within = ap (λ found. unwrap_or found []) (keeps.kept place within)
  said_still (past.Commands commands) within = refl
  said_still (past.Tables tables) within = refl

  told_still : (r : PastReload) → IsPlaced old.items r.configuration
      → plain_past new.items r ≡ plain_past old.items r
  told_still r within =
      ap (λ commands. reload_entry commands r.version) (said_still r.configuration within)

  -- one more is past
  pub placed_more : (reloads : List PastReload) (last : PastReload) → ArePlaced old.items reloads
      → IsPlaced new.items last.configuration → ArePlaced new.items (reloads ++ last ∷ [])
  placed_more [] last placed within = (within, tt)
  placed_more (r ∷ rs) last placed within =
      (placed_still r.configuration placed.0, placed_more rs last placed.1 within)

  pub told_more : (reloads : List PastReload) (last : PastReload) (e : PlainEntry)
      → ArePlaced old.items reloads → plain_past new.items last ≡ e
      → map (plain_past new.items) (reloads ++ last ∷ [])
      ≡ map (plain_past old.items) reloads ++ e ∷ []
  told_more [] last e placed said = ap (λ f. f ∷ []) said
  told_more (r ∷ rs) last e placed said =
      ap (λ f. f ∷ map (plain_past new.items) (rs ++ last ∷ [])) (told_still r placed.0)
      ∙ ap (λ fs. plain_past old.items r ∷ fs) (told_more rs last e placed.1 said)
