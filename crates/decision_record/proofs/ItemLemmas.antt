-- What the items of a log mean.
use Rattle.std.proofs.Common.{◌≡◌, ℕ, ◌<◌, ◌==◌, ◌^◌, Bool, true, false, List, [], ◌∷◌, ◌++◌, slice_get, refl, sym, ap, subst, ◌∙◌}
use Rattle.std.specs.Prelude.{Option, Some, None, if◌then◌else◌}
use Rattle.std.proofs.lemmas.Bool.{eqb-true}
use Rattle.std.proofs.lemmas.List.{append-nil}
use Rattle.std.proofs.lemmas.Option.{none-some, slice_get_within}
use Rattle.pieces.proofs.Filled.{item_in_front}
use Rattle.field_bytes.proofs.FieldLaws.{number_back}
use Rattle.field_bytes.specs.Fields.{◌>>=◌, number_bytes, number_in}
use Rattle.entry_bytes.specs.Entry.{PlainEntry}
use Rattle.entry_bytes.specs.EntryBytes.{entry_in}
use Rattle.entry_bytes.specs.VerdictBytes.{verdict_in}
use Rattle.decision_record.specs.Items.{item_meant, reload_in, reload_item}
use Rattle.decision_record.proofs.ToldLemmas.{TellsAlso}

-- ---- entries
-- no entry begins with the byte of a reload
none_of_reload : (rest : List ℕ) → entry_in (255 ∷ rest) ≡ None
unfolding verdict_in
none_of_reload rest = refl

-- the bytes of an entry mean it
pub entry_meant : (reloads : List PlainEntry) (bytes : List ℕ) (e : PlainEntry)
    → entry_in bytes ≡ Some e → item_meant reloads bytes ≡ Some e
unfolding verdict_in
entry_meant reloads [] e h = absurd (none-some e h)
entry_meant reloads (first ∷ rest) e h = by (first == 255) refl
  where
    by : (t : Bool) → (first == 255) ≡ t
        → (if t then reload_in reloads rest else entry_in (first ∷ rest)) ≡ Some e
    by true is =
        absurd (none-some e
        (sym (none_of_reload rest)
        ∙ subst (λ f. entry_in (f ∷ rest) ≡ Some e) (eqb-true first 255 is) h))
    by false is = h

-- ---- reloads
-- the item of a reload means the one at its place
pub reload_meant : (reloads : List PlainEntry) (place : ℕ) → place < 2 ^ 32
    → item_meant reloads (reload_item place) ≡ slice_get reloads place
reload_meant reloads place small =
    ap (λ (bytes : List ℕ). reload_in reloads bytes) (sym (append-nil (number_bytes place)))
    ∙ ap (λ (read : Option (ℕ × List ℕ)). read >>= λ p. slice_get reloads p.0)
    (number_back place small [])

-- it means the same if there are more
reload_still : (reloads further : List PlainEntry) (read : Option (ℕ × List ℕ)) (e : PlainEntry)
    → (read >>= λ place. slice_get reloads place.0) ≡ Some e
    → (read >>= λ place. slice_get (reloads ++ further) place.0) ≡ Some e
reload_still reloads further None e h = absurd (none-some e h)
reload_still reloads further (Some place) e h =
    item_in_front reloads further place.0 (slice_get_within reloads place.0 e h) ∙ h

item_still : (reloads further : List PlainEntry) (bytes rest : List ℕ) (e : PlainEntry) (t : Bool)
    → (if t then reload_in reloads rest else entry_in bytes) ≡ Some e
    → (if t then reload_in (reloads ++ further) rest else entry_in bytes) ≡ Some e
item_still reloads further bytes rest e true h =
    reload_still reloads further (number_in rest) e h
item_still reloads further bytes rest e false h = h

pub with_reloads : (reloads further : List PlainEntry)
    → TellsAlso (item_meant reloads) (item_meant (reloads ++ further))
with_reloads reloads further [] e h = absurd (none-some e h)
with_reloads reloads further (first ∷ rest) e h =
    item_still reloads further (first ∷ rest) rest e (first == 255) h
