-- The versions that a core has had.
use Rattle.std.proofs.Common.{◌≡◌, ◌+◌, true, List, [], ◌∷◌, ◌++◌, length, Option, Some, None, refl, sym, ap, subst, ◌∙◌, length-append, Bool, false, cond, true≢false}
use Rattle.std.specs.Prelude.{Result, Ok, Err, IfOk, IfErr, IfSome, MatchResult}
use Rattle.std.proofs.lemmas.Option.{same_Some}
use Rattle.std.specs.List.{AllByRecursion, cons_option, filter_map}
use Rattle.gk_terms.specs.Text.{lines_of}
use Rattle.gk_commands.specs.Accepted.{IsAccepted}
use Rattle.gk_commands.specs.Printing.{text_of}
use Rattle.gk_commands.specs.Reading.{reading_of}
use Rattle.command_reader.proofs.read_back.File.{file_back}
use Rattle.admission.specs.HistoryLaws.{AreAccepted}
use Rattle.gk_commands.specs.declared.commands.Command.{Command}
use Rattle.rulings.specs.State.{State}
use Rattle.rulings.specs.declared.rulings.Effect.TheVariants.{PutInForce}
use Rattle.rulings.specs.declared.replies.ReloadRefusal.{ReloadRefusal}
use Rattle.rulings.specs.declared.replies.ReloadRefusal.TheVariants.{ReloadsSpent, RecordFull, NoMemory}
use Rattle.rulings.specs.Events.{PlainEvent, Reloading, put_in_force}
use Rattle.rulings.specs.Ruling.{reload_ruling, ruling_of, verdict_of}
use Rattle.rulings.specs.Step.{are_reloads_spent, lacks_places, lack_if, count_refusal, outcome_of, step}
use Rattle.rulings.specs.Lacks.{reply_without}
use Rattle.std.specs.Option.{option_and_then}
use Rattle.entry_bytes.specs.Entry.{PlainEntry}
use Rattle.decision_record.specs.History.{CoreParts, entry_of, generations_of, generations, state_of, with_entry, Steps}
use Rattle.rulings.specs.declared.replies.Reply.{Reply}
use Rattle.rulings.specs.declared.replies.Reply.TheVariants.{Reloaded, ReloadRefused}
use Rattle.decision_record.specs.declared.entries.Receipt.{Receipt}
use Rattle.admission.proofs.StepLemmas.{step_reply}

-- ---- generations
pub put_more : (entries : List PlainEntry) (e : PlainEntry)
    → filter_map (λ (f : PlainEntry). put_in_force f.event) (entries ++ e ∷ [])
    ≡ filter_map (λ (f : PlainEntry). put_in_force f.event) entries
    ++ cons_option (put_in_force e.event) []
put_more [] e = refl
put_more (f ∷ entries) e = by (put_in_force f.event) (put_more entries e)
  where
    rest : List (List Command)
    rest = filter_map (λ (g : PlainEntry). put_in_force g.event) entries

    by : (put : Option (List Command))
        → filter_map (λ (g : PlainEntry). put_in_force g.event) (entries ++ e ∷ [])
        ≡ rest ++ cons_option (put_in_force e.event) []
        → cons_option put
        (filter_map (λ (g : PlainEntry). put_in_force g.event) (entries ++ e ∷ []))
        ≡ cons_option put rest ++ cons_option (put_in_force e.event) []
    by None h = h
    by (Some commands) h = ap (λ gs. commands ∷ gs) h

-- an event that is recorded adds the commands that it puts in force
pub generations_more : (core : CoreParts) (event : PlainEvent)
    → generations (with_entry core event)
    ≡ generations core ++ cons_option (put_in_force event) []
generations_more core event =
    ap (λ gs. core.opening.commands ∷ gs)
    (put_more core.entries (entry_of (state_of core) event))

-- what holds of each configuration that was put in force holds of each after one more event, if it
-- holds of the one that the event puts there
all_with : (P : List Command → Type 0) (gs : List (List Command)) (put : Option (List Command))
    → AllByRecursion P gs → IfSome put P → AllByRecursion P (gs ++ cons_option put [])
all_with P [] None all new = tt
all_with P [] (Some commands) all new = (new, tt)
all_with P (g ∷ gs) put all new = (all.0, all_with P gs put all.1 new)

pub all_more : (P : List Command → Type 0) (commands : List Command) (entries : List PlainEntry)
    (e : PlainEntry)
    → AllByRecursion P (generations_of commands entries) → IfSome (put_in_force e.event) P
    → AllByRecursion P (generations_of commands (entries ++ e ∷ []))
all_more P commands entries e all new = (
  all.0,
  subst (AllByRecursion P) (sym (put_more entries e)) (all_with P _ _ all.1 new),
)

-- commands that print as they were read are those of an accepted configuration
unfolded : (commands : List Command) → IsAccepted commands → AreAccepted commands
unfolding reading_of
unfolded commands accepted = (
  lines_of (text_of commands),
  (record { commands = commands; passed = 0 }, file_back commands accepted, refl),
)

pub all_accepted : (gs : List (List Command)) → AllByRecursion IsAccepted gs
    → AllByRecursion AreAccepted gs
all_accepted [] all = tt
all_accepted (g ∷ gs) all = (unfolded g all.0, all_accepted gs all.1)

-- ---- reloads
-- a reload that is not recorded is refused by a count
refused_by : (s : State) (commands : List Command) (spent full : Bool)
    → (outcome_of s (Reloading commands) (reload_ruling s)
    (option_and_then (reply_without (Reloading commands)) (lack_if spent full))).recorded ≡ false
    → (reason : ReloadRefusal)
    × ((outcome_of s (Reloading commands) (reload_ruling s)
    (option_and_then (reply_without (Reloading commands)) (lack_if spent full))).reply
    ≡ ReloadRefused reason)
refused_by s commands true full h = (ReloadsSpent, refl)
refused_by s commands false true h = (RecordFull, refl)
refused_by s commands false false h = absurd (true≢false h)

not_recorded_as : (s : State) (commands : List Command)
    → (step s (Reloading commands)).recorded ≡ false
    → (reason : ReloadRefusal) × ((step s (Reloading commands)).reply ≡ ReloadRefused reason)
unfolding step count_refusal ruling_of
not_recorded_as s commands h =
    refused_by s commands (are_reloads_spent s)
    (lacks_places s PutInForce) h

reloaded_as : (s : State) (commands : List Command)
    → verdict_of s (Reloading commands) ≡ Reloaded (s.version + 1)
unfolding ruling_of
reloaded_as s commands = refl

-- what a step adds to the configurations that were put in force
pub generations_after : (old new : CoreParts) (commands : List Command)
    (result : Result (Reply × Receipt) Reply) → Steps old (Reloading commands) result new
    → MatchResult result (λ _. generations new ≡ generations old ++ commands ∷ [])
    (λ _. generations new ≡ generations old)
generations_after old new commands (Ok answer) steps =
    ap generations steps.new_is ∙ generations_more old (Reloading commands)
generations_after old new commands (Err reply) steps = ap generations steps.unchanged

-- a reload is refused as one
pub refused_as_a_reload : (old new : CoreParts) (commands : List Command)
    (result : Result (Reply × Receipt) Reply) → Steps old (Reloading commands) result new
    → IfErr result (λ reply. (reason : ReloadRefusal) × (reply ≡ ReloadRefused reason))
refused_as_a_reload old new commands (Ok answer) steps = tt
refused_as_a_reload old new commands (Err reply) steps =
    by (step (state_of old) (Reloading commands)).recorded refl steps.reply_is
  where
    by : (recorded : Bool) → (step (state_of old) (Reloading commands)).recorded ≡ recorded
        → cond recorded (Some (ReloadRefused NoMemory))
        (Some (step (state_of old) (Reloading commands)).reply) ≡ Some reply
        → (reason : ReloadRefusal) × (reply ≡ ReloadRefused reason)
    by true recorded is = (NoMemory, same_Some _ _ (sym is))
    by false unrecorded is =
        let refusal = not_recorded_as (state_of old) commands unrecorded in
        (refusal.0, same_Some _ _ (sym is) ∙ refusal.1)

-- a reload that is recorded replies how many configurations were put in force
pub reload_version : (old new : CoreParts) (commands : List Command)
    (result : Result (Reply × Receipt) Reply)
    → (state_of old).version ≡ length (generations old)
    → Steps old (Reloading commands) result new
    → IfOk result (λ answer. answer.0 ≡ Reloaded (length (generations new)))
reload_version old new commands (Err reply) counted steps = tt
reload_version old new commands (Ok answer) counted steps =
    let more : length (generations new) ≡ length (generations old) + 1 =
    ap (λ (c : CoreParts). length (generations c)) steps.new_is
    ∙ ap length (generations_more old (Reloading commands))
    ∙ length-append (generations old) (commands ∷ []) in
    steps.reply_is ∙ step_reply (state_of old) (Reloading commands) steps.recorded
    ∙ reloaded_as (state_of old) commands
    ∙ ap Reloaded (ap (λ n. n + 1) counted ∙ sym more)
