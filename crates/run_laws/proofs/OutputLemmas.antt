-- What is computed as the output of a run is one that it may write, and the only one if memory
-- lasts and threads are started.
use Rattle.std.proofs.Common.{◌≡◌, ℕ, Bool, true, false, cond, List, [], ◌∷◌, ◌++◌, refl, sym, ap, subst, ◌∙◌, ⊎_elim, inl, inr}
use Rattle.std.specs.Prelude.{◌≢◌, ◌⊎◌, Option, Some, None, Result, Ok, Err, MatchBool, option_map}
use Rattle.gk_commands.specs.declared.faults.LineFault.{LineFault}
use Rattle.gk_commands.specs.Configuration.{Configuration}
use Rattle.gk_commands.specs.Reading.{reading_in}
use Rattle.rulings.specs.declared.limits.Limits.{Limits}
use Rattle.rulings.specs.Events.{PlainEvent, Reloading}
use Rattle.rulings.specs.Lacks.{no_memory_reply_of}
use Rattle.rulings.specs.Step.{step}
use Rattle.decision_record.specs.History.{CoreParts, MayReply, state_of, with_entry, core_after}
use Rattle.rulings.specs.declared.replies.Reply.{Reply as CoreReply}
use Rattle.admission.proofs.CoreLemmas.{answers_as_the_machine}
use Rattle.gk_protocol.specs.declared.request_faults.RequestFault.{RequestFault}
use Rattle.gk_protocol.specs.declared.requests.Request.{Request}
use Rattle.gk_protocol.specs.declared.answers.Answer.{Answer}
use Rattle.gk_protocol.specs.declared.answers.Answer.TheVariants.{Reply, Tried, TryRefused}
use Rattle.gk_protocol.specs.declared.answers.TrialRefusal.TheVariants as trial
use Rattle.gk_protocol.specs.Answers.{answer_text_of}
use Rattle.gk_protocol.specs.Requests.{reload_without_memory, trial_without_memory}
use Rattle.gk_protocol.specs.Answering.{are_workers, MayLackMemory, report_under}
use Rattle.gk_protocol.specs.Demands.{Demand, AnEvent, AReload, ATrial, demand_of, sequence_of}
use Rattle.gk_protocol.specs.CoreAnswers.{Replies, ReloadsBy, shown_by, TriesBy, MayTry, MayMeet, MayAnswer}
use Rattle.gk_protocol.specs.Session.{Asked, requests_of, Answered, MayGet, Runs}
use Rattle.configuration_reader.specs.declared.configuration.Until.TheVariants.{EndLine}
use Rattle.configuration_reader.specs.Configuration.{configuration_of, rest_of}
use Rattle.runs.specs.Run.{opened}
use Rattle.run_laws.specs.Output.{reloading, tried_by, trial_answer, answer_to, core_with, event_to_meet, unmet_without_memory, answer_of, core_of, replies_of, output_after, output_of, OutputIsRun, AnsweredInMemory, RunsInMemory, OutputIsRunInMemory, OutputIsOnlyRun}
use Rattle.run_laws.proofs.MemoryLemmas.{lasts}

replied : (core : CoreParts) (sequence : ℕ) (event : PlainEvent) → Replies core sequence event
    (Reply sequence (step (state_of core) event).reply) (core_after core event)
replied core sequence event = (
  (step (state_of core) event).reply,
  refl,
  answers_as_the_machine core
      event,
)

reloaded : (core : CoreParts) (sequence : ℕ) (read : Result Configuration LineFault) → ReloadsBy
    core sequence read (answer_to core sequence (reloading sequence read))
    (core_with core (reloading sequence read))
reloaded core sequence (Ok configuration) = replied core sequence (Reloading configuration.commands)
reloaded core sequence (Err fault) = (refl, refl)

-- what may be answered to a trial, if there may be as many workers or not
abbrev TriesIf : CoreParts → ℕ → List (List ℕ) → Answer → Bool → Type 0
TriesIf core sequence lines answer may =
    MatchBool may
    (TriesBy core sequence (reading_in lines) answer
    ⊎ ((answer ≡ trial_without_memory sequence) × MayLackMemory lines))
    (answer ≡ TryRefused sequence trial.BadWorkers)

-- the answer that is computed
abbrev tried_if : CoreParts → ℕ → List (List ℕ) → Bool → Answer
tried_if core sequence lines may =
    cond may (tried_by core sequence (reading_in lines)) (TryRefused sequence trial.BadWorkers)

tries_by : (core : CoreParts) (sequence : ℕ) (read : Result Configuration LineFault) → TriesBy core
    sequence read (tried_by core sequence read)
tries_by core sequence (Ok configuration) = inl (shown_by core, refl, refl)
tries_by core sequence (Err fault) = refl

tries_if : (core : CoreParts) (sequence : ℕ) (lines : List (List ℕ)) (may : Bool) → TriesIf core
    sequence lines (tried_if core sequence lines may) may
tries_if core sequence lines true = inl (tries_by core sequence (reading_in lines))
tries_if core sequence lines false = refl

tries : (core : CoreParts) (sequence workers : ℕ) (lines : List (List ℕ)) → MayTry core sequence
    workers lines (trial_answer core sequence workers lines)
tries core sequence workers lines = tries_if core sequence lines (are_workers workers)

-- what is asked is met
met : (core : CoreParts) (sequence : ℕ) (demand : Demand)
    → MayMeet core sequence demand (answer_to core sequence (event_to_meet core sequence demand))
    (core_with core (event_to_meet core sequence demand))
met core sequence (AnEvent event) = replied core sequence event
met core sequence (AReload lines) = inl (reloaded core sequence (reading_in lines))
met core sequence (ATrial workers lines) = (tries core sequence workers lines, refl)

answered : (core : CoreParts) (request : Result Request RequestFault) → Answered MayAnswer core
    request (answer_of core request) (core_of core request)
answered core (Ok request) = met core (sequence_of request) (demand_of request)
answered core (Err fault) = (refl, refl)

may_get : (core : CoreParts) (asked : Asked) → MayGet MayAnswer core asked
    (answer_of core asked.request) (core_of core asked.request)
may_get core asked = inl (answered core asked.request)

last_of : CoreParts → List Asked → CoreParts
last_of core [] = core
last_of core (asked ∷ others) = last_of (core_of core asked.request) others

runs : (core : CoreParts) (asked : List Asked) → Runs MayAnswer core asked (replies_of core asked)
    (last_of core asked)
unfolding last_of
runs core [] = (refl, refl)
runs core (asked ∷ others) = (
  answer_of core asked.request,
  replies_of (core_of core asked.request) others,
  core_of core asked.request,
  may_get core asked,
  runs (core_of core asked.request) others,
  refl,
)

run_after : (limits : Limits) (rest text : List ℕ) (read : Result Configuration LineFault) →
    output_after limits rest read ≡ Ok text
    → (configuration : Configuration) × (read ≡ Ok configuration) ×
    ((last : CoreParts) × Runs MayAnswer (opened configuration limits) (requests_of rest) text
    last)
run_after limits rest text (Ok configuration) h =
    let core = opened configuration limits in
    let same : replies_of core (requests_of rest) ≡ text = cc in (
      configuration,
      refl,
      (
        last_of core (requests_of rest),
        subst
            (λ (t : List ℕ). Runs MayAnswer core (requests_of rest) t (last_of core (requests_of
            rest)))
            same (runs core (requests_of rest)),
      ),
    )
run_after limits rest text (Err fault) h = let no_such : ⊥ = cc in absurd no_such

pub output_runs : OutputIsRun
unfolding output_of
output_runs limits bytes text h = run_after limits (rest_of EndLine bytes) text
    (reading_in (configuration_of EndLine bytes)) h

-- ---- if memory lasts
same_some : {x y : CoreReply} → Some x ≡ Some y → x ≡ y
same_some h = cc

same_ok : (r : Result (List ℕ) LineFault) (x y : List ℕ) → r ≡ Ok x → r ≡ Ok y → x ≡ y
same_ok r x y h i = cc

-- a core's reply that does not say that memory ran out is the machine's
reply_in_memory : (old new : CoreParts) (sequence : ℕ) (event : PlainEvent) (answer : Answer) →
    Replies old sequence event answer new → option_map (Reply sequence) (no_memory_reply_of event) ≢
    Some answer
    → (answer ≡ Reply sequence (step (state_of old) event).reply) × (new ≡ core_after old event)
reply_in_memory old new sequence event answer replies lasts = by replies.2
  where
    unrecorded : (recorded : Bool) → (step (state_of old) event).recorded ≡ recorded → cond recorded
        (no_memory_reply_of event) (Some (step (state_of old) event).reply) ≡ Some replies.0
        → new ≡ old → (answer ≡ Reply sequence (step (state_of old) event).reply) ×
        (new ≡ core_after old event)
    unrecorded true e is same = absurd (lasts (ap (option_map (Reply sequence)) is ∙ ap Some
        (sym replies.1)))
    unrecorded false e is same = (
      replies.1 ∙ ap (Reply sequence) (sym (same_some is)),
      same ∙ sym (ap (λ t. cond t (with_entry old event) old) e),
    )

    by : MayReply old event replies.0 new → (answer ≡ Reply sequence
        (step (state_of old) event).reply) × (new ≡ core_after old event)
    by (inl r) = (
      replies.1 ∙ ap (Reply sequence) r.1.reply_is,
      r.1.new_is ∙ sym (ap (λ t. cond t (with_entry old event) old) r.1.recorded),
    )
    by (inr u) = unrecorded (step (state_of old) event).recorded refl u.reply_is u.unchanged

reload_in_memory : (old new : CoreParts) (sequence : ℕ) (read : Result Configuration LineFault)
    (answer : Answer) → ReloadsBy old sequence read answer new → Some
    (reload_without_memory sequence) ≢ Some answer
    → (answer ≡ answer_to old sequence (reloading sequence read))
    × (new ≡ core_with old (reloading sequence read))
reload_in_memory old new sequence (Ok configuration) answer replies lasts = reply_in_memory old new
    sequence (Reloading configuration.commands) answer replies lasts
reload_in_memory old new sequence (Err fault) answer replies lasts = replies

tried_in_memory_by : (core : CoreParts) (sequence : ℕ) (read : Result Configuration LineFault)
    (answer : Answer) → TriesBy core sequence read answer
    → TryRefused sequence trial.NoThread ≢ answer → answer ≡ tried_by core sequence read
tried_in_memory_by core sequence (Ok configuration) answer (inl reported) threads =
    reported.2 ∙ ap (λ shown. Tried sequence (report_under shown configuration)) reported.1
tried_in_memory_by core sequence (Ok configuration) answer (inr lacking) threads =
    absurd (threads (sym lacking))
tried_in_memory_by core sequence (Err fault) answer refused threads = refused

tried_in_memory_if : (core : CoreParts) (sequence : ℕ) (lines : List (List ℕ)) (answer : Answer)
    (may : Bool) → TriesIf core sequence lines answer may
    → Some (trial_without_memory sequence) ≢ Some answer
    → TryRefused sequence trial.NoThread ≢ answer → answer ≡ tried_if core sequence lines may
tried_in_memory_if core sequence lines answer true (inl by_lines) lasts threads =
    tried_in_memory_by core sequence (reading_in lines) answer by_lines threads
tried_in_memory_if core sequence lines answer true (inr lacking) lasts threads =
    absurd (lasts (ap Some (sym lacking.0)))
tried_in_memory_if core sequence lines answer false refused lasts threads = refused

only_met : (old new : CoreParts) (sequence : ℕ) (demand : Demand) (answer : Answer)
    → MayMeet old sequence demand answer new
    → unmet_without_memory sequence demand ≢ Some answer
    → TryRefused sequence trial.NoThread ≢ answer
    → (answer ≡ answer_to old sequence (event_to_meet old sequence demand))
    × (new ≡ core_with old (event_to_meet old sequence demand))
only_met old new sequence (AnEvent event) answer may lasts threads =
    reply_in_memory old new sequence event answer may lasts
only_met old new sequence (AReload lines) answer may lasts threads =
    ⊎_elim
    (λ (r : ReloadsBy old sequence (reading_in lines) answer new).
    reload_in_memory old new sequence (reading_in lines) answer r lasts)
    (λ (r : (answer ≡ reload_without_memory sequence) × (new ≡ old) × MayLackMemory lines).
    absurd (lasts (ap Some (sym r.0)))) may
only_met old new sequence (ATrial workers lines) answer may lasts threads = (
  tried_in_memory_if old sequence lines answer (are_workers workers) may.0 lasts threads,
  may.1,
)

only_answer : (old new : CoreParts) (request : Result Request RequestFault) (answer : Answer) →
    AnsweredInMemory old request answer new → (answer ≡ answer_of old request) ×
    (new ≡ core_of old request)
only_answer old new (Ok request) answer a =
    only_met old new (sequence_of request) (demand_of request) answer a.0 a.1 a.2
only_answer old new (Err fault) answer a = a

only_text : (core : CoreParts) (asked : List Asked) (text : List ℕ) (last : CoreParts) →
    RunsInMemory core asked text last → replies_of core asked ≡ text
only_text core [] text last r = sym r.0
only_text core (asked ∷ others) text last r =
    let one : (r.0 ≡ answer_of core asked.request) × (r.2 ≡ core_of core asked.request) =
    only_answer core r.2 asked.request r.0 r.3 in
    ap (λ answer. answer_text_of answer ++ replies_of (core_of core asked.request) others) (sym
    one.0)
    ∙ ap (λ (mid : CoreParts). answer_text_of r.0 ++ replies_of mid others) (sym one.1)
    ∙ ap (λ rest. answer_text_of r.0 ++ rest) (only_text r.2 others r.1 last r.4)
    ∙ sym r.5

-- what is computed under an accepted configuration
computed : (limits : Limits) (bytes : List ℕ) (configuration : Configuration) → reading_in
    (configuration_of EndLine bytes) ≡ Ok configuration
    → output_of limits bytes ≡ Ok (replies_of (opened configuration limits)
    (requests_of (rest_of EndLine bytes)))
unfolding output_of
computed limits bytes configuration accepted = ap (output_after limits (rest_of EndLine bytes))
    accepted

pub output_is_only : OutputIsOnlyRun
output_is_only limits bytes text configuration last accepted runs =
    computed limits bytes configuration accepted ∙ ap Ok
    (only_text (opened configuration limits) (requests_of (rest_of EndLine bytes)) text last
    runs)

-- the machine's own replies are given in memory
mapped_apart : (sequence : ℕ) (lacking : Option CoreReply) (reply : CoreReply) → lacking ≢ Some
    reply → option_map (Reply sequence) lacking ≢ Some (Reply sequence reply)
mapped_apart sequence (Some other) reply apart h = let same : other ≡ reply = cc in apart
    (ap Some same)
mapped_apart sequence None reply apart h = cc

event_lasts : (core : CoreParts) (sequence : ℕ) (event : PlainEvent) → option_map (Reply sequence)
    (no_memory_reply_of event) ≢ Some (Reply sequence (step (state_of core) event).reply)
event_lasts core sequence event = mapped_apart sequence (no_memory_reply_of event)
    (step (state_of core) event).reply (lasts (state_of core) event)

reload_lasts : (core : CoreParts) (sequence : ℕ) (read : Result Configuration LineFault) → Some
    (reload_without_memory sequence) ≢ Some (answer_to core sequence (reloading sequence read))
reload_lasts core sequence (Ok configuration) = event_lasts core sequence
    (Reloading configuration.commands)
reload_lasts core sequence (Err fault) = λ h. cc

-- no reply to an event, and no fault of a reload, says that a thread could not be started
reply_apart : (lacking sequence : ℕ) (reply : CoreReply) → TryRefused lacking trial.NoThread ≢ Reply
    sequence reply
reply_apart lacking sequence reply h = cc

reload_apart : (core : CoreParts) (sequence : ℕ) (read : Result Configuration LineFault) →
    TryRefused sequence trial.NoThread ≢ answer_to core sequence (reloading sequence read)
reload_apart core sequence (Ok configuration) h = cc
reload_apart core sequence (Err fault) h = cc

-- the computed answer to a trial says neither
trial_lasts_by : (core : CoreParts) (sequence : ℕ) (read : Result Configuration LineFault) → Some
    (trial_without_memory sequence) ≢ Some (tried_by core sequence read)
trial_lasts_by core sequence (Ok configuration) h = cc
trial_lasts_by core sequence (Err fault) h = cc

trial_lasts : (core : CoreParts) (sequence : ℕ) (lines : List (List ℕ)) (may : Bool) → Some
    (trial_without_memory sequence) ≢ Some (tried_if core sequence lines may)
trial_lasts core sequence lines true = trial_lasts_by core sequence (reading_in lines)
trial_lasts core sequence lines false = λ h. cc

trial_apart_by : (core : CoreParts) (sequence : ℕ) (read : Result Configuration LineFault) →
    TryRefused sequence trial.NoThread ≢ tried_by core sequence read
trial_apart_by core sequence (Ok configuration) h = cc
trial_apart_by core sequence (Err fault) h = cc

trial_apart : (core : CoreParts) (sequence : ℕ) (lines : List (List ℕ)) (may : Bool) → TryRefused
    sequence trial.NoThread ≢ tried_if core sequence lines may
trial_apart core sequence lines true = trial_apart_by core sequence (reading_in lines)
trial_apart core sequence lines false = λ h. cc

-- the machine's reply to an event is one that is given in memory
event_in_memory : (core : CoreParts) (sequence : ℕ) (event : PlainEvent)
    → Replies core sequence event (Reply sequence (step (state_of core) event).reply)
    (core_after core event)
    × (option_map (Reply sequence) (no_memory_reply_of event)
    ≢ Some (Reply sequence (step (state_of core) event).reply))
    × (TryRefused sequence trial.NoThread ≢ Reply sequence (step (state_of core) event).reply)
event_in_memory core sequence event = (
  replied core sequence event,
  event_lasts core sequence event,
  reply_apart sequence sequence (step (state_of core) event).reply,
)

met_in_memory : (core : CoreParts) (sequence : ℕ) (demand : Demand)
    → MayMeet core sequence demand (answer_to core sequence (event_to_meet core sequence demand))
    (core_with core (event_to_meet core sequence demand))
    × (unmet_without_memory sequence demand
    ≢ Some (answer_to core sequence (event_to_meet core sequence demand)))
    × (TryRefused sequence trial.NoThread
    ≢ answer_to core sequence (event_to_meet core sequence demand))
met_in_memory core sequence (AnEvent event) = event_in_memory core sequence event
met_in_memory core sequence (AReload lines) = (
  inl (reloaded core sequence (reading_in lines)),
  reload_lasts core sequence (reading_in lines),
  reload_apart core sequence (reading_in lines),
)
met_in_memory core sequence (ATrial workers lines) = (
  (tries core sequence workers lines, refl),
  trial_lasts core sequence lines (are_workers workers),
  trial_apart core sequence lines (are_workers workers),
)

answered_in_memory : (core : CoreParts) (request : Result Request RequestFault) → AnsweredInMemory
    core request (answer_of core request) (core_of core request)
answered_in_memory core (Ok request) =
    met_in_memory core (sequence_of request) (demand_of request)
answered_in_memory core (Err fault) = (refl, refl)

runs_in_memory : (core : CoreParts) (asked : List Asked) → RunsInMemory core asked
    (replies_of core asked) (last_of core asked)
unfolding last_of
runs_in_memory core [] = (refl, refl)
runs_in_memory core (asked ∷ others) = (
  answer_of core asked.request,
  replies_of (core_of core asked.request) others,
  core_of core asked.request,
  answered_in_memory core asked.request,
  runs_in_memory (core_of core asked.request) others,
  refl,
)

pub output_lasts : OutputIsRunInMemory
output_lasts limits bytes text h =
    let run = output_runs limits bytes text h in
    let core : CoreParts = opened run.0 limits in
    let asked : List Asked = requests_of (rest_of EndLine bytes) in
    let same : replies_of core asked ≡ text =
    same_ok _ _ _ (computed limits bytes run.0 run.1) h in (
      run.0,
      run.1,
      (
        last_of core asked,
        subst (λ (t : List ℕ). RunsInMemory core asked t
            (last_of core asked)) same (runs_in_memory core asked),
      ),
    )
