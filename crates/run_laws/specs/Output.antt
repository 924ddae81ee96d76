-- What a run writes if memory lasts and threads are started, computed.
use Rattle.std.specs.Prelude.{◌≡◌, ◌≢◌, ℕ, List, [], ◌∷◌, ◌++◌, Option, Some, Result, Ok, Err, option_map, flat_map, if◌then◌else◌}
use Rattle.gk_commands.specs.declared.faults.LineFault.{LineFault}
use Rattle.gk_commands.specs.Configuration.{Configuration}
use Rattle.gk_commands.specs.Reading.{reading_in}
use Rattle.rulings.specs.declared.limits.Limits.{Limits}
use Rattle.rulings.specs.Events.{PlainEvent, Reloading}
use Rattle.rulings.specs.Lacks.{no_memory_reply_of}
use Rattle.rulings.specs.Step.{step}
use Rattle.decision_record.specs.History.{CoreParts, state_of, core_after}
use Rattle.gk_protocol.specs.declared.request_faults.RequestFault.{RequestFault}
use Rattle.gk_protocol.specs.declared.requests.Request.{Request}
use Rattle.gk_protocol.specs.declared.answers.Answer.{Answer}
use Rattle.gk_protocol.specs.declared.answers.Answer.TheVariants.{Reply, Misconfigured, Tried, TryRefused, Malformed}
use Rattle.gk_protocol.specs.declared.answers.TrialRefusal.TheVariants as trial
use Rattle.gk_protocol.specs.Answers.{answer_text_of}
use Rattle.gk_protocol.specs.Requests.{reload_without_memory, trial_without_memory}
use Rattle.gk_protocol.specs.Demands.{Demand, AnEvent, AReload, ATrial, demand_of, sequence_of}
use Rattle.gk_protocol.specs.Answering.{are_workers}
use Rattle.gk_protocol.specs.CoreAnswers.{report_under, MayAnswer}
use Rattle.gk_protocol.specs.Session.{Asked, requests_of, Runs}
use Rattle.configuration_reader.specs.declared.configuration.Until.TheVariants.{EndLine}
use Rattle.configuration_reader.specs.Configuration.{configuration_of, rest_of}
use Rattle.runs.specs.Run.{opened}

-- a reload of what was read, or the answer that names its fault
abbrev pub reloading : ℕ → Result Configuration LineFault → Result PlainEvent Answer
reloading sequence (Ok configuration) = Ok (Reloading configuration.commands)
reloading sequence (Err fault) = Err (Misconfigured sequence fault)

-- the answer to a trial by what was read: the report under the configuration, or the fault
abbrev pub tried_by : CoreParts → ℕ → Result Configuration LineFault → Answer
tried_by core sequence (Ok configuration) = Tried sequence (report_under core configuration)
tried_by core sequence (Err fault) = TryRefused sequence (trial.Misconfigured fault)

-- the answer to a trial; that there may not be so many workers comes before a fault of the lines
abbrev pub trial_answer : CoreParts → ℕ → ℕ → List (List ℕ) → Answer
trial_answer core sequence workers lines =
    if are_workers workers then tried_by core sequence (reading_in lines)
    else TryRefused sequence trial.BadWorkers

-- the event that is asked for; or the answer that leaves the core, to a trial, and to a reload whose
-- lines have a fault
abbrev pub event_to_meet : CoreParts → ℕ → Demand → Result PlainEvent Answer
event_to_meet core sequence (AnEvent event) = Ok event
event_to_meet core sequence (AReload lines) = reloading sequence (reading_in lines)
event_to_meet core sequence (ATrial workers lines) = Err (trial_answer core sequence workers lines)

-- the machine's answer to an event, and the core after it; or the answer that leaves the core
abbrev pub answer_to : CoreParts → ℕ → Result PlainEvent Answer → Answer
answer_to core sequence (Ok event) = Reply sequence (step (state_of core) event).reply
answer_to core sequence (Err answer) = answer

abbrev pub core_with : CoreParts → Result PlainEvent Answer → CoreParts
core_with core (Ok event) = core_after core event
core_with core (Err answer) = core

-- the event that a request asks for, or the answer that leaves the core
abbrev pub event_of : CoreParts → Request → Result PlainEvent Answer
event_of core request = event_to_meet core (sequence_of request) (demand_of request)

-- the answer to what was asked, and the core after it
abbrev pub answer_of : CoreParts → Result Request RequestFault → Answer
answer_of core (Ok request) = answer_to core (sequence_of request) (event_of core request)
answer_of core (Err fault) = Malformed fault

abbrev pub core_of : CoreParts → Result Request RequestFault → CoreParts
core_of core (Ok request) = core_with core (event_of core request)
core_of core (Err fault) = core

-- the answers as they are written, one after another
abbrev pub replies_of : CoreParts → List Asked → List ℕ
replies_of core [] = []
replies_of core (asked ∷ others) =
    answer_text_of (answer_of core asked.request) ++ replies_of (core_of core asked.request) others

abbrev pub output_after : Limits → List ℕ → Result Configuration LineFault
    → Result (List ℕ) LineFault
output_after limits rest (Ok configuration) =
    Ok (replies_of (opened configuration limits) (requests_of rest))
output_after limits rest (Err fault) = Err fault

-- what a run over these bytes writes, or the fault of its configuration
unfoldable pub output_of : Limits → List ℕ → Result (List ℕ) LineFault
output_of limits bytes =
    output_after limits (rest_of EndLine bytes) (reading_in (configuration_of EndLine bytes))

-- the requests after an accepted configuration may get just these replies
abbrev pub OutputIsRun : Type 0
OutputIsRun =
    (limits : Limits) (bytes text : List ℕ) → output_of limits bytes ≡ Ok text
    → (configuration : Configuration)
    × (reading_in (configuration_of EndLine bytes) ≡ Ok configuration)
    × ((last : CoreParts)
    × Runs MayAnswer (opened configuration limits)
    (requests_of (rest_of EndLine bytes)) text last)

-- ---- if memory lasts and threads are started
-- the answer that says that memory ran out for what is asked, if there is one
abbrev pub unmet_without_memory : ℕ → Demand → Option Answer
unmet_without_memory sequence (AnEvent event) =
    option_map (Reply sequence) (no_memory_reply_of event)
unmet_without_memory sequence (AReload lines) = Some (reload_without_memory sequence)
unmet_without_memory sequence (ATrial workers lines) = Some (trial_without_memory sequence)

abbrev pub without_memory : Request → Option Answer
without_memory request = unmet_without_memory (sequence_of request) (demand_of request)

-- the answer to a request that says that a thread could not be started for it
abbrev pub without_thread : Request → Answer
without_thread request = TryRefused (sequence_of request) trial.NoThread

-- a core's answer to a request, which says neither; or the fault of a line that is none
abbrev pub AnsweredInMemory : CoreParts → Result Request RequestFault → Answer → CoreParts → Type 0
AnsweredInMemory old (Ok request) answer new =
    MayAnswer old request answer new × (without_memory request ≢ Some answer)
    × (without_thread request ≢ answer)
AnsweredInMemory old (Err fault) answer new = (answer ≡ Malformed fault) × (new ≡ old)

-- these requests may get this text as replies, one after another, and memory and threads are there
-- for each of them
abbrev pub RunsInMemory : CoreParts → List Asked → List ℕ → CoreParts → Type 0
RunsInMemory old [] text new = (text ≡ []) × (new ≡ old)
RunsInMemory old (asked ∷ others) text new =
    (answer : Answer) × (rest : List ℕ) × (mid : CoreParts)
    × AnsweredInMemory old asked.request answer mid × RunsInMemory mid others rest new
    × (text ≡ answer_text_of answer ++ rest)

-- the requests after an accepted configuration may get just these replies then
abbrev pub OutputIsRunInMemory : Type 0
OutputIsRunInMemory =
    (limits : Limits) (bytes text : List ℕ) → output_of limits bytes ≡ Ok text
    → (configuration : Configuration)
    × (reading_in (configuration_of EndLine bytes) ≡ Ok configuration)
    × ((last : CoreParts)
    × RunsInMemory (opened configuration limits)
    (requests_of (rest_of EndLine bytes)) text last)

-- and they may get no others
abbrev pub OutputIsOnlyRun : Type 0
OutputIsOnlyRun =
    (limits : Limits) (bytes text : List ℕ) (configuration : Configuration) (last : CoreParts)
    → reading_in (configuration_of EndLine bytes) ≡ Ok configuration
    → RunsInMemory (opened configuration limits) (requests_of (rest_of EndLine bytes)) text last
    → output_of limits bytes ≡ Ok text

-- ---- worked rows
-- lines as bytes, each with its line feed
abbrev pub bytes_of : List (List ℕ) → List ℕ
bytes_of lines = flat_map (λ line. line ++ 10 ∷ []) lines

-- a run over the first lines writes the second
abbrev pub Writes : Limits → List (List ℕ) → List (List ℕ) → Type 0
Writes limits input output = output_of limits (bytes_of input) ≡ Ok (bytes_of output)
