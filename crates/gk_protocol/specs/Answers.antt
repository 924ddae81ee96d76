-- Answers as lines. Each stands as its words, with a space between each two.
use Rattle.std.specs.Prelude.{ℕ, min, List, [], ◌∷◌, ◌++◌, length, codes, decimal}
use Rattle.gk_terms.specs.Text.{line_text, raw_lines_of}
use Rattle.gk_terms.specs.Reason.{word_of}
use Rattle.gk_terms.specs.declared.reasons.Reason.TheVariants as reason
use Rattle.gk_commands.specs.Printing.{limit_word}
use Rattle.gk_commands.specs.declared.faults.FaultKind.{FaultKind}
use Rattle.gk_commands.specs.declared.faults.FaultKind.TheVariants as kind
use Rattle.bandwidth.specs.declared.over.Over.{Over}
use Rattle.bandwidth.specs.declared.over.Over.TheVariants as overs
use Rattle.rulings.specs.Routes.{destination_words, route_refusal_word}
use Rattle.registry.specs.declared.faults.Duplicate.{Duplicate}
use Rattle.registry.specs.declared.faults.Duplicate.TheVariants as duplicate
use Rattle.rulings.specs.declared.replies.RegisterRefusal.{RegisterRefusal}
use Rattle.rulings.specs.declared.replies.RegisterRefusal.TheVariants as register
use Rattle.rulings.specs.declared.replies.UnregisterRefusal.{UnregisterRefusal}
use Rattle.rulings.specs.declared.replies.UnregisterRefusal.TheVariants as unregister
use Rattle.rulings.specs.declared.replies.AdmitRefusal.{AdmitRefusal}
use Rattle.rulings.specs.declared.replies.AdmitRefusal.TheVariants as admit
use Rattle.rulings.specs.declared.replies.ChangeRefusal.{ChangeRefusal}
use Rattle.rulings.specs.declared.replies.ChangeRefusal.TheVariants as change
use Rattle.rulings.specs.declared.replies.ReleaseRefusal.{ReleaseRefusal}
use Rattle.rulings.specs.declared.replies.ReleaseRefusal.TheVariants as release
use Rattle.rulings.specs.declared.replies.ReloadRefusal.{ReloadRefusal}
use Rattle.rulings.specs.declared.replies.ReloadRefusal.TheVariants as reload
use Rattle.rulings.specs.declared.replies.Reply.{Reply as CoreReply}
use Rattle.rulings.specs.declared.replies.Reply.TheVariants as reply
use Rattle.gk_protocol.specs.declared.request_faults.RequestFault.{RequestFault}
use Rattle.gk_protocol.specs.declared.request_faults.RequestFault.TheVariants as fault
use Rattle.gk_protocol.specs.declared.answers.TrialRefusal.{TrialRefusal}
use Rattle.gk_protocol.specs.declared.answers.TrialRefusal.TheVariants as trial
use Rattle.gk_protocol.specs.declared.answers.Answer.{Answer}
use Rattle.gk_protocol.specs.declared.answers.Answer.TheVariants.{Reply, Misconfigured, Tried, TryRefused, Malformed}

-- ---- why a registration is refused
abbrev pub duplicate_word : Duplicate → List ℕ
duplicate_word duplicate.Id = codes "id"
duplicate_word duplicate.E164 = codes "e164"

abbrev pub register_refusal_words : RegisterRefusal → List (List ℕ)
register_refusal_words register.UnknownZone =
    word_of reason.UndefinedReason ∷ codes "unknown-zone" ∷ []
register_refusal_words (register.DuplicateAlias which) =
    word_of reason.DuplicateAlias ∷ duplicate_word which ∷ []
register_refusal_words register.EndpointsFull =
    word_of reason.UndefinedReason ∷ codes "endpoints-full" ∷ []
register_refusal_words register.RecordFull =
    word_of reason.UndefinedReason ∷ codes "record-full" ∷ []
register_refusal_words register.NoMemory = word_of reason.UndefinedReason ∷ codes "no-memory" ∷ []

-- ---- why an unregistration is refused
abbrev pub unregister_refusal_words : UnregisterRefusal → List (List ℕ)
unregister_refusal_words unregister.NotRegistered = word_of reason.NotCurrentlyRegistered ∷ []
unregister_refusal_words unregister.CallInProgress = word_of reason.CallInProgress ∷ []
unregister_refusal_words unregister.RecordFull =
    word_of reason.UndefinedReason ∷ codes "record-full" ∷ []
unregister_refusal_words unregister.NoMemory =
    word_of reason.UndefinedReason ∷ codes "no-memory" ∷ []

-- ---- which limit refuses
-- the kind of the limit with the zone whose limit it is; or remote
abbrev pub over_words : Over → List (List ℕ)
over_words (overs.Zone kind zone) = limit_word kind ∷ zone ∷ []
over_words overs.Remote = codes "remote" ∷ []

-- ---- why an admission is refused
abbrev pub admit_refusal_words : AdmitRefusal → List (List ℕ)
admit_refusal_words admit.CallerNotRegistered = word_of reason.CallerNotRegistered ∷ []
admit_refusal_words admit.CallOpen = word_of reason.UndefinedReason ∷ codes "call-open" ∷ []
admit_refusal_words (admit.NoRoute refusal) =
    word_of reason.CalledPartyNotRegistered ∷ route_refusal_word refusal ∷ []
admit_refusal_words (admit.OverLimit over) = word_of reason.RequestDenied ∷ over_words over
admit_refusal_words admit.CallsFull = word_of reason.ResourceUnavailable ∷ codes "calls-full" ∷ []
admit_refusal_words admit.RecordFull = word_of reason.ResourceUnavailable ∷ codes "record-full" ∷ []
admit_refusal_words admit.NoMemory = word_of reason.ResourceUnavailable ∷ codes "no-memory" ∷ []

-- ---- why another bandwidth is refused
abbrev pub change_refusal_words : ChangeRefusal → List (List ℕ)
change_refusal_words change.NoCall = word_of reason.UndefinedReason ∷ codes "no-call" ∷ []
change_refusal_words change.NotYours = word_of reason.InvalidPermission ∷ codes "not-yours" ∷ []
change_refusal_words (change.OverLimit over) =
    word_of reason.InsufficientResources ∷ over_words over
change_refusal_words change.RecordFull = word_of reason.UndefinedReason ∷ codes "record-full" ∷ []
change_refusal_words change.NoMemory = word_of reason.UndefinedReason ∷ codes "no-memory" ∷ []

-- ---- why a release is refused
abbrev pub release_refusal_words : ReleaseRefusal → List (List ℕ)
release_refusal_words release.NotRegistered = word_of reason.NotRegistered ∷ []
release_refusal_words release.NotYours = word_of reason.RequestToDropOther ∷ codes "not-yours" ∷ []
release_refusal_words release.NoCall = word_of reason.RequestToDropOther ∷ codes "no-call" ∷ []

-- ---- why a configuration is not replaced
abbrev pub reload_refusal_word : ReloadRefusal → List ℕ
reload_refusal_word reload.ReloadsSpent = codes "reloads-spent"
reload_refusal_word reload.RecordFull = codes "record-full"
reload_refusal_word reload.NoMemory = codes "no-memory"

-- ---- replies
abbrev pub reply_words : ℕ → CoreReply → List (List ℕ)
reply_words sequence (reply.Registered id zone) = codes "RCF" ∷ decimal sequence ∷ id ∷ zone ∷ []
reply_words sequence (reply.RegisterRefused id refusal) =
    codes "RRJ" ∷ decimal sequence ∷ id ∷ register_refusal_words refusal
reply_words sequence (reply.Unregistered id) = codes "UCF" ∷ decimal sequence ∷ id ∷ []
reply_words sequence (reply.UnregisterRefused id refusal) =
    codes "URJ" ∷ decimal sequence ∷ id ∷ unregister_refusal_words refusal
reply_words sequence (reply.Admitted call destination units) =
    codes "ACF" ∷ decimal sequence ∷ decimal call ∷ destination_words destination ++ decimal units
    ∷ []
reply_words sequence (reply.AdmitRefused call refusal) =
    codes "ARJ" ∷ decimal sequence ∷ decimal call ∷ admit_refusal_words refusal
reply_words sequence (reply.Changed call units) =
    codes "BCF" ∷ decimal sequence ∷ decimal call ∷ decimal units ∷ []
reply_words sequence (reply.ChangeRefused call refusal) =
    codes "BRJ" ∷ decimal sequence ∷ decimal call ∷ change_refusal_words refusal
reply_words sequence (reply.Released call) =
    codes "DCF" ∷ decimal sequence ∷ decimal call ∷ []
reply_words sequence (reply.ReleaseRefused call refusal) =
    codes "DRJ" ∷ decimal sequence ∷ decimal call ∷ release_refusal_words refusal
reply_words sequence (reply.Reloaded version) =
    codes "CCF" ∷ decimal sequence ∷ decimal version ∷ []
reply_words sequence (reply.ReloadRefused refusal) =
    codes "CRJ" ∷ decimal sequence ∷ codes "0" ∷ reload_refusal_word refusal ∷ []

-- ---- lines that are no configuration
-- the name of the kind of a fault
abbrev pub kind_word : FaultKind → List ℕ
kind_word kind.TooLong = codes "TooLong"
kind_word kind.UnknownCommand = codes "UnknownCommand"
kind_word kind.Unsupported = codes "Unsupported"
kind_word kind.Missing = codes "Missing"
kind_word kind.Extra = codes "Extra"
kind_word kind.BadName = codes "BadName"
kind_word kind.BadPattern = codes "BadPattern"
kind_word kind.BadNumber = codes "BadNumber"
kind_word kind.BadAddress = codes "BadAddress"
kind_word kind.UnknownZone = codes "UnknownZone"
kind_word kind.DuplicateZone = codes "DuplicateZone"
kind_word kind.NoLocalZone = codes "NoLocalZone"
kind_word kind.TooMany = codes "TooMany"
kind_word kind.NoMemory = codes "NoMemory"

-- ---- lines that are no requests
-- the word of a fault
abbrev pub fault_word : RequestFault → List ℕ
fault_word fault.LineTooLong = codes "line"
fault_word fault.UnknownWord = codes "word"
fault_word fault.BadSequence = codes "seq"
fault_word fault.Missing = codes "missing"
fault_word fault.Extra = codes "extra"
fault_word fault.BadOption = codes "option"
fault_word fault.BadName = codes "name"
fault_word fault.BadAddress = codes "address"
fault_word fault.BadDigits = codes "digits"
fault_word fault.BadNumber = codes "number"
fault_word fault.CutShort = codes "cut"

-- ---- trials
-- how many lines a report has; 4,294,967,295 if there are more
abbrev pub report_lines : List ℕ → ℕ
report_lines report = min (length (raw_lines_of report)) 4294967295

-- why there is no trial: the line that is at fault, or 0, and the word
abbrev pub trial_refusal_words : TrialRefusal → List (List ℕ)
trial_refusal_words trial.BadWorkers = codes "0" ∷ codes "bad-workers" ∷ []
trial_refusal_words (trial.Misconfigured fault) = decimal fault.line ∷ kind_word fault.kind ∷ []
trial_refusal_words trial.NoThread = codes "0" ∷ codes "no-thread" ∷ []
trial_refusal_words trial.NoMemory = codes "0" ∷ codes "no-memory" ∷ []

-- ---- answers
abbrev pub answer_words_of : Answer → List (List ℕ)
answer_words_of (Reply sequence reply) = reply_words sequence reply
answer_words_of (Misconfigured sequence fault) =
    codes "CRJ" ∷ decimal sequence ∷ decimal fault.line ∷ kind_word fault.kind ∷ []
answer_words_of (Tried sequence report) =
    codes "TCF" ∷ decimal sequence ∷ decimal (report_lines report) ∷ []
answer_words_of (TryRefused sequence refusal) =
    codes "TRJ" ∷ decimal sequence ∷ trial_refusal_words refusal
answer_words_of (Malformed fault) = codes "ERR" ∷ fault_word fault ∷ []

-- an answer's first line, with its line feed
abbrev pub answer_line_of : Answer → List ℕ
answer_line_of answer = line_text (answer_words_of answer)

-- the lines after it
abbrev pub answer_body_of : Answer → List ℕ
answer_body_of (Reply sequence reply) = []
answer_body_of (Misconfigured sequence fault) = []
answer_body_of (Tried sequence report) = report
answer_body_of (TryRefused sequence refusal) = []
answer_body_of (Malformed fault) = []

-- an answer as it is written
abbrev pub answer_text_of : Answer → List ℕ
answer_text_of answer = answer_line_of answer ++ answer_body_of answer
