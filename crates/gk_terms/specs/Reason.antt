-- The reasons of H.225.0's refusals, as their words.
use Rattle.std.specs.Prelude.{ℕ, List, codes}
use Rattle.gk_terms.specs.declared.reasons.Reason.{Reason}
use Rattle.gk_terms.specs.declared.reasons.Reason.TheVariants.{CallerNotRegistered, CalledPartyNotRegistered, RequestDenied, ResourceUnavailable, UndefinedReason, DuplicateAlias, NotCurrentlyRegistered, CallInProgress, InvalidPermission, InsufficientResources, NotRegistered, RequestToDropOther}

-- the word of a reason
abbrev pub word_of : Reason → List ℕ
word_of CallerNotRegistered = codes "callerNotRegistered"
word_of CalledPartyNotRegistered = codes "calledPartyNotRegistered"
word_of RequestDenied = codes "requestDenied"
word_of ResourceUnavailable = codes "resourceUnavailable"
word_of UndefinedReason = codes "undefinedReason"
word_of DuplicateAlias = codes "duplicateAlias"
word_of NotCurrentlyRegistered = codes "notCurrentlyRegistered"
word_of CallInProgress = codes "callInProgress"
word_of InvalidPermission = codes "invalidPermission"
word_of InsufficientResources = codes "insufficientResources"
word_of NotRegistered = codes "notRegistered"
word_of RequestToDropOther = codes "requestToDropOther"
