-- Worked rows: what a run over these lines writes, by the definitions alone.
use Rattle.std.specs.Prelude.{ℕ, List, [], ◌∷◌, ◌++◌, codes, replicate}
use Rattle.rulings.specs.declared.limits.Limits.{Limits}
use Rattle.run_laws.specs.Output.{Writes}

-- the stated limits
abbrev pub stated : Limits
stated = record { endpoints = 10000; calls = 50000; records = 1000000; reloads = 4096 }

-- two zones: gk-a here, and gk-x of another gatekeeper
abbrev pub configuration : List (List ℕ)
configuration =
    codes "zone local gk-a example.com" ∷ codes "zone remote gk-x example.com 10.9.0.1"
    ∷ codes "zone prefix gk-a 408*"
    ∷ codes "zone prefix gk-x 9*" ∷ codes "end" ∷ []

-- calls to a terminal of the caller's zone, to another gatekeeper, and to nobody
abbrev pub FirstRun : Type 0
FirstRun = Writes stated
    (configuration ++ codes "RRQ 1 TERM ta gk-a 10.0.1.1:1720 e164=4085551000"
    ∷ codes "ARQ 2 ta 1001 4085551000 640"
    ∷ codes "ARQ 3 ta 1002 9123 640" ∷ codes "ARQ 4 ta 1003 4085559999 640" ∷ [])
    (codes "RCF 1 ta gk-a" ∷ codes "ACF 2 1001 TERM ta 10.0.1.1:1720 640"
    ∷ codes "ACF 3 1002 ZONE gk-x 10.9.0.1:1719 640"
    ∷ codes "ARJ 4 1003 calledPartyNotRegistered no-default" ∷ [])

-- a number that is open, and who may not unregister
abbrev pub open_call_requests : List (List ℕ)
open_call_requests =
    codes "RRQ 1 TERM ta gk-a 10.0.1.1:1720 e164=4085551000" ∷ codes "ARQ 2 ta 1001 9123 640"
    ∷ codes "ARQ 3 ta 1001 9123 640" ∷ codes "URQ 4 ta" ∷ codes "URQ 5 tb" ∷ []

abbrev pub OpenCall : Type 0
OpenCall = Writes stated (configuration ++ open_call_requests)
    (codes "RCF 1 ta gk-a" ∷ codes "ACF 2 1001 ZONE gk-x 10.9.0.1:1719 640"
    ∷ codes "ARJ 3 1001 undefinedReason call-open"
    ∷ codes "URJ 4 ta callInProgress" ∷ codes "URJ 5 tb notCurrentlyRegistered" ∷ [])

-- the same, and the record has room for only five entries, one of which the open call keeps
abbrev pub FullRecord : Type 0
FullRecord = Writes (record stated { records = 5 }) (configuration ++ open_call_requests)
    (codes "RCF 1 ta gk-a" ∷ codes "ACF 2 1001 ZONE gk-x 10.9.0.1:1719 640"
    ∷ codes "ARJ 3 1001 undefinedReason call-open"
    ∷ codes "URJ 4 ta callInProgress" ∷ codes "URJ 5 tb undefinedReason record-full" ∷ [])

-- a stranger
abbrev pub Stranger : Type 0
Stranger = Writes stated (configuration ++ codes "ARQ 1 nobody 1001 4085551234 640" ∷ [])
    (codes "ARJ 1 1001 callerNotRegistered" ∷ [])

-- lines that are not requests, each with its first fault; an empty one gets no reply
abbrev pub Faults : Type 0
Faults = Writes stated
    (configuration ++ [] ∷ codes "XYZ 1" ∷ codes "ARQ 0 ta 1 9 0" ∷ codes "ARQ 5 ta 1001 9123"
    ∷ codes "ARQ 5 ta 1001 9123 640 x"
    ∷ codes "ARQ 5 ta 0 9123 640" ∷ codes "RRQ 5 TERM tb gk-a 10.0.0.300"
    ∷ codes "RRQ 5 PBX tb gk-a 10.0.0.3"
    ∷ replicate 513 97 ∷ [])
    (codes "ERR word" ∷ codes "ERR seq" ∷ codes "ERR missing" ∷ codes "ERR extra"
    ∷ codes "ERR number" ∷ codes "ERR address"
    ∷ codes "ERR option" ∷ codes "ERR line" ∷ [])

-- ---- a dial plan
-- two zones here, and two of other gatekeepers, of which gk-y is the cheaper; and where 9 leads
abbrev pub zones : List (List ℕ) → List (List ℕ)
zones nines =
    codes "gatekeeper" ∷ codes " zone local gk-a example.com 10.0.0.1"
    ∷ codes " zone local gk-b example.com"
    ∷ codes " zone remote gk-x example.com 10.9.0.1 1719 cost 50"
    ∷ codes " zone remote gk-y example.com 10.9.0.2 1719 cost 20"
    ∷ codes " zone prefix gk-a 408*" ∷ codes " zone prefix gk-b 4085......" ∷ nines

-- a default technology, if it is set; a hop-off zone; limits; and lines that are added
abbrev pub plan_over : List (List ℕ) → List (List ℕ) → List (List ℕ) → List (List ℕ)
plan_over nines default added =
    zones nines ++ default ++ codes " gw-type-prefix 2# hopoff gk-x"
    ∷ codes " bandwidth total zone gk-a 256" ∷ codes " bandwidth session default 128"
    ∷ added ++ codes " no shutdown" ∷ codes "end" ∷ []

abbrev pub dial_plan : List (List ℕ) → List (List ℕ) → List (List ℕ)
dial_plan default added =
    plan_over (codes " zone prefix gk-x 9*" ∷ codes " zone prefix gk-y 9*" ∷ []) default added

abbrev pub default_technology : List (List ℕ)
default_technology = codes " gw-type-prefix 1#* default-technology" ∷ []

-- a terminal and a gateway in gk-a, two gateways in gk-b, and further requests
abbrev pub after_endpoints : List (List ℕ) → List (List ℕ)
after_endpoints requests =
    codes "RRQ 1 TERM ta gk-a 10.0.1.1:1720 e164=5551000"
    ∷ codes "RRQ 2 GW ga gk-a 10.0.1.2:1720 tech=1#"
    ∷ codes "RRQ 3 GW gb1 gk-b 10.0.2.1:1720 tech=1#"
    ∷ codes "RRQ 4 GW gb2 gk-b 10.0.2.2:1720 tech=1#" ∷ requests

abbrev pub after_registered : List (List ℕ) → List (List ℕ)
after_registered replies =
    codes "RCF 1 ta gk-a" ∷ codes "RCF 2 ga gk-a" ∷ codes "RCF 3 gb1 gk-b" ∷ codes "RCF 4 gb2 gk-b"
    ∷ replies

-- the longest pattern, the cheaper zone, and a hop-off zone
abbrev pub ByPatternCostAndHopoff : Type 0
ByPatternCostAndHopoff = Writes stated
    (dial_plan default_technology []
    ++ after_endpoints (codes "ARQ 5 ta 1001 4085551234 640" ∷ codes "ARQ 6 ta 1002 40855512345 640"
    ∷ codes "ARQ 7 ta 1003 9123 640" ∷ codes "ARQ 8 ta 1004 2#4085551234 640" ∷ []))
    (after_registered (codes "ACF 5 1001 GW gb1 10.0.2.1:1720 640"
    ∷ codes "ACF 6 1002 GW ga 10.0.1.2:1720 640" ∷ codes "ACF 7 1003 ZONE gk-y 10.9.0.2:1719 640"
    ∷ codes "ACF 8 1004 ZONE gk-x 10.9.0.1:1719 640" ∷ []))

-- a technology prefix alone, after which no digits are left
abbrev pub PrefixAlone : Type 0
PrefixAlone = Writes stated
    (dial_plan default_technology []
    ++ after_endpoints (codes "ARQ 5 ta 1001 1# 640" ∷ []))
    (after_registered (codes "ACF 5 1001 GW ga 10.0.1.2:1720 640" ∷ []))

-- the gateway of the greatest priority, and the next when that has gone
abbrev pub GreatestPriority : Type 0
GreatestPriority = Writes stated
    (dial_plan default_technology (codes " zone prefix gk-b 4085...... gw-priority 10 gb2" ∷ [])
    ++ after_endpoints (codes "ARQ 5 ta 1001 1#4085551234 640" ∷ codes "URQ 6 gb2"
    ∷ codes "ARQ 7 ta 1002 1#4085551234 640" ∷ []))
    (after_registered (codes "ACF 5 1001 GW gb2 10.0.2.2:1720 640" ∷ codes "UCF 6 gb2"
    ∷ codes "ACF 7 1002 GW gb1 10.0.2.1:1720 640" ∷ []))

-- no gateway of priority 0
abbrev pub PriorityZero : Type 0
PriorityZero = Writes stated
    (dial_plan default_technology (codes " zone prefix gk-b 4085...... gw-priority 0 gb1 gb2" ∷ [])
    ++ after_endpoints (codes "ARQ 5 ta 1001 1#4085551234 640" ∷ []))
    (after_registered (codes "ARJ 5 1001 calledPartyNotRegistered no-gateway" ∷ []))

-- digits that no pattern matches are rejected
abbrev pub UnknownPrefix : Type 0
UnknownPrefix = Writes stated
    (dial_plan default_technology (codes " arq reject-unknown-prefix" ∷ [])
    ++ after_endpoints (codes "ARQ 5 ta 1001 1# 640" ∷ []))
    (after_registered (codes "ARJ 5 1001 calledPartyNotRegistered unknown-prefix" ∷ []))

-- an alias, and else the default technology; a call within one zone counts there once, so these
-- take 2560 of its 2560
abbrev pub AliasOrDefault : Type 0
AliasOrDefault = Writes stated
    (dial_plan default_technology []
    ++ after_endpoints (codes "ARQ 5 ga 1001 5551000 640" ∷ codes "ARQ 6 ga 1002 5552000 640"
    ∷ codes "ARQ 7 ga 1003 5552000 1280" ∷ []))
    (after_registered (codes "ACF 5 1001 TERM ta 10.0.1.1:1720 640"
    ∷ codes "ACF 6 1002 GW ga 10.0.1.2:1720 640" ∷ codes "ACF 7 1003 GW ga 10.0.1.2:1720 1280"
    ∷ []))

-- no default technology is set
abbrev pub NoDefault : Type 0
NoDefault = Writes stated
    (dial_plan [] [] ++ after_endpoints (codes "ARQ 5 ta 1001 5552000 640" ∷ []))
    (after_registered (codes "ARJ 5 1001 calledPartyNotRegistered no-default" ∷ []))

-- an endpoint that registers again, with other aliases
abbrev pub OtherAliases : Type 0
OtherAliases = Writes stated
    (dial_plan default_technology []
    ++ after_endpoints (codes "RRQ 5 TERM tb gk-x 10.0.1.9:1720"
    ∷ codes "RRQ 6 TERM tb - 10.0.1.9 e164=5551000" ∷ codes "RRQ 7 TERM ta gk-a 10.0.1.8"
    ∷ codes "RRQ 8 TERM ta gk-a 10.0.1.1 e164=5551001" ∷ codes "ARQ 9 ga 1001 5551000 640"
    ∷ codes "ARQ 10 ga 1002 5551001 640" ∷ codes "RRQ 11 TERM tc - 10.0.1.7 e164=7 e164=7" ∷ []))
    (after_registered (codes "RRJ 5 tb undefinedReason unknown-zone"
    ∷ codes "RRJ 6 tb duplicateAlias e164" ∷ codes "RRJ 7 ta duplicateAlias id"
    ∷ codes "RCF 8 ta gk-a" ∷ codes "ACF 9 1001 GW ga 10.0.1.2:1720 640"
    ∷ codes "ACF 10 1002 TERM ta 10.0.1.1:1720 640" ∷ codes "RCF 11 tc gk-a" ∷ []))

-- digits of 32 characters, of 33, and with a comma
abbrev pub LongDigits : Type 0
LongDigits = Writes stated
    (dial_plan default_technology []
    ++ after_endpoints (codes "ARQ 5 ta 1001 90000000000000000000000000000000 640"
    ∷ codes "ARQ 6 ta 1002 900000000000000000000000000000000 640" ∷ codes "ARQ 7 ta 1003 9,1 640"
    ∷ []))
    (after_registered (codes "ACF 5 1001 ZONE gk-y 10.9.0.2:1719 640" ∷ codes "ERR digits"
    ∷ codes "ERR digits" ∷ []))

-- ---- technology prefixes that gateways gave
-- a gateway with a prefix of its own, which counts until it leaves
abbrev pub LearnedUntilItLeaves : Type 0
LearnedUntilItLeaves = Writes stated
    (dial_plan default_technology []
    ++ after_endpoints (codes "RRQ 5 GW gc gk-a 10.0.1.3:1720 tech=91"
    ∷ codes "ARQ 6 ta 1001 9123 640" ∷ codes "URQ 7 gc" ∷ codes "ARQ 8 ta 1002 9123 640" ∷ []))
    (after_registered (codes "RCF 5 gc gk-a" ∷ codes "ACF 6 1001 GW gc 10.0.1.3:1720 640"
    ∷ codes "UCF 7 gc" ∷ codes "ACF 8 1002 ZONE gk-y 10.9.0.2:1719 640" ∷ []))

-- a longer one than the one that has a hop-off zone
abbrev pub LearnedBeforeHopoff : Type 0
LearnedBeforeHopoff = Writes stated
    (dial_plan default_technology []
    ++ after_endpoints (codes "RRQ 5 GW gd gk-b 10.0.2.3:1720 tech=2#4"
    ∷ codes "ARQ 6 ta 1003 2#4085551234 640" ∷ []))
    (after_registered (codes "RCF 5 gd gk-b"
    ∷ codes "ARJ 6 1003 calledPartyNotRegistered no-gateway" ∷ []))

-- one that a terminal gave does not count
abbrev pub NoneLearnedFromTerminals : Type 0
NoneLearnedFromTerminals = Writes stated
    (dial_plan default_technology []
    ++ after_endpoints (codes "RRQ 5 TERM td gk-a 10.0.1.4 tech=5"
    ∷ codes "ARQ 6 ga 1004 5551000 640" ∷ []))
    (after_registered (codes "RCF 5 td gk-a" ∷ codes "ACF 6 1004 TERM ta 10.0.1.1:1720 640" ∷ []))

-- one that no line declares
abbrev pub LearnedUndeclared : Type 0
LearnedUndeclared = Writes stated
    (dial_plan [] [] ++ after_endpoints (codes "ARQ 5 ta 1001 1#4085551234 640" ∷ []))
    (after_registered (codes "ACF 5 1001 GW gb1 10.0.2.1:1720 640" ∷ []))

-- ---- bandwidth limits
-- two calls take all that a zone may have, and one of 0 units still fits
abbrev pub FullTotal : Type 0
FullTotal = Writes stated
    (dial_plan default_technology []
    ++ after_endpoints (codes "ARQ 5 ta 1001 9123 1280" ∷ codes "ARQ 6 ta 1002 9124 1280"
    ∷ codes "ARQ 7 ta 1003 9125 1" ∷ codes "ARQ 8 ta 1003 9125 0" ∷ []))
    (after_registered (codes "ACF 5 1001 ZONE gk-y 10.9.0.2:1719 1280"
    ∷ codes "ACF 6 1002 ZONE gk-y 10.9.0.2:1719 1280"
    ∷ codes "ARJ 7 1003 requestDenied total gk-a"
    ∷ codes "ACF 8 1003 ZONE gk-y 10.9.0.2:1719 0" ∷ []))

-- one that asks for more than a call may have is refused for that first
abbrev pub SessionBeforeTotal : Type 0
SessionBeforeTotal = Writes stated
    (dial_plan default_technology []
    ++ after_endpoints (codes "ARQ 5 ta 1001 9123 1280" ∷ codes "ARQ 6 ta 1002 9124 1280"
    ∷ codes "ARQ 7 ta 1003 9125 1281" ∷ []))
    (after_registered (codes "ACF 5 1001 ZONE gk-y 10.9.0.2:1719 1280"
    ∷ codes "ACF 6 1002 ZONE gk-y 10.9.0.2:1719 1280"
    ∷ codes "ARJ 7 1003 requestDenied session gk-a" ∷ []))

-- calls between two zones, limited at both
abbrev pub BetweenZones : Type 0
BetweenZones = Writes stated
    (dial_plan default_technology
    (codes " bandwidth interzone zone gk-a 100" ∷ codes " bandwidth interzone zone gk-b 64" ∷ [])
    ++ after_endpoints (codes "ARQ 5 ta 1001 4085551234 1280" ∷ codes "ARQ 6 ta 1001 4085551234 900"
    ∷ codes "ARQ 7 ta 1001 4085551234 640" ∷ []))
    (after_registered (codes "ARJ 5 1001 requestDenied interzone gk-a"
    ∷ codes "ARJ 6 1001 requestDenied interzone gk-b"
    ∷ codes "ACF 7 1001 GW gb1 10.0.2.1:1720 640" ∷ []))

-- all calls to zones of other gatekeepers together
abbrev pub ToRemoteZones : Type 0
ToRemoteZones = Writes stated
    (dial_plan default_technology (codes " bandwidth remote 63" ∷ [])
    ++ after_endpoints (codes "ARQ 5 ta 1001 9123 640" ∷ []))
    (after_registered (codes "ARJ 5 1001 requestDenied remote" ∷ []))

-- ---- bandwidth changes and releases
-- a raise above what a call may have, the same amount, and less
abbrev pub RaisedAndLowered : Type 0
RaisedAndLowered = Writes stated
    (dial_plan default_technology []
    ++ after_endpoints (codes "ARQ 5 ta 1001 9123 1280" ∷ codes "ARQ 6 ta 1002 9124 1280"
    ∷ codes "BRQ 7 ta 1002 1281" ∷ codes "BRQ 8 ta 1002 1280" ∷ codes "BRQ 9 ta 1002 640" ∷ []))
    (after_registered (codes "ACF 5 1001 ZONE gk-y 10.9.0.2:1719 1280"
    ∷ codes "ACF 6 1002 ZONE gk-y 10.9.0.2:1719 1280"
    ∷ codes "BRJ 7 1002 insufficientResources session gk-a" ∷ codes "BCF 8 1002 1280"
    ∷ codes "BCF 9 1002 640" ∷ []))

-- a call counts in its target zone too
abbrev pub CountedInTargetZone : Type 0
CountedInTargetZone = Writes stated
    (dial_plan default_technology (codes " bandwidth total zone gk-b 100" ∷ [])
    ++ after_endpoints (codes "ARQ 5 ta 1001 4085551234 1000" ∷ codes "ARQ 6 gb1 1002 9123 1" ∷ []))
    (after_registered (codes "ACF 5 1001 GW gb1 10.0.2.1:1720 1000"
    ∷ codes "ARJ 6 1002 requestDenied total gk-b" ∷ []))

-- a call is changed and released by its owner alone, and is gone after its release
abbrev pub ByOwnerAlone : Type 0
ByOwnerAlone = Writes stated
    (dial_plan default_technology []
    ++ after_endpoints (codes "ARQ 5 ta 1001 9123 640" ∷ codes "ARQ 6 ta 1001 9123 640"
    ∷ codes "URQ 7 ta" ∷ codes "DRQ 8 ga 1001" ∷ codes "BRQ 9 ga 1001 0" ∷ codes "DRQ 10 ta 1001"
    ∷ codes "DRQ 11 ta 1001" ∷ codes "DRQ 12 nobody 1001" ∷ codes "BRQ 13 ta 1001 5" ∷ []))
    (after_registered (codes "ACF 5 1001 ZONE gk-y 10.9.0.2:1719 640"
    ∷ codes "ARJ 6 1001 undefinedReason call-open" ∷ codes "URJ 7 ta callInProgress"
    ∷ codes "DRJ 8 1001 requestToDropOther not-yours"
    ∷ codes "BRJ 9 1001 invalidPermission not-yours" ∷ codes "DCF 10 1001"
    ∷ codes "DRJ 11 1001 requestToDropOther no-call" ∷ codes "DRJ 12 1001 notRegistered"
    ∷ codes "BRJ 13 1001 undefinedReason no-call" ∷ []))

-- ---- answers of those who are called
-- a call that comes in, one that is above a limit, and an answer of a call that was admitted, which
-- takes nothing whatever it asks; nobody else answers that call, nor the owner one that came in
abbrev pub AnsweredCalls : Type 0
AnsweredCalls = Writes stated
    (dial_plan default_technology []
    ++ after_endpoints (codes "ANS 5 gb1 2001 1280" ∷ codes "ANS 6 ta 2002 1281"
    ∷ codes "ARQ 7 ta 1001 4085551234 640" ∷ codes "ANS 8 gb1 1001 5000"
    ∷ codes "ANS 9 gb2 1001 640" ∷ codes "ANS 11 gb1 2001 0" ∷ codes "DRQ 12 gb1 1001"
    ∷ codes "DRQ 13 gb1 2001" ∷ []))
    (after_registered (codes "ACF 5 2001 GW gb1 10.0.2.1:1720 1280"
    ∷ codes "ARJ 6 2002 requestDenied session gk-a"
    ∷ codes "ACF 7 1001 GW gb1 10.0.2.1:1720 640" ∷ codes "ACF 8 1001 GW gb1 10.0.2.1:1720 640"
    ∷ codes "ARJ 9 1001 undefinedReason call-open"
    ∷ codes "ARJ 11 2001 undefinedReason call-open"
    ∷ codes "DRJ 12 1001 requestToDropOther not-yours" ∷ codes "DCF 13 2001" ∷ []))

-- a call that comes in counts against the limit of all calls to and from other gatekeepers
abbrev pub AnswerAboveRemote : Type 0
AnswerAboveRemote = Writes stated
    (dial_plan default_technology (codes " bandwidth remote 63" ∷ [])
    ++ after_endpoints (codes "ANS 5 gb1 2001 640" ∷ []))
    (after_registered (codes "ARJ 5 2001 requestDenied remote" ∷ []))

-- and is between two zones in the zone of the endpoint that answers it
abbrev pub AnswerBetweenZones : Type 0
AnswerBetweenZones = Writes stated
    (dial_plan default_technology (codes " bandwidth interzone zone gk-b 64" ∷ [])
    ++ after_endpoints (codes "ANS 5 gb1 2001 641" ∷ []))
    (after_registered (codes "ARJ 5 2001 requestDenied interzone gk-b" ∷ []))

-- one to which a call was admitted comes back at another address; a stranger does not answer
abbrev pub AnsweredElsewhere : Type 0
AnsweredElsewhere = Writes stated
    (dial_plan default_technology []
    ++ after_endpoints (codes "ARQ 5 ta 1001 4085551234 640" ∷ codes "URQ 6 gb1"
    ∷ codes "ANS 7 gb1 1001 640" ∷ codes "RRQ 8 TERM gb1 gk-a 10.0.1.9"
    ∷ codes "ANS 9 gb1 1001 640" ∷ []))
    (after_registered (codes "ACF 5 1001 GW gb1 10.0.2.1:1720 640" ∷ codes "UCF 6 gb1"
    ∷ codes "ARJ 7 1001 callerNotRegistered" ∷ codes "RCF 8 gb1 gk-a"
    ∷ codes "ACF 9 1001 TERM gb1 10.0.1.9:1720 640" ∷ []))

-- one call and six entries: an answer of the open call meets no full table of calls and needs one
-- place of the record, and one that would open another call is refused
abbrev pub AnswersWithFullCounts : Type 0
AnswersWithFullCounts =
    Writes (record { endpoints = 2; calls = 1; records = 6; reloads = 1 })
    (configuration ++ codes "RRQ 1 TERM ta gk-a 10.0.1.1:1720 e164=4085551000"
    ∷ codes "RRQ 2 TERM tb gk-a 10.0.1.2" ∷ codes "ARQ 3 tb 1001 4085551000 640"
    ∷ codes "ANS 4 ta 1002 0" ∷ codes "ANS 5 ta 1001 5" ∷ codes "ANS 6 ta 1001 640"
    ∷ codes "ANS 7 ta 1001 640" ∷ codes "DRQ 8 tb 1001" ∷ codes "ANS 9 ta 1003 0" ∷ [])
    (codes "RCF 1 ta gk-a" ∷ codes "RCF 2 tb gk-a"
    ∷ codes "ACF 3 1001 TERM ta 10.0.1.1:1720 640"
    ∷ codes "ARJ 4 1002 resourceUnavailable calls-full"
    ∷ codes "ACF 5 1001 TERM ta 10.0.1.1:1720 640" ∷ codes "ACF 6 1001 TERM ta 10.0.1.1:1720 640"
    ∷ codes "ARJ 7 1001 resourceUnavailable record-full" ∷ codes "DCF 8 1001"
    ∷ codes "ARJ 9 1003 resourceUnavailable record-full" ∷ [])

-- two calls and four entries: a call that comes in keeps a place for its release
abbrev pub AnswerKeepsPlace : Type 0
AnswerKeepsPlace =
    Writes (record { endpoints = 1; calls = 2; records = 4; reloads = 1 })
    (configuration ++ codes "RRQ 1 TERM ta gk-a 10.0.1.1" ∷ codes "ANS 2 ta 2001 640"
    ∷ codes "ANS 3 ta 2002 0" ∷ codes "ANS 4 ta 2001 640" ∷ codes "ANS 5 nobody 2001 640"
    ∷ codes "DRQ 6 ta 2001" ∷ [])
    (codes "RCF 1 ta gk-a" ∷ codes "ACF 2 2001 TERM ta 10.0.1.1:1720 640"
    ∷ codes "ARJ 3 2002 resourceUnavailable record-full"
    ∷ codes "ARJ 4 2001 undefinedReason call-open"
    ∷ codes "ARJ 5 2001 resourceUnavailable record-full" ∷ codes "DCF 6 2001" ∷ [])

-- ---- reloads
-- the dial plan with other lines in the place of the prefix of gk-a and of the total of gk-a, and
-- without gk-b if it is left out
abbrev pub reloaded_lines : List (List ℕ) → List (List ℕ) → List (List ℕ)
    → List (List ℕ)
reloaded_lines second_zone prefixes limits =
    codes "gatekeeper" ∷ codes " zone local gk-a example.com 10.0.0.1"
    ∷ second_zone ++ codes " zone remote gk-x example.com 10.9.0.1 1719 cost 50"
    ∷ codes " zone remote gk-y example.com 10.9.0.2 1719 cost 20"
    ∷ prefixes ++ codes " zone prefix gk-x 9*" ∷ codes " zone prefix gk-y 9*"
    ∷ codes " gw-type-prefix 1#* default-technology" ∷ codes " gw-type-prefix 2# hopoff gk-x"
    ∷ limits ++ codes " bandwidth session default 128" ∷ codes " no shutdown" ∷ codes "end" ∷ []

-- the new configuration routes
abbrev pub RoutedByNewLines : Type 0
RoutedByNewLines = Writes stated
    (dial_plan default_technology []
    ++ after_endpoints (codes "CFG 5 15"
    ∷ reloaded_lines (codes " zone local gk-b example.com" ∷ [])
    (codes " zone prefix gk-x 408*" ∷ codes " zone prefix gk-b 4085......" ∷ [])
    (codes " bandwidth total zone gk-a 256" ∷ [])
    ++ codes "ARQ 6 ta 1001 40855512345 640" ∷ []))
    (after_registered (codes "CCF 5 2" ∷ codes "ACF 6 1001 ZONE gk-x 10.9.0.1:1719 640" ∷ []))

-- open calls stay, and count against its limits
abbrev pub LimitedByNewLines : Type 0
LimitedByNewLines = Writes stated
    (dial_plan default_technology []
    ++ after_endpoints (codes "ARQ 5 ta 1001 9123 1280" ∷ codes "ARQ 6 ta 1002 9124 1280"
    ∷ codes "CFG 7 15"
    ∷ reloaded_lines (codes " zone local gk-b example.com" ∷ [])
    (codes " zone prefix gk-a 408*" ∷ codes " zone prefix gk-b 4085......" ∷ [])
    (codes " bandwidth total zone gk-a 100" ∷ [])
    ++ codes "ARQ 8 ta 1003 9125 0" ∷ codes "BRQ 9 ta 1001 1280" ∷ codes "BRQ 10 ta 1001 640"
    ∷ codes "BRQ 11 ta 1001 641" ∷ codes "DRQ 12 ta 1002" ∷ codes "BRQ 13 ta 1001 1000" ∷ []))
    (after_registered (codes "ACF 5 1001 ZONE gk-y 10.9.0.2:1719 1280"
    ∷ codes "ACF 6 1002 ZONE gk-y 10.9.0.2:1719 1280" ∷ codes "CCF 7 2"
    ∷ codes "ARJ 8 1003 requestDenied total gk-a" ∷ codes "BCF 9 1001 1280"
    ∷ codes "BCF 10 1001 640" ∷ codes "BRJ 11 1001 insufficientResources total gk-a"
    ∷ codes "DCF 12 1002" ∷ codes "BCF 13 1001 1000" ∷ []))

-- one to whom a call was admitted answers it above a lowered total, and nothing else is given
abbrev pub AnsweredAboveNewLines : Type 0
AnsweredAboveNewLines = Writes stated
    (dial_plan default_technology []
    ++ after_endpoints (codes "ARQ 5 ta 1001 4085551234 1280" ∷ codes "CFG 6 15"
    ∷ reloaded_lines (codes " zone local gk-b example.com" ∷ [])
    (codes " zone prefix gk-a 408*" ∷ codes " zone prefix gk-b 4085......" ∷ [])
    (codes " bandwidth total default 100" ∷ [])
    ++ codes "ANS 7 gb1 1001 1280" ∷ codes "ANS 8 gb1 2001 0" ∷ []))
    (after_registered (codes "ACF 5 1001 GW gb1 10.0.2.1:1720 1280" ∷ codes "CCF 6 2"
    ∷ codes "ACF 7 1001 GW gb1 10.0.2.1:1720 1280"
    ∷ codes "ARJ 8 2001 requestDenied total gk-b" ∷ []))

-- a registration goes with its zone, and its call stays
abbrev pub WithoutSecondZone : Type 0
WithoutSecondZone = Writes stated
    (dial_plan default_technology []
    ++ after_endpoints (codes "ARQ 5 gb1 1001 9123 640" ∷ codes "CFG 6 13"
    ∷ reloaded_lines [] (codes " zone prefix gk-a 408*" ∷ [])
    (codes " bandwidth total zone gk-a 256" ∷ [])
    ++ codes "ARQ 7 gb1 1002 9123 640" ∷ codes "DRQ 8 gb1 1001" ∷ codes "URQ 9 gb1" ∷ []))
    (after_registered (codes "ACF 5 1001 ZONE gk-y 10.9.0.2:1719 640" ∷ codes "CCF 6 2"
    ∷ codes "ARJ 7 1002 callerNotRegistered" ∷ codes "DCF 8 1001"
    ∷ codes "URJ 9 gb1 notCurrentlyRegistered" ∷ []))

-- reloads of lines that are not a configuration, each with its first fault, and one reload that is
-- cut short
abbrev pub FaultyReloads : Type 0
FaultyReloads = Writes stated
    (dial_plan default_technology []
    ++ after_endpoints (codes "CFG 5 3" ∷ codes "zone local gk-a example.com"
    ∷ codes "zone prefix gk-a 408*" ∷ codes "zone prefix gk-z 9*"
    ∷ codes "CFG 6 1" ∷ replicate 513 97 ∷ codes "CFG 7 0" ∷ codes "CFG 8 15"
    ∷ dial_plan default_technology []
    ++ codes "CFG 9 3" ∷ codes "zone local gk-a example.com" ∷ codes "zone prefix gk-a 408*" ∷ []))
    (after_registered (codes "CRJ 5 3 UnknownZone" ∷ codes "CRJ 6 1 TooLong"
    ∷ codes "CRJ 7 1 NoLocalZone" ∷ codes "CCF 8 2" ∷ codes "ERR cut" ∷ []))

-- limits of one endpoint, one call, four entries and one reload
abbrev pub SmallestLimits : Type 0
SmallestLimits =
    Writes (record { endpoints = 1; calls = 1; records = 4; reloads = 1 })
    (dial_plan default_technology []
    ++ codes "RRQ 1 TERM ta gk-a 10.0.1.1" ∷ codes "RRQ 2 TERM tb gk-a 10.0.1.2"
    ∷ codes "ARQ 3 ta 1001 9123 640" ∷ codes "ARQ 4 ta 1002 9123 640"
    ∷ codes "CFG 5 15" ∷ dial_plan default_technology []
    ++ codes "CFG 6 15" ∷ dial_plan default_technology []
    ++ codes "ARQ 7 nobody 1003 9123 0" ∷ codes "DRQ 8 ta 1001" ∷ codes "URQ 9 ta" ∷ [])
    (codes "RCF 1 ta gk-a" ∷ codes "RRJ 2 tb undefinedReason endpoints-full"
    ∷ codes "ACF 3 1001 ZONE gk-y 10.9.0.2:1719 640"
    ∷ codes "ARJ 4 1002 resourceUnavailable calls-full" ∷ codes "CCF 5 2"
    ∷ codes "CRJ 6 0 reloads-spent" ∷ codes "ARJ 7 1003 resourceUnavailable record-full"
    ∷ codes "DCF 8 1001" ∷ codes "URJ 9 ta undefinedReason record-full" ∷ [])

-- ---- trials
-- calls to other gatekeepers and between the two zones; one of them is released, and one is refused
-- for the total of gk-a
abbrev pub tried_calls : List (List ℕ)
tried_calls =
    codes "ARQ 5 ta 1001 9123 640" ∷ codes "ARQ 6 ta 1002 4085551234 1280"
    ∷ codes "ARQ 7 gb1 1003 9124 640" ∷ codes "DRQ 8 ta 1002" ∷ codes "ARQ 9 ta 1004 2#9123 1280"
    ∷ codes "ARQ 10 ta 1005 9125 1280" ∷ []

abbrev pub replies_to_calls : List (List ℕ)
replies_to_calls =
    codes "ACF 5 1001 ZONE gk-y 10.9.0.2:1719 640"
    ∷ codes "ACF 6 1002 GW gb1 10.0.2.1:1720 1280"
    ∷ codes "ACF 7 1003 ZONE gk-y 10.9.0.2:1719 640" ∷ codes "DCF 8 1002"
    ∷ codes "ACF 9 1004 ZONE gk-x 10.9.0.1:1719 1280"
    ∷ codes "ARJ 10 1005 requestDenied total gk-a" ∷ []

-- the same dial plan, in which 9 leads to gk-b
abbrev pub candidate : List (List ℕ)
candidate = plan_over (codes " zone prefix gk-b 9*" ∷ []) default_technology []

-- three workers, and none
abbrev pub TriedOnCalls : Type 0
TriedOnCalls = Writes stated
    (dial_plan default_technology []
    ++ after_endpoints (tried_calls ++ codes "TRY 11 3 14" ∷ candidate))
    (after_registered (replies_to_calls ++ codes "TCF 11 11"
    ∷ codes "number,digits,recorded,candidate,verdict"
    ∷ codes "5,9123,ZONE gk-y 10.9.0.2:1719,GW gb1 10.0.2.1:1720,changed"
    ∷ codes "6,4085551234,GW gb1 10.0.2.1:1720,GW gb1 10.0.2.1:1720,same"
    ∷ codes "7,9124,ZONE gk-y 10.9.0.2:1719,GW gb1 10.0.2.1:1720,changed"
    ∷ codes "9,2#9123,ZONE gk-x 10.9.0.1:1719,ZONE gk-x 10.9.0.1:1719,same"
    ∷ codes "10,9125,ZONE gk-y 10.9.0.2:1719,GW gb1 10.0.2.1:1720,changed"
    ∷ codes "peak,gk-a,1920,," ∷ codes "peak,gk-b,2560,," ∷ codes "peak,gk-x,1280,,"
    ∷ codes "peak,gk-y,0,," ∷ codes "count,5,2,3," ∷ []))

-- a call that came in and one that was admitted and answered, under the dial plan in force
abbrev pub TriedOnAnswers : Type 0
TriedOnAnswers = Writes stated
    (dial_plan default_technology []
    ++ after_endpoints (codes "ANS 5 gb1 2001 1280" ∷ codes "ANS 6 ta 2002 1281"
    ∷ codes "ARQ 7 ta 1001 4085551234 640" ∷ codes "ANS 8 gb1 1001 640" ∷ codes "DRQ 9 gb1 2001"
    ∷ codes "TRY 10 3 15" ∷ dial_plan default_technology []))
    (after_registered (codes "ACF 5 2001 GW gb1 10.0.2.1:1720 1280"
    ∷ codes "ARJ 6 2002 requestDenied session gk-a"
    ∷ codes "ACF 7 1001 GW gb1 10.0.2.1:1720 640" ∷ codes "ACF 8 1001 GW gb1 10.0.2.1:1720 640"
    ∷ codes "DCF 9 2001" ∷ codes "TCF 10 9" ∷ codes "number,digits,recorded,candidate,verdict"
    ∷ codes "5,,GW gb1 10.0.2.1:1720,GW gb1 10.0.2.1:1720,same"
    ∷ codes "6,,TERM ta 10.0.1.1:1720,TERM ta 10.0.1.1:1720,same"
    ∷ codes "7,4085551234,GW gb1 10.0.2.1:1720,GW gb1 10.0.2.1:1720,same"
    ∷ codes "peak,gk-a,640,," ∷ codes "peak,gk-b,1920,," ∷ codes "peak,gk-x,0,,"
    ∷ codes "peak,gk-y,0,," ∷ codes "count,3,3,0," ∷ []))

abbrev pub TriedByNone : Type 0
TriedByNone = Writes stated
    (dial_plan default_technology []
    ++ codes "TRY 1 0 14" ∷ candidate ++ codes "TRY 2 65 1" ∷ codes "zone" ∷ codes "TRY 3 64 1"
    ∷ codes "zone" ∷ [])
    (codes "TRJ 1 0 bad-workers" ∷ codes "TRJ 2 0 bad-workers" ∷ codes "TRJ 3 1 Missing" ∷ [])
