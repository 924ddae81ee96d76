-- The worked rows, computed.
use Rattle.std.proofs.Common.{refl}
use Rattle.std.specs.Fmt.{digits}
use Rattle.csv.specs.Writing.{escaped, fields_text, is_blank}
use Rattle.compiler.specs.Plan.{plan_with}
use Rattle.gk_commands.specs.Line.{command_of}
use Rattle.gk_commands.specs.Reading.{line_after}
use Rattle.rulings.specs.Routing.{route_of}
use Rattle.bandwidth.specs.Fits.{over_of}
use Rattle.rulings.specs.Ruling.{ruling_of}
use Rattle.rulings.specs.Step.{count_refusal, state_after, step}
use Rattle.decision_record.specs.History.{state_of}
use Rattle.gk_protocol.specs.Registrations.{registering_of}
use Rattle.gk_protocol.specs.Requests.{asking_of}
use Rattle.run_laws.specs.Output.{output_of}
use Rattle.run_laws.specs.Rows.{FirstRun, OpenCall, FullRecord, Stranger, Faults, ByPatternCostAndHopoff, PrefixAlone, GreatestPriority, PriorityZero, UnknownPrefix, AliasOrDefault, NoDefault, OtherAliases, LongDigits, LearnedUntilItLeaves, LearnedBeforeHopoff, NoneLearnedFromTerminals, LearnedUndeclared, FullTotal, SessionBeforeTotal, BetweenZones, ToRemoteZones, RaisedAndLowered, CountedInTargetZone, ByOwnerAlone, AnsweredCalls, AnswerAboveRemote, AnswerBetweenZones, AnsweredElsewhere, AnswersWithFullCounts, AnswerKeepsPlace, RoutedByNewLines, LimitedByNewLines, AnsweredAboveNewLines, WithoutSecondZone, FaultyReloads, SmallestLimits, TriedOnCalls, TriedOnAnswers, TriedByNone}

pub first_run : FirstRun
unfolding digits plan_with route_of command_of line_after over_of ruling_of count_refusal
    state_after step state_of asking_of registering_of output_of
first_run = refl

pub open_call : OpenCall
unfolding digits plan_with route_of command_of line_after over_of ruling_of count_refusal
    state_after step state_of asking_of registering_of output_of
open_call = refl

pub full_record : FullRecord
unfolding digits plan_with route_of command_of line_after over_of ruling_of count_refusal
    state_after step state_of asking_of registering_of output_of
full_record = refl

pub stranger : Stranger
unfolding digits plan_with route_of command_of line_after over_of ruling_of count_refusal
    state_after step state_of asking_of registering_of output_of
stranger = refl

pub faults : Faults
unfolding digits plan_with route_of command_of line_after over_of ruling_of count_refusal
    state_after step state_of asking_of registering_of output_of
faults = refl

pub by_pattern_cost_and_hopoff : ByPatternCostAndHopoff
unfolding digits plan_with route_of command_of line_after over_of ruling_of count_refusal
    state_after step state_of asking_of registering_of output_of
by_pattern_cost_and_hopoff = refl

pub prefix_alone : PrefixAlone
unfolding digits plan_with route_of command_of line_after over_of ruling_of count_refusal
    state_after step state_of asking_of registering_of output_of
prefix_alone = refl

pub greatest_priority : GreatestPriority
unfolding digits plan_with route_of command_of line_after over_of ruling_of count_refusal
    state_after step state_of asking_of registering_of output_of
greatest_priority = refl

pub priority_zero : PriorityZero
unfolding digits plan_with route_of command_of line_after over_of ruling_of count_refusal
    state_after step state_of asking_of registering_of output_of
priority_zero = refl

pub unknown_prefix : UnknownPrefix
unfolding digits plan_with route_of command_of line_after over_of ruling_of count_refusal
    state_after step state_of asking_of registering_of output_of
unknown_prefix = refl

pub alias_or_default : AliasOrDefault
unfolding digits plan_with route_of command_of line_after over_of ruling_of count_refusal
    state_after step state_of asking_of registering_of output_of
alias_or_default = refl

pub no_default : NoDefault
unfolding digits plan_with route_of command_of line_after over_of ruling_of count_refusal
    state_after step state_of asking_of registering_of output_of
no_default = refl

pub other_aliases : OtherAliases
unfolding digits plan_with route_of command_of line_after over_of ruling_of count_refusal
    state_after step state_of asking_of registering_of output_of
other_aliases = refl

pub long_digits : LongDigits
unfolding digits plan_with route_of command_of line_after over_of ruling_of count_refusal
    state_after step state_of asking_of registering_of output_of
long_digits = refl

pub learned_until_it_leaves : LearnedUntilItLeaves
unfolding digits plan_with route_of command_of line_after over_of ruling_of count_refusal
    state_after step state_of asking_of registering_of output_of
learned_until_it_leaves = refl

pub learned_before_hopoff : LearnedBeforeHopoff
unfolding digits plan_with route_of command_of line_after over_of ruling_of count_refusal
    state_after step state_of asking_of registering_of output_of
learned_before_hopoff = refl

pub none_learned_from_terminals : NoneLearnedFromTerminals
unfolding digits plan_with route_of command_of line_after over_of ruling_of count_refusal
    state_after step state_of asking_of registering_of output_of
none_learned_from_terminals = refl

pub learned_undeclared : LearnedUndeclared
unfolding digits plan_with route_of command_of line_after over_of ruling_of count_refusal
    state_after step state_of asking_of registering_of output_of
learned_undeclared = refl

pub full_total : FullTotal
unfolding digits plan_with route_of command_of line_after over_of ruling_of count_refusal
    state_after step state_of asking_of registering_of output_of
full_total = refl

pub session_before_total : SessionBeforeTotal
unfolding digits plan_with route_of command_of line_after over_of ruling_of count_refusal
    state_after step state_of asking_of registering_of output_of
session_before_total = refl

pub between_zones : BetweenZones
unfolding digits plan_with route_of command_of line_after over_of ruling_of count_refusal
    state_after step state_of asking_of registering_of output_of
between_zones = refl

pub to_remote_zones : ToRemoteZones
unfolding digits plan_with route_of command_of line_after over_of ruling_of count_refusal
    state_after step state_of asking_of registering_of output_of
to_remote_zones = refl

pub raised_and_lowered : RaisedAndLowered
unfolding digits plan_with route_of command_of line_after over_of ruling_of count_refusal
    state_after step state_of asking_of registering_of output_of
raised_and_lowered = refl

pub counted_in_target_zone : CountedInTargetZone
unfolding digits plan_with route_of command_of line_after over_of ruling_of count_refusal
    state_after step state_of asking_of registering_of output_of
counted_in_target_zone = refl

pub by_owner_alone : ByOwnerAlone
unfolding digits plan_with route_of command_of line_after over_of ruling_of count_refusal
    state_after step state_of asking_of registering_of output_of
by_owner_alone = refl

pub answered_calls : AnsweredCalls
unfolding digits plan_with route_of command_of line_after over_of ruling_of count_refusal
    state_after step state_of asking_of registering_of output_of
answered_calls = refl

pub answer_above_remote : AnswerAboveRemote
unfolding digits plan_with route_of command_of line_after over_of ruling_of count_refusal
    state_after step state_of asking_of registering_of output_of
answer_above_remote = refl

pub answer_between_zones : AnswerBetweenZones
unfolding digits plan_with route_of command_of line_after over_of ruling_of count_refusal
    state_after step state_of asking_of registering_of output_of
answer_between_zones = refl

pub answered_elsewhere : AnsweredElsewhere
unfolding digits plan_with route_of command_of line_after over_of ruling_of count_refusal
    state_after step state_of asking_of registering_of output_of
answered_elsewhere = refl

pub answers_with_full_counts : AnswersWithFullCounts
unfolding digits plan_with route_of command_of line_after over_of ruling_of count_refusal
    state_after step state_of asking_of registering_of output_of
answers_with_full_counts = refl

pub answer_keeps_place : AnswerKeepsPlace
unfolding digits plan_with route_of command_of line_after over_of ruling_of count_refusal
    state_after step state_of asking_of registering_of output_of
answer_keeps_place = refl

pub routed_by_new_lines : RoutedByNewLines
unfolding digits plan_with route_of command_of line_after over_of ruling_of count_refusal
    state_after step state_of asking_of registering_of output_of
routed_by_new_lines = refl

pub limited_by_new_lines : LimitedByNewLines
unfolding digits plan_with route_of command_of line_after over_of ruling_of count_refusal
    state_after step state_of asking_of registering_of output_of
limited_by_new_lines = refl

pub answered_above_new_lines : AnsweredAboveNewLines
unfolding digits plan_with route_of command_of line_after over_of ruling_of count_refusal
    state_after step state_of asking_of registering_of output_of
answered_above_new_lines = refl

pub without_second_zone : WithoutSecondZone
unfolding digits plan_with route_of command_of line_after over_of ruling_of count_refusal
    state_after step state_of asking_of registering_of output_of
without_second_zone = refl

pub faulty_reloads : FaultyReloads
unfolding digits plan_with route_of command_of line_after over_of ruling_of count_refusal
    state_after step state_of asking_of registering_of output_of
faulty_reloads = refl

pub smallest_limits : SmallestLimits
unfolding digits plan_with route_of command_of line_after over_of ruling_of count_refusal
    state_after step state_of asking_of registering_of output_of
smallest_limits = refl

pub tried_on_calls : TriedOnCalls
unfolding digits plan_with route_of command_of line_after over_of ruling_of count_refusal
    state_after step state_of asking_of registering_of output_of escaped fields_text is_blank
tried_on_calls = refl

pub tried_on_answers : TriedOnAnswers
unfolding digits plan_with route_of command_of line_after over_of ruling_of count_refusal
    state_after step state_of asking_of registering_of output_of escaped fields_text is_blank
tried_on_answers = refl

pub tried_by_none : TriedByNone
unfolding digits plan_with route_of command_of line_after over_of ruling_of count_refusal
    state_after step state_of asking_of registering_of output_of escaped fields_text is_blank
tried_by_none = refl
