use Rattle.run_laws.proofs.Rows.{first_run, open_call, full_record, stranger, faults, by_pattern_cost_and_hopoff, prefix_alone, greatest_priority, priority_zero, unknown_prefix, alias_or_default, no_default, other_aliases, long_digits, learned_until_it_leaves, learned_before_hopoff, none_learned_from_terminals, learned_undeclared, full_total, session_before_total, between_zones, to_remote_zones, raised_and_lowered, counted_in_target_zone, by_owner_alone, answered_calls, answer_above_remote, answer_between_zones, answered_elsewhere, answers_with_full_counts, answer_keeps_place, routed_by_new_lines, limited_by_new_lines, answered_above_new_lines, without_second_zone, faulty_reloads, smallest_limits, tried_on_calls, tried_on_answers, tried_by_none}
use Rattle.std.proofs.Common.{refl}
use Rattle.run_laws.proofs.laws.worked_rows.Goals as goal

pub returns : goal.returns
returns c = record {
  limits = refl;
  first_run = first_run;
  open_call = open_call;
  full_record = full_record;
  stranger = stranger;
  faults = faults;
  by_pattern = by_pattern_cost_and_hopoff;
  prefix_alone = prefix_alone;
  greatest = greatest_priority;
  priority_zero = priority_zero;
  unknown_prefix = unknown_prefix;
  alias_or_default = alias_or_default;
  no_default = no_default;
  other_aliases = other_aliases;
  long_digits = long_digits;
  learned_until_it_leaves = learned_until_it_leaves;
  learned_before_hopoff = learned_before_hopoff;
  none_learned_from_terminals = none_learned_from_terminals;
  learned_undeclared = learned_undeclared;
  full_total = full_total;
  session_before_total = session_before_total;
  between_zones = between_zones;
  to_remote_zones = to_remote_zones;
  raised_and_lowered = raised_and_lowered;
  counted_in_target_zone = counted_in_target_zone;
  by_owner_alone = by_owner_alone;
  answered_calls = answered_calls;
  answer_above_remote = answer_above_remote;
  answer_between_zones = answer_between_zones;
  answered_elsewhere = answered_elsewhere;
  answers_with_full_counts = answers_with_full_counts;
  answer_keeps_place = answer_keeps_place;
  routed_by_new_lines = routed_by_new_lines;
  limited_by_new_lines = limited_by_new_lines;
  answered_above_new_lines = answered_above_new_lines;
  without_second_zone = without_second_zone;
  faulty_reloads = faulty_reloads;
  smallest_limits = smallest_limits;
  tried_on_calls = tried_on_calls;
  tried_on_answers = tried_on_answers;
  tried_by_none = tried_by_none;
}
