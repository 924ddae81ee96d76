use Rattle.std.proofs.Common.{◌≡◌, ◌<◌, ◌≤◌, length, take, Some, None, sym, ap, subst, ◌∙◌, arith, rules}
use Rattle.std.proofs.lemmas.Bool.Decides.{nat_tests}
use Rattle.std.specs.Char.{is_ascii_digit}
use Rattle.std.specs.List.{prefix_len}
use Rattle.gk_terms.specs.Spelling.{IsVisible}
use Rattle.digit_patterns.specs.Pattern.{star_of, is_dot}
use Rattle.digit_patterns.specs.PatternParts.{IsPattern}
use Rattle.digit_patterns.proofs.Parsing.{others_of, ending_of, no_ending, no_count, is_read, IsPattern-read, IsVisible-front, parts-read}
use Rattle.digit_patterns.proofs.patterns.Pattern.parse.Goals as goal
use Rattle.digit_patterns.proofs.patterns.Pattern.parse.Goals.{then-is_empty-via-then-is_empty, then-is_empty-via-else-is_empty+then-text-gt-MOST_DIALLED}

-- the ending cannot be read
pub returns-in_default : goal.returns-in_default
returns-in_default c =
    let unread : star_of (ending_of c.args.text.now) ≡ None = cc (
      c.in_default.is,
      c.star_in.ensures,
      c.split_at.ensures.back,
      c.split_at-2.ensures.back,
      c.digits_in_front.ensures.counted,
      c.dots_in_front.ensures.counted,
    ) in
    sym (no_ending c.args.text.now unread)

-- the text is empty or too long
pub returns-then-is_empty : goal.returns-then-is_empty
returns-then-is_empty c =
    let text = c.args.text.now in
    let read : star_of (ending_of text) ≡ Some c.in-Some.star = cc (
      c.in-Some.is,
      c.star_in.ensures,
      c.split_at.ensures.back,
      c.split_at-2.ensures.back,
      c.digits_in_front.ensures.counted,
      c.dots_in_front.ensures.counted,
    ) in
    let outside : 1 ≤ length text → 32 < length text =
    λ some. elim c.then-is_empty.branch [
      | then-is_empty-via-then-is_empty w ↦ grind
          (arith, nat_tests)
      | then-is_empty-via-else-is_empty+then-text-gt-MOST_DIALLED w ↦ omega
          arith
    ] in
    sym (no_count text c.in-Some.star read outside)

pub new-requires : goal.new-requires
new-requires c =
    let text = c.args.text.now in
    let same : take (prefix_len is_ascii_digit text) text ≡ c.split_at.result.0.now = cc
    (c.split_at.ensures.front, c.digits_in_front.ensures.counted) in
    let visible : IsVisible c.split_at.result.0.now = subst IsVisible same (IsVisible-front text) in
    (search rules, (grind arith, (search rules, visible)))

pub invariant_of-result : goal.invariant_of-result
invariant_of-result c =
    let text = c.args.text.now in
    let read : star_of (ending_of text) ≡ Some c.in-Some.star = cc (
      c.in-Some.is,
      c.star_in.ensures,
      c.split_at.ensures.back,
      c.split_at-2.ensures.back,
      c.digits_in_front.ensures.counted,
      c.dots_in_front.ensures.counted,
    ) in
    let some : 1 ≤ length text = grind (arith, nat_tests) in
    let literals : c.new.result ≡ take (prefix_len is_ascii_digit text) text = cc
    (c.new.ensures, c.split_at.ensures.front, c.digits_in_front.ensures.counted) in
    let dots : length c.split_at-2.result.0.now ≡ prefix_len is_dot (others_of text) = cc (
      c.split_at-2.ensures.front_len,
      c.dots_in_front.ensures.counted,
      c.split_at.ensures.back,
      c.digits_in_front.ensures.counted,
    ) in
    subst IsPattern (parts-read text c.new.result (length c.split_at-2.result.0.now) c.in-Some.star
    literals dots) (IsPattern-read text c.in-Some.star read some (omega arith))

pub returns : goal.returns
returns c =
    let text = c.args.text.now in
    let read : star_of (ending_of text) ≡ Some c.in-Some.star = cc (
      c.in-Some.is,
      c.star_in.ensures,
      c.split_at.ensures.back,
      c.split_at-2.ensures.back,
      c.digits_in_front.ensures.counted,
      c.dots_in_front.ensures.counted,
    ) in
    let some : 1 ≤ length text = grind (arith, nat_tests) in
    let literals : c.new.result ≡ take (prefix_len is_ascii_digit text) text = cc
    (c.new.ensures, c.split_at.ensures.front, c.digits_in_front.ensures.counted) in
    let dots : length c.split_at-2.result.0.now ≡ prefix_len is_dot (others_of text) = cc (
      c.split_at-2.ensures.front_len,
      c.dots_in_front.ensures.counted,
      c.split_at.ensures.back,
      c.digits_in_front.ensures.counted,
    ) in
    let same = parts-read text c.new.result (length c.split_at-2.result.0.now) c.in-Some.star
    literals dots in
    sym (is_read text c.in-Some.star read some (omega arith) ∙ ap Some same)
