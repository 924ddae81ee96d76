use Rattle.std.proofs.Common.{◌==◌, arith}
use Rattle.gk_terms.proofs.FeedLemmas.{first_of_none, first_of_some}
use Rattle.gk_terms.proofs.text_lines.bytes_before_feed.Goals as goal

pub returns-in-Some-clause-value : goal.returns-in-Some-clause-value
returns-in-Some-clause-value c =
    let found = c.in-Some.ensures in
    first_of_some (λ b. b == 10) c.args.text.now c.in-Some.place found.0.high
    (λ j below. found.0.before j (omega arith) below) found.1

pub returns-in-None-clause-value : goal.returns-in-None-clause-value
returns-in-None-clause-value c =
    first_of_none (λ b. b == 10) c.args.text.now (λ k within. c.in-None.ensures k (omega arith)
    within)
